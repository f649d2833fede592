-- What a report tells of a folder, and so of the run.
use Rattle.std.proofs.Common.{◌≡◌, ℕ, inl, inr, ⊎_elim, Bool, false, List, [], ◌++◌, append_assoc, refl, sym, Result, Ok, Err, ap, ◌∙◌}
use Rattle.std.specs.Prelude.{codes, map}
use mathlib.Core.List.{IsPrefix}
use Rattle.vb_hist.specs.declared.entry.Entry.{Entry}
use Rattle.vb_cloud.specs.Published.{PublishedView}
use Rattle.vb_hist.specs.Quiet.{is_unfrozen, last_epoch_of}
use Rattle.vb_report.specs.Text.{history_text, listed_of, listing_text, text_of, view_text}
use Rattle.vb_tree.specs.declared.tree.TreeEntry.{TreeEntry}
use Rattle.vb_report.specs.Reports.{with_shortage, with_text, AddsHistory, ReportView}
use Rattle.vb_program.specs.Playing.{cloud_in, history_in, IsQuiet, MemoryFolder}
use Rattle.vb_program.specs.declared.ending.Ending.{Ending}
use Rattle.vb_program.specs.declared.ending.Ending.TheVariants.{Whole, Words, Source, Wrong, NotYet, Memory}
use Rattle.vb_program.specs.Run.{TellsFolder, TellsHistory, view_after}
use Rattle.vb_program.proofs.Fronts.{front-same, front-trans}

-- the lines of a history, as far as the report found memory
pub tells-lines : {A E : Type 0} (history : List Entry) (view : PublishedView) (before after : ReportView) (told : Result A E) → AddsHistory before history told after → TellsFolder history view before Memory after
tells-lines history view before after (Ok done) h = inl h
tells-lines history view before after (Err error) h = inr h

-- what is told of a folder that was played on is told of the run
pub tells-run : (made run : List Entry) (before after : ReportView) (ending : Ending) → before.text ≡ [] → IsPrefix made run → (ending ≡ Whole → made ≡ run) → TellsFolder made (view_after made) before ending after → TellsHistory run ending after.text
tells-run made run before after Whole none front whole told =
    ap (λ r. r.text) told ∙ ap (λ t. t ++ text_of made (view_after made)) none ∙ ap (λ h. text_of h (view_after h)) (whole refl)
tells-run made run before after Memory none front whole told =
    ⊎_elim (λ all. (made, front, ap (λ r. r.text) all ∙ ap (λ t. t ++ history_text made) none))
    (λ some. (some.0, front-trans some.0 made run some.1 front, ap (λ r. r.text) some.2 ∙ ap (λ t. t ++ history_text some.0) none)) told
tells-run made run before after Words none front whole told = absurd told
tells-run made run before after Source none front whole told = absurd told
tells-run made run before after (Wrong line kind) none front whole told = absurd told
tells-run made run before after (NotYet line) none front whole told = absurd told

-- ---- the listing

-- what is listed of a quiet folder's cloud is the view after its history
pub shown-text : (folder : MemoryFolder) → IsQuiet folder → is_unfrozen (history_in folder) ≡ false
    → listing_text (codes "view ") (cloud_in folder).epoch (map listed_of (cloud_in folder).tree) ≡ view_text (view_after (history_in folder))
shown-text folder q frozen =
    ap (λ (n : ℕ). listing_text (codes "view ") n (map listed_of (cloud_in folder).tree)) (q.shown_epoch ∙ q.last)
    ∙ ap (λ (tree : List TreeEntry). listing_text (codes "view ") (last_epoch_of (history_in folder)) (map listed_of tree)) (q.shown frozen ∙ q.active)

-- with the lines of its history that is all that is told
pub tells-whole : (history : List Entry) (view : PublishedView) (before mid after : ReportView) → mid ≡ with_text before (history_text history) → after ≡ with_text mid (view_text view) → TellsFolder history view before Whole after
tells-whole history view before mid after lines listing =
    listing ∙ ap (λ (r : ReportView). with_text r (view_text view)) lines
    ∙ ap (λ (text : List ℕ). record before { text = text }) (append_assoc before.text (history_text history) (view_text view))

-- where the listing found no memory the lines stay
pub tells-unlisted : (history : List Entry) (view : PublishedView) (before mid after : ReportView) → mid ≡ with_text before (history_text history) → after ≡ with_shortage mid → TellsFolder history view before Memory after
tells-unlisted history view before mid after lines short = inr (history, front-same history, short ∙ ap with_shortage lines)
