-- A sound folder whose history has one more entry.
use Rattle.std.proofs.Common.{◌≡◌, ℕ, ◌<◌, ◌≤◌, false, if◌then◌else◌, IfSome, List, [], ◌∷◌, ◌++◌, Option, Some, None, ap, sym, ◌∙◌, subst, append-nil, arith}
use Rattle.vb_hist.specs.declared.entry.Entry.{Entry}
use Rattle.vb_hist.specs.declared.entry.Stage.TheVariants.{Written}
use Rattle.vb_hist.specs.Histories.{folder_after, HasNoCut, IsFrozenAt, is_cut, surviving, tree_after_entry, up_to_epoch}
use Rattle.vb_hist.specs.Legal.{Opening, IsLegal, MayFollow, marks_after, marks_of, folder_of, folder_at}
use Rattle.vb_hist.proofs.Survivors.{surviving-whole}
use Rattle.vb_hist.proofs.Growth.{legal-push, no_cut-goes_back}
use Rattle.vb_hist.proofs.Fronts.{up_to_epoch-append}
use Rattle.vb_hist.proofs.Pushed.{all-push, marks_of-push, folder_of-push}
use Rattle.vb_hist.proofs.Ordered.{ordered, IsOrdered}
use Rattle.vb_hist.proofs.Marked.{IsPast}
use Rattle.vb_hist.proofs.Newer.{IsNewer}
use Rattle.vb_hist.proofs.Earlier.{bounds-frozen}
use Rattle.vb_journal.specs.declared.commit_stage.CommitStep.{CommitStep}
use Rattle.vb_event.specs.Core.{Core, is_busy}
use Rattle.vb_event.specs.Sound.{HasSoundHistory, IsCoherent, TellsMarks}

-- the history with one more entry
abbrev pub longer : Core → Entry → List Entry
longer core entry = core.history ++ entry ∷ []

-- what survives of a sound history is all of it
pub all-survives : (o : Opening) (core : Core) → HasSoundHistory o core → surviving o.start core.history ≡ core.history
all-survives o core s = surviving-whole o.start core.history s.whole

pub line-ordered : (o : Opening) (core : Core) → HasSoundHistory o core → IsOrdered o (surviving o.start core.history)
line-ordered o core s = ordered o core.history s.legal

-- the last epoch is none below the start
pub from-start : (o : Opening) (core : Core) → HasSoundHistory o core → o.start ≤ core.epoch
from-start o core s = (let from = (line-ordered o core s).sound.from in let last = s.marks.last in omega arith)

-- each epoch from the start to the last one is frozen
pub frozen-at : (o : Opening) (core : Core) (epoch : ℕ) → HasSoundHistory o core → o.start ≤ epoch → epoch ≤ core.epoch → IsFrozenAt o.start epoch core.history
frozen-at o core epoch s low high =
    let line = line-ordered o core s in
    let last = s.marks.last in
    let told = line.last in
    subst (IsFrozenAt o.start epoch) (all-survives o core s) (bounds-frozen o.start epoch (surviving o.start core.history) line.order low (omega arith))

pub last-frozen : (o : Opening) (core : Core) → HasSoundHistory o core → IsFrozenAt o.start core.epoch core.history
last-frozen o core s = frozen-at o core core.epoch s (from-start o core s) (omega arith)

-- a doubt is of an epoch that is frozen
pub doubt-frozen : (o : Opening) (core : Core) (epoch : ℕ) → HasSoundHistory o core → core.unsure ≡ Some epoch → IsFrozenAt o.start epoch core.history
doubt-frozen o core epoch s is =
    let line = line-ordered o core s in
    let m = marks_of o core.history in
    let told : m.doubt ≡ Some epoch = subst (λ u. IfSome u (λ e. m.doubt ≡ Some e)) is s.marks.doubt in
    let past = (subst (λ u. IfSome u (λ e. IsPast o.start m e × IsNewer o.start o.published m.published e)) told line.sound.doubt).0 in
    let last = s.marks.last in
    frozen-at o core epoch s past.0 (omega (arith, past.1))

-- the folder at an epoch that is frozen stays while a history grows
pub folder_at-grows : (o : Opening) (history later : List Entry) (epoch : ℕ) → HasNoCut history → HasNoCut (history ++ later) → IsFrozenAt o.start epoch history → folder_at o (history ++ later) epoch ≡ folder_at o history epoch
folder_at-grows o history later epoch whole longer_whole frozen =
    ap (λ l. folder_after o.base (up_to_epoch o.start epoch l)) (surviving-whole o.start (history ++ later) longer_whole)
    ∙ (ap (folder_after o.base) (up_to_epoch-append o.start epoch history later frozen)
    ∙ ap (λ l. folder_after o.base (up_to_epoch o.start epoch l)) (sym (surviving-whole o.start history whole)))

-- what one more entry makes of the history of a sound folder
pub record IsNoted (o : Opening) (core : Core) (entry : Entry) : Type 0 where
  pub legal : IsLegal o (longer core entry)
  pub whole : HasNoCut (longer core entry)
  pub marks : marks_of o (longer core entry) ≡ marks_after (marks_of o core.history) entry
  pub folder : folder_of o (longer core entry) ≡ tree_after_entry core.active entry
  pub stays : folder_at o (longer core entry) core.epoch ≡ folder_at o core.history core.epoch

-- an entry that may follow what the folder tells may follow its history
pub noted : (o : Opening) (core : Core) (entry : Entry) → HasSoundHistory o core → is_cut entry ≡ false → MayFollow (marks_of o core.history) core.active entry → IsNoted o core entry
noted o core entry s no_cut may =
    let whole = all-push (λ e. is_cut e ≡ false) core.history entry s.whole no_cut in record {
      legal = legal-push o [] core.history entry s.legal (subst (λ t. MayFollow (marks_of o core.history) t entry) s.active may)
          (no_cut-goes_back o.start (surviving o.start core.history) entry no_cut);
      whole = whole;
      marks = marks_of-push o core.history entry no_cut;
      folder = folder_of-push o core.history entry no_cut ∙ ap (λ t. tree_after_entry t entry) (sym s.active);
      stays = folder_at-grows o core.history (entry ∷ []) core.epoch s.whole whole (last-frozen o core s);
    }

-- a folder with another history
abbrev pub with_history : Core → List Entry → Core
with_history core history = record core { history = history }

-- a folder is sound after an entry that leaves its last epoch
pub still-sound : (o : Opening) (core next : Core) (entry : Entry) → HasSoundHistory o core → is_cut entry ≡ false → MayFollow (marks_of o core.history) core.active entry
    → next.epoch ≡ core.epoch
    → TellsMarks (with_history next (longer core entry)) (marks_after (marks_of o core.history) entry)
    → next.active ≡ tree_after_entry core.active entry
    → next.frozen ≡ (if is_busy next then Some (folder_at o core.history core.epoch) else None)
    → (next.stage ≡ Written → o.start < next.epoch)
    → IsCoherent (with_history next (longer core entry))
    → HasSoundHistory o (with_history next (longer core entry))
still-sound o core next entry s no_cut may last marks tree kept written order =
    let n = noted o core entry s no_cut may in record {
      legal = n.legal;
      whole = n.whole;
      active = tree ∙ sym n.folder;
      frozen = kept ∙ ap (λ t. if is_busy next then Some t else None) (sym n.stays ∙ ap (folder_at o (longer core entry)) (sym last));
      marks = subst (TellsMarks (with_history next (longer core entry))) (sym n.marks) marks;
      written = written;
      order = order;
    }

-- a folder is sound after nothing was pushed, whatever answers are left, whatever is in doubt, and whatever was sent, where they
-- hang together
pub quiet-sound : (o : Opening) (core : Core) (left : List CommitStep) (unsure : Option ℕ) (sent : ℕ) → HasSoundHistory o core
    → IfSome unsure (λ epoch. (marks_of o core.history).doubt ≡ Some epoch)
    → IsCoherent (record core { left = left; unsure = unsure; sent = sent })
    → HasSoundHistory o (record core { history = core.history ++ []; left = left; unsure = unsure; sent = sent })
quiet-sound o core left unsure sent s doubt order =
    subst (λ h. HasSoundHistory o (record core { history = h; left = left; unsure = unsure; sent = sent })) (sym (append-nil core.history)) now where
      marks : TellsMarks (record core { left = left; unsure = unsure; sent = sent }) (marks_of o core.history)
      marks = (let t = s.marks in record { last = t.last; standing = t.standing; stage = t.stage; published = t.published; limits = t.limits; doubt = doubt })

      now : HasSoundHistory o (record core { history = core.history; left = left; unsure = unsure; sent = sent })
      now = record { legal = s.legal; whole = s.whole; active = s.active; frozen = s.frozen; marks = marks; written = s.written; order = order }

-- nothing was pushed
pub none-pushed : (core : Core) → record core { history = core.history ++ [] } ≡ core
none-pushed core = ap (with_history core) (append-nil core.history)

pub still-same : (o : Opening) (core : Core) → HasSoundHistory o core → HasSoundHistory o (record core { history = core.history ++ [] })
still-same o core s = subst (HasSoundHistory o) (sym (none-pushed core)) s
