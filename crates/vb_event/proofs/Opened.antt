-- A folder is sound when it is opened.
use Rattle.std.proofs.Common.{◌≡◌, ℕ, ◌<◌, ◌≤◌, ◌==◌, inl, Bool, true, false, is_some, not, ◌||◌, if◌then◌else◌, List, [], Some, None, refl, ap, sym, ◌∙◌, arith}
use Rattle.vb_hist.specs.declared.entry.Entry.{Entry}
use Rattle.vb_hist.specs.declared.entry.Stage.TheVariants.{Rested}
use Rattle.vb_hist.specs.Histories.{folder_after, up_to_epoch}
use Rattle.vb_hist.specs.Legal.{Opening, folder_at, waiting_view}
use Rattle.vb_hist.proofs.Marked.{waiting-above}
use Rattle.vb_cloud.specs.Machine.{CloudState}
use Rattle.vb_event.specs.Core.{is_rested}
use Rattle.vb_event.specs.Sound.{HasSoundHistory, HasSoundCloud, Recovers, core_at_start, published_tree_at}

-- nothing comes up to the start
none-before : (start : ℕ) → up_to_epoch start start [] ≡ []
none-before start = at (start == start)
  where
    none : List Entry
    none = []

    at : (b : Bool) → (if b then none else none) ≡ none
    at true = refl
    at false = refl

pub base-there : (o : Opening) → folder_at o [] o.start ≡ o.base
base-there o = ap (folder_after o.base) (none-before o.start)

pub opened-sound : (o : Opening) (sequence : ℕ) → o.published ≤ o.start → HasSoundHistory o (core_at_start o sequence)
opened-sound o sequence ahead = record {
  legal = tt;
  whole = tt;
  active = refl;
  frozen = ap (λ t. if is_some (waiting_view o.start o.published) || not (is_rested Rested) then Some t else None) (sym (base-there o));
  marks = record { last = refl; standing = refl; stage = refl; published = refl; limits = refl; doubt = tt };
  written = λ w. cc;
  order = record {
    view_is_last = waiting-above o.start o.published (λ e. (e ≡ o.start) × (o.published < e)) (λ above. (refl, above));
    published_is_past = ahead;
    doubt_is_newer = tt;
    left = tt;
    sent = λ some. absurd (omega arith);
  };
}

pub opened-shown : (o : Opening) (sequence : ℕ) (k : CloudState) → k.epoch ≡ o.published → k.tree ≡ o.published_tree → HasSoundCloud o (core_at_start o sequence) k
opened-shown o sequence k epoch tree = record {
  epoch = inl epoch;
  tree = tree ∙ sym (ap (published_tree_at o []) epoch ∙ ap (λ b. if b then o.published_tree else folder_at o [] o.published) (same o.published));
  draft = λ frozen is. inl refl;
}
  where
    same : (n : ℕ) → (n == n) ≡ true
    same n = grind (arith)

pub opened-recovers : (o : Opening) (sequence : ℕ) → Recovers o (core_at_start o sequence) o.start o.base
opened-recovers o sequence = record { may = inl refl; is_folder = sym (base-there o) }
