-- Legal histories: from an opening, which entry may follow which.
use Rattle.std.specs.Prelude.{◌≡◌, ◌≢◌, ℕ, ◌+◌, ◌<◌, ◌⊎◌, nat_lt, ◌==◌, if◌then◌else◌, IsSome, List, [], ◌∷◌, Option, Some, None}
use Rattle.std.specs.List.{fold}
use Rattle.vb_tree.specs.declared.tree.Limits.{Limits}
use Rattle.vb_tree.specs.declared.tree.TreeEntry.{TreeEntry}
use Rattle.vb_tree.specs.Operations.{reply_of}
use Rattle.vb_hist.specs.declared.entry.Entry.{Entry}
use Rattle.vb_hist.specs.declared.entry.Entry.TheVariants.{Call, Freeze, FreezeBusy, Commit, Rest, Publish, Doubt, Dropped, End, Cut}
use Rattle.vb_hist.specs.declared.entry.Stage.TheVariants.{Rested, Written, Committed}
use Rattle.vb_hist.specs.declared.marks.Marks.{Marks}
use Rattle.vb_hist.specs.Histories.{IsFrozenAt, folder_after, surviving, survivors_after, up_to_epoch}

-- where a history begins: the limits, the tree and its epoch, what the cloud shows, and the devices' counts of faults
pub record Opening : Type 0 where
  pub limits : Limits
  pub base : List TreeEntry
  pub start : ℕ
  pub published : ℕ
  pub published_tree : List TreeEntry
  pub disk_faults : ℕ
  pub link_faults : ℕ

-- the epoch where it is above the published one, since its view then waits to be published
abbrev pub waiting_view : ℕ → ℕ → Option ℕ
waiting_view epoch published = if nat_lt published epoch then Some epoch else None

-- the marks before any entry
abbrev pub marks_at_start : Opening → Marks
marks_at_start o = record {
  last = o.start;
  standing = waiting_view o.start o.published;
  stage = Rested;
  doubt = None;
  published = o.published;
  limits = o.limits;
}

-- what stands once this epoch is published
abbrev pub standing_without : Option ℕ → ℕ → Option ℕ
standing_without None epoch = None
standing_without (Some standing) epoch = if standing == epoch then None else Some standing

-- the marks after one more entry
abbrev pub marks_after : Marks → Entry → Marks
marks_after m (Call writer op reply) = m
marks_after m (Freeze by epoch) = record m { last = epoch; standing = Some epoch; stage = Written }
marks_after m (FreezeBusy writer epoch) = m
marks_after m (Commit epoch) = record m { stage = Committed }
marks_after m (Rest epoch) = record m { stage = Rested }
marks_after m (Doubt epoch) = record m { doubt = Some epoch }
marks_after m (Publish epoch) = record m { published = epoch; doubt = None; standing = standing_without m.standing epoch }
marks_after m (Dropped epoch) = record m { standing = None }
marks_after m (End writer) = m
marks_after m (Cut epoch limits) =
    record m { last = epoch; stage = Rested; standing = waiting_view epoch m.published; limits = limits }

-- whether an entry may follow these marks and this folder
abbrev pub MayFollow : Marks → List TreeEntry → Entry → Type 0
MayFollow m folder (Call writer op reply) = reply ≡ reply_of m.limits folder op
MayFollow m folder (Freeze by epoch) = (m.standing ≡ None) × (m.stage ≡ Rested) × (epoch ≡ m.last + 1)
MayFollow m folder (FreezeBusy writer epoch) = (IsSome m.standing ⊎ (m.stage ≢ Rested)) × (epoch ≡ m.last)
MayFollow m folder (Commit epoch) = (m.stage ≡ Written) × (epoch ≡ m.last)
MayFollow m folder (Rest epoch) = (m.stage ≡ Committed) × (epoch ≡ m.last)
MayFollow m folder (Doubt epoch) = (m.standing ≡ Some epoch) × (m.stage ≢ Written)
MayFollow m folder (Publish epoch) =
    (m.published < epoch) × (((m.standing ≡ Some epoch) × (m.stage ≢ Written)) ⊎ (m.doubt ≡ Some epoch))
MayFollow m folder (Dropped epoch) = m.standing ≡ Some epoch
MayFollow m folder (End writer) = Unit {0}
MayFollow m folder (Cut epoch limits) =
    (epoch ≡ m.last) ⊎ (((epoch + 1 ≡ m.last) × (m.stage ≡ Written)) ⊎ ((epoch ≡ m.published) ⊎ (m.doubt ≡ Some epoch)))

-- a cut goes back to the start, or to an epoch whose freeze survives
abbrev pub GoesBackToFreeze : ℕ → List Entry → Entry → Type 0
GoesBackToFreeze start line (Cut epoch limits) = IsFrozenAt start epoch line
GoesBackToFreeze start line other = Unit {0}

-- the marks after what survives of a history
abbrev pub marks_of : Opening → List Entry → Marks
marks_of o history = fold marks_after (marks_at_start o) (surviving o.start history)

-- the folder after what survives of a history
abbrev pub folder_of : Opening → List Entry → List TreeEntry
folder_of o history = folder_after o.base (surviving o.start history)

-- the folder as it was at an epoch of a history
abbrev pub folder_at : Opening → List Entry → ℕ → List TreeEntry
folder_at o history epoch = folder_after o.base (up_to_epoch o.start epoch (surviving o.start history))

-- each of the entries may follow what survives of those before it, and a cut goes back to a freeze that is there
abbrev pub AreLegalAfter : Opening → List Entry → List Entry → Type 0
AreLegalAfter o line [] = Unit {0}
AreLegalAfter o line (entry ∷ entries) =
    MayFollow (fold marks_after (marks_at_start o) line) (folder_after o.base line) entry
    × GoesBackToFreeze o.start line entry
    × AreLegalAfter o (survivors_after o.start line entry) entries

-- each entry may follow the marks and the folder of the entries before it, and each cut goes back to a freeze that survives
abbrev pub IsLegal : Opening → List Entry → Type 0
IsLegal o history = AreLegalAfter o [] history
