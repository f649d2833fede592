-- Histories: the folder after one, and what survives of it where something was cut.
use Rattle.std.specs.Prelude.{◌≡◌, ℕ, Bool, true, false, not, ◌||◌, ◌==◌, if◌then◌else◌, IsTrue, List, [], ◌∷◌, ◌++◌, length, drop}
use Rattle.std.specs.List.{fold, filter, list_any, AllByRecursion}
use Rattle.vb_tree.specs.declared.tree.TreeEntry.{TreeEntry}
use Rattle.vb_tree.specs.Operations.{tree_after_reply}
use Rattle.vb_hist.specs.declared.entry.Entry.{Entry}
use Rattle.vb_hist.specs.declared.entry.Entry.TheVariants.{Call, Freeze, FreezeBusy, Commit, Rest, Publish, Doubt, Dropped, End, Cut}

-- what a contract sees of a history: its entries, and how many more can be pushed without memory
pub record Recorded : Type 0 where
  pub entries : List Entry
  pub spare : ℕ

-- the tree after one more entry: a call's effect where its reply is Done, and else the same tree
abbrev pub tree_after_entry : List TreeEntry → Entry → List TreeEntry
tree_after_entry tree (Call writer op reply) = tree_after_reply tree op reply
tree_after_entry tree (Freeze by epoch) = tree
tree_after_entry tree (FreezeBusy writer epoch) = tree
tree_after_entry tree (Commit epoch) = tree
tree_after_entry tree (Rest epoch) = tree
tree_after_entry tree (Publish epoch) = tree
tree_after_entry tree (Doubt epoch) = tree
tree_after_entry tree (Dropped epoch) = tree
tree_after_entry tree (End writer) = tree
tree_after_entry tree (Cut epoch limits) = tree

-- the folder after a history: its entries' effects on the base, in order
abbrev pub folder_after : List TreeEntry → List Entry → List TreeEntry
folder_after base history = fold tree_after_entry base history

-- whether it is the freeze of this epoch
abbrev pub is_freeze_of : ℕ → Entry → Bool
is_freeze_of epoch (Freeze by frozen) = frozen == epoch
is_freeze_of epoch other = false

-- whether it is a publication
abbrev pub is_publication : Entry → Bool
is_publication (Publish epoch) = true
is_publication other = false

-- whether it is a cut
abbrev pub is_cut : Entry → Bool
is_cut (Cut epoch limits) = true
is_cut other = false

-- whether a cut keeps it where it stands behind the freeze that the cut goes back to: what the cloud shows isn't undone
abbrev pub outlives_cut : Entry → Bool
outlives_cut entry = is_publication entry

-- the entries up to the freeze of an epoch, that one included; all of them where that freeze isn't there
abbrev pub up_to_freeze : ℕ → List Entry → List Entry
up_to_freeze epoch [] = []
up_to_freeze epoch (entry ∷ entries) = if is_freeze_of epoch entry then entry ∷ [] else entry ∷ up_to_freeze epoch entries

-- the same for an epoch that may be the start, up to which there is nothing
abbrev pub up_to_epoch : ℕ → ℕ → List Entry → List Entry
up_to_epoch start epoch line = if epoch == start then [] else up_to_freeze epoch line

-- the epoch is the start, or its freeze is there
abbrev pub IsFrozenAt : ℕ → ℕ → List Entry → Type 0
IsFrozenAt start epoch line = IsTrue ((epoch == start) || list_any (is_freeze_of epoch) line)

-- what survives after one more entry: a cut takes away what follows the freeze that it goes back to, except what outlives it
abbrev pub survivors_after : ℕ → List Entry → Entry → List Entry
survivors_after start line (Cut epoch limits) =
    up_to_epoch start epoch line ++ Cut epoch limits ∷ filter outlives_cut (drop (length (up_to_epoch start epoch line)) line)
survivors_after start line other = line ++ other ∷ []

-- what survives of a history, from a start epoch on
abbrev pub surviving : ℕ → List Entry → List Entry
surviving start history = fold (survivors_after start) [] history

-- the entries but for cuts and what outlives them, none of which touches the tree
abbrev pub apart_from_cuts : List Entry → List Entry
apart_from_cuts history = filter (λ entry. not (is_cut entry || outlives_cut entry)) history

-- nothing was cut
abbrev pub HasNoCut : List Entry → Type 0
HasNoCut history = AllByRecursion (λ entry. is_cut entry ≡ false) history
