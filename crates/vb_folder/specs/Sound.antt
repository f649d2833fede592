-- Sound folders on their disk.
use Rattle.std.specs.Prelude.{ℕ, ◌≢◌, List}
use Rattle.vb_disk.specs.States.{DiskState}
use Rattle.vb_event.specs.Sound.{HasSoundHistory, Recovers}
use Rattle.vb_hist.specs.Legal.{Opening}
use Rattle.vb_hist.specs.declared.entry.Stage.TheVariants.{Committed}
use Rattle.vb_local.specs.Shown.{LocalTrees, ShowsOn}
use Rattle.vb_tree.specs.declared.tree.TreeEntry.{TreeEntry}
use Rattle.vb_folder.specs.Ledgers.{LedgerState, core_of}

-- a view of this epoch and tree may be recovered, and the tree is the folder at that epoch
abbrev pub IsView : Opening → LedgerState → LocalTrees → ℕ → List TreeEntry → Type 0
IsView o s t epoch tree = Recovers o (core_of s t) epoch tree

-- a disk shows the folder with trees that its history says: the live tree is the folder after it, the frozen one the folder at
-- the last freeze, and the committed one the folder at the committed epoch, as long as that may be recovered
pub record IsSoundOn (o : Opening) (s : LedgerState) (d : DiskState) : Type 0 where
  pub trees : LocalTrees
  pub shows : ShowsOn d s.local trees
  pub history : HasSoundHistory o (core_of s trees)
  pub committed : s.stage ≢ Committed → IsView o s trees s.local.view.head.epoch trees.committed
