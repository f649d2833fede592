-- A folder that was started, and that it is sound for its opening.
use Rattle.std.specs.Prelude.{◌≡◌, ℕ, [], nat_lt, List, Option, Some, None}
use Rattle.vb_cloud.specs.Machine.{CloudState}
use Rattle.vb_disk.specs.States.{DiskState}
use Rattle.vb_folder.specs.Ledgers.{LedgerState}
use Rattle.vb_folder.specs.Sound.{IsSoundOn}
use Rattle.vb_folder.specs.Uploads.{IsSoundWith}
use Rattle.vb_hist.specs.Legal.{Opening}
use Rattle.vb_hist.specs.declared.entry.Stage.TheVariants.{Rested}
use Rattle.vb_index.specs.Contents.{HasTree}
use Rattle.vb_local.specs.Events.{Starts, one_tree}
use Rattle.vb_store.specs.Clear.{first_candidates}
use Rattle.vb_store.specs.Views.{ViewState}
use Rattle.vb_tree.specs.declared.tree.TreeEntry.{TreeEntry}
use Rattle.vb_upload.specs.Steps.{cursor_of}
use Rattle.vb_upload.specs.declared.cursor.Cursor.TheVariants.{Begin}
use Rattle.vb_views.specs.AtRest.{IsAtRestFor}
use Rattle.vb_views.specs.Reads.{pages_by}

-- a folder that begins on a view: nothing happened yet, nothing is in doubt, no commit is on and no message was sent; the view
-- stands where its epoch is above the published one
pub record Begins (v : ViewState) (s : LedgerState) : Type 0 where
  pub local : Starts v (nat_lt s.published v.head.epoch) s.local
  pub history : s.history ≡ record { entries = []; spare = 0 }
  pub epoch : s.epoch ≡ v.head.epoch
  pub unsure : s.unsure ≡ None
  pub stage : s.stage ≡ Rested
  pub upload : cursor_of s.upload ≡ Begin

-- the opening of a folder over a view of this tree and a cloud, with these counts of faults
abbrev pub opening_of : ViewState → List TreeEntry → CloudState → ℕ → ℕ → Opening
opening_of v tree k disk_faults link_faults = record {
  limits = v.index.limits;
  base = tree;
  start = v.head.epoch;
  published = k.epoch;
  published_tree = k.tree;
  disk_faults = disk_faults;
  link_faults = link_faults;
}

-- a folder is sound for an opening, over a told disk and the cloud as it is told to be
pub record IsSoundOver (o : Opening) (s : LedgerState) (disk : Option DiskState) (d : DiskState) (tree : List TreeEntry) (cloud : Option CloudState) : Type 0 where
  pub next : CloudState
  pub with : IsSoundWith o s disk cloud (one_tree tree) next
  pub on : IsSoundOn o s d

-- over a told disk at rest for the view, and a told cloud, a folder that was started is sound for the opening of the view's
-- limits, tree and epoch and of what the cloud showed, whatever the counts of faults of the opening are
abbrev pub IsOpened : ViewState → LedgerState → Option DiskState → Option CloudState → Option CloudState → Type 0
IsOpened v s disk before after = (d : DiskState) (tree : List TreeEntry) (k : CloudState) (disk_faults link_faults : ℕ)
    → disk ≡ Some d → IsAtRestFor v.head v.index d → HasTree v.index.nodes (pages_by (first_candidates d) v.index.nodes) tree
    → before ≡ Some k → IsSoundOver (opening_of v tree k disk_faults link_faults) s disk d tree after
