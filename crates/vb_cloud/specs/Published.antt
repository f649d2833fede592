-- What a cloud shows.
use Rattle.std.specs.Prelude.{ℕ, List}
use Rattle.vb_tree.specs.declared.tree.TreeEntry.{TreeEntry}
use Rattle.vb_cloud.specs.Machine.{CloudState}

-- a published view: its epoch and its tree
pub record PublishedView : Type 0 where
  pub epoch : ℕ
  pub tree : List TreeEntry

-- the view that a cloud shows
abbrev pub published_of : CloudState → PublishedView
published_of k = record { epoch = k.epoch; tree = k.tree }
