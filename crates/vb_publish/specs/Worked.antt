-- Small plans, message by message.
use Rattle.std.specs.Prelude.{ℕ, List, [], ◌∷◌}
use Rattle.vb_tree.specs.declared.tree.Kind.{Kind}
use Rattle.vb_tree.specs.declared.tree.Kind.TheVariants.{Folder, File}
use Rattle.vb_tree.specs.declared.tree.TreeEntry.{TreeEntry}
use Rattle.vb_msg.specs.declared.message.Msg.{Msg}
use Rattle.vb_msg.specs.declared.message.Msg.TheVariants.{Begin, Object, Seal, Publish}
use Rattle.vb_publish.specs.Messages.{enter_named, epoch_named, path_named}
use Rattle.vb_publish.specs.Plans.{part_at}

-- the entry of a path, a kind and some bytes
abbrev pub entry_with : List (List ℕ) → Kind → List ℕ → TreeEntry
entry_with path kind bytes = record { path = path; kind = kind; bytes = bytes }

-- the plan of the empty tree
abbrev pub empty_plan : ℕ → List Msg
empty_plan epoch = Begin (epoch_named epoch) ∷ Publish (epoch_named epoch) ∷ []

-- the plan of one folder
abbrev pub folder_plan : ℕ → List (List ℕ) → List Msg
folder_plan epoch path = Begin (epoch_named epoch) ∷ enter_named (path_named path) Folder ∷ Publish (epoch_named epoch) ∷ []

-- the plan of one file of three pages
abbrev pub file_plan : ℕ → List (List ℕ) → List ℕ → List Msg
file_plan epoch path bytes =
    Begin (epoch_named epoch) ∷ Object ∷ part_at bytes 0 ∷ part_at bytes 1 ∷ part_at bytes 2 ∷ Seal
    ∷ enter_named (path_named path) File ∷ Publish (epoch_named epoch) ∷ []
