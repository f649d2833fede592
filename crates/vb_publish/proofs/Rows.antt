-- Small plans, by computation.
use Rattle.std.proofs.Common.{◌≡◌, ℕ, List, [], ◌∷◌, ◌++◌, length, map, refl, ap}
use Rattle.std.specs.List.{range_with_len}
use Rattle.vb_tree.specs.declared.tree.Kind.TheVariants.{Folder, File}
use Rattle.vb_tree.specs.declared.tree.TreeEntry.{TreeEntry}
use Rattle.vb_tree.specs.Trees.{data_pages_of}
use Rattle.vb_msg.specs.declared.message.Msg.TheVariants.{Begin, Object, Seal, Publish}
use Rattle.vb_publish.specs.Messages.{enter_named, epoch_named, path_named}
use Rattle.vb_publish.specs.Plans.{part_at, upload_plan}
use Rattle.vb_publish.specs.Worked.{empty_plan, entry_with, file_plan, folder_plan}

pub empty-row : (epoch : ℕ) (published : List TreeEntry) → upload_plan epoch [] published ≡ empty_plan epoch
empty-row epoch published = refl

pub folder-row : (epoch : ℕ) (path : List (List ℕ)) (published : List TreeEntry) → upload_plan epoch (entry_with path Folder [] ∷ []) published ≡ folder_plan epoch path
folder-row epoch path published = refl

pub file-row : (epoch : ℕ) (path : List (List ℕ)) (bytes : List ℕ) (published : List TreeEntry) → length bytes ≡ 12288 → upload_plan epoch (entry_with path File bytes ∷ []) published ≡ file_plan epoch path bytes
file-row epoch path bytes published is =
    ap (λ (n : ℕ). Begin (epoch_named epoch) ∷ ((Object ∷ (map (part_at bytes) (range_with_len 0 (data_pages_of n)) ++ (Seal ∷ enter_named (path_named path) File ∷ []))) ++ []) ++ (Publish (epoch_named epoch) ∷ [])) is

pub ruleset rows = (empty-row, folder-row)
