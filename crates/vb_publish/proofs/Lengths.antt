-- How long plans are.
use Rattle.std.proofs.Common.{◌≡◌, ℕ, ◌<◌, List, [], ◌∷◌, length, is_some, slice_get, refl, ap, ◌∙◌, arith, length-append}
use Rattle.std.specs.Prelude.{IsSome}
use Rattle.std.proofs.lemmas.Option.{slice_get-get_or}
use Rattle.std.specs.List.{flat_map}
use Rattle.std.proofs.lemmas.List.FromFn.{length-map-range_with_len}
use Rattle.vb_tree.specs.declared.tree.Kind.{Kind}
use Rattle.vb_tree.specs.declared.tree.Kind.TheVariants.{Folder, File}
use Rattle.vb_tree.specs.declared.tree.TreeEntry.{TreeEntry}
use Rattle.vb_tree.specs.Trees.{data_pages_of}
use Rattle.vb_msg.specs.declared.message.Msg.TheVariants.{Seal, Publish}
use Rattle.vb_publish.specs.Messages.{enter_named, epoch_named, path_named}
use Rattle.vb_publish.specs.Plans.{part_at, parts_of, messages_by, entry_messages, messages_for, counts_of_tree, total_of, plan_length, upload_plan}

pub length-parts : (bytes : List ℕ) → length (parts_of bytes) ≡ data_pages_of (length bytes)
length-parts bytes = length-map-range_with_len (part_at bytes) 0 (data_pages_of (length bytes))

pub length-by : (kind : Kind) (published : List TreeEntry) (e : TreeEntry) → length (messages_by kind published e) ≡ messages_for kind (length e.bytes)
length-by Folder published e = refl
length-by File published e =
    let count = length-parts e.bytes in
    let both = length-append (parts_of e.bytes) (Seal ∷ enter_named (path_named e.path) File ∷ []) in
    omega arith

pub length-entries : (published tree : List TreeEntry) → length (flat_map (entry_messages published) tree) ≡ total_of (counts_of_tree tree)
length-entries published [] = refl
length-entries published (e ∷ es) =
    let first = length-by e.kind published e in
    let rest = length-entries published es in
    length-append (entry_messages published e) (flat_map (entry_messages published) es) ∙ omega (arith, first, rest)

pub length-plan : (epoch : ℕ) (tree published : List TreeEntry) → length (upload_plan epoch tree published) ≡ plan_length (counts_of_tree tree)
length-plan epoch tree published =
    let rest = length-entries published tree in
    let both = length-append (flat_map (entry_messages published) tree) (Publish (epoch_named epoch) ∷ []) in
    omega arith

-- below its length a plan has a message at each place
pub message-there : (epoch place : ℕ) (tree published : List TreeEntry) → place < plan_length (counts_of_tree tree) → IsSome (slice_get (upload_plan epoch tree published) place)
message-there epoch place tree published less =
    let len = length-plan epoch tree published in
    ap is_some (slice_get-get_or (upload_plan epoch tree published) place Seal (omega arith))

pub ruleset lengths = (length-plan, message-there)
