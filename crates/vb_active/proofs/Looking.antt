-- What stands at a path, and the names of a folder's entries.
use Rattle.std.proofs.Common.{◌≡◌, ℕ, Bool, true, false, not, cond, List, [], ◌∷◌, length, Option, Some, None, is_some, Ok, refl, sym, ap, subst, ◌∙◌, inl, arith}
use Rattle.std.specs.Prelude.{unwrap_or}
use Rattle.std.specs.Option.{option_map}
use Rattle.std.proofs.lemmas.Bool.{false≢true, ne_eqb}
use Rattle.vb_disk.specs.States.{DiskState}
use Rattle.vb_tree.specs.declared.operation.Op.{Op}
use Rattle.vb_tree.specs.declared.operation.Op.TheVariants.{List as Listing, Stat}
use Rattle.vb_tree.specs.declared.reply.Reply.{Reply}
use Rattle.vb_tree.specs.declared.reply.Reply.TheVariants.{Done, Names, Info}
use Rattle.vb_tree.specs.declared.reply.Refusal.{Refusal}
use Rattle.vb_tree.specs.declared.reply.Refusal.TheVariants.{NotADir}
use Rattle.vb_tree.specs.declared.tree.Kind.{Kind}
use Rattle.vb_tree.specs.declared.tree.Kind.TheVariants.{Folder, File}
use Rattle.vb_tree.specs.declared.tree.TreeEntry.{TreeEntry}
use Rattle.vb_tree.specs.Refusals.{refuse, refuse_missing, refuse_unless_folder}
use Rattle.vb_tree.specs.Trees.{is_file, is_root, kind_at, length_at, entry_at, bytes_in, names_in, IsTree}
use Rattle.vb_tree.specs.Operations.{answer_of, effect_of, info_of, is_done, reply_of, reply_unless, tree_after_reply}
use Rattle.vb_index.specs.declared.held.Held.{Held}
use Rattle.vb_index.specs.Indexes.{Shape, HasShapeOf}
use Rattle.vb_index.specs.Nodes.{held_at, holds_folder, kind_of, slot_at, IsTable}
use Rattle.vb_index.proofs.Growth.{slot_holds}
use Rattle.vb_index.proofs.Leaving.{folder_at}
use Rattle.vb_index.proofs.Resizing.{entry-file}
use Rattle.vb_active.specs.Performs.{HasTreeOn, Performs, info_at}
use Rattle.vb_active.specs.Views.{ActiveState}

-- a folder at a path, or none
pub unless_folder : (nodes : List (Option Held)) (tree : List TreeEntry) (path : List (List ℕ)) (slot : ℕ) (b : Bool) (next : Option Refusal) → IsTable nodes → HasShapeOf nodes tree → slot_at nodes path ≡ Some slot → holds_folder (held_at nodes slot) ≡ b → ((more : Option Refusal) → refuse_missing tree path more ≡ more) → refuse_unless_folder tree path next ≡ refuse (not b) NotADir next
unless_folder nodes tree path slot b next table shape at folder way =
    let holds = slot_holds nodes table path slot at in
    way (refuse (is_file (kind_at path tree)) NotADir next)
    ∙ ap (λ x. refuse x NotADir next) (folder_at nodes tree path slot b shape at (ap is_some holds.1) folder).1

-- an answer that changes nothing, over every tree
pub looked-performs : (told : Option DiskState) (view : ActiveState) (op : Op) (reply : Reply) → is_done reply ≡ false → ((tree : List TreeEntry) → IsTree tree → HasShapeOf view.index.nodes tree → reply ≡ reply_of view.index.limits tree op) → Performs told view view op (Ok reply)
looked-performs told view op reply look answers =
    record {
      played = λ d tree is backs has.
          let said = answers tree has.is_tree has.shape in
          record {
            said = said;
            leaves = subst (λ r. HasTreeOn d view (tree_after_reply tree op r)) said (subst (λ b. HasTreeOn d view (cond b (effect_of tree op) tree)) (sym look) has);
          };
      kept = tt;
      damage = tt;
      limits = refl;
      out = λ slot page reference out. out;
      least = λ slot page some. inl some;
      dirty = λ e slot page dirties. absurd (let same : reply ≡ Done = cc in false≢true (sym look ∙ ap is_done same));
    }

folder_info : (kind : Kind) (len : ℕ) → kind ≡ Folder → info_of kind len ≡ Info Folder 0
folder_info Folder len e = refl
folder_info File len e = absurd cc

root_info : (o : Option Held) → holds_folder o ≡ true → info_at o ≡ Info Folder 0
root_info None e = absurd (false≢true e)
root_info (Some held) e = folder_info (kind_of held.node) held.node.length (ap (λ b. cond b Folder File) e)

-- what stands at a path
pub stat-answer : (nodes : List (Option Held)) (tree : List TreeEntry) (path : List (List ℕ)) (slot : ℕ) → IsTable nodes → HasShapeOf nodes tree → slot_at nodes path ≡ Some slot → info_at (held_at nodes slot) ≡ info_of (unwrap_or (kind_at path tree) Folder) (length_at path tree)
stat-answer nodes tree [] slot table shape at =
    let both : Some 0 ≡ Some slot = at in
    let zero_slot : 0 ≡ slot = cc in
    ap (λ s. info_at (held_at nodes s)) (sym zero_slot) ∙ root_info (held_at nodes 0) table.root
stat-answer nodes tree (part ∷ parts) slot table shape at =
    let path = part ∷ parts in
    let above : is_root path ≡ false = ne_eqb (length path) 0 (λ e. absurd (omega (arith, e))) in
    let holds = slot_holds nodes table path slot at in
    let entry = entry-file nodes tree path slot holds.0 shape above at holds.1 in
    ap info_at holds.1
    ∙ sym (ap (λ b. info_of (unwrap_or (cond b (Some Folder) (option_map (λ (e : TreeEntry). e.kind) (entry_at path tree))) Folder) (length_at path tree)) above
    ∙ ap (λ o. info_of (unwrap_or (option_map (λ (e : TreeEntry). e.kind) o) Folder) (length (bytes_in o))) entry.1
    ∙ ap (λ (s : Shape). info_of s.kind s.len) entry.2)

info_looks : (o : Option Held) → is_done (info_at o) ≡ false
info_looks None = refl
info_looks (Some held) = by (kind_of held.node) where
  by : (kind : Kind) → is_done (info_of kind held.node.length) ≡ false
  by Folder = refl
  by File = refl

pub stat-performs : (told : Option DiskState) (view : ActiveState) (path : List (List ℕ)) (slot : ℕ) (reply : Reply) → IsTable view.index.nodes → slot_at view.index.nodes path ≡ Some slot → ((tree : List TreeEntry) (next : Option Refusal) → HasShapeOf view.index.nodes tree → refuse_missing tree path next ≡ next) → reply ≡ info_at (held_at view.index.nodes slot) → Performs told view view (Stat path) (Ok reply)
stat-performs told view path slot reply table at allowed e =
    looked-performs told view (Stat path) reply (ap is_done e ∙ info_looks (held_at view.index.nodes slot)) (λ tree is shape.
    e ∙ stat-answer view.index.nodes tree path slot table shape at ∙ sym (ap (λ r. reply_unless r (answer_of tree (Stat path))) (allowed tree None shape)))

-- the names of a folder's entries
pub list-performs : (told : Option DiskState) (view : ActiveState) (path : List (List ℕ)) (names : List (List ℕ)) → ((tree : List TreeEntry) (next : Option Refusal) → HasShapeOf view.index.nodes tree → refuse_unless_folder tree path next ≡ next) → ((tree : List TreeEntry) → IsTree tree → HasShapeOf view.index.nodes tree → names ≡ names_in path tree) → Performs told view view (Listing path) (Ok (Names names))
list-performs told view path names allowed named =
    looked-performs told view (Listing path) (Names names) refl (λ tree is shape.
    ap (λ n. Names n) (named tree is shape) ∙ sym (ap (λ r. reply_unless r (answer_of tree (Listing path))) (allowed tree None shape)))
