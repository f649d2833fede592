-- The way to a file that stands at its path, and the page of it that has a reference.
use Rattle.std.proofs.Common.{◌≡◌, ℕ, ◌<◌, ◌≤◌, ◌+◌, ◌^◌, Bool, true, false, List, [], ◌∷◌, ◌++◌, length, slice_get, unwrap_or, Option, Some, None, is_none, is_some, if◌then◌else◌, refl, sym, subst, ap, ◌∙◌, append_assoc, arith}
use Rattle.std.specs.Option.{option_and_then, option_map}
use Rattle.vb_active.specs.Files.{IsFileOf}
use Rattle.vb_active.specs.Views.{ActiveState, IsOut, ref_at}
use Rattle.vb_block.specs.declared.digest.Ref.{Ref}
use Rattle.vb_index.proofs.Depths.{walk-append}
use Rattle.vb_index.proofs.Growth.{no_children}
use Rattle.vb_index.proofs.Leaving.{kind_at-held}
use Rattle.vb_index.proofs.Resizing.{file_in}
use Rattle.vb_index.proofs.Walks.{and_then-parts}
use Rattle.vb_index.specs.Indexes.{HasShapeOf}
use Rattle.vb_index.specs.Nodes.{IsTable, child_of, held_at, holds_folder, kind_of, refs_at, refs_of, slot_at, slot_below}
use Rattle.vb_index.specs.declared.held.Held.{Held}
use Rattle.vb_tree.specs.Refusals.{refuse, refuse_missing, refuse_rest, refuse_step}
use Rattle.vb_tree.specs.Trees.{kind_at}
use Rattle.vb_tree.specs.declared.reply.Refusal.{Refusal}
use Rattle.vb_tree.specs.declared.reply.Refusal.TheVariants.{NoEntry}
use Rattle.vb_tree.specs.declared.tree.Kind.{Kind}
use Rattle.vb_tree.specs.declared.tree.Kind.TheVariants.{Folder, File}
use Rattle.vb_tree.specs.declared.tree.TreeEntry.{TreeEntry}
use Rattle.vb_core.specs.Names.{IsPageOut}

-- ---- the way

-- a slot with an entry below it holds a folder
parent-holds : (nodes : List (Option Held)) (slot child : ℕ) (name : List ℕ) (b : Bool) → IsTable nodes → holds_folder (held_at nodes slot) ≡ b → child_of nodes slot name ≡ Some child → holds_folder (held_at nodes slot) ≡ true
parent-holds nodes slot child name true table is below = is
parent-holds nodes slot child name false table is below =
    (let e : None ≡ Some child = sym (no_children nodes table slot is name) ∙ below in absurd (cc e))

-- and so does the tree
folder-kind : (o : Option Held) → holds_folder o ≡ true → option_map (λ (h : Held). kind_of h.node) o ≡ Some Folder
folder-kind None is = absurd (cc is)
folder-kind (Some held) is = ap (λ b. Some (if b then Folder else File)) is

-- what leads to a slot isn't refused
way-open : (nodes : List (Option Held)) (tree : List TreeEntry) → IsTable nodes → HasShapeOf nodes tree → (folder rest : List (List ℕ)) (slot : ℕ) (next : Option Refusal) → slot_at nodes (folder ++ rest) ≡ Some slot → refuse_rest tree folder rest next ≡ next
way-open nodes tree table shape folder [] slot next at = refl
way-open nodes tree table shape folder (part ∷ []) slot next at = refl
way-open nodes tree table shape folder (part ∷ below ∷ parts) slot next at =
    let here : List (List ℕ) = folder ++ part ∷ [] in
    let again : slot_at nodes (here ++ below ∷ parts) ≡ Some slot = ap (slot_at nodes) (append_assoc folder (part ∷ []) (below ∷ parts)) ∙ at in
    let step = and_then-parts (λ t. slot_below (child_of nodes) t (below ∷ parts)) (slot_at nodes here) slot (sym (walk-append (child_of nodes) 0 here (below ∷ parts)) ∙ again) in
    let child = and_then-parts (λ t. slot_below (child_of nodes) t parts) (child_of nodes step.0 below) slot step.2 in
    let holds = parent-holds nodes step.0 child.0 below (holds_folder (held_at nodes step.0)) table refl child.1 in
    let kind : kind_at here tree ≡ Some Folder = kind_at-held nodes tree here step.0 (held_at nodes step.0) shape step.1 refl ∙ folder-kind (held_at nodes step.0) holds in
    ap (λ k. refuse_step k (refuse_rest tree here (below ∷ parts) next)) kind ∙ way-open nodes tree table shape here (below ∷ parts) slot next again

-- a file that stands there is found
pub file-found : (nodes : List (Option Held)) (tree : List TreeEntry) (path : List (List ℕ)) (slot len : ℕ) (reason : Refusal) → HasShapeOf nodes tree → IsFileOf nodes path slot len → refuse_missing tree path None ≡ Some reason → ⊥
file-found nodes tree path slot len reason shape file refused =
    let there : kind_at path tree ≡ Some (kind_of file.held.node) = kind_at-held nodes tree path slot (Some file.held) shape file.at file.there in
    let open-way : refuse_missing tree path None ≡ refuse (is_none (kind_at path tree)) NoEntry None =
    way-open nodes tree file.table shape [] path slot (refuse (is_none (kind_at path tree)) NoEntry None) file.at in
    let none : refuse (is_none (kind_at path tree)) NoEntry None ≡ None = ap (λ k. refuse (is_none k) NoEntry None) there in
    let e : Some reason ≡ None = sym refused ∙ open-way ∙ none in
    absurd (cc e)

-- ---- its pages

-- a reference
abbrev ref_of : ℕ → List ℕ → Ref
ref_of place digest = record { place = place; digest = digest }

-- a page of this slot and reference
pub out-here : (view : ActiveState) (path : List (List ℕ)) (slot page : ℕ) (reference : Ref) → slot_at view.index.nodes path ≡ Some slot → IsPageOut view path page reference.place reference.digest → IsOut view slot page reference
out-here view path slot page reference at is =
    let there : Some is.slot ≡ Some slot = sym is.file.at ∙ at in
    let same : is.slot ≡ slot = cc there in
    let e : is.reference ≡ reference = ap (λ (place : ℕ). ref_of place is.reference.digest) (sym is.here) ∙ ap (ref_of reference.place) (sym is.due) in
    subst (λ (s : ℕ). IsOut view s page reference) same (subst (λ (r : Ref). IsOut view is.slot page r) e is.out)

-- it is one of the file at the path
pub page-here : (view : ActiveState) (path : List (List ℕ)) (slot other page place : ℕ) (kept : List ℕ) (reference : Ref) → slot_at view.index.nodes path ≡ Some slot → IsPageOut view path other place kept → IsOut view slot page reference → IsPageOut view path page reference.place reference.digest
page-here view path slot other page place kept reference at is out =
    let there : Some is.slot ≡ Some slot = sym is.file.at ∙ at in
    let same : is.slot ≡ slot = cc there in
    record {
      slot = slot;
      len = is.len;
      file = subst (λ (s : ℕ). IsFileOf view.index.nodes path s is.len) same is.file;
      reference = reference;
      out = out;
      here = refl;
      due = refl;
    }

-- a slot without references has no page
pub none-out : (view : ActiveState) (slot page : ℕ) (reference : Ref) → refs_at view.index.nodes slot ≡ None → IsOut view slot page reference → ⊥
none-out view slot page reference none is =
    (let e : slice_get [] page ≡ Some reference = sym (ap (λ refs. slice_get (unwrap_or refs []) page) none) ∙ is.at in absurd (cc e))

-- a file has few pages
pub few-refs : (nodes : List (Option Held)) (slot : ℕ) (refs : List Ref) → IsTable nodes → refs_at nodes slot ≡ Some refs → length refs ≤ 10848
few-refs nodes slot refs table at =
    let file = file_in nodes slot (ap is_some at) in
    let fits = table.fits slot file.0 file.1 in
    let e : refs_at nodes slot ≡ Some file.0.refs =
    ap (λ (o : Option Held). option_and_then refs_of o) file.1 ∙ ap (λ b. if b then Some file.0.refs else None) file.2 in
    let same : Some refs ≡ Some file.0.refs = sym at ∙ e in
    let is : refs ≡ file.0.refs = cc same in
    subst (λ (r : List Ref). length r ≤ 10848) (sym is) (let pages = fits.each_page in let short = fits.short in omega arith)

-- the pages before this one aren't it, and this one isn't either
pub record OutBefore (view : ActiveState) (slot page : ℕ) (reference : Ref) : Type 0 where
  pub none : (before : ℕ) → before < page → IsOut view slot before reference → ⊥
