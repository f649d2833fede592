-- A settled page leaves where an upload stands, and an index has entries that can be sent.
use Rattle.std.proofs.Common.{◌≡◌, ℕ, zero, suc, ◌≤◌, Bool, true, false, cond, not, ◌==◌, List, [], ◌∷◌, length, Option, Some, None, unwrap_or, refl, sym, ap, subst, ◌∙◌, arith, slice_get}
use Rattle.std.specs.Option.{option_map, option_and_then}
use Rattle.std.proofs.lemmas.List.Elements.{All-cons, All-head, All-nil, All-tail}
use Rattle.std.proofs.lemmas.List.{length-set}
use Rattle.vb_block.specs.declared.digest.Ref.{Ref}
use Rattle.vb_path.specs.Paths.{IsPath}
use Rattle.vb_tree.specs.declared.tree.Kind.TheVariants.{Folder}
use Rattle.vb_tree.specs.declared.tree.TreeEntry.{TreeEntry}
use Rattle.vb_tree.specs.Trees.{data_pages_of, entry_at, is_root, longest_file, AllBelongIn, BelongsIn, IsTree}
use Rattle.vb_index.specs.declared.held.Held.{Held}
use Rattle.vb_index.specs.Nodes.{held_at, is_folder_node, refs_at, refs_of, slot_at, IsHeld, IsTable}
use Rattle.vb_index.specs.Indexes.{Shape, shape_of, shape_of_entry, HasShapeOf}
use Rattle.vb_frozen.proofs.Built.{AllAt, AllLead, all-here, tree-leads}
use Rattle.vb_frozen.specs.declared.entry.FrozenEntry.{FrozenEntry}
use Rattle.vb_frozen.specs.Orders.{entry_for, order_of, slot_of, with_ref, with_reference}
use Rattle.vb_upload.specs.declared.cursor.Cursor.{Cursor}
use Rattle.vb_upload.specs.declared.cursor.Cursor.TheVariants.{Begin, Entry, Page, Sealed}
use Rattle.vb_upload.specs.Cursors.{counts_of, AllCanBeSent, CanBeSent, IsFileWith, StandsIn}
use Rattle.vb_publish.specs.Plans.{messages_for}

-- ---- a settled page

settled-one : (page : ℕ) (reference : Ref) (e : FrozenEntry) → CanBeSent e → CanBeSent (with_ref page reference e)
settled-one page reference e can = record {
  is_path = can.is_path;
  below_root = can.below_root;
  few_bytes = can.few_bytes;
  each_page = length-set e.refs page reference ∙ can.each_page;
}

pub settled-all : (slot page : ℕ) (reference : Ref) (order : List FrozenEntry) → AllCanBeSent order → AllCanBeSent (with_reference slot page reference order)
settled-all slot page reference [] all = All-nil CanBeSent
settled-all slot page reference (e ∷ es) all =
    let first = All-head CanBeSent e es all in
    let rest = All-tail CanBeSent e es all in
    elim (e.slot == slot) as (λ b. AllCanBeSent (cond b (with_ref page reference e ∷ es) (e ∷ with_reference slot page reference es))) [
      | true ↦ All-cons CanBeSent (with_ref page reference e) es (settled-one page reference e first) rest
      | false ↦ All-cons CanBeSent e (with_reference slot page reference es) first (settled-all slot page reference es rest)
    ]

pub settled-counts : (slot page : ℕ) (reference : Ref) (order : List FrozenEntry) → counts_of (with_reference slot page reference order) ≡ counts_of order
settled-counts slot page reference [] = refl
settled-counts slot page reference (e ∷ es) =
    elim (e.slot == slot) as (λ b. counts_of (cond b (with_ref page reference e ∷ es) (e ∷ with_reference slot page reference es)) ≡ counts_of (e ∷ es)) [
      | true ↦ refl
      | false ↦ ap (λ cs. messages_for e.kind e.len ∷ cs) (settled-counts slot page reference es)
    ]

-- an entry of the order with another reference is one of the order, but for its references
abbrev IsAlike : FrozenEntry → FrozenEntry → Type 0
IsAlike f e = (f.kind ≡ e.kind) × (f.len ≡ e.len)

settled-at : (slot page : ℕ) (reference : Ref) (order : List FrozenEntry) (i : ℕ) (f : FrozenEntry) → slice_get (with_reference slot page reference order) i ≡ Some f → (e : FrozenEntry) × (slice_get order i ≡ Some e) × IsAlike f e
settled-at slot page reference [] i f h = absurd (cc h)
settled-at slot page reference (e ∷ es) i f h =
    (elim (e.slot == slot) as (λ b. slice_get (cond b (with_ref page reference e ∷ es) (e ∷ with_reference slot page reference es)) i ≡ Some f → (x : FrozenEntry) × (slice_get (e ∷ es) i ≡ Some x) × IsAlike f x) [
      | true ↦ here i
      | false ↦ there i (λ j is. settled-at slot page reference es j f is)
    ]) h where
      here : (j : ℕ) → slice_get (with_ref page reference e ∷ es) j ≡ Some f → (x : FrozenEntry) × (slice_get (e ∷ es) j ≡ Some x) × IsAlike f x
      here zero is = (let same : with_ref page reference e ≡ f = cc is in (e, refl, subst (λ g. IsAlike g e) same (refl, refl)))
      here (suc j) is = (f, is, (refl, refl))

      there : (j : ℕ) → ((k : ℕ) → slice_get (with_reference slot page reference es) k ≡ Some f → (x : FrozenEntry) × (slice_get es k ≡ Some x) × IsAlike f x) → slice_get (e ∷ with_reference slot page reference es) j ≡ Some f → (x : FrozenEntry) × (slice_get (e ∷ es) j ≡ Some x) × IsAlike f x
      there zero rest is = (f, is, (refl, refl))
      there (suc j) rest is = rest j is

settled-length : (slot page : ℕ) (reference : Ref) (order : List FrozenEntry) → length (with_reference slot page reference order) ≡ length order
settled-length slot page reference [] = refl
settled-length slot page reference (e ∷ es) =
    elim (e.slot == slot) as (λ b. length (cond b (with_ref page reference e ∷ es) (e ∷ with_reference slot page reference es)) ≡ length (e ∷ es)) [
      | true ↦ refl
      | false ↦ ap (λ (n : ℕ). suc n) (settled-length slot page reference es)
    ]

settled-file : (slot page : ℕ) (reference : Ref) (order : List FrozenEntry) (i n : ℕ) → IsFileWith order i n → IsFileWith (with_reference slot page reference order) i n
settled-file slot page reference order i n is =
    let len = settled-length slot page reference order in
    let less = is.there in
    record {
      there = omega arith;
      file = λ f h. (let e = settled-at slot page reference order i f h in e.2.0 ∙ is.file e.0 e.1);
      enough = λ f h. (let e = settled-at slot page reference order i f h in subst (λ (m : ℕ). n ≤ data_pages_of m) (sym e.2.1) (is.enough e.0 e.1));
    }

pub settled-stands : (slot page : ℕ) (reference : Ref) (order : List FrozenEntry) (cursor : Cursor) → StandsIn order cursor → StandsIn (with_reference slot page reference order) cursor
settled-stands slot page reference order Begin is = tt
settled-stands slot page reference order (Entry i) is = (let len = settled-length slot page reference order in omega arith)
settled-stands slot page reference order (Page i k) is = settled-file slot page reference order i k is
settled-stands slot page reference order (Sealed i) is = settled-file slot page reference order i 0 is

-- ---- an index

-- what a slot holds is as its node says
held-sendable : (held : Held) (slot : ℕ) (e : TreeEntry) → IsHeld slot held → shape_of held ≡ shape_of_entry e → IsPath e.path → is_root e.path ≡ false → (f : FrozenEntry) → f.path ≡ e.path → f.len ≡ length e.bytes → f.refs ≡ unwrap_or (refs_of held) [] → CanBeSent f
held-sendable held slot e is same valid below f path len refs =
    let long : held.node.length ≡ length e.bytes = ap (λ (s : Shape). s.len) same in
    let short = is.short in
    record {
      is_path = subst IsPath (sym path) valid;
      below_root = ap is_root path ∙ below;
      few_bytes = subst (λ (n : ℕ). n ≤ longest_file) (sym (len ∙ sym long)) short;
      each_page = ap length refs ∙ counted (is_folder_node held.node.kind) refl ∙ ap data_pages_of (long ∙ sym len);
    } where
      counted : (b : Bool) → is_folder_node held.node.kind ≡ b → length (unwrap_or (refs_of held) []) ≡ data_pages_of held.node.length
      counted true folder = ap (λ b. length (unwrap_or (cond b (Some held.refs) None) [])) (is.either ∙ ap not folder) ∙ ap data_pages_of (sym (is.folder_empty folder))
      counted false file = ap (λ b. length (unwrap_or (cond b (Some held.refs) None) [])) (is.either ∙ ap not file) ∙ is.each_page

entry-sendable : (nodes : List (Option Held)) (tree : List TreeEntry) (e : TreeEntry) → IsTable nodes → HasShapeOf nodes tree → entry_at e.path tree ≡ Some e → BelongsIn tree e → (slot : ℕ) → slot_at nodes e.path ≡ Some slot → CanBeSent (entry_for nodes e)
entry-sendable nodes tree e table shape here belongs slot at = by (held_at nodes slot) refl where
  slot_is : slot_of nodes e.path ≡ slot
  slot_is = ap (λ o. unwrap_or o 0) at

  seen : option_map shape_of (held_at nodes slot) ≡ Some (shape_of_entry e)
  seen = sym (ap (option_and_then (λ (s : ℕ). option_map shape_of (held_at nodes s))) at) ∙ shape.same e.path ∙ ap (λ b. cond b (Some (record { kind = Folder; len = 0 })) (option_map shape_of_entry (entry_at e.path tree))) belongs.below_root ∙ ap (option_map shape_of_entry) here

  by : (o : Option Held) → held_at nodes slot ≡ o → CanBeSent (entry_for nodes e)
  by None none = absurd (let both : option_map shape_of None ≡ Some (shape_of_entry e) = sym (ap (option_map shape_of) none) ∙ seen in cc)
  by (Some held) is =
      let both : Some (shape_of held) ≡ Some (shape_of_entry e) = sym (ap (option_map shape_of) is) ∙ seen in
      let same : shape_of held ≡ shape_of_entry e = cc in
      let refs : unwrap_or (refs_at nodes (slot_of nodes e.path)) [] ≡ unwrap_or (refs_of held) [] = ap (λ (s : ℕ). unwrap_or (refs_at nodes s) []) slot_is ∙ ap (λ o. unwrap_or (option_and_then refs_of o) []) is in
      held-sendable held slot e (table.fits slot held is) same belongs.path_valid belongs.below_root (entry_for nodes e) refl refl refs

entries-sendable : (nodes : List (Option Held)) (tree es : List TreeEntry) → IsTable nodes → HasShapeOf nodes tree → AllAt tree es → AllBelongIn tree es → AllLead nodes es → AllCanBeSent (order_of nodes es)
entries-sendable nodes tree [] table shape at belong lead = All-nil CanBeSent
entries-sendable nodes tree (e ∷ es) table shape at belong lead =
    All-cons CanBeSent (entry_for nodes e) (order_of nodes es) (entry-sendable nodes tree e table shape at.0 belong.0 lead.0.0 lead.0.1) (entries-sendable nodes tree es table shape at.1 belong.1 lead.1)

pub index-sendable : (nodes : List (Option Held)) (tree : List TreeEntry) → IsTable nodes → IsTree tree → HasShapeOf nodes tree → AllCanBeSent (order_of nodes tree)
index-sendable nodes tree table is shape = entries-sendable nodes tree tree table shape (all-here [] tree is.in_order) is.all_belong (tree-leads nodes tree is shape)

pub ruleset settled = (settled-counts, settled-stands)
