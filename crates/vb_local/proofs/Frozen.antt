-- A view that was frozen of a live one: it can be committed, and the live view follows it.
use Rattle.std.proofs.Common.{◌≡◌, ℕ, zero, suc, ◌==◌, Bool, true, cond, List, [], ◌∷◌, length, map, slice_get, unwrap_or, All, Option, None, Some, IsSome, inl, inr, refl, sym, ap, ◌∙◌, arith, subst}
use Rattle.std.specs.Prelude.{Contains}
use Rattle.std.specs.Option.{option_and_then, option_map}
use Rattle.std.proofs.lemmas.Bool.{cases_Bool, eqb-true, false≢true}
use Rattle.std.proofs.lemmas.Bool.Decides.{Decides-eqb}
use Rattle.std.proofs.lemmas.List.Elements.{All-contains, All-cons, All-nil}
use Rattle.vb_block.specs.declared.digest.Ref.{Ref}
use Rattle.vb_inode.specs.declared.next_view.NextNode.{NextNode}
use Rattle.vb_inode.specs.declared.node.NodeKind.{NodeKind}
use Rattle.vb_inode.specs.declared.node.NodeKind.TheVariants.{Free, Folder, File}
use Rattle.vb_tree.specs.declared.tree.Limits.{Limits}
use Rattle.vb_tree.specs.declared.tree.TreeEntry.{TreeEntry}
use Rattle.vb_index.specs.declared.held.Held.{Held}
use Rattle.vb_index.specs.Heights.{IsRooted}
use Rattle.vb_index.specs.Indexes.{HasShapeOf}
use Rattle.vb_index.specs.Nodes.{held_at, holds_folder, is_file_node, is_folder_node, refs_at, refs_of, IsTable}
use Rattle.vb_pages.specs.declared.kept.KeptPage.{KeptPage}
use Rattle.vb_pages.specs.declared.kept.PageKey.{PageKey}
use Rattle.vb_pages.specs.Tables.{kept_page}
use Rattle.vb_active.specs.Views.{ActiveState, KeepsFiles, ref_at}
use Rattle.vb_frozen.specs.declared.entry.FrozenEntry.{FrozenEntry}
use Rattle.vb_frozen.specs.Orders.{entry_for, entry_in, order_of}
use Rattle.vb_frozen.specs.Sources.{next_node, next_of}
use Rattle.vb_plan.specs.Following.{CanFollow}
use Rattle.vb_plan.proofs.Listed.{found-in, found-passes}
use Rattle.vb_next.specs.Frozen.{IsViewOver}
use Rattle.vb_next.proofs.ByFind.{slot-listed}
use Rattle.vb_store.specs.Views.{ViewState}
use Rattle.vb_local.specs.Ties.{ref_in, FrozenState, IsFrozenOver, IsLiveOver, KeepsLimits, LiveFollows}
use Rattle.vb_local.specs.Trees.{blank_tree}
use Rattle.vb_local.proofs.Blanks.{blank-shape, blank-tree}

-- ---- the entries of an order have the references of the nodes

abbrev HasRefs : List (Option Held) → FrozenEntry → Type 0
HasRefs nodes e = e.refs ≡ unwrap_or (refs_at nodes e.slot) []

order-refs : (nodes : List (Option Held)) (tree : List TreeEntry) → All (HasRefs nodes) (order_of nodes tree)
order-refs nodes [] = All-nil (HasRefs nodes)
order-refs nodes (e ∷ tree) = All-cons (HasRefs nodes) (entry_for nodes e) (order_of nodes tree) refl (order-refs nodes tree)

-- the references of the entry that is found are those of its slot
found-refs : (nodes : List (Option Held)) (tree : List TreeEntry) (slot : ℕ) (entry : FrozenEntry) → entry_in (order_of nodes tree) slot ≡ Some entry → entry.refs ≡ unwrap_or (refs_at nodes slot) []
found-refs nodes tree slot entry found =
    let own : entry.slot ≡ slot = eqb-true entry.slot slot (found-passes (λ (x : FrozenEntry). x.slot == slot) (order_of nodes tree) entry found) in
    All-contains (HasRefs nodes) (order_of nodes tree) entry (order-refs nodes tree) (found-in (λ (x : FrozenEntry). x.slot == slot) (order_of nodes tree) entry found)
    ∙ ap (λ (s : ℕ). unwrap_or (refs_at nodes s) []) own

pub entry-live : (nodes : List (Option Held)) (tree : List TreeEntry) (slot page : ℕ) (r : Ref) → ref_in (order_of nodes tree) slot page ≡ Some r → ref_at nodes slot page ≡ Some r
entry-live nodes tree slot page r e = by (entry_in (order_of nodes tree) slot) refl e where
  by : (o : Option FrozenEntry) → entry_in (order_of nodes tree) slot ≡ o → slice_get (unwrap_or (option_map (λ (x : FrozenEntry). x.refs) o) []) page ≡ Some r → ref_at nodes slot page ≡ Some r
  by None found at = absurd (cc at)
  by (Some entry) found at = sym (ap (λ (rs : List Ref). slice_get rs page) (found-refs nodes tree slot entry found)) ∙ at

-- ---- each file has an entry

entry-there : (slot : ℕ) (order : List FrozenEntry) (e : FrozenEntry) → Contains order e → e.slot ≡ slot → IsSome (entry_in order slot)
entry-there slot [] e has own = absurd (omega (arith, has.1))
entry-there slot (x ∷ order) e (zero, within, is) own = subst (λ (b : Bool). IsSome (cond b (Some x) (entry_in order slot))) (sym ((Decides-eqb x.slot slot).1 (ap (λ (f : FrozenEntry). f.slot) is ∙ own))) refl
entry-there slot (x ∷ order) e (suc k, within, is) own = elim (cases_Bool (x.slot == slot)) [
  | inl here ↦ subst (λ (b : Bool). IsSome (cond b (Some x) (entry_in order slot))) (sym here) refl
  | inr other ↦ subst (λ (b : Bool). IsSome (cond b (Some x) (entry_in order slot))) (sym other) (entry-there slot order e (k, omega (arith, within), is) own)
]

of_mapped : {X Y : Type 0} (f : X → Y) (xs : List X) (y : Y) → Contains (map f xs) y → (x : X) × Contains xs x × (f x ≡ y)
of_mapped f [] y has = absurd (omega (arith, has.1))
of_mapped f (x ∷ xs) y (zero, within, is) = (x, (0, omega arith, refl), is)
of_mapped f (x ∷ xs) y (suc k, within, is) =
    let later = of_mapped f xs y (k, omega (arith, within), is) in
    (later.0, (suc later.1.0, omega (arith, later.1.1), later.1.2), later.2)

no_refs : (o : Option Held) → holds_folder o ≡ true → unwrap_or (option_and_then refs_of o) [] ≡ []
no_refs None folder = absurd (false≢true folder)
no_refs (Some held) folder = by held.node.kind folder where
  by : (kind : NodeKind) → is_folder_node kind ≡ true → unwrap_or (cond (is_file_node kind) (Some held.refs) None) [] ≡ []
  by Free e = absurd (false≢true e)
  by Folder e = refl
  by File e = absurd (false≢true e)

held_of_ref : (o : Option Held) (k : ℕ) (r : Ref) → slice_get (unwrap_or (option_and_then refs_of o) []) k ≡ Some r → (held : Held) × (o ≡ Some held)
held_of_ref None k r e = absurd (cc e)
held_of_ref (Some held) k r e = (held, refl)

some_of : {X : Type 0} (o : Option X) → IsSome o → (x : X) × (o ≡ Some x)
some_of None some = absurd (false≢true some)
some_of (Some x) some = (x, refl)

has-entry : (nodes : List (Option Held)) (pages : List (PageKey × KeptPage)) (tree : List TreeEntry) (slot page : ℕ) (r : Ref) → IsTable nodes → IsRooted nodes → HasShapeOf nodes tree → ref_at nodes slot page ≡ Some r → IsSome (entry_in (order_of nodes tree) slot)
has-entry nodes pages tree slot page r table rooted shape at =
    let held = held_of_ref (held_at nodes slot) page r at in
    let listed = slot-listed nodes pages tree slot held.0 rooted shape held.1 in
    by listed.x listed.there listed.own
  where
    by : (x : NextNode) → Contains (next_of (order_of nodes tree) pages) x → x.node.slot ≡ slot → IsSome (entry_in (order_of nodes tree) slot)
    by x (zero, within, is) own = absurd (
        let root : 0 ≡ slot = ap (λ (n : NextNode). n.node.slot) is ∙ own in
        let none : slice_get [] page ≡ Some r = sym (ap (λ (rs : List Ref). slice_get rs page) (no_refs (held_at nodes 0) table.root)) ∙ ap (λ (s : ℕ). ref_at nodes s page) root ∙ at in
        cc none)
    by x (suc k, within, is) own =
        let one = of_mapped (next_node pages) (order_of nodes tree) x (k, omega (arith, within), is) in
        entry-there slot (order_of nodes tree) one.0 one.1 (ap (λ (n : NextNode). n.node.slot) one.2 ∙ own)

pub live-entry : (nodes : List (Option Held)) (pages : List (PageKey × KeptPage)) (tree : List TreeEntry) (slot page : ℕ) (r : Ref) → IsTable nodes → IsRooted nodes → HasShapeOf nodes tree → ref_at nodes slot page ≡ Some r → ref_in (order_of nodes tree) slot page ≡ Some r
live-entry nodes pages tree slot page r table rooted shape at =
    let found = some_of (entry_in (order_of nodes tree) slot) (has-entry nodes pages tree slot page r table rooted shape at) in
    ap (λ (o : Option FrozenEntry). slice_get (unwrap_or (option_map (λ (x : FrozenEntry). x.refs) o) []) page) found.1
    ∙ ap (λ (rs : List Ref). slice_get rs page) (found-refs nodes tree slot found.0 found.1)
    ∙ at

-- ---- the frozen view

pub freeze-follows : (live : ActiveState) (frozen : FrozenState) → IsTable live.index.nodes → IsRooted live.index.nodes → frozen.pages ≡ live.pages → frozen.order ≡ order_of live.index.nodes (blank_tree live.index.nodes) → LiveFollows frozen live
freeze-follows live frozen table rooted pages order slot page reference out = record {
  at = ap (λ (es : List FrozenEntry). ref_in es slot page) order ∙ live-entry live.index.nodes live.pages (blank_tree live.index.nodes) slot page reference table rooted (blank-shape live.index.nodes table rooted) out.at;
  apart = ap (λ (ps : List (PageKey × KeptPage)). kept_page ps slot page) pages ∙ out.apart;
}

pub view-over : (v : ViewState) (live : ActiveState) → IsLiveOver v.index live → KeepsLimits live → IsTable live.index.nodes → IsRooted live.index.nodes → length live.index.nodes ≡ length v.index.nodes → IsViewOver v.index live.index.nodes (blank_tree live.index.nodes) live.pages
view-over v live over few table rooted slots = record {
  table = table;
  rooted = rooted;
  is_tree = blank-tree live.index.nodes table rooted;
  shape = blank-shape live.index.nodes table rooted;
  slots = slots;
  few = omega (arith, few, ap (λ (l : Limits). l.pages) over.limits);
  references = λ slot k r none at. over.relies slot k r (record { at = at; apart = none });
}

pub frozen-over : (v : ViewState) (live : ActiveState) (frozen : FrozenState) → IsLiveOver v.index live → IsTable live.index.nodes → IsRooted live.index.nodes → KeepsFiles live.index.nodes live.pages → frozen.pages ≡ live.pages → frozen.order ≡ order_of live.index.nodes (blank_tree live.index.nodes) → CanFollow v.index (next_of (order_of live.index.nodes (blank_tree live.index.nodes)) live.pages) → IsFrozenOver v.index frozen
frozen-over v live frozen over table rooted files pages order can = record {
  can = subst (λ (es : List FrozenEntry). CanFollow v.index (next_of es frozen.pages)) (sym order)
      (subst (λ (ps : List (PageKey × KeptPage)). CanFollow v.index (next_of (order_of live.index.nodes (blank_tree live.index.nodes)) ps)) (sym pages) can);
  entries = λ slot page some. (
      let had = some_of (ref_at live.index.nodes slot page) (files slot page (subst (λ (ps : List (PageKey × KeptPage)). IsSome (kept_page ps slot page)) pages some)) in
      let at = live-entry live.index.nodes live.pages (blank_tree live.index.nodes) slot page had.0 table rooted (blank-shape live.index.nodes table rooted) had.1 in
      subst (λ (o : Option Ref). IsSome o) (sym (ap (λ (es : List FrozenEntry). ref_in es slot page) order ∙ at)) refl);
  relies = λ slot page r out. over.relies slot page r (record {
    at = entry-live live.index.nodes (blank_tree live.index.nodes) slot page r (sym (ap (λ (es : List FrozenEntry). ref_in es slot page) order) ∙ out.at);
    apart = sym (ap (λ (ps : List (PageKey × KeptPage)). kept_page ps slot page) pages) ∙ out.apart;
  });
}
