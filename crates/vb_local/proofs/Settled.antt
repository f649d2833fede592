-- A page that is settled: what the views have out of memory afterwards.
use Rattle.std.proofs.Common.{◌≡◌, ◌≢◌, ℕ, zero, suc, Bool, true, false, cond, eqb, ◌&&◌, List, [], ◌∷◌, set, slice_get, Option, Some, None, IsSome, is_some, unwrap_or, refl, sym, ap, subst, ◌∙◌, ◌⊎◌, inl, inr}
use Rattle.std.specs.Option.{option_and_then, option_map}
use Rattle.std.specs.List.{find}
use Rattle.std.proofs.lemmas.Bool.{cases_Bool, false≢true}
use Rattle.std.proofs.lemmas.Bool.Decides.{Decides-eqb}
use Rattle.std.specs.Prelude.{◌==◌}
use Rattle.vb_block.specs.declared.digest.Ref.{Ref}
use Rattle.vb_disk.specs.States.{DiskState}
use Rattle.vb_tree.specs.declared.tree.TreeEntry.{TreeEntry}
use Rattle.vb_index.specs.declared.held.Held.{Held}
use Rattle.vb_index.specs.Changes.{with_ref}
use Rattle.vb_index.specs.Nodes.{held_at, is_file_node, refs_of, IsTable}
use Rattle.vb_index.proofs.Contents.{ref-contents}
use Rattle.vb_index.proofs.Tables.{at_other, at_same, held_in_table}
use Rattle.vb_pages.specs.declared.kept.KeptPage.{KeptPage}
use Rattle.vb_pages.specs.declared.kept.PageKey.{PageKey}
use Rattle.vb_pages.specs.Disks.{first_at, HoldsOnly}
use Rattle.vb_pages.specs.Tables.{kept_page, Forgets}
use Rattle.vb_active.specs.Performs.{HasTreeOn}
use Rattle.vb_active.specs.Views.{ActiveState, Backs, IsOut, KeepsFiles, due_page, ref_at}
use Rattle.vb_frozen.specs.declared.entry.FrozenEntry.{FrozenEntry}
use Rattle.vb_frozen.specs.Orders as orders
use Rattle.vb_frozen.specs.Orders.{refs_in, with_reference}
use Rattle.vb_local.specs.Ties.{ref_in, FrozenRelies, FrozenState, HaveDigests, KeepsEntries, LiveRelies}

-- ---- a list of references, one of which was replaced

set_here : (refs : List Ref) (page : ℕ) (reference r : Ref) → slice_get (set refs page reference) page ≡ Some r → r ≡ reference
set_here [] page reference r at = absurd (cc at)
set_here (x ∷ rs) zero reference r at = let e : reference ≡ r = cc at in sym e
set_here (x ∷ rs) (suc k) reference r at = set_here rs k reference r at

set_beside : (refs : List Ref) (page k : ℕ) (reference : Ref) → k ≢ page → slice_get (set refs page reference) k ≡ slice_get refs k
set_beside [] page k reference apart = refl
set_beside (r ∷ rs) zero zero reference apart = absurd (apart refl)
set_beside (r ∷ rs) zero (suc k) reference apart = refl
set_beside (r ∷ rs) (suc page) zero reference apart = refl
set_beside (r ∷ rs) (suc page) (suc k) reference apart = set_beside rs page k reference (λ e. apart (ap (λ n. suc n) e))

set_some : (refs : List Ref) (page k : ℕ) (reference : Ref) → IsSome (slice_get refs k) → IsSome (slice_get (set refs page reference) k)
set_some [] page k reference some = some
set_some (r ∷ rs) zero zero reference some = refl
set_some (r ∷ rs) zero (suc k) reference some = some
set_some (r ∷ rs) (suc page) zero reference some = some
set_some (r ∷ rs) (suc page) (suc k) reference some = set_some rs page k reference some

-- ---- a page that a table forgot

unequal : (a b : ℕ) → a ≢ b → (a == b) ≡ false
unequal a b apart = elim (cases_Bool (a == b)) [ inl h ↦ absurd (apart ((Decides-eqb a b).0 h)) | inr h ↦ h ]

-- another page was out of it before
out_other : (pages left : List (PageKey × KeptPage)) (slot page s k : ℕ) → Forgets pages left slot page → ((s == slot) && (k == page)) ≡ false → kept_page left s k ≡ None → kept_page pages s k ≡ None
out_other pages left slot page s k forgets other none = sym (forgets s k ∙ ap (λ b. cond b None (kept_page pages s k)) other) ∙ none

some_before : (pages left : List (PageKey × KeptPage)) (slot page s k : ℕ) → Forgets pages left slot page → IsSome (kept_page left s k) → IsSome (kept_page pages s k)
some_before pages left slot page s k forgets some = by ((s == slot) && (k == page)) (subst IsSome (forgets s k) some) where
  by : (b : Bool) → IsSome (cond b None (kept_page pages s k)) → IsSome (kept_page pages s k)
  by true is = absurd (let no : is_some {T = List ℕ} None ≡ true = is in false≢true no)
  by false is = is

-- whether it is the page
pub record IsThere (slot page s k : ℕ) : Type 0 where
  pub slots : s ≡ slot
  pub pages : k ≡ page

pub which : (slot page s k : ℕ) → IsThere slot page s k ⊎ (((s == slot) && (k == page)) ≡ false)
which slot page s k = elim (cases_Bool (s == slot)) [
  | inr other ↦ inr (ap (λ (b : Bool). b && (k == page)) other)
  | inl same ↦ elim (cases_Bool (k == page)) [
    | inr beside ↦ inr (ap (λ (b : Bool). b && (k == page)) same ∙ beside)
    | inl here ↦ inl (record { slots = (Decides-eqb s slot).0 same; pages = (Decides-eqb k page).0 here })
  ]
]

-- ---- the live view

-- the references of every other slot stay
ref_at-other : (nodes : List (Option Held)) (slot s page : ℕ) (new : Option Held) → (s == slot) ≡ false → ref_at (set nodes slot new) s page ≡ ref_at nodes s page
ref_at-other nodes slot s page new apart = ap (λ (o : Option Held). slice_get (unwrap_or (option_and_then refs_of o) []) page) (at_other nodes slot s new apart)

-- the references of a file, one of which was replaced
file_here : (held : Held) (page : ℕ) (reference r : Ref) → slice_get (unwrap_or (refs_of (with_ref page reference held)) []) page ≡ Some r → r ≡ reference
file_here held page reference r at = by (is_file_node held.node.kind) at where
  by : (b : Bool) → slice_get (unwrap_or (cond b (Some (set held.refs page reference)) None) []) page ≡ Some r → r ≡ reference
  by true at = set_here held.refs page reference r at
  by false at = absurd (cc at)

file_beside : (held : Held) (page k : ℕ) (reference : Ref) → k ≢ page → slice_get (unwrap_or (refs_of (with_ref page reference held)) []) k ≡ slice_get (unwrap_or (refs_of held) []) k
file_beside held page k reference apart = by (is_file_node held.node.kind) where
  by : (b : Bool) → slice_get (unwrap_or (cond b (Some (set held.refs page reference)) None) []) k ≡ slice_get (unwrap_or (cond b (Some held.refs) None) []) k
  by true = set_beside held.refs page k reference apart
  by false = refl

pub ref-here : (nodes : List (Option Held)) (slot page : ℕ) (reference r : Ref) (held : Held) → held_at nodes slot ≡ Some held → ref_at (set nodes slot (Some (with_ref page reference held))) slot page ≡ Some r → r ≡ reference
ref-here nodes slot page reference r held there at =
    let here = at_same nodes slot slot (Some (with_ref page reference held)) (held_in_table nodes slot held there) refl in
    file_here held page reference r (sym (ap (λ (o : Option Held). slice_get (unwrap_or (option_and_then refs_of o) []) page) here) ∙ at)

pub ref-beside : (nodes : List (Option Held)) (slot page s k : ℕ) (reference : Ref) (held : Held) → held_at nodes slot ≡ Some held → ((s == slot) && (k == page)) ≡ false → ref_at (set nodes slot (Some (with_ref page reference held))) s k ≡ ref_at nodes s k
ref-beside nodes slot page s k reference held there other = elim (cases_Bool (s == slot)) [
  | inr apart ↦ ref_at-other nodes slot s k (Some (with_ref page reference held)) apart
  | inl same ↦ (
      let slots : s ≡ slot = (Decides-eqb s slot).0 same in
      let here = at_same nodes slot s (Some (with_ref page reference held)) (held_in_table nodes slot held there) slots in
      let was : held_at nodes s ≡ Some held = ap (held_at nodes) slots ∙ there in
      let away : (k == page) ≡ false = sym (ap (λ (b : Bool). b && (k == page)) same) ∙ other in
      let apart : k ≢ page = λ e. false≢true (sym away ∙ (Decides-eqb k page).1 e) in
      ap (λ (o : Option Held). slice_get (unwrap_or (option_and_then refs_of o) []) k) here
      ∙ file_beside held page k reference apart
      ∙ sym (ap (λ (o : Option Held). slice_get (unwrap_or (option_and_then refs_of o) []) k) was))
]

-- what is so of each page that was out of memory, and of the settled one at its reference, is so of each that is out now
settled-out : (P : ℕ → ℕ → Ref → Type 0) (old new : ActiveState) (slot page : ℕ) (reference : Ref) (held : Held) → ((s k : ℕ) (r : Ref) → IsOut old s k r → P s k r) → P slot page reference → held_at old.index.nodes slot ≡ Some held → new.index.nodes ≡ set old.index.nodes slot (Some (with_ref page reference held)) → Forgets old.pages new.pages slot page → (s k : ℕ) (r : Ref) → IsOut new s k r → P s k r
settled-out P old new slot page reference held was there holds made forgets s k r out = elim (which slot page s k) [
  | inl here ↦ (
      let at_page : ref_at (set old.index.nodes slot (Some (with_ref page reference held))) slot page ≡ Some r =
      ap (λ (n : ℕ). ref_at (set old.index.nodes slot (Some (with_ref page reference held))) n page) (sym here.slots)
      ∙ ap (ref_at (set old.index.nodes slot (Some (with_ref page reference held))) s) (sym here.pages) ∙ at in
      let same : r ≡ reference = ref-here old.index.nodes slot page reference r held holds at_page in
      subst (λ (n : ℕ). P n k r) (sym here.slots) (subst (λ (n : ℕ). P slot n r) (sym here.pages) (subst (P slot page) (sym same) there)))
  | inr other ↦ was s k r (record {
    at = sym (ref-beside old.index.nodes slot page s k reference held holds other) ∙ at;
    apart = out_other old.pages new.pages slot page s k forgets other out.apart;
  })
] where
  at : ref_at (set old.index.nodes slot (Some (with_ref page reference held))) s k ≡ Some r
  at = ap (λ (ns : List (Option Held)). ref_at ns s k) (sym made) ∙ out.at

pub settled-live : (nodes : List (Option Held)) (old new : ActiveState) (slot page : ℕ) (reference : Ref) (held : Held) → LiveRelies nodes old → ref_at nodes slot page ≡ Some reference → held_at old.index.nodes slot ≡ Some held → new.index.nodes ≡ set old.index.nodes slot (Some (with_ref page reference held)) → Forgets old.pages new.pages slot page → LiveRelies nodes new
settled-live nodes old new slot page reference held relies there holds made forgets =
    settled-out (λ s k r. ref_at nodes s k ≡ Some r) old new slot page reference held relies there holds made forgets

pub settled-backs : (d : DiskState) (old new : ActiveState) (slot page : ℕ) (reference : Ref) (held : Held) → Backs d old → HoldsOnly (d.cells reference.place) reference.digest → held_at old.index.nodes slot ≡ Some held → new.index.nodes ≡ set old.index.nodes slot (Some (with_ref page reference held)) → Forgets old.pages new.pages slot page → Backs d new
settled-backs d old new slot page reference held backs holds_only holds made forgets =
    settled-out (λ s k r. HoldsOnly (d.cells r.place) r.digest) old new slot page reference held backs holds_only holds made forgets

-- ---- its tree

some_of : {X : Type 0} (o : Option X) → IsSome o → (x : X) × (o ≡ Some x)
some_of None some = absurd (false≢true some)
some_of (Some x) some = (x, refl)

file_some : (held : Held) (page : ℕ) (reference : Ref) → IsSome (slice_get (unwrap_or (refs_of held) []) page) → IsSome (slice_get (unwrap_or (refs_of (with_ref page reference held)) []) page)
file_some held page reference some = by (is_file_node held.node.kind) some where
  by : (b : Bool) → IsSome (slice_get (unwrap_or (cond b (Some held.refs) None) []) page) → IsSome (slice_get (unwrap_or (cond b (Some (set held.refs page reference)) None) []) page)
  by true is = set_some held.refs page page reference is
  by false is = is

-- the settled page has its reference
ref_set : (nodes : List (Option Held)) (slot page : ℕ) (reference : Ref) (held : Held) → held_at nodes slot ≡ Some held → IsSome (ref_at nodes slot page) → ref_at (set nodes slot (Some (with_ref page reference held))) slot page ≡ Some reference
ref_set nodes slot page reference held there some =
    let here = at_same nodes slot slot (Some (with_ref page reference held)) (held_in_table nodes slot held there) refl in
    let was : IsSome (slice_get (unwrap_or (refs_of held) []) page) = subst (λ (o : Option Held). IsSome (slice_get (unwrap_or (option_and_then refs_of o) []) page)) there some in
    let got = some_of (ref_at (set nodes slot (Some (with_ref page reference held))) slot page)
    (subst (λ (o : Option Held). IsSome (slice_get (unwrap_or (option_and_then refs_of o) []) page)) (sym here) (file_some held page reference was)) in
    got.1 ∙ ap Some (ref-here nodes slot page reference got.0 held there got.1)

-- each page is due as before
settled-due : (d : DiskState) (old new : ActiveState) (slot page : ℕ) (reference : Ref) (held : Held) (bytes : List ℕ) → KeepsFiles old.index.nodes old.pages → kept_page old.pages slot page ≡ Some bytes → (d.cells reference.place).first ≡ bytes → held_at old.index.nodes slot ≡ Some held → new.index.nodes ≡ set old.index.nodes slot (Some (with_ref page reference held)) → Forgets old.pages new.pages slot page → (s k : ℕ) → due_page new d s k ≡ due_page old d s k
unfolding due_page
settled-due d old new slot page reference held bytes files kept first holds made forgets s k = elim (which slot page s k) [
  | inl here ↦ (
      let gone : kept_page new.pages s k ≡ None = forgets s k ∙ ap (λ (b : Bool). cond b None (kept_page old.pages s k)) (ap (λ (b : Bool). b && (k == page)) ((Decides-eqb s slot).1 here.slots) ∙ (Decides-eqb k page).1 here.pages) in
      let was : kept_page old.pages s k ≡ Some bytes = ap (λ (n : ℕ). kept_page old.pages n k) here.slots ∙ ap (kept_page old.pages slot) here.pages ∙ kept in
      let there : ref_at new.index.nodes s k ≡ Some reference =
      ap (λ (ns : List (Option Held)). ref_at ns s k) made
      ∙ ap (λ (n : ℕ). ref_at (set old.index.nodes slot (Some (with_ref page reference held))) n k) here.slots
      ∙ ap (ref_at (set old.index.nodes slot (Some (with_ref page reference held))) slot) here.pages
      ∙ ref_set old.index.nodes slot page reference held holds (files slot page (ap is_some kept)) in
      ap (λ (o : Option (List ℕ)). unwrap_or o (first_at d (ref_at new.index.nodes s k))) gone
      ∙ ap (first_at d) there ∙ first
      ∙ sym (ap (λ (o : Option (List ℕ)). unwrap_or o (first_at d (ref_at old.index.nodes s k))) was))
  | inr other ↦ (
      let same : kept_page new.pages s k ≡ kept_page old.pages s k = forgets s k ∙ ap (λ (b : Bool). cond b None (kept_page old.pages s k)) other in
      let there : ref_at new.index.nodes s k ≡ ref_at old.index.nodes s k = ap (λ (ns : List (Option Held)). ref_at ns s k) made ∙ ref-beside old.index.nodes slot page s k reference held holds other in
      ap (λ (o : Option (List ℕ)). unwrap_or o (first_at d (ref_at new.index.nodes s k))) same
      ∙ ap (λ (o : Option Ref). unwrap_or (kept_page old.pages s k) (first_at d o)) there)
]

pub settled-tree : (d : DiskState) (old new : ActiveState) (slot page : ℕ) (reference : Ref) (held : Held) (bytes : List ℕ) (tree : List TreeEntry) → IsTable old.index.nodes → KeepsFiles old.index.nodes old.pages → HasTreeOn d old tree → kept_page old.pages slot page ≡ Some bytes → (d.cells reference.place).first ≡ bytes → held_at old.index.nodes slot ≡ Some held → new.index.nodes ≡ set old.index.nodes slot (Some (with_ref page reference held)) → Forgets old.pages new.pages slot page → HasTreeOn d new tree
settled-tree d old new slot page reference held bytes tree table files has kept first holds made forgets =
    ref-contents old.index.nodes new.index.nodes tree slot page reference held (due_page new d) table holds
    (record {
      is_tree = has.is_tree;
      shape = has.shape;
      contents = λ path s at k below. settled-due d old new slot page reference held bytes files kept first holds made forgets s k ∙ has.contents path s at k below;
    }) made

-- ---- the frozen view

refs_with : (slot page s : ℕ) (reference : Ref) (es : List FrozenEntry) → refs_in (with_reference slot page reference es) s ≡ cond (s == slot) (set (refs_in es s) page reference) (refs_in es s)
refs_with slot page s reference [] = by (s == slot) where
  by : (b : Bool) → [] ≡ cond b (set [] page reference) []
  by true = refl
  by false = refl
refs_with slot page s reference (e ∷ es) = elim (cases_Bool (eqb e.slot slot)) [
  | inl here ↦ (
      let at : e.slot ≡ slot = (Decides-eqb e.slot slot).0 here in
      ap (λ (b : Bool). refs_in (cond b (orders.with_ref page reference e ∷ es) (e ∷ with_reference slot page reference es)) s) here ∙ first at)
  | inr away ↦
      ap (λ (b : Bool). refs_in (cond b (orders.with_ref page reference e ∷ es) (e ∷ with_reference slot page reference es)) s) away
      ∙ later (λ at. false≢true (sym away ∙ (Decides-eqb e.slot slot).1 at)) (refs_with slot page s reference es)
] where
  refs_of_found : Option FrozenEntry → List Ref
  refs_of_found o = unwrap_or (option_map (λ (x : FrozenEntry). x.refs) o) []

  first : e.slot ≡ slot → refs_in (orders.with_ref page reference e ∷ es) s ≡ cond (s == slot) (set (refs_in (e ∷ es) s) page reference) (refs_in (e ∷ es) s)
  first at = elim (cases_Bool (eqb e.slot s)) [
    | inl same ↦ (
        let is : s ≡ slot = sym ((Decides-eqb e.slot s).0 same) ∙ at in
        ap (λ (b : Bool). refs_of_found (cond b (Some (orders.with_ref page reference e)) (find (λ x. eqb x.slot s) es))) same
        ∙ sym (ap (λ (b : Bool). set (refs_of_found (cond b (Some e) (find (λ x. eqb x.slot s) es))) page reference) same)
        ∙ sym (ap (λ (b : Bool). cond b (set (refs_in (e ∷ es) s) page reference) (refs_in (e ∷ es) s)) ((Decides-eqb s slot).1 is)))
    | inr other ↦ (
        let apart : (s == slot) ≡ false = unequal s slot (λ is. false≢true (sym other ∙ (Decides-eqb e.slot s).1 (at ∙ sym is))) in
        ap (λ (b : Bool). refs_of_found (cond b (Some (orders.with_ref page reference e)) (find (λ x. eqb x.slot s) es))) other
        ∙ sym (ap (λ (b : Bool). refs_of_found (cond b (Some e) (find (λ x. eqb x.slot s) es))) other)
        ∙ sym (ap (λ (b : Bool). cond b (set (refs_in (e ∷ es) s) page reference) (refs_in (e ∷ es) s)) apart))
  ]

  later : e.slot ≢ slot → refs_in (with_reference slot page reference es) s ≡ cond (s == slot) (set (refs_in es s) page reference) (refs_in es s) → refs_in (e ∷ with_reference slot page reference es) s ≡ cond (s == slot) (set (refs_in (e ∷ es) s) page reference) (refs_in (e ∷ es) s)
  later away rest = elim (cases_Bool (eqb e.slot s)) [
    | inl same ↦ (
        let apart : (s == slot) ≡ false = unequal s slot (λ is. away ((Decides-eqb e.slot s).0 same ∙ is)) in
        ap (λ (b : Bool). refs_of_found (cond b (Some e) (find (λ x. eqb x.slot s) (with_reference slot page reference es)))) same
        ∙ sym (ap (λ (b : Bool). refs_of_found (cond b (Some e) (find (λ x. eqb x.slot s) es))) same)
        ∙ sym (ap (λ (b : Bool). cond b (set (refs_in (e ∷ es) s) page reference) (refs_in (e ∷ es) s)) apart))
    | inr other ↦ (
        let was : refs_in (e ∷ es) s ≡ refs_in es s = ap (λ (b : Bool). refs_of_found (cond b (Some e) (find (λ x. eqb x.slot s) es))) other in
        ap (λ (b : Bool). refs_of_found (cond b (Some e) (find (λ x. eqb x.slot s) (with_reference slot page reference es)))) other
        ∙ rest
        ∙ sym (ap (λ (rs : List Ref). cond (s == slot) (set rs page reference) rs) was))
  ]

-- the reference of the page, and those of the others
pub entry-here : (order : List FrozenEntry) (slot page : ℕ) (reference r : Ref) → ref_in (with_reference slot page reference order) slot page ≡ Some r → r ≡ reference
entry-here order slot page reference r at =
    set_here (refs_in order slot) page reference r
    (sym (ap (λ (rs : List Ref). slice_get rs page) (refs_with slot page slot reference order ∙ ap (λ (b : Bool). cond b (set (refs_in order slot) page reference) (refs_in order slot)) ((Decides-eqb slot slot).1 refl))) ∙ at)

pub entry-beside : (order : List FrozenEntry) (slot page s k : ℕ) (reference : Ref) → ((s == slot) && (k == page)) ≡ false → ref_in (with_reference slot page reference order) s k ≡ ref_in order s k
entry-beside order slot page s k reference other = ap (λ (rs : List Ref). slice_get rs k) (refs_with slot page s reference order) ∙ by (s == slot) other where
  by : (b : Bool) → (b && (k == page)) ≡ false → slice_get (cond b (set (refs_in order s) page reference) (refs_in order s)) k ≡ slice_get (refs_in order s) k
  by true away = set_beside (refs_in order s) page k reference (λ e. false≢true (sym away ∙ (Decides-eqb k page).1 e))
  by false away = refl

entry_some : (order : List FrozenEntry) (slot page s k : ℕ) (reference : Ref) → IsSome (ref_in order s k) → IsSome (ref_in (with_reference slot page reference order) s k)
entry_some order slot page s k reference some = subst (λ (rs : List Ref). IsSome (slice_get rs k)) (sym (refs_with slot page s reference order)) (by (s == slot)) where
  by : (b : Bool) → IsSome (slice_get (cond b (set (refs_in order s) page reference) (refs_in order s)) k)
  by true = set_some (refs_in order s) page k reference some
  by false = some

pub settled-frozen : (nodes : List (Option Held)) (old new : FrozenState) (slot page : ℕ) (reference : Ref) → FrozenRelies nodes old → ref_at nodes slot page ≡ Some reference → new.order ≡ with_reference slot page reference old.order → Forgets old.pages new.pages slot page → FrozenRelies nodes new
settled-frozen nodes old new slot page reference relies there made forgets s k r out = elim (which slot page s k) [
  | inl here ↦ (
      let at_page : ref_in (with_reference slot page reference old.order) slot page ≡ Some r =
      ap (λ (n : ℕ). ref_in (with_reference slot page reference old.order) n page) (sym here.slots)
      ∙ ap (ref_in (with_reference slot page reference old.order) s) (sym here.pages) ∙ at in
      let same : r ≡ reference = entry-here old.order slot page reference r at_page in
      ap (λ (n : ℕ). ref_at nodes n k) here.slots ∙ ap (ref_at nodes slot) here.pages ∙ there ∙ ap Some (sym same))
  | inr other ↦ relies s k r (record {
    at = sym (entry-beside old.order slot page s k reference other) ∙ at;
    apart = out_other old.pages new.pages slot page s k forgets other out.apart;
  })
] where
  at : ref_in (with_reference slot page reference old.order) s k ≡ Some r
  at = ap (λ (es : List FrozenEntry). ref_in es s k) (sym made) ∙ out.at

pub settled-entries : (old new : FrozenState) (slot page : ℕ) (reference : Ref) → KeepsEntries old → new.order ≡ with_reference slot page reference old.order → Forgets old.pages new.pages slot page → KeepsEntries new
settled-entries old new slot page reference keeps made forgets s k some =
    subst (λ (es : List FrozenEntry). IsSome (ref_in es s k)) (sym made)
    (entry_some old.order slot page s k reference (keeps s k (some_before old.pages new.pages slot page s k forgets some)))

-- ---- the digests

some_kept : (pages left : List (PageKey × KeptPage)) (slot page s k : ℕ) (bytes : List ℕ) → Forgets pages left slot page → kept_page left s k ≡ Some bytes → kept_page pages s k ≡ Some bytes
some_kept pages left slot page s k bytes forgets kept = by ((s == slot) && (k == page)) (sym (forgets s k) ∙ kept) where
  by : (b : Bool) → cond b None (kept_page pages s k) ≡ Some bytes → kept_page pages s k ≡ Some bytes
  by true is = absurd (cc is)
  by false is = is

pub settled-digests : (nodes : List (Option Held)) (old new : FrozenState) (slot page : ℕ) → HaveDigests nodes old → Forgets old.pages new.pages slot page → HaveDigests nodes new
settled-digests nodes old new slot page digests forgets s k bytes kept = digests s k bytes (some_kept old.pages new.pages slot page s k bytes forgets kept)
