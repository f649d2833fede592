-- Nodes of an index that changed in one slot.
use Rattle.std.proofs.Common.{◌≡◌, ℕ, ◌<◌, Bool, true, false, List, [], length, set, Option, Some, None, IsSome, is_some, cond, refl, sym, ap, subst, ◌∙◌, inl, inr, arith}
use Rattle.std.proofs.lemmas.Grind.{get_or-set_at}
use Rattle.std.proofs.lemmas.List.{get_or-set_other}
use Rattle.std.proofs.lemmas.Option.{slice_get-get_or, slice_get_within}
use Rattle.std.specs.Prelude.{◌⊎◌, unwrap_or, slice_get, ◌==◌, ◌&&◌, if◌then◌else◌}
use Rattle.std.proofs.lemmas.Bool.{cases_Bool, false≢true}
use Rattle.std.proofs.lemmas.Bool.Decides.{Decides-eqb}
use Rattle.vb_block.specs.declared.digest.Ref.{Ref}
use Rattle.vb_index.specs.declared.held.Held.{Held}
use Rattle.vb_index.specs.Nodes.{held_at, is_file_node, refs_of}
use Rattle.vb_index.proofs.Tables.{at_same, at_other, held_in_table}
use Rattle.vb_index.specs.Indexes.{IndexState}
use Rattle.vb_pages.specs.declared.kept.KeptPage.{KeptPage}
use Rattle.vb_pages.specs.declared.kept.PageKey.{PageKey}
use Rattle.vb_pages.specs.Tables.{kept_page, Forgets}
use Rattle.vb_active.specs.Views.{ActiveState, KeepsFiles, LiesBelow, ref_at}
use Rattle.vb_active.proofs.Dues.{ref_at-below, ref_at-some}
use Rattle.vb_index.specs.Changes.{with_ref}
use Rattle.std.specs.Option.{option_and_then}
use Rattle.std.proofs.Math.ListN.{length-set}

-- the references of every other slot stay
pub ref_at-other : (nodes : List (Option Held)) (slot s page : ℕ) (new : Option Held) → (s == slot) ≡ false → ref_at (set nodes slot new) s page ≡ ref_at nodes s page
ref_at-other nodes slot s page new apart = ap (λ o. slice_get (unwrap_or (option_refs o) []) page) (at_other nodes slot s new apart) where
  option_refs : Option Held → Option (List Ref)
  option_refs None = None
  option_refs (Some held) = refs_of held

-- a view seen by its parts
pub kept-seen : (index : IndexState) (pages : List (PageKey × KeptPage)) (view : ActiveState) (slot page : ℕ) (o : Option (List ℕ)) → record { index = index; pages = pages } ≡ view → o ≡ kept_page pages slot page → (bytes : List ℕ) → o ≡ Some bytes → kept_page view.pages slot page ≡ Some bytes
kept-seen index pages view slot page o is e bytes some = ap (λ (v : ActiveState). kept_page v.pages slot page) (sym is) ∙ sym e ∙ some

pub none-seen : (index : IndexState) (pages : List (PageKey × KeptPage)) (view : ActiveState) (slot page : ℕ) (o : Option (List ℕ)) → record { index = index; pages = pages } ≡ view → o ≡ kept_page pages slot page → o ≡ None → kept_page view.pages slot page ≡ None
none-seen index pages view slot page o is e none = ap (λ (v : ActiveState). kept_page v.pages slot page) (sym is) ∙ sym e ∙ none

-- a slot has as many references where one of them was replaced
pub settled-files : (nodes new : List (Option Held)) (old_pages pages : List (PageKey × KeptPage)) (slot page : ℕ) (reference : Ref) (held : Held) → KeepsFiles nodes old_pages → held_at nodes slot ≡ Some held → new ≡ set nodes slot (Some (with_ref page reference held)) → Forgets old_pages pages slot page → KeepsFiles new pages
settled-files nodes new old_pages pages slot page reference held files holds e forgets s k some =
    subst (λ ns. IsSome (ref_at ns s k)) (sym e) (has (s == slot) refl) where
      was : (b : Bool) → (s == slot && k == page) ≡ b → IsSome (kept_page old_pages s k)
      was true h = absurd (
          let none : kept_page pages s k ≡ None = forgets s k ∙ ap (λ b. if b then None else kept_page old_pages s k) h in
          let no : is_some {T = List ℕ} None ≡ true = sym (ap is_some none) ∙ some in cc)
      was false h = ap is_some (sym (forgets s k ∙ ap (λ b. if b then None else kept_page old_pages s k) h)) ∙ some

      had : IsSome (ref_at nodes s k)
      had = files s k (was (s == slot && k == page) refl)

      refs_set : (b : Bool) → is_file_node held.node.kind ≡ b → k < length (unwrap_or (refs_of held) []) → k < length (unwrap_or (refs_of (with_ref page reference held)) [])
      refs_set true f below = subst (λ b. k < length (unwrap_or (cond b (Some (set held.refs page reference)) None) [])) (sym f) (omega (arith, subst (λ b. k < length (unwrap_or (cond b (Some held.refs) None) [])) f below, length-set held.refs page reference))
      refs_set false f below = absurd (omega (arith, subst (λ b. k < length (unwrap_or (cond b (Some held.refs) None) [])) f below))

      has : (b : Bool) → (s == slot) ≡ b → IsSome (ref_at (set nodes slot (Some (with_ref page reference held))) s k)
      has false h = ap is_some (ref_at-other nodes slot s k (Some (with_ref page reference held)) h) ∙ had
      has true h =
          let same : s ≡ slot = (Decides-eqb s slot).0 h in
          let at = at_same nodes slot s (Some (with_ref page reference held)) (held_in_table nodes slot held holds) same in
          let old : held_at nodes s ≡ Some held = ap (held_at nodes) same ∙ holds in
          let below : k < length (unwrap_or (refs_of held) []) = ref_at-below (unwrap_or (refs_of held) []) k (subst (λ o. IsSome (slice_get (unwrap_or (option_and_then refs_of o) []) k)) old had) in
          subst (λ o. IsSome (slice_get (unwrap_or (option_and_then refs_of o) []) k)) (sym at) (ref_at-some (unwrap_or (refs_of (with_ref page reference held)) []) k (refs_set (is_file_node held.node.kind) refl below))

-- ---- the places of the pages that aren't in the table, once one of them is settled

-- a reference of the file that was settled is the new one, or as it was
settled-ref : (refs : List Ref) (page k : ℕ) (reference r : Ref) → slice_get (set refs page reference) k ≡ Some r → (r ≡ reference) ⊎ ((k ≡ page → ⊥) × (slice_get refs k ≡ Some r))
settled-ref refs page k reference r at = elim (cases_Bool (k == page)) [
  | inl h ↦ (
      let same : k ≡ page = (Decides-eqb k page).0 h in
      let there : k < length refs = omega (arith, slice_get_within (set refs page reference) k r at, length-set refs page reference) in
      let got : slice_get (set refs page reference) k ≡ Some reference = slice_get-get_or (set refs page reference) k reference (omega (arith, there, length-set refs page reference)) ∙ ap (λ x. Some x) (get_or-set_at refs page k reference reference same (omega (arith, there, same))) in
      let both : Some r ≡ Some reference = sym at ∙ got in
      inl (let e : r ≡ reference = cc in e))
  | inr h ↦ (
      let apart : k ≡ page → ⊥ = λ e. false≢true (sym h ∙ (Decides-eqb k page).1 e) in
      let there : k < length refs = omega (arith, slice_get_within (set refs page reference) k r at, length-set refs page reference) in
      inr (apart, slice_get-get_or refs k reference there ∙ ap (λ x. Some x) (sym (get_or-set_other refs page k reference reference apart)) ∙ sym (slice_get-get_or (set refs page reference) k reference (omega (arith, there, length-set refs page reference))) ∙ at))
]

file-settled : (held : Held) (page k : ℕ) (reference r : Ref) (b : Bool) → is_file_node held.node.kind ≡ b → slice_get (unwrap_or (refs_of (with_ref page reference held)) []) k ≡ Some r → (r ≡ reference) ⊎ ((k ≡ page → ⊥) × (slice_get (unwrap_or (refs_of held) []) k ≡ Some r))
file-settled held page k reference r true f at =
    elim (settled-ref held.refs page k reference r (subst (λ b. slice_get (unwrap_or (cond b (Some (set held.refs page reference)) None) []) k ≡ Some r) f at)) [
      | inl e ↦ inl e
      | inr w ↦ inr (w.0, subst (λ b. slice_get (unwrap_or (cond b (Some held.refs) None) []) k ≡ Some r) (sym f) w.1)
    ]
file-settled held page k reference r false f at = absurd (let no : None ≡ Some r = subst (λ b. slice_get (unwrap_or (cond b (Some (set held.refs page reference)) None) []) k ≡ Some r) f at in cc)

pub settled-below : (old new : ActiveState) (slot page size : ℕ) (reference : Ref) (held : Held) → held_at old.index.nodes slot ≡ Some held → new.index ≡ record old.index { nodes = set old.index.nodes slot (Some (with_ref page reference held)) } → Forgets old.pages new.pages slot page → reference.place < size → LiesBelow size old → LiesBelow size new
settled-below old new slot page size reference held holds made forgets low below s k r out = elim (cases_Bool (s == slot)) [
  | inr h ↦ below s k r (record {
    at = sym (ref_at-other old.index.nodes slot s k (Some (with_ref page reference held)) h) ∙ at;
    apart = sym (forgets s k ∙ ap (λ b. if b && k == page then None else kept_page old.pages s k) h) ∙ out.apart;
  })
  | inl h ↦ (
      let same : s ≡ slot = (Decides-eqb s slot).0 h in
      let here = at_same old.index.nodes slot s (Some (with_ref page reference held)) (held_in_table old.index.nodes slot held holds) same in
      let was : held_at old.index.nodes s ≡ Some held = ap (held_at old.index.nodes) same ∙ holds in
      elim (file-settled held page k reference r (is_file_node held.node.kind) refl (subst (λ o. slice_get (unwrap_or (option_and_then refs_of o) []) k ≡ Some r) here at)) [
        | inl e ↦ subst (λ (x : Ref). x.place < size) (sym e) low
        | inr w ↦ below s k r (record {
          at = ap (λ o. slice_get (unwrap_or (option_and_then refs_of o) []) k) was ∙ w.1;
          apart = sym (forgets s k ∙ ap (λ b. if s == slot && b then None else kept_page old.pages s k) (other w.0) ∙ and_none) ∙ out.apart;
        })
      ])
] where
  at : ref_at (set old.index.nodes slot (Some (with_ref page reference held))) s k ≡ Some r
  at = sym (ap (λ (i : IndexState). ref_at i.nodes s k) made) ∙ out.at

  other : (k ≡ page → ⊥) → (k == page) ≡ false
  other apart = elim (cases_Bool (k == page)) [ inl h ↦ absurd (apart ((Decides-eqb k page).0 h)) | inr h ↦ h ]

  and_none : (if s == slot && false then None else kept_page old.pages s k) ≡ kept_page old.pages s k
  and_none = none_of (s == slot) where
    none_of : (b : Bool) → (if b && false then None else kept_page old.pages s k) ≡ kept_page old.pages s k
    none_of true = refl
    none_of false = refl
