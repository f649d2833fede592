-- References that map pages set: each lies in the data places, once no map page is left.
use Rattle.std.proofs.Common.{◌≡◌, ◌≢◌, ℕ, zero, suc, ◌+◌, ◌<◌, ◌≤◌, Bool, true, false, cond, not, List, [], ◌∷◌, length, get_or, drop, slice_set, ◌*◌, Option, Some, None, Result, Ok, Err, refl, sym, ap, subst, ◌∙◌, ◌⊎◌, inl, inr, arith}
use Rattle.std.proofs.lemmas.Bool.{cases_eq}
use Rattle.std.proofs.lemmas.List.{get_or-set_other, get_or-set_same, length-set}
use Rattle.std.proofs.lemmas.List.Elements.{All-cons, All-head, All-nil, All-tail}
use Rattle.std.specs.List.{All}
use Rattle.std.specs.Option.{option_map}
use Rattle.std.specs.Str.{bytes_eq}
use Rattle.sha2.specs.Sha256.{sha256}
use Rattle.vb_block.specs.declared.digest.Ref.{Ref}
use Rattle.vb_index.specs.declared.held.Held.{Held}
use Rattle.vb_index.specs.Changes.{blank_ref, with_ref}
use Rattle.vb_index.specs.Nodes.{held_at}
use Rattle.vb_inode.specs.declared.errors.MapError.{MapError}
use Rattle.vb_inode.specs.declared.errors.MapError.TheVariants.{Wrong, Memory}
use Rattle.vb_inode.specs.Checks.{are_zeros}
use Rattle.vb_inode.specs.Layout.{refs_in}
use Rattle.vb_inode.specs.Reading.{map_read}
use Rattle.vb_block.specs.declared.why.Why.TheVariants.{Rest}
use Rattle.vb_journal.specs.declared.recover_error.RecoverError.{RecoverError}
use Rattle.vb_journal.specs.declared.recover_error.RecoverError.TheVariants.{Damaged}
use Rattle.vb_nodes.specs.Claiming.{ClaimsState}
use Rattle.vb_store.specs.declared.map_page.MapPage.{MapPage}
use Rattle.vb_store.specs.Metadata.{Mapped, after_claim, after_page, all_claimed_by, and_then, claimed_by, map_checked, maps_left, refs_or_refusal, with_ref_at, with_refs_at}
use Rattle.vb_store.proofs.Chains.{and_then-ok, refuse-ok}
use Rattle.vb_store.proofs.ClaimsMade.{after_claim-named, after_page-first, claimed-made}

-- ---- which pages are still to be named

-- a page of a slot is one of so many from this one on
pub record IsAmong (slot first count s page : ℕ) : Type 0 where
  pub slot_is : s ≡ slot
  pub from : first ≤ page
  pub below : page < first + count

-- one of these map pages names it
abbrev pub IsNamedBy : List MapPage → ℕ → ℕ → Type 0
IsNamedBy [] s page = ⊥
IsNamedBy (m ∷ ms) s page = IsAmong m.slot m.first m.count s page ⊎ IsNamedBy ms s page

-- the reference of each page names a place from this one on, or the page is one of those
abbrev pub AreInsideOr : ℕ → (ℕ → ℕ → Type 0) → List (Option Held) → Type 0
AreInsideOr start Q slots = (s page : ℕ) (held : Held) → held_at slots s ≡ Some held → page < length held.refs → (start ≤ (get_or held.refs page blank_ref).place) ⊎ Q s page

inside-weaker : (start : ℕ) (P Q : ℕ → ℕ → Type 0) (slots : List (Option Held)) → ((s page : ℕ) → P s page → Q s page) → AreInsideOr start P slots → AreInsideOr start Q slots
inside-weaker start P Q slots goes are s page held is below = elim (are s page held is below) [
  | inl inside ↦ inl inside
  | inr other ↦ inr (goes s page other)
]

-- ---- one reference

held_set : (slots : List (Option Held)) (slot : ℕ) (new : Option Held) (held : Held) → get_or (slice_set slots slot new) slot None ≡ Some held → new ≡ Some held
held_set [] slot new held is = absurd (cc is)
held_set (o ∷ slots) zero new held is = is
held_set (o ∷ slots) (suc slot) new held is = held_set slots slot new held is

-- what was held before
record HadRef (page : ℕ) (r : Ref) (o : Option Held) (held : Held) : Type 0 where
  pub before : Held
  pub was : o ≡ Some before
  pub refs : held.refs ≡ slice_set before.refs page r

had_ref : (page : ℕ) (r : Ref) (o : Option Held) (held : Held) → option_map (with_ref page r) o ≡ Some held → HadRef page r o held
had_ref page r None held is = absurd (cc is)
had_ref page r (Some before) held is =
    let same : with_ref page r before ≡ held = cc is in
    record { before = before; was = refl; refs = ap (λ (h : Held). h.refs) (sym same) }

-- the reference that was set, or another of the same file
ref_set : (start : ℕ) (P : Type 0) (refs old : List Ref) (place page : ℕ) (r : Ref) → start ≤ r.place → refs ≡ slice_set old place r → page < length refs → (page ≢ place → (start ≤ (get_or old page blank_ref).place) ⊎ P) → (start ≤ (get_or refs page blank_ref).place) ⊎ P
ref_set start P refs old place page r inside is below others =
    let Q : List Ref → Type 0 = λ l. (start ≤ (get_or l page blank_ref).place) ⊎ P in
    let within : page < length old = omega (arith, below, ap length is, length-set old place r) in
    subst Q (sym is) (elim (cases_eq page place) [
      | inl same ↦
          let R : ℕ → Type 0 = λ n. start ≤ (get_or (slice_set old place r) n blank_ref).place in
          inl (subst R (sym same) (subst (λ (x : Ref). start ≤ x.place) (sym (get_or-set_same old place r blank_ref (omega (arith, within, same)))) inside))
      | inr apart ↦
          let S : Ref → Type 0 = λ x. (start ≤ x.place) ⊎ P in
          subst S (sym (get_or-set_other old place page r blank_ref apart)) (others apart)
    ])

-- where a page is the one that is set or one of those, it is one of those
but_one : (P Q : Type 0) (s slot page first : ℕ) → (P ⊎ Q) → (P → (s ≡ slot) × (page ≡ first)) → (s ≡ slot → page ≢ first) → Q
but_one P Q s slot page first (inl p) both apart = let at = both p in absurd (apart at.0 at.1)
but_one P Q s slot page first (inr q) both apart = q

set_one : (start : ℕ) (Q : ℕ → ℕ → Type 0) (slots : List (Option Held)) (slot first : ℕ) (r : Ref) → start ≤ r.place → AreInsideOr start (λ s page. ((s ≡ slot) × (page ≡ first)) ⊎ Q s page) slots → AreInsideOr start Q (with_ref_at slots slot first r)
set_one start Q slots slot first r inside are s page held is below = elim (cases_eq s slot) [
  | inl same ↦
      let new : Option Held = option_map (with_ref first r) (held_at slots slot) in
      let here : get_or (slice_set slots slot new) slot None ≡ Some held = subst (λ (n : ℕ). get_or (slice_set slots slot new) n None ≡ Some held) same is in
      let had = had_ref first r (held_at slots slot) held (held_set slots slot new held here) in
      let was : held_at slots s ≡ Some had.before = ap (held_at slots) same ∙ had.was in
      ref_set start (Q s page) held.refs had.before.refs first page r inside had.refs below (λ apart.
      elim (are s page had.before was (omega (arith, below, ap length had.refs, length-set had.before.refs first r))) [
        | inl there ↦ inl there
        | inr other ↦ inr (but_one ((s ≡ slot) × (page ≡ first)) (Q s page) s slot page first other (λ p. p) (λ at. apart))
      ])
  | inr apart ↦
      let was : held_at slots s ≡ Some held = sym (get_or-set_other slots slot s (option_map (with_ref first r) (held_at slots slot)) None apart) ∙ is in
      elim (are s page held was below) [
        | inl there ↦ inl there
        | inr other ↦ inr (but_one ((s ≡ slot) × (page ≡ first)) (Q s page) s slot page first other (λ p. p) (λ at. absurd (apart at)))
      ]
]

-- ---- those of a map page

one_of : (Q : ℕ → ℕ → Type 0) (slot first n s page : ℕ) → IsAmong slot first (suc n) s page ⊎ Q s page → ((s ≡ slot) × (page ≡ first)) ⊎ (IsAmong slot (first + 1) n s page ⊎ Q s page)
one_of Q slot first n s page (inr q) = inr (inr q)
one_of Q slot first n s page (inl among) = elim (cases_eq page first) [
  | inl same ↦ inl (among.slot_is, same)
  | inr apart ↦ inr (inl (record { slot_is = among.slot_is; from = omega (arith, apart, among.from); below = omega (arith, among.below) }))
]

none_of : (Q : ℕ → ℕ → Type 0) (slot first s page : ℕ) → IsAmong slot first 0 s page ⊎ Q s page → Q s page
none_of Q slot first s page (inl among) = absurd (omega (arith, among.from, among.below))
none_of Q slot first s page (inr q) = q

refs_set : (start : ℕ) (Q : ℕ → ℕ → Type 0) (refs : List Ref) (slots : List (Option Held)) (slot first : ℕ) → All (λ r. start ≤ r.place) refs → AreInsideOr start (λ s page. IsAmong slot first (length refs) s page ⊎ Q s page) slots → AreInsideOr start Q (with_refs_at slots slot first refs)
refs_set start Q [] slots slot first inside are = inside-weaker start (λ s page. IsAmong slot first 0 s page ⊎ Q s page) Q slots (none_of Q slot first) are
refs_set start Q (r ∷ rs) slots slot first inside are =
    let In : Ref → Type 0 = λ x. start ≤ x.place in
    let R : ℕ → ℕ → Type 0 = λ s page. IsAmong slot (first + 1) (length rs) s page ⊎ Q s page in
    refs_set start Q rs (with_ref_at slots slot first r) slot (first + 1) (All-tail In r rs inside)
    (set_one start R slots slot first r (All-head In r rs inside)
    (inside-weaker start (λ s page. IsAmong slot first (suc (length rs)) s page ⊎ Q s page) (λ s page. ((s ≡ slot) × (page ≡ first)) ⊎ R s page) slots (one_of Q slot first (length rs)) are))

-- as many as the map page counts, in the range of the claims
pub length-refs_in : (count : ℕ) (bytes : List ℕ) → length (refs_in count bytes) ≡ count
length-refs_in zero bytes = refl
length-refs_in (suc n) bytes = ap suc (length-refs_in n _)

counted : (zeros : Bool) (count : ℕ) (page : List ℕ) (refs : List Ref) (r : Result (List Ref) MapError) → r ≡ cond zeros (Ok (refs_in count page)) (Err (Wrong Rest)) → r ≡ Ok refs → length refs ≡ count
counted true count page refs r by is = let same : refs_in count page ≡ refs = cc (by, is) in ap length (sym same) ∙ length-refs_in count page
counted false count page refs r by is = absurd (cc (by, is))

map_read_count : (count : ℕ) (page : List ℕ) (refs : List Ref) → map_read count page ≡ Ok refs → length refs ≡ count
unfolding map_read
map_read_count count page refs is = counted (are_zeros (drop (36 * count) page)) count page refs (map_read count page) refl is

unrefused : (place : ℕ) (r : Result (List Ref) MapError) (refs : List Ref) → refs_or_refusal place r ≡ Ok refs → r ≡ Ok refs
unrefused place (Ok l) refs is = cc is
unrefused place (Err (Wrong why)) refs is = absurd (cc is)
unrefused place (Err Memory) refs is = absurd (cc is)

map_checked_count : (m : MapPage) (page : List ℕ) (refs : List Ref) → map_checked m page ≡ Ok refs → length refs ≡ m.count
map_checked_count m page refs is =
    let passed = refuse-ok (not (bytes_eq m.reference.digest (sha256 page))) (Damaged m.reference.place m.reference.digest (sha256 page)) (refs_or_refusal m.reference.place (map_read m.count page)) refs is in
    map_read_count m.count page refs (unrefused m.reference.place (map_read m.count page) refs passed.then)

all_claimed_inside : (block start : ℕ) (claims : ClaimsState) (refs : List Ref) (all : ClaimsState) → claims.first ≡ start → all_claimed_by block claims refs ≡ Ok all → All (λ r. start ≤ r.place) refs
all_claimed_inside block start claims [] all first is = All-nil (λ r. start ≤ r.place)
all_claimed_inside block start claims (r ∷ rs) all first is =
    let one = and_then-ok (claimed_by block claims r.place) (λ more. all_claimed_by block more rs) all is in
    let made = claimed-made block claims r.place one.value one.is in
    All-cons (λ x. start ≤ x.place) r rs (omega (arith, made.inside, first))
    (all_claimed_inside block start one.value rs all (ap (λ (c : ClaimsState). c.first) (sym made.made) ∙ first) one.then)

page_set : (start : ℕ) (Q : ℕ → ℕ → Type 0) (m : MapPage) (page : List ℕ) (known end : Mapped) → known.claims.first ≡ start → after_page m page known ≡ Ok end → AreInsideOr start (λ s p. IsAmong m.slot m.first m.count s p ⊎ Q s p) known.slots → AreInsideOr start Q end.slots
page_set start Q m page known end first is are =
    let last : List Ref → ClaimsState → Result Mapped RecoverError = λ refs all. Ok (record { slots = with_refs_at known.slots m.slot m.first refs; claims = all }) in
    let one = and_then-ok (map_checked m page) (λ refs. and_then (all_claimed_by m.reference.place known.claims refs) (last refs)) end is in
    let two = and_then-ok (all_claimed_by m.reference.place known.claims one.value) (last one.value) end one.then in
    let same : (let next : Mapped = record { slots = with_refs_at known.slots m.slot m.first one.value; claims = two.value } in next ≡ end) = cc two.then in
    let inside = all_claimed_inside m.reference.place start known.claims one.value two.value first two.is in
    subst (λ (k : Mapped). AreInsideOr start Q k.slots) same
    (refs_set start Q one.value known.slots m.slot m.first inside
    (subst (λ (n : ℕ). AreInsideOr start (λ s p. IsAmong m.slot m.first n s p ⊎ Q s p) known.slots) (sym (map_checked_count m page one.value one.is)) are))

-- ---- those of all map pages

claim_keeps : (block : ℕ) (m : MapPage) (known end : Mapped) → after_claim block m known ≡ Ok end → end.slots ≡ known.slots
claim_keeps block m known end is =
    let one = and_then-ok (claimed_by block known.claims m.reference.place) (λ claims. Ok (record known { claims = claims })) end is in
    let same : (let next : Mapped = record known { claims = one.value } in next ≡ end) = cc one.then in
    ap (λ (k : Mapped). k.slots) (sym same)

-- once none is left, each reference lies in the range
pub maps-set : (start : ℕ) (reads : ℕ → List ℕ) (places : ℕ → ℕ) (maps : List MapPage) (known end : Mapped) → known.claims.first ≡ start → maps_left reads places maps known ≡ Ok end → AreInsideOr start (IsNamedBy maps) known.slots → AreInsideOr start (λ s page. ⊥) end.slots
maps-set start reads places [] known end first is are =
    let same : known ≡ end = cc is in subst (λ (k : Mapped). AreInsideOr start (λ s page. ⊥) k.slots) same are
maps-set start reads places (m ∷ ms) known end first is are =
    let one = and_then-ok (after_claim (places m.slot) m known) (λ claimed. and_then (after_page m (reads m.reference.place) claimed) (maps_left reads places ms)) end is in
    let two = and_then-ok (after_page m (reads m.reference.place) one.value) (maps_left reads places ms) end one.then in
    let claimed : one.value.claims.first ≡ start = (after_claim-named (places m.slot) m known one.value one.is).first_is ∙ first in
    let kept : AreInsideOr start (IsNamedBy (m ∷ ms)) one.value.slots = subst (AreInsideOr start (IsNamedBy (m ∷ ms))) (sym (claim_keeps (places m.slot) m known one.value one.is)) are in
    maps-set start reads places ms two.value end (after_page-first m (reads m.reference.place) one.value two.value two.is ∙ claimed) two.then
    (page_set start (IsNamedBy ms) m (reads m.reference.place) one.value two.value claimed two.is kept)
