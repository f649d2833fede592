-- How often places are named, once claims are made and references are set.
use Rattle.std.proofs.Common.{◌≡◌, ℕ, zero, suc, ◌+◌, ◌-◌, ◌<◌, ◌≤◌, Bool, true, false, cond, ◌&&◌, ◌||◌, eqb, ltb, leb, List, [], ◌∷◌, drop, length, get_or, map, slice_set, Option, Some, None, unwrap_or, Result, Ok, Err, refl, sym, ap, subst, ◌∙◌, inl, inr, arith}
use Rattle.std.specs.List.{All, list_any, sum_by}
use Rattle.std.specs.Option.{option_and_then, option_map}
use Rattle.std.proofs.lemmas.Bool.{and_parts, cases_Bool, cases_eq, cases_lt, cond-false, cond-true, eq-eqb, eqb-true, le-ltb, leb-false, leb-true, lt-ltb, ltb-false, ltb-true, ne_eqb, or_parts}
use Rattle.std.proofs.lemmas.List.{get_or-set_other, get_or-set_same}
use Rattle.std.proofs.lemmas.List.Elements.{All-cons, All-head, All-nil, All-tail, All-weaker}
use Rattle.std.proofs.lemmas.List.Sums.{sum_by-cons}
use Rattle.vb_block.specs.declared.digest.Ref.{Ref}
use Rattle.vb_block.specs.declared.why.Why.{Why}
use Rattle.vb_block.specs.declared.why.Why.TheVariants.{Place, PlaceTwice}
use Rattle.vb_index.specs.declared.held.Held.{Held}
use Rattle.vb_index.specs.Changes.{with_ref}
use Rattle.vb_index.specs.Nodes.{held_at, is_file_node, refs_of}
use Rattle.vb_nodes.specs.Claiming.{ClaimsState, claim_answer, is_claimed, is_outside, with_claim}
use Rattle.vb_store.specs.declared.map_page.MapPage.{MapPage}
use Rattle.vb_store.specs.Metadata.{all_claimed_by, claimed_by, claims_or_refusal, with_ref_at, with_refs_at}
use Rattle.vb_store.specs.Namings.{AreBlanksNamed, AreNamedOnce, claims_of, count_of, names_page, namings_in, namings_of_slot, places_of_maps}
use Rattle.vb_store.specs.Views.{places_of}
use Rattle.vb_store.proofs.Chains.{and_then-ok}
use Rattle.vb_store.proofs.MountRests.{drop-next}

-- one where the test holds
abbrev one_if : Bool → ℕ
one_if b = cond b 1 0

pub count-cons : (other place : ℕ) (places : List ℕ) → count_of other (place ∷ places) ≡ one_if (eqb place other) + count_of other places
count-cons other place places = sum_by-cons (λ p. cond (eqb p other) 1 0) place places

-- ---- claims that are made

-- a place of the range was claimed, and wasn't before
pub record IsTaken (claims : ClaimsState) (place : ℕ) (all : ClaimsState) : Type 0 where
  pub inside : claims.first ≤ place
  pub first : all.first ≡ claims.first
  pub counts : (other : ℕ) → claims_of all other ≡ claims_of claims other + one_if (eqb place other)

pub claimed_below : (claims : ClaimsState) (place : ℕ) → place < claims.first → is_claimed claims place ≡ false
claimed_below claims place below = cond-true (ltb place claims.first) false (get_or claims.taken (place - claims.first) false) (lt-ltb place claims.first below)

pub claimed_from : (claims : ClaimsState) (place : ℕ) → claims.first ≤ place → is_claimed claims place ≡ get_or claims.taken (place - claims.first) false
claimed_from claims place inside = cond-false (ltb place claims.first) false (get_or claims.taken (place - claims.first) false) (le-ltb place claims.first inside)

claimed_after : (claims : ClaimsState) (place other : ℕ) → claims.first ≤ place → place < claims.first + length claims.taken → is_claimed (with_claim claims place) other ≡ (eqb place other || is_claimed claims other)
claimed_after claims place other from below = elim (cases_eq place other) [
  | inl same ↦ claimed_from (with_claim claims place) other (omega (arith, same, from))
      ∙ ap (λ (n : ℕ). get_or (slice_set claims.taken (place - claims.first) true) (n - claims.first) false) (sym same)
      ∙ get_or-set_same claims.taken (place - claims.first) true false (omega (arith, from, below))
      ∙ sym (ap (λ (b : Bool). b || is_claimed claims other) (eq-eqb place other same))
  | inr apart ↦ elim (cases_lt other claims.first) [
    | inl before ↦ claimed_below (with_claim claims place) other before ∙ sym (claimed_below claims other before) ∙ sym (ap (λ (b : Bool). b || is_claimed claims other) (ne_eqb place other apart))
    | inr after ↦ claimed_from (with_claim claims place) other after
        ∙ get_or-set_other claims.taken (place - claims.first) (other - claims.first) true false (λ same. apart (omega (arith, same, from, after)))
        ∙ sym (claimed_from claims other after) ∙ sym (ap (λ (b : Bool). b || is_claimed claims other) (ne_eqb place other apart))
  ]
]

open_by : (outside claimed : Bool) → (let r : Result (Unit {0}) Why = cond outside (Err Place) (cond claimed (Err PlaceTwice) (Ok tt)) in r ≡ Ok tt) → (outside ≡ false) × (claimed ≡ false)
open_by true claimed is = absurd (cc is)
open_by false true is = absurd (cc is)
open_by false false is = (refl, refl)

counts_by : (same was : Bool) → (same ≡ true → was ≡ false) → one_if (same || was) ≡ one_if was + one_if same
counts_by true true apart = absurd (let not : true ≡ false = apart refl in cc not)
counts_by true false apart = refl
counts_by false true apart = refl
counts_by false false apart = refl

pub claim-taken : (claims : ClaimsState) (place : ℕ) → claim_answer claims place ≡ Ok tt → IsTaken claims place (with_claim claims place)
claim-taken claims place is =
    let free = open_by (is_outside claims place) (is_claimed claims place) is in
    let within = or_parts (ltb place claims.first) (leb (claims.first + length claims.taken) place) free.0 in
    let from : claims.first ≤ place = ltb-false place claims.first within.0 in
    let below : place < claims.first + length claims.taken = leb-false (claims.first + length claims.taken) place within.1 in
    record {
      inside = from;
      first = refl;
      counts = λ other. ap one_if (claimed_after claims place other from below)
          ∙ counts_by (eqb place other) (is_claimed claims other) (λ same. ap (is_claimed claims) (sym (eqb-true place other same)) ∙ free.1);
    }

answered : (block : ℕ) (claims all : ClaimsState) (r : Result (Unit {0}) Why) → claims_or_refusal block claims r ≡ Ok all → (r ≡ Ok tt) × (claims ≡ all)
answered block claims all (Ok done) is = (refl, cc is)
answered block claims all (Err why) is = absurd (cc is)

taken-by : (block : ℕ) (claims : ClaimsState) (place : ℕ) (all : ClaimsState) → claimed_by block claims place ≡ Ok all → IsTaken claims place all
taken-by block claims place all is =
    let made = answered block (with_claim claims place) all (claim_answer claims place) is in
    subst (IsTaken claims place) made.1 (claim-taken claims place made.0)

-- places of the range were claimed that references name
pub record AreTaken (claims : ClaimsState) (refs : List Ref) (all : ClaimsState) : Type 0 where
  pub inside : All (λ r. claims.first ≤ r.place) refs
  pub first : all.first ≡ claims.first
  pub counts : (other : ℕ) → claims_of all other ≡ claims_of claims other + count_of other (places_of refs)

pub claims-taken : (block : ℕ) (claims : ClaimsState) (refs : List Ref) (all : ClaimsState) → all_claimed_by block claims refs ≡ Ok all → AreTaken claims refs all
claims-taken block claims [] all is =
    let same : claims ≡ all = cc is in
    record {
      inside = All-nil (λ r. claims.first ≤ r.place);
      first = ap (λ (c : ClaimsState). c.first) (sym same);
      counts = λ other. omega (arith, ap (λ (c : ClaimsState). claims_of c other) same);
    }
claims-taken block claims (r ∷ rs) all is =
    let one = and_then-ok (claimed_by block claims r.place) (λ more. all_claimed_by block more rs) all is in
    let head : IsTaken claims r.place one.value = taken-by block claims r.place one.value one.is in
    let rest : AreTaken one.value rs all = claims-taken block one.value rs all one.then in
    record {
      inside = All-cons (λ x. claims.first ≤ x.place) r rs head.inside (subst (λ (n : ℕ). All (λ x. n ≤ x.place) rs) head.first rest.inside);
      first = rest.first ∙ head.first;
      counts = λ other. omega (arith, rest.counts other, head.counts other, count-cons other r.place (places_of rs));
    }

-- ---- references that are set

-- a sum after an item was replaced
pub sum_set : {A : Type 0} (f : A → ℕ) (xs : List A) (i : ℕ) (y d : A) (more : ℕ) → f y ≤ f (get_or xs i d) + more → sum_by f (slice_set xs i y) ≤ sum_by f xs + more
sum_set f [] i y d more few = omega arith
sum_set f (x ∷ xs) zero y d more few = omega (arith, few, sum_by-cons f y xs, sum_by-cons f x xs)
sum_set f (x ∷ xs) (suc i) y d more few = omega (arith, sum_set f xs i y d more few, sum_by-cons f x (slice_set xs i y), sum_by-cons f x xs)

count_set : (place : ℕ) (refs : List Ref) (page : ℕ) (r : Ref) → count_of place (places_of (slice_set refs page r)) ≤ count_of place (places_of refs) + one_if (eqb r.place place)
count_set place [] page r = omega arith
count_set place (x ∷ xs) zero r = omega (arith, count-cons place r.place (places_of xs), count-cons place x.place (places_of xs))
count_set place (x ∷ xs) (suc page) r = omega (arith, count_set place xs page r, count-cons place x.place (places_of (slice_set xs page r)), count-cons place x.place (places_of xs))

namings_by : (file blank : Bool) (place page : ℕ) (r : Ref) (refs : List Ref) (maps : ℕ) → (let pick : List Ref → List Ref = λ l. unwrap_or (cond file (Some l) None) [] in maps + cond blank 0 (count_of place (places_of (pick (slice_set refs page r)))) ≤ maps + cond blank 0 (count_of place (places_of (pick refs))) + one_if (eqb r.place place))
namings_by file true place page r refs maps = omega arith
namings_by true false place page r refs maps = omega (arith, count_set place refs page r)
namings_by false false place page r refs maps = omega arith

namings_with_ref : (place page : ℕ) (r : Ref) (o : Option Held) → namings_of_slot place (option_map (with_ref page r) o) ≤ namings_of_slot place o + one_if (eqb r.place place)
namings_with_ref place page r None = omega arith
namings_with_ref place page r (Some held) = namings_by (is_file_node held.node.kind) (eqb place 0) place page r held.refs (count_of place (places_of held.node.maps))

namings_with_refs : (place : ℕ) (refs : List Ref) (slots : List (Option Held)) (slot first : ℕ) → namings_in place (with_refs_at slots slot first refs) ≤ namings_in place slots + count_of place (places_of refs)
namings_with_refs place [] slots slot first = omega arith
namings_with_refs place (r ∷ rs) slots slot first =
    omega (
      arith,
      namings_with_refs place rs (with_ref_at slots slot first r) slot (first + 1),
      sum_set (namings_of_slot place) slots slot (option_map (with_ref first r) (held_at slots slot)) None (one_if (eqb r.place place)) (namings_with_ref place first r (held_at slots slot)),
      count-cons place r.place (places_of rs),
    )

-- no place is named twice, once a map page's place is claimed
pub AreNamedOnce-claimed : (slots : List (Option Held)) (claims all : ClaimsState) (m : MapPage) (ms : List MapPage) → AreNamedOnce slots claims (m ∷ ms) → IsTaken claims m.reference.place all → AreNamedOnce slots all ms
AreNamedOnce-claimed slots claims all m ms named taken = record {
  once = λ place. omega (arith, named.once place, taken.counts place, count-cons place m.reference.place (places_of_maps ms));
}

-- nor once references are set whose places are claimed
pub AreNamedOnce-set : (slots : List (Option Held)) (slot first : ℕ) (refs : List Ref) (claims all : ClaimsState) (left : List MapPage) → AreNamedOnce slots claims left → AreTaken claims refs all → AreNamedOnce (with_refs_at slots slot first refs) all left
AreNamedOnce-set slots slot first refs claims all left named taken = record {
  once = λ place. omega (arith, named.once place, taken.counts place, namings_with_refs place refs slots slot first);
}

-- ---- blank references

-- whether the reference of a page of what a slot holds is blank
blank_in : Option Held → ℕ → Bool
blank_in o page = get_or (map (λ (r : Ref). eqb r.place 0) (unwrap_or (option_and_then refs_of o) [])) page false

-- a page is blank, and was so before, and isn't this one
record WasBlank (was : Bool) (same : Type 0) : Type 0 where
  blank : was ≡ true
  apart : same → ⊥

blank_set : (refs : List Ref) (page other : ℕ) (r : Ref) → eqb r.place 0 ≡ false → get_or (map (λ (x : Ref). eqb x.place 0) (slice_set refs page r)) other false ≡ true → WasBlank (get_or (map (λ (x : Ref). eqb x.place 0) refs) other false) (other ≡ page)
blank_set [] page other r set is = absurd (cc is)
blank_set (x ∷ xs) zero zero r set is = absurd (cc (set, is))
blank_set (x ∷ xs) zero (suc other) r set is = record { blank = is; apart = λ same. cc same }
blank_set (x ∷ xs) (suc page) zero r set is = record { blank = is; apart = λ same. cc same }
blank_set (x ∷ xs) (suc page) (suc other) r set is = let rest = blank_set xs page other r set is in record { blank = rest.blank; apart = λ same. rest.apart (omega (arith, same)) }

blank_by : (file : Bool) (refs : List Ref) (page other : ℕ) (r : Ref) → eqb r.place 0 ≡ false → (let pick : List Ref → List Ref = λ l. unwrap_or (cond file (Some l) None) [] in get_or (map (λ (x : Ref). eqb x.place 0) (pick (slice_set refs page r))) other false ≡ true → WasBlank (get_or (map (λ (x : Ref). eqb x.place 0) (pick refs)) other false) (other ≡ page))
blank_by true refs page other r set is = blank_set refs page other r set is
blank_by false refs page other r set is = absurd (cc is)

blank_with_ref : (page other : ℕ) (r : Ref) (o : Option Held) → eqb r.place 0 ≡ false → blank_in (option_map (with_ref page r) o) other ≡ true → WasBlank (blank_in o other) (other ≡ page)
unfolding blank_in
blank_with_ref page other r None set is = absurd (cc is)
blank_with_ref page other r (Some held) set is = blank_by (is_file_node held.node.kind) held.refs page other r set is

blank_set_slot : (slots : List (Option Held)) (slot other page first : ℕ) (new : Option Held) → (blank_in new page ≡ true → WasBlank (blank_in (get_or slots slot None) page) (page ≡ first)) → blank_in (get_or (slice_set slots slot new) other None) page ≡ true → WasBlank (blank_in (get_or slots other None) page) ((other ≡ slot) × (page ≡ first))
unfolding blank_in
blank_set_slot [] slot other page first new before is = absurd (cc is)
blank_set_slot (s ∷ slots) zero zero page first new before is = let was = before is in record { blank = was.blank; apart = λ same. was.apart same.1 }
blank_set_slot (s ∷ slots) zero (suc other) page first new before is = record { blank = is; apart = λ same. let no = same.0 in cc no }
blank_set_slot (s ∷ slots) (suc slot) zero page first new before is = record { blank = is; apart = λ same. let no = same.0 in cc no }
blank_set_slot (s ∷ slots) (suc slot) (suc other) page first new before is =
    let rest = blank_set_slot slots slot other page first new before is in record { blank = rest.blank; apart = λ same. rest.apart (omega (arith, same.0), same.1) }

-- a page of a file that so many references from a page on are of
record IsWithin (slot first many other page : ℕ) : Type 0 where
  same : other ≡ slot
  from : first ≤ page
  below : page < first + many

blank_with_refs : (refs : List Ref) (slots : List (Option Held)) (slot first other page : ℕ) → All (λ r. 0 < r.place) refs → blank_in (held_at (with_refs_at slots slot first refs) other) page ≡ true → WasBlank (blank_in (held_at slots other) page) (IsWithin slot first (length refs) other page)
blank_with_refs [] slots slot first other page above is = record { blank = is; apart = λ within. omega (arith, within.from, within.below) }
blank_with_refs (r ∷ rs) slots slot first other page above is =
    let rest = blank_with_refs rs (with_ref_at slots slot first r) slot (first + 1) other page (All-tail (λ x. 0 < x.place) r rs above) is in
    let some : 0 < r.place = All-head (λ x. 0 < x.place) r rs above in
    let here = blank_set_slot slots slot other page first (option_map (with_ref first r) (held_at slots slot)) (blank_with_ref first page r (held_at slots slot) (ne_eqb r.place 0 (λ no. omega (arith, no, some)))) rest.blank in
    record {
      blank = here.blank;
      apart = λ within. elim (cases_eq page first) [
        | inl same ↦ here.apart (within.same, same)
        | inr differs ↦ rest.apart (record { same = within.same; from = omega (arith, within.from, differs); below = omega (arith, within.below) })
      ];
    }

named_by : (here rest : Bool) → here ≡ false → (here || rest) ≡ true → rest ≡ true
named_by true rest not is = absurd (cc not)
named_by false rest not is = is

-- once its references are set, a map page names no blank one
pub AreBlanksNamed-set : (slots : List (Option Held)) (m : MapPage) (ms : List MapPage) (refs : List Ref) → AreBlanksNamed slots (m ∷ ms) → length refs ≡ m.count → All (λ r. 0 < r.place) refs → AreBlanksNamed (with_refs_at slots m.slot m.first refs) ms
unfolding blank_in
AreBlanksNamed-set slots m ms refs named many above = record {
  each = λ slot page blank.
      let was = blank_with_refs refs slots m.slot m.first slot page above blank in
      named_by (names_page slot page m) (list_any (names_page slot page) ms) (not_named m slot page (λ within. was.apart (subst (λ (n : ℕ). IsWithin m.slot m.first n slot page) (sym many) within))) (named.each slot page was.blank);
} where
  not_named : (m : MapPage) (slot page : ℕ) → (IsWithin m.slot m.first m.count slot page → ⊥) → names_page slot page m ≡ false
  not_named m slot page apart = elim (cases_Bool (names_page slot page m)) [
    | inr is ↦ is
    | inl is ↦ absurd (
        let parts = and_parts (eqb m.slot slot) (leb m.first page && ltb page (m.first + m.count)) is in
        let range = and_parts (leb m.first page) (ltb page (m.first + m.count)) parts.1 in
        apart (record { same = sym (eqb-true m.slot slot parts.0); from = leb-true m.first page range.0; below = ltb-true page (m.first + m.count) range.1 }))
  ]

-- ---- the next map page

pub AreNamedOnce-next : (slots : List (Option Held)) (claims new : ClaimsState) (maps : List MapPage) (next : ℕ) (m : MapPage) → next < length maps → m ≡ get_or maps next m → Ok tt ≡ claim_answer claims m.reference.place → new ≡ with_claim claims m.reference.place → AreNamedOnce slots claims (drop next maps) → AreNamedOnce slots new (drop (next + 1) maps)
AreNamedOnce-next slots claims new maps next m within is answer made named =
    AreNamedOnce-claimed slots claims new m (drop (next + 1) maps) (subst (λ (l : List MapPage). AreNamedOnce slots claims l) (drop-next maps next m within is) named)
    (subst (IsTaken claims m.reference.place) (sym made) (claim-taken claims m.reference.place (sym answer)))

pub AreBlanksNamed-next : (slots : List (Option Held)) (maps : List MapPage) (next : ℕ) (m : MapPage) → next < length maps → m ≡ get_or maps next m → AreBlanksNamed slots (drop next maps) → AreBlanksNamed slots (m ∷ drop (next + 1) maps)
AreBlanksNamed-next slots maps next m within is named = subst (λ (l : List MapPage). AreBlanksNamed slots l) (drop-next maps next m within is) named

-- a map page's references are set, and their places claimed
pub AreNamedOnce-read : (slots new : List (Option Held)) (slot first block : ℕ) (refs : List Ref) (claims all : ClaimsState) (left : List MapPage) → AreNamedOnce slots claims left → all_claimed_by block claims refs ≡ Ok all → new ≡ with_refs_at slots slot first refs → AreNamedOnce new all left
AreNamedOnce-read slots new slot first block refs claims all left named taken set =
    subst (λ s. AreNamedOnce s all left) (sym set) (AreNamedOnce-set slots slot first refs claims all left named (claims-taken block claims refs all taken))

pub AreBlanksNamed-read : (slots new : List (Option Held)) (m : MapPage) (ms : List MapPage) (block : ℕ) (refs : List Ref) (claims all : ClaimsState) → AreBlanksNamed slots (m ∷ ms) → length refs ≡ m.count → 0 < claims.first → all_claimed_by block claims refs ≡ Ok all → new ≡ with_refs_at slots m.slot m.first refs → AreBlanksNamed new ms
AreBlanksNamed-read slots new m ms block refs claims all named many some taken set =
    let inside = claims-taken block claims refs all taken in
    subst (λ s. AreBlanksNamed s ms) (sym set) (AreBlanksNamed-set slots m ms refs named many
    (All-weaker (λ r. claims.first ≤ r.place) (λ r. 0 < r.place) (λ r from. omega (arith, from, some)) refs inside.inside))
