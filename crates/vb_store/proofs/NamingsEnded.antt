-- A tree all of whose map pages were read can be viewed.
use Rattle.std.proofs.Common.{◌≡◌, ℕ, zero, suc, ◌+◌, ◌-◌, ◌<◌, ◌≤◌, Bool, true, false, cond, eqb, List, [], ◌∷◌, ◌++◌, length, get_or, map, slice_set, Option, Some, None, unwrap_or, refl, sym, ap, subst, ◌∙◌, inl, inr, arith}
use Rattle.std.specs.List.{All}
use Rattle.std.specs.Option.{option_and_then, option_map}
use Rattle.std.proofs.Math.ListN.{length-set}
use Rattle.std.proofs.lemmas.Bool.{cases_lt, eq-eqb, eqb-true, false_from_ne_true}
use Rattle.std.proofs.lemmas.List.{get_or_past}
use Rattle.std.proofs.lemmas.List.Elements.{All-cons, All-nil}
use Rattle.std.proofs.lemmas.List.Sums.{sum_by-append, sum_by-cons}
use Rattle.vb_block.specs.declared.digest.Ref.{Ref}
use Rattle.vb_head.specs.declared.head.Head.{Head}
use Rattle.vb_head.specs.declared.head.State.TheVariants.{Closed}
use Rattle.vb_head.specs.Heads.{IsHead}
use Rattle.vb_index.specs.declared.held.Held.{Held}
use Rattle.vb_index.specs.Changes.{with_ref}
use Rattle.vb_index.specs.Indexes.{IndexState}
use Rattle.vb_index.specs.Nodes.{held_at, pages_in, pages_of_slot, refs_of}
use Rattle.vb_inode.specs.Layout.{AreRefs}
use Rattle.vb_nodes.specs.Claiming.{ClaimsState, is_claimed}
use Rattle.vb_tree.specs.declared.tree.Limits.{Limits}
use Rattle.vb_tree.specs.Trees.{data_pages_of, map_pages_of}
use Rattle.vb_store.specs.Metadata.{with_ref_at, with_refs_at}
use Rattle.vb_store.specs.Namings.{AreBlanksNamed, AreNamedOnce, IsIndexOf, claims_of, count_of, is_blank_at, namings_in, namings_of_slot}
use Rattle.vb_store.specs.Views.{CanView, data_start, places_in, places_of, places_of_slot}
use Rattle.vb_store.proofs.Namings.{claimed_below, claimed_from, count-cons, sum_set}

-- ---- references that are set keep what an index is

kept_slot : (P : Option Held → Type 0) → ((page : ℕ) (r : Ref) (o : Option Held) → P o → P (option_map (with_ref page r) o)) → (slots : List (Option Held)) (slot page : ℕ) (r : Ref) → ((k : ℕ) → P (get_or slots k None)) → (k : ℕ) → P (get_or (slice_set slots slot (option_map (with_ref page r) (get_or slots slot None))) k None)
kept_slot P keeps [] slot page r all k = all k
kept_slot P keeps (s ∷ slots) zero page r all zero = keeps page r s (all 0)
kept_slot P keeps (s ∷ slots) zero page r all (suc k) = all (suc k)
kept_slot P keeps (s ∷ slots) (suc slot) page r all zero = all 0
kept_slot P keeps (s ∷ slots) (suc slot) page r all (suc k) = kept_slot P keeps slots slot page r (λ j. all (suc j)) k

kept : (P : Option Held → Type 0) → ((page : ℕ) (r : Ref) (o : Option Held) → P o → P (option_map (with_ref page r) o)) → (refs : List Ref) (slots : List (Option Held)) (slot first : ℕ) → ((k : ℕ) → P (held_at slots k)) → (k : ℕ) → P (held_at (with_refs_at slots slot first refs) k)
kept P keeps [] slots slot first all k = all k
kept P keeps (r ∷ rs) slots slot first all k = kept P keeps rs (with_ref_at slots slot first r) slot (first + 1) (kept_slot P keeps slots slot first r all) k

pages_with_ref : (page : ℕ) (r : Ref) (o : Option Held) → pages_of_slot (option_map (with_ref page r) o) ≤ pages_of_slot o + 0
pages_with_ref page r None = omega arith
pages_with_ref page r (Some held) = omega arith

pages_with_refs : (refs : List Ref) (slots : List (Option Held)) (slot first : ℕ) → pages_in (with_refs_at slots slot first refs) ≤ pages_in slots
pages_with_refs [] slots slot first = omega arith
pages_with_refs (r ∷ rs) slots slot first =
    omega (arith, pages_with_refs rs (with_ref_at slots slot first r) slot (first + 1), sum_set pages_of_slot slots slot (option_map (with_ref first r) (held_at slots slot)) None 0 (pages_with_ref first r (held_at slots slot)))

-- what is held has a reference for each page
abbrev IsReferred : Option Held → Type 0
IsReferred o = (held : Held) → o ≡ Some held → length held.refs ≡ data_pages_of held.node.length

-- and one for each map page
abbrev IsMapped : Option Held → Type 0
IsMapped o = (held : Held) → o ≡ Some held → length held.node.maps ≡ map_pages_of held.node.length

referred_with_ref : (page : ℕ) (r : Ref) (o : Option Held) → IsReferred o → IsReferred (option_map (with_ref page r) o)
referred_with_ref page r None all held is = absurd (cc is)
referred_with_ref page r (Some old) all held is =
    let same : with_ref page r old ≡ held = cc is in
    subst (λ (h : Held). length h.refs ≡ data_pages_of h.node.length) same (length-set old.refs page r ∙ all old refl)

mapped_with_ref : (page : ℕ) (r : Ref) (o : Option Held) → IsMapped o → IsMapped (option_map (with_ref page r) o)
mapped_with_ref page r None all held is = absurd (cc is)
mapped_with_ref page r (Some old) all held is =
    let same : with_ref page r old ≡ held = cc is in
    subst (λ (h : Held). length h.node.maps ≡ map_pages_of h.node.length) same (all old refl)

-- the references of whose map pages can stand in a block
abbrev IsNamed : Option Held → Type 0
IsNamed o = (held : Held) → o ≡ Some held → AreRefs held.node.maps

named_with_ref : (page : ℕ) (r : Ref) (o : Option Held) → IsNamed o → IsNamed (option_map (with_ref page r) o)
named_with_ref page r None all held is = absurd (cc is)
named_with_ref page r (Some old) all held is =
    let same : with_ref page r old ≡ held = cc is in
    subst (λ (h : Held). AreRefs h.node.maps) same (all old refl)

slots_with_refs : (refs : List Ref) (slots : List (Option Held)) (slot first : ℕ) → length (with_refs_at slots slot first refs) ≡ length slots
slots_with_refs [] slots slot first = refl
slots_with_refs (r ∷ rs) slots slot first = slots_with_refs rs (with_ref_at slots slot first r) slot (first + 1) ∙ length-set slots slot (option_map (with_ref first r) (held_at slots slot))

pub IsIndexOf-set : (head : Head) (old new : IndexState) (slot first : ℕ) (refs : List Ref) → IsIndexOf head old → new.limits ≡ old.limits → new.nodes ≡ with_refs_at old.nodes slot first refs → IsIndexOf head new
IsIndexOf-set head old new slot first refs is limits nodes =
    let Fits : List (Option Held) → (Option Held → Type 0) → Type 0 = λ slots P. (k : ℕ) → P (held_at slots k) in
    record {
      slots = ap length nodes ∙ slots_with_refs refs old.nodes slot first ∙ is.slots;
      limits = limits ∙ is.limits;
      pages = omega (arith, is.pages, ap (λ (l : Limits). l.pages) limits, ap pages_in nodes, pages_with_refs refs old.nodes slot first);
      refs = subst (λ slots. Fits slots IsReferred) (sym nodes) (kept IsReferred referred_with_ref refs old.nodes slot first is.refs);
      maps = subst (λ slots. Fits slots IsMapped) (sym nodes) (kept IsMapped mapped_with_ref refs old.nodes slot first is.maps);
      map_refs = subst (λ slots. Fits slots IsNamed) (sym nodes) (kept IsNamed named_with_ref refs old.nodes slot first is.map_refs);
    }

-- ---- places that are named

claimed_within : (claims : ClaimsState) (place : ℕ) → is_claimed claims place ≡ true → (claims.first ≤ place) × (place < claims.first + length claims.taken)
claimed_within claims place is = elim (cases_lt place claims.first) [
  | inl below ↦ absurd (let none = claimed_below claims place below in cc (none, is))
  | inr from ↦ elim (cases_lt (place - claims.first) (length claims.taken)) [
    | inl within ↦ (from, omega (arith, within, from))
    | inr past ↦ absurd (let none = claimed_from claims place from ∙ get_or_past claims.taken (place - claims.first) false past in cc (none, is))
  ]
]

claims_by : (claimed : Bool) → 0 < cond claimed 1 0 → claimed ≡ true
claims_by true some = refl
claims_by false some = absurd (omega (arith, some))

claims_few : (claimed : Bool) → cond claimed 1 0 ≤ 1
claims_few true = omega arith
claims_few false = omega arith

-- where no reference is blank, none names place 0
count_zero : (refs : List Ref) → ((page : ℕ) → get_or (map (λ (r : Ref). eqb r.place 0) refs) page false ≡ true → ⊥) → count_of 0 (places_of refs) ≡ 0
count_zero [] none = refl
count_zero (r ∷ rs) none =
    let here : eqb r.place 0 ≡ false = false_from_ne_true (eqb r.place 0) (none 0) in
    omega (arith, count-cons 0 r.place (places_of rs), count_zero rs (λ page. none (suc page)), ap {B = ℕ} (λ (b : Bool). cond b 1 0) here)

refs_by : (zero : Bool) (place : ℕ) (refs : List Ref) → eqb place 0 ≡ zero → ((page : ℕ) → get_or (map (λ (r : Ref). eqb r.place 0) refs) page false ≡ true → ⊥) → count_of place (places_of refs) ≤ cond zero 0 (count_of place (places_of refs))
refs_by true place refs is none = omega (arith, count_zero refs none, ap (λ (p : ℕ). count_of p (places_of refs)) (eqb-true place 0 is))
refs_by false place refs is none = omega arith

count_both : (place : ℕ) (first rest : List ℕ) → count_of place (first ++ rest) ≡ count_of place first + count_of place rest
count_both place first rest = sum_by-append (λ p. cond (eqb p place) 1 0) first rest

count_slot : (place : ℕ) (o : Option Held) → ((page : ℕ) → get_or (map (λ (r : Ref). eqb r.place 0) (unwrap_or (option_and_then refs_of o) [])) page false ≡ true → ⊥) → count_of place (places_of_slot o) ≤ namings_of_slot place o
count_slot place None none = omega arith
count_slot place (Some held) none =
    omega (arith, count_both place (places_of held.node.maps) (places_of (unwrap_or (refs_of held) [])), refs_by (eqb place 0) place (unwrap_or (refs_of held) []) refl none)

count_slots : (place : ℕ) (slots : List (Option Held)) → ((slot page : ℕ) → is_blank_at slots slot page ≡ true → ⊥) → count_of place (places_in slots) ≤ namings_in place slots
count_slots place [] none = omega arith
count_slots place (s ∷ slots) none =
    omega (arith, count_both place (places_of_slot s) (places_in slots), sum_by-cons (namings_of_slot place) s slots, count_slot place s (none 0), count_slots place slots (λ slot. none (suc slot)))

-- what holds of each place that stands among some holds of all of them
all_counted : (P : ℕ → Type 0) (places : List ℕ) → ((place : ℕ) → 0 < count_of place places → P place) → All P places
all_counted P [] each = All-nil P
all_counted P (p ∷ ps) each =
    All-cons P p ps (each p (omega (arith, count-cons p p ps, ap {B = ℕ} (λ (b : Bool). cond b 1 0) (eq-eqb p p refl))))
    (all_counted P ps (λ place some. each place (omega (arith, count-cons place p ps, some))))

pub CanView-ended : (head : Head) (index : IndexState) (claims : ClaimsState) → IsHead head → head.state ≡ Closed → IsIndexOf head index → claims.first ≡ data_start head → claims.first + length claims.taken ≡ head.blocks → AreNamedOnce index.nodes claims [] → AreBlanksNamed index.nodes [] → CanView head index
CanView-ended head index claims is closed of first range named blanks =
    let none : (slot page : ℕ) → is_blank_at index.nodes slot page ≡ true → ⊥ = λ slot page blank. (let no = blanks.each slot page blank in cc no) in
    let counts : (place : ℕ) → count_of place (places_in index.nodes) ≤ claims_of claims place = λ place. omega (arith, count_slots place index.nodes none, named.once place) in
    let within : (place : ℕ) → 0 < count_of place (places_in index.nodes) → (claims.first ≤ place) × (place < claims.first + length claims.taken) =
    λ place some. claimed_within claims place (claims_by (is_claimed claims place) (omega (arith, some, counts place))) in
    record {
      range = is.range;
      closed = closed;
      limits = of.limits;
      pages = of.pages;
      refs = of.refs;
      maps = of.maps;
      map_refs = of.map_refs;
      above = all_counted (λ place. data_start head ≤ place) (places_in index.nodes) (λ place some. omega (arith, first, (within place some).0));
      below = all_counted (λ place. place < head.blocks) (places_in index.nodes) (λ place some. omega (arith, range, (within place some).1));
      once = λ place. omega (arith, counts place, claims_few (is_claimed claims place));
    }
