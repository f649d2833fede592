-- Places that are claimed one after the other: each can be, where they are different and lie in the range.
use Rattle.std.proofs.Common.{◌≡◌, ◌≢◌, ℕ, ◌+◌, ◌-◌, ◌<◌, ◌≤◌, ◌==◌, Bool, true, false, cond, eqb, ◌||◌, nat_lt, nat_le, List, [], ◌∷◌, ◌++◌, length, get_or, count_by, Result, Ok, Err, refl, sym, ap, subst, ◌∙◌, arith}
use Rattle.std.proofs.lemmas.Bool.{eq-eqb, le-ltb, lt-leb}
use Rattle.std.proofs.lemmas.List.{get_or-set_other, length-set}
use Rattle.std.proofs.lemmas.List.Elements.{All-cons, All-head, All-nil, All-tail}
use Rattle.std.proofs.lemmas.List.Sums.{sum_by-cons}
use Rattle.std.specs.List.{All}
use Rattle.vb_block.specs.declared.digest.Ref.{Ref}
use Rattle.vb_block.specs.declared.why.Why.{Why}
use Rattle.vb_block.specs.declared.why.Why.TheVariants.{Place, PlaceTwice}
use Rattle.vb_journal.specs.declared.recover_error.RecoverError.{RecoverError}
use Rattle.vb_nodes.specs.Claiming.{ClaimsState, claim_answer, is_claimed, is_outside, with_claim}
use Rattle.vb_store.specs.Metadata.{all_claimed_by, and_then, claimed_by, claims_or_refusal}
use Rattle.vb_store.specs.Views.{places_of}

-- the claims once these places were claimed
abbrev pub claimed : ClaimsState → List ℕ → ClaimsState
claimed claims [] = claims
claimed claims (p ∷ ps) = claimed (with_claim claims p) ps

-- each of them can be, one after the other
abbrev pub CanClaim : ClaimsState → List ℕ → Type 0
CanClaim claims [] = Unit {0}
CanClaim claims (p ∷ ps) = (claim_answer claims p ≡ Ok tt) × CanClaim (with_claim claims p) ps

pub claimed-append : (claims : ClaimsState) (ps qs : List ℕ) → claimed claims (ps ++ qs) ≡ claimed (claimed claims ps) qs
claimed-append claims [] qs = refl
claimed-append claims (p ∷ ps) qs = claimed-append (with_claim claims p) ps qs

pub can-first : (claims : ClaimsState) (ps qs : List ℕ) → CanClaim claims (ps ++ qs) → CanClaim claims ps
can-first claims [] qs can = tt
can-first claims (p ∷ ps) qs can = (can.0, can-first (with_claim claims p) ps qs can.1)

pub can-rest : (claims : ClaimsState) (ps qs : List ℕ) → CanClaim claims (ps ++ qs) → CanClaim (claimed claims ps) qs
can-rest claims [] qs can = can
can-rest claims (p ∷ ps) qs can = can-rest (with_claim claims p) ps qs can.1

-- ---- different places

-- a place lies in the range and was not claimed
pub record IsUnclaimed (claims : ClaimsState) (p : ℕ) : Type 0 where
  pub from : claims.first ≤ p
  pub below : p < claims.first + length claims.taken
  pub free : get_or claims.taken (p - claims.first) false ≡ false

-- the answer to a claim, by whether the place is outside or taken
abbrev answer : Bool → Bool → Result (Unit {0}) Why
answer outside taken = cond outside (Err Place) (cond taken (Err PlaceTwice) (Ok tt))

answered : (outside taken : Bool) → outside ≡ false → taken ≡ false → answer outside taken ≡ Ok tt
answered true taken out free = absurd (cc out)
answered false true out free = absurd (cc free)
answered false false out free = refl

neither : (a b : Bool) → a ≡ false → b ≡ false → (a || b) ≡ false
neither true b first second = first
neither false b first second = second

given : (low : Bool) (b : Bool) → b ≡ false → cond low false b ≡ false
given true b is = refl
given false b is = is

can_one : (claims : ClaimsState) (p : ℕ) → IsUnclaimed claims p → claim_answer claims p ≡ Ok tt
can_one claims p is =
    answered (is_outside claims p) (is_claimed claims p)
    (neither (nat_lt p claims.first) (nat_le (claims.first + length claims.taken) p) (le-ltb p claims.first is.from) (lt-leb (claims.first + length claims.taken) p is.below))
    (given (nat_lt p claims.first) (get_or claims.taken (p - claims.first) false) is.free)

still_free : (claims : ClaimsState) (p q : ℕ) → claims.first ≤ p → q ≢ p → IsUnclaimed claims q → IsUnclaimed (with_claim claims p) q
still_free claims p q from apart is =
    let other : (q - claims.first) ≢ (p - claims.first) = λ same. apart (let e : q ≡ p = omega (arith, same, from, is.from) in e) in
    record {
      from = is.from;
      below = omega (arith, is.below, length-set claims.taken (p - claims.first) true);
      free = get_or-set_other claims.taken (p - claims.first) (q - claims.first) true false other ∙ is.free;
    }

-- how often a place is among some
abbrev pub times : ℕ → List ℕ → ℕ
times p ps = count_by (λ q. q == p) ps

times-cons : (p q : ℕ) (qs : List ℕ) → times p (q ∷ qs) ≡ cond (eqb q p) 1 0 + times p qs
times-cons p q qs = sum_by-cons (λ (x : ℕ). cond (eqb x p) 1 0) q qs

times-here : (p : ℕ) (qs : List ℕ) → times p (p ∷ qs) ≡ 1 + times p qs
times-here p qs = times-cons p p qs ∙ ap (λ (b : Bool). cond b 1 0 + times p qs) (eq-eqb p p refl)

-- what is never among some is none of them
all_apart : (p : ℕ) (qs : List ℕ) → times p qs ≡ 0 → All (λ q. q ≢ p) qs
all_apart p [] none = All-nil (λ q. q ≢ p)
all_apart p (q ∷ qs) none =
    let here : q ≢ p = λ same. absurd (let e : times q (q ∷ qs) ≡ 0 = subst (λ (x : ℕ). times x (q ∷ qs) ≡ 0) (sym same) none in omega (arith, e, times-here q qs)) in
    All-cons (λ x. x ≢ p) q qs here (all_apart p qs (omega (arith, none, times-cons p q qs)))

all_still : (claims : ClaimsState) (p : ℕ) (qs : List ℕ) → claims.first ≤ p → All (λ q. q ≢ p) qs → All (IsUnclaimed claims) qs → All (IsUnclaimed (with_claim claims p)) qs
all_still claims p [] from apart are = All-nil (IsUnclaimed (with_claim claims p))
all_still claims p (q ∷ qs) from apart are =
    All-cons (IsUnclaimed (with_claim claims p)) q qs
    (still_free claims p q from (All-head (λ x. x ≢ p) q qs apart) (All-head (IsUnclaimed claims) q qs are))
    (all_still claims p qs from (All-tail (λ x. x ≢ p) q qs apart) (All-tail (IsUnclaimed claims) q qs are))

-- different places can be claimed one after the other
pub can-distinct : (claims : ClaimsState) (ps : List ℕ) → ((p : ℕ) → times p ps ≤ 1) → All (IsUnclaimed claims) ps → CanClaim claims ps
can-distinct claims [] once are = tt
can-distinct claims (p ∷ ps) once are =
    let here : IsUnclaimed claims p = All-head (IsUnclaimed claims) p ps are in
    let none : times p ps ≡ 0 = omega (arith, once p, times-here p ps) in (
      can_one claims p here,
      can-distinct (with_claim claims p) ps
          (λ q. omega (arith, once q, times-cons q p ps))
          (all_still claims p ps here.from (all_apart p ps none) (All-tail (IsUnclaimed claims) p ps are)),
    )

-- ---- claims of references

pub claimed-one : (block : ℕ) (claims : ClaimsState) (p : ℕ) → claim_answer claims p ≡ Ok tt → claimed_by block claims p ≡ Ok (with_claim claims p)
claimed-one block claims p can = ap (claims_or_refusal block (with_claim claims p)) can

pub claimed-refs : (block : ℕ) (claims : ClaimsState) (refs : List Ref) → CanClaim claims (places_of refs) → all_claimed_by block claims refs ≡ Ok (claimed claims (places_of refs))
claimed-refs block claims [] can = refl
claimed-refs block claims (r ∷ rs) can =
    ap (λ (c : Result ClaimsState RecoverError). and_then c (λ more. all_claimed_by block more rs)) (claimed-one block claims r.place can.0)
    ∙ claimed-refs block (with_claim claims r.place) rs can.1
