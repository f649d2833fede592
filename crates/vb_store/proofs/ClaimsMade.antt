-- Claims that were made lie in their range, and keep it.
use Rattle.std.proofs.Common.{◌≡◌, ℕ, ◌≤◌, Bool, true, false, cond, ◌||◌, nat_lt, nat_le, List, [], ◌∷◌, ◌+◌, length, Result, Ok, Err, refl, sym, ap, ◌∙◌}
use Rattle.std.proofs.lemmas.Bool.{ltb-false}
use Rattle.vb_block.specs.declared.digest.Ref.{Ref}
use Rattle.vb_block.specs.declared.why.Why.TheVariants.{Place, PlaceTwice}
use Rattle.vb_journal.specs.declared.recover_error.RecoverError.{RecoverError}
use Rattle.vb_nodes.specs.Claiming.{ClaimsState, is_claimed, is_outside, with_claim}
use Rattle.vb_store.specs.declared.map_page.MapPage.{MapPage}
use Rattle.vb_store.specs.Metadata.{Mapped, after_claim, after_page, all_claimed_by, and_then, claimed_by, claims_or_refusal, map_checked, with_refs_at}
use Rattle.vb_store.proofs.Chains.{and_then-ok}

-- a claim that was made
pub record IsMade (claims : ClaimsState) (place : ℕ) (all : ClaimsState) : Type 0 where
  pub inside : claims.first ≤ place
  pub made : with_claim claims place ≡ all

first_false : (a b : Bool) → (a || b) ≡ false → a ≡ false
first_false true b is = absurd (cc is)
first_false false b is = refl

made_by : (outside claimed : Bool) (block : ℕ) (claims : ClaimsState) (place : ℕ) (all : ClaimsState) → is_outside claims place ≡ outside → claims_or_refusal block (with_claim claims place) (cond outside (Err Place) (cond claimed (Err PlaceTwice) (Ok tt))) ≡ Ok all → IsMade claims place all
made_by true claimed block claims place all out is = absurd (cc is)
made_by false true block claims place all out is = absurd (cc is)
made_by false false block claims place all out is = record {
  inside = ltb-false place claims.first (first_false (nat_lt place claims.first) (nat_le (claims.first + length claims.taken) place) out);
  made = cc is;
}

pub claimed-made : (block : ℕ) (claims : ClaimsState) (place : ℕ) (all : ClaimsState) → claimed_by block claims place ≡ Ok all → IsMade claims place all
claimed-made block claims place all is = made_by (is_outside claims place) (is_claimed claims place) block claims place all refl is

pub all_claimed-first : (block : ℕ) (claims : ClaimsState) (refs : List Ref) (all : ClaimsState) → all_claimed_by block claims refs ≡ Ok all → all.first ≡ claims.first
all_claimed-first block claims [] all is = let same : claims ≡ all = cc is in ap (λ (c : ClaimsState). c.first) (sym same)
all_claimed-first block claims (r ∷ rs) all is =
    let one = and_then-ok (claimed_by block claims r.place) (λ more. all_claimed_by block more rs) all is in
    let made = claimed-made block claims r.place one.value one.is in
    all_claimed-first block one.value rs all one.then ∙ ap (λ (c : ClaimsState). c.first) (sym made.made)

-- a map page whose place was claimed
pub record IsNamedFrom (first : ℕ) (m : MapPage) (known : Mapped) : Type 0 where
  pub inside : first ≤ m.reference.place
  pub first_is : known.claims.first ≡ first

pub after_claim-named : (block : ℕ) (m : MapPage) (known end : Mapped) → after_claim block m known ≡ Ok end → IsNamedFrom known.claims.first m end
after_claim-named block m known end is =
    let one = and_then-ok (claimed_by block known.claims m.reference.place) (λ claims. Ok (record known { claims = claims })) end is in
    let made = claimed-made block known.claims m.reference.place one.value one.is in
    let same : (let next : Mapped = record known { claims = one.value } in next ≡ end) = cc one.then in
    record { inside = made.inside; first_is = ap (λ (k : Mapped). k.claims.first) (sym same) ∙ ap (λ (c : ClaimsState). c.first) (sym made.made) }

pub after_page-first : (m : MapPage) (page : List ℕ) (known end : Mapped) → after_page m page known ≡ Ok end → end.claims.first ≡ known.claims.first
after_page-first m page known end is =
    let last : List Ref → ClaimsState → Result Mapped RecoverError = λ refs all. Ok (record { slots = with_refs_at known.slots m.slot m.first refs; claims = all }) in
    let one = and_then-ok (map_checked m page) (λ refs. and_then (all_claimed_by m.reference.place known.claims refs) (last refs)) end is in
    let two = and_then-ok (all_claimed_by m.reference.place known.claims one.value) (last one.value) end one.then in
    let same : (let next : Mapped = record { slots = with_refs_at known.slots m.slot m.first one.value; claims = two.value } in next ≡ end) = cc two.then in
    ap (λ (k : Mapped). k.claims.first) (sym same) ∙ all_claimed-first m.reference.place known.claims one.value two.value two.is
