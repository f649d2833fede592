-- Chains of checks: what is known where one ends well.
use Rattle.std.proofs.Common.{◌≡◌, Bool, true, false, Option, Some, None, Result, Ok, Err, refl}
use Rattle.vb_store.specs.Metadata.{and_then, refuse, unless}

-- an answer that went on: to this, and from there to the end
pub record GoesOn {A B E : Type 0} (r : Result A E) (next : A → Result B E) (end : B) : Type 0 where
  pub value : A
  pub is : r ≡ Ok value
  pub then : next value ≡ Ok end

pub and_then-ok : {A B E : Type 0} (r : Result A E) (next : A → Result B E) (end : B) → and_then r next ≡ Ok end → GoesOn r next end
and_then-ok (Ok a) next end is = record { value = a; is = refl; then = is }
and_then-ok (Err e) next end is = absurd (cc is)

-- a test that did not refuse
pub record Passes {A E : Type 0} (test : Bool) (next : Result A E) (end : A) : Type 0 where
  pub test_is : test ≡ false
  pub then : next ≡ Ok end

pub refuse-ok : {A E : Type 0} (test : Bool) (e : E) (next : Result A E) (end : A) → refuse test e next ≡ Ok end → Passes test next end
refuse-ok true e next end is = absurd (cc is)
refuse-ok false e next end is = record { test_is = refl; then = is }

-- what a test that passes goes on to
pub refuse-passed : {A E : Type 0} (test : Bool) (e : E) (next : Result A E) (end : A) → test ≡ false → next ≡ Ok end → refuse test e next ≡ Ok end
refuse-passed true e next end passed then = absurd (cc passed)
refuse-passed false e next end passed then = then

-- a refusal that there wasn't
pub record IsUnrefused {A E : Type 0} (o : Option E) (next : Result A E) (end : A) : Type 0 where
  pub none : o ≡ None
  pub then : next ≡ Ok end

pub unless-ok : {A E : Type 0} (o : Option E) (next : Result A E) (end : A) → unless o next ≡ Ok end → IsUnrefused o next end
unless-ok None next end is = record { none = refl; then = is }
unless-ok (Some e) next end is = absurd (cc is)
