-- Calls of a disk that one function makes after the other.
use Rattle.std.proofs.Common.{◌≡◌, ℕ, ◌⊎◌, inl, inr, List, [], ◌∷◌, ◌++◌, Option, Some, None, Result, Ok, Err, IsErrOf, OnOk, OnErr, refl, sym, ap, subst, ◌∙◌, append_assoc, append-nil}
use Rattle.vb_disk.specs.declared.disk_error.DiskError.{DiskError}
use Rattle.vb_disk.specs.declared.disk_error.DiskError.TheVariants.{Failed, Memory}
use Rattle.vb_disk.specs.States.{DiskState, DiskCall, Write, after_call, after_calls, written}
use Rattle.vb_store.specs.Runs.{IsBrokenOff, MakesAll}

-- ---- states

pub after_calls-append : (d : DiskState) (a b : List DiskCall) → after_calls d (a ++ b) ≡ after_calls (after_calls d a) b
after_calls-append d [] b = refl
after_calls-append d (call ∷ a) b = after_calls-append (after_call d call) a b

-- the state where none of the calls was made
pub broken_at_none : (calls : List DiskCall) (d : DiskState) (new : Option DiskState) → new ≡ Some d → IsBrokenOff calls d new
broken_at_none calls d new is = record { made = []; left = calls; whole = refl; state = is }

-- the state where all were made
pub broken_at_all : (calls : List DiskCall) (d : DiskState) (new : Option DiskState) → new ≡ Some (after_calls d calls) → IsBrokenOff calls d new
broken_at_all calls d new is = record { made = calls; left = []; whole = append-nil calls; state = is }

-- the calls may go on
pub broken_before : (a b : List DiskCall) (d : DiskState) (new : Option DiskState) → IsBrokenOff a d new → IsBrokenOff (a ++ b) d new
broken_before a b d new is = record {
  made = is.made;
  left = is.left ++ b;
  whole = sym (append_assoc is.made is.left b) ∙ ap (λ (l : List DiskCall). l ++ b) is.whole;
  state = is.state;
}

pub broken_after : (a b : List DiskCall) (d : DiskState) (new : Option DiskState) → IsBrokenOff b (after_calls d a) new → IsBrokenOff (a ++ b) d new
broken_after a b d new is = record {
  made = a ++ is.made;
  left = is.left;
  whole = append_assoc a is.made is.left ∙ ap (λ (l : List DiskCall). a ++ l) is.whole;
  state = is.state ∙ ap Some (sym (after_calls-append d a is.made));
}

-- ---- one call

-- at an error the calls were broken off
pub failed_at : {T E : Type 0} {calls : List DiskCall} {old new : Option DiskState} {r : Result T E} {e : E} → r ≡ Err e → ((d : DiskState) → old ≡ Some d → IsBrokenOff calls d new) → (old ≡ None → new ≡ None) → MakesAll calls old new r
failed_at {T} {E} {calls} {old} {new} {r} {e} is broken untold =
    let P : Result T E → Type 0 = λ out. MakesAll calls old new out in
    subst P (sym is) (record { made = λ d told. tt; broken_off = broken; untold = untold })

-- an error before any call
pub none_made : {T E : Type 0} (calls : List DiskCall) {old new : Option DiskState} {r : Result T E} {e : E} → r ≡ Err e → new ≡ old → MakesAll calls old new r
none_made calls {old} {new} is same = failed_at is (λ d told. broken_at_none calls d new (same ∙ told)) (λ untold. same ∙ untold)

pub write_made : {T : Type 0} (place : ℕ) (page : List ℕ) {old new : Option DiskState} (r : Result T DiskError)
    → ((d : DiskState) → old ≡ Some d → OnOk r (new ≡ Some (written d place page)))
    → ((d : DiskState) → old ≡ Some d → IsErrOf r Failed → (new ≡ Some d) ⊎ (new ≡ Some (written d place page)))
    → (IsErrOf r Memory → new ≡ old)
    → (old ≡ None → new ≡ None)
    → MakesAll (Write place page ∷ []) old new r
write_made place page (Ok x) ok failed memory untold = record { made = ok; broken_off = λ d told. tt; untold = untold }
write_made place page {old} {new} (Err Failed) ok failed memory untold = record {
  made = λ d told. tt;
  broken_off = λ d told. elim (failed d told refl) [
    | inl same ↦ broken_at_none (Write place page ∷ []) d new same
    | inr made ↦ broken_at_all (Write place page ∷ []) d new made
  ];
  untold = untold;
}
write_made place page (Err Memory) ok failed memory untold = none_made (Write place page ∷ []) refl (memory refl)

-- a call that leaves the state at an error
pub call_made : {T : Type 0} (call : DiskCall) {old new : Option DiskState} (r : Result T DiskError)
    → ((d : DiskState) → old ≡ Some d → OnOk r (new ≡ Some (after_call d call)))
    → OnErr r (new ≡ old)
    → (old ≡ None → new ≡ None)
    → MakesAll (call ∷ []) old new r
call_made call (Ok x) ok same untold = record { made = ok; broken_off = λ d told. tt; untold = untold }
call_made call (Err e) ok same untold = none_made (call ∷ []) refl same

-- ---- calls after calls

-- an error among the first ones
pub stopped : {T U E F : Type 0} {a : List DiskCall} (b : List DiskCall) {old new : Option DiskState} {s : Result T E} {r : Result U F} {e : E} {f : F} → s ≡ Err e → r ≡ Err f → MakesAll a old new s → MakesAll (a ++ b) old new r
stopped {T} {E = E} {a = a} b {old} {new} {s} {e = e} failed is first =
    let Q : Result T E → Type 0 = λ out. MakesAll a old new out in
    let at : MakesAll {T = T} a old new (Err e) = subst Q failed first in
    failed_at is (λ d told. broken_before a b d new (at.broken_off d told)) at.untold

went_on_to : {T U E F : Type 0} {a b : List DiskCall} {old mid new : Option DiskState} {x : T} (r : Result U F) → MakesAll {E = E} a old mid (Ok x) → MakesAll b mid new r → MakesAll (a ++ b) old new r
went_on_to {a = a} {b = b} (Ok y) first second = record {
  made = λ d told. second.made (after_calls d a) (first.made d told) ∙ ap Some (sym (after_calls-append d a b));
  broken_off = λ d told. tt;
  untold = λ untold. second.untold (first.untold untold);
}
went_on_to {a = a} {b = b} {new = new} (Err e) first second = record {
  made = λ d told. tt;
  broken_off = λ d told. broken_after a b d new (second.broken_off (after_calls d a) (first.made d told));
  untold = λ untold. second.untold (first.untold untold);
}

-- the first ones were made, and then the others
pub went_on : {T U E F : Type 0} {a b : List DiskCall} {old mid new : Option DiskState} {s : Result T E} {r : Result U F} {x : T} → s ≡ Ok x → MakesAll a old mid s → MakesAll b mid new r → MakesAll (a ++ b) old new r
went_on {T} {U} {E} {F} {a} {b} {old} {mid} {new} {s} {r} {x} is first second =
    let Q : Result T E → Type 0 = λ out. MakesAll a old mid out in
    went_on_to r (subst Q is first) second
