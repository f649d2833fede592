-- What each call of a machine keeps, also one that fails, is kept by each run of it.
use Rattle.std.proofs.Common.{List, [], ◌∷◌, sym, subst}
use Rattle.vb_disk.specs.States.{DiskState}
use Rattle.vb_steps.specs.declared.due.Got.{Got}
use Rattle.vb_steps.specs.Calls.{Call, MayFailTo, after, answer_of}
use Rattle.vb_steps.specs.Runs.{Event, Lost, Made, IsRun}

pub run-keeps : {S : Type 0} (call : S → Call) (next : S → Got → S) (Known : S → DiskState → Type 0)
    → ((s : S) (d : DiskState) → Known s d → Known (next s (answer_of d (call s))) (after d (call s)))
    → ((s : S) (d left : DiskState) → MayFailTo (call s) d left → Known s d → Known s left)
    → (s : S) (d : DiskState) (events : List Event) (t : S) (e : DiskState) → IsRun call next s d events t e → Known s d → Known t e
run-keeps call next Known made lost s d [] t e is known = subst (λ (m : DiskState). Known t m) (sym is.1) (subst (λ (r : _). Known r d) (sym is.0) known)
run-keeps call next Known made lost s d (Made ∷ events) t e is known =
    run-keeps call next Known made lost (next s (answer_of d (call s))) (after d (call s)) events t e is (made s d known)
run-keeps call next Known made lost s d (Lost left ∷ events) t e is known =
    run-keeps call next Known made lost s left events t e is.1 (lost s d left is.0 known)
