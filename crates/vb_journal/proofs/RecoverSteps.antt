-- The driver's step of a recovery, in the words of a recovery.
use Rattle.std.proofs.Common.{◌≡◌, ◌⊎◌, ◌∙◌, Option, Some, Result, Ok, Err, sym, ap, subst, inl, inr}
use Rattle.vb_disk.specs.declared.disk_error.DiskError.{DiskError}
use Rattle.vb_disk.specs.States.{DiskState, IsDiskState}
use Rattle.vb_disk.proofs.Ways.{EachMoment-weaker}
use Rattle.vb_journal.specs.declared.recover_stage.RecoverStage.{RecoverStage}
use Rattle.vb_journal.specs.Recovering.{EachRecovers, IsRecovering, IsRecovering_in, RecoversTo}
use Rattle.vb_journal.specs.RecoverViews.{ComesAfter, IsSame, Reads, RecoverView, next, recover_call, view_of}
use Rattle.vb_journal.proofs.AfterRecoveries.{EachRecovers-known}
use Rattle.vb_journal.proofs.RecoverLaws.{crashes-next, known-again, known-next}
use Rattle.vb_steps.specs.declared.due.Got.{Got}
use Rattle.vb_steps.specs.Calls.{after, answer_of}
use Rattle.vb_steps.specs.Steps.{Steps}

-- results of the driver, with the types written out
abbrev pub made : Unit {0} → Result (Unit {0}) DiskError
made x = Ok x

abbrev pub lost : DiskError → Result (Unit {0}) DiskError
lost e = Err e

-- what the stage after a call is, on a disk that tells
pub view-next : (before next_stage : RecoverStage) (d : DiskState) (old new : Option DiskState) (x : Unit {0}) (Stays : Type 0) → Steps (recover_call before) (λ got. ComesAfter before got next_stage) Stays old new (made x) → old ≡ Some d → view_of next_stage ≡ next (view_of before) (answer_of d (recover_call before))
view-next before next_stage d old new x Stays steps told = steps.went.goes.view_is ∙ ap (next (view_of before)) (steps.went.gives d told)

pub reads-next : (before next_stage : RecoverStage) (d : DiskState) (old new : Option DiskState) (x : Unit {0}) (Stays : Type 0) → Steps (recover_call before) (λ got. ComesAfter before got next_stage) Stays old new (made x) → old ≡ Some d → Reads (view_of before) (answer_of d (recover_call before))
reads-next before next_stage d old new x Stays steps told = subst (λ (got : Got). Reads (view_of before) got) (steps.went.gives d told) steps.went.goes.reads

-- its call was made
pub went-known : (begun d : DiskState) (before then : RecoverStage) (old new : Option DiskState) (x : Unit {0}) (Stays : Type 0) → IsDiskState d → old ≡ Some d → Steps (recover_call before) (λ got. ComesAfter before got then) Stays old new (made x) → IsRecovering before begun d → RecoversTo begun before then d new
went-known begun d before then old new x Stays valid told steps is =
    let call = recover_call before in
    let new_told : new ≡ Some (after d (recover_call before)) = steps.went.made d told in
    let known : IsRecovering then begun (after d (recover_call before)) =
    subst (λ (v : RecoverView). IsRecovering_in v begun (after d (recover_call before))) (sym (view-next before then d old new x Stays steps told))
    (known-next before begun d valid (reads-next before then d old new x Stays steps told) is) in
    let moments = steps.moments d (after d call) told new_told in
    record {
      next = after d call;
      told = new_told;
      known = known;
      moments = EachMoment-weaker (λ m. (m ≡ d) ⊎ (m ≡ after d (recover_call before))) (λ m. IsRecovering before begun m ⊎ IsRecovering then begun m) d (after d call)
          (λ m at. elim at [
            | inl first ↦ inl (subst (λ (e : DiskState). IsRecovering before begun e) (sym first) is)
            | inr last ↦ inr (subst (λ (e : DiskState). IsRecovering then begun e) (sym last) known)
          ]) moments;
      crashes = EachMoment-weaker (λ m. (m ≡ d) ⊎ (m ≡ after d (recover_call before))) (λ m. EachRecovers before begun m) d (after d call)
          (λ m at. elim at [
            | inl first ↦ subst (λ (e : DiskState). EachRecovers before begun e) (sym first) (EachRecovers-known before begun d is)
            | inr last ↦ subst (λ (e : DiskState). EachRecovers before begun e) (sym last) (crashes-next before begun d is)
          ]) moments;
    }

-- or it failed
pub failed-known : (begun d : DiskState) (before then : RecoverStage) (old new : Option DiskState) (e : DiskError) (Goes : Got → Type 0) → old ≡ Some d → Steps (recover_call before) Goes (IsSame before then) old new (lost e) → IsRecovering before begun d → RecoversTo begun before then d new
failed-known begun d before then old new e Goes told steps is =
    let failed = steps.failed d told in
    let again : IsRecovering before begun failed.next = known-again before begun d failed.next failed.left is in
    let known : IsRecovering then begun failed.next = subst (λ (v : RecoverView). IsRecovering_in v begun failed.next) (sym steps.stays) again in
    let moments = steps.moments d failed.next told failed.told in
    record {
      next = failed.next;
      told = failed.told;
      known = known;
      moments = EachMoment-weaker (λ m. (m ≡ d) ⊎ (m ≡ failed.next)) (λ m. IsRecovering before begun m ⊎ IsRecovering then begun m) d failed.next
          (λ m at. elim at [
            | inl first ↦ inl (subst (λ (s : DiskState). IsRecovering before begun s) (sym first) is)
            | inr last ↦ inr (subst (λ (s : DiskState). IsRecovering then begun s) (sym last) known)
          ]) moments;
      crashes = EachMoment-weaker (λ m. (m ≡ d) ⊎ (m ≡ failed.next)) (λ m. EachRecovers before begun m) d failed.next
          (λ m at. elim at [
            | inl first ↦ subst (λ (s : DiskState). EachRecovers before begun s) (sym first) (EachRecovers-known before begun d is)
            | inr last ↦ subst (λ (s : DiskState). EachRecovers before begun s) (sym last) (EachRecovers-known before begun failed.next again)
          ]) moments;
    }
