-- Each call of a commit, made or lost, leaves its disk known.
use Rattle.std.proofs.Common.{◌≡◌, ℕ, false, List, length, Some, refl, sym, subst}
use Rattle.vb_disk.specs.States.{DiskState}
use Rattle.vb_head.specs.declared.head.Head.{Head}
use Rattle.vb_journal.specs.declared.commit_stage.Stage.{Stage}
use Rattle.vb_journal.specs.declared.commit_stage.Stage.TheVariants.{Journal, Opening, Homes, Closing, Rested}
use Rattle.vb_journal.specs.Images.{AreImages}
use Rattle.vb_journal.specs.Plans.{CanFinish, call_at, is_rested, next_stage}
use Rattle.vb_journal.specs.Progress.{IsCommitting}
use Rattle.vb_journal.proofs.DriverSteps.{change-left}
use Rattle.vb_journal.proofs.Keeping.{keeps}
use Rattle.vb_journal.proofs.StepsOfCommits.{tries}
use Rattle.vb_steps.specs.Calls.{MayFailTo, after}

pub commit-made : (head : Head) (epoch : ℕ) (images : List (List ℕ)) (homes journal : ℕ → List ℕ) (stage : Stage) (d : DiskState) → AreImages head.nodes images → IsCommitting head epoch images homes journal stage d → IsCommitting head epoch images homes journal (next_stage (length images) stage) (after d (call_at head epoch images stage))
commit-made head epoch images homes journal (Journal next) d are is = keeps head epoch images homes journal (Journal next) d are refl is
commit-made head epoch images homes journal (Opening turn) d are is = keeps head epoch images homes journal (Opening turn) d are refl is
commit-made head epoch images homes journal (Homes next) d are is = keeps head epoch images homes journal (Homes next) d are refl is
commit-made head epoch images homes journal (Closing turn) d are is = keeps head epoch images homes journal (Closing turn) d are refl is
commit-made head epoch images homes journal Rested d are is = is

lost_going : (head : Head) (epoch : ℕ) (images : List (List ℕ)) (homes journal : ℕ → List ℕ) (stage : Stage) (d left : DiskState) → CanFinish head epoch images → is_rested stage ≡ false → MayFailTo (call_at head epoch images stage) d left → IsCommitting head epoch images homes journal stage d → IsCommitting head epoch images homes journal stage left
lost_going head epoch images homes journal stage d left can going may is =
    let tried = tries head epoch images homes journal stage d (Some left) can going (change-left head epoch images stage d left going may) is in
    let same : left ≡ tried.0 = cc tried.1 in
    subst (λ (e : DiskState). IsCommitting head epoch images homes journal stage e) (sym same) tried.2

pub commit-lost : (head : Head) (epoch : ℕ) (images : List (List ℕ)) (homes journal : ℕ → List ℕ) (stage : Stage) (d left : DiskState) → CanFinish head epoch images → MayFailTo (call_at head epoch images stage) d left → IsCommitting head epoch images homes journal stage d → IsCommitting head epoch images homes journal stage left
commit-lost head epoch images homes journal (Journal next) d left can may is = lost_going head epoch images homes journal (Journal next) d left can refl may is
commit-lost head epoch images homes journal (Opening turn) d left can may is = lost_going head epoch images homes journal (Opening turn) d left can refl may is
commit-lost head epoch images homes journal (Homes next) d left can may is = lost_going head epoch images homes journal (Homes next) d left can refl may is
commit-lost head epoch images homes journal (Closing turn) d left can may is = lost_going head epoch images homes journal (Closing turn) d left can refl may is
commit-lost head epoch images homes journal Rested d left can may is = subst (λ (e : DiskState). IsCommitting head epoch images homes journal Rested e) (sym may) is
