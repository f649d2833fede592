-- Where memory ran out for what was read, a mount stays.
use Rattle.std.proofs.Common.{◌≡◌, ◌≤◌, arith, false, true, List, ℕ, Result, Ok, Err, IfErr, IfOk, OnOk, refl, sym, ap, subst, ◌∙◌}
use Rattle.std.specs.Prelude.{IsErrOf, IsOk}
use Rattle.vb_journal.specs.declared.recover_error.RecoverError.{RecoverError}
use Rattle.vb_journal.specs.declared.recover_error.RecoverError.TheVariants.{NotAStore, Damaged, Unfit, Rebuilding, DiskFault, Memory}
use Rattle.vb_store.specs.declared.mount_parts.Claimed.{Claimed}
use Rattle.vb_store.specs.declared.mount_parts.Homes.{Homes}
use Rattle.vb_store.specs.declared.mount_stage.MountStage.{MountStage}
use Rattle.vb_store.specs.declared.mount_stage.MountStage.TheVariants.{ReadHome, ReadMap, Finish, Refused}
use Rattle.vb_store.specs.Settled.{PassesRead, StaysAtEnd}
use Rattle.vb_store.specs.MountFalls.{FallsTo}
use Rattle.vb_store.specs.MountMoves.{GivesPage, IsStageLike, ReadingGoesOn, mount_answer, stage_answer}
use Rattle.vb_store.specs.MountStages.{HasEnded, IsNoFault, IsStopped, StandsAfter, blocks_of, due_place, rest_of}
use Rattle.vb_store.specs.NodesRead.{is_retried}
use Rattle.vb_store.specs.Readings.{Closes, FollowsRead, IsClosed, IsLikeWhole, ReadsOn}
use Rattle.vb_store.specs.Mounts.{blocks_of_mount}
use Rattle.vb_head.specs.declared.head.Head.{Head}
use Rattle.vb_store.specs.declared.mount_parts.Whole.{Whole}
use Rattle.vb_store.specs.declared.mount_phase.MountPhase.TheVariants.{Recovering, Reading, Ready}
use Rattle.vb_store.specs.declared.mount_phase.MountPhase.{MountPhase}
use Rattle.vb_journal.specs.declared.recover.Ahead.{Ahead}
use Rattle.vb_journal.specs.RecoverViews.{page_in}
use Rattle.vb_steps.specs.declared.due.Got.{Got}

abbrev out_of : RecoverError → Result (Unit {0}) RecoverError
out_of e = Err e

-- the error that it is
memory_is : (error : RecoverError) (r : Result (Unit {0}) RecoverError) → r ≡ Err error → IsErrOf r Memory → error ≡ Memory
memory_is error r is out = let both : out_of error ≡ out_of Memory = sym is ∙ out in cc both

-- a stage that stopped for want of memory
stopped_stays : (before after : MountStage) (error : RecoverError) → IsStopped before error after → error ≡ Memory → after ≡ before
stopped_stays before after error stops is = subst (λ (e : RecoverError). IsStopped before e after) is stops

pub home-stays : (h back : Homes) (after : MountStage) (error : RecoverError) (r : Result (Unit {0}) RecoverError) → r ≡ Err error → IsStopped (ReadHome back) error after → back.head ≡ h.head → back.place ≡ h.place → back.slots.items ≡ h.slots.items → back.nodes ≡ h.nodes → IsErrOf r Memory → IsStageLike (ReadHome h) after
home-stays h back after error r is stops head place slots nodes out =
    subst (λ (s : MountStage). IsStageLike (ReadHome h) s) (sym (stopped_stays (ReadHome back) after error stops (memory_is error r is out)))
    (record { head_is = head; place_is = place; slots_are = slots; nodes_are = nodes })

pub map-stays : (claimed : Claimed) (after : MountStage) (error : RecoverError) (r : Result (Unit {0}) RecoverError) → r ≡ Err error → IsStopped (ReadMap claimed) error after → IsErrOf r Memory → IsStageLike (ReadMap claimed) after
map-stays claimed after error r is stops out = stopped_stays (ReadMap claimed) after error stops (memory_is error r is out)

-- an end is no want of memory
pub ended-stays : (before after : MountStage) (r : Result (Unit {0}) RecoverError) → IfErr r (λ error. HasEnded after error × (is_retried error ≡ false)) → IsErrOf r Memory → IsStageLike before after
ended-stays before after (Ok x) ended out = absurd (cc out)
ended-stays before after (Err e) ended out = let same : e ≡ Memory = cc out in absurd (cc (ap is_retried same, ended.1))

-- an error that is retried is want of memory, where no call failed
pub memory-of : (error : RecoverError) → is_retried error ≡ true → IsNoFault error → error ≡ Memory
memory-of (NotAStore place) again none = absurd (cc again)
memory-of (Damaged place kept found) again none = absurd (cc again)
memory-of (Unfit place why) again none = absurd (cc again)
memory-of Rebuilding again none = absurd (cc again)
memory-of DiskFault again none = absurd none
memory-of Memory again none = refl

abbrev stopped_by : RecoverError → Result Ahead RecoverError
stopped_by e = Err e

-- a stage that has ended answers its refusal
pub ended-answer : (stage : MountStage) (error : RecoverError) → HasEnded stage error → stage_answer stage ≡ Err error
ended-answer (ReadHome h) error ended = absurd ended
ended-answer (ReadMap m) error ended = absurd ended
ended-answer (Finish w) error ended = absurd ended
ended-answer (Refused r) error ended = ap stopped_by ended

-- what was read is taken in
pub goes-read : (stage then : MountStage) (got : Got) (answer : Result (Unit {0}) RecoverError) (r : Result MountPhase MountPhase) → ((reads : ℕ → List ℕ) → GivesPage reads (due_place stage) (page_in got) → rest_of reads then ≡ rest_of reads stage) → ((reads : ℕ → List ℕ) → GivesPage reads (due_place stage) (page_in got) → ReadsOn reads stage then answer) → OnOk answer (FollowsRead stage then) → IfErr answer (StandsAfter stage then) → blocks_of then ≤ blocks_of stage → OnOk answer (FallsTo stage then) → (IsOk r → IfErr answer (λ error. is_retried error ≡ false)) → IfOk r (λ phase. Closes then answer phase (mount_answer phase)) → OnOk answer (PassesRead (page_in got) stage) → StaysAtEnd stage then → IfOk r (ReadingGoesOn stage got)
goes-read stage then got answer (Ok phase) rest list after error blocks falls ends closes passes at_end = record { then = then; answer = answer; rest = rest; list = list; after = after; error = error; blocks = blocks; falls = falls; ends = ends refl; closes = closes; passes = passes; at_end = at_end }
goes-read stage then got answer (Err phase) rest list after error blocks falls ends closes passes at_end = tt

-- where no read was due, memory doesn't run out
pub sure-read : (answer : Result (Unit {0}) RecoverError) (r : Result MountPhase MountPhase) → IfErr answer (λ error. is_retried error ≡ false) → IfErr r (λ phase. answer ≡ Err Memory) → IsOk r
sure-read answer (Ok phase) ends memory = refl
sure-read answer (Err phase) ends memory = absurd (cc (subst (λ (a : Result (Unit {0}) RecoverError). IfErr a (λ error. is_retried error ≡ false)) memory ends))

-- ---- the size

like_blocks : (w : Whole) (after : MountStage) (seen : ℕ) → IsLikeWhole w after → w.head.blocks ≤ seen → blocks_of after ≤ seen
like_blocks w (ReadHome h) seen like fits = absurd like
like_blocks w (ReadMap m) seen like fits = absurd like
like_blocks w (Finish v) seen like fits = let same : v.head.blocks ≡ w.head.blocks = ap (λ (h : Head). h.blocks) like.0 in omega (arith, same, fits)
like_blocks w (Refused r) seen like fits = absurd like

closed_blocks : (w : Whole) (phase : MountPhase) (result : Result Ahead RecoverError) (seen : ℕ) → IsClosed w phase result → w.head.blocks ≤ seen → blocks_of_mount phase ≤ seen
closed_blocks w (Recovering j) result seen is fits = absurd is
closed_blocks w (Reading stage) result seen is fits = like_blocks w stage seen is.0 fits
closed_blocks w (Ready ready) result seen is fits = omega arith

closes_blocks : (after : MountStage) (answer : Result (Unit {0}) RecoverError) (phase : MountPhase) (result : Result Ahead RecoverError) (seen : ℕ) → Closes after answer phase result → blocks_of after ≤ seen → blocks_of_mount phase ≤ seen
closes_blocks (ReadHome h) (Ok done) phase result seen is fits = subst (λ (p : MountPhase). blocks_of_mount p ≤ seen) (sym is.0) fits
closes_blocks (ReadMap m) (Ok done) phase result seen is fits = subst (λ (p : MountPhase). blocks_of_mount p ≤ seen) (sym is.0) fits
closes_blocks (Finish w) (Ok done) phase result seen is fits = closed_blocks w phase result seen is fits
closes_blocks (Refused r) (Ok done) phase result seen is fits = subst (λ (p : MountPhase). blocks_of_mount p ≤ seen) (sym is.0) fits
closes_blocks after (Err e) phase result seen is fits = subst (λ (p : MountPhase). blocks_of_mount p ≤ seen) (sym is.0) fits

pub blocks-read : (after : MountStage) (answer : Result (Unit {0}) RecoverError) (r : Result MountPhase MountPhase) (seen : ℕ) → blocks_of after ≤ seen → IfOk r (λ phase. Closes after answer phase (mount_answer phase)) → IfOk r (λ new. blocks_of_mount new ≤ seen)
blocks-read after answer (Ok phase) seen fits closes = closes_blocks after answer phase (mount_answer phase) seen closes fits
blocks-read after answer (Err phase) seen fits closes = tt
