-- What a step of a recovery answers.
use Rattle.std.proofs.Common.{◌≡◌, ◌≢◌, ℕ, ◌-◌, false, cond, List, [], ◌∷◌, ◌++◌, length, Option, Some, None, Result, Ok, Err, refl, sym, ap, subst, ◌∙◌, arith}
use Rattle.std.specs.Prelude.{IfErr, IfOk, IsSome, slice_get}
use Rattle.std.proofs.lemmas.List.{length-append}
use Rattle.vb_disk.specs.States.{DiskCall, DiskState}
use Rattle.vb_head.specs.declared.head.Head.{Head}
use Rattle.vb_journal.specs.declared.recover.Ahead.{Ahead}
use Rattle.vb_journal.specs.declared.recover_error.RecoverError.{RecoverError}
use Rattle.vb_journal.specs.declared.recover_error.RecoverError.TheVariants.{NotAStore, Damaged, Unfit, Rebuilding, DiskFault, Memory}
use Rattle.vb_journal.specs.declared.recover_stage.RecoverStage.{RecoverStage}
use Rattle.vb_journal.specs.declared.recover_stage.RecoverStage.TheVariants.{Ask, Settle, ReadFirst, ReadSecond, Mend, SettleMend, ReadImage, Replay, Ready, Refused}
use Rattle.vb_journal.specs.Commits.{calls_left}
use Rattle.vb_journal.specs.Recoveries.{Recovered, is_retried, node_images, recovered_from, settled_head}
use Rattle.vb_journal.specs.Outcomes.{reads_of, recovery_on}
use Rattle.vb_journal.specs.Recovering.{HasEnded, IsHopeless, IsRecovered, IsRecovering, StandsAfter, TakesImage, first_change, images_by}
use Rattle.vb_journal.specs.Recovers.{AnswersRecovery, HasHead, IsAheadOf, Lends, is_reading, last_of}
use Rattle.vb_journal.specs.RecoverViews.{RecoverView, answer_in, next, recover_call, view_of}
use Rattle.vb_journal.proofs.PlanSteps.{calls_from-next}
use Rattle.vb_journal.proofs.Replays.{late-going}
use Rattle.vb_journal.proofs.SameRecoveries.{recovery_of-chosen}
use Rattle.vb_steps.specs.declared.due.Got.{Got}
use Rattle.vb_steps.specs.Calls.{Rest}

-- More where a call is due, and Ready where there is a head
some_first : (calls : List DiskCall) (call : DiskCall) (rest : List DiskCall) → calls ≡ call ∷ rest → IsSome (first_change calls)
some_first calls call rest is = let Q : List DiskCall → Type 0 = λ l. IsSome (first_change l) in subst Q (sym is) refl

ahead_of : (stage : RecoverStage) → IfOk (answer_in (view_of stage)) (λ ahead. IsAheadOf ahead stage)
ahead_of Ask = refl
ahead_of (Settle size) = refl
ahead_of (ReadFirst size) = refl
ahead_of (ReadSecond first) = refl
ahead_of (Mend mending) = refl
ahead_of (SettleMend mending) = refl
ahead_of (ReadImage journal) = refl
ahead_of (Replay replay) =
    let c = replay.commit in
    some_first (calls_left replay.commit) _ _ (calls_from-next c.head c.epoch c.images c.stage (late-going c.stage replay.late))
ahead_of (Ready ready) = refl
ahead_of (Refused refusal) = tt

pub ahead-of : (stage : RecoverStage) (result : Result Ahead RecoverError) → result ≡ answer_in (view_of stage) → IfOk result (λ ahead. IsAheadOf ahead stage)
ahead-of stage result answers = subst (λ (r : Result Ahead RecoverError). IfOk r (λ ahead. IsAheadOf ahead stage)) (sym answers) (ahead_of stage)

-- a refusal is the end
ended_stands : (old new : RecoverStage) (error : RecoverError) → is_retried error ≡ false → HasEnded new error → StandsAfter old new error
ended_stands old new (NotAStore place) ends is = is
ended_stands old new (Damaged place kept found) ends is = is
ended_stands old new (Unfit place why) ends is = is
ended_stands old new Rebuilding ends is = is
ended_stands old new DiskFault ends is = absurd (cc ends)
ended_stands old new Memory ends is = absurd (cc ends)

stands_of : (old new : RecoverStage) → IfErr (answer_in (view_of new)) (StandsAfter old new)
stands_of old Ask = tt
stands_of old (Settle size) = tt
stands_of old (ReadFirst size) = tt
stands_of old (ReadSecond first) = tt
stands_of old (Mend mending) = tt
stands_of old (SettleMend mending) = tt
stands_of old (ReadImage journal) = tt
stands_of old (Replay replay) = tt
stands_of old (Ready ready) = tt
stands_of old (Refused refusal) = ended_stands old (Refused refusal) refusal.error refusal.ends refl

pub stands-of : (old new : RecoverStage) (result : Result Ahead RecoverError) → result ≡ answer_in (view_of new) → IfErr result (StandsAfter old new)
stands-of old new result answers = subst (λ (r : Result Ahead RecoverError). IfErr r (StandsAfter old new)) (sym answers) (stands_of old new)

abbrev pub refused_with : RecoverError → Result Ahead RecoverError
refused_with e = Err e

-- one that has ended gives the same answer
pub ends-again : (stage : RecoverStage) (view : RecoverView) (got : Got) (result : Result Ahead RecoverError) → view ≡ next (view_of stage) got → result ≡ answer_in view → (error : RecoverError) → HasEnded stage error → result ≡ Err error
ends-again (Refused refusal) view got result is answers error ended = answers ∙ ap answer_in is ∙ ap refused_with ended
ends-again Ask view got result is answers error ended = absurd ended
ends-again (Settle size) view got result is answers error ended = absurd ended
ends-again (ReadFirst size) view got result is answers error ended = absurd ended
ends-again (ReadSecond first) view got result is answers error ended = absurd ended
ends-again (Mend mending) view got result is answers error ended = absurd ended
ends-again (SettleMend mending) view got result is answers error ended = absurd ended
ends-again (ReadImage journal) view got result is answers error ended = absurd ended
ends-again (Replay replay) view got result is answers error ended = absurd ended
ends-again (Ready ready) view got result is answers error ended = absurd ended

-- and has no call due
pub ended-rests : (stage : RecoverStage) (error : RecoverError) → HasEnded stage error → recover_call stage ≡ Rest
ended-rests (Refused refusal) error ended = refl
ended-rests Ask error ended = absurd ended
ended-rests (Settle size) error ended = absurd ended
ended-rests (ReadFirst size) error ended = absurd ended
ended-rests (ReadSecond first) error ended = absurd ended
ended-rests (Mend mending) error ended = absurd ended
ended-rests (SettleMend mending) error ended = absurd ended
ended-rests (ReadImage journal) error ended = absurd ended
ended-rests (Replay replay) error ended = absurd ended
ended-rests (Ready ready) error ended = absurd ended

-- damage has two digests
pub differs-of : (stage : RecoverStage) (result : Result Ahead RecoverError) → result ≡ answer_in (view_of stage) → (place : ℕ) (kept found : List ℕ) → result ≡ Err (Damaged place kept found) → kept ≢ found
differs-of (Refused refusal) result answers place kept found is =
    let both : refused_with refusal.error ≡ refused_with (Damaged place kept found) = sym answers ∙ is in
    refusal.differ place kept found (cc both)
differs-of Ask result answers place kept found is = absurd (cc (answers, is))
differs-of (Settle size) result answers place kept found is = absurd (cc (answers, is))
differs-of (ReadFirst size) result answers place kept found is = absurd (cc (answers, is))
differs-of (ReadSecond first) result answers place kept found is = absurd (cc (answers, is))
differs-of (Mend mending) result answers place kept found is = absurd (cc (answers, is))
differs-of (SettleMend mending) result answers place kept found is = absurd (cc (answers, is))
differs-of (ReadImage journal) result answers place kept found is = absurd (cc (answers, is))
differs-of (Replay replay) result answers place kept found is = absurd (cc (answers, is))
differs-of (Ready ready) result answers place kept found is = absurd (cc (answers, is))

-- ---- the image that is lent

last_at : (images : List (List ℕ)) (page : List ℕ) → slice_get (images ++ page ∷ []) (length images) ≡ Some page
last_at [] page = refl
last_at (x ∷ xs) page = last_at xs page

pub last_of-more : (images : List (List ℕ)) (page : List ℕ) → last_of (images ++ page ∷ []) ≡ Some page
last_of-more images page =
    let at : length (images ++ page ∷ []) - 1 ≡ length images = omega (arith, length-append images (page ∷ [])) in
    ap (slice_get (images ++ page ∷ [])) at ∙ last_at images page

pub lends-taken : (before after : RecoverStage) (told : Option DiskState) → TakesImage before after told → Lends before (cond (is_reading before) (last_of (images_by after)) None) told
lends-taken Ask after told taken = refl
lends-taken (Settle size) after told taken = refl
lends-taken (ReadFirst size) after told taken = refl
lends-taken (ReadSecond first) after told taken = refl
lends-taken (Mend mending) after told taken = refl
lends-taken (SettleMend mending) after told taken = refl
lends-taken (ReadImage journal) after told taken = (taken.0, ap last_of taken.1 ∙ last_of-more journal.images taken.0, taken.2)
lends-taken (Replay replay) after told taken = refl
lends-taken (Ready ready) after told taken = refl
lends-taken (Refused refusal) after told taken = refl

-- ---- the answer

has_head : (begun d : DiskState) (head : Head) → IsRecovered begun head d → HasHead begun (Some head)
has_head begun d head is =
    let found : Recovered = record { head = settled_head is.chosen; images = node_images (reads_of begun) is.chosen } in
    record {
      found = found;
      recovery = recovery_of-chosen begun.size (reads_of begun) (Ok is.chosen) is.counts ∙ ap (recovered_from (reads_of begun) is.chosen) is.accepted;
      head_is = ap (λ (h : Head). let o : Option Head = Some h in o) (sym is.settles);
    }

hopeless_answers : (begun d : DiskState) (stage : RecoverStage) (error : RecoverError) → IsHopeless begun error d → AnswersRecovery begun stage (refused_with error)
hopeless_answers begun d stage (NotAStore place) is = is.recovery
hopeless_answers begun d stage (Damaged place kept found) is = is.recovery
hopeless_answers begun d stage (Unfit place why) is = is.recovery
hopeless_answers begun d stage Rebuilding is = is.recovery
hopeless_answers begun d stage DiskFault is = tt
hopeless_answers begun d stage Memory is = tt

answers_of : (begun d : DiskState) (stage : RecoverStage) → IsRecovering stage begun d → AnswersRecovery begun stage (answer_in (view_of stage))
answers_of begun d Ask known = tt
answers_of begun d (Settle size) known = tt
answers_of begun d (ReadFirst size) known = tt
answers_of begun d (ReadSecond first) known = tt
answers_of begun d (Mend mending) known = tt
answers_of begun d (SettleMend mending) known = tt
answers_of begun d (ReadImage journal) known = tt
answers_of begun d (Replay replay) known = tt
answers_of begun d (Ready ready) known = has_head begun d ready.head known
answers_of begun d (Refused refusal) known = hopeless_answers begun d (Refused refusal) refusal.error known

pub answers-of : (begun d : DiskState) (stage : RecoverStage) (result : Result Ahead RecoverError) → result ≡ answer_in (view_of stage) → IsRecovering stage begun d → AnswersRecovery begun stage result
answers-of begun d stage result answers known = subst (AnswersRecovery begun stage) (sym answers) (answers_of begun d stage known)

-- a refusal is what the disk recovers to
pub hopeless-of : (begun d : DiskState) (stage : RecoverStage) (e : RecoverError) → answer_in (view_of stage) ≡ refused_with e → IsRecovering stage begun d → HasEnded stage e × (recovery_on begun ≡ Err e)
hopeless-of begun d (Refused refusal) e is known =
    let same : refusal.error ≡ e = cc is in
    (same, known.recovery ∙ ap (λ (x : RecoverError). let r : Result Recovered RecoverError = Err x in r) same)
hopeless-of begun d Ask e is known = absurd (cc is)
hopeless-of begun d (Settle size) e is known = absurd (cc is)
hopeless-of begun d (ReadFirst size) e is known = absurd (cc is)
hopeless-of begun d (ReadSecond first) e is known = absurd (cc is)
hopeless-of begun d (Mend mending) e is known = absurd (cc is)
hopeless-of begun d (SettleMend mending) e is known = absurd (cc is)
hopeless-of begun d (ReadImage journal) e is known = absurd (cc is)
hopeless-of begun d (Replay replay) e is known = absurd (cc is)
hopeless-of begun d (Ready ready) e is known = absurd (cc is)
