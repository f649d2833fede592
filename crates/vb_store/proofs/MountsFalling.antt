-- The most calls that may be left of a mount fall with each step.
use Rattle.std.proofs.Common.{◌≡◌, ◌∙◌, ℕ, ◌+◌, ◌-◌, ◌<◌, ◌≤◌, false, cond, ltb, List, length, Option, Some, None, Result, Ok, Err, IfErr, OnOk, refl, sym, ap, subst, arith}
use Rattle.vb_head.specs.declared.head.Head.{Head}
use Rattle.vb_inode.specs.declared.node.Node.{Node}
use Rattle.vb_disk.specs.declared.disk_error.DiskError.{DiskError}
use Rattle.vb_journal.specs.declared.recover.Ahead.{Ahead}
use Rattle.vb_journal.specs.declared.recover.Ahead.TheVariants.{More, Ready as AllDone}
use Rattle.vb_journal.specs.declared.recover.Recover.{Recover}
use Rattle.vb_journal.specs.declared.recover_error.RecoverError.{RecoverError}
use Rattle.vb_journal.specs.declared.recover_error.RecoverError.TheVariants.{Memory}
use Rattle.vb_journal.specs.Recoveries.{error_from}
use Rattle.vb_journal.specs.Recovering.{RecoverCall}
use Rattle.vb_journal.specs.RecoveryCalls.{Falls, most_calls_left, most_left_in}
use Rattle.vb_journal.specs.Recovers.{recovery_stage}
use Rattle.vb_journal.specs.RecoverViews.{answer_in, view_of}
use Rattle.vb_journal.proofs.RecoverStages.{err_of, falls-lost, most-next}
use Rattle.vb_steps.specs.declared.due.Got.{Got}
use Rattle.vb_store.specs.declared.mount_parts.Homes.{Homes}
use Rattle.vb_store.specs.declared.mount_parts.Whole.{Whole}
use Rattle.vb_store.specs.declared.mount_phase.JournalPhase.{JournalPhase}
use Rattle.vb_store.specs.declared.mount_phase.MountPhase.{MountPhase}
use Rattle.vb_store.specs.declared.mount_phase.MountPhase.TheVariants.{Recovering, Reading, Ready}
use Rattle.vb_store.specs.declared.mount_stage.MountStage.{MountStage}
use Rattle.vb_store.specs.declared.mount_stage.MountStage.TheVariants.{ReadHome, ReadMap, Finish, Refused}
use Rattle.vb_store.specs.LentImages.{lent_fault}
use Rattle.vb_store.specs.MountFalls.{FallsTo, most_maps, most_mount_calls, most_reads, most_reads_left}
use Rattle.vb_store.specs.MountMoves.{FollowsMore, FollowsRecovery, IsSameMount, IsStageLike, MountGoesOn, mount_answer}
use Rattle.vb_store.specs.Mounts.{due_of_mount}
use Rattle.vb_store.specs.NodesRead.{is_retried}
use Rattle.vb_store.specs.Readings.{Closes, FollowsRead, IsClosed}
use Rattle.vb_store.proofs.MountReadings.{no_refusal}
use Rattle.vb_store.proofs.MountsMade.{none_more}

-- ---- after a call of the recovery

-- fewer are left
fewer : (due : Option RecoverCall) (old new : ℕ) (x : Ahead) → new < old → Falls {T = Ahead} due old new (Ok x)
fewer due old new x less = record { fell = λ some. less; stood = tt; ended = tt }

-- none are after a refusal
none_left : (due : Option RecoverCall) (old : ℕ) (e : RecoverError) → is_retried e ≡ false → Falls due old 0 (err_of e)
none_left due old e ends = record { fell = λ some. tt; stood = λ again. absurd (cc (again, ends)); ended = λ over. refl }

homes_few : (h : Homes) (old new : ℕ) → new < old → (h.head.nodes - length h.nodes) + most_maps h.head < old + most_reads
homes_few h old new less =
    let nodes = h.is.range.nodes_high in
    let blocks = h.is.range.blocks in
    let maps : most_maps h.head ≤ 131072 = omega (arith, blocks) in
    omega (arith, nodes, maps, less)

recovery_more : (j : JournalPhase) (r : Recover) (k : JournalPhase) (fault : Option RecoverError) → most_calls_left (recovery_stage r) < most_calls_left (recovery_stage j.recover) → FollowsMore r fault (Recovering k) → Falls (due_of_mount (Recovering j)) (most_mount_calls (Recovering j)) (most_mount_calls (Recovering k)) (mount_answer (Recovering k))
recovery_more j r k None less follows =
    let same : most_calls_left (recovery_stage k.recover) ≡ most_calls_left (recovery_stage r) = ap (λ (x : Recover). most_calls_left (recovery_stage x)) follows in
    fewer (due_of_mount (Recovering j)) (most_mount_calls (Recovering j)) (most_mount_calls (Recovering k)) More (omega (arith, same, less))
recovery_more j r k (Some e) less follows = absurd follows

recovery_falls : (j : JournalPhase) (r : Recover) (new : MountPhase) (result : Result Ahead RecoverError) → most_calls_left (recovery_stage r) < most_calls_left (recovery_stage j.recover) → FollowsRecovery r result new → Falls (due_of_mount (Recovering j)) (most_mount_calls (Recovering j)) (most_mount_calls new) (mount_answer new)
recovery_falls j r (Recovering k) (Ok More) less follows = recovery_more j r k (lent_fault r) less follows
recovery_falls j r (Recovering k) (Ok AllDone) less follows = absurd follows
recovery_falls j r (Recovering k) (Err e) less follows = absurd follows
recovery_falls j r (Reading (ReadHome h)) result less follows =
    fewer (due_of_mount (Recovering j)) (most_mount_calls (Recovering j)) (most_reads_left (ReadHome h)) More (homes_few h (most_calls_left (recovery_stage j.recover)) (most_calls_left (recovery_stage r)) less)
recovery_falls j r (Reading (ReadMap m)) (Ok More) less follows = none_more r (Reading (ReadMap m)) (lent_fault r) (λ is. is) (λ e ended. ended) follows
recovery_falls j r (Reading (ReadMap m)) (Ok AllDone) less follows = absurd follows
recovery_falls j r (Reading (ReadMap m)) (Err e) less follows = absurd follows
recovery_falls j r (Reading (Finish w)) (Ok More) less follows = none_more r (Reading (Finish w)) (lent_fault r) (λ is. is) (λ e ended. ended) follows
recovery_falls j r (Reading (Finish w)) (Ok AllDone) less follows = absurd follows
recovery_falls j r (Reading (Finish w)) (Err e) less follows = absurd follows
recovery_falls j r (Reading (Refused refusal)) result less follows = none_left (due_of_mount (Recovering j)) (most_mount_calls (Recovering j)) refusal.error refusal.ends
recovery_falls j r (Ready ready) (Ok More) less follows = none_more r (Ready ready) (lent_fault r) (λ is. is) (λ e ended. ended) follows
recovery_falls j r (Ready ready) (Ok AllDone) less follows = absurd follows
recovery_falls j r (Ready ready) (Err e) less follows = absurd follows

-- ---- after a read

-- the same are left where memory ran out
same_left : (due : Option RecoverCall) (old new : ℕ) → new ≡ old → Falls due old new (err_of Memory)
same_left due old new same = record { fell = λ some. tt; stood = λ again. same; ended = λ over. absurd (cc over) }

like_most : (w v : Whole) → (v.head ≡ w.head) × (v.index ≡ w.index) × (v.place ≡ w.place) → most_reads_left (Finish v) ≡ most_reads_left (Finish w)
like_most w v like =
    ap (λ (p : ℕ). 1 + cond (ltb p (2 + v.head.nodes)) (most_maps v.head) 0) like.2
    ∙ ap (λ (h : Head). 1 + cond (ltb w.place (2 + h.nodes)) (most_maps h) 0) like.0

closed_falls : (due : Option RecoverCall) (old : ℕ) (w : Whole) (new : MountPhase) → most_reads_left (Finish w) ≡ old → IsClosed w new (mount_answer new) → Falls due old (most_mount_calls new) (mount_answer new)
closed_falls due old w (Recovering j) same closed = absurd closed
closed_falls due old w (Reading (ReadHome h)) same closed = absurd closed.0
closed_falls due old w (Reading (ReadMap m)) same closed = absurd closed.0
closed_falls due old w (Reading (Finish v)) same closed = same_left due old (most_reads_left (Finish v)) (like_most w v closed.0 ∙ same)
closed_falls due old w (Reading (Refused r)) same closed = absurd closed.0
closed_falls due old w (Ready ready) same closed = fewer due old 0 AllDone (omega (arith, same))

-- what is said of a phase is said of one like it
falls_at : (due : Option RecoverCall) (old : ℕ) (new at : MountPhase) → new ≡ at → Falls due old (most_mount_calls at) (mount_answer at) → Falls due old (most_mount_calls new) (mount_answer new)
falls_at due old new at is falls = subst (λ (p : MountPhase). Falls due old (most_mount_calls p) (mount_answer p)) (sym is) falls

-- an end
ended_falls : (due : Option RecoverCall) (old : ℕ) (then : MountStage) (e : RecoverError) → is_retried e ≡ false → mount_answer (Reading then) ≡ err_of e → Falls due old (most_reads_left then) (mount_answer (Reading then))
ended_falls due old (ReadHome h) e ends is = absurd (cc is)
ended_falls due old (ReadMap m) e ends is = absurd (cc is)
ended_falls due old (Finish w) e ends is = let same : Memory ≡ e = cc is in absurd (cc (ap is_retried same, ends))
ended_falls due old (Refused r) e ends is = none_left due old r.error r.ends

reading_falls : (stage then : MountStage) (answer : Result (Unit {0}) RecoverError) (new : MountPhase) → OnOk answer (FallsTo stage then) → OnOk answer (FollowsRead stage then) → IfErr answer (λ error. is_retried error ≡ false) → Closes then answer new (mount_answer new) → Falls (due_of_mount (Reading stage)) (most_reads_left stage) (most_mount_calls new) (mount_answer new)
reading_falls stage (ReadHome h) (Ok x) new falls after ends closes =
    falls_at (due_of_mount (Reading stage)) (most_reads_left stage) new (Reading (ReadHome h)) closes.0 (fewer (due_of_mount (Reading stage)) (most_reads_left stage) (most_reads_left (ReadHome h)) More falls)
reading_falls stage (ReadMap m) (Ok x) new falls after ends closes =
    falls_at (due_of_mount (Reading stage)) (most_reads_left stage) new (Reading (ReadMap m)) closes.0 (fewer (due_of_mount (Reading stage)) (most_reads_left stage) (most_reads_left (ReadMap m)) More falls)
reading_falls stage (Finish w) (Ok x) new falls after ends closes = closed_falls (due_of_mount (Reading stage)) (most_reads_left stage) w new falls closes
reading_falls stage (Refused r) (Ok x) new falls after ends closes = no_refusal stage (Refused r) (λ place none. absurd none) after
reading_falls stage then (Err e) new falls after ends closes =
    falls_at (due_of_mount (Reading stage)) (most_reads_left stage) new (Reading then) closes.0
    (ended_falls (due_of_mount (Reading stage)) (most_reads_left stage) then e ends (ap mount_answer (sym closes.0) ∙ closes.1))

-- ---- a step

pub mount-falls : (old new : MountPhase) (got : Got) → MountGoesOn old got new → Falls (due_of_mount old) (most_mount_calls old) (most_mount_calls new) (mount_answer new)
mount-falls (Recovering j) new got goes =
    let stage = recovery_stage j.recover in
    let went = goes.goes.goes in
    let view : most_calls_left (recovery_stage goes.then) ≡ _ = ap most_left_in went.view_is in
    let less = most-next stage got went.reads j.going in
    recovery_falls j goes.then new (answer_in (view_of (recovery_stage goes.then))) (omega (arith, view, less)) goes.follows
mount-falls (Reading stage) new got goes = reading_falls stage goes.then goes.answer new goes.falls goes.after goes.ends goes.closes
mount-falls (Ready ready) new got goes = falls_at None 0 new (Ready ready) goes (record { fell = λ some. absurd (cc some); stood = tt; ended = tt })

-- one whose call failed leaves as many
stage_most : (stage after : MountStage) → IsStageLike stage after → most_reads_left after ≡ most_reads_left stage
stage_most (ReadHome h) (ReadHome k) like =
    ap (λ (l : List Node). (k.head.nodes - length l) + most_maps k.head) like.nodes_are
    ∙ ap (λ (x : Head). (x.nodes - length h.nodes) + most_maps x) like.head_is
stage_most (ReadHome h) (ReadMap m) like = absurd like
stage_most (ReadHome h) (Finish w) like = absurd like
stage_most (ReadHome h) (Refused r) like = absurd like
stage_most (ReadMap m) after like = ap most_reads_left like
stage_most (Finish w) after like = ap most_reads_left like
stage_most (Refused r) after like = ap most_reads_left like

mount_most : (old new : MountPhase) → IsSameMount old new → most_mount_calls new ≡ most_mount_calls old
mount_most (Recovering j) (Recovering k) same = ap (λ v. most_left_in v + most_reads) same.same
mount_most (Recovering j) (Reading stage) same = absurd same
mount_most (Recovering j) (Ready ready) same = absurd same
mount_most (Reading stage) (Recovering k) same = absurd same
mount_most (Reading stage) (Reading after) same = stage_most stage after same
mount_most (Reading stage) (Ready ready) same = absurd same
mount_most (Ready ready) new same = ap most_mount_calls same

pub lost-falls : (old new : MountPhase) (e : DiskError) (error : RecoverError) → error ≡ error_from e → IsSameMount old new → Falls (due_of_mount old) (most_mount_calls old) (most_mount_calls new) (err_of error)
lost-falls old new e error is same = falls-lost (due_of_mount old) (most_mount_calls old) (most_mount_calls new) e error is (mount_most old new same)
