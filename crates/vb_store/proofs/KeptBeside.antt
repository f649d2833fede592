-- A step of a mount keeps what is known beside damage.
use Rattle.std.proofs.Common.{◌≡◌, ◌∙◌, ℕ, ◌+◌, ◌-◌, Bool, true, false, cond, ltb, List, [], ◌∷◌, ◌++◌, length, Option, Some, None, Result, Ok, Err, IfErr, OnOk, refl, sym, ap, subst, ◌⊎◌, inl, inr}
use Rattle.std.specs.Result.{result_err}
use Rattle.vb_disk.specs.declared.disk_error.DiskError.{DiskError}
use Rattle.vb_disk.specs.States.{DiskCall, DiskState, IsDiskState, read_at}
use Rattle.vb_head.specs.declared.head.Head.{Head}
use Rattle.vb_inode.specs.declared.node.Node.{Node}
use Rattle.vb_inode.specs.Reading.{node_read}
use Rattle.vb_index.specs.Indexes.{IndexState}
use Rattle.vb_journal.specs.declared.recover.Recover.{Recover}
use Rattle.vb_journal.specs.declared.recover.Ahead.{Ahead}
use Rattle.vb_journal.specs.declared.recover_error.RecoverError.{RecoverError}
use Rattle.vb_journal.specs.declared.recover_error.RecoverError.TheVariants.{NotAStore, Damaged, Unfit, Rebuilding, DiskFault, Memory}
use Rattle.vb_journal.specs.declared.recover_stage.RecoverStage.{RecoverStage}
use Rattle.vb_journal.specs.declared.recover_stage.RecoverStage.TheVariants.{Ask, Settle, ReadFirst, ReadSecond, Mend, SettleMend, ReadImage, Replay, Ready as AtEnd, Refused as AtRefusal}
use Rattle.vb_journal.specs.Recoveries.{image_refusal, is_retried, journal_place}
use Rattle.vb_journal.specs.Plans.{calls_from}
use Rattle.vb_journal.specs.Recovering.{AskSize, due_in, due_of, first_change, images_in_view, nodes_in}
use Rattle.vb_journal.specs.Recovers.{last_of, ready_head, recovery_stage}
use Rattle.vb_journal.specs.RecoverMoves.{GoesOnFrom}
use Rattle.vb_journal.specs.RecoverViews.{RecoverView, AtAsk, AtSettle, AtFirst, AtSecond, AtMend, AtSettleMend, AtImage, AtReplay, AtReady, AtRefused, after_image, answer_in, next, page_in, recover_call, replay_from, view_of}
use Rattle.vb_journal.proofs.Answering.{last_of-more}
use Rattle.vb_journal.proofs.RecoverSteps.{lost}
use Rattle.vb_steps.specs.declared.due.Got.{Got}
use Rattle.vb_steps.specs.Calls.{MayFailTo, after, answer_of}
use Rattle.vb_steps.specs.Steps.{Steps}
use Rattle.vb_store.specs.declared.mount_parts.Homes.{Homes}
use Rattle.vb_store.specs.declared.mount_parts.Whole.{Whole}
use Rattle.vb_store.specs.declared.mount_phase.MountPhase.{MountPhase}
use Rattle.vb_store.specs.declared.mount_phase.MountPhase.TheVariants.{Recovering, Reading, Ready}
use Rattle.vb_store.specs.declared.mount_stage.MountStage.{MountStage}
use Rattle.vb_store.specs.declared.mount_stage.MountStage.TheVariants.{ReadHome, ReadMap, Finish, Refused}
use Rattle.vb_store.specs.Beside.{IsBeside}
use Rattle.vb_store.specs.Clear.{first_candidates}
use Rattle.vb_store.specs.LentImages.{IsPhaseOf, fault_of_image, lent_fault}
use Rattle.vb_store.specs.Metadata.{Metadata, node_or_refusal}
use Rattle.vb_store.specs.MountMoves.{BeginsReading, FollowsMore, FollowsRecovery, IsSameMount, IsStageLike, MountGoesOn, ReadingGoesOn, RecoveryGoesOn, mount_answer, mount_call, read_call}
use Rattle.vb_store.specs.Mounts.{HasMountEnded}
use Rattle.vb_store.specs.MountStages.{HasEnded, StandsAfter, due_place, rest_of, rest_of_homes}
use Rattle.vb_store.specs.MountsBeside.{IsMountedBeside, KeepsBeside}
use Rattle.vb_store.specs.OneOf.{RecoversOneOf, TreeView}
use Rattle.vb_store.specs.Readings.{Closes, IsClosed}
use Rattle.vb_store.specs.Settled.{IsReadBeside, PassesRead, TakesPage}
use Rattle.vb_store.proofs.PhasesBeside.{mount-ended, mount-homes, mount-image, mount-view}
use Rattle.vb_store.proofs.ReadingsBeside.{reads-on}
use Rattle.vb_store.proofs.StepsBeside.{IsBeside-failed, IsBeside-next}

-- ---- the image that is lent is a node

-- why the last image at a stage is refused
fault_in : RecoverView → Option RecoverError
fault_in view = fault_of_image (last_of (images_in_view view)) (nodes_in view) (length (images_in_view view))

some_image : (images : List (List ℕ)) (page : List ℕ) (nodes : ℕ) (count : ℕ) → ((place : ℕ) → result_err (node_or_refusal place (node_read nodes page)) ≡ None) → fault_of_image (last_of (images ++ page ∷ [])) (Some nodes) count ≡ None
some_image images page nodes count sound = ap (λ (o : Option (List ℕ)). fault_of_image o (Some nodes) count) (last_of-more images page) ∙ sound (1 + nodes + count)

more_fault : (head : Head) (count : ℕ) (images : List (List ℕ)) (page : List ℕ) (more : Bool) → ((place : ℕ) → result_err (node_or_refusal place (node_read head.nodes page)) ≡ None) → fault_in (cond more (AtImage head count (images ++ page ∷ [])) (replay_from head (images ++ page ∷ []))) ≡ None
unfolding fault_in
more_fault head count images page true sound = some_image images page head.nodes (length (images ++ page ∷ [])) sound
more_fault head count images page false sound = some_image images page head.nodes (length (images ++ page ∷ [])) sound

image_sound : (head : Head) (count : ℕ) (images : List (List ℕ)) (page : List ℕ) (refusal : Option RecoverError) → (refusal ≡ None → (place : ℕ) → result_err (node_or_refusal place (node_read head.nodes page)) ≡ None) → fault_in (after_image head count (images ++ page ∷ []) refusal) ≡ None
unfolding fault_in
image_sound head count images page None sound = more_fault head count images page (ltb (length (images ++ page ∷ [])) count) (sound refl)
image_sound head count images page (Some why) sound = refl

none_lends : (then : Recover) → then.lends ≡ false → lent_fault then ≡ None
none_lends then none =
    ap (λ (b : Bool). fault_of_image (cond b (last_of (images_in_view (view_of then.stage))) None) (nodes_in (view_of then.stage)) (length (images_in_view (view_of then.stage)))) none

image_lends : (then : Recover) (view : RecoverView) → then.lends ≡ true → view_of then.stage ≡ view → fault_in view ≡ None → lent_fault then ≡ None
unfolding fault_in
image_lends then view lends is none =
    ap (λ (b : Bool). fault_of_image (cond b (last_of (images_in_view (view_of then.stage))) None) (nodes_in (view_of then.stage)) (length (images_in_view (view_of then.stage)))) lends
    ∙ ap fault_in is ∙ none

lent-sound : (views : List TreeView) (made : Bool) (stage : RecoverStage) (place : ℕ) (slots : List ℕ) (then : Recover) (d : DiskState) → IsDiskState d → IsBeside views made (view_of stage) d → GoesOnFrom stage place slots (answer_of d (recover_call stage)) then → lent_fault then ≡ None
lent-sound views made Ask place slots then d disk is goes = none_lends then goes.lends
lent-sound views made (Settle size) place slots then d disk is goes = none_lends then goes.lends
lent-sound views made (ReadFirst size) place slots then d disk is goes = none_lends then goes.lends
lent-sound views made (ReadSecond first) place slots then d disk is goes = none_lends then goes.lends
lent-sound views made (Mend mending) place slots then d disk is goes = none_lends then goes.lends
lent-sound views made (SettleMend mending) place slots then d disk is goes = none_lends then goes.lends
lent-sound views made (ReadImage journal) place slots then d disk is goes =
    let at : ℕ = journal_place journal.head + length journal.images in
    let refusal : Option RecoverError = image_refusal journal.head.nodes at journal.images (read_at d at) in
    image_lends then (after_image journal.head journal.count (journal.images ++ read_at d at ∷ []) refusal) goes.lends goes.goes.view_is
    (image_sound journal.head journal.count journal.images (read_at d at) refusal (λ taken p. mount-image views made journal.head journal.count journal.images d p disk is taken))
lent-sound views made (Replay replay) place slots then d disk is goes = none_lends then goes.lends
lent-sound views made (AtEnd ready) place slots then d disk is goes = none_lends then goes.lends
lent-sound views made (AtRefusal refusal) place slots then d disk is goes = none_lends then goes.lends

-- ---- after a call of the recovery

more-follows : (views : List TreeView) (made : Bool) (then : Recover) (phase : MountPhase) (d : DiskState) → IsBeside views made (view_of (recovery_stage then)) d → lent_fault then ≡ None → FollowsMore then (lent_fault then) phase → IsMountedBeside views made phase d
more-follows views made then phase d is none follows = by_phase phase (subst (λ (o : Option RecoverError). FollowsMore then o phase) none follows)
  where
    by_phase : (p : MountPhase) → IsPhaseOf then p → IsMountedBeside views made p d
    by_phase (Recovering j) of = subst (λ (r : Recover). IsBeside views made (view_of (recovery_stage r)) d) (sym of) is
    by_phase (Reading stage) of = absurd of
    by_phase (Ready ready) of = absurd of

ready-is : (stage : RecoverStage) (head other : Head) → view_of stage ≡ AtReady head → ready_head stage ≡ Some other → head ≡ other
ready-is Ask head other view some = absurd (cc some)
ready-is (Settle size) head other view some = absurd (cc some)
ready-is (ReadFirst size) head other view some = absurd (cc some)
ready-is (ReadSecond first) head other view some = absurd (cc some)
ready-is (Mend mending) head other view some = absurd (cc some)
ready-is (SettleMend mending) head other view some = absurd (cc some)
ready-is (ReadImage journal) head other view some = absurd (cc some)
ready-is (Replay replay) head other view some = absurd (cc some)
ready-is (AtEnd ready) head other view some =
    let one : ready.head ≡ head = cc view in
    let two : ready.head ≡ other = cc some in
    sym one ∙ two
ready-is (AtRefusal refusal) head other view some = absurd (cc some)

ready-follows : (views : List TreeView) (made : Bool) (then : Recover) (head : Head) (phase : MountPhase) (d : DiskState) → IsDiskState d → view_of (recovery_stage then) ≡ AtReady head → IsBeside views made (AtReady head) d → BeginsReading then phase → IsMountedBeside views made phase d
ready-follows views made then head (Recovering j) d disk view is begins = absurd begins
ready-follows views made then head (Reading (ReadHome h)) d disk view is begins =
    mount-homes views made d h disk (subst (λ (x : Head). IsBeside views made (AtReady x) d) (ready-is (recovery_stage then) head h.head view begins.head_is) is) begins.none
ready-follows views made then head (Reading (ReadMap m)) d disk view is begins = absurd begins
ready-follows views made then head (Reading (Finish w)) d disk view is begins = absurd begins
ready-follows views made then head (Reading (Refused r)) d disk view is begins = absurd begins
ready-follows views made then head (Ready ready) d disk view is begins = absurd begins

refused-follows : (views : List TreeView) (made : Bool) (why : RecoverError) (phase : MountPhase) (d : DiskState) → IsBeside views made (AtRefused why) d → HasMountEnded phase why → IsMountedBeside views made phase d
refused-follows views made why (Recovering j) d is ended = absurd ended
refused-follows views made why (Reading stage) d is ended = mount-ended views made why stage d is ended
refused-follows views made why (Ready ready) d is ended = absurd ended

recovery-follows : (views : List TreeView) (made : Bool) (then : Recover) (view : RecoverView) (phase : MountPhase) (d : DiskState) → IsDiskState d → view_of (recovery_stage then) ≡ view → IsBeside views made view d → lent_fault then ≡ None → FollowsRecovery then (answer_in view) phase → IsMountedBeside views made phase d
recovery-follows views made then AtAsk phase d disk view is none follows = more-follows views made then phase d (subst (λ (v : RecoverView). IsBeside views made v d) (sym view) is) none follows
recovery-follows views made then (AtSettle places) phase d disk view is none follows = more-follows views made then phase d (subst (λ (v : RecoverView). IsBeside views made v d) (sym view) is) none follows
recovery-follows views made then (AtFirst places) phase d disk view is none follows = more-follows views made then phase d (subst (λ (v : RecoverView). IsBeside views made v d) (sym view) is) none follows
recovery-follows views made then (AtSecond places read) phase d disk view is none follows = more-follows views made then phase d (subst (λ (v : RecoverView). IsBeside views made v d) (sym view) is) none follows
recovery-follows views made then (AtMend head other) phase d disk view is none follows = more-follows views made then phase d (subst (λ (v : RecoverView). IsBeside views made v d) (sym view) is) none follows
recovery-follows views made then (AtSettleMend head other) phase d disk view is none follows = more-follows views made then phase d (subst (λ (v : RecoverView). IsBeside views made v d) (sym view) is) none follows
recovery-follows views made then (AtImage head count images) phase d disk view is none follows = more-follows views made then phase d (subst (λ (v : RecoverView). IsBeside views made v d) (sym view) is) none follows
recovery-follows views made then (AtReplay head epoch images stage) phase d disk view is none follows = more-follows views made then phase d (subst (λ (v : RecoverView). IsBeside views made v d) (sym view) is) none follows
recovery-follows views made then (AtReady head) phase d disk view is none follows = ready-follows views made then head phase d disk view is follows
recovery-follows views made then (AtRefused why) phase d disk view is none follows = refused-follows views made why phase d is follows

recovery-made : (views : List TreeView) (made : Bool) (r : Recover) (phase : MountPhase) (d : DiskState) → IsDiskState d → IsDiskState (after d (recover_call (recovery_stage r))) → IsBeside views made (view_of (recovery_stage r)) d → RecoveryGoesOn r (answer_of d (recover_call (recovery_stage r))) phase → IsMountedBeside views made phase (after d (recover_call (recovery_stage r)))
recovery-made views made r phase d disk later is goes =
    let view : RecoverView = view_of (recovery_stage r) in
    let got : Got = answer_of d (recover_call (recovery_stage r)) in
    let step : IsBeside views made (next view got) (after d (recover_call (recovery_stage r))) = IsBeside-next views made view d disk later goes.goes.goes.reads is in
    let then : Recover = goes.then in
    recovery-follows views made then (view_of (recovery_stage then)) phase (after d (recover_call (recovery_stage r))) later refl
    (subst (λ (v : RecoverView). IsBeside views made v (after d (recover_call (recovery_stage r)))) (sym goes.goes.goes.view_is) step)
    (lent-sound views made (recovery_stage r) r.place r.slots.items then d disk is goes.goes) goes.follows

-- ---- after a read

retried-ends : (stage then : MountStage) (error : RecoverError) → is_retried error ≡ false → StandsAfter stage then error → HasEnded then error
retried-ends stage then (NotAStore place) ends stands = stands
retried-ends stage then (Damaged place kept found) ends stands = stands
retried-ends stage then (Unfit place why) ends stands = stands
retried-ends stage then Rebuilding ends stands = stands
retried-ends stage then DiskFault ends stands = absurd (cc ends)
retried-ends stage then Memory ends stands = absurd (cc ends)

ends-by : (page : List ℕ) (stage then : MountStage) (answer : Result (Unit {0}) RecoverError) → OnOk answer (PassesRead page stage) → IfErr answer (λ error. is_retried error ≡ false) → IfErr answer (StandsAfter stage then) → PassesRead page stage ⊎ ((error : RecoverError) × HasEnded then error)
ends-by page stage then (Ok done) passes taken error = inl passes
ends-by page stage then (Err e) passes taken error = inr (e, retried-ends stage then e taken error)

like-reads : (views : List TreeView) (made : Bool) (w v : Whole) (d : DiskState) → v.head ≡ w.head → v.index ≡ w.index → IsReadBeside views made (Finish w) d → IsReadBeside views made (Finish v) d
like-reads views made w v d head index is =
    let same : rest_of (first_candidates d) (Finish v) ≡ rest_of (first_candidates d) (Finish w) =
    ap (λ (h : Head). let r : Result Metadata RecoverError = Ok (record { head = h; held = v.index.nodes }) in r) head
    ∙ ap (λ (i : IndexState). let r : Result Metadata RecoverError = Ok (record { head = w.head; held = i.nodes }) in r) index in
    record {
      head = is.head;
      rests = is.rests;
      its = is.its;
      leads = elim is.leads [
        | inl leads ↦ inl (same ∙ leads)
        | inr ended ↦ absurd ended.1
      ];
    }

read-closed : (views : List TreeView) (made : Bool) (w : Whole) (phase : MountPhase) (result : Result Ahead RecoverError) (d : DiskState) → IsReadBeside views made (Finish w) d → IsClosed w phase result → IsMountedBeside views made phase d
read-closed views made w (Recovering j) result d is closed = absurd closed
read-closed views made w (Reading (ReadHome h)) result d is closed = absurd closed.0
read-closed views made w (Reading (ReadMap m)) result d is closed = absurd closed.0
read-closed views made w (Reading (Finish v)) result d is closed = inl (like-reads views made w v d closed.0.0 closed.0.1 is)
read-closed views made w (Reading (Refused r)) result d is closed = absurd closed.0
read-closed views made w (Ready ready) result d is closed = mount-view views made w ready d is closed.0 closed.1

at-phase : (views : List TreeView) (made : Bool) (stage : MountStage) (phase : MountPhase) (d : DiskState) → IsMountedBeside views made (Reading stage) d → phase ≡ Reading stage → IsMountedBeside views made phase d
at-phase views made stage phase d is same = subst (λ (p : MountPhase). IsMountedBeside views made p d) (sym same) is

read-goes : (views : List TreeView) (made : Bool) (then : MountStage) (answer : Result (Unit {0}) RecoverError) (phase : MountPhase) (result : Result Ahead RecoverError) (d : DiskState) → IsReadBeside views made then d → Closes then answer phase result → IsMountedBeside views made phase d
read-goes views made (ReadHome h) (Ok done) phase result d is closes = at-phase views made (ReadHome h) phase d (inl is) closes.0
read-goes views made (ReadMap m) (Ok done) phase result d is closes = at-phase views made (ReadMap m) phase d (inl is) closes.0
read-goes views made (Finish w) (Ok done) phase result d is closes = read-closed views made w phase result d is closes
read-goes views made (Refused r) (Ok done) phase result d is closes = at-phase views made (Refused r) phase d (inl is) closes.0
read-goes views made then (Err e) phase result d is closes = at-phase views made then phase d (inl is) closes.0

refused-goes : (views : List TreeView) (made : Bool) (stage then : MountStage) (answer : Result (Unit {0}) RecoverError) (phase : MountPhase) (result : Result Ahead RecoverError) (d : DiskState) → (error : RecoverError) → HasEnded stage error → then ≡ stage → IsMountedBeside views made (Reading stage) d → Closes then answer phase result → IsMountedBeside views made phase d
refused-goes views made (ReadHome h) then answer phase result d error ended same is closes = absurd ended
refused-goes views made (ReadMap m) then answer phase result d error ended same is closes = absurd ended
refused-goes views made (Finish w) then answer phase result d error ended same is closes = absurd ended
refused-goes views made (Refused r) then answer phase result d error ended same is closes =
    by_answer answer (subst (λ (s : MountStage). Closes s answer phase result) same closes)
  where
    by_answer : (a : Result (Unit {0}) RecoverError) → Closes (Refused r) a phase result → IsMountedBeside views made phase d
    by_answer (Ok done) closed = at-phase views made (Refused r) phase d is closed.0
    by_answer (Err e) closed = at-phase views made (Refused r) phase d is closed.0

taken-of : (stage : MountStage) (got : Got) (phase : MountPhase) (goes : ReadingGoesOn stage got phase) → TakesPage (page_in got) stage goes.then
taken-of (ReadHome h) got phase goes = record { same = goes.rest; ends = ends-by (page_in got) (ReadHome h) goes.then goes.answer goes.passes goes.ends goes.error }
taken-of (ReadMap m) got phase goes = record { same = goes.rest; ends = ends-by (page_in got) (ReadMap m) goes.then goes.answer goes.passes goes.ends goes.error }
taken-of (Finish w) got phase goes = goes.at_end
taken-of (Refused r) got phase goes = goes.at_end

read-made : (views : List TreeView) (made : Bool) (stage : MountStage) (got : Got) (phase : MountPhase) (d : DiskState) (place : ℕ) → IsDiskState d → due_place stage ≡ Some place → page_in got ≡ read_at d place → ReadingGoesOn stage got phase → IsReadBeside views made stage d → IsMountedBeside views made phase d
read-made views made stage got phase d place disk due page goes is =
    let takes : TakesPage (read_at d place) stage goes.then = subst (λ (p : List ℕ). TakesPage p stage goes.then) page (taken-of stage got phase goes) in
    read-goes views made goes.then goes.answer phase (mount_answer phase) d (reads-on views made stage goes.then d place disk due takes is) goes.closes

reading-made : (views : List TreeView) (made : Bool) (stage : MountStage) (got : Got) (phase : MountPhase) (d : DiskState) → IsDiskState d → got ≡ answer_of d (read_call (due_place stage)) → ReadingGoesOn stage got phase → IsMountedBeside views made (Reading stage) d → IsMountedBeside views made phase (after d (read_call (due_place stage)))
reading-made views made (ReadHome h) got phase d disk gives goes (inl is) = read-made views made (ReadHome h) got phase d (2 + length h.nodes) disk refl (ap page_in gives) goes is
reading-made views made (ReadMap m) got phase d disk gives goes (inl is) = read-made views made (ReadMap m) got phase d m.map.reference.place disk refl (ap page_in gives) goes is
reading-made views made (Finish w) got phase d disk gives goes (inl is) = read-made views made (Finish w) got phase d w.place disk refl (ap page_in gives) goes is
reading-made views made (Refused r) got phase d disk gives goes is = refused-goes views made (Refused r) goes.then goes.answer phase (mount_answer phase) d r.error refl goes.at_end is goes.closes
reading-made views made (ReadHome h) got phase d disk gives goes (inr is) = absurd is.ended
reading-made views made (ReadMap m) got phase d disk gives goes (inr is) = absurd is.ended
reading-made views made (Finish w) got phase d disk gives goes (inr is) = absurd is.ended

made-known : (views : List TreeView) (made : Bool) (old new : MountPhase) (got : Got) (d : DiskState) → IsDiskState d → IsDiskState (after d (mount_call old)) → got ≡ answer_of d (mount_call old) → MountGoesOn old got new → IsMountedBeside views made old d → IsMountedBeside views made new (after d (mount_call old))
made-known views made (Recovering j) new got d disk later gives goes is =
    recovery-made views made j.recover new d disk later is (subst (λ (g : Got). RecoveryGoesOn j.recover g new) gives goes)
made-known views made (Reading stage) new got d disk later gives goes is = reading-made views made stage got new d disk gives goes is
made-known views made (Ready ready) new got d disk later gives goes is = subst (λ (p : MountPhase). IsMountedBeside views made p d) (sym goes) is

abbrev finished : Unit {0} → Result (Unit {0}) DiskError
finished x = Ok x

-- the call that was due was made
pub keeps-made : {Stays : Type 0} (old new : MountPhase) (was then : Option DiskState) (x : Unit {0}) → ((d : DiskState) → was ≡ Some d → IsDiskState d) → ((d : DiskState) → then ≡ Some d → IsDiskState d) → Steps (mount_call old) (λ got. MountGoesOn old got new) Stays was then (finished x) → KeepsBeside old new was then
keeps-made old new was then x valid valid_then steps views made d next told new_told is =
    let went = steps.went in
    let after_is : then ≡ Some (after d (mount_call old)) = went.made d told in
    let same : after d (mount_call old) ≡ next = cc (after_is, new_told) in
    subst (IsMountedBeside views made new) same
    (made-known views made old new went.got d (valid d told) (valid_then (after d (mount_call old)) after_is) (went.gives d told) went.goes is)

-- ---- a call that failed

homes-like : (views : List TreeView) (made : Bool) (h k : Homes) (d : DiskState) → k.head ≡ h.head → k.place ≡ h.place → k.slots.items ≡ h.slots.items → k.nodes ≡ h.nodes → IsReadBeside views made (ReadHome h) d → IsReadBeside views made (ReadHome k) d
homes-like views made h k d head place slots nodes is =
    let reads : ℕ → List ℕ = first_candidates d in
    let same : rest_of reads (ReadHome k) ≡ rest_of reads (ReadHome h) =
    ap (λ (l : List Node). rest_of_homes reads k.head k.place k.slots.items (k.head.nodes - length l) l) nodes
    ∙ ap (λ (s : List ℕ). rest_of_homes reads k.head k.place s (k.head.nodes - length h.nodes) h.nodes) slots
    ∙ ap (λ (p : ℕ). rest_of_homes reads k.head p h.slots.items (k.head.nodes - length h.nodes) h.nodes) place
    ∙ ap (λ (x : Head). rest_of_homes reads x h.place h.slots.items (x.nodes - length h.nodes) h.nodes) head in
    record {
      head = is.head;
      rests = is.rests;
      its = is.its;
      leads = elim is.leads [
        | inl leads ↦ inl (same ∙ leads)
        | inr ended ↦ absurd ended.1
      ];
    }

stage-like : (views : List TreeView) (made : Bool) (stage after : MountStage) (d : DiskState) → IsStageLike stage after → IsMountedBeside views made (Reading stage) d → IsMountedBeside views made (Reading after) d
stage-like views made (ReadHome h) (ReadHome k) d like (inl is) = inl (homes-like views made h k d like.head_is like.place_is like.slots_are like.nodes_are is)
stage-like views made (ReadHome h) (ReadHome k) d like (inr is) = absurd is.ended
stage-like views made (ReadHome h) (ReadMap m) d like is = absurd like
stage-like views made (ReadHome h) (Finish w) d like is = absurd like
stage-like views made (ReadHome h) (Refused r) d like is = absurd like
stage-like views made (ReadMap m) after d like is = subst (λ (s : MountStage). IsMountedBeside views made (Reading s) d) (sym like) is
stage-like views made (Finish w) after d like is = subst (λ (s : MountStage). IsMountedBeside views made (Reading s) d) (sym like) is
stage-like views made (Refused r) after d like is = subst (λ (s : MountStage). IsMountedBeside views made (Reading s) d) (sym like) is

read-left : (stage : MountStage) (d left : DiskState) → MayFailTo (read_call (due_place stage)) d left → left ≡ d
read-left (ReadHome h) d left may = may
read-left (ReadMap m) d left may = may
read-left (Finish w) d left may = may
read-left (Refused r) d left may = may

lost-known : (views : List TreeView) (made : Bool) (old new : MountPhase) (d left : DiskState) → MayFailTo (mount_call old) d left → IsSameMount old new → IsMountedBeside views made old d → IsMountedBeside views made new left
lost-known views made (Recovering j) (Recovering k) d left may same is =
    subst (λ (v : RecoverView). IsBeside views made v left) (sym same.same) (IsBeside-failed views made (view_of (recovery_stage j.recover)) d left may is)
lost-known views made (Recovering j) (Reading stage) d left may same is = absurd same
lost-known views made (Recovering j) (Ready ready) d left may same is = absurd same
lost-known views made (Reading stage) (Recovering k) d left may same is = absurd same
lost-known views made (Reading stage) (Reading then) d left may same is =
    subst (IsMountedBeside views made (Reading then)) (sym (read-left stage d left may)) (stage-like views made stage then d same is)
lost-known views made (Reading stage) (Ready ready) d left may same is = absurd same
lost-known views made (Ready ready) new d left may same is =
    subst (IsMountedBeside views made new) (sym may) (subst (λ (p : MountPhase). IsMountedBeside views made p d) (sym same) is)

pub keeps-lost : {Goes : Got → Type 0} (old new : MountPhase) (was then : Option DiskState) (e : DiskError) → Steps (mount_call old) Goes (IsSameMount old new) was then (lost e) → KeepsBeside old new was then
keeps-lost old new was then e steps views made d next told new_told is =
    let failed = steps.failed d told in
    let same : failed.next ≡ next = (let one = failed.told in cc (one, new_told)) in
    subst (IsMountedBeside views made new) same (lost-known views made old new d failed.next failed.left steps.stays is)

-- ---- a mount that begins

first-ask : {A : Type 0} (calls : List DiskCall) → first_change calls ≡ Some AskSize → A
first-ask [] is = absurd (cc is)
first-ask (call ∷ calls) is = absurd (cc is)

ask-view : (view : RecoverView) → due_in view ≡ Some AskSize → view ≡ AtAsk
ask-view AtAsk is = refl
ask-view (AtSettle places) is = absurd (cc is)
ask-view (AtFirst places) is = absurd (cc is)
ask-view (AtSecond places read) is = absurd (cc is)
ask-view (AtMend head other) is = absurd (cc is)
ask-view (AtSettleMend head other) is = absurd (cc is)
ask-view (AtImage head count images) is = absurd (cc is)
ask-view (AtReplay head epoch images stage) is = first-ask (calls_from head epoch images stage) is
ask-view (AtReady head) is = absurd (cc is)
ask-view (AtRefused why) is = absurd (cc is)

pub begins-beside : (views : List TreeView) (made : Bool) (r : Recover) (d : DiskState) → due_of (recovery_stage r) ≡ Some AskSize → RecoversOneOf views made d → IsBeside views made (view_of (recovery_stage r)) d
begins-beside views made r d due recovers =
    let begun : IsBeside views made AtAsk d = record { known = tt; recovers = recovers } in
    subst (λ (v : RecoverView). IsBeside views made v d) (sym (ask-view (view_of (recovery_stage r)) due)) begun
