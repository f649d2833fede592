-- Where the calls of a recovery lead, whatever its disk tells.
use Rattle.std.proofs.Common.{◌≡◌, ◌∙◌, ℕ, ◌+◌, ◌-◌, ◌<◌, ◌≤◌, Bool, true, false, cond, eqb, ltb, List, [], ◌∷◌, ◌++◌, length, Option, Some, None, Result, Ok, Err, refl, sym, ap, subst, arith}
use Rattle.std.specs.Prelude.{IfErr, IsErrOf, IsSome, is_some}
use Rattle.std.proofs.lemmas.List.{length-append}
use Rattle.vb_disk.specs.declared.disk_error.DiskError.{DiskError}
use Rattle.vb_disk.specs.declared.disk_error.DiskError.TheVariants.{Failed, Memory as NoMemory}
use Rattle.vb_disk.specs.States.{DiskCall, DiskState}
use Rattle.vb_head.specs.declared.head.Head.{Head}
use Rattle.vb_head.specs.declared.head.HeadRead.{HeadRead}
use Rattle.vb_head.specs.declared.head.State.{State}
use Rattle.vb_head.specs.declared.head.State.TheVariants.{Closed, Opened, Rebuilding as IsBeingMade}
use Rattle.vb_head.specs.Heads.{IsHead, count_of, head_read}
use Rattle.vb_journal.specs.declared.commit_stage.Stage.{Stage}
use Rattle.vb_journal.specs.declared.commit_stage.Stage.TheVariants.{Journal, Opening, Homes, Closing, Rested}
use Rattle.vb_journal.specs.declared.journal.Journal.{Journal as JournalRead}
use Rattle.vb_journal.specs.declared.recover.Ahead.{Ahead}
use Rattle.vb_journal.specs.declared.recover_error.RecoverError.{RecoverError}
use Rattle.vb_journal.specs.declared.recover_error.RecoverError.TheVariants.{DiskFault, Memory, NotAStore}
use Rattle.vb_journal.specs.declared.recover_stage.RecoverStage.{RecoverStage}
use Rattle.vb_journal.specs.declared.recover_stage.RecoverStage.TheVariants.{Ask, Settle, ReadFirst, ReadSecond, Mend, SettleMend, ReadImage, Replay, Ready, Refused}
use Rattle.vb_journal.specs.Interruptions.{is_synced_in}
use Rattle.vb_journal.specs.Plans.{calls_from, next_stage}
use Rattle.vb_journal.specs.Recoveries.{are_one_head, error_from, head_choice, image_refusal, is_retried, journal_place, greater_place}
use Rattle.vb_journal.specs.Recovering.{AskSize, Change, Changes, MakesCall, ReadPlace, RecoverCall, SeenStays, TakesImage, due_of, first_change, images_in_view, most_slots, most_slots_in}
use Rattle.vb_journal.specs.Recovers.{is_reading}
use Rattle.vb_journal.specs.RecoveryCalls.{Falls, most_for, most_left_in}
use Rattle.vb_journal.specs.Shown.{good_of}
use Rattle.vb_journal.specs.RecoverViews.{AtAsk, AtFirst, AtImage, AtMend, AtReady, AtRefused, AtReplay, AtSecond, AtSettle, AtSettleMend, Reads, RecoverView, after_both, after_heads, after_image, after_replay, answer_in, head_before, next, page_in, recover_call, replay_from, view_of}
use Rattle.vb_journal.proofs.DriverSteps.{change-of, may-fail}
use Rattle.vb_journal.proofs.PlanSteps.{calls_from-next, length-calls_from}
use Rattle.vb_journal.proofs.HeadReads.{chosen-is}
use Rattle.vb_journal.proofs.Replays.{late-going}
use Rattle.vb_journal.proofs.RecoverSteps.{lost, made}
use Rattle.vb_steps.specs.declared.due.Got.{Got}
use Rattle.vb_steps.specs.Calls.{Ask as AskCall, Call, Change as ChangeCall, ReadPlace as ReadCall, Rest, SeenStays as SeenAfter, answer_of, is_due, size_in}
use Rattle.vb_steps.specs.Steps.{CallsOnce, Steps}

-- ---- the first sync stays made

either : (P : RecoverView → Type 0) (b : Bool) (x y : RecoverView) → P x → P y → P (cond b x y)
either P true x y a c = a
either P false x y a c = c

both_synced : (head : Head) (state : State) → is_synced_in (after_both head state) ≡ true
both_synced head Closed = refl
both_synced head (Opened count) = either (λ v. is_synced_in v ≡ true) (eqb count 0) (replay_from head []) (AtImage head count []) refl refl
both_synced head IsBeingMade = refl

heads_synced : (a b : HeadRead) (choice : Result Head RecoverError) → is_synced_in (after_heads a b choice) ≡ true
heads_synced a b (Ok head) = either (λ v. is_synced_in v ≡ true) (are_one_head a b) (after_both head head.state) _ (both_synced head head.state) refl
heads_synced a b (Err why) = refl

image_synced : (head : Head) (count : ℕ) (images : List (List ℕ)) (refusal : Option RecoverError) → is_synced_in (after_image head count images refusal) ≡ true
image_synced head count images None = either (λ v. is_synced_in v ≡ true) (ltb (length images) count) (AtImage head count images) (replay_from head images) refl refl
image_synced head count images (Some why) = refl

replay_synced : (head : Head) (epoch : ℕ) (images : List (List ℕ)) (stage : Stage) → is_synced_in (after_replay head epoch images stage) ≡ true
replay_synced head epoch images (Journal next) = refl
replay_synced head epoch images (Opening turn) = refl
replay_synced head epoch images (Homes next) = refl
replay_synced head epoch images (Closing turn) = refl
replay_synced head epoch images Rested = refl

pub synced-next : (stage : RecoverStage) (got : Got) → is_synced_in (view_of stage) ≡ true → is_synced_in (next (view_of stage) got) ≡ true
synced-next Ask got was = absurd (cc was)
synced-next (Settle size) got was = refl
synced-next (ReadFirst size) got was = refl
synced-next (ReadSecond first) got was = heads_synced first.read (head_read (page_in got)) (head_choice first.size.places first.read (head_read (page_in got)))
synced-next (Mend mending) got was = refl
synced-next (SettleMend mending) got was = both_synced mending.head mending.head.state
synced-next (ReadImage journal) got was = image_synced journal.head journal.count (journal.images ++ page_in got ∷ []) (image_refusal journal.head.nodes (journal_place journal.head + length journal.images) journal.images (page_in got))
synced-next (Replay replay) got was = let c = replay.commit in replay_synced c.head c.epoch c.images (next_stage (length c.images) c.stage)
synced-next (Ready ready) got was = refl
synced-next (Refused refusal) got was = refl

-- ---- no more slots are noted than may be

few_images : (journal : JournalRead) → length journal.images ≤ 65536
few_images journal =
    let left = journal.left in
    let range = journal.is.range.nodes_high in
    let count = journal.is.range.count in
    omega (arith, left, range, count, ap count_of journal.opened)

one_more : (journal : JournalRead) → length journal.images + 1 ≤ 65536
one_more journal =
    let left = journal.left in
    let range = journal.is.range.nodes_high in
    let count = journal.is.range.count in
    omega (arith, left, range, count, ap count_of journal.opened)

image_slots : (journal : JournalRead) (image : List ℕ) (refusal : Option RecoverError) → length journal.images ≤ most_slots_in (after_image journal.head journal.count (journal.images ++ image ∷ []) refusal)
image_slots journal image None =
    let more : length (journal.images ++ image ∷ []) ≡ length journal.images + 1 = length-append journal.images (image ∷ []) in
    let few : length journal.images ≤ 65536 = few_images journal in
    either (λ v. length journal.images ≤ most_slots_in v) (ltb (length (journal.images ++ image ∷ [])) journal.count) (AtImage journal.head journal.count (journal.images ++ image ∷ [])) (replay_from journal.head (journal.images ++ image ∷ [])) (omega (arith, more)) few
image_slots journal image (Some why) = few_images journal

replay_slots : (head : Head) (epoch : ℕ) (images : List (List ℕ)) (stage : Stage) → 65536 ≤ most_slots_in (after_replay head epoch images stage)
replay_slots head epoch images (Journal next) = omega arith
replay_slots head epoch images (Opening turn) = omega arith
replay_slots head epoch images (Homes next) = omega arith
replay_slots head epoch images (Closing turn) = omega arith
replay_slots head epoch images Rested = omega arith

pub slots-next : (stage : RecoverStage) (got : Got) → most_slots stage ≤ most_slots_in (next (view_of stage) got)
slots-next Ask got = omega arith
slots-next (Settle size) got = omega arith
slots-next (ReadFirst size) got = omega arith
slots-next (ReadSecond first) got = omega arith
slots-next (Mend mending) got = omega arith
slots-next (SettleMend mending) got = omega arith
slots-next (ReadImage journal) got = image_slots journal (page_in got) (image_refusal journal.head.nodes (journal_place journal.head + length journal.images) journal.images (page_in got))
slots-next (Replay replay) got = let c = replay.commit in replay_slots c.head c.epoch c.images (next_stage (length c.images) c.stage)
slots-next (Ready ready) got = omega arith
slots-next (Refused refusal) got = omega arith

-- one more where an image was read
read_slots : (journal : JournalRead) (image : List ℕ) (refusal : Option RecoverError) → length journal.images + 1 ≤ most_slots_in (after_image journal.head journal.count (journal.images ++ image ∷ []) refusal)
read_slots journal image None =
    let more : length (journal.images ++ image ∷ []) ≡ length journal.images + 1 = length-append journal.images (image ∷ []) in
    let few : length journal.images + 1 ≤ 65536 = one_more journal in
    either (λ v. length journal.images + 1 ≤ most_slots_in v) (ltb (length (journal.images ++ image ∷ [])) journal.count) (AtImage journal.head journal.count (journal.images ++ image ∷ [])) (replay_from journal.head (journal.images ++ image ∷ [])) (omega (arith, more)) few
read_slots journal image (Some why) = one_more journal

noted_slots : (stage : RecoverStage) (got : Got) → cond (is_reading stage) 1 0 + most_slots stage ≤ most_slots_in (next (view_of stage) got)
noted_slots (ReadImage journal) got =
    let read = read_slots journal (page_in got) (image_refusal journal.head.nodes (journal_place journal.head + length journal.images) journal.images (page_in got)) in
    omega (arith, read)
noted_slots Ask got = omega arith
noted_slots (Settle size) got = omega arith
noted_slots (ReadFirst size) got = omega arith
noted_slots (ReadSecond first) got = omega arith
noted_slots (Mend mending) got = omega arith
noted_slots (SettleMend mending) got = omega arith
noted_slots (Replay replay) got = let slots = slots-next (Replay replay) got in omega (arith, slots)
noted_slots (Ready ready) got = omega arith
noted_slots (Refused refusal) got = omega arith

counted_by : (reads : Bool) (before after : ℕ) → after ≤ cond reads (before + 1) before → after ≤ cond reads 1 0 + before
counted_by true before after counted = omega (arith, counted)
counted_by false before after counted = omega (arith, counted)

-- so there are no more than may be, once the slot of an image is noted
pub slots-noted : (stage then : RecoverStage) (got : Got) (reads : Bool) (before after : ℕ) → before ≤ most_slots stage → reads ≡ is_reading stage → view_of then ≡ next (view_of stage) got → after ≤ cond reads (before + 1) before → after ≤ most_slots then
slots-noted stage then got reads before after few reads_is is counted =
    let noted = noted_slots stage got in
    let most : most_slots_in (view_of then) ≡ most_slots_in (next (view_of stage) got) = ap most_slots_in is in
    let more : after ≤ cond (is_reading stage) 1 0 + before = subst (λ (b : Bool). after ≤ cond b 1 0 + before) reads_is (counted_by reads before after counted) in
    omega (arith, noted, most, more, few)

-- ---- the image that was taken

more_taken : (head : Head) (count : ℕ) (images : List (List ℕ)) (b : Bool) → images_in_view (cond b (AtImage head count images) (replay_from head images)) ≡ images
more_taken head count images true = refl
more_taken head count images false = refl

image_taken : (head : Head) (count : ℕ) (images : List (List ℕ)) (refusal : Option RecoverError) (x : Ahead) → answer_in (after_image head count images refusal) ≡ Ok x → images_in_view (after_image head count images refusal) ≡ images
image_taken head count images None x is = more_taken head count images (ltb (length images) count)
image_taken head count images (Some why) x is = absurd (cc is)

pub takes-next : (before after : RecoverStage) (got : Got) (told : Option DiskState) (x : Ahead) → view_of after ≡ next (view_of before) got → ((d : DiskState) → told ≡ Some d → got ≡ answer_of d (recover_call before)) → answer_in (view_of after) ≡ Ok x → TakesImage before after told
takes-next Ask after got told x is gives answers = tt
takes-next (Settle size) after got told x is gives answers = tt
takes-next (ReadFirst size) after got told x is gives answers = tt
takes-next (ReadSecond first) after got told x is gives answers = tt
takes-next (Mend mending) after got told x is gives answers = tt
takes-next (SettleMend mending) after got told x is gives answers = tt
takes-next (ReadImage journal) after got told x is gives answers =
    let page = page_in got in (
      page_in got,
      ap images_in_view is ∙ image_taken journal.head journal.count (journal.images ++ page ∷ []) (image_refusal journal.head.nodes (journal_place journal.head + length journal.images) journal.images page) x (ap answer_in (sym is) ∙ answers),
      λ d was. ap page_in (gives d was),
    )
takes-next (Replay replay) after got told x is gives answers = tt
takes-next (Ready ready) after got told x is gives answers = tt
takes-next (Refused refusal) after got told x is gives answers = tt

-- ---- the call that is made

-- the driver's word for it
abbrev pub call_due : Option RecoverCall → Call
call_due None = Rest
call_due (Some AskSize) = AskCall
call_due (Some (ReadPlace place)) = ReadCall place
call_due (Some (Change call)) = ChangeCall call

pub due-is : (stage : RecoverStage) → recover_call stage ≡ call_due (due_of stage)
due-is Ask = refl
due-is (Settle size) = refl
due-is (ReadFirst size) = refl
due-is (ReadSecond first) = refl
due-is (Mend mending) = refl
due-is (SettleMend mending) = refl
due-is (ReadImage journal) = refl
due-is (Replay replay) =
    let c = replay.commit in
    let going = late-going c.stage replay.late in
    change-of c.head c.epoch c.images c.stage going ∙ ap (λ (l : List DiskCall). call_due (first_change l)) (sym (calls_from-next c.head c.epoch c.images c.stage going))
due-is (Ready ready) = refl
due-is (Refused refusal) = refl

changes_made : {Goes : Got → Type 0} {Stays : Type 0} (call : DiskCall) (old new : Option DiskState) (x : Unit {0}) (result : Result Ahead RecoverError) → IfErr result (λ e. is_retried e ≡ false) → Steps (ChangeCall call) Goes Stays old new (made x) → Changes call old new result
changes_made call old new x (Ok y) ends steps = record {
  made = steps.went.made;
  failed = λ d told is. absurd (cc is);
  memory = λ is. absurd (cc is);
  untold = steps.untold;
}
changes_made call old new x (Err e) ends steps = record {
  made = λ d told. tt;
  failed = λ d told is. let same : e ≡ DiskFault = cc is in absurd (cc (ap is_retried (sym same) ∙ ends));
  memory = λ is. let same : e ≡ Memory = cc is in absurd (cc (ap is_retried (sym same) ∙ ends));
  untold = steps.untold;
}

pub makes-made : {Goes : Got → Type 0} {Stays : Type 0} (due : Option RecoverCall) (old new : Option DiskState) (x : Unit {0}) (result : Result Ahead RecoverError) → IfErr result (λ e. is_retried e ≡ false) → Steps (call_due due) Goes Stays old new (made x) → MakesCall due old new result
makes-made None old new x result ends steps = steps.calm refl
makes-made (Some AskSize) old new x result ends steps = steps.calm refl
makes-made (Some (ReadPlace place)) old new x result ends steps = steps.calm refl
makes-made (Some (Change call)) old new x result ends steps = changes_made call old new x result ends steps

abbrev pub err_of : RecoverError → Result Ahead RecoverError
err_of e = Err e

changes_lost : {Goes : Got → Type 0} {Stays : Type 0} (call : DiskCall) (old new : Option DiskState) (e : DiskError) → Steps (ChangeCall call) Goes Stays old new (lost e) → Changes call old new (err_of (error_from e))
changes_lost call old new Failed steps = record {
  made = λ d told. tt;
  failed = λ d told is. let failed = steps.failed d told in may-fail call d failed.next new failed.told failed.left;
  memory = λ is. absurd (cc is);
  untold = steps.untold;
}
changes_lost call old new NoMemory steps = record {
  made = λ d told. tt;
  failed = λ d told is. absurd (cc is);
  memory = λ is. steps.memory refl;
  untold = steps.untold;
}

makes_lost : {Goes : Got → Type 0} {Stays : Type 0} (due : Option RecoverCall) (old new : Option DiskState) (e : DiskError) → Steps (call_due due) Goes Stays old new (lost e) → MakesCall due old new (err_of (error_from e))
makes_lost None old new e steps = steps.calm refl
makes_lost (Some AskSize) old new e steps = steps.calm refl
makes_lost (Some (ReadPlace place)) old new e steps = steps.calm refl
makes_lost (Some (Change call)) old new e steps = changes_lost call old new e steps

pub makes-lost : {Goes : Got → Type 0} {Stays : Type 0} (due : Option RecoverCall) (old new : Option DiskState) (e : DiskError) (error : RecoverError) → error ≡ error_from e → Steps (call_due due) Goes Stays old new (lost e) → MakesCall due old new (err_of error)
makes-lost due old new e error is steps = subst (λ (f : RecoverError). MakesCall due old new (err_of f)) (sym is) (makes_lost due old new e steps)

due_some : (due : Option RecoverCall) → is_due (call_due due) ≡ is_some due
due_some None = refl
due_some (Some AskSize) = refl
due_some (Some (ReadPlace place)) = refl
due_some (Some (Change call)) = refl

-- a call is due unless it is at its end
pub due-some : (stage : RecoverStage) → is_due (recover_call stage) ≡ is_some (due_of stage)
due-some stage = ap is_due (due-is stage) ∙ due_some (due_of stage)

-- ---- the calls that may be left

replay_most : (head : Head) (epoch : ℕ) (images : List (List ℕ)) (stage : Stage) → most_left_in (after_replay head epoch images stage) ≡ length (calls_from head epoch images stage)
replay_most head epoch images (Journal next) = refl
replay_most head epoch images (Opening turn) = refl
replay_most head epoch images (Homes next) = refl
replay_most head epoch images (Closing turn) = refl
replay_most head epoch images Rested = refl

-- a whole journal is taken home
homes_most : (head : Head) (images : List (List ℕ)) → most_left_in (replay_from head images) ≡ length images + 5
homes_most head images = length-calls_from (head_before head) head.epoch images (Homes 0) ∙ omega arith

opened_most : (head : Head) (count : ℕ) (b : Bool) → most_left_in (cond b (replay_from head []) (AtImage head count [])) ≤ most_for count
opened_most head count true = let homes = homes_most head [] in omega (arith, homes)
opened_most head count false = omega arith

both_most : (head : Head) (state : State) → most_left_in (after_both head state) ≤ most_for (count_of state)
both_most head Closed = omega arith
both_most head (Opened count) = opened_most head count (eqb count 0)
both_most head IsBeingMade = omega arith

few_counted : (head : Head) → IsHead head → count_of head.state ≤ 65536
few_counted head is =
    let range = is.range.nodes_high in
    let count = is.range.count in
    omega (arith, range, count)

one_most : (head : Head) (other : ℕ) (b : Bool) → most_left_in (cond b (after_both head head.state) (AtMend head other)) ≤ most_for (count_of head.state) + 2
one_most head other true = let both = both_most head head.state in omega (arith, both)
one_most head other false = omega arith

heads_most : (a b : HeadRead) (choice : Result Head RecoverError) → ((h : Head) → choice ≡ Ok h → IsHead h) → most_left_in (after_heads a b choice) < most_for 65536 + 3
heads_most a b (Err why) is = omega arith
heads_most a b (Ok head) is =
    let few = few_counted head (is head refl) in
    let one = one_most head (1 - greater_place (good_of a) (good_of b)) (are_one_head a b) in
    omega (arith, few, one)

more_most : (journal : JournalRead) (image : List ℕ) (b : Bool) → ltb (length (journal.images ++ image ∷ [])) journal.count ≡ b → most_left_in (cond b (AtImage journal.head journal.count (journal.images ++ image ∷ [])) (replay_from journal.head (journal.images ++ image ∷ []))) < most_for journal.count - length journal.images
more_most journal image true more =
    let longer : length (journal.images ++ image ∷ []) ≡ length journal.images + 1 = length-append journal.images (image ∷ []) in
    let left = journal.left in
    omega (arith, longer, left)
more_most journal image false more =
    let longer : length (journal.images ++ image ∷ []) ≡ length journal.images + 1 = length-append journal.images (image ∷ []) in
    let left = journal.left in
    let homes = homes_most journal.head (journal.images ++ image ∷ []) in
    omega (arith, longer, left, homes)

image_most : (journal : JournalRead) (image : List ℕ) (refusal : Option RecoverError) → most_left_in (after_image journal.head journal.count (journal.images ++ image ∷ []) refusal) < most_for journal.count - length journal.images
image_most journal image None = more_most journal image (ltb (length (journal.images ++ image ∷ [])) journal.count) refl
image_most journal image (Some why) = let left = journal.left in omega (arith, left)

size_most : (n : ℕ) (b : Bool) → most_left_in (cond b (AtRefused (NotAStore 0)) (AtSettle n)) < most_for 65536 + 6
size_most n true = omega arith
size_most n false = omega arith

pub most-next : (stage : RecoverStage) (got : Got) → Reads (view_of stage) got → IsSome (due_of stage) → most_left_in (next (view_of stage) got) < most_left_in (view_of stage)
most-next Ask got reads due = size_most (size_in got 0) (ltb (size_in got 0) 38)
most-next (Settle size) got reads due = omega arith
most-next (ReadFirst size) got reads due = omega arith
most-next (ReadSecond first) got reads due =
    let second = head_read (page_in got) in
    heads_most first.read second (head_choice first.size.places first.read second) (λ h chosen. chosen-is first.size.places first.read second h first.good (λ g good. (reads.spelled g good).1) chosen)
most-next (Mend mending) got reads due = omega arith
most-next (SettleMend mending) got reads due = let both = both_most mending.head mending.head.state in omega (arith, both)
most-next (ReadImage journal) got reads due = image_most journal (page_in got) (image_refusal journal.head.nodes (journal_place journal.head + length journal.images) journal.images (page_in got))
most-next (Replay replay) got reads due =
    let c = replay.commit in
    let all = ap length (calls_from-next c.head c.epoch c.images c.stage (late-going c.stage replay.late)) in
    let then = replay_most c.head c.epoch c.images (next_stage (length c.images) c.stage) in
    omega (arith, all, then)
most-next (Ready ready) got reads due = absurd (cc due)
most-next (Refused refusal) got reads due = absurd (cc due)

-- after a refusal none may be left
refused_most : (view : RecoverView) (e : RecoverError) → answer_in view ≡ err_of e → most_left_in view ≡ 0
refused_most (AtRefused why) e is = refl
refused_most AtAsk e is = absurd (cc is)
refused_most (AtSettle places) e is = absurd (cc is)
refused_most (AtFirst places) e is = absurd (cc is)
refused_most (AtSecond places read) e is = absurd (cc is)
refused_most (AtMend head other) e is = absurd (cc is)
refused_most (AtSettleMend head other) e is = absurd (cc is)
refused_most (AtImage head count images) e is = absurd (cc is)
refused_most (AtReplay head epoch images stage) e is = absurd (cc is)
refused_most (AtReady head) e is = absurd (cc is)

falls_by : (due : Option RecoverCall) (old : ℕ) (view : RecoverView) (result : Result Ahead RecoverError) → answer_in view ≡ result → IfErr result (λ e. is_retried e ≡ false) → (IsSome due → most_left_in view < old) → Falls due old (most_left_in view) result
falls_by due old view (Ok x) answers ends fell = record { fell = fell; stood = tt; ended = tt }
falls_by due old view (Err e) answers ends fell = record {
  fell = λ some. tt;
  stood = λ again. absurd (cc (again, ends));
  ended = λ over. refused_most view e answers;
}

pub falls-made : (stage : RecoverStage) (got : Got) (view : RecoverView) (result : Result Ahead RecoverError) → view ≡ next (view_of stage) got → Reads (view_of stage) got → result ≡ answer_in view → IfErr result (λ e. is_retried e ≡ false) → Falls (due_of stage) (most_left_in (view_of stage)) (most_left_in view) result
falls-made stage got view result is reads answers ends =
    falls_by (due_of stage) (most_left_in (view_of stage)) view result (sym answers) ends
    (λ some. subst (λ (v : RecoverView). most_left_in v < most_left_in (view_of stage)) (sym is) (most-next stage got reads some))

pub retried-from : (e : DiskError) → is_retried (error_from e) ≡ true
retried-from Failed = refl
retried-from NoMemory = refl

pub falls-lost : (due : Option RecoverCall) (old new : ℕ) (e : DiskError) (error : RecoverError) → error ≡ error_from e → new ≡ old → Falls due old new (err_of error)
falls-lost due old new e error is same = record {
  fell = λ some. tt;
  stood = λ again. same;
  ended = λ over. let again : is_retried error ≡ true = ap is_retried is ∙ retried-from e in absurd (cc (again, over));
}

-- ---- the calls that are made

never_out : (result : Result Ahead RecoverError) → IfErr result (λ e. is_retried e ≡ false) → IsErrOf result Memory → ⊥
never_out (Ok x) ends out = absurd (cc out)
never_out (Err e) ends out = let same : e ≡ Memory = cc out in absurd (cc (ap is_retried same, ends))

pub called-made : (stage : RecoverStage) (before after : ℕ) (x : Unit {0}) (result : Result Ahead RecoverError) → IfErr result (λ e. is_retried e ≡ false) → CallsOnce NoMemory (is_due (recover_call stage)) before after (made x) → CallsOnce Memory (is_some (due_of stage)) before after result
called-made stage before after x result ends called = record {
  none = λ is. called.none (due-some stage ∙ is);
  once = λ is no_memory. called.once (due-some stage ∙ is) (λ out. absurd (cc out));
  at_most = λ out. absurd (never_out result ends out);
}

called_lost : (due : Bool) (before after : ℕ) (e : DiskError) → CallsOnce NoMemory due before after (lost e) → CallsOnce Memory due before after (err_of (error_from e))
called_lost due before after Failed called = record {
  none = called.none;
  once = λ is no_memory. called.once is (λ out. absurd (cc out));
  at_most = λ out. absurd (cc out);
}
called_lost due before after NoMemory called = record {
  none = called.none;
  once = λ is no_memory. absurd (no_memory refl);
  at_most = λ out. called.at_most refl;
}

pub called-lost : (stage : RecoverStage) (before after : ℕ) (e : DiskError) (error : RecoverError) → error ≡ error_from e → CallsOnce NoMemory (is_due (recover_call stage)) before after (lost e) → CallsOnce Memory (is_some (due_of stage)) before after (err_of error)
called-lost stage before after e error is called =
    subst (λ (f : RecoverError). CallsOnce Memory (is_some (due_of stage)) before after (err_of f)) (sym is)
    (subst (λ (b : Bool). CallsOnce Memory b before after (err_of (error_from e))) (due-some stage) (called_lost (is_due (recover_call stage)) before after e called))

seen_due : (due : Option RecoverCall) (old new : ℕ) → SeenAfter (call_due due) old new → SeenStays due old new
seen_due None old new seen = seen
seen_due (Some AskSize) old new seen = seen
seen_due (Some (ReadPlace place)) old new seen = seen
seen_due (Some (Change call)) old new seen = seen

-- the seen size
pub seen-due : (stage : RecoverStage) (old new : ℕ) → SeenAfter (recover_call stage) old new → SeenStays (due_of stage) old new
seen-due stage old new seen = seen_due (due_of stage) old new (subst (λ (c : Call). SeenAfter c old new) (due-is stage) seen)
