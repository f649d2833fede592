-- What is known of the journal as its images are read, and as they go home.
use Rattle.std.proofs.Common.{◌≡◌, ℕ, zero, suc, ◌+◌, ◌-◌, ◌*◌, ◌≤◌, Bool, true, false, cond, ltb, List, [], ◌∷◌, ◌++◌, length, Option, Some, None, refl, sym, ap, subst, ◌∙◌, ◌⊎◌, inl, inr, arith}
use Rattle.std.proofs.lemmas.Bool.{cases_lt, ltb-false, ltb-true}
use Rattle.std.proofs.lemmas.List.{length-append}
use Rattle.sha2.specs.Sha256.{sha256}
use Rattle.vb_block.specs.Pages.{seal_of, sealed_part}
use Rattle.vb_disk.specs.declared.cell.Cell.{Cell}
use Rattle.vb_disk.specs.Cells.{synced_cell}
use Rattle.vb_disk.specs.States.{DiskCall, DiskState, IsDiskState, Resize, Sync, Write, after_call}
use Rattle.vb_head.specs.declared.head.Head.{Head}
use Rattle.vb_head.specs.declared.head.State.{State}
use Rattle.vb_head.specs.declared.head.State.TheVariants.{Opened}
use Rattle.vb_head.specs.Heads.{count_of, head_page}
use Rattle.vb_journal.specs.declared.commit_stage.Stage.{Stage}
use Rattle.vb_journal.specs.declared.commit_stage.Stage.TheVariants.{Journal, Opening, Homes, Closing, Rested}
use Rattle.vb_journal.specs.declared.recover_error.RecoverError.{RecoverError}
use Rattle.vb_journal.specs.declared.recover_error.RecoverError.TheVariants.{Damaged}
use Rattle.vb_journal.specs.Data.{StandOrSynced}
use Rattle.vb_journal.specs.Images.{AreImages}
use Rattle.vb_journal.specs.Interruptions.{AreSettled}
use Rattle.vb_journal.specs.Plans.{CanFinish, closed_head, due_call, is_early, next_stage}
use Rattle.vb_journal.specs.Progress.{Fixed, Has, IsAtRest, IsCommitting, new_images, new_journal}
use Rattle.vb_journal.specs.Recoveries.{choice_of, image_refusal, images_refusal, journal_of, journal_place}
use Rattle.vb_journal.specs.RecoverViews.{AtImage, AtReplay, RecoverView, after_image, after_replay, replay_from}
use Rattle.vb_journal.specs.Replays.{is_late}
use Rattle.vb_journal.specs.Shown.{pages_from}
use Rattle.vb_journal.proofs.DataPlaces.{IsBelow, due_below}
use Rattle.vb_journal.proofs.DriverSteps.{change-left, due-after}
use Rattle.vb_journal.proofs.Found.{refused_image}
use Rattle.vb_journal.proofs.JournalReads.{journal-split, next-decides, pages-more}
use Rattle.vb_journal.proofs.Keeping.{keeps}
use Rattle.vb_journal.proofs.Marked.{AreImages-more, IsNext-from}
use Rattle.vb_journal.proofs.Replays.{late-going, late-or-rested}
use Rattle.vb_journal.proofs.Resting.{IsAtRest-rested}
use Rattle.vb_journal.proofs.StepsOfCommits.{tries}
use Rattle.vb_journal.proofs.TriedCells.{written-elsewhere}
use Rattle.vb_steps.specs.Calls.{MayFailTo, after}
use Rattle.vb_journal.specs.Plans.{call_at}
use Rattle.vb_store.specs.Beside.{HasImagesBeside, HasItsView, HasReason, IsBeside, IsKnownBeside, IsReplayedBeside, RestsBeside, WasRead}
use Rattle.vb_store.specs.Clear.{first_candidates}
use Rattle.vb_store.specs.OneOf.{HasAView, HasViewsAt, RecoversOneOf, TreeView}
use Rattle.vb_store.specs.Views.{data_start}
use Rattle.vb_store.proofs.CrashesOfMounts.{has_metadata, one_head}
use Rattle.vb_store.proofs.KnownViews.{RecoversOneOf-rest, RecoversOneOf-stage}
use Rattle.vb_store.proofs.OneOfThem.{ViewOf-fewer, candidates-stood}
use Rattle.vb_store.proofs.RestsBeside.{candidates-count, candidates-show, replay-known}
use Rattle.vb_store.proofs.SameStores.{journal_refusal-none}

-- ---- an image more

not_none : {A : Type 0} (e : RecoverError) (o : Option RecoverError) → o ≡ None → o ≡ Some e → A
not_none e o none some = absurd (cc (none, some))

-- an image that isn't refused is the candidate
pub image-candidate : (d : DiskState) (nodes place : ℕ) (before : List (List ℕ)) (page : List ℕ) → WasRead d place page → image_refusal nodes place before page ≡ None → page ≡ first_candidates d place
image-candidate d nodes place before page (inl same) is = same
image-candidate d nodes place before page (inr was) is = not_none (Damaged place (seal_of page) (sha256 (sealed_part page))) (image_refusal nodes place before page) is (refused_image nodes place before page was.2.unsealed)

-- the journal's candidates aren't refused
candidate-accepted : (views : List TreeView) (made : Bool) (head : Head) (count : ℕ) (images : List (List ℕ)) (d : DiskState) (why : RecoverError) → IsDiskState d → HasImagesBeside head count images d → RecoversOneOf views made d → image_refusal head.nodes (journal_place head + length images) images (first_candidates d (journal_place head + length images)) ≡ Some why → ⊥
candidate-accepted views made head count images d why disk has recovers is =
    let reads : ℕ → List ℕ = first_candidates d in
    let shows = candidates-show views made head d disk has.heads recovers in
    let known = has_metadata d.size reads shows.view.metadata shows.metadata in
    let same : known.head ≡ head = one_head known.head head (choice_of d.size reads) known.counts (candidates-count head d has.heads) in
    let none : images_refusal head.nodes (journal_place head) [] (journal_of reads head) ≡ None =
    subst (λ (h : Head). images_refusal h.nodes (journal_place h) [] (journal_of reads h) ≡ None) same (journal_refusal-none known.head.nodes (journal_place known.head) [] (journal_of reads known.head) known.sound) in
    let place : ℕ = journal_place head + length images in
    let rest : List (List ℕ) = pages_from reads (place + 1) (count - length images - 1) in
    let some : images_refusal head.nodes (journal_place head) [] (journal_of reads head) ≡ Some why =
    ap (images_refusal head.nodes (journal_place head) []) (journal-split reads head count images has.opened has.left has.read)
    ∙ next-decides head.nodes (journal_place head) images rest (reads place) (Some why) has.accepted is in
    not_none why (images_refusal head.nodes (journal_place head) [] (journal_of reads head)) none some

image-reason : (views : List TreeView) (made : Bool) (head : Head) (count : ℕ) (images : List (List ℕ)) (d : DiskState) (page : List ℕ) (why : RecoverError) → IsDiskState d → HasImagesBeside head count images d → RecoversOneOf views made d → WasRead d (journal_place head + length images) page → image_refusal head.nodes (journal_place head + length images) images page ≡ Some why → HasReason made why d
image-reason views made head count images d page why disk has recovers (inl same) is =
    absurd (candidate-accepted views made head count images d why disk has recovers (ap (image_refusal head.nodes (journal_place head + length images) images) (sym same) ∙ is))
image-reason views made head count images d page why disk has recovers (inr was) is =
    let place : ℕ = journal_place head + length images in
    let both : Some (Damaged place (seal_of page) (sha256 (sealed_part page))) ≡ Some why = sym (refused_image head.nodes place images page was.2.unsealed) ∙ is in
    let same : Damaged place (seal_of page) (sha256 (sealed_part page)) ≡ why = cc both in
    subst (λ (e : RecoverError). HasReason made e d) same was.0

more-known : (views : List TreeView) (made : Bool) (head : Head) (count : ℕ) (images : List (List ℕ)) (d : DiskState) (page : List ℕ) (more : Bool) → IsDiskState d → HasImagesBeside head count images d → RecoversOneOf views made d → WasRead d (journal_place head + length images) page → image_refusal head.nodes (journal_place head + length images) images page ≡ None → ltb (length (images ++ page ∷ [])) count ≡ more
    → IsKnownBeside views made (cond more (AtImage head count (images ++ page ∷ [])) (replay_from head (images ++ page ∷ []))) d
more-known views made head count images d page more disk has recovers was is test =
    let reads : ℕ → List ℕ = first_candidates d in
    let place : ℕ = journal_place head + length images in
    let same : page ≡ reads place = image-candidate d head.nodes place images page was is in
    let read : images ++ page ∷ [] ≡ pages_from reads (journal_place head) (length (images ++ page ∷ [])) = pages-more reads (journal_place head) images page has.read same in
    let accepted : images_refusal head.nodes (journal_place head) [] (images ++ page ∷ []) ≡ None = next-decides head.nodes (journal_place head) images [] page None has.accepted is in
    let are : AreImages head.nodes (images ++ page ∷ []) = AreImages-more head.nodes images page has.images_are (IsNext-from head.nodes place images page is) in
    by_test more test read accepted are
  where
    by_test : (test : Bool) → ltb (length (images ++ page ∷ [])) count ≡ test → images ++ page ∷ [] ≡ pages_from (first_candidates d) (journal_place head) (length (images ++ page ∷ [])) → images_refusal head.nodes (journal_place head) [] (images ++ page ∷ []) ≡ None → AreImages head.nodes (images ++ page ∷ []) → IsKnownBeside views made (cond test (AtImage head count (images ++ page ∷ [])) (replay_from head (images ++ page ∷ []))) d
    by_test true some read accepted are = record {
      heads = has.heads;
      opened = has.opened;
      left = ltb-true (length (images ++ page ∷ [])) count some;
      images_are = are;
      read = read;
      accepted = accepted;
    }
    by_test false none read accepted are =
        let longer : length (images ++ page ∷ []) ≡ length images + 1 = length-append images (page ∷ []) in
        let all : count ≡ length (images ++ page ∷ []) = (let left = has.left in let end = ltb-false (length (images ++ page ∷ [])) count none in omega (arith, left, end, longer)) in
        let opened : head.state ≡ Opened (length (images ++ page ∷ [])) = has.opened ∙ ap Opened all in
        replay-known views made head (images ++ page ∷ []) d disk has.heads opened are
        (read ∙ sym (ap (λ (s : State). pages_from (first_candidates d) (journal_place head) (count_of s)) opened)) accepted recovers

pub image-known : (views : List TreeView) (made : Bool) (head : Head) (count : ℕ) (images : List (List ℕ)) (d : DiskState) (page : List ℕ) (refusal : Option RecoverError) → IsDiskState d → HasImagesBeside head count images d → RecoversOneOf views made d → WasRead d (journal_place head + length images) page → image_refusal head.nodes (journal_place head + length images) images page ≡ refusal
    → IsKnownBeside views made (after_image head count (images ++ page ∷ []) refusal) d
image-known views made head count images d page None disk has recovers was is = more-known views made head count images d page (ltb (length (images ++ page ∷ [])) count) disk has recovers was is refl
image-known views made head count images d page (Some why) disk has recovers was is = image-reason views made head count images d page why disk has recovers was is

-- ---- the commit

call-stands : (from : ℕ) (d : DiskState) (call : DiskCall) → IsBelow from call → StandOrSynced from d (after_call d call)
call-stands from d (Write at page) below place past = inl (written-elsewhere d at place page (λ same. absurd (omega (arith, same, below, past))))
call-stands from d Sync below place past = inr refl
call-stands from d (Resize blocks) below place past = absurd below

call-size : (from : ℕ) (d : DiskState) (call : DiskCall) → IsBelow from call → (after_call d call).size ≡ d.size
call-size from d (Write at page) below = refl
call-size from d Sync below = refl
call-size from d (Resize blocks) below = absurd below

stood-alone : (old new : Cell) → (new ≡ old) ⊎ (new ≡ synced_cell old) → old.later ≡ [] → new.later ≡ []
stood-alone old new (inl same) alone = ap (λ (c : Cell). c.later) same ∙ alone
stood-alone old new (inr same) alone = ap (λ (c : Cell). c.later) same

-- its view is one of a disk that stands behind its places
its-stands : (views : List TreeView) (head : Head) (epoch : ℕ) (pages : ℕ → List ℕ) (old new : DiskState) → HasItsView views old (closed_head head epoch) pages → new.size ≡ old.size → StandOrSynced (2 + 2 * head.nodes) old new → HasItsView views new (closed_head head epoch) pages
its-stands views head epoch pages old new its size stands =
    let start : data_start its.view.metadata.head ≡ 2 + 2 * head.nodes = ap data_start its.head_is in
    record {
      view = its.view;
      listed = its.listed;
      head_is = its.head_is;
      is = ViewOf-fewer its.view (closed_head head epoch) pages old new
          (candidates-stood (data_start its.view.metadata.head) old new size (subst (λ (n : ℕ). StandOrSynced n old new) (sym start) stands)) its.is;
    }

behind-stands : (from : ℕ) (old new : DiskState) → StandOrSynced from old new → ((place : ℕ) → from ≤ place → (old.cells place).later ≡ []) → (place : ℕ) → from ≤ place → (new.cells place).later ≡ []
behind-stands from old new stands alone place past = stood-alone (old.cells place) (new.cells place) (stands place past) (alone place past)

-- ---- what may be recovered of it

late_views : (views : List TreeView) (head : Head) (epoch : ℕ) (images : List (List ℕ)) (homes : ℕ → List ℕ) (stage : Stage) (d : DiskState) → is_late stage ≡ true → HasAView views d (closed_head head epoch) (new_images images homes) → HasViewsAt head epoch images homes stage views d
late_views views head epoch images homes (Journal next) d late has = absurd (cc late)
late_views views head epoch images homes (Opening turn) d late has = absurd (cc late)
late_views views head epoch images homes (Homes next) d late has = has
late_views views head epoch images homes (Closing turn) d late has = has
late_views views head epoch images homes Rested d late has = has

late_late : (stage : Stage) → is_late stage ≡ true → is_early stage ≡ true → ⊥
late_late (Journal next) late early = cc late
late_late (Opening turn) late early = cc late
late_late (Homes next) late early = cc early
late_late (Closing turn) late early = cc early
late_late Rested late early = cc early

pub RecoversOneOf-replayed : (views : List TreeView) (made : Bool) (head : Head) (epoch : ℕ) (images : List (List ℕ)) (stage : Stage) (d : DiskState) → IsReplayedBeside views head epoch images stage d → RecoversOneOf views made d
RecoversOneOf-replayed views made head epoch images stage d is =
    RecoversOneOf-stage views made head epoch images is.homes is.journal stage d (record { finish = is.can; early = λ early. absurd (late_late stage is.late early) }) is.known
    (late_views views head epoch images is.homes stage d is.late (record { view = is.its.view; listed = is.its.listed; is = is.its.is }))

-- ---- its end

alone_in : (page : List ℕ) (cell : Cell) → Has (Fixed page) cell → cell.later ≡ []
alone_in page cell has = cc has

all-settled : (head : Head) (homes journal : ℕ → List ℕ) (d : DiskState) → IsAtRest head homes journal d → ((place : ℕ) → 2 + 2 * head.nodes ≤ place → (d.cells place).later ≡ []) → AreSettled d
all-settled head homes journal d is behind zero = alone_in (head_page head) (d.cells 0) is.first
all-settled head homes journal d is behind (suc zero) = alone_in (head_page head) (d.cells 1) is.second
all-settled head homes journal d is behind (suc (suc n)) =
    let P : ℕ → Type 0 = λ place. (d.cells place).later ≡ [] in
    elim (cases_lt n head.nodes) [
      | inl home ↦ (let at : 2 + n ≡ suc (suc n) = omega arith in subst P at (alone_in (homes n) (d.cells (2 + n)) (is.each_home n home)))
      | inr past ↦ elim (cases_lt n (2 * head.nodes)) [
        | inl image ↦
            let i : ℕ = n - head.nodes in
            let at : 2 + head.nodes + i ≡ suc (suc n) = omega (arith, past) in
            subst P at (alone_in (journal i) (d.cells (2 + head.nodes + i)) (is.each_image i (omega (arith, past, image))))
        | inr beyond ↦ behind (suc (suc n)) (omega (arith, beyond))
      ]
    ]

rested-known : (views : List TreeView) (head : Head) (epoch : ℕ) (images : List (List ℕ)) (homes journal : ℕ → List ℕ) (d : DiskState) → CanFinish head epoch images → IsCommitting head epoch images homes journal Rested d → ((place : ℕ) → 2 + 2 * head.nodes ≤ place → (d.cells place).later ≡ []) → HasItsView views d (closed_head head epoch) (new_images images homes) → RestsBeside views (closed_head head epoch) d
rested-known views head epoch images homes journal d can known behind its =
    let rests = IsAtRest-rested head epoch images homes journal d can.images_are known in
    record {
      is = record { range = can.closed; id_length = known.id };
      closed = refl;
      homes = new_images images homes;
      journal = new_journal images journal;
      rests = rests;
      settled = all-settled (closed_head head epoch) (new_images images homes) (new_journal images journal) d rests behind;
      its = its;
    }

pub RecoversOneOf-rests : (views : List TreeView) (made : Bool) (head : Head) (d : DiskState) → RestsBeside views head d → RecoversOneOf views made d
RecoversOneOf-rests views made head d is =
    RecoversOneOf-rest views made head is.homes is.journal d is.its.view is.is.range is.closed is.rests is.its.is is.its.listed

-- ---- its calls

late_view : (head : Head) (epoch : ℕ) (images : List (List ℕ)) (stage : Stage) → is_late stage ≡ true → after_replay head epoch images stage ≡ AtReplay head epoch images stage
late_view head epoch images (Journal next) late = absurd (cc late)
late_view head epoch images (Opening turn) late = absurd (cc late)
late_view head epoch images (Homes next) late = refl
late_view head epoch images (Closing turn) late = refl
late_view head epoch images Rested late = absurd (cc late)

by_next : (views : List TreeView) (made : Bool) (head : Head) (epoch : ℕ) (images : List (List ℕ)) (homes journal : ℕ → List ℕ) (stage : Stage) (d : DiskState) → CanFinish head epoch images → (is_late stage ≡ true) ⊎ (stage ≡ Rested) → IsCommitting head epoch images homes journal stage d → ((place : ℕ) → 2 + 2 * head.nodes ≤ place → (d.cells place).later ≡ []) → HasItsView views d (closed_head head epoch) (new_images images homes)
    → IsBeside views made (after_replay head epoch images stage) d
by_next views made head epoch images homes journal stage d can (inl late) known behind its =
    let is : IsReplayedBeside views head epoch images stage d = record { can = can; late = late; homes = homes; journal = journal; known = known; behind = behind; its = its } in
    subst (λ (v : RecoverView). IsBeside views made v d) (sym (late_view head epoch images stage late)) (record { known = is; recovers = RecoversOneOf-replayed views made head epoch images stage d is })
by_next views made head epoch images homes journal stage d can (inr rested) known behind its =
    let is = rested-known views head epoch images homes journal d can (subst (λ (s : Stage). IsCommitting head epoch images homes journal s d) rested known) behind its in
    subst (λ (s : Stage). IsBeside views made (after_replay head epoch images s) d) (sym rested) (record { known = is; recovers = RecoversOneOf-rests views made (closed_head head epoch) d is })

-- the call that was due was made
pub replay-next : (views : List TreeView) (made : Bool) (head : Head) (epoch : ℕ) (images : List (List ℕ)) (stage : Stage) (d : DiskState) → IsReplayedBeside views head epoch images stage d → IsBeside views made (after_replay head epoch images (next_stage (length images) stage)) (after d (call_at head epoch images stage))
replay-next views made head epoch images stage d is =
    let going = late-going stage is.late in
    let call : DiskCall = due_call head epoch images stage in
    let below = due_below head epoch images stage is.can in
    let from : ℕ = 2 + 2 * head.nodes in
    let stands : StandOrSynced from d (after_call d call) = call-stands from d call below in
    subst (λ (e : DiskState). IsBeside views made (after_replay head epoch images (next_stage (length images) stage)) e) (sym (due-after head epoch images stage d going))
    (by_next views made head epoch images is.homes is.journal (next_stage (length images) stage) (after_call d call) is.can (late-or-rested (length images) stage is.late)
    (keeps head epoch images is.homes is.journal stage d is.can.images_are going is.known)
    (behind-stands from d (after_call d call) stands is.behind)
    (its-stands views head epoch (new_images images is.homes) d (after_call d call) is.its (call-size from d call below) stands))

-- or it failed
pub replay-left : (views : List TreeView) (head : Head) (epoch : ℕ) (images : List (List ℕ)) (stage : Stage) (d left : DiskState) → MayFailTo (call_at head epoch images stage) d left → IsReplayedBeside views head epoch images stage d → IsReplayedBeside views head epoch images stage left
replay-left views head epoch images stage d left may is =
    let going = late-going stage is.late in
    let call : DiskCall = due_call head epoch images stage in
    let from : ℕ = 2 + 2 * head.nodes in
    let below = due_below head epoch images stage is.can in
    let tried = tries head epoch images is.homes is.journal stage d (Some left) is.can going (change-left head epoch images stage d left going may) is.known in
    let same : left ≡ tried.0 = (let told = tried.1 in cc told) in
    let moved : StandOrSynced from d tried.0 × (tried.0.size ≡ d.size) = elim tried.3 [
      | inl none ↦ ((λ place past. inl (ap (λ (e : DiskState). e.cells place) none)), ap (λ (e : DiskState). e.size) none)
      | inr done ↦ (subst (StandOrSynced from d) (sym done) (call-stands from d call below), ap (λ (e : DiskState). e.size) done ∙ call-size from d call below)
    ] in
    subst (IsReplayedBeside views head epoch images stage) (sym same) (record {
      can = is.can;
      late = is.late;
      homes = is.homes;
      journal = is.journal;
      known = tried.2;
      behind = behind-stands from d tried.0 moved.0 is.behind;
      its = its-stands views head epoch (new_images images is.homes) d tried.0 is.its moved.1 moved.0;
    })
