-- A commit whose journal was read: how it begins, goes on and ends.
use Rattle.std.proofs.Common.{◌≡◌, ◌≢◌, ℕ, ◌+◌, ◌-◌, ◌<◌, ◌≤◌, Bool, true, false, cond, ltb, List, [], length, Option, Some, None, Result, Ok, unwrap_or, refl, sym, ap, subst, ◌∙◌, ◌⊎◌, inl, inr, arith}
use Rattle.std.proofs.lemmas.Bool.{cases_eq, cases_lt, eqb-true, le-ltb, lt-ltb}
use Rattle.vb_block.specs.Pages.{IsSealed}
use Rattle.vb_disk.specs.declared.cell.Cell.{Cell}
use Rattle.vb_disk.specs.declared.disk_error.DiskError.{DiskError}
use Rattle.vb_disk.specs.declared.disk_error.DiskError.TheVariants.{Failed, Memory}
use Rattle.vb_disk.specs.Cells.{candidates, synced_cell}
use Rattle.vb_disk.specs.States.{DiskCall, DiskState, IsDiskState, Sync, Write, after_call, read_at, synced, written}
use Rattle.vb_head.specs.declared.head.Head.{Head}
use Rattle.vb_head.specs.declared.head.State.{State}
use Rattle.vb_head.specs.declared.head.State.TheVariants.{Closed, Opened}
use Rattle.vb_head.specs.Heads.{IsHead, head_page, head_read}
use Rattle.vb_journal.specs.declared.commit_stage.CommitStep.{CommitStep}
use Rattle.vb_journal.specs.declared.commit_stage.CommitStep.TheVariants.{Rested as RestedNow}
use Rattle.vb_journal.specs.declared.commit_stage.Stage.{Stage}
use Rattle.vb_journal.specs.declared.commit_stage.Stage.TheVariants.{Journal, Opening, Homes, Closing, Rested}
use Rattle.vb_journal.specs.declared.commit_stage.Turn.TheVariants.{First, FirstSync, Second, SecondSync}
use Rattle.vb_journal.specs.Calls.{MayFailTo, Makes, MakesFirst}
use Rattle.vb_journal.specs.Images.{AreImages, image_at, slot_of}
use Rattle.vb_journal.specs.Plans.{CanFinish, answer_at, calls_from, closed_head, due_call, is_rested, next_stage, opened_head}
use Rattle.vb_journal.specs.Progress.{Fixed, Has, IsAtRest, IsCommitting, IsUnnamed}
use Rattle.vb_journal.specs.Recoveries.{journal_of, journal_place, journal_refusal, settled_head}
use Rattle.vb_journal.specs.Outcomes.{reads_of}
use Rattle.vb_journal.specs.Recovering.{HasBothHeads, HasWholePlaces, IsHomeOf, IsHomeWhole, IsRecovered, IsReplaying, homes_of, images_in, newest_of, whole_cell}
use Rattle.vb_journal.specs.Replays.{is_late}
use Rattle.vb_journal.proofs.Choices.{IsChosen-from}
use Rattle.vb_journal.proofs.FirstCalls.{gone}
use Rattle.vb_journal.proofs.JournalReads.{IsWhole, image_at-pages_from}
use Rattle.vb_journal.proofs.Keeping.{keeps}
use Rattle.vb_journal.proofs.Overlays.{image_over-named, named_or_not}
use Rattle.vb_journal.proofs.PlanSteps.{calls_from-next}
use Rattle.vb_journal.proofs.StepsOfCommits.{Tries, tries}
use Rattle.vb_journal.proofs.TriedCells.{written-elsewhere, written-here}

-- ---- its beginning

-- the head that a commit opens is the one that was found
pub opened-found : (head before : Head) (images : List (List ℕ)) → before ≡ record head { sequence = head.sequence - 1; state = Closed } → 0 < head.sequence → head.state ≡ Opened (length images) → opened_head before head.epoch images ≡ head
opened-found head before images is some opened =
    let again : head.sequence - 1 + 1 ≡ head.sequence = omega arith in
    ap (λ (b : Head). opened_head b head.epoch images) is
    ∙ ap (λ (n : ℕ). let h : Head = record head { sequence = n; state = Opened (length images) } in h) again
    ∙ ap (λ (s : State). let h : Head = record head { state = s } in h) (sym opened)

-- a sealed page that was read is the newest one there, since a hurt place reads as bytes that aren't sealed
newest-sealed : (begun : DiskState) (place : ℕ) (page : List ℕ) → IsDiskState begun → IsSealed page → read_at begun place ≡ page → newest_of (begun.cells place) ≡ page
newest-sealed begun place page is sealed reads = by_hurt (begun.cells place).hurt refl
  where
    by_hurt : (hurt : Option (List ℕ)) → (begun.cells place).hurt ≡ hurt → newest_of (begun.cells place) ≡ page
    by_hurt None whole = sym (ap (λ (o : Option (List ℕ)). unwrap_or o (newest_of (begun.cells place))) whole) ∙ reads
    by_hurt (Some bytes) hurt =
        let read : bytes ≡ page = sym (ap (λ (o : Option (List ℕ)). unwrap_or o (newest_of (begun.cells place))) hurt) ∙ reads in
        absurd ((is.hurt_are_misses place bytes hurt).unsealed (subst IsSealed (sym read) sealed))

fixed_whole : (page : List ℕ) (cell : Cell) → cell ≡ whole_cell page → Has (Fixed page) cell
fixed_whole page cell is = ap candidates is

-- both heads are whole, and each other place was settled
pub at_rest-found : (begun d : DiskState) (head : Head) → HasBothHeads begun head d → IsAtRest head (homes_of begun) (images_in begun head) d
at_rest-found begun d head has = record {
  id = has.is.id_length;
  size = has.stands.size ∙ sym (eqb-true head.blocks begun.size (IsChosen-from begun.size (head_read (read_at begun 0)) (head_read (read_at begun 1)) head has.counts).fits);
  first = fixed_whole (head_page head) (d.cells 0) has.first;
  second = fixed_whole (head_page head) (d.cells 1) has.second;
  each_home = λ slot within. ap candidates (has.stands.each (2 + slot) (omega arith));
  each_image = λ i within. ap candidates (has.stands.each (2 + head.nodes + i) (omega arith));
}

pub images-found : (begun d : DiskState) (head : Head) (images : List (List ℕ)) (i : ℕ) → AreImages head.nodes images → head.state ≡ Opened (length images) → IsWhole begun head images d → i < length images → images_in begun head i ≡ image_at images i
images-found begun d head images i are opened whole within =
    let read : read_at begun (journal_place head + i) ≡ image_at images i =
    sym (image_at-pages_from (reads_of begun) (journal_place head) (length images) i within)
    ∙ ap (λ (s : State). image_at (journal_of (reads_of begun) (record head { state = s })) i) (sym opened)
    ∙ ap (λ (l : List (List ℕ)). image_at l i) (sym whole.all) in
    newest-sealed begun (journal_place head + i) (image_at images i) whole.heads.stands.is (are.sealed i within) read

-- what is known of a replay that begins
replaying_begun : (begun d : DiskState) (head before : Head) (epoch : ℕ) (images : List (List ℕ)) (stage : Stage) → IsWhole begun head images d → opened_head before epoch images ≡ head → before.nodes ≡ head.nodes → stage ≡ Homes 0 → IsCommitting before epoch images (homes_of begun) (images_in begun before) stage d → IsReplaying begun before epoch images stage d
replaying_begun begun d head before epoch images stage whole opened nodes stage_is known = record {
  is = subst IsHead (sym opened) whole.heads.is;
  counts = whole.heads.counts ∙ ap (λ (h : Head). let r : Result Head _ = Ok h in r) (sym opened);
  images_are = ap (journal_of (reads_of begun)) opened ∙ sym whole.all;
  accepted = ap (journal_refusal (reads_of begun)) opened ∙ whole.accepted;
  known = known;
  whole = record {
    size = whole.heads.stands.size;
    first = ap (λ (c : Cell). c.hurt) whole.heads.first;
    second = ap (λ (c : Cell). c.hurt) whole.heads.second;
    homes = λ i within. subst (λ (s : Stage). IsHomeWhole i s (d.cells (2 + slot_of (image_at images i)))) (sym stage_is) (λ before_none. absurd (omega arith));
    homes_stand = λ slot within unnamed. whole.heads.stands.each (2 + slot) (omega arith);
    others_stand = λ place past. whole.heads.stands.each place (omega arith);
  };
}

pub replaying-begins : (begun d : DiskState) (head before : Head) (epoch : ℕ) (images found : List (List ℕ)) (stage : Stage) → IsWhole begun head images d → AreImages head.nodes images → head.state ≡ Opened (length images) → before ≡ record head { sequence = head.sequence - 1; state = Closed } → epoch ≡ head.epoch → found ≡ images → stage ≡ Homes 0
    → (IsAtRest (opened_head (record head { sequence = head.sequence - 1; state = Closed }) head.epoch images) (homes_of begun) (images_in begun head) d → ((i : ℕ) → i < length images → images_in begun head i ≡ image_at images i) → IsCommitting (record head { sequence = head.sequence - 1; state = Closed }) head.epoch images (homes_of begun) (images_in begun head) stage d)
    → IsReplaying begun before epoch found stage d
replaying-begins begun d head before epoch images found stage whole are counted before_is epoch_is found_is stage_is known =
    let b : Head = record head { sequence = head.sequence - 1; state = Closed } in
    let opened : opened_head b head.epoch images ≡ head = opened-found head b images refl whole.heads.is.range.sequence_low counted in
    let rest : IsAtRest (opened_head b head.epoch images) (homes_of begun) (images_in begun head) d = subst (λ (h : Head). IsAtRest h (homes_of begun) (images_in begun head) d) (sym opened) (at_rest-found begun d head whole.heads) in
    let here = replaying_begun begun d head b head.epoch images stage whole opened refl stage_is (known rest (λ i within. images-found begun d head images i are counted whole within)) in
    subst (λ (h : Head). IsReplaying begun h epoch found stage d) (sym before_is)
    (subst (λ (e : ℕ). IsReplaying begun b e found stage d) (sym epoch_is)
    (subst (λ (l : List (List ℕ)). IsReplaying begun b head.epoch l stage d) (sym found_is) here))

-- ---- its calls

-- a home stays whole
home_stays : (i : ℕ) (stage : Stage) (old new : Cell) → (old.hurt ≡ None → new.hurt ≡ None) → IsHomeWhole i stage old → IsHomeWhole i stage new
home_stays i (Journal next) old new keeps whole = whole
home_stays i (Opening turn) old new keeps whole = whole
home_stays i (Homes next) old new keeps whole = λ before. keeps (whole before)
home_stays i (Closing turn) old new keeps whole = keeps whole
home_stays i Rested old new keeps whole = keeps whole

-- a write leaves a whole place whole, wherever it is made
write_keeps : (d : DiskState) (place other : ℕ) (page : List ℕ) → (d.cells other).hurt ≡ None → ((written d place page).cells other).hurt ≡ None
write_keeps d place other page whole = elim (cases_eq other place) [
  | inl same ↦ subst (λ (p : ℕ). ((written d place page).cells p).hurt ≡ None) (sym same) (ap (λ (c : Cell). c.hurt) (written-here d place page))
  | inr apart ↦ ap (λ (c : Cell). c.hurt) (written-elsewhere d place other page apart) ∙ whole
]

-- the places of a commit: a copy of the head, or the home of an image
abbrev pub IsOfCommit : List (List ℕ) → ℕ → Type 0
IsOfCommit images place = (place < 2) ⊎ ((i : ℕ) × (i < length images) × (place ≡ 2 + slot_of (image_at images i)))

apart_from_unnamed : (nodes : ℕ) (images : List (List ℕ)) (place slot : ℕ) → IsOfCommit images place → IsUnnamed images slot → 2 + slot ≢ place
apart_from_unnamed nodes images place slot (inl head) unnamed same = omega arith
apart_from_unnamed nodes images place slot (inr home) unnamed same = unnamed home.0 home.1 (omega (arith, home.2))

apart_from_others : (nodes : ℕ) (images : List (List ℕ)) (place other : ℕ) → AreImages nodes images → IsOfCommit images place → 2 + nodes ≤ other → other ≢ place
apart_from_others nodes images place other are (inl head) past same = omega arith
apart_from_others nodes images place other are (inr home) past same = let low = are.slots home.0 home.1 in omega (arith, home.2)

pub whole-written : (begun : DiskState) (before : Head) (images : List (List ℕ)) (stage : Stage) (d : DiskState) (place : ℕ) (page : List ℕ) → AreImages before.nodes images → IsOfCommit images place → HasWholePlaces begun before images stage d → HasWholePlaces begun before images stage (written d place page)
whole-written begun before images stage d place page are of whole = record {
  size = whole.size;
  first = write_keeps d place 0 page whole.first;
  second = write_keeps d place 1 page whole.second;
  homes = λ i within. home_stays i stage (d.cells (2 + slot_of (image_at images i))) ((written d place page).cells (2 + slot_of (image_at images i))) (write_keeps d place (2 + slot_of (image_at images i)) page) (whole.homes i within);
  homes_stand = λ slot within unnamed. written-elsewhere d place (2 + slot) page (apart_from_unnamed before.nodes images place slot of unnamed) ∙ whole.homes_stand slot within unnamed;
  others_stand = λ other past. written-elsewhere d place other page (apart_from_others before.nodes images place other are of past) ∙ whole.others_stand other past;
}

pub whole-synced : (begun : DiskState) (before : Head) (images : List (List ℕ)) (stage : Stage) (d : DiskState) → HasWholePlaces begun before images stage d → HasWholePlaces begun before images stage (synced d)
whole-synced begun before images stage d whole = record {
  size = whole.size;
  first = whole.first;
  second = whole.second;
  homes = λ i within. home_stays i stage (d.cells (2 + slot_of (image_at images i))) ((synced d).cells (2 + slot_of (image_at images i))) (λ is. is) (whole.homes i within);
  homes_stand = λ slot within unnamed. ap synced_cell (whole.homes_stand slot within unnamed);
  others_stand = λ other past. ap synced_cell (whole.others_stand other past);
}

-- the call that is due leaves what is whole
pub whole-call : (begun : DiskState) (before : Head) (epoch : ℕ) (images : List (List ℕ)) (stage : Stage) (d : DiskState) → AreImages before.nodes images → is_late stage ≡ true → HasWholePlaces begun before images stage d → HasWholePlaces begun before images stage (after_call d (due_call before epoch images stage))
whole-call begun before epoch images (Journal next) d are late whole = absurd (cc late)
whole-call begun before epoch images (Opening turn) d are late whole = absurd (cc late)
whole-call begun before epoch images Rested d are late whole = absurd (cc late)
whole-call begun before epoch images (Homes next) d are late whole =
    let image = image_at images next in
    let Q : Bool → Type 0 = λ b. HasWholePlaces begun before images (Homes next) (after_call d (cond b (Write (2 + slot_of image) image) Sync)) in
    elim (cases_lt next (length images)) [
      | inl left ↦ subst Q (sym (lt-ltb next (length images) left)) (whole-written begun before images (Homes next) d (2 + slot_of image) image are (inr (next, left, refl)) whole)
      | inr none ↦ subst Q (sym (le-ltb next (length images) none)) (whole-synced begun before images (Homes next) d whole)
    ]
whole-call begun before epoch images (Closing First) d are late whole = whole-written begun before images (Closing First) d 0 (head_page (closed_head before epoch)) are (inl (omega arith)) whole
whole-call begun before epoch images (Closing FirstSync) d are late whole = whole-synced begun before images (Closing FirstSync) d whole
whole-call begun before epoch images (Closing Second) d are late whole = whole-written begun before images (Closing Second) d 1 (head_page (closed_head before epoch)) are (inl (omega arith)) whole
whole-call begun before epoch images (Closing SecondSync) d are late whole = whole-synced begun before images (Closing SecondSync) d whole

-- the homes at another stage
with_homes : (begun : DiskState) (before : Head) (images : List (List ℕ)) (old new : Stage) (d : DiskState) → HasWholePlaces begun before images old d → ((i : ℕ) → i < length images → IsHomeWhole i new (d.cells (2 + slot_of (image_at images i)))) → HasWholePlaces begun before images new d
with_homes begun before images old new d whole homes = record { size = whole.size; first = whole.first; second = whole.second; homes = homes; homes_stand = whole.homes_stand; others_stand = whole.others_stand }

-- one home more is whole
home_more : (images : List (List ℕ)) (next i : ℕ) (d : DiskState) (page : List ℕ) → ((i : ℕ) → i < length images → i < next → ((written d (2 + slot_of (image_at images next)) page).cells (2 + slot_of (image_at images i))).hurt ≡ None) → i < length images → i < next + 1 → ((written d (2 + slot_of (image_at images next)) page).cells (2 + slot_of (image_at images i))).hurt ≡ None
home_more images next i d page whole within before = elim (cases_eq i next) [
  | inl same ↦ subst (λ (n : ℕ). ((written d (2 + slot_of (image_at images next)) page).cells (2 + slot_of (image_at images n))).hurt ≡ None) (sym same) (ap (λ (c : Cell). c.hurt) (written-here d (2 + slot_of (image_at images next)) page))
  | inr apart ↦ whole i within (omega arith)
]

-- after the call that was due the next stage is reached
pub whole-next : (begun : DiskState) (before : Head) (epoch : ℕ) (images : List (List ℕ)) (stage : Stage) (d : DiskState) → AreImages before.nodes images → is_late stage ≡ true → HasWholePlaces begun before images stage d → HasWholePlaces begun before images (next_stage (length images) stage) (after_call d (due_call before epoch images stage))
whole-next begun before epoch images (Journal next) d are late whole = absurd (cc late)
whole-next begun before epoch images (Opening turn) d are late whole = absurd (cc late)
whole-next begun before epoch images Rested d are late whole = absurd (cc late)
whole-next begun before epoch images (Homes next) d are late whole =
    let image = image_at images next in
    let Q : Bool → Type 0 = λ b. HasWholePlaces begun before images (cond b (Homes (next + 1)) (Closing First)) (after_call d (cond b (Write (2 + slot_of image) image) Sync)) in
    elim (cases_lt next (length images)) [
      | inl left ↦
          let then = whole-written begun before images (Homes next) d (2 + slot_of image) image are (inr (next, left, refl)) whole in
          subst Q (sym (lt-ltb next (length images) left)) (with_homes begun before images (Homes next) (Homes (next + 1)) (written d (2 + slot_of image) image) then (λ i within. home_more images next i d image then.homes within))
      | inr none ↦
          let then = whole-synced begun before images (Homes next) d whole in
          subst Q (sym (le-ltb next (length images) none)) (with_homes begun before images (Homes next) (Closing First) (synced d) then (λ i within. then.homes i within (omega arith)))
    ]
whole-next begun before epoch images (Closing First) d are late whole = with_homes begun before images (Closing First) (Closing FirstSync) (written d 0 (head_page (closed_head before epoch))) (whole-call begun before epoch images (Closing First) d are late whole) (whole-call begun before epoch images (Closing First) d are late whole).homes
whole-next begun before epoch images (Closing FirstSync) d are late whole = with_homes begun before images (Closing FirstSync) (Closing Second) (synced d) (whole-synced begun before images (Closing FirstSync) d whole) whole.homes
whole-next begun before epoch images (Closing Second) d are late whole = with_homes begun before images (Closing Second) (Closing SecondSync) (written d 1 (head_page (closed_head before epoch))) (whole-call begun before epoch images (Closing Second) d are late whole) (whole-call begun before epoch images (Closing Second) d are late whole).homes
whole-next begun before epoch images (Closing SecondSync) d are late whole = with_homes begun before images (Closing SecondSync) Rested (synced d) (whole-synced begun before images (Closing SecondSync) d whole) whole.homes

pub late-going : (stage : Stage) → is_late stage ≡ true → is_rested stage ≡ false
late-going (Journal next) late = refl
late-going (Opening turn) late = refl
late-going (Homes next) late = refl
late-going (Closing turn) late = refl
late-going Rested late = absurd (cc late)

-- a replay at another stage, on another disk
replaying_at : (begun : DiskState) (before : Head) (epoch : ℕ) (images : List (List ℕ)) (old new : Stage) (d next : DiskState) → IsReplaying begun before epoch images old d → IsCommitting before epoch images (homes_of begun) (images_in begun before) new next → HasWholePlaces begun before images new next → IsReplaying begun before epoch images new next
replaying_at begun before epoch images old new d next is known whole = record { is = is.is; counts = is.counts; images_are = is.images_are; accepted = is.accepted; known = known; whole = whole }

pub replaying-next : (begun : DiskState) (before : Head) (epoch : ℕ) (images : List (List ℕ)) (stage : Stage) (d : DiskState) → AreImages before.nodes images → is_late stage ≡ true → IsReplaying begun before epoch images stage d → IsReplaying begun before epoch images (next_stage (length images) stage) (after_call d (due_call before epoch images stage))
replaying-next begun before epoch images stage d are late is =
    replaying_at begun before epoch images stage (next_stage (length images) stage) d (after_call d (due_call before epoch images stage)) is
    (keeps before epoch images (homes_of begun) (images_in begun before) stage d are (late-going stage late) is.known) (whole-next begun before epoch images stage d are late is.whole)

-- after a call that failed
pub record FailsAt (begun : DiskState) (before : Head) (epoch : ℕ) (images : List (List ℕ)) (stage : Stage) (d : DiskState) (told : Option DiskState) : Type 0 where
  pub next : DiskState
  pub told_is : told ≡ Some next
  pub known : IsReplaying begun before epoch images stage next
  pub moved : (next ≡ d) ⊎ (next ≡ after_call d (due_call before epoch images stage))

tried_replay : (begun : DiskState) (before : Head) (epoch : ℕ) (images : List (List ℕ)) (stage : Stage) (d : DiskState) (told : Option DiskState) → AreImages before.nodes images → is_late stage ≡ true → IsReplaying begun before epoch images stage d → Tries before epoch images (homes_of begun) (images_in begun before) stage (due_call before epoch images stage) d told → FailsAt begun before epoch images stage d told
tried_replay begun before epoch images stage d told are late is tried =
    let whole : HasWholePlaces begun before images stage tried.0 = elim tried.3 [
      | inl same ↦ subst (HasWholePlaces begun before images stage) (sym same) is.whole
      | inr made ↦ subst (HasWholePlaces begun before images stage) (sym made) (whole-call begun before epoch images stage d are late is.whole)
    ] in
    record { next = tried.0; told_is = tried.1; known = replaying_at begun before epoch images stage stage d tried.0 is tried.2 whole; moved = tried.3 }

pub replaying-fails : (T : Type 0) (begun : DiskState) (before : Head) (epoch : ℕ) (images : List (List ℕ)) (stage : Stage) (d : DiskState) (e : DiskError) (old new : Option DiskState) → CanFinish before epoch images → is_late stage ≡ true → old ≡ Some d → Makes (due_call before epoch images stage) old new (gone {T = T} e) → IsReplaying begun before epoch images stage d → FailsAt begun before epoch images stage d new
replaying-fails T begun before epoch images stage d Failed old new can late told makes is =
    tried_replay begun before epoch images stage d new can.images_are late is (tries before epoch images (homes_of begun) (images_in begun before) stage d new can (late-going stage late) (makes.failed d told refl) is.known)
replaying-fails T begun before epoch images stage d Memory old new can late told makes is =
    record { next = d; told_is = makes.memory refl ∙ told; known = is; moved = inl refl }

-- it was made or wasn't
pub replaying-tried : (begun : DiskState) (before : Head) (epoch : ℕ) (images : List (List ℕ)) (stage : Stage) (d : DiskState) (told : Option DiskState) → CanFinish before epoch images → is_late stage ≡ true → MayFailTo (due_call before epoch images stage) d told → IsReplaying begun before epoch images stage d → FailsAt begun before epoch images stage d told
replaying-tried begun before epoch images stage d told can late may is =
    tried_replay begun before epoch images stage d told can.images_are late is (tries before epoch images (homes_of begun) (images_in begun before) stage d told can (late-going stage late) may is.known)

-- ---- its end

-- a whole place with one candidate
whole_fixed : (page : List ℕ) (cell : Cell) → Has (Fixed page) cell → cell.hurt ≡ None → cell ≡ whole_cell page
whole_fixed page cell has whole =
    let first : cell.first ≡ page = cc has in
    let later : cell.later ≡ [] = cc has in
    ap (λ (p : List ℕ). let c : Cell = record { first = p; later = cell.later; hurt = cell.hurt } in c) first
    ∙ ap (λ (l : List (List ℕ)). let c : Cell = record { first = page; later = l; hurt = cell.hurt } in c) later
    ∙ ap (λ (o : Option (List ℕ)). let c : Cell = record { first = page; later = []; hurt = o } in c) whole

pub opened-settles : (before : Head) (epoch : ℕ) (images : List (List ℕ)) → settled_head (opened_head before epoch images) ≡ closed_head before epoch
opened-settles before epoch images =
    let two : before.sequence + 1 + 1 ≡ before.sequence + 2 = omega arith in
    ap (λ (n : ℕ). let h : Head = record before { sequence = n; epoch = epoch; state = Closed } in h) two

-- the home of a slot, once each image is at home
rested_home : (begun : DiskState) (before : Head) (epoch : ℕ) (images : List (List ℕ)) (d : DiskState) → AreImages before.nodes images → IsReplaying begun before epoch images Rested d → (slot : ℕ) → slot < before.nodes → IsHomeOf begun images slot (d.cells (2 + slot))
rested_home begun before epoch images d are is slot within = elim (named_or_not images slot) [
  | inl named ↦ inr (record {
    image = image_at images named.at;
    covers = λ home. image_over-named images slot named.at home are.distinct named.within named.is;
    holds = ap (λ (n : ℕ). d.cells (2 + n)) (sym named.is)
        ∙ whole_fixed (image_at images named.at) (d.cells (2 + slot_of (image_at images named.at))) (is.known.at_home named.at named.within) (is.whole.homes named.at named.within);
  })
  | inr unnamed ↦ inl (record { unnamed = unnamed; stands = is.whole.homes_stand slot within unnamed })
]

pub recovered-rested : (begun : DiskState) (before : Head) (epoch : ℕ) (images : List (List ℕ)) (d : DiskState) → AreImages before.nodes images → IsHead (closed_head before epoch) → IsReplaying begun before epoch images Rested d → IsRecovered begun (closed_head before epoch) d
recovered-rested begun before epoch images d are closed_is is =
    record {
      chosen = opened_head before epoch images;
      counts = is.counts;
      accepted = is.accepted;
      settles = opened-settles before epoch images;
      is = closed_is;
      closed = refl;
      size = is.whole.size;
      first = whole_fixed (head_page (closed_head before epoch)) (d.cells 0) is.known.first is.whole.first;
      second = whole_fixed (head_page (closed_head before epoch)) (d.cells 1) is.known.second is.whole.second;
      homes = λ slot within. subst (λ (l : List (List ℕ)). IsHomeOf begun l slot (d.cells (2 + slot))) (sym is.images_are) (rested_home begun before epoch images d are is slot within);
      others_stand = is.whole.others_stand;
    }

-- a step that answers Rested is the last one
cond_step : (b : Bool) (x y : CommitStep) → cond b x y ≡ RestedNow → (x ≡ RestedNow) ⊎ (y ≡ RestedNow)
cond_step true x y is = inl is
cond_step false x y is = inr is

pub rested-last : (count : ℕ) (stage : Stage) → is_late stage ≡ true → answer_at count stage ≡ RestedNow → next_stage count stage ≡ Rested
rested-last count (Journal next) late is = absurd (cc late)
rested-last count (Opening turn) late is = absurd (cc late)
rested-last count (Homes next) late is = elim (cond_step (ltb next count) _ _ is) [ inl wrote ↦ absurd (cc wrote) | inr synced_now ↦ absurd (cc synced_now) ]
rested-last count (Closing First) late is = absurd (cc is)
rested-last count (Closing FirstSync) late is = absurd (cc is)
rested-last count (Closing Second) late is = absurd (cc is)
rested-last count (Closing SecondSync) late is = refl
rested-last count Rested late is = absurd (cc late)

-- and each other one leaves a stage at which it goes on
cond_late : (b : Bool) (x y : Stage) → is_late x ≡ true → is_late y ≡ true → is_late (cond b x y) ≡ true
cond_late true x y a c = a
cond_late false x y a c = c

pub late-next : (count : ℕ) (stage : Stage) → is_late stage ≡ true → answer_at count stage ≢ RestedNow → is_late (next_stage count stage) ≡ true
late-next count (Journal next) late other = absurd (cc late)
late-next count (Opening turn) late other = absurd (cc late)
late-next count (Homes next) late other = cond_late (ltb next count) (Homes (next + 1)) (Closing First) refl refl
late-next count (Closing First) late other = refl
late-next count (Closing FirstSync) late other = refl
late-next count (Closing Second) late other = refl
late-next count (Closing SecondSync) late other = absurd (other refl)
late-next count Rested late other = absurd (cc late)

-- the call that is due is the first of those that are left
pub makes-due : (T : Type 0) (before : Head) (epoch : ℕ) (images : List (List ℕ)) (stage : Stage) (left : List DiskCall) (old new : Option DiskState) (result : Result T DiskError) → is_late stage ≡ true → MakesFirst (calls_from before epoch images stage) left old new result → Makes (due_call before epoch images stage) old new result
makes-due T before epoch images stage left old new result late makes =
    let Q : List DiskCall → Type 0 = λ l. MakesFirst l left old new result in
    (subst Q (calls_from-next before epoch images stage (late-going stage late)) makes).0

-- the same replay under other names
pub replaying-same : (begun d : DiskState) (before before' : Head) (epoch epoch' : ℕ) (images images' : List (List ℕ)) (stage stage' : Stage) → before' ≡ before → epoch' ≡ epoch → images' ≡ images → stage' ≡ stage → IsReplaying begun before epoch images stage d → IsReplaying begun before' epoch' images' stage' d
replaying-same begun d before before' epoch epoch' images images' stage stage' a b c e is =
    subst (λ (h : Head). IsReplaying begun h epoch' images' stage' d) (sym a)
    (subst (λ (n : ℕ). IsReplaying begun before n images' stage' d) (sym b)
    (subst (λ (l : List (List ℕ)). IsReplaying begun before epoch l stage' d) (sym c)
    (subst (λ (s : Stage). IsReplaying begun before epoch images s d) (sym e) is)))

-- the stage after a call is one at which it goes on, or its end
late_cond : (b : Bool) (x y : Stage) → is_late x ≡ true → is_late y ≡ true → (is_late (cond b x y) ≡ true) ⊎ (cond b x y ≡ Rested)
late_cond b x y a c = inl (cond_late b x y a c)

pub late-or-rested : (count : ℕ) (stage : Stage) → is_late stage ≡ true → (is_late (next_stage count stage) ≡ true) ⊎ (next_stage count stage ≡ Rested)
late-or-rested count (Journal next) late = absurd (cc late)
late-or-rested count (Opening turn) late = absurd (cc late)
late-or-rested count (Homes next) late = late_cond (ltb next count) (Homes (next + 1)) (Closing First) refl refl
late-or-rested count (Closing First) late = inl refl
late-or-rested count (Closing FirstSync) late = inl refl
late-or-rested count (Closing Second) late = inl refl
late-or-rested count (Closing SecondSync) late = inr refl
late-or-rested count Rested late = absurd (cc late)
