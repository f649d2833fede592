-- Each call of a commit keeps what is known of its places.
use Rattle.std.proofs.Common.{◌≡◌, ◌≢◌, ℕ, ◌+◌, ◌*◌, ◌<◌, ◌≤◌, Bool, true, false, cond, eqb, ltb, List, length, refl, sym, ap, subst, ◌∙◌, inl, inr, arith}
use Rattle.std.proofs.lemmas.Bool.{cases_eq, cases_lt, lt-ltb, le-ltb}
use Rattle.vb_disk.specs.declared.cell.Cell.{Cell}
use Rattle.vb_disk.specs.Cells.{candidates, hurt_cell, synced_cell}
use Rattle.vb_disk.specs.Crashes.{damaged}
use Rattle.vb_disk.specs.States.{DiskState, Sync, Write, after_call, written, synced}
use Rattle.vb_head.specs.declared.head.Head.{Head}
use Rattle.vb_head.specs.Heads.{head_page}
use Rattle.vb_journal.specs.declared.commit_stage.Stage.{Stage}
use Rattle.vb_journal.specs.declared.commit_stage.Stage.TheVariants.{Journal, Opening, Homes, Closing, Rested}
use Rattle.vb_journal.specs.declared.commit_stage.Turn.TheVariants.{First, FirstSync, Second, SecondSync}
use Rattle.vb_journal.specs.Images.{AreImages, image_at, slot_of}
use Rattle.vb_journal.specs.Plans.{CanFinish, closed_head, due_call, is_rested, next_stage, opened_head}
use Rattle.vb_journal.specs.Progress.{Fixed, Has, HasSameCandidates, IsAtRest, IsCommitting, Tried, Trying, first_at, home_at, journal_at, passed_by, second_at}
use Rattle.vb_journal.proofs.TriedCells.{Fixed-stays, Fixed-synced, Has-elsewhere, Has-here, Has-same, Trying-from_Fixed, Trying-from_Tried, written-elsewhere}

-- ---- images that were passed by

-- what stands at an image's place, whether it was passed by or not
abbrev PassedBy : ℕ → ℕ → List ℕ → List ℕ → Cell → Bool → Type 0
PassedBy next i old new cell b = Has (cond b (Tried old new) (Trying old new)) cell

passed_tried : (next i : ℕ) (old new : List ℕ) (cell : Cell) → i < next → Has (passed_by next i old new) cell → Has (Tried old new) cell
passed_tried next i old new cell before has = subst (PassedBy next i old new cell) (lt-ltb i next before) has

passed_from_tried : (next i : ℕ) (old new : List ℕ) (cell : Cell) → Has (Tried old new) cell → Has (passed_by next i old new) cell
passed_from_tried next i old new cell has = elim (ltb i next) as (PassedBy next i old new cell) [ true ↦ has | false ↦ Trying-from_Tried old new cell has ]

weaken : (b : Bool) (old new : List ℕ) (cell : Cell) → Has (cond b (Tried old new) (Trying old new)) cell → Has (Trying old new) cell
weaken true old new cell has = Trying-from_Tried old new cell has
weaken false old new cell has = has

passed_trying : (next i : ℕ) (old new : List ℕ) (cell : Cell) → Has (passed_by next i old new) cell → Has (Trying old new) cell
passed_trying next i old new cell has = weaken (ltb i next) old new cell has

passed_none : (i : ℕ) (old new : List ℕ) (cell : Cell) → Has (Fixed old) cell → Has (passed_by 0 i old new) cell
passed_none i old new cell has = subst (PassedBy 0 i old new cell) (sym (le-ltb i 0 (omega arith))) (Trying-from_Fixed old new cell has)

-- one image more was passed by: its own place was written, and others stand
passed_more : (next i : ℕ) (old new : List ℕ) (cell : Cell) → i ≢ next → Has (passed_by next i old new) cell → Has (passed_by (next + 1) i old new) cell
passed_more next i old new cell apart has = elim (cases_lt i next) [
  | inl before ↦ passed_from_tried (next + 1) i old new cell (passed_tried next i old new cell before has)
  | inr past ↦ subst (PassedBy (next + 1) i old new cell) (sym (le-ltb i (next + 1) (omega arith))) (passed_trying next i old new cell has)
]

-- one image less
passed_less : (next i : ℕ) (old new : List ℕ) (cell : Cell) → Has (passed_by (next + 1) i old new) cell → Has (passed_by next i old new) cell
passed_less next i old new cell has = elim (cases_lt i next) [
  | inl before ↦ passed_from_tried next i old new cell (passed_tried (next + 1) i old new cell (omega arith) has)
  | inr past ↦ subst (PassedBy next i old new cell) (sym (le-ltb i next past)) (passed_trying (next + 1) i old new cell has)
]

-- two images have two slots
slots_apart : (nodes : ℕ) (images : List (List ℕ)) (i j : ℕ) → AreImages nodes images → i < length images → j < length images → i ≢ j → slot_of (image_at images i) ≢ slot_of (image_at images j)
slots_apart nodes images i j are within also apart same = elim (cases_lt i j) [
  | inl before ↦ are.distinct i j before also same
  | inr past ↦ are.distinct j i (omega arith) within (sym same)
]

-- ---- the calls

-- an image goes into the journal
pub keeps-journal : (head : Head) (epoch : ℕ) (images : List (List ℕ)) (homes journal : ℕ → List ℕ) (next : ℕ) (d : DiskState) → AreImages head.nodes images → next < length images → IsCommitting head epoch images homes journal (Journal next) d → IsCommitting head epoch images homes journal (Journal (next + 1)) (written d (2 + head.nodes + next) (image_at images next))
keeps-journal head epoch images homes journal next d are left is =
    let place = 2 + head.nodes + next in
    let page = image_at images next in
    let before = head_page head in
    record {
      id = is.id;
      size = is.size;
      first = Has-elsewhere (Fixed before) d place 0 page (λ same. omega arith) is.first;
      second = Has-elsewhere (Fixed before) d place 1 page (λ same. omega arith) is.second;
      in_journal = λ i within. elim (cases_eq i next) [
        | inl same ↦
            let Q : ℕ → Type 0 = λ n. Has (passed_by (next + 1) n (journal n) (image_at images n)) ((written d place page).cells (2 + head.nodes + n)) in
            subst Q (sym same) (passed_from_tried (next + 1) next (journal next) page ((written d place page).cells place) (Has-here (journal next) page d place (passed_trying next next (journal next) page (d.cells place) (is.in_journal next left))))
        | inr apart ↦ Has-elsewhere (passed_by (next + 1) i (journal i) (image_at images i)) d place (2 + head.nodes + i) page (λ same. apart (omega arith)) (passed_more next i (journal i) (image_at images i) (d.cells (2 + head.nodes + i)) apart (is.in_journal i within))
      ];
      at_home = λ i within.
          let low = are.slots i within in
          Has-elsewhere (Fixed (homes (slot_of (image_at images i)))) d place (2 + slot_of (image_at images i)) page (λ same. omega arith) (is.at_home i within);
      beyond = λ i past within. Has-elsewhere (Fixed (journal i)) d place (2 + head.nodes + i) page (λ same. omega arith) (is.beyond i past within);
      others = λ slot within unnamed. Has-elsewhere (Fixed (homes slot)) d place (2 + slot) page (λ same. omega arith) (is.others slot within unnamed);
    }

-- where the write failed and was made, the image's place was tried once more
pub retries-journal : (head : Head) (epoch : ℕ) (images : List (List ℕ)) (homes journal : ℕ → List ℕ) (next : ℕ) (d : DiskState) → IsCommitting head epoch images homes journal (Journal (next + 1)) d → IsCommitting head epoch images homes journal (Journal next) d
retries-journal head epoch images homes journal next d is = record {
  id = is.id;
  size = is.size;
  first = is.first;
  second = is.second;
  in_journal = λ i within. passed_less next i (journal i) (image_at images i) (d.cells (2 + head.nodes + i)) (is.in_journal i within);
  at_home = is.at_home;
  beyond = is.beyond;
  others = is.others;
}

-- the sync behind the images of the journal
pub syncs-journal : (head : Head) (epoch : ℕ) (images : List (List ℕ)) (homes journal : ℕ → List ℕ) (next : ℕ) (d : DiskState) → length images ≤ next → IsCommitting head epoch images homes journal (Journal next) d → IsCommitting head epoch images homes journal (Opening First) (synced d)
syncs-journal head epoch images homes journal next d none is =
    let before = head_page head in
    record {
      id = is.id;
      size = is.size;
      first = Trying-from_Fixed before (head_page (opened_head head epoch images)) (synced_cell (d.cells 0)) (Fixed-stays before (d.cells 0) is.first);
      second = Fixed-stays before (d.cells 1) is.second;
      in_journal = λ i within. Fixed-synced (journal i) (image_at images i) (d.cells (2 + head.nodes + i)) (passed_tried next i (journal i) (image_at images i) (d.cells (2 + head.nodes + i)) (omega arith) (is.in_journal i within));
      at_home = λ i within. Fixed-stays (homes (slot_of (image_at images i))) (d.cells (2 + slot_of (image_at images i))) (is.at_home i within);
      beyond = λ i past within. Fixed-stays (journal i) (d.cells (2 + head.nodes + i)) (is.beyond i past within);
      others = λ slot within unnamed. Fixed-stays (homes slot) (d.cells (2 + slot)) (is.others slot within unnamed);
    }

-- an image goes home
pub keeps-homes : (head : Head) (epoch : ℕ) (images : List (List ℕ)) (homes journal : ℕ → List ℕ) (next : ℕ) (d : DiskState) → AreImages head.nodes images → next < length images → IsCommitting head epoch images homes journal (Homes next) d → IsCommitting head epoch images homes journal (Homes (next + 1)) (written d (2 + slot_of (image_at images next)) (image_at images next))
keeps-homes head epoch images homes journal next d are left is =
    let slot_here = slot_of (image_at images next) in
    let place = 2 + slot_of (image_at images next) in
    let page = image_at images next in
    let opened = head_page (opened_head head epoch images) in
    let here = are.slots next left in
    record {
      id = is.id;
      size = is.size;
      first = Has-elsewhere (Fixed opened) d place 0 page (λ same. omega arith) is.first;
      second = Has-elsewhere (Fixed opened) d place 1 page (λ same. omega arith) is.second;
      in_journal = λ i within. Has-elsewhere (Fixed (image_at images i)) d place (2 + head.nodes + i) page (λ same. omega arith) (is.in_journal i within);
      at_home = λ i within. elim (cases_eq i next) [
        | inl same ↦
            let Q : ℕ → Type 0 = λ n. Has (passed_by (next + 1) n (homes (slot_of (image_at images n))) (image_at images n)) ((written d place page).cells (2 + slot_of (image_at images n))) in
            subst Q (sym same) (passed_from_tried (next + 1) next (homes slot_here) page ((written d place page).cells place) (Has-here (homes slot_here) page d place (passed_trying next next (homes slot_here) page (d.cells place) (is.at_home next left))))
        | inr apart ↦
            let unlike = slots_apart head.nodes images i next are within left apart in
            Has-elsewhere (passed_by (next + 1) i (homes (slot_of (image_at images i))) (image_at images i)) d place (2 + slot_of (image_at images i)) page (λ same. unlike (omega arith)) (passed_more next i (homes (slot_of (image_at images i))) (image_at images i) (d.cells (2 + slot_of (image_at images i))) apart (is.at_home i within))
      ];
      beyond = λ i past within. Has-elsewhere (Fixed (journal i)) d place (2 + head.nodes + i) page (λ same. omega arith) (is.beyond i past within);
      others = λ slot within unnamed.
          let unlike = unnamed next left in
          Has-elsewhere (Fixed (homes slot)) d place (2 + slot) page (λ same. unlike (omega arith)) (is.others slot within unnamed);
    }

pub retries-homes : (head : Head) (epoch : ℕ) (images : List (List ℕ)) (homes journal : ℕ → List ℕ) (next : ℕ) (d : DiskState) → IsCommitting head epoch images homes journal (Homes (next + 1)) d → IsCommitting head epoch images homes journal (Homes next) d
retries-homes head epoch images homes journal next d is = record {
  id = is.id;
  size = is.size;
  first = is.first;
  second = is.second;
  in_journal = is.in_journal;
  at_home = λ i within. passed_less next i (homes (slot_of (image_at images i))) (image_at images i) (d.cells (2 + slot_of (image_at images i))) (is.at_home i within);
  beyond = is.beyond;
  others = is.others;
}

pub syncs-homes : (head : Head) (epoch : ℕ) (images : List (List ℕ)) (homes journal : ℕ → List ℕ) (next : ℕ) (d : DiskState) → length images ≤ next → IsCommitting head epoch images homes journal (Homes next) d → IsCommitting head epoch images homes journal (Closing First) (synced d)
syncs-homes head epoch images homes journal next d none is =
    let opened = head_page (opened_head head epoch images) in
    record {
      id = is.id;
      size = is.size;
      first = Trying-from_Fixed opened (head_page (closed_head head epoch)) (synced_cell (d.cells 0)) (Fixed-stays opened (d.cells 0) is.first);
      second = Fixed-stays opened (d.cells 1) is.second;
      in_journal = λ i within. Fixed-stays (image_at images i) (d.cells (2 + head.nodes + i)) (is.in_journal i within);
      at_home = λ i within. Fixed-synced (homes (slot_of (image_at images i))) (image_at images i) (d.cells (2 + slot_of (image_at images i))) (passed_tried next i (homes (slot_of (image_at images i))) (image_at images i) (d.cells (2 + slot_of (image_at images i))) (omega arith) (is.at_home i within));
      beyond = λ i past within. Fixed-stays (journal i) (d.cells (2 + head.nodes + i)) (is.beyond i past within);
      others = λ slot within unnamed. Fixed-stays (homes slot) (d.cells (2 + slot)) (is.others slot within unnamed);
    }

-- ---- the heads that count the journal in

pub writes-opening-first : (head : Head) (epoch : ℕ) (images : List (List ℕ)) (homes journal : ℕ → List ℕ) (d : DiskState) → IsCommitting head epoch images homes journal (Opening First) d → IsCommitting head epoch images homes journal (Opening FirstSync) (written d 0 (head_page (opened_head head epoch images)))
writes-opening-first head epoch images homes journal d is =
    let page = head_page (opened_head head epoch images) in
    record {
      id = is.id;
      size = is.size;
      first = Has-here (head_page head) page d 0 is.first;
      second = Has-elsewhere (Fixed (head_page head)) d 0 1 page (λ same. omega arith) is.second;
      in_journal = λ i within. Has-elsewhere (Fixed (image_at images i)) d 0 (2 + head.nodes + i) page (λ same. omega arith) (is.in_journal i within);
      at_home = λ i within. Has-elsewhere (Fixed (homes (slot_of (image_at images i)))) d 0 (2 + slot_of (image_at images i)) page (λ same. omega arith) (is.at_home i within);
      beyond = λ i past within. Has-elsewhere (Fixed (journal i)) d 0 (2 + head.nodes + i) page (λ same. omega arith) (is.beyond i past within);
      others = λ slot within unnamed. Has-elsewhere (Fixed (homes slot)) d 0 (2 + slot) page (λ same. omega arith) (is.others slot within unnamed);
    }

pub retries-opening-first : (head : Head) (epoch : ℕ) (images : List (List ℕ)) (homes journal : ℕ → List ℕ) (d : DiskState) → IsCommitting head epoch images homes journal (Opening FirstSync) d → IsCommitting head epoch images homes journal (Opening First) d
retries-opening-first head epoch images homes journal d is = record {
  id = is.id;
  size = is.size;
  first = Trying-from_Tried (head_page head) (head_page (opened_head head epoch images)) (d.cells 0) is.first;
  second = is.second;
  in_journal = is.in_journal;
  at_home = is.at_home;
  beyond = is.beyond;
  others = is.others;
}

pub syncs-opening-first : (head : Head) (epoch : ℕ) (images : List (List ℕ)) (homes journal : ℕ → List ℕ) (d : DiskState) → IsCommitting head epoch images homes journal (Opening FirstSync) d → IsCommitting head epoch images homes journal (Opening Second) (synced d)
syncs-opening-first head epoch images homes journal d is = record {
  id = is.id;
  size = is.size;
  first = Fixed-synced (head_page head) (head_page (opened_head head epoch images)) (d.cells 0) is.first;
  second = Trying-from_Fixed (head_page head) (head_page (opened_head head epoch images)) (synced_cell (d.cells 1)) (Fixed-stays (head_page head) (d.cells 1) is.second);
  in_journal = λ i within. Fixed-stays (image_at images i) (d.cells (2 + head.nodes + i)) (is.in_journal i within);
  at_home = λ i within. Fixed-stays (homes (slot_of (image_at images i))) (d.cells (2 + slot_of (image_at images i))) (is.at_home i within);
  beyond = λ i past within. Fixed-stays (journal i) (d.cells (2 + head.nodes + i)) (is.beyond i past within);
  others = λ slot within unnamed. Fixed-stays (homes slot) (d.cells (2 + slot)) (is.others slot within unnamed);
}

pub writes-opening-second : (head : Head) (epoch : ℕ) (images : List (List ℕ)) (homes journal : ℕ → List ℕ) (d : DiskState) → IsCommitting head epoch images homes journal (Opening Second) d → IsCommitting head epoch images homes journal (Opening SecondSync) (written d 1 (head_page (opened_head head epoch images)))
writes-opening-second head epoch images homes journal d is =
    let page = head_page (opened_head head epoch images) in
    record {
      id = is.id;
      size = is.size;
      second = Has-here (head_page head) page d 1 is.second;
      first = Has-elsewhere (Fixed (head_page (opened_head head epoch images))) d 1 0 page (λ same. omega arith) is.first;
      in_journal = λ i within. Has-elsewhere (Fixed (image_at images i)) d 1 (2 + head.nodes + i) page (λ same. omega arith) (is.in_journal i within);
      at_home = λ i within. Has-elsewhere (Fixed (homes (slot_of (image_at images i)))) d 1 (2 + slot_of (image_at images i)) page (λ same. omega arith) (is.at_home i within);
      beyond = λ i past within. Has-elsewhere (Fixed (journal i)) d 1 (2 + head.nodes + i) page (λ same. omega arith) (is.beyond i past within);
      others = λ slot within unnamed. Has-elsewhere (Fixed (homes slot)) d 1 (2 + slot) page (λ same. omega arith) (is.others slot within unnamed);
    }

pub retries-opening-second : (head : Head) (epoch : ℕ) (images : List (List ℕ)) (homes journal : ℕ → List ℕ) (d : DiskState) → IsCommitting head epoch images homes journal (Opening SecondSync) d → IsCommitting head epoch images homes journal (Opening Second) d
retries-opening-second head epoch images homes journal d is = record {
  id = is.id;
  size = is.size;
  second = Trying-from_Tried (head_page head) (head_page (opened_head head epoch images)) (d.cells 1) is.second;
  first = is.first;
  in_journal = is.in_journal;
  at_home = is.at_home;
  beyond = is.beyond;
  others = is.others;
}

pub syncs-opening-second : (head : Head) (epoch : ℕ) (images : List (List ℕ)) (homes journal : ℕ → List ℕ) (d : DiskState) → IsCommitting head epoch images homes journal (Opening SecondSync) d → IsCommitting head epoch images homes journal (Homes 0) (synced d)
syncs-opening-second head epoch images homes journal d is = record {
  id = is.id;
  size = is.size;
  first = Fixed-stays (head_page (opened_head head epoch images)) (d.cells 0) is.first;
  second = Fixed-synced (head_page head) (head_page (opened_head head epoch images)) (d.cells 1) is.second;
  in_journal = λ i within. Fixed-stays (image_at images i) (d.cells (2 + head.nodes + i)) (is.in_journal i within);
  at_home = λ i within. passed_none i (homes (slot_of (image_at images i))) (image_at images i) (synced_cell (d.cells (2 + slot_of (image_at images i)))) (Fixed-stays (homes (slot_of (image_at images i))) (d.cells (2 + slot_of (image_at images i))) (is.at_home i within));
  beyond = λ i past within. Fixed-stays (journal i) (d.cells (2 + head.nodes + i)) (is.beyond i past within);
  others = λ slot within unnamed. Fixed-stays (homes slot) (d.cells (2 + slot)) (is.others slot within unnamed);
}

-- ---- the heads that count it out

pub writes-closing-first : (head : Head) (epoch : ℕ) (images : List (List ℕ)) (homes journal : ℕ → List ℕ) (d : DiskState) → IsCommitting head epoch images homes journal (Closing First) d → IsCommitting head epoch images homes journal (Closing FirstSync) (written d 0 (head_page (closed_head head epoch)))
writes-closing-first head epoch images homes journal d is =
    let page = head_page (closed_head head epoch) in
    record {
      id = is.id;
      size = is.size;
      first = Has-here (head_page (opened_head head epoch images)) page d 0 is.first;
      second = Has-elsewhere (Fixed (head_page (opened_head head epoch images))) d 0 1 page (λ same. omega arith) is.second;
      in_journal = λ i within. Has-elsewhere (Fixed (image_at images i)) d 0 (2 + head.nodes + i) page (λ same. omega arith) (is.in_journal i within);
      at_home = λ i within. Has-elsewhere (Fixed (image_at images i)) d 0 (2 + slot_of (image_at images i)) page (λ same. omega arith) (is.at_home i within);
      beyond = λ i past within. Has-elsewhere (Fixed (journal i)) d 0 (2 + head.nodes + i) page (λ same. omega arith) (is.beyond i past within);
      others = λ slot within unnamed. Has-elsewhere (Fixed (homes slot)) d 0 (2 + slot) page (λ same. omega arith) (is.others slot within unnamed);
    }

pub retries-closing-first : (head : Head) (epoch : ℕ) (images : List (List ℕ)) (homes journal : ℕ → List ℕ) (d : DiskState) → IsCommitting head epoch images homes journal (Closing FirstSync) d → IsCommitting head epoch images homes journal (Closing First) d
retries-closing-first head epoch images homes journal d is = record {
  id = is.id;
  size = is.size;
  first = Trying-from_Tried (head_page (opened_head head epoch images)) (head_page (closed_head head epoch)) (d.cells 0) is.first;
  second = is.second;
  in_journal = is.in_journal;
  at_home = is.at_home;
  beyond = is.beyond;
  others = is.others;
}

pub syncs-closing-first : (head : Head) (epoch : ℕ) (images : List (List ℕ)) (homes journal : ℕ → List ℕ) (d : DiskState) → IsCommitting head epoch images homes journal (Closing FirstSync) d → IsCommitting head epoch images homes journal (Closing Second) (synced d)
syncs-closing-first head epoch images homes journal d is = record {
  id = is.id;
  size = is.size;
  first = Fixed-synced (head_page (opened_head head epoch images)) (head_page (closed_head head epoch)) (d.cells 0) is.first;
  second = Trying-from_Fixed (head_page (opened_head head epoch images)) (head_page (closed_head head epoch)) (synced_cell (d.cells 1)) (Fixed-stays (head_page (opened_head head epoch images)) (d.cells 1) is.second);
  in_journal = λ i within. Fixed-stays (image_at images i) (d.cells (2 + head.nodes + i)) (is.in_journal i within);
  at_home = λ i within. Fixed-stays (image_at images i) (d.cells (2 + slot_of (image_at images i))) (is.at_home i within);
  beyond = λ i past within. Fixed-stays (journal i) (d.cells (2 + head.nodes + i)) (is.beyond i past within);
  others = λ slot within unnamed. Fixed-stays (homes slot) (d.cells (2 + slot)) (is.others slot within unnamed);
}

pub writes-closing-second : (head : Head) (epoch : ℕ) (images : List (List ℕ)) (homes journal : ℕ → List ℕ) (d : DiskState) → IsCommitting head epoch images homes journal (Closing Second) d → IsCommitting head epoch images homes journal (Closing SecondSync) (written d 1 (head_page (closed_head head epoch)))
writes-closing-second head epoch images homes journal d is =
    let page = head_page (closed_head head epoch) in
    record {
      id = is.id;
      size = is.size;
      second = Has-here (head_page (opened_head head epoch images)) page d 1 is.second;
      first = Has-elsewhere (Fixed (head_page (closed_head head epoch))) d 1 0 page (λ same. omega arith) is.first;
      in_journal = λ i within. Has-elsewhere (Fixed (image_at images i)) d 1 (2 + head.nodes + i) page (λ same. omega arith) (is.in_journal i within);
      at_home = λ i within. Has-elsewhere (Fixed (image_at images i)) d 1 (2 + slot_of (image_at images i)) page (λ same. omega arith) (is.at_home i within);
      beyond = λ i past within. Has-elsewhere (Fixed (journal i)) d 1 (2 + head.nodes + i) page (λ same. omega arith) (is.beyond i past within);
      others = λ slot within unnamed. Has-elsewhere (Fixed (homes slot)) d 1 (2 + slot) page (λ same. omega arith) (is.others slot within unnamed);
    }

pub retries-closing-second : (head : Head) (epoch : ℕ) (images : List (List ℕ)) (homes journal : ℕ → List ℕ) (d : DiskState) → IsCommitting head epoch images homes journal (Closing SecondSync) d → IsCommitting head epoch images homes journal (Closing Second) d
retries-closing-second head epoch images homes journal d is = record {
  id = is.id;
  size = is.size;
  second = Trying-from_Tried (head_page (opened_head head epoch images)) (head_page (closed_head head epoch)) (d.cells 1) is.second;
  first = is.first;
  in_journal = is.in_journal;
  at_home = is.at_home;
  beyond = is.beyond;
  others = is.others;
}

pub syncs-closing-second : (head : Head) (epoch : ℕ) (images : List (List ℕ)) (homes journal : ℕ → List ℕ) (d : DiskState) → IsCommitting head epoch images homes journal (Closing SecondSync) d → IsCommitting head epoch images homes journal (Rested) (synced d)
syncs-closing-second head epoch images homes journal d is = record {
  id = is.id;
  size = is.size;
  first = Fixed-stays (head_page (closed_head head epoch)) (d.cells 0) is.first;
  second = Fixed-synced (head_page (opened_head head epoch images)) (head_page (closed_head head epoch)) (d.cells 1) is.second;
  in_journal = λ i within. Fixed-stays (image_at images i) (d.cells (2 + head.nodes + i)) (is.in_journal i within);
  at_home = λ i within. Fixed-stays (image_at images i) (d.cells (2 + slot_of (image_at images i))) (is.at_home i within);
  beyond = λ i past within. Fixed-stays (journal i) (d.cells (2 + head.nodes + i)) (is.beyond i past within);
  others = λ slot within unnamed. Fixed-stays (homes slot) (d.cells (2 + slot)) (is.others slot within unnamed);
}

-- ---- each call

-- the call that is due leads to the next stage
pub keeps : (head : Head) (epoch : ℕ) (images : List (List ℕ)) (homes journal : ℕ → List ℕ) (stage : Stage) (d : DiskState) → AreImages head.nodes images → is_rested stage ≡ false → IsCommitting head epoch images homes journal stage d → IsCommitting head epoch images homes journal (next_stage (length images) stage) (after_call d (due_call head epoch images stage))
keeps head epoch images homes journal (Journal next) d are going is =
    let Q : Bool → Type 0 = λ b. IsCommitting head epoch images homes journal (cond b (Journal (next + 1)) (Opening First)) (after_call d (cond b (Write (2 + head.nodes + next) (image_at images next)) Sync)) in
    elim (cases_lt next (length images)) [
      | inl left ↦ subst Q (sym (lt-ltb next (length images) left)) (keeps-journal head epoch images homes journal next d are left is)
      | inr none ↦ subst Q (sym (le-ltb next (length images) none)) (syncs-journal head epoch images homes journal next d none is)
    ]
keeps head epoch images homes journal (Opening First) d are going is = writes-opening-first head epoch images homes journal d is
keeps head epoch images homes journal (Opening FirstSync) d are going is = syncs-opening-first head epoch images homes journal d is
keeps head epoch images homes journal (Opening Second) d are going is = writes-opening-second head epoch images homes journal d is
keeps head epoch images homes journal (Opening SecondSync) d are going is = syncs-opening-second head epoch images homes journal d is
keeps head epoch images homes journal (Homes next) d are going is =
    let Q : Bool → Type 0 = λ b. IsCommitting head epoch images homes journal (cond b (Homes (next + 1)) (Closing First)) (after_call d (cond b (Write (2 + slot_of (image_at images next)) (image_at images next)) Sync)) in
    elim (cases_lt next (length images)) [
      | inl left ↦ subst Q (sym (lt-ltb next (length images) left)) (keeps-homes head epoch images homes journal next d are left is)
      | inr none ↦ subst Q (sym (le-ltb next (length images) none)) (syncs-homes head epoch images homes journal next d none is)
    ]
keeps head epoch images homes journal (Closing First) d are going is = writes-closing-first head epoch images homes journal d is
keeps head epoch images homes journal (Closing FirstSync) d are going is = syncs-closing-first head epoch images homes journal d is
keeps head epoch images homes journal (Closing Second) d are going is = writes-closing-second head epoch images homes journal d is
keeps head epoch images homes journal (Closing SecondSync) d are going is = syncs-closing-second head epoch images homes journal d is
keeps head epoch images homes journal Rested d are going is = absurd (cc going)

-- ---- the first stage and the last one

-- a store at rest is one at the first stage
pub IsCommitting-at_rest : (head : Head) (epoch : ℕ) (images : List (List ℕ)) (homes journal : ℕ → List ℕ) (d : DiskState) → length images ≤ head.nodes → AreImages head.nodes images → IsAtRest head homes journal d → IsCommitting head epoch images homes journal (Journal 0) d
IsCommitting-at_rest head epoch images homes journal d fits are is = record {
  id = is.id;
  size = is.size;
  first = is.first;
  second = is.second;
  in_journal = λ i within. passed_none i (journal i) (image_at images i) (d.cells (2 + head.nodes + i)) (is.each_image i (omega arith));
  at_home = λ i within. is.each_home (slot_of (image_at images i)) (are.slots i within);
  beyond = λ i past within. is.each_image i within;
  others = λ slot within unnamed. is.each_home slot within;
}

-- a store at rest with the opened head, and its images in the journal, is one from which they go home
pub IsCommitting-opened : (head : Head) (epoch : ℕ) (images : List (List ℕ)) (homes journal : ℕ → List ℕ) (d : DiskState) → length images ≤ head.nodes → AreImages head.nodes images → IsAtRest (opened_head head epoch images) homes journal d → ((i : ℕ) → i < length images → journal i ≡ image_at images i) → IsCommitting head epoch images homes journal (Homes 0) d
IsCommitting-opened head epoch images homes journal d fits are is counted = record {
  id = is.id;
  size = is.size;
  first = is.first;
  second = is.second;
  in_journal = λ i within. subst (λ (p : List ℕ). Has (Fixed p) (d.cells (2 + head.nodes + i))) (counted i within) (is.each_image i (omega arith));
  at_home = λ i within. passed_none i (homes (slot_of (image_at images i))) (image_at images i) (d.cells (2 + slot_of (image_at images i))) (is.each_home (slot_of (image_at images i)) (are.slots i within));
  beyond = λ i past within. is.each_image i within;
  others = λ slot within unnamed. is.each_home slot within;
}

-- ---- damage

-- what is known is known of the candidates
pub IsCommitting-same : (head : Head) (epoch : ℕ) (images : List (List ℕ)) (homes journal : ℕ → List ℕ) (stage : Stage) (old new : DiskState) → CanFinish head epoch images → HasSameCandidates (2 + 2 * head.nodes) old new → IsCommitting head epoch images homes journal stage old → IsCommitting head epoch images homes journal stage new
IsCommitting-same head epoch images homes journal stage old new can same is =
    let before = head_page head in
    let opened = head_page (opened_head head epoch images) in
    let closed = head_page (closed_head head epoch) in
    let few : length images ≤ head.nodes = can.opened.count in
    record {
      id = is.id;
      size = same.size ∙ is.size;
      first = Has-same (first_at before opened closed stage) (old.cells 0) (new.cells 0) (same.each 0 (omega arith)) is.first;
      second = Has-same (second_at before opened closed stage) (old.cells 1) (new.cells 1) (same.each 1 (omega arith)) is.second;
      in_journal = λ i within. let p = 2 + head.nodes + i in Has-same (journal_at i (journal i) (image_at images i) stage) (old.cells p) (new.cells p) (same.each p (omega arith)) (is.in_journal i within);
      at_home = λ i within. let low = can.images_are.slots i within in let p = 2 + slot_of (image_at images i) in Has-same (home_at i (homes (slot_of (image_at images i))) (image_at images i) stage) (old.cells p) (new.cells p) (same.each p (omega arith)) (is.at_home i within);
      beyond = λ i past within. let p = 2 + head.nodes + i in Has-same (Fixed (journal i)) (old.cells p) (new.cells p) (same.each p (omega arith)) (is.beyond i past within);
      others = λ slot within unnamed. Has-same (Fixed (homes slot)) (old.cells (2 + slot)) (new.cells (2 + slot)) (same.each (2 + slot) (omega arith)) (is.others slot within unnamed);
    }

pub IsAtRest-same : (head : Head) (homes journal : ℕ → List ℕ) (old new : DiskState) → HasSameCandidates (2 + 2 * head.nodes) old new → IsAtRest head homes journal old → IsAtRest head homes journal new
IsAtRest-same head homes journal old new same is = record {
  id = is.id;
  size = same.size ∙ is.size;
  first = Has-same (Fixed (head_page head)) (old.cells 0) (new.cells 0) (same.each 0 (omega arith)) is.first;
  second = Has-same (Fixed (head_page head)) (old.cells 1) (new.cells 1) (same.each 1 (omega arith)) is.second;
  each_home = λ slot within. Has-same (Fixed (homes slot)) (old.cells (2 + slot)) (new.cells (2 + slot)) (same.each (2 + slot) (omega arith)) (is.each_home slot within);
  each_image = λ i within. let p = 2 + head.nodes + i in Has-same (Fixed (journal i)) (old.cells p) (new.cells p) (same.each p (omega arith)) (is.each_image i within);
}

same_if_hurt : (here : Bool) (cell : Cell) (bytes : List ℕ) → candidates (cond here (hurt_cell cell bytes) cell) ≡ candidates cell
same_if_hurt true cell bytes = refl
same_if_hurt false cell bytes = refl

-- damage leaves the candidates, and so does a write to a place past these
pub HasSameCandidates-damaged : (end : ℕ) (d : DiskState) (place : ℕ) (page : List ℕ) → HasSameCandidates end d (damaged d place page)
HasSameCandidates-damaged end d place page = record { size = refl; each = λ q low. same_if_hurt (eqb q place) (d.cells q) page }

pub HasSameCandidates-written : (end : ℕ) (d : DiskState) (place : ℕ) (page : List ℕ) → end ≤ place → HasSameCandidates end d (written d place page)
HasSameCandidates-written end d place page past = record {
  size = refl;
  each = λ q low. ap candidates (written-elsewhere d place q page (λ same. omega arith));
}

-- a sync leaves a store at rest
pub IsAtRest-synced : (head : Head) (homes journal : ℕ → List ℕ) (d : DiskState) → IsAtRest head homes journal d → IsAtRest head homes journal (synced d)
IsAtRest-synced head homes journal d is = record {
  id = is.id;
  size = is.size;
  first = Fixed-stays (head_page head) (d.cells 0) is.first;
  second = Fixed-stays (head_page head) (d.cells 1) is.second;
  each_home = λ slot within. Fixed-stays (homes slot) (d.cells (2 + slot)) (is.each_home slot within);
  each_image = λ i within. Fixed-stays (journal i) (d.cells (2 + head.nodes + i)) (is.each_image i within);
}
