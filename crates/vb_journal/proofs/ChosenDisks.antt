-- What is recovered from each choice of a store's disk. A choice is a disk that is known at a stage of its own, and it
-- is a crash of itself, so that the laws on crashes say what is recovered from it.
use Rattle.std.proofs.Common.{◌≡◌, ℕ, ◌+◌, ◌<◌, ◌≤◌, Bool, cond, List, [], ◌∷◌, length, refl, sym, ap, subst, ◌∙◌, ◌⊎◌, inl, inr, arith}
use Rattle.std.specs.List.{Contains}
use Rattle.std.proofs.lemmas.Bool.{le-ltb}
use Rattle.vb_disk.specs.declared.cell.Cell.{Cell}
use Rattle.vb_disk.specs.Crashes.{MayCrashTo}
use Rattle.vb_disk.specs.States.{DiskState}
use Rattle.vb_head.specs.declared.head.Head.{Head}
use Rattle.vb_head.specs.declared.head.State.TheVariants.{Closed}
use Rattle.vb_head.specs.Heads.{IsInRange, head_page}
use Rattle.vb_journal.specs.declared.commit_stage.Stage.{Stage}
use Rattle.vb_journal.specs.declared.commit_stage.Stage.TheVariants.{Journal, Opening, Homes, Closing, Rested}
use Rattle.vb_journal.specs.declared.commit_stage.Turn.{Turn}
use Rattle.vb_journal.specs.declared.commit_stage.Turn.TheVariants.{First, FirstSync, Second, SecondSync}
use Rattle.vb_journal.specs.Choices.{IsCellOf, IsChoiceOf}
use Rattle.vb_journal.specs.Chosen.{EachChoiceRecovers, EachChoiceStays, IsRefusedAsHurt, RecoversButHurt}
use Rattle.vb_journal.specs.Images.{image_at, slot_of}
use Rattle.vb_journal.specs.Plans.{CanCommit, CanGoOn, closed_head, opened_head}
use Rattle.vb_journal.specs.Progress.{Fixed, Has, IsAtRest, IsCommitting, Trying, Tried, first_in, new_images, passed_by, second_in}
use Rattle.vb_journal.proofs.AfterCrashes.{EachCrashRecovers-stage, EachCrashStays-rest}
use Rattle.vb_journal.proofs.Overlays.{image_over-named, image_over-unnamed, named_or_not}
use Rattle.vb_journal.proofs.TriedCells.{Trying-from_Fixed, Trying-from_Tried, alone_of, picked_of}

-- ---- one place

-- the first candidate of a choice's place is its only one
chosen_page : (new : Cell) → new.later ≡ [] → Has (Fixed new.first) new
chosen_page new alone = ap (λ (l : List (List ℕ)). new.first ∷ l) alone

fixed_as : (new : Cell) (page : List ℕ) → new.later ≡ [] → new.first ≡ page → Has (Fixed page) new
fixed_as new page alone is = subst (λ (p : List ℕ). Has (Fixed p) new) is (chosen_page new alone)

-- a place that stands
fixed_chosen : (page : List ℕ) (new old : Cell) → IsCellOf new old → Has (Fixed page) old → Has (Fixed page) new
fixed_chosen page new old is has =
    fixed_as new page is.alone (alone_of page new.first (subst (λ (l : List (List ℕ)). Contains l new.first) has is.picked))

-- a place between two pages has the one or the other
trying_chosen : (before after : List ℕ) (new old : Cell) → IsCellOf new old → Has (Trying before after) old → Has (Fixed before) new ⊎ Has (Fixed after) new
trying_chosen before after new old is has =
    elim (picked_of before after has.0 new.first (subst (λ (l : List (List ℕ)). Contains l new.first) has.1 is.picked)) [
      | inl page ↦ inl (fixed_as new before is.alone page)
      | inr page ↦ inr (fixed_as new after is.alone page)
    ]

-- no image was written home by now
not_passed : (i : ℕ) (before after : List ℕ) (cell : Cell) → Has (Fixed before) cell → Has (passed_by 0 i before after) cell
not_passed i before after cell has =
    subst (λ (b : Bool). Has (cond b (Tried before after) (Trying before after)) cell) (sym (le-ltb i 0 (omega arith))) (Trying-from_Fixed before after cell has)

-- ---- both heads

-- in a turn from one head to another, the first copy changes before the second
abbrev Turned : List ℕ → List ℕ → DiskState → Type 0
Turned before after d =
    (Has (Fixed before) (d.cells 0) × Has (Fixed before) (d.cells 1))
    ⊎ ((Has (Fixed after) (d.cells 0) × Has (Fixed before) (d.cells 1)) ⊎ (Has (Fixed after) (d.cells 0) × Has (Fixed after) (d.cells 1)))

turned_first : (a b : List ℕ) (d : DiskState) → Has (Fixed a) (d.cells 0) ⊎ Has (Fixed b) (d.cells 0) → Has (Fixed a) (d.cells 1) → Turned a b d
turned_first a b d (inl old) second = inl (old, second)
turned_first a b d (inr new) second = inr (inl (new, second))

turned_second : (a b : List ℕ) (d : DiskState) → Has (Fixed b) (d.cells 0) → Has (Fixed a) (d.cells 1) ⊎ Has (Fixed b) (d.cells 1) → Turned a b d
turned_second a b d first (inl old) = inr (inl (first, old))
turned_second a b d first (inr new) = inr (inr (first, new))

turned : (a b : List ℕ) (turn : Turn) (new d : DiskState) → IsChoiceOf new d → Has (first_in a b turn) (d.cells 0) → Has (second_in a b turn) (d.cells 1) → Turned a b new
turned a b First new d is first second =
    turned_first a b new (trying_chosen a b (new.cells 0) (d.cells 0) (is.each 0) first) (fixed_chosen a (new.cells 1) (d.cells 1) (is.each 1) second)
turned a b FirstSync new d is first second =
    turned_first a b new (trying_chosen a b (new.cells 0) (d.cells 0) (is.each 0) (Trying-from_Tried a b (d.cells 0) first)) (fixed_chosen a (new.cells 1) (d.cells 1) (is.each 1) second)
turned a b Second new d is first second =
    turned_second a b new (fixed_chosen b (new.cells 0) (d.cells 0) (is.each 0) first) (trying_chosen a b (new.cells 1) (d.cells 1) (is.each 1) second)
turned a b SecondSync new d is first second =
    turned_second a b new (fixed_chosen b (new.cells 0) (d.cells 0) (is.each 0) first) (trying_chosen a b (new.cells 1) (d.cells 1) (is.each 1) (Trying-from_Tried a b (d.cells 1) second))

-- ---- a choice is a crash of itself

MayCrashTo-chosen : (new d : DiskState) → IsChoiceOf new d → MayCrashTo new new
MayCrashTo-chosen new d is = record {
  size = refl;
  writes = refl;
  resizes = refl;
  synced_at = refl;
  each = λ place. record { picked = (0, omega arith, refl); alone = (is.each place).alone; hurt = inl refl };
}

-- ---- at rest

IsAtRest-chosen : (head : Head) (homes journal : ℕ → List ℕ) (new d : DiskState) → IsChoiceOf new d → IsAtRest head homes journal d → IsAtRest head homes journal new
IsAtRest-chosen head homes journal new d chosen is = record {
  id = is.id;
  size = chosen.size ∙ is.size;
  first = fixed_chosen (head_page head) (new.cells 0) (d.cells 0) (chosen.each 0) is.first;
  second = fixed_chosen (head_page head) (new.cells 1) (d.cells 1) (chosen.each 1) is.second;
  each_home = λ slot within. fixed_chosen (homes slot) (new.cells (2 + slot)) (d.cells (2 + slot)) (chosen.each (2 + slot)) (is.each_home slot within);
  each_image = λ i within. fixed_chosen (journal i) (new.cells (2 + head.nodes + i)) (d.cells (2 + head.nodes + i)) (chosen.each (2 + head.nodes + i)) (is.each_image i within);
}

pub EachChoiceStays-rest : (head : Head) (homes journal : ℕ → List ℕ) (d : DiskState) → IsInRange head → head.state ≡ Closed → IsAtRest head homes journal d → EachChoiceStays head homes d
EachChoiceStays-rest head homes journal d range closed is new chosen =
    EachCrashStays-rest head homes journal new range closed chosen.disk (IsAtRest-chosen head homes journal new d chosen is) new (MayCrashTo-chosen new d chosen)

-- what a place of the journal is in a choice
journal_in : Head → DiskState → ℕ → List ℕ
journal_in head new i = (new.cells (2 + head.nodes + i)).first

-- while the journal is written, a choice is a store at rest with a journal of its own
IsAtRest-journal : (head : Head) (epoch : ℕ) (images : List (List ℕ)) (homes journal : ℕ → List ℕ) (next : ℕ) (new d : DiskState) → IsChoiceOf new d → IsCommitting head epoch images homes journal (Journal next) d → IsAtRest head homes (journal_in head new) new
unfolding journal_in
IsAtRest-journal head epoch images homes journal next new d chosen is = record {
  id = is.id;
  size = chosen.size ∙ is.size;
  first = fixed_chosen (head_page head) (new.cells 0) (d.cells 0) (chosen.each 0) is.first;
  second = fixed_chosen (head_page head) (new.cells 1) (d.cells 1) (chosen.each 1) is.second;
  each_home = λ slot within.
      let at : ℕ → Type 0 = λ s. Has (Fixed (homes s)) (d.cells (2 + s)) in
      let has : at slot = elim (named_or_not images slot) [
        | inl named ↦ subst at named.is (is.at_home named.at named.within)
        | inr unnamed ↦ is.others slot within unnamed
      ] in
      fixed_chosen (homes slot) (new.cells (2 + slot)) (d.cells (2 + slot)) (chosen.each (2 + slot)) has;
  each_image = λ i within. chosen_page (new.cells (2 + head.nodes + i)) (chosen.each (2 + head.nodes + i)).alone;
}

pub EachChoiceStays-journal : (head : Head) (epoch : ℕ) (images : List (List ℕ)) (homes journal : ℕ → List ℕ) (next : ℕ) (d : DiskState) → CanGoOn head epoch images (Journal next) → IsCommitting head epoch images homes journal (Journal next) d → EachChoiceStays head homes d
EachChoiceStays-journal head epoch images homes journal next d can is new chosen =
    let early : CanCommit head epoch images = can.early refl in
    EachCrashStays-rest head homes (journal_in head new) new early.range early.closed chosen.disk
    (IsAtRest-journal head epoch images homes journal next new d chosen is) new (MayCrashTo-chosen new d chosen)

-- ---- in the midst of a commit

-- what a choice keeps of a commit at the stages behind the journal, but for its heads and the homes of its images
record IsBehind (head : Head) (epoch : ℕ) (images : List (List ℕ)) (homes journal : ℕ → List ℕ) (new : DiskState) : Type 0 where
  id : length head.id ≡ 16
  size : new.size ≡ head.blocks
  in_journal : (i : ℕ) → i < length images → Has (Fixed (image_at images i)) (new.cells (2 + head.nodes + i))
  beyond : (i : ℕ) → length images ≤ i → i < head.nodes → Has (Fixed (journal i)) (new.cells (2 + head.nodes + i))
  others : (slot : ℕ) → slot < head.nodes → ((i : ℕ) → i < length images → slot_of (image_at images i) ≡ slot → ⊥) → Has (Fixed (homes slot)) (new.cells (2 + slot))

-- each image at its home has this page there
abbrev AtHomes : DiskState → List (List ℕ) → (ℕ → List ℕ) → Type 0
AtHomes new images page = (i : ℕ) → i < length images → Has (Fixed (page i)) (new.cells (2 + slot_of (image_at images i)))

-- each image of the journal and each home that stood stands in a choice
fixed_each : (new d : DiskState) (page : ℕ → List ℕ) (place : ℕ → ℕ) (n : ℕ) → IsChoiceOf new d → ((i : ℕ) → i < n → Has (Fixed (page i)) (d.cells (place i))) → (i : ℕ) → i < n → Has (Fixed (page i)) (new.cells (place i))
fixed_each new d page place n chosen has i within = fixed_chosen (page i) (new.cells (place i)) (d.cells (place i)) (chosen.each (place i)) (has i within)

-- the heads are still from before, or the first was opened, or both were
while_opening : (head : Head) (epoch : ℕ) (images : List (List ℕ)) (homes journal : ℕ → List ℕ) (turn : Turn) (new d : DiskState) → CanGoOn head epoch images (Opening turn) → IsChoiceOf new d → IsBehind head epoch images homes journal new → AtHomes new images (λ i. homes (slot_of (image_at images i))) → Turned (head_page head) (head_page (opened_head head epoch images)) new → (RecoversButHurt new head homes ⊎ RecoversButHurt new (closed_head head epoch) (new_images images homes)) ⊎ IsRefusedAsHurt head.nodes (length images) new
while_opening head epoch images homes journal turn new d can chosen is home heads = elim heads [
  | inl both ↦ EachCrashRecovers-stage head epoch images homes journal (Opening First) new (record { finish = can.finish; early = can.early }) chosen.disk
      (record { id = is.id; size = is.size; first = Trying-from_Fixed (head_page head) (head_page (opened_head head epoch images)) (new.cells 0) both.0; second = both.1; in_journal = is.in_journal; at_home = home; beyond = is.beyond; others = is.others })
      new (MayCrashTo-chosen new d chosen)
  | inr other ↦ elim other [
    | inl first ↦ EachCrashRecovers-stage head epoch images homes journal (Opening Second) new (record { finish = can.finish; early = can.early }) chosen.disk
        (record { id = is.id; size = is.size; first = first.0; second = Trying-from_Fixed (head_page head) (head_page (opened_head head epoch images)) (new.cells 1) first.1; in_journal = is.in_journal; at_home = home; beyond = is.beyond; others = is.others })
        new (MayCrashTo-chosen new d chosen)
    | inr both ↦ elim (EachCrashRecovers-stage head epoch images homes journal (Homes 0) new (record { finish = can.finish; early = λ is. absurd (cc is) }) chosen.disk
        (record { id = is.id; size = is.size; first = both.0; second = both.1; in_journal = is.in_journal; at_home = λ i within. not_passed i (homes (slot_of (image_at images i))) (image_at images i) (new.cells (2 + slot_of (image_at images i))) (home i within); beyond = is.beyond; others = is.others })
        new (MayCrashTo-chosen new d chosen)) [
          | inl recovers ↦ inl (inr recovers)
          | inr refused ↦ inr refused
        ]
  ]
]

-- the same with the heads that count the journal out, once the images are home
while_closing : (head : Head) (epoch : ℕ) (images : List (List ℕ)) (homes journal : ℕ → List ℕ) (turn : Turn) (new d : DiskState) → CanGoOn head epoch images (Closing turn) → IsChoiceOf new d → IsBehind head epoch images homes journal new → AtHomes new images (image_at images) → Turned (head_page (opened_head head epoch images)) (head_page (closed_head head epoch)) new → RecoversButHurt new (closed_head head epoch) (new_images images homes) ⊎ IsRefusedAsHurt head.nodes (length images) new
while_closing head epoch images homes journal turn new d can chosen is home heads = elim heads [
  | inl both ↦ EachCrashRecovers-stage head epoch images homes journal (Closing First) new (record { finish = can.finish; early = can.early }) chosen.disk
      (record { id = is.id; size = is.size; first = Trying-from_Fixed (head_page (opened_head head epoch images)) (head_page (closed_head head epoch)) (new.cells 0) both.0; second = both.1; in_journal = is.in_journal; at_home = home; beyond = is.beyond; others = is.others })
      new (MayCrashTo-chosen new d chosen)
  | inr other ↦ elim other [
    | inl first ↦ EachCrashRecovers-stage head epoch images homes journal (Closing Second) new (record { finish = can.finish; early = can.early }) chosen.disk
        (record { id = is.id; size = is.size; first = first.0; second = Trying-from_Fixed (head_page (opened_head head epoch images)) (head_page (closed_head head epoch)) (new.cells 1) first.1; in_journal = is.in_journal; at_home = home; beyond = is.beyond; others = is.others })
        new (MayCrashTo-chosen new d chosen)
    | inr both ↦ EachCrashRecovers-stage head epoch images homes journal Rested new (record { finish = can.finish; early = can.early }) chosen.disk
        (record { id = is.id; size = is.size; first = both.0; second = both.1; in_journal = is.in_journal; at_home = home; beyond = is.beyond; others = is.others })
        new (MayCrashTo-chosen new d chosen)
  ]
]

-- ---- while images are written home

-- what a home is in a choice
home_in : DiskState → ℕ → List ℕ
home_in new slot = (new.cells (2 + slot)).first

-- the images over a choice's own homes are those over the homes from before
same_images : (head : Head) (epoch : ℕ) (images : List (List ℕ)) (homes : ℕ → List ℕ) (new : DiskState) → CanGoOn head epoch images (Homes 0) → ((slot : ℕ) → slot < head.nodes → ((i : ℕ) → i < length images → slot_of (image_at images i) ≡ slot → ⊥) → home_in new slot ≡ homes slot) → (slot : ℕ) → slot < head.nodes → new_images images (home_in new) slot ≡ new_images images homes slot
same_images head epoch images homes new can others slot within =
    let are = can.finish.images_are in
    elim (named_or_not images slot) [
      | inl named ↦ image_over-named images slot named.at (home_in new slot) are.distinct named.within named.is
          ∙ sym (image_over-named images slot named.at (homes slot) are.distinct named.within named.is)
      | inr unnamed ↦ image_over-unnamed images slot (home_in new slot) unnamed ∙ others slot within unnamed ∙ sym (image_over-unnamed images slot (homes slot) unnamed)
    ]

RecoversButHurt-same : (d : DiskState) (head : Head) (a b : ℕ → List ℕ) → ((slot : ℕ) → slot < head.nodes → a slot ≡ b slot) → RecoversButHurt d head a → RecoversButHurt d head b
RecoversButHurt-same d head a b same is = record {
  found = is.found;
  is = is.is;
  count = is.count;
  each = λ slot within. elim (is.each slot within) [ inl due ↦ inl (due ∙ same slot within) | inr hurt ↦ inr hurt ];
}

-- a choice's home of a slot that no image is for
home_stands : (page : List ℕ) (new old : Cell) → IsCellOf new old → Has (Fixed page) old → new.first ≡ page
home_stands page new old is has = alone_of page new.first (subst (λ (l : List (List ℕ)). Contains l new.first) has is.picked)

while_homes : (head : Head) (epoch : ℕ) (images : List (List ℕ)) (homes journal : ℕ → List ℕ) (next : ℕ) (new d : DiskState) → CanGoOn head epoch images (Homes next) → IsChoiceOf new d → IsCommitting head epoch images homes journal (Homes next) d → RecoversButHurt new (closed_head head epoch) (new_images images homes) ⊎ IsRefusedAsHurt head.nodes (length images) new
unfolding home_in
while_homes head epoch images homes journal next new d can chosen is =
    let start : CanGoOn head epoch images (Homes 0) = record { finish = can.finish; early = can.early } in
    let alone : (slot : ℕ) → Has (Fixed (home_in new slot)) (new.cells (2 + slot)) = λ slot. chosen_page (new.cells (2 + slot)) (chosen.each (2 + slot)).alone in
    let own : IsCommitting head epoch images (home_in new) journal (Homes 0) new = record {
      id = is.id;
      size = chosen.size ∙ is.size;
      first = fixed_chosen (head_page (opened_head head epoch images)) (new.cells 0) (d.cells 0) (chosen.each 0) is.first;
      second = fixed_chosen (head_page (opened_head head epoch images)) (new.cells 1) (d.cells 1) (chosen.each 1) is.second;
      in_journal = fixed_each new d (image_at images) (λ i. 2 + head.nodes + i) (length images) chosen is.in_journal;
      at_home = λ i within. not_passed i (home_in new (slot_of (image_at images i))) (image_at images i) (new.cells (2 + slot_of (image_at images i))) (alone (slot_of (image_at images i)));
      beyond = λ i from within. fixed_chosen (journal i) (new.cells (2 + head.nodes + i)) (d.cells (2 + head.nodes + i)) (chosen.each (2 + head.nodes + i)) (is.beyond i from within);
      others = λ slot within unnamed. alone slot;
    } in
    elim (EachCrashRecovers-stage head epoch images (home_in new) journal (Homes 0) new start chosen.disk own new (MayCrashTo-chosen new d chosen)) [
      | inl recovers ↦ inl (RecoversButHurt-same new (closed_head head epoch) (new_images images (home_in new)) (new_images images homes)
          (same_images head epoch images homes new start (λ slot within unnamed. home_stands (homes slot) (new.cells (2 + slot)) (d.cells (2 + slot)) (chosen.each (2 + slot)) (is.others slot within unnamed)))
          recovers)
      | inr refused ↦ inr refused
    ]

-- ---- each stage

behind : (head : Head) (epoch : ℕ) (images : List (List ℕ)) (homes journal : ℕ → List ℕ) (new d : DiskState) → IsChoiceOf new d → IsBehind head epoch images homes journal d → IsBehind head epoch images homes journal new
behind head epoch images homes journal new d chosen is = record {
  id = is.id;
  size = chosen.size ∙ is.size;
  in_journal = fixed_each new d (image_at images) (λ i. 2 + head.nodes + i) (length images) chosen is.in_journal;
  beyond = λ i from within. fixed_chosen (journal i) (new.cells (2 + head.nodes + i)) (d.cells (2 + head.nodes + i)) (chosen.each (2 + head.nodes + i)) (is.beyond i from within);
  others = λ slot within unnamed. fixed_chosen (homes slot) (new.cells (2 + slot)) (d.cells (2 + slot)) (chosen.each (2 + slot)) (is.others slot within unnamed);
}

pub EachChoiceRecovers-stage : (head : Head) (epoch : ℕ) (images : List (List ℕ)) (homes journal : ℕ → List ℕ) (stage : Stage) (d : DiskState) → CanGoOn head epoch images stage → IsCommitting head epoch images homes journal stage d → EachChoiceRecovers head epoch images homes stage d
EachChoiceRecovers-stage head epoch images homes journal (Journal next) d can is new chosen =
    elim (EachChoiceStays-journal head epoch images homes journal next d can is new chosen) [ inl recovers ↦ inl (inl recovers) | inr refused ↦ inr refused ]
EachChoiceRecovers-stage head epoch images homes journal (Opening turn) d can is new chosen =
    let known : IsBehind head epoch images homes journal d = record { id = is.id; size = is.size; in_journal = is.in_journal; beyond = is.beyond; others = is.others } in
    while_opening head epoch images homes journal turn new d can chosen (behind head epoch images homes journal new d chosen known)
    (fixed_each new d (λ i. homes (slot_of (image_at images i))) (λ i. 2 + slot_of (image_at images i)) (length images) chosen is.at_home)
    (turned (head_page head) (head_page (opened_head head epoch images)) turn new d chosen is.first is.second)
EachChoiceRecovers-stage head epoch images homes journal (Homes next) d can is new chosen =
    while_homes head epoch images homes journal next new d can chosen is
EachChoiceRecovers-stage head epoch images homes journal (Closing turn) d can is new chosen =
    let known : IsBehind head epoch images homes journal d = record { id = is.id; size = is.size; in_journal = is.in_journal; beyond = is.beyond; others = is.others } in
    while_closing head epoch images homes journal turn new d can chosen (behind head epoch images homes journal new d chosen known)
    (fixed_each new d (image_at images) (λ i. 2 + slot_of (image_at images i)) (length images) chosen is.at_home)
    (turned (head_page (opened_head head epoch images)) (head_page (closed_head head epoch)) turn new d chosen is.first is.second)
EachChoiceRecovers-stage head epoch images homes journal Rested d can is new chosen =
    let known : IsBehind head epoch images homes journal d = record { id = is.id; size = is.size; in_journal = is.in_journal; beyond = is.beyond; others = is.others } in
    let now = behind head epoch images homes journal new d chosen known in
    EachCrashRecovers-stage head epoch images homes journal Rested new can chosen.disk
    (record {
      id = now.id;
      size = now.size;
      first = fixed_chosen (head_page (closed_head head epoch)) (new.cells 0) (d.cells 0) (chosen.each 0) is.first;
      second = fixed_chosen (head_page (closed_head head epoch)) (new.cells 1) (d.cells 1) (chosen.each 1) is.second;
      in_journal = now.in_journal;
      at_home = fixed_each new d (image_at images) (λ i. 2 + slot_of (image_at images i)) (length images) chosen is.at_home;
      beyond = now.beyond;
      others = now.others;
    })
    new (MayCrashTo-chosen new d chosen)
