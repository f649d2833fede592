-- After a crash at any stage of a commit, the disk recovers to the old images or the new ones, but for what was hurt.
use Rattle.std.proofs.Common.{◌≡◌, ℕ, ◌+◌, ◌<◌, ◌≤◌, List, [], length, Option, Some, None, refl, sym, ap, subst, ◌∙◌, ◌⊎◌, inl, inr, arith}
use Rattle.vb_disk.specs.Crashes.{MayCrashTo}
use Rattle.vb_disk.specs.States.{DiskState, IsDiskState, read_at}
use Rattle.vb_head.specs.declared.head.Head.{Head}
use Rattle.vb_head.specs.declared.head.State.{State}
use Rattle.vb_head.specs.declared.head.State.TheVariants.{Closed}
use Rattle.vb_head.specs.Heads.{IsHead, IsInRange, count_of, head_page}
use Rattle.vb_journal.specs.declared.commit_stage.Stage.{Stage}
use Rattle.vb_journal.specs.declared.commit_stage.Stage.TheVariants.{Journal, Opening, Homes, Closing, Rested}
use Rattle.vb_journal.specs.declared.commit_stage.Turn.{Turn}
use Rattle.vb_journal.specs.declared.commit_stage.Turn.TheVariants.{First, FirstSync, Second, SecondSync}
use Rattle.vb_journal.specs.Images.{image_at, slot_of}
use Rattle.vb_journal.specs.Outcomes.{IsRefused, Recovers}
use Rattle.vb_journal.specs.Plans.{CanCommit, CanFinish, CanGoOn, closed_head, opened_head}
use Rattle.vb_journal.specs.Progress.{EachCrashRecovers, EachCrashStays, Fixed, Has, IsAtRest, IsCommitting, IsUnnamed, first_in, new_images, second_in}
use Rattle.vb_journal.specs.Recoveries.{images_refusal, is_rebuilding, journal_of, node_image, settled_from}
use Rattle.vb_journal.specs.Shown.{image_over, pages_from}
use Rattle.vb_journal.proofs.Found.{Counts, IsRefused-gone, IsRefused-journal, ReadsOrHurt, Recovers-counting, journal_read}
use Rattle.vb_journal.proofs.Heads.{AreGone, MayReadHead-Trying, OneCounts, OneCounts-both, OneCounts-first, OneCounts-second, StandsOrHurt-Fixed, counting}
use Rattle.vb_journal.proofs.Overlays.{image_over-named, image_over-unnamed, named_or_not}
use Rattle.vb_journal.proofs.TriedCells.{ReadsUnsealed-disk, Trying-from_Tried, fixed_or_hurt}

-- a crash in the midst of a commit
pub record Crash (head : Head) (epoch : ℕ) (images : List (List ℕ)) (homes : ℕ → List ℕ) (d new : DiskState) : Type 0 where
  pub can : CanFinish head epoch images
  pub id : length head.id ≡ 16
  pub size : d.size ≡ head.blocks
  pub disk : IsDiskState d
  pub crash : MayCrashTo d new
  pub others : (slot : ℕ) → slot < head.nodes → IsUnnamed images slot → Has (Fixed (homes slot)) (d.cells (2 + slot))

-- a place that stands reads as its page, or it was hurt
pub reads_or_hurt : (page : List ℕ) (d new : DiskState) (place : ℕ) → IsDiskState d → MayCrashTo d new → Has (Fixed page) (d.cells place) → ReadsOrHurt d new page place
reads_or_hurt page d new place disk crash has = fixed_or_hurt page (d.cells place) (new.cells place) (ReadsUnsealed-disk d place disk) has (crash.each place)

-- the image of a node is the page of its home, or what its home read as when it was hurt
abbrev pub HomeIs : DiskState → DiskState → List ℕ → ℕ → Type 0
HomeIs d new page slot = (read_at new (2 + slot) ≡ page) ⊎ ((d.cells (2 + slot)).hurt ≡ Some (read_at new (2 + slot)))

pub home_is : (page : List ℕ) (d new : DiskState) (slot : ℕ) → IsDiskState d → MayCrashTo d new → Has (Fixed page) (d.cells (2 + slot)) → HomeIs d new page slot
home_is page d new slot disk crash has = elim (reads_or_hurt page d new (2 + slot) disk crash has) [
  | inl is ↦ inl is
  | inr hurt ↦ inr (hurt.was ∙ ap (λ (p : List ℕ). let o : Option (List ℕ) = Some p in o) (sym hurt.ends.reads))
]

-- the disk is large enough for a store, and has the size of the head
pub large : (head : Head) (epoch : ℕ) (images : List (List ℕ)) (homes : ℕ → List ℕ) (d new : DiskState) → Crash head epoch images homes d new → 38 ≤ new.size
large head epoch images homes d new c =
    let space = c.can.closed.space in
    let low = c.can.closed.nodes_low in
    let same = c.size in
    let stays = c.crash.size in
    omega arith

pub fits_head : (head : Head) (epoch : ℕ) (images : List (List ℕ)) (homes : ℕ → List ℕ) (d new : DiskState) → Crash head epoch images homes d new → head.blocks ≡ new.size
fits_head head epoch images homes d new c = sym c.size ∙ sym c.crash.size

-- ---- what is recovered where this head counts

-- a closed head counts
pub closed_counts : (h : Head) (d new : DiskState) (pages : ℕ → List ℕ) → 38 ≤ new.size → counting new ≡ Some h → h.state ≡ Closed → h.blocks ≡ new.size → ((slot : ℕ) → slot < h.nodes → HomeIs d new (pages slot) slot) → Recovers d new h pages
closed_counts h d new pages large counts closed fits each =
    let reads : ℕ → List ℕ = λ q. read_at new q in
    let none : journal_of reads h ≡ [] = ap (λ (s : State). pages_from reads (2 + h.nodes) (count_of s)) closed in
    Recovers-counting d new h h pages
    (record { large = large; is = counts; fits = fits; made = ap is_rebuilding closed })
    (ap (images_refusal h.nodes (2 + h.nodes) []) none)
    (ap (settled_from h) closed)
    refl
    (λ slot within.
    let bare : node_image reads h slot ≡ read_at new (2 + slot) = ap (λ (l : List (List ℕ)). image_over l slot (reads (2 + slot))) none in
    elim (each slot within) [
      | inl is ↦ inl (bare ∙ is)
      | inr hurt ↦ inr (hurt ∙ ap (λ (p : List ℕ). let o : Option (List ℕ) = Some p in o) (sym bare))
    ])

-- two disks have the same homes hurt, but for those that an image is for
abbrev pub AreHurtAlike : Head → List (List ℕ) → DiskState → DiskState → Type 0
AreHurtAlike head images a b = (slot : ℕ) → slot < head.nodes → IsUnnamed images slot → (a.cells (2 + slot)).hurt ≡ (b.cells (2 + slot)).hurt

-- the opened head counts, and its journal was read: homes that an image is for aren't missed
pub journal_counts : (head : Head) (epoch : ℕ) (images : List (List ℕ)) (homes : ℕ → List ℕ) (seen d new : DiskState) → Crash head epoch images homes d new → AreHurtAlike head images seen d → Counts new (opened_head head epoch images) → pages_from (λ q. read_at new q) (2 + head.nodes) (length images) ≡ images → images_refusal head.nodes (2 + head.nodes) [] (pages_from (λ q. read_at new q) (2 + head.nodes) (length images)) ≡ None → Recovers seen new (closed_head head epoch) (new_images images homes)
journal_counts head epoch images homes seen d new c alike counts is accepts =
    let reads : ℕ → List ℕ = λ q. read_at new q in
    let twice : head.sequence + 1 + 1 ≡ head.sequence + 2 = omega arith in
    let are = c.can.images_are in
    Recovers-counting seen new (opened_head head epoch images) (closed_head head epoch) (new_images images homes) counts accepts
    (ap (λ (n : ℕ). let h : Head = record head { sequence = n; epoch = epoch; state = Closed } in h) twice)
    refl
    (λ slot within.
    let over : node_image reads (opened_head head epoch images) slot ≡ image_over images slot (reads (2 + slot)) = ap (λ (l : List (List ℕ)). image_over l slot (reads (2 + slot))) is in
    elim (named_or_not images slot) [
      | inl named ↦ inl (over ∙ image_over-named images slot named.at (reads (2 + slot)) are.distinct named.within named.is ∙ sym (image_over-named images slot named.at (homes slot) are.distinct named.within named.is))
      | inr unnamed ↦
          let bare = over ∙ image_over-unnamed images slot (reads (2 + slot)) unnamed in
          elim (home_is (homes slot) d new slot c.disk c.crash (c.others slot within unnamed)) [
            | inl due ↦ inl (bare ∙ due ∙ sym (image_over-unnamed images slot (homes slot) unnamed))
            | inr hurt ↦ inr (alike slot within unnamed ∙ hurt ∙ ap (λ (p : List ℕ). let o : Option (List ℕ) = Some p in o) (sym bare))
          ]
    ])

-- the opened head counts behind a whole journal
opened_counts : (head : Head) (epoch : ℕ) (images : List (List ℕ)) (homes : ℕ → List ℕ) (seen d new : DiskState) → Crash head epoch images homes d new → AreHurtAlike head images seen d → counting new ≡ Some (opened_head head epoch images) → ((i : ℕ) → i < length images → Has (Fixed (image_at images i)) (d.cells (2 + head.nodes + i))) → Recovers seen new (closed_head head epoch) (new_images images homes) ⊎ IsRefused head.nodes (length images) d new
opened_counts head epoch images homes seen d new c alike is journal =
    let counts : Counts new (opened_head head epoch images) = record {
      large = large head epoch images homes d new c;
      is = is;
      fits = fits_head head epoch images homes d new c;
      made = refl;
    } in
    elim (journal_read head.nodes (2 + head.nodes) d new images c.can.images_are (λ i within. reads_or_hurt (image_at images i) d new (2 + head.nodes + i) c.disk c.crash (journal i within))) [
      | inl read ↦ inl (journal_counts head epoch images homes seen d new c alike counts read.0 read.1)
      | inr hurt ↦ inr (IsRefused-journal head.nodes d new (opened_head head epoch images) counts refl (length images) refl hurt)
    ]

-- the head from before counts, and no home was written
pub before_counts : (head : Head) (epoch : ℕ) (images : List (List ℕ)) (homes : ℕ → List ℕ) (d new : DiskState) → Crash head epoch images homes d new → head.state ≡ Closed → counting new ≡ Some head → ((i : ℕ) → i < length images → Has (Fixed (homes (slot_of (image_at images i)))) (d.cells (2 + slot_of (image_at images i)))) → Recovers d new head homes
before_counts head epoch images homes d new c closed is home =
    closed_counts head d new homes (large head epoch images homes d new c) is closed (fits_head head epoch images homes d new c)
    (λ slot within. elim (named_or_not images slot) [
      | inl named ↦ subst (λ (s : ℕ). HomeIs d new (homes s) s) named.is (home_is (homes (slot_of (image_at images named.at))) d new (slot_of (image_at images named.at)) c.disk c.crash (home named.at named.within))
      | inr unnamed ↦ home_is (homes slot) d new slot c.disk c.crash (c.others slot within unnamed)
    ])

-- the closed head counts, and the images are at their homes
pub after_counts : (head : Head) (epoch : ℕ) (images : List (List ℕ)) (homes : ℕ → List ℕ) (d new : DiskState) → Crash head epoch images homes d new → counting new ≡ Some (closed_head head epoch) → ((i : ℕ) → i < length images → Has (Fixed (image_at images i)) (d.cells (2 + slot_of (image_at images i)))) → Recovers d new (closed_head head epoch) (new_images images homes)
after_counts head epoch images homes d new c is home =
    let are = c.can.images_are in
    closed_counts (closed_head head epoch) d new (new_images images homes) (large head epoch images homes d new c) is refl (fits_head head epoch images homes d new c)
    (λ slot within. elim (named_or_not images slot) [
      | inl named ↦
          let image = image_at images named.at in
          let due : image ≡ new_images images homes slot = sym (image_over-named images slot named.at (homes slot) are.distinct named.within named.is) in
          subst (λ (p : List ℕ). HomeIs d new p slot) due (subst (HomeIs d new image) named.is (home_is image d new (slot_of image) c.disk c.crash (home named.at named.within)))
      | inr unnamed ↦ subst (λ (p : List ℕ). HomeIs d new p slot) (sym (image_over-unnamed images slot (homes slot) unnamed)) (home_is (homes slot) d new slot c.disk c.crash (c.others slot within unnamed))
    ])

-- ---- the heads in a turn

-- in each turn from an old to a new head, one of them counts, or the other copy was hurt
one_counts : (a b : Head) (turn : Turn) (d new : DiskState) → IsHead a → IsHead b → IsDiskState d → MayCrashTo d new → Has (first_in (head_page a) (head_page b) turn) (d.cells 0) → Has (second_in (head_page a) (head_page b) turn) (d.cells 1) → OneCounts a b d new
one_counts a b First d new is_a is_b disk crash first second = OneCounts-first a b d new (MayReadHead-Trying a b d new 0 is_a is_b disk crash first) (StandsOrHurt-Fixed a d new 1 is_a disk crash second)
one_counts a b FirstSync d new is_a is_b disk crash first second = OneCounts-first a b d new (MayReadHead-Trying a b d new 0 is_a is_b disk crash (Trying-from_Tried (head_page a) (head_page b) (d.cells 0) first)) (StandsOrHurt-Fixed a d new 1 is_a disk crash second)
one_counts a b Second d new is_a is_b disk crash first second = OneCounts-second a b d new (StandsOrHurt-Fixed b d new 0 is_b disk crash first) (MayReadHead-Trying a b d new 1 is_a is_b disk crash second)
one_counts a b SecondSync d new is_a is_b disk crash first second = OneCounts-second a b d new (StandsOrHurt-Fixed b d new 0 is_b disk crash first) (MayReadHead-Trying a b d new 1 is_a is_b disk crash (Trying-from_Tried (head_page a) (head_page b) (d.cells 1) second))

-- the head counts that stands at both places, or both were hurt
pub same_counts : (h : Head) (d new : DiskState) → IsHead h → IsDiskState d → MayCrashTo d new → Has (Fixed (head_page h)) (d.cells 0) → Has (Fixed (head_page h)) (d.cells 1) → (counting new ≡ Some h) ⊎ AreGone d new
same_counts h d new is disk crash first second = OneCounts-both h d new (StandsOrHurt-Fixed h d new 0 is disk crash first) (StandsOrHurt-Fixed h d new 1 is disk crash second)

-- ---- each stage

pub crash_at : (head : Head) (epoch : ℕ) (images : List (List ℕ)) (homes journal : ℕ → List ℕ) (stage : Stage) (d new : DiskState) → CanFinish head epoch images → IsDiskState d → IsCommitting head epoch images homes journal stage d → MayCrashTo d new → Crash head epoch images homes d new
crash_at head epoch images homes journal stage d new can disk is crash = record { can = can; id = is.id; size = is.size; disk = disk; crash = crash; others = is.others }

-- while the heads are opened
while_opening : (head : Head) (epoch : ℕ) (images : List (List ℕ)) (homes journal : ℕ → List ℕ) (turn : Turn) (d new : DiskState) → CanGoOn head epoch images (Opening turn) → Crash head epoch images homes d new → IsCommitting head epoch images homes journal (Opening turn) d → (Recovers d new head homes ⊎ Recovers d new (closed_head head epoch) (new_images images homes)) ⊎ IsRefused head.nodes (length images) d new
while_opening head epoch images homes journal turn d new can c is =
    let early : CanCommit head epoch images = can.early refl in
    let before : IsHead head = record { range = early.range; id_length = c.id } in
    let opened : IsHead (opened_head head epoch images) = record { range = c.can.opened; id_length = c.id } in
    elim (one_counts head (opened_head head epoch images) turn d new before opened c.disk c.crash is.first is.second) [
      | inl old ↦ inl (inl (before_counts head epoch images homes d new c early.closed old is.at_home))
      | inr other ↦ elim other [
        | inl fresh ↦ elim (opened_counts head epoch images homes d d new c (λ slot within unnamed. refl) fresh is.in_journal) [ inl recovers ↦ inl (inr recovers) | inr refused ↦ inr refused ]
        | inr gone ↦ inr (IsRefused-gone head.nodes (length images) d new (large head epoch images homes d new c) gone)
      ]
    ]

-- while they are closed again
while_closing : (head : Head) (epoch : ℕ) (images : List (List ℕ)) (homes journal : ℕ → List ℕ) (turn : Turn) (d new : DiskState) → Crash head epoch images homes d new → IsCommitting head epoch images homes journal (Closing turn) d → Recovers d new (closed_head head epoch) (new_images images homes) ⊎ IsRefused head.nodes (length images) d new
while_closing head epoch images homes journal turn d new c is =
    let opened : IsHead (opened_head head epoch images) = record { range = c.can.opened; id_length = c.id } in
    let closed : IsHead (closed_head head epoch) = record { range = c.can.closed; id_length = c.id } in
    elim (one_counts (opened_head head epoch images) (closed_head head epoch) turn d new opened closed c.disk c.crash is.first is.second) [
      | inl old ↦ opened_counts head epoch images homes d d new c (λ slot within unnamed. refl) old is.in_journal
      | inr other ↦ elim other [
        | inl fresh ↦ inl (after_counts head epoch images homes d new c fresh is.at_home)
        | inr gone ↦ inr (IsRefused-gone head.nodes (length images) d new (large head epoch images homes d new c) gone)
      ]
    ]

-- after a crash at each stage
pub EachCrashRecovers-stage : (head : Head) (epoch : ℕ) (images : List (List ℕ)) (homes journal : ℕ → List ℕ) (stage : Stage) (d : DiskState) → CanGoOn head epoch images stage → IsDiskState d → IsCommitting head epoch images homes journal stage d → EachCrashRecovers head epoch images homes stage d
EachCrashRecovers-stage head epoch images homes journal (Journal next) d can disk is new crash =
    let c = crash_at head epoch images homes journal (Journal next) d new can.finish disk is crash in
    let early : CanCommit head epoch images = can.early refl in
    let before : IsHead head = record { range = early.range; id_length = is.id } in
    elim (same_counts head d new before disk crash is.first is.second) [
      | inl counts ↦ inl (inl (before_counts head epoch images homes d new c early.closed counts is.at_home))
      | inr gone ↦ inr (IsRefused-gone head.nodes 0 d new (large head epoch images homes d new c) gone)
    ]
EachCrashRecovers-stage head epoch images homes journal (Opening turn) d can disk is new crash =
    while_opening head epoch images homes journal turn d new can (crash_at head epoch images homes journal (Opening turn) d new can.finish disk is crash) is
EachCrashRecovers-stage head epoch images homes journal (Homes next) d can disk is new crash =
    let c = crash_at head epoch images homes journal (Homes next) d new can.finish disk is crash in
    let opened : IsHead (opened_head head epoch images) = record { range = c.can.opened; id_length = is.id } in
    elim (same_counts (opened_head head epoch images) d new opened disk crash is.first is.second) [
      | inl counts ↦ opened_counts head epoch images homes d d new c (λ slot within unnamed. refl) counts is.in_journal
      | inr gone ↦ inr (IsRefused-gone head.nodes (length images) d new (large head epoch images homes d new c) gone)
    ]
EachCrashRecovers-stage head epoch images homes journal (Closing turn) d can disk is new crash =
    while_closing head epoch images homes journal turn d new (crash_at head epoch images homes journal (Closing turn) d new can.finish disk is crash) is
EachCrashRecovers-stage head epoch images homes journal Rested d can disk is new crash =
    let c = crash_at head epoch images homes journal Rested d new can.finish disk is crash in
    let closed : IsHead (closed_head head epoch) = record { range = c.can.closed; id_length = is.id } in
    elim (same_counts (closed_head head epoch) d new closed disk crash is.first is.second) [
      | inl counts ↦ inl (after_counts head epoch images homes d new c counts is.at_home)
      | inr gone ↦ inr (IsRefused-gone head.nodes (length images) d new (large head epoch images homes d new c) gone)
    ]

-- after a crash of a store at rest
pub EachCrashStays-rest : (head : Head) (homes journal : ℕ → List ℕ) (d : DiskState) → IsInRange head → head.state ≡ Closed → IsDiskState d → IsAtRest head homes journal d → EachCrashStays head homes d
EachCrashStays-rest head homes journal d range closed disk is new crash =
    let is_head : IsHead head = record { range = range; id_length = is.id } in
    let big : 38 ≤ new.size = (let space = range.space in let low = range.nodes_low in let same = is.size in let stays = crash.size in omega arith) in
    elim (same_counts head d new is_head disk crash is.first is.second) [
      | inl counts ↦ inl (closed_counts head d new homes big counts closed (sym is.size ∙ sym crash.size) (λ slot within. home_is (homes slot) d new slot disk crash (is.each_home slot within)))
      | inr gone ↦ inr (IsRefused-gone head.nodes 0 d new big gone)
    ]
