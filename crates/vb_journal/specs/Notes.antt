-- What a recovery notes on its way: the place of the head that counted when it began, and the slots of the journal's
-- images.
use Rattle.std.specs.Prelude.{◌≡◌, ℕ, ◌-◌, List, [], ◌∷◌, ◌++◌, map, Option, Some, None, Ok}
use Rattle.vb_disk.specs.States.{DiskState}
use Rattle.vb_head.specs.declared.head.Head.{Head}
use Rattle.vb_head.specs.Heads.{head_read}
use Rattle.vb_journal.specs.declared.recover.Recover.{Recover}
use Rattle.vb_journal.specs.declared.recover_stage.RecoverStage.{RecoverStage}
use Rattle.vb_journal.specs.Images.{slot_of}
use Rattle.vb_journal.specs.Outcomes.{reads_of}
use Rattle.vb_journal.specs.Recoveries.{choice_of, greater_place, journal_of}
use Rattle.vb_journal.specs.RecoverViews.{RecoverView, AtAsk, AtSettle, AtFirst, AtSecond, AtMend, AtSettleMend, AtImage, AtReplay, AtReady, AtRefused, view_of}
use Rattle.vb_journal.specs.Shown.{good_of}

-- the place of the head that counts
abbrev pub head_place : (ℕ → List ℕ) → ℕ
head_place reads = greater_place (good_of (head_read (reads 0))) (good_of (head_read (reads 1)))

-- the slots of the journal's images that a head counts in
abbrev pub journal_slots : (ℕ → List ℕ) → Head → List ℕ
journal_slots reads head = map slot_of (journal_of reads head)

-- these are the slots of the journal that was found when the recovery began
abbrev pub AreJournalSlots : DiskState → List ℕ → Type 0
AreJournalSlots begun slots = (chosen : Head) → choice_of begun.size (reads_of begun) ≡ Ok chosen → slots ≡ journal_slots (reads_of begun) chosen

-- what a recovery that has ended noted of the disk that it began on
pub record IsNoted (begun : DiskState) (place : ℕ) (slots : List ℕ) : Type 0 where
  pub place_is : place ≡ head_place (reads_of begun)
  pub slots_are : AreJournalSlots begun slots

-- the place that is noted at a stage: none before the heads were read, and then that of the head that counts. While
-- the other one is to be mended, the stage has the place of that one.
abbrev pub IsPlaceAt_in : RecoverView → ℕ → DiskState → Type 0
IsPlaceAt_in AtAsk place begun = place ≡ 0
IsPlaceAt_in (AtSettle places) place begun = place ≡ 0
IsPlaceAt_in (AtFirst places) place begun = place ≡ 0
IsPlaceAt_in (AtSecond places read) place begun = place ≡ 0
IsPlaceAt_in (AtMend head other) place begun = other ≡ 1 - head_place (reads_of begun)
IsPlaceAt_in (AtSettleMend head other) place begun = place ≡ head_place (reads_of begun)
IsPlaceAt_in (AtImage head count images) place begun = place ≡ head_place (reads_of begun)
IsPlaceAt_in (AtReplay head epoch images stage) place begun = place ≡ head_place (reads_of begun)
IsPlaceAt_in (AtReady head) place begun = place ≡ head_place (reads_of begun)
IsPlaceAt_in (AtRefused why) place begun = Unit {0}

-- so it is at a stage
abbrev pub IsPlaceAt : RecoverStage → ℕ → DiskState → Type 0
IsPlaceAt stage place begun = IsPlaceAt_in (view_of stage) place begun

-- the slots that are noted at a stage: those of the images that were read
abbrev pub AreSlotsAt_in : RecoverView → List ℕ → DiskState → Type 0
AreSlotsAt_in AtAsk slots begun = slots ≡ []
AreSlotsAt_in (AtSettle places) slots begun = slots ≡ []
AreSlotsAt_in (AtFirst places) slots begun = slots ≡ []
AreSlotsAt_in (AtSecond places read) slots begun = slots ≡ []
AreSlotsAt_in (AtMend head other) slots begun = slots ≡ []
AreSlotsAt_in (AtSettleMend head other) slots begun = slots ≡ []
AreSlotsAt_in (AtImage head count images) slots begun = slots ≡ map slot_of images
AreSlotsAt_in (AtReplay head epoch images stage) slots begun = slots ≡ map slot_of images
AreSlotsAt_in (AtReady head) slots begun = AreJournalSlots begun slots
AreSlotsAt_in (AtRefused why) slots begun = Unit {0}

-- so it is at a stage
abbrev pub AreSlotsAt : RecoverStage → List ℕ → DiskState → Type 0
AreSlotsAt stage slots begun = AreSlotsAt_in (view_of stage) slots begun

-- a recovery that began on this disk has noted these at a stage
pub record HasNotedAt (stage : RecoverStage) (place : ℕ) (slots : List ℕ) (begun : DiskState) : Type 0 where
  pub place_is : IsPlaceAt stage place begun
  pub slots_are : AreSlotsAt stage slots begun

-- so it has by now
abbrev pub HasNoted : Recover → DiskState → Type 0
HasNoted r begun = HasNotedAt r.stage r.place r.slots.items begun

-- the slots that it noted by now
abbrev pub slots_noted : Recover → List ℕ
slots_noted r = r.slots.items

-- ---- steps

-- the place that is noted once a step was made from a stage
abbrev pub place_after_in : RecoverView → ℕ → ℕ
place_after_in AtAsk place = place
place_after_in (AtSettle places) place = place
place_after_in (AtFirst places) place = place
place_after_in (AtSecond places read) place = place
place_after_in (AtMend head other) place = 1 - other
place_after_in (AtSettleMend head other) place = place
place_after_in (AtImage head count images) place = place
place_after_in (AtReplay head epoch images stage) place = place
place_after_in (AtReady head) place = place
place_after_in (AtRefused why) place = place

-- so it is at a stage
abbrev pub place_after : RecoverStage → ℕ → ℕ
place_after stage place = place_after_in (view_of stage) place

-- the slots, with that of an image behind them where one was read
abbrev pub slots_with : List ℕ → Option (List ℕ) → List ℕ
slots_with slots None = slots
slots_with slots (Some image) = slots ++ slot_of image ∷ []
