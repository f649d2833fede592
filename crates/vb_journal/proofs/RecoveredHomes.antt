-- What the homes of a recovered store read as.
use Rattle.std.proofs.Common.{◌≡◌, ℕ, ◌+◌, ◌<◌, List, [], sym, ap, ◌∙◌, inl, inr}
use Rattle.vb_disk.specs.declared.cell.Cell.{Cell}
use Rattle.vb_disk.specs.Cells.{read_of}
use Rattle.vb_disk.specs.States.{DiskState, read_at}
use Rattle.vb_head.specs.declared.head.Head.{Head}
use Rattle.vb_journal.specs.Outcomes.{reads_of}
use Rattle.vb_journal.specs.Recoveries.{node_image}
use Rattle.vb_journal.specs.Recovering.{IsHomeOf, IsRecovered}
use Rattle.vb_journal.specs.Shown.{image_over}
use Rattle.vb_journal.proofs.Overlays.{image_over-unnamed}

-- a home reads as what stood there when the recovery began, with the journal put over it
home_reads : (begun : DiskState) (images : List (List ℕ)) (slot : ℕ) (cell : Cell) → IsHomeOf begun images slot cell → read_of cell ≡ image_over images slot (read_at begun (2 + slot))
home_reads begun images slot cell (inl stood) = ap read_of stood.stands ∙ sym (image_over-unnamed images slot (read_at begun (2 + slot)) stood.unnamed)
home_reads begun images slot cell (inr taken) = ap read_of taken.holds ∙ sym (taken.covers (read_at begun (2 + slot)))

-- it has one candidate
home_settled : (begun : DiskState) (images : List (List ℕ)) (slot : ℕ) (cell : Cell) → IsHomeOf begun images slot cell → cell.later ≡ []
home_settled begun images slot cell (inl stood) = ap (λ (c : Cell). c.later) stood.stands
home_settled begun images slot cell (inr taken) = ap (λ (c : Cell). c.later) taken.holds

-- each home of a recovered store reads as the image of its node
pub recovered-reads : (begun : DiskState) (head : Head) (d : DiskState) (is : IsRecovered begun head d) (slot : ℕ) → slot < head.nodes → read_at d (2 + slot) ≡ node_image (reads_of begun) is.chosen slot
recovered-reads begun head d is slot within = home_reads begun _ slot (d.cells (2 + slot)) (is.homes slot within)

-- and has one candidate
pub recovered-settled : (begun : DiskState) (head : Head) (d : DiskState) → IsRecovered begun head d → (slot : ℕ) → slot < head.nodes → (d.cells (2 + slot)).later ≡ []
recovered-settled begun head d is slot within = home_settled begun _ slot (d.cells (2 + slot)) (is.homes slot within)
