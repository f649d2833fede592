-- Whichever candidate is read of each place of a disk, one of the views that may be recovered from it is recovered.
use Rattle.std.proofs.Common.{◌≡◌, ℕ, false, List, [], Ok, refl, sym, ap, subst, ◌∙◌, inl, inr}
use Rattle.std.proofs.lemmas.List.Elements.{All-cons, All-contains, All-nil}
use Rattle.std.specs.List.{Contains}
use Rattle.vb_block.specs.Pages.{IsPage, zero_page}
use Rattle.vb_disk.specs.declared.cell.Cell.{Cell}
use Rattle.vb_disk.specs.Cells.{blank_cell, candidates}
use Rattle.vb_disk.specs.States.{DiskState, IsDiskState}
use Rattle.vb_journal.specs.Choices.{IsChoiceOf}
use Rattle.vb_journal.specs.Outcomes.{reads_of}
use Rattle.vb_journal.proofs.Settled.{read_of-alone}
use Rattle.vb_journal.proofs.TriedCells.{alone_of}
use Rattle.vb_store.specs.EmptyStores.{whole_cell}
use Rattle.vb_store.specs.Metadata.{metadata_of}
use Rattle.vb_store.specs.OneOf.{RecoversOneOf, ShowsOrRefuses, TreeView}
use Rattle.vb_store.specs.Recovered.{recovered, recovered_at, recovered_from}
use Rattle.vb_views.specs.Reads.{GiveCandidates, RecoverOneOf}

-- the disk each place of which is what was read
read_disk : DiskState → (ℕ → List ℕ) → DiskState
read_disk d reads = record d { cells = λ place. whole_cell (reads place) }

page_read : (d : DiskState) (reads : ℕ → List ℕ) (place : ℕ) → IsDiskState d → GiveCandidates d reads → IsPage (reads place)
page_read d reads place disk given = All-contains IsPage (candidates (d.cells place)) (reads place) (disk.candidates_are_pages place) (given place)

blank_read : (cell : Cell) (page : List ℕ) → cell ≡ blank_cell → Contains (candidates cell) page → whole_cell page ≡ blank_cell
blank_read cell page blank among = ap whole_cell (alone_of zero_page page (subst (λ (c : Cell). Contains (candidates c) page) blank among))

is_disk : (d : DiskState) (reads : ℕ → List ℕ) → IsDiskState d → GiveCandidates d reads → IsDiskState (read_disk d reads)
unfolding read_disk
is_disk d reads disk given = record {
  blank_past_size = λ place past. blank_read (d.cells place) (reads place) (disk.blank_past_size place past) (given place);
  hurt_are_misses = λ place bytes hurt. absurd (cc hurt);
  candidates_are_pages = λ place. All-cons IsPage (reads place) [] (page_read d reads place disk given) (All-nil IsPage);
  hurt_are_pages = λ place bytes hurt. absurd (cc hurt);
  counted = record { covers = disk.counted.covers; settled = λ all place. refl };
}

is_choice : (d : DiskState) (reads : ℕ → List ℕ) → IsDiskState d → GiveCandidates d reads → IsChoiceOf (read_disk d reads) d
unfolding read_disk
is_choice d reads disk given = record { disk = is_disk d reads disk given; size = refl; each = λ place. record { picked = given place; alone = refl } }

reads_are : (d : DiskState) (reads : ℕ → List ℕ) → reads_of (read_disk d reads) ≡ reads
unfolding read_disk
reads_are d reads = λ i place. read_of-alone (whole_cell (reads place)) refl i

shown : (views : List TreeView) (d : DiskState) (reads : ℕ → List ℕ) → ShowsOrRefuses views false (read_disk d reads) → RecoverOneOf views d.size reads
unfolding read_disk recovered
shown views d reads (inl shows) =
    let metadata : metadata_of d.size reads ≡ Ok shows.view.metadata = ap (metadata_of d.size) (sym (reads_are d reads)) ∙ shows.metadata in
    record {
      view = shows.view;
      listed = shows.listed;
      recovers = ap (recovered_from reads) metadata ∙ ap (recovered_at shows.view.metadata.head.epoch) shows.pages;
    }
shown views d reads (inr (inl damaged)) = absurd (let hurt = damaged.hurt in cc hurt.1)
shown views d reads (inr (inr (inl blank))) = absurd (let hurt = blank.first in cc hurt.1)
shown views d reads (inr (inr (inr anew))) = absurd (let allows = anew.allows in cc allows)

pub one-recovered : (views : List TreeView) (d : DiskState) (reads : ℕ → List ℕ) → IsDiskState d → RecoversOneOf views false d → GiveCandidates d reads → RecoverOneOf views d.size reads
one-recovered views d reads disk recovers given = shown views d reads (recovers (read_disk d reads) (is_choice d reads disk given))
