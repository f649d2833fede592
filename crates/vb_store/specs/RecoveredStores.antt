-- Stores whose journal was recovered: what a mount is to answer, and what is left to be read.
use Rattle.std.specs.Prelude.{◌≡◌, None, Result}
use Rattle.vb_disk.specs.States.{DiskState}
use Rattle.vb_head.specs.declared.head.Head.{Head}
use Rattle.vb_journal.specs.declared.recover_error.RecoverError.{RecoverError}
use Rattle.vb_journal.specs.Recovering.{IsRecovered}
use Rattle.vb_journal.specs.Outcomes.{reads_of}
use Rattle.vb_store.specs.Metadata.{Metadata, journal_fault, metadata_of}
use Rattle.vb_store.specs.Recovered.{Recovery, recovered}

-- the metadata of what reads of a disk give
abbrev pub metadata_on : DiskState → Result Metadata RecoverError
metadata_on d = metadata_of d.size (reads_of d)

-- what is recovered from what reads of a disk give
abbrev pub recovered_on : DiskState → Recovery
recovered_on d = recovered d.size (reads_of d)

-- the journal of a store was recovered, and each of its images is a node
pub record IsSoundlyRecovered (begun : DiskState) (head : Head) (d : DiskState) : Type 0 where
  pub recovered : IsRecovered begun head d
  pub sound : journal_fault (reads_of begun) recovered.chosen ≡ None
