-- Calls of a disk, made one after the other by one function.
use Rattle.std.specs.Prelude.{◌≡◌, List, ◌++◌, Option, Some, None, Result, OnOk, OnErr}
use Rattle.vb_disk.specs.States.{DiskState, DiskCall, after_calls}

-- the first of the calls were made, and the others weren't
pub record IsBrokenOff (calls : List DiskCall) (d : DiskState) (new : Option DiskState) : Type 0 where
  pub made : List DiskCall
  pub left : List DiskCall
  pub whole : made ++ left ≡ calls
  pub state : new ≡ Some (after_calls d made)

-- the calls were made in their order, and at an error the first of them
pub record MakesAll {T E : Type 0} (calls : List DiskCall) (old new : Option DiskState) (result : Result T E) : Type 0 where
  pub made : (d : DiskState) → old ≡ Some d → OnOk result (new ≡ Some (after_calls d calls))
  pub broken_off : (d : DiskState) → old ≡ Some d → OnErr result (IsBrokenOff calls d new)
  pub untold : old ≡ None → new ≡ None
