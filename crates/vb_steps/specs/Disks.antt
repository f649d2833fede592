-- What a disk tells of itself at a moment, as one value.
use Rattle.std.specs.Prelude.{ℕ, Option}
use Rattle.vb_disk.specs.States.{DiskState}

-- the told state, the seen size, how often it failed, how many failures may still come, and how many calls were made
pub record DiskView : Type 0 where
  pub told : Option DiskState
  pub seen : ℕ
  pub faults : ℕ
  pub left : Option ℕ
  pub calls : ℕ

-- a disk that tells these
abbrev pub disk_view : Option DiskState → ℕ → ℕ → Option ℕ → ℕ → DiskView
disk_view told seen faults left calls = record { told = told; seen = seen; faults = faults; left = left; calls = calls }
