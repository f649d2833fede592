-- What a crash within a call of a disk may leave.
use Rattle.std.specs.Prelude.{◌≡◌, ◌⊎◌, Option, Some}
use Rattle.vb_disk.specs.Crashes.{MayCrashTo}
use Rattle.vb_disk.specs.Moments.{IsMoment}
use Rattle.vb_disk.specs.States.{DiskState}

-- a crash at some moment between the two states may leave this one
pub record MayCrashBetween (old new left : DiskState) : Type 0 where
  pub at : DiskState
  pub moment : IsMoment old new at
  pub crash : MayCrashTo at left

-- what a crash within a call may leave, by what was told before it and after it: only what a crash at one of the two
-- may leave
pub record CrashesWithin (before after : Option DiskState) : Type 0 where
  pub each : (old new left : DiskState) → before ≡ Some old → after ≡ Some new → MayCrashBetween old new left
      → MayCrashTo old left ⊎ MayCrashTo new left
