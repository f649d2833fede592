-- What is known of a disk that tells nothing.
use Rattle.std.specs.Prelude.{◌≡◌, ◌≤◌, ℕ, None, Some}
use Rattle.vb_disk.specs.States.{DiskState, IsDiskState}

-- where nothing is told, no state is
pub nothing_is_told : (d : DiskState) → None ≡ Some d → IsDiskState d
nothing_is_told d told = absurd (cc told)

-- and no size
pub no_size_is_told : (seen : ℕ) (d : DiskState) → None ≡ Some d → seen ≤ d.size
no_size_is_told seen d told = absurd (cc told)
