-- The write of one page, as a machine.
use Rattle.std.specs.Prelude.{ℕ, ◌+◌}
use Rattle.vb_commit.specs.declared.placing.Placing.{Placing}
use Rattle.vb_commit.specs.declared.placing.Placing.TheVariants.{Due, Placed}
use Rattle.vb_disk.specs.States.{Write}
use Rattle.vb_steps.specs.Calls.{Call, Change, Rest}

-- the call that is due
abbrev pub placing_call : Placing → Call
placing_call (Due place page) = Change (Write place page.now)
placing_call Placed = Rest

-- how many places it relies on
abbrev pub placing_blocks : Placing → ℕ
placing_blocks (Due place page) = place + 1
placing_blocks Placed = 0
