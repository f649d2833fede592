use Rattle.std.proofs.Common.{Some, ap}
use Rattle.vb_disk.specs.States.{new_state}
use Rattle.vb_fresh.proofs.fresh.new_store.Goals as goal

pub returns-in-Ok-clause-state : goal.returns-in-Ok-clause-state
returns-in-Ok-clause-state c =
    let made = c.in-Ok.ensures.makes.made (new_state 0) (ap Some c.in_ok-disk.ensures.state) in
    cc made
