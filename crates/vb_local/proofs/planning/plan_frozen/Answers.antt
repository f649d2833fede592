use Rattle.vb_local.specs.States.{frozen_state}
use Rattle.vb_local.proofs.PlansShown.{planned-by}
use Rattle.vb_local.proofs.planning.plan_frozen.Goals as goal

pub returns-clause-planned : goal.returns-clause-planned
returns-clause-planned c =
    let start = c.in_ok-commit.ensures in
    planned-by c.args.view.now c.start.new.view (frozen_state c.args.frozen.now) c.args.epoch c.in_ok-commit.commit c.in_ok-next.next c.in_ok-next.ensures start.begun start.commit start.way start.view c.judge_next.ensures.table c.judge_next.ensures.rooted start.known
