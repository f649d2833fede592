use Rattle.vb_local.proofs.Planned.{page-written, plan-under}
use Rattle.vb_local.proofs.laws.a_plan_has_the_frozen_pages.Goals as goal

pub returns-clause-under : goal.returns-clause-under
returns-clause-under c v frozen is none over = plan-under v frozen is none over

pub returns-clause-written : goal.returns-clause-written
returns-clause-written c v frozen slot page bytes reference is none over kept at = page-written v frozen slot page bytes reference is none over kept at
