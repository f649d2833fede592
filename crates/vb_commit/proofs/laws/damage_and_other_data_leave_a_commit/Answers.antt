use Rattle.vb_commit.proofs.WayLaws.{damage-stands, data-stands, known-by}
use Rattle.vb_commit.proofs.laws.damage_and_other_data_leave_a_commit.Goals as goal

pub returns-clause-damage : goal.returns-clause-damage
returns-clause-damage c head plan d place page = damage-stands head plan d place page

pub returns-clause-others : goal.returns-clause-others
returns-clause-others c head plan d place page past apart = data-stands head plan d place page past apart

pub returns-clause-known : goal.returns-clause-known
returns-clause-known c source homes journal plan s old new is stands known = known-by source homes journal plan s old new is stands known
