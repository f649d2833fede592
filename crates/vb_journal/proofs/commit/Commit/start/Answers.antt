use Rattle.std.proofs.Common.{◌∙◌, arith}
use Rattle.vb_journal.specs.declared.commit_stage.Stage.TheVariants.{Journal}
use Rattle.vb_journal.proofs.Keeping.{IsCommitting-at_rest}
use Rattle.vb_journal.proofs.PlanSteps.{length-calls_from}
use Rattle.vb_journal.proofs.commit.Commit.start.Goals as goal

pub returns-clause-calls : goal.returns-clause-calls
returns-clause-calls c = length-calls_from c.args.head c.args.epoch c.args.images (Journal 0) ∙ omega arith

pub returns-clause-known : goal.returns-clause-known
returns-clause-known c homes journal d is = IsCommitting-at_rest c.args.head c.args.epoch c.args.images homes journal d c.requires.count c.requires.images_are is
