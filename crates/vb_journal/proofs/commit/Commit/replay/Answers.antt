use Rattle.std.proofs.Common.{◌∙◌, arith}
use Rattle.vb_journal.specs.declared.commit_stage.Stage.TheVariants.{Homes}
use Rattle.vb_journal.proofs.Keeping.{IsCommitting-opened}
use Rattle.vb_journal.proofs.PlanSteps.{length-calls_from}
use Rattle.vb_journal.proofs.commit.Commit.replay.Goals as goal

pub returns-clause-calls : goal.returns-clause-calls
returns-clause-calls c = length-calls_from c.args.head c.args.epoch c.args.images (Homes 0) ∙ omega arith

pub returns-clause-known : goal.returns-clause-known
returns-clause-known c homes journal d is counted = IsCommitting-opened c.args.head c.args.epoch c.args.images homes journal d c.requires.opened.count c.requires.images_are is counted
