use Rattle.std.proofs.Common.{arith}
use Rattle.vb_script.specs.declared.script.Form.TheVariants.{Rehearse}
use Rattle.vb_program.proofs.Rehearsals.{played-reports, played-ending, refused-reports, refused-ending}
use Rattle.vb_program.proofs.ScriptsRead.{short-script}
use Rattle.vb_program.proofs.rehearsal.rehearse.Goals as goal

pub returns-in-Ok-clause-reports : goal.returns-in-Ok-clause-reports
returns-in-Ok-clause-reports c = λ words input ok is.
    played-reports words input c.args.bytes.now c.in-Ok.script c.rehearse_script.result c.rehearse_script.new.report.text ok is c.in-Ok.ensures.exact c.rehearse_script.ensures

pub returns-in-Ok-clause-whole : goal.returns-in-Ok-clause-whole
returns-in-Ok-clause-whole c = λ _. omega (arith, short-script Rehearse c.args.bytes.now c.in-Ok.script c.in-Ok.ensures.exact)

pub returns-in-Ok-clause-no_words : goal.returns-in-Ok-clause-no_words
returns-in-Ok-clause-no_words c = (played-ending _ c.rehearse_script.result c.rehearse_script.new.report.text c.rehearse_script.ensures).0

pub returns-in-Ok-clause-no_source : goal.returns-in-Ok-clause-no_source
returns-in-Ok-clause-no_source c = (played-ending _ c.rehearse_script.result c.rehearse_script.new.report.text c.rehearse_script.ensures).1

pub returns-in-Err-clause-reports : goal.returns-in-Err-clause-reports
returns-in-Err-clause-reports c = λ words input ok is.
    refused-reports words input c.args.bytes.now c.in-Err.error c.args.report.now c.refuse.result c.refuse.new.report ok is c.in-Err.ensures.exact c.requires c.refuse.ensures

pub returns-in-Err-clause-whole : goal.returns-in-Err-clause-whole
returns-in-Err-clause-whole c = λ h. absurd ((refused-ending c.in-Err.error c.args.report.now c.refuse.result c.refuse.new.report c.refuse.ensures).0 h)

pub returns-in-Err-clause-no_words : goal.returns-in-Err-clause-no_words
returns-in-Err-clause-no_words c = (refused-ending c.in-Err.error c.args.report.now c.refuse.result c.refuse.new.report c.refuse.ensures).1

pub returns-in-Err-clause-no_source : goal.returns-in-Err-clause-no_source
returns-in-Err-clause-no_source c = (refused-ending c.in-Err.error c.args.report.now c.refuse.result c.refuse.new.report c.refuse.ensures).2
