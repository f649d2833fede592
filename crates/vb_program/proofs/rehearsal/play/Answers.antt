use Rattle.std.proofs.Common.{◌≡◌, List, refl, sym, subst, ◌∙◌}
use mathlib.Core.List.{IsPrefix}
use Rattle.vb_hist.specs.Quiet.{quiet_history}
use Rattle.vb_hist.specs.declared.entry.Entry.{Entry}
use Rattle.vb_program.specs.Playing.{history_in, limits_in}
use Rattle.vb_program.specs.Run.{view_after, TellsFolder}
use Rattle.vb_program.specs.declared.ending.Ending.{Ending}
use Rattle.vb_program.proofs.Fronts.{front-same}
use Rattle.vb_program.proofs.Tellings.{tells-run}
use Rattle.vb_program.proofs.rehearsal.play.Goals as goal

pub returns-in-Ok : goal.returns-in-Ok
returns-in-Ok c =
    let run = quiet_history (limits_in c.args.folder) c.args.scripts in
    let made = history_in c.play_scripts.new.folder in
    let played : made ≡ run = c.in-Ok.ensures.played in
    tells-run made run c.args.report.now c.report_whole.new.report c.report_whole.result c.requires.no_text
    (subst (λ (h : List Entry). IsPrefix made h) played (front-same made)) (λ whole. played) c.report_whole.ensures

pub returns-in-Err : goal.returns-in-Err
returns-in-Err c =
    let run = quiet_history (limits_in c.args.folder) c.args.scripts in
    let made = history_in c.play_scripts.new.folder in
    tells-run made run c.args.report.now c.report_front.new.report c.report_front.result c.requires.no_text c.in-Err.ensures.err
    (λ whole. (let memory = c.report_front.ensures.memory in cc))
    (subst (λ (ending : Ending). TellsFolder made (view_after made) c.args.report.now ending c.report_front.new.report) (sym c.report_front.ensures.memory) c.report_front.ensures.front)
