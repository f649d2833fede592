use Rattle.std.proofs.Common.{sym, subst, ap, ◌∙◌, ◌+◌, ◌≡◌, List, arith}
use mathlib.Core.List.{IsPrefix}
use Rattle.vb_hist.specs.Quiet.{after_line}
use Rattle.vb_hist.specs.declared.entry.Entry.{Entry}
use Rattle.vb_program.specs.Playing.{history_in, last_epoch_in, limits_in}
use Rattle.vb_program.proofs.Fronts.{front-line}
use Rattle.vb_program.proofs.Loops.{on-err, on-ok}
use Rattle.vb_program.proofs.QuietSteps.{quiet-call, quiet-epoch}
use Rattle.vb_program.proofs.quiet.play_line.Goals as goal

pub returns-in-Perform-clause-quiet : goal.returns-in-Perform-clause-quiet
returns-in-Perform-clause-quiet c =
    let q = c.requires.quiet in
    on-ok c.call.result (λ made. (quiet-call c.args.folder.now c.call.new.folder c.args.writer c.in-Perform.op made.0 q made.1).quiet) (c.call.ensures.ok q.trees q.rehearsed)

pub returns-in-Perform-clause-played : goal.returns-in-Perform-clause-played
returns-in-Perform-clause-played c =
    let q = c.requires.quiet in
    on-ok c.call.result (λ made. (quiet-call c.args.folder.now c.call.new.folder c.args.writer c.in-Perform.op made.0 q made.1).played
    ∙ ap (after_line (limits_in c.args.folder.now) c.args.writer (history_in c.args.folder.now)) (sym c.in-Perform.is)) (c.call.ensures.ok q.trees q.rehearsed)

pub returns-in-Perform-clause-epochs : goal.returns-in-Perform-clause-epochs
returns-in-Perform-clause-epochs c =
    let q = c.requires.quiet in
    on-ok c.call.result (λ made. (let same = quiet-epoch c.args.folder.now c.call.new.folder c.args.writer c.in-Perform.op made.0 q made.1 in omega (arith, same))) (c.call.ensures.ok q.trees q.rehearsed)

pub returns-in-Perform-clause-limits : goal.returns-in-Perform-clause-limits
returns-in-Perform-clause-limits c =
    let q = c.requires.quiet in
    on-ok c.call.result (λ made. (quiet-call c.args.folder.now c.call.new.folder c.args.writer c.in-Perform.op made.0 q made.1).limits) (c.call.ensures.ok q.trees q.rehearsed)

pub returns-in-Perform-clause-err : goal.returns-in-Perform-clause-err
returns-in-Perform-clause-err c =
    let limits = limits_in c.args.folder.now in
    let history = history_in c.args.folder.now in
    on-err c.call.result (λ same. subst (λ (h : List Entry). IsPrefix h (after_line limits c.args.writer history c.args.line)) (sym same) (front-line limits c.args.writer history c.args.line)) c.call.ensures.err
