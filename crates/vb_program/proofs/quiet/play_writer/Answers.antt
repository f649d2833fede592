use Rattle.std.proofs.Common.{◌≡◌, ◌+◌, ◌<◌, ◌≤◌, [], ◌∷◌, ◌++◌, List, length, refl, sym, ap, subst, ◌∙◌, rules, arith}
use Rattle.vb_event.specs.Core.{Core}
use Rattle.vb_hist.specs.declared.entry.Entry.TheVariants.{End}
use mathlib.Core.List.{IsPrefix}
use Rattle.std.proofs.lemmas.Result.{err_from_is_err_and}
use Rattle.std.specs.List.{fold, AllByRecursion}
use Rattle.std.specs.Vec.{vec_len}
use Rattle.std.specs.Vec.Iter.{into_iter_items}
use Rattle.vb_hist.specs.Quiet.{after_line, after_writer, IsLineInRange}
use Rattle.vb_hist.specs.declared.entry.Entry.{Entry}
use Rattle.vb_program.specs.Playing.{history_in, last_epoch_in, limits_in}
use Rattle.vb_program.proofs.Fronts.{front-trans, front-lines, front-end, front-through_lines}
use Rattle.vb_program.proofs.Loops.{no-items, on-err, on-ok}
use Rattle.vb_program.proofs.QuietSteps.{quiet-end}
use Rattle.vb_program.proofs.quiet.play_writer.Goals as goal

-- src/quiet.rt:110:5
pub loop-line-init : goal.loop-line-init
loop-line-init c =
    let gives = c.into_iter-line-iterator.ensures.into_iter_gives in
    let held : vec_len c.into_vec-line-items.result ≡ length c.into_vec-line-items.result.items = search rules in
    let items : into_iter_items c.into_iter-line-iterator.result ≡ c.args.script.lines = c.into_iter-line-iterator.ensures.into_iter_gives.0 ∙ c.into_vec-line-items.ensures in
    let counted = ap length items in
    record {
      quiet = c.requires.quiet;
      long = gives.1 ∙ held ∙ sym (ap length gives.0);
      played = ap (fold (after_line (limits_in c.args.folder.now) c.args.script.writer) (history_in c.args.folder.now)) items;
      range = subst (AllByRecursion IsLineInRange) (sym items) c.requires.range;
      epochs = omega (arith, counted);
      limits = refl;
    }

-- src/quiet.rt:111:9
pub play_line-requires-clause-quiet : goal.play_line-requires-clause-quiet
play_line-requires-clause-quiet c = c.loop-line.invariant.quiet

-- src/quiet.rt:111:9
pub play_line-requires-clause-epochs : goal.play_line-requires-clause-epochs
play_line-requires-clause-epochs c =
    let items : into_iter_items c.loop-line.line-iterator ≡ c.in-Some.line ∷ into_iter_items c.next.new.self = search rules in
    let counted = ap length items in
    let so_far = c.loop-line.invariant.epochs in
    let early = c.requires.epochs in
    omega (arith, counted, so_far, early)

-- src/quiet.rt:110:5
pub loop-line-preserved : goal.loop-line-preserved
loop-line-preserved c =
    let items : into_iter_items c.loop-line.line-iterator ≡ c.in-Some.line ∷ into_iter_items c.next.new.self = search rules in
    let counted = ap length items in
    let so_far = c.loop-line.invariant.epochs in
    let early = c.requires.epochs in
    let limits = limits_in c.args.folder.now in
    let f = after_line limits c.args.script.writer in
    let now = history_in c.loop-line.folder in
    let left = into_iter_items c.next.new.self in
    let epoch = c.in_ok-play_line.ensures.epochs in
    let many = ap length items in
    let one = c.in-Some.ensures.steps.1 in
    let long = c.loop-line.invariant.long in
    record {
      quiet = c.in_ok-play_line.ensures.quiet;
      long = omega (arith, many, one, long);
      played = ap (λ (h : List Entry). fold f h left) (c.in_ok-play_line.ensures.played ∙ ap (λ l. after_line l c.args.script.writer now c.in-Some.line) c.loop-line.invariant.limits)
          ∙ sym (ap (fold f now) items) ∙ c.loop-line.invariant.played;
      range = (subst (AllByRecursion IsLineInRange) items c.loop-line.invariant.range).1;
      epochs = omega (arith, counted, so_far, epoch);
      limits = c.in_ok-play_line.ensures.limits ∙ c.loop-line.invariant.limits;
    }

-- src/quiet.rt:111:9
pub returns-in_err-play_line-clause-err : goal.returns-in_err-play_line-clause-err
returns-in_err-play_line-clause-err c =
    let p = err_from_is_err_and c.from_residual.result c.from_residual.ensures.1 in
    let items : into_iter_items c.loop-line.line-iterator ≡ c.in-Some.line ∷ into_iter_items c.next.new.self = search rules in
    let front = rw c.loop-line.invariant.limits at c.in_err-play_line.ensures.err in
    rw p.1
    (front-through_lines (limits_in c.args.folder.now) (history_in c.args.folder.now) (history_in c.loop-line.folder) (history_in c.play_line.new.folder) c.args.script c.in-Some.line
    (into_iter_items c.loop-line.line-iterator) (into_iter_items c.next.new.self) front items c.loop-line.invariant.played)

-- src/quiet.rt:113:5
pub end-requires : goal.end-requires
end-requires c = record { rehearsed = (c.loop-line.invariant.quiet.trees, c.loop-line.invariant.quiet.rehearsed) }

-- src/quiet.rt:95:1
pub returns-clause-quiet : goal.returns-clause-quiet
returns-clause-quiet c =
    let q = c.loop-line.invariant.quiet in
    on-ok c.end.result (λ made. (quiet-end c.loop-line.folder c.end.new.folder c.args.script.writer q made).quiet) (c.end.ensures.ok q.trees q.rehearsed)

-- src/quiet.rt:95:1
pub returns-clause-played : goal.returns-clause-played
returns-clause-played c =
    let q = c.loop-line.invariant.quiet in
    let f = after_line (limits_in c.args.folder.now) c.args.script.writer in
    let ended : into_iter_items c.loop-line.line-iterator ≡ [] = no-items (into_iter_items c.loop-line.line-iterator) (sym c.loop-line.invariant.long ∙ c.in-None.ensures.steps.0) in
    let now : history_in c.loop-line.folder ≡ fold f (history_in c.args.folder.now) c.args.script.lines = sym (ap (fold f (history_in c.loop-line.folder)) ended) ∙ c.loop-line.invariant.played in
    on-ok c.end.result (λ made. (quiet-end c.loop-line.folder c.end.new.folder c.args.script.writer q made).played ∙ ap (λ (h : List Entry). h ++ End c.args.script.writer ∷ []) now) (c.end.ensures.ok q.trees q.rehearsed)

-- src/quiet.rt:95:1
pub returns-clause-epochs : goal.returns-clause-epochs
returns-clause-epochs c =
    let q = c.loop-line.invariant.quiet in
    let so_far = c.loop-line.invariant.epochs in
    on-ok c.end.result (λ made. (let same : last_epoch_in c.end.new.folder ≡ last_epoch_in c.loop-line.folder = ap (λ (k : Core). k.epoch) made.core in omega (arith, same, so_far))) (c.end.ensures.ok q.trees q.rehearsed)

-- src/quiet.rt:95:1
pub returns-clause-limits : goal.returns-clause-limits
returns-clause-limits c =
    let q = c.loop-line.invariant.quiet in
    on-ok c.end.result (λ made. (quiet-end c.loop-line.folder c.end.new.folder c.args.script.writer q made).limits ∙ c.loop-line.invariant.limits) (c.end.ensures.ok q.trees q.rehearsed)

-- src/quiet.rt:95:1
pub returns-clause-err : goal.returns-clause-err
returns-clause-err c =
    let limits = limits_in c.args.folder.now in
    let history = history_in c.args.folder.now in
    let script = c.args.script in
    let now = history_in c.loop-line.folder in
    let left = into_iter_items c.loop-line.line-iterator in
    let P : List Entry → Type 0 = λ h. IsPrefix h (after_writer limits history script) in
    let Q : List Entry → Type 0 = λ h. IsPrefix now h in
    let lines = fold (after_line limits script.writer) history script.lines in
    let front = front-trans now lines (after_writer limits history script)
    (subst Q c.loop-line.invariant.played (front-lines limits script.writer now left)) (front-end limits history script) in
    on-err c.end.result (λ same. subst P (sym same) front) c.end.ensures.err
