use Rattle.std.proofs.Common.{◌≡◌, ◌+◌, [], ◌∷◌, List, length, refl, sym, ap, subst, ◌∙◌, rules, arith}
use mathlib.Core.List.{IsPrefix}
use Rattle.std.proofs.lemmas.List.Sums.{sum_by-cons}
use Rattle.std.specs.List.{fold}
use Rattle.vb_hist.specs.declared.script.WriterScript.{WriterScript}
use Rattle.vb_hist.specs.Quiet.{after_writer, last_epoch_of, line_count, with_last_freeze, AreInRange}
use Rattle.vb_hist.specs.declared.entry.Entry.{Entry}
use Rattle.std.proofs.lemmas.Result.{err_from_is_err_and}
use Rattle.std.specs.Vec.{vec_len}
use Rattle.std.specs.Vec.Iter.{into_iter_items}
use Rattle.vb_program.specs.Playing.{history_in, last_epoch_in, limits_in}
use Rattle.vb_program.proofs.Loops.{no-items}
use Rattle.vb_program.proofs.Fronts.{front-through_writers, frozen-last, unfrozen-last}
use Rattle.vb_program.proofs.quiet.play_scripts.Goals as goal

-- src/quiet.rt:131:5
pub loop-script-init : goal.loop-script-init
loop-script-init c =
    let gives = c.into_iter-script-iterator.ensures.into_iter_gives in
    let held : vec_len c.into_vec-script-items.result ≡ length c.into_vec-script-items.result.items = search rules in
    let items : into_iter_items c.into_iter-script-iterator.result ≡ c.args.scripts = c.into_iter-script-iterator.ensures.into_iter_gives.0 ∙ c.into_vec-script-items.ensures in
    let counted = ap line_count items in
    let f = after_writer (limits_in c.args.folder.now) in
    let zero : last_epoch_in c.args.folder.now ≡ 0 = c.requires.quiet.last ∙ ap last_epoch_of c.requires.new in
    record {
      quiet = c.requires.quiet;
      long = gives.1 ∙ held ∙ sym (ap length gives.0);
      played = ap (fold f (history_in c.args.folder.now)) items ∙ ap (λ (h : List Entry). fold f h c.args.scripts) c.requires.new;
      range = subst AreInRange (sym items) c.requires.range;
      epochs = omega (arith, counted, zero);
      limits = refl;
    }

-- src/quiet.rt:132:9
pub play_writer-requires-clause-quiet : goal.play_writer-requires-clause-quiet
play_writer-requires-clause-quiet c = c.loop-script.invariant.quiet

-- src/quiet.rt:132:9
pub play_writer-requires-clause-epochs : goal.play_writer-requires-clause-epochs
play_writer-requires-clause-epochs c =
    let items : into_iter_items c.loop-script.script-iterator ≡ c.in-Some.script ∷ into_iter_items c.next.new.self = search rules in
    let counted : line_count (into_iter_items c.loop-script.script-iterator) ≡ length c.in-Some.script.lines + line_count (into_iter_items c.next.new.self) = ap line_count items ∙ sum_by-cons (λ (script : WriterScript). length script.lines) c.in-Some.script (into_iter_items c.next.new.self) in
    let so_far = c.loop-script.invariant.epochs in
    let early = c.requires.epochs in
    omega (arith, counted, so_far, early)

-- src/quiet.rt:131:5
pub loop-script-preserved : goal.loop-script-preserved
loop-script-preserved c =
    let items : into_iter_items c.loop-script.script-iterator ≡ c.in-Some.script ∷ into_iter_items c.next.new.self = search rules in
    let counted : line_count (into_iter_items c.loop-script.script-iterator) ≡ length c.in-Some.script.lines + line_count (into_iter_items c.next.new.self) = ap line_count items ∙ sum_by-cons (λ (script : WriterScript). length script.lines) c.in-Some.script (into_iter_items c.next.new.self) in
    let so_far = c.loop-script.invariant.epochs in
    let early = c.requires.epochs in
    let limits = limits_in c.args.folder.now in
    let f = after_writer limits in
    let now = history_in c.loop-script.folder in
    let left = into_iter_items c.next.new.self in
    let epoch = c.in_ok-play_writer.ensures.epochs in
    let many = ap length items in
    let one = c.in-Some.ensures.steps.1 in
    let long = c.loop-script.invariant.long in
    record {
      quiet = c.in_ok-play_writer.ensures.quiet;
      long = omega (arith, many, one, long);
      played = ap (λ (h : List Entry). fold f h left) (c.in_ok-play_writer.ensures.played ∙ ap (λ l. after_writer l now c.in-Some.script) c.loop-script.invariant.limits)
          ∙ sym (ap (fold f now) items) ∙ c.loop-script.invariant.played;
      range = (subst AreInRange items c.loop-script.invariant.range).1;
      epochs = omega (arith, counted, so_far, epoch);
      limits = c.in_ok-play_writer.ensures.limits ∙ c.loop-script.invariant.limits;
    }

-- src/quiet.rt:132:9
pub returns-in_err-play_writer-clause-err : goal.returns-in_err-play_writer-clause-err
returns-in_err-play_writer-clause-err c =
    let p = err_from_is_err_and c.from_residual.result c.from_residual.ensures.1 in
    let items : into_iter_items c.loop-script.script-iterator ≡ c.in-Some.script ∷ into_iter_items c.next.new.self = search rules in
    let front = rw c.loop-script.invariant.limits at c.in_err-play_writer.ensures.err in
    rw p.1
    (front-through_writers (limits_in c.args.folder.now) (history_in c.loop-script.folder) (history_in c.play_writer.new.folder) c.in-Some.script c.args.scripts
    (into_iter_items c.loop-script.script-iterator) (into_iter_items c.next.new.self) front items c.loop-script.invariant.played)

-- src/quiet.rt:135:9
pub freeze_and_publish-requires-clause-quiet : goal.freeze_and_publish-requires-clause-quiet
freeze_and_publish-requires-clause-quiet c = c.loop-script.invariant.quiet

-- src/quiet.rt:135:9
pub freeze_and_publish-requires-clause-epochs : goal.freeze_and_publish-requires-clause-epochs
freeze_and_publish-requires-clause-epochs c =
    let so_far = c.loop-script.invariant.epochs in
    let early = c.requires.epochs in
    omega (arith, so_far, early)

-- src/quiet.rt:135:9
pub returns-in_err-freeze_and_publish-clause-err :
    goal.returns-in_err-freeze_and_publish-clause-err
returns-in_err-freeze_and_publish-clause-err c =
    let p = err_from_is_err_and c.from_residual-in_err-freeze_and_publish.result c.from_residual-in_err-freeze_and_publish.ensures.1 in
    let f = after_writer (limits_in c.args.folder.now) in
    let h = history_in c.loop-script.folder in
    let ended : into_iter_items c.loop-script.script-iterator ≡ [] = no-items (into_iter_items c.loop-script.script-iterator) (sym c.loop-script.invariant.long ∙ c.in-None.ensures.steps.0) in
    let now : h ≡ fold f [] c.args.scripts = sym (ap (fold f h) ended) ∙ c.loop-script.invariant.played in
    let told = rw (c.entries.ensures, c.history.ensures) at c.has_changed.ensures in
    let whole = sym (frozen-last h (sym told ∙ c.if-has_changed.true)) ∙ ap with_last_freeze now in
    rw p.1 (subst (λ (run : List Entry). IsPrefix (history_in c.freeze_and_publish.new.folder) run) whole c.in_err-freeze_and_publish.ensures.err)

-- src/quiet.rt:117:1
pub returns-in_ok-freeze_and_publish-clause-played :
    goal.returns-in_ok-freeze_and_publish-clause-played
returns-in_ok-freeze_and_publish-clause-played c =
    let f = after_writer (limits_in c.args.folder.now) in
    let h = history_in c.loop-script.folder in
    let ended : into_iter_items c.loop-script.script-iterator ≡ [] = no-items (into_iter_items c.loop-script.script-iterator) (sym c.loop-script.invariant.long ∙ c.in-None.ensures.steps.0) in
    let now : h ≡ fold f [] c.args.scripts = sym (ap (fold f h) ended) ∙ c.loop-script.invariant.played in
    let told = rw (c.entries.ensures, c.history.ensures) at c.has_changed.ensures in
    c.in_ok-freeze_and_publish.ensures.played ∙ sym (frozen-last h (sym told ∙ c.if-has_changed.true)) ∙ ap with_last_freeze now

-- src/quiet.rt:117:1
pub returns-else-has_changed-clause-quiet : goal.returns-else-has_changed-clause-quiet
returns-else-has_changed-clause-quiet c = c.loop-script.invariant.quiet

-- src/quiet.rt:117:1
pub returns-else-has_changed-clause-played : goal.returns-else-has_changed-clause-played
returns-else-has_changed-clause-played c =
    let f = after_writer (limits_in c.args.folder.now) in
    let h = history_in c.loop-script.folder in
    let ended : into_iter_items c.loop-script.script-iterator ≡ [] = no-items (into_iter_items c.loop-script.script-iterator) (sym c.loop-script.invariant.long ∙ c.in-None.ensures.steps.0) in
    let now : h ≡ fold f [] c.args.scripts = sym (ap (fold f h) ended) ∙ c.loop-script.invariant.played in
    let told = rw (c.entries.ensures, c.history.ensures) at c.has_changed.ensures in
    sym (unfrozen-last h (sym told ∙ c.if-has_changed.false)) ∙ ap with_last_freeze now
