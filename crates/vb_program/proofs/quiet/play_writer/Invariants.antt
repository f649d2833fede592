-- the history so far goes on with the lines that are left
use Rattle.std.proofs.Common.{◌≡◌, ◌+◌, ◌≤◌, length}
use Rattle.std.specs.List.{fold, AllByRecursion}
use Rattle.std.specs.Vec.Iter.{into_iter_items, into_iter_len}
use Rattle.vb_hist.specs.Quiet.{after_line, IsLineInRange}
use Rattle.vb_program.specs.Playing.{history_in, last_epoch_in, limits_in, IsQuiet}
use Rattle.vb_program.proofs.quiet.play_writer.Given as goal

abbrev pub invariant-loop-line : goal.invariant-loop-line
invariant-loop-line l =
    let left = into_iter_items l.line-iterator in
    let limits = limits_in l.fn.folder in
    record {
      quiet : IsQuiet l.folder;
      long : into_iter_len l.line-iterator ≡ length left;
      played : fold (after_line limits l.fn.script.writer) (history_in l.folder) left ≡ fold (after_line limits l.fn.script.writer) (history_in l.fn.folder) l.fn.script.lines;
      range : AllByRecursion IsLineInRange left;
      epochs : last_epoch_in l.folder + length left ≤ last_epoch_in l.fn.folder + length l.fn.script.lines;
      limits : limits_in l.folder ≡ limits_in l.fn.folder;
    }
