-- the history so far goes on with the writers that are left
use Rattle.std.proofs.Common.{◌≡◌, ◌+◌, ◌≤◌, [], length}
use Rattle.std.specs.List.{fold}
use Rattle.std.specs.Vec.Iter.{into_iter_items, into_iter_len}
use Rattle.vb_hist.specs.Quiet.{after_writer, AreInRange, line_count}
use Rattle.vb_program.specs.Playing.{history_in, last_epoch_in, limits_in, IsQuiet}
use Rattle.vb_program.proofs.quiet.play_scripts.Given as goal

abbrev pub invariant-loop-script : goal.invariant-loop-script
invariant-loop-script l =
    let left = into_iter_items l.script-iterator in
    let limits = limits_in l.fn.folder in
    record {
      quiet : IsQuiet l.folder;
      long : into_iter_len l.script-iterator ≡ length left;
      played : fold (after_writer limits) (history_in l.folder) left ≡ fold (after_writer limits) [] l.fn.scripts;
      range : AreInRange left;
      epochs : last_epoch_in l.folder + line_count left ≤ line_count l.fn.scripts;
      limits : limits_in l.folder ≡ limits_in l.fn.folder;
    }
