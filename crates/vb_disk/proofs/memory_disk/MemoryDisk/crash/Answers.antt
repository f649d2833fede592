use Rattle.std.proofs.Common.{ℕ, List, ap, subst, sym, ◌∙◌}
use Rattle.std.specs.List.{All}
use Rattle.vb_block.specs.Pages.{IsPage}
use Rattle.vb_disk.specs.declared.cell.Cell.{Cell}
use Rattle.vb_disk.specs.Cells.{candidates}
use Rattle.vb_disk.specs.Crashes.{MayCrashTo, pick_refusal, tear_at}
use Rattle.vb_disk.specs.Memory.{state_of}
use Rattle.vb_disk.specs.Sparse.{cell_in, cells_of}
use Rattle.vb_disk.proofs.Outcomes.{MayCrashTo-crashed, or_none_from}
use Rattle.vb_disk.proofs.StatesOf.{state_from-crashed}
use Rattle.vb_disk.proofs.StepsOfCrashes.{candidates-with_tear, pick_refusal-same}
use Rattle.vb_disk.proofs.memory_disk.MemoryDisk.crash.Goals as goal

pub pick_all-requires : goal.pick_all-requires
pick_all-requires c =
    let m = c.args.self.now in
    let new = c.tear_all.new.table in
    pick_refusal-same new.size (cells_of m.table.cells) (cells_of new.cells) (λ place. ap candidates (c.tear_all.ensures.torn place) ∙ candidates-with_tear (tear_at place c.args.torn.now) (cell_in m.table.cells place)) c.args.picks.now
    ∙ ap (λ (n : ℕ). pick_refusal n (cells_of m.table.cells) c.args.picks.now) c.tear_all.ensures.size
    ∙ c.in_ok-check_picks.ensures

pub returns-clause-ok : goal.returns-clause-ok
returns-clause-ok c =
    let m = c.args.self.now in
    state_from-crashed m.table.size c.settle.new.self.size m.writes m.resizes m.synced_at c.args.rest c.args.picks.now c.args.torn.now m.table.cells c.tear_all.new.table.cells c.pick_all.new.table.cells c.settle.new.self.cells
    (c.settle.ensures.size ∙ c.pick_all.ensures.size ∙ c.tear_all.ensures.size) c.tear_all.ensures.torn c.pick_all.ensures.picked c.settle.ensures.settled

pub returns-clause-may_come : goal.returns-clause-may_come
returns-clause-may_come c =
    let m = c.args.self.now in
    subst (MayCrashTo (state_of m)) (sym (returns-clause-ok c)) (MayCrashTo-crashed c.args.rest c.args.picks.now c.args.torn.now (state_of m) (subst (λ (all : List (List ℕ)). All IsPage all) c.in_ok-pages.ensures.copied c.in_ok-pages.ensures.pages) (or_none_from (pick_refusal m.table.size (cells_of m.table.cells) c.args.picks.now) _ c.in_ok-check_picks.ensures c.in_ok-check_tears.ensures))

pub invariant_of-self : goal.invariant_of-self
invariant_of-self c = record {
  counted = record {
    covers = c.args.self.now.counted.covers;
    settled = λ all place. ap (λ (cell : Cell). cell.later) (c.settle.ensures.settled place);
  };
}
