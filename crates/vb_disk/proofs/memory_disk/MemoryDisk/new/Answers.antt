use Rattle.std.proofs.Common.{ap, arith, refl}
use Rattle.vb_disk.specs.declared.cell.Cell.{Cell}
use Rattle.vb_disk.specs.States.{new_state}
use Rattle.vb_disk.specs.Sparse.{state_from}
use Rattle.vb_disk.proofs.StatesOf.{same_state}
use Rattle.vb_disk.proofs.memory_disk.MemoryDisk.new.Goals as goal

pub invariant_of-result : goal.invariant_of-result
invariant_of-result c = record {
  counted = record { covers = omega arith; settled = λ all place. ap (λ (cell : Cell). cell.later) (c.new.ensures.blank place) };
}

pub returns-clause-state : goal.returns-clause-state
returns-clause-state c =
    same_state (state_from c.new.result.size c.new.result.cells 0 0 0) (new_state c.args.blocks) c.new.ensures.size c.new.ensures.blank refl refl refl
