use Rattle.std.proofs.Common.{arith}
use Rattle.vb_disk.specs.States.{after_calls}
use Rattle.vb_store.specs.Formats.{format_calls}
use Rattle.vb_store.proofs.EmptyRecovered.{IsClear-empty}
use Rattle.vb_store.proofs.EmptyStores.{IsAtRest-empty, IsMadeEmpty-stands}
use Rattle.vb_store.proofs.MadeEmpty.{IsMadeEmpty-format}
use Rattle.vb_store.proofs.empty_stores.a_format_leaves_an_empty_store.Goals as goal

pub returns-clause-leaves : goal.returns-clause-leaves
returns-clause-leaves c id blocks nodes d can = IsMadeEmpty-format id blocks nodes d (omega arith)

pub returns-clause-stands : goal.returns-clause-stands
returns-clause-stands c id blocks nodes d new can crash =
    IsMadeEmpty-stands id blocks nodes d (after_calls d (format_calls id blocks nodes)) new (IsMadeEmpty-format id blocks nodes d (omega arith)) crash

pub returns-clause-at_rest : goal.returns-clause-at_rest
returns-clause-at_rest c id blocks nodes d can long =
    IsAtRest-empty id blocks nodes d (after_calls d (format_calls id blocks nodes)) can long (IsMadeEmpty-format id blocks nodes d (omega arith))

pub returns-clause-clear : goal.returns-clause-clear
returns-clause-clear c id blocks nodes d can long =
    let made = IsMadeEmpty-format id blocks nodes d (omega arith) in
    IsClear-empty id blocks nodes (after_calls d (format_calls id blocks nodes)) can long made.store
