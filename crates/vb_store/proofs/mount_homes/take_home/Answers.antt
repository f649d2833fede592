use Rattle.vb_store.specs.MountStages.{IsNoFault}
use Rattle.vb_store.proofs.Damages.{due-differs, node-differs}
use Rattle.vb_store.proofs.PlacesLeft.{reads-stopped-by}
use Rattle.std.proofs.Common.{refl}
use Rattle.vb_store.specs.declared.mount_stage.MountStage.TheVariants.{ReadHome}
use Rattle.vb_store.proofs.MountRests.{due-no_fault, err-at, home-stopped-by}
use Rattle.vb_store.proofs.PassesReads.{passes-home}
use Rattle.vb_store.proofs.mount_homes.take_home.Goals as goal
use Rattle.vb_store.proofs.StagesKept.{home-stays}

pub returns-in-Err-clause-rest : goal.returns-in-Err-clause-rest
returns-in-Err-clause-rest c = λ reads read. home-stopped-by reads c.args.homes c.args.page.now c.in-Err.error c.stopped.result.0 c.deref.result.now c.len-slot.result read c.stopped.ensures.stage c.deref.ensures.value c.len-slot.ensures c.in-Err.ensures.due

pub returns-in-Err-clause-no_fault : goal.returns-in-Err-clause-no_fault
returns-in-Err-clause-no_fault c = err-at IsNoFault c.stopped.result.1 c.in-Err.error c.stopped.ensures.error (due-no_fault _ c.in-Err.error (node-differs _ _ _) c.in-Err.ensures.due)

pub returns-in-Err-clause-list : goal.returns-in-Err-clause-list
returns-in-Err-clause-list c = λ reads read. reads-stopped-by reads _ (ReadHome c.args.homes) (ReadHome c.args.homes) c.stopped.result.0 c.in-Err.error c.stopped.result.1 c.stopped.ensures.error c.stopped.ensures.stage refl

pub stopped-requires : goal.stopped-requires
stopped-requires c = due-differs _ c.in-Err.error (node-differs _ _ _) c.in-Err.ensures.due

pub returns-in-Err-clause-stays : goal.returns-in-Err-clause-stays
returns-in-Err-clause-stays c = home-stays c.args.homes c.args.homes c.stopped.result.0 c.in-Err.error c.stopped.result.1 c.stopped.ensures.error c.stopped.ensures.stage refl refl refl refl

pub returns-in-Ok-clause-passes : goal.returns-in-Ok-clause-passes
returns-in-Ok-clause-passes c = passes-home c.args.homes c.args.page.now c.in-Ok.node c.deref.result.now c.len-slot.result c.take_node.result.1 c.deref.ensures.value c.len-slot.ensures c.in-Ok.ensures.due
