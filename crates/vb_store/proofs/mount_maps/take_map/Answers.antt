use Rattle.std.proofs.Common.{ap, ◌∙◌}
use Rattle.std.proofs.lemmas.Result.{IfErr-weaker}
use Rattle.vb_store.specs.Metadata.{map_checked}
use Rattle.vb_store.specs.MountStages.{IsNoFault}
use Rattle.vb_store.proofs.Damages.{due-differs, map-differs}
use Rattle.vb_store.proofs.PlacesLeft.{reads-stopped-by}
use Rattle.vb_store.specs.declared.mount_stage.MountStage.TheVariants.{ReadMap}
use Rattle.std.proofs.Common.{refl}
use Rattle.vb_store.proofs.MountRests.{due-no_fault, ends-no_fault, err-at, map-stopped}
use Rattle.vb_store.proofs.PassesReads.{passes-map}
use Rattle.vb_store.proofs.mount_maps.take_map.Goals as goal
use Rattle.vb_store.proofs.StagesKept.{ended-stays, map-stays}

pub returns-in-Ok-clause-rest : goal.returns-in-Ok-clause-rest
returns-in-Ok-clause-rest c = λ reads read. c.take_refs.ensures.rest reads (ap (map_checked c.args.claimed.map) read ∙ c.in-Ok.ensures.due)

pub returns-in-Err-clause-rest : goal.returns-in-Err-clause-rest
returns-in-Err-clause-rest c = λ reads read. map-stopped reads c.args.claimed c.args.page.now c.in-Err.error _ read c.stopped.ensures.stage c.in-Err.ensures.due

pub returns-in-Err-clause-no_fault : goal.returns-in-Err-clause-no_fault
returns-in-Err-clause-no_fault c = err-at IsNoFault c.stopped.result.1 c.in-Err.error c.stopped.ensures.error (due-no_fault _ c.in-Err.error (map-differs c.args.claimed.map c.args.page.now) c.in-Err.ensures.due)

pub returns-in-Ok-clause-no_fault : goal.returns-in-Ok-clause-no_fault
returns-in-Ok-clause-no_fault c = IfErr-weaker c.take_refs.result.1 _ IsNoFault (λ error is. ends-no_fault c.take_refs.result.0 error is.0) c.take_refs.ensures.error

pub returns-in-Err-clause-list : goal.returns-in-Err-clause-list
returns-in-Err-clause-list c = λ reads read. reads-stopped-by reads _ (ReadMap c.args.claimed) (ReadMap c.args.claimed) c.stopped.result.0 c.in-Err.error c.stopped.result.1 c.stopped.ensures.error c.stopped.ensures.stage refl

pub stopped-requires : goal.stopped-requires
stopped-requires c = due-differs _ c.in-Err.error (map-differs c.args.claimed.map c.args.page.now) c.in-Err.ensures.due

pub returns-in-Ok-clause-list : goal.returns-in-Ok-clause-list
returns-in-Ok-clause-list c = λ reads read. c.take_refs.ensures.list reads

pub returns-in-Err-clause-stays : goal.returns-in-Err-clause-stays
returns-in-Err-clause-stays c = map-stays c.args.claimed c.stopped.result.0 c.in-Err.error c.stopped.result.1 c.stopped.ensures.error c.stopped.ensures.stage

pub returns-in-Ok-clause-stays : goal.returns-in-Ok-clause-stays
returns-in-Ok-clause-stays c = ended-stays (ReadMap c.args.claimed) c.take_refs.result.0 c.take_refs.result.1 c.take_refs.ensures.error

pub returns-in-Ok-clause-passes : goal.returns-in-Ok-clause-passes
returns-in-Ok-clause-passes c = passes-map c.args.claimed c.args.page.now c.in-Ok.refs c.take_refs.result.1 c.in-Ok.ensures.due
