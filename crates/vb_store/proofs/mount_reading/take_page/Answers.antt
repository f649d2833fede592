use Rattle.std.proofs.Common.{◌∙◌, sym, subst}
use Rattle.vb_journal.specs.RecoverViews.{page_in}
use Rattle.vb_store.specs.declared.mount_stage.MountStage.{MountStage}
use Rattle.vb_store.specs.MountMoves.{GivesPage}
use Rattle.vb_store.specs.MountStages.{due_place}
use Rattle.vb_store.specs.Readings.{ReadsOn}
use Rattle.vb_store.proofs.mount_reading.take_page.Goals as goal

pub returns-in-ReadHome-clause-list : goal.returns-in-ReadHome-clause-list
returns-in-ReadHome-clause-list c reads gives =
    let took = c.take_home-in-ReadHome in
    let given = subst (λ (s : MountStage). GivesPage reads (due_place s) (page_in c.args.got)) c.in-ReadHome.is gives in
    subst (λ (s : MountStage). ReadsOn reads s took.result.0 took.result.1) (sym c.in-ReadHome.is) (took.ensures.list reads (given ∙ sym c.page_from.ensures))

pub returns-in-ReadMap-clause-list : goal.returns-in-ReadMap-clause-list
returns-in-ReadMap-clause-list c reads gives =
    let took = c.take_map-in-ReadMap in
    let given = subst (λ (s : MountStage). GivesPage reads (due_place s) (page_in c.args.got)) c.in-ReadMap.is gives in
    subst (λ (s : MountStage). ReadsOn reads s took.result.0 took.result.1) (sym c.in-ReadMap.is) (took.ensures.list reads (given ∙ sym c.page_from-in-ReadMap.ensures))
