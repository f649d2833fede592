use Rattle.std.proofs.Common.{◌≡◌, ◌+◌, ◌++◌, ◌∷◌, [], List, length, Some, sym, ap, subst, ◌∙◌}
use Rattle.vb_inode.specs.declared.node.Node.{Node}
use Rattle.vb_store.specs.declared.mount_stage.MountStage.TheVariants.{ReadHome}
use Rattle.std.proofs.lemmas.Result.{IfErr-weaker}
use Rattle.vb_store.specs.MountStages.{IsNoFault, StandsAfter}
use Rattle.vb_store.specs.NodesRead.{AreRead}
use Rattle.vb_store.proofs.Surveyed.{read-one}
use Rattle.vb_store.proofs.Damages.{due-differs, table-differs}
use Rattle.vb_store.proofs.PlacesLeft.{list-ok, ends_at, places-like, places-survey, reads-on, reads-stopped-by}
use Rattle.vb_store.specs.MountStages.{HasEnded}
use Rattle.vb_store.proofs.MountRests.{due-no_fault, ends-no_fault, err-at, on_ok, rest-survey, stands_after_like, survey-stopped}
use Rattle.vb_store.proofs.mount_homes.take_last.Goals as goal
use Rattle.vb_store.proofs.StagesKept.{ended-stays, home-stays}
use Rattle.vb_store.proofs.ReadsFalling.{few-maps, on-falls}

pub survey_of-requires-clause-read : goal.survey_of-requires-clause-read
survey_of-requires-clause-read c =
    let h = c.args.homes in
    let all : c.slice.result.now ≡ h.nodes ++ c.args.node ∷ [] = c.slice.ensures ∙ on_ok _ c.add.result c.if-is_err.ensures.value c.add.ensures.ok in
    subst (AreRead h.head.nodes) (sym all) (read-one h.head.nodes h.nodes c.args.node h.read c.requires.of_store c.requires.own_slot)

pub without_last-homes-requires-clause-read : goal.without_last-homes-requires-clause-read
without_last-homes-requires-clause-read c =
    let h = c.args.homes in
    subst (AreRead h.head.nodes) (sym (on_ok _ c.add.result c.if-is_err.ensures.value c.add.ensures.ok)) (read-one h.head.nodes h.nodes c.args.node h.read c.requires.of_store c.requires.own_slot)

pub returns-in-Ok-clause-rest : goal.returns-in-Ok-clause-rest
returns-in-Ok-clause-rest c =
    let h = c.args.homes in
    let all : c.slice.result.now ≡ h.nodes ++ c.args.node ∷ [] = c.slice.ensures ∙ on_ok _ c.add.result c.if-is_err.ensures.value c.add.ensures.ok in
    let e = c.in-Ok.ensures in
    λ reads read. c.go_on.ensures.rest reads
    ∙ rest-survey reads h c.args.node c.deref.result.now c.slice.result.now c.in-Ok.survey.index c.in-Ok.survey.claims c.in-Ok.survey.maps.items read c.requires.last c.deref.ensures.value all e.index e.claims e.maps

pub returns-in-Err-clause-rest : goal.returns-in-Err-clause-rest
returns-in-Err-clause-rest c =
    let h = c.args.homes in
    let added : c.add.new.self ≡ h.nodes ++ c.args.node ∷ [] = on_ok _ c.add.result c.if-is_err.ensures.value c.add.ensures.ok in
    let w = c.without_last-homes.ensures in
    λ reads read. survey-stopped reads h c.without_last-homes.result c.args.node c.deref.result.now c.slice.result.now c.in-Err.error c.stopped.result.0 read c.requires.last c.deref.ensures.value (c.slice.ensures ∙ added)
    w.head w.place w.slots (w.nodes h.nodes c.args.node added) c.stopped.ensures.stage c.in-Err.ensures

pub returns-in-Err-clause-error : goal.returns-in-Err-clause-error
returns-in-Err-clause-error c =
    let h = c.args.homes in
    let added : c.add.new.self ≡ h.nodes ++ c.args.node ∷ [] = on_ok _ c.add.result c.if-is_err.ensures.value c.add.ensures.ok in
    let like = ap (λ (l : List Node). Some (2 + length l)) (c.without_last-homes.ensures.nodes h.nodes c.args.node added) in
    err-at (StandsAfter (ReadHome h) c.stopped.result.0) c.stopped.result.1 c.in-Err.error c.stopped.ensures.error
    (stands_after_like (ReadHome h) (ReadHome c.without_last-homes.result) c.stopped.result.0 c.in-Err.error like c.stopped.ensures.stage)

pub returns-in-Err-clause-no_fault : goal.returns-in-Err-clause-no_fault
returns-in-Err-clause-no_fault c = err-at IsNoFault c.stopped.result.1 c.in-Err.error c.stopped.ensures.error (due-no_fault _ c.in-Err.error (table-differs _ _ _) c.in-Err.ensures)

pub returns-in-Ok-clause-no_fault : goal.returns-in-Ok-clause-no_fault
returns-in-Ok-clause-no_fault c = IfErr-weaker c.go_on.result.1 _ IsNoFault (λ error is. ends-no_fault c.go_on.result.0 error is.0) c.go_on.ensures.error

pub stopped-requires : goal.stopped-requires
stopped-requires c = due-differs _ c.in-Err.error (table-differs _ _ _) c.in-Err.ensures

pub returns-in-Err-clause-list : goal.returns-in-Err-clause-list
returns-in-Err-clause-list c =
    let h = c.args.homes in
    let added : c.add.new.self ≡ h.nodes ++ c.args.node ∷ [] = on_ok _ c.add.result c.if-is_err.ensures.value c.add.ensures.ok in
    let w = c.without_last-homes.ensures in
    λ reads read. reads-stopped-by reads _ (ReadHome h) (ReadHome c.without_last-homes.result) c.stopped.result.0 c.in-Err.error c.stopped.result.1 c.stopped.ensures.error c.stopped.ensures.stage
    (places-like reads h c.without_last-homes.result w.head w.slots (w.nodes h.nodes c.args.node added))

pub returns-in-Ok-clause-list : goal.returns-in-Ok-clause-list
returns-in-Ok-clause-list c =
    let h = c.args.homes in
    let all : c.slice.result.now ≡ h.nodes ++ c.args.node ∷ [] = c.slice.ensures ∙ on_ok _ c.add.result c.if-is_err.ensures.value c.add.ensures.ok in
    let e = c.in-Ok.ensures in
    λ reads read. reads-on reads (2 + length h.nodes) (ReadHome h) c.go_on.result.0 c.go_on.result.1 (ends_at (HasEnded c.go_on.result.0) c.go_on.result.1 c.go_on.ensures.error)
    (list-ok reads (2 + length h.nodes) (ReadHome h) c.go_on.result.0 c.in-Ok.survey.maps.items c.go_on.result.1 (places-survey reads h c.args.node c.slice.result.now _ _ c.in-Ok.survey.index c.in-Ok.survey.maps.items read c.requires.last all e.index e.maps) c.go_on.ensures.list)

pub returns-in-Err-clause-stays : goal.returns-in-Err-clause-stays
returns-in-Err-clause-stays c =
    let h = c.args.homes in
    let added : c.add.new.self ≡ h.nodes ++ c.args.node ∷ [] = on_ok _ c.add.result c.if-is_err.ensures.value c.add.ensures.ok in
    let w = c.without_last-homes.ensures in
    home-stays h c.without_last-homes.result c.stopped.result.0 c.in-Err.error c.stopped.result.1 c.stopped.ensures.error c.stopped.ensures.stage w.head w.place w.slots (w.nodes h.nodes c.args.node added)

pub returns-in-Ok-clause-stays : goal.returns-in-Ok-clause-stays
returns-in-Ok-clause-stays c = ended-stays (ReadHome c.args.homes) c.go_on.result.0 c.go_on.result.1 c.go_on.ensures.error

pub returns-in-Ok-clause-falls : goal.returns-in-Ok-clause-falls
returns-in-Ok-clause-falls c =
    let h = c.args.homes in
    let e = c.in-Ok.ensures in
    on-falls h (length c.in-Ok.survey.maps.items) c.go_on.result.0 c.go_on.result.1 c.requires.last (few-maps h.head c.in-Ok.survey.index c.in-Ok.survey.maps.items e.of_head e.maps) c.go_on.ensures.maps
