use Rattle.std.proofs.Common.{drop, sym, ap, subst, ◌∙◌, arith}
use Rattle.std.specs.List.{All}
use Rattle.std.proofs.lemmas.List.Elements.{All-weaker}
use Rattle.vb_store.specs.Maps.{IsOfFile}
use Rattle.vb_store.specs.Metadata.{all_claimed_by, with_refs_at}
use Rattle.vb_store.specs.MountStages.{rest_of}
use Rattle.vb_store.proofs.FilesKept.{IsOfFile-with_refs_at}
use Rattle.std.proofs.Common.{refl}
use Rattle.vb_store.specs.MountStages.{HasEnded}
use Rattle.vb_store.specs.declared.mount_stage.MountStage.TheVariants.{ReadMap}
use Rattle.vb_store.proofs.PlacesLeft.{list-ok, ends_at, reads-on}
use Rattle.vb_store.proofs.MountRests.{rest-off-by, rest-taken-by}
use Rattle.vb_store.proofs.Namings.{AreBlanksNamed-read, AreNamedOnce-read}
use Rattle.vb_store.proofs.NamingsEnded.{IsIndexOf-set}
use Rattle.vb_store.proofs.mount_maps.take_refs.Goals as goal
use Rattle.vb_store.proofs.ReadsFalling.{on-maps}

pub invariant_of-tree-clause-files : goal.invariant_of-tree-clause-files
invariant_of-tree-clause-files c =
    let t = c.args.claimed.tree in
    let m = c.args.claimed.map in
    let kept = All-weaker (IsOfFile t.index.nodes) (IsOfFile (with_refs_at t.index.nodes m.slot m.first c.slice-in-Ok.result.now)) (λ x is. IsOfFile-with_refs_at c.slice-in-Ok.result.now t.index.nodes m.slot m.first x is) t.maps.items t.files in
    subst (λ nodes. All (IsOfFile nodes) t.maps.items) (sym c.set_refs.ensures.nodes) kept

pub returns-in-Ok-clause-rest : goal.returns-in-Ok-clause-rest
returns-in-Ok-clause-rest c =
    let t = c.args.claimed.tree in
    λ reads checked. c.go_on.ensures.rest reads
    ∙ rest-taken-by reads t.head t.slots.items c.args.claimed.map _ t.index.nodes c.set_refs.new.index.nodes t.claims c.claim_all.new.claims c.args.refs.now c.slice.result.now c.slice-in-Ok.result.now c.slice.ensures c.slice-in-Ok.ensures checked c.in-Ok.ensures.claimed c.set_refs.ensures.nodes

pub returns-in-Err-clause-rest : goal.returns-in-Err-clause-rest
returns-in-Err-clause-rest c =
    let t = c.args.claimed.tree in
    λ reads checked. ap (rest_of reads) c.refused.ensures.stage
    ∙ sym (rest-off-by reads t.head t.slots.items c.args.claimed.map _ t.index.nodes t.claims c.args.refs.now c.slice.result.now _ c.slice.ensures checked c.in-Err.ensures.claimed)

pub returns-in-Ok-clause-list : goal.returns-in-Ok-clause-list
returns-in-Ok-clause-list c =
    let m = c.args.claimed in
    λ reads. reads-on reads _ (ReadMap m) c.go_on.result.0 c.go_on.result.1 (ends_at (HasEnded c.go_on.result.0) c.go_on.result.1 c.go_on.ensures.error)
    (list-ok reads _ (ReadMap m) c.go_on.result.0 _ c.go_on.result.1 refl c.go_on.ensures.list)

pub invariant_of-tree-clause-of_head : goal.invariant_of-tree-clause-of_head
invariant_of-tree-clause-of_head c =
    let t = c.args.claimed.tree in
    let m = c.args.claimed.map in
    IsIndexOf-set t.head t.index c.set_refs.new.index m.slot m.first c.slice-in-Ok.result.now t.of_head c.set_refs.ensures.limits c.set_refs.ensures.nodes

pub invariant_of-tree-clause-once : goal.invariant_of-tree-clause-once
invariant_of-tree-clause-once c =
    let t = c.args.claimed.tree in
    let m = c.args.claimed.map in
    AreNamedOnce-read t.index.nodes c.set_refs.new.index.nodes m.slot m.first m.reference.place c.args.refs.now t.claims c.claim_all.new.claims (drop t.next t.maps.items) t.once
    (ap (all_claimed_by m.reference.place t.claims) (sym c.slice.ensures) ∙ c.in-Ok.ensures.claimed)
    (c.set_refs.ensures.nodes ∙ ap (with_refs_at t.index.nodes m.slot m.first) c.slice-in-Ok.ensures)

pub go_on-requires-clause-blanks : goal.go_on-requires-clause-blanks
go_on-requires-clause-blanks c =
    let t = c.args.claimed.tree in
    let m = c.args.claimed.map in
    AreBlanksNamed-read t.index.nodes c.set_refs.new.index.nodes m (drop t.next t.maps.items) m.reference.place c.args.refs.now t.claims c.claim_all.new.claims c.args.claimed.blanks c.requires (omega (arith, t.first))
    (ap (all_claimed_by m.reference.place t.claims) (sym c.slice.ensures) ∙ c.in-Ok.ensures.claimed)
    (c.set_refs.ensures.nodes ∙ ap (with_refs_at t.index.nodes m.slot m.first) c.slice-in-Ok.ensures)

pub returns-in-Ok-clause-falls : goal.returns-in-Ok-clause-falls
returns-in-Ok-clause-falls c = on-maps c.args.claimed c.go_on.result.0 c.go_on.result.1 c.go_on.ensures.maps
