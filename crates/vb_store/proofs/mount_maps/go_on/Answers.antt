use Rattle.std.proofs.Common.{ℕ, List, sym, ap, subst, ◌∙◌, arith}
use Rattle.std.proofs.lemmas.List.Elements.{All-get_or}
use Rattle.vb_store.specs.declared.map_page.MapPage.{MapPage}
use Rattle.vb_store.specs.Maps.{IsOfFile}
use Rattle.vb_store.specs.Metadata.{block_place}
use Rattle.vb_store.specs.MountStages.{rest_of}
use Rattle.vb_store.proofs.PlacesLeft.{places-next}
use Rattle.vb_store.proofs.MountRests.{rest-named, rest-unnamed}
use Rattle.vb_store.proofs.Namings.{AreBlanksNamed-next, AreNamedOnce-next}
use Rattle.vb_store.proofs.mount_maps.go_on.Goals as goal
use Rattle.vb_store.proofs.ReadsFalling.{claimed-above, maps-one}

pub returns-in-Ok-clause-rest : goal.returns-in-Ok-clause-rest
returns-in-Ok-clause-rest c =
    λ reads. rest-named reads c.args.tree.head c.args.tree.slots.items c.args.tree.maps.items c.args.tree.next c.index-map.result.now c.args.tree.index.nodes c.args.tree.claims c.claim.new.self (omega arith) c.index-map.ensures c.in-Ok.ensures.answer c.in-Ok.ensures.ok

pub returns-in-Err-clause-rest : goal.returns-in-Err-clause-rest
returns-in-Err-clause-rest c =
    λ reads. ap (rest_of reads) c.refused.ensures.stage ∙ sym (rest-unnamed reads c.args.tree.head c.args.tree.slots.items c.args.tree.maps.items c.args.tree.next c.index-map.result.now c.args.tree.index.nodes c.args.tree.claims c.in-Err.why c.block_place-place.result (omega arith) c.index-map.ensures c.in-Err.ensures.answer
    (c.block_place-place.ensures ∙ ap (λ (l : List ℕ). block_place l c.args.tree.head.nodes c.index-map.result.now.slot) c.deref.ensures.value))

pub returns-in-Ok-clause-list : goal.returns-in-Ok-clause-list
returns-in-Ok-clause-list c =
    λ reads. places-next c.args.tree.maps.items c.args.tree.next c.index-map.result.now (omega arith) c.index-map.ensures

pub invariant_of-tree-clause-once : goal.invariant_of-tree-clause-once
invariant_of-tree-clause-once c =
    let t = c.args.tree in
    AreNamedOnce-next t.index.nodes t.claims c.claim.new.self t.maps.items t.next c.index-map.result.now (omega arith) c.index-map.ensures c.in-Ok.ensures.answer c.in-Ok.ensures.ok t.once

pub invariant_of-result-clause-blanks : goal.invariant_of-result-clause-blanks
invariant_of-result-clause-blanks c = AreBlanksNamed-next c.args.tree.index.nodes c.args.tree.maps.items c.args.tree.next c.index-map.result.now (omega arith) c.index-map.ensures c.requires.blanks

pub invariant_of-result-clause-file : goal.invariant_of-result-clause-file
invariant_of-result-clause-file c =
    let t = c.args.tree in
    subst (λ (m : MapPage). IsOfFile t.index.nodes m) (sym c.index-map.ensures)
    (All-get_or (IsOfFile t.index.nodes) t.maps.items t.next c.index-map.result.now (omega arith) t.files)

pub returns-in-Ok-clause-maps : goal.returns-in-Ok-clause-maps
returns-in-Ok-clause-maps c = maps-one c.args.tree.maps.items c.args.tree.next c.index-map.result.now (omega arith) c.index-map.ensures

pub invariant_of-result-clause-above : goal.invariant_of-result-clause-above
invariant_of-result-clause-above c =
    let above = claimed-above c.args.tree.claims c.index-map.result.now.reference.place (sym c.in-Ok.ensures.answer) in
    omega (arith, above, c.args.tree.first)
