use Rattle.std.proofs.Common.{◌≡◌, ◌+◌, ◌-◌, ◌*◌, ◌/◌, ◌++◌, All, drop, length}
use Rattle.vb_store.specs.Maps.{IsMapPage}
use Rattle.vb_store.specs.Metadata.{maps_from, maps_of_node}
use Rattle.vb_store.proofs.map_page.add_maps.Given as goal

abbrev pub invariant-loop-reference : goal.invariant-loop-reference
invariant-loop-reference l = record {
  first : l.first ≡ 113 * l.reference-index;
  left : (length l.node.maps - l.reference-index) ≡ (l.left + 112) / 113;
  maps : l.maps.items ++ maps_from l.node.slot l.first l.left (drop l.reference-index l.node.maps) ≡ l.initial.maps.items ++ maps_of_node l.node;
  each : All IsMapPage l.initial.maps.items → All IsMapPage l.maps.items;
}
