use Rattle.std.proofs.Common.{◌≡◌, ◌++◌, All, drop}
use Rattle.vb_store.specs.Maps.{IsMapPage, maps_of_nodes}
use Rattle.vb_store.proofs.map_page.maps_of_nodes.Given as goal

abbrev pub invariant-loop-node : goal.invariant-loop-node
invariant-loop-node l = record {
  maps : l.maps.items ++ maps_of_nodes (drop l.node-index l.nodes) ≡ maps_of_nodes l.nodes;
  each : All IsMapPage l.maps.items;
}
