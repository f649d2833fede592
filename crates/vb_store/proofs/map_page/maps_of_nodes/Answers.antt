use Rattle.vb_store.proofs.MapLists.{node_step, nodes_end}
use Rattle.vb_store.proofs.map_page.maps_of_nodes.Goals as goal

pub loop-node-preserved : goal.loop-node-preserved
loop-node-preserved c = record {
  maps = node_step _ _ _ _ _ _ c.loop-node-test.true c.node-item.is c.in_ok-add_maps.ensures.maps c.loop-node.invariant.maps;
  each = c.in_ok-add_maps.ensures.each c.loop-node.invariant.each;
}

pub returns-clause-maps : goal.returns-clause-maps
returns-clause-maps c = nodes_end _ _ _ c.loop-node-test.false c.loop-node.invariant.maps
