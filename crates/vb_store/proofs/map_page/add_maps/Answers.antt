use Rattle.std.proofs.Common.{◌≡◌, length, ap, arith}
use Rattle.std.proofs.lemmas.List.Elements.{All-push, All-same}
use Rattle.vb_store.specs.declared.map_page.MapPage.{MapPage}
use Rattle.vb_store.specs.Maps.{IsMapPage}
use Rattle.vb_store.proofs.MapLists.{add_step}
use Rattle.vb_store.proofs.map_page.add_maps.Goals as goal

pub loop-reference-preserved : goal.loop-reference-preserved
loop-reference-preserved c =
    let inv = c.loop-reference.invariant in
    let many : length c.slice-reference-items.result.now ≡ length c.args.node.now.maps = ap length c.slice-reference-items.ensures in
    let m : MapPage = record { slot = c.args.node.now.slot; first = c.loop-reference.first; count = c.min.result; reference = c.reference-item.result } in
    let is : IsMapPage m = record { slot = omega (arith, c.requires.slot); some = omega (arith, inv.left, c.loop-reference-test.true, c.min.ensures); few = omega (arith, c.min.ensures) } in
    record {
      first = omega arith;
      left = omega (arith, c.saturating_sub-left.ensures, c.loop-reference-test.true, inv.left);
      maps = add_step _ _ _ _ _ _ _ _ _ _ _ _ c.slice-reference-items.ensures c.loop-reference-test.true c.reference-item.is c.saturating_sub-left.ensures c.min.ensures c.in_ok-push.ensures.items inv.maps;
      each = λ all. All-same IsMapPage _ _ c.in_ok-push.ensures.items (All-push IsMapPage _ m (inv.each all) is);
    }
