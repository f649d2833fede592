use Rattle.std.proofs.Common.{◌≡◌, sym, ap, ◌∙◌, arith}
use Rattle.vb_nodes.specs.declared.ascents.Ascent.{Ascent}
use Rattle.vb_nodes.specs.Ascents.{no_ascent}
use Rattle.vb_nodes.specs.Building.{depth_of}
use Rattle.vb_nodes.proofs.TreeFacts.{above-root}
use Rattle.vb_nodes.proofs.build.put_due.Goals as goal

pub put_node-requires-clause-below_root : goal.put_node-requires-clause-below_root
put_node-requires-clause-below_root c =
    let deep : depth_of c.args.nodes.now c.args.slot ≡ c.args.depth = sym (ap (λ (a : Ascent). a.parts) (c.requires.ascents.each c.args.slot no_ascent c.requires.there)) ∙ c.if-ascent-depth.false in
    above-root c.args.nodes.now c.args.slot c.requires.tree (omega arith)
