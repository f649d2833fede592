use Rattle.std.proofs.Common.{◌≡◌, length, rules, ◌∙◌}
use Rattle.vb_disk.proofs.StepsOfCrashes.{tear_step}
use Rattle.vb_disk.proofs.crashing.tear_all.Goals as goal

pub tear-requires-clause-several : goal.tear-requires-clause-several
tear-requires-clause-several c =
    let l = c.loop-page in
    let at : c.len.result ≡ length c.pop.new.self.items = search rules in
    (tear_step c.args.table.now.size c.args.torn.now c.args.table.now.cells l.table.cells l.pages.items c.pop.new.self.items c.in-Some.page c.len.result c.index-torn-len.result c.requires.allowed c.in-Some.ensures.items l.invariant.pages l.invariant.tearing at c.index-torn-len.is).several

pub tear-requires-clause-miss : goal.tear-requires-clause-miss
tear-requires-clause-miss c =
    let l = c.loop-page in
    let at : c.len.result ≡ length c.pop.new.self.items = search rules in
    (tear_step c.args.table.now.size c.args.torn.now c.args.table.now.cells l.table.cells l.pages.items c.pop.new.self.items c.in-Some.page c.len.result c.index-torn-len.result c.requires.allowed c.in-Some.ensures.items l.invariant.pages l.invariant.tearing at c.index-torn-len.is).miss

pub loop-page-preserved : goal.loop-page-preserved
loop-page-preserved c =
    let l = c.loop-page in
    let at : c.len.result ≡ length c.pop.new.self.items = search rules in
    let step = tear_step c.args.table.now.size c.args.torn.now c.args.table.now.cells l.table.cells l.pages.items c.pop.new.self.items c.in-Some.page c.len.result c.index-torn-len.result c.requires.allowed c.in-Some.ensures.items l.invariant.pages l.invariant.tearing at c.index-torn-len.is in
    record {
      pages = step.pages_left;
      tearing = step.more c.tear.new.self.cells c.tear.ensures.changed;
      size = c.tear.ensures.size ∙ l.invariant.size;
    }
