use Rattle.std.proofs.Common.{◌≡◌, IfOk, List, subst}
use Rattle.vb_hist.specs.declared.entry.Entry.{Entry}
use Rattle.vb_hist.proofs.Computed.{counted-fits, cut-counted}
use Rattle.vb_hist.proofs.survival.surviving_with.Goals as goal

pub cut_back-requires : goal.cut_back-requires
cut_back-requires c = counted-fits c.args.start c.in-Cut.epoch c.front_len-front.result c.args.line.items c.as_slice.result.now c.front_len-front.ensures c.as_slice.ensures.value

pub returns-in-Cut : goal.returns-in-Cut
returns-in-Cut c =
    subst (λ (l : List Entry). IfOk c.cut_back.result (λ kept. kept.items ≡ l))
    (cut-counted c.args.start c.in-Cut.epoch c.front_len-front.result c.in-Cut.limits c.args.line.items c.as_slice.result.now c.args.entry c.front_len-front.ensures c.as_slice.ensures.value c.in-Cut.is)
    c.cut_back.ensures
