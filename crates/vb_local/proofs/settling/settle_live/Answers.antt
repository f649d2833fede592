use Rattle.std.proofs.Common.{sym, ap, subst, ◌∙◌}
use Rattle.vb_index.specs.Indexes.{IndexState}
use Rattle.vb_index.specs.Nodes.{IsTable}
use Rattle.std.specs.Prelude.{is_some}
use Rattle.vb_local.specs.States.{frozen_state}
use Rattle.vb_local.proofs.SettledPages.{live-settles, same-bytes, some-bytes}
use Rattle.vb_local.proofs.settling.settle_live.Goals as goal

pub settle-requires : goal.settle-requires
settle-requires c =
    let kept = some-bytes _ c.requires.kept in
    ap is_some (same-bytes kept.0 _ (sym (c.has_same.ensures kept.0 kept.1) ∙ c.if-has_same.true))

pub returns-then-has_same : goal.returns-then-has_same
returns-then-has_same c bytes kept =
    live-settles c.args.index.now.nodes (frozen_state c.args.frozen.now) c.args.key.slot c.args.key.page bytes c.reference_of.result c.args.live.now c.settle.new.self c.settle.ensures.index.0
    (subst (λ (i : IndexState). IsTable i.nodes) c.index.ensures c.count-count.ensures.table) c.pages-pages.ensures.files kept c.reference_of.ensures (sym (c.has_same.ensures bytes kept) ∙ c.if-has_same.true) c.settle.ensures.index.1 c.settle.ensures.index.2 c.settle.ensures.pages
