use Rattle.std.proofs.Common.{◌+◌, ap, subst, sym, ◌∙◌}
use Rattle.vb_event.specs.declared.answer.FaultKind.TheVariants.{Memory}
use Rattle.vb_event.specs.declared.answer.FolderAnswer.TheVariants as answers
use Rattle.vb_event.specs.declared.event.FolderEvent.TheVariants as events
use Rattle.vb_frozen.specs.Orders.{AreApart}
use Rattle.vb_hist.specs.Histories.{Recorded}
use Rattle.vb_local.specs.States.{LocalState}
use Rattle.vb_local.specs.Trees.{blank_tree}
use Rattle.vb_upload.specs.Cursors.{AllCanBeSent}
use Rattle.vb_folder.specs.Events.{Makes}
use Rattle.vb_folder.specs.Ledgers.{LedgerState, is_busy_now, is_spent_now}
use Rattle.vb_folder.specs.contracts.ledger.Ledger.{the_view}
use Rattle.vb_folder.proofs.FreezesMade.{frozen-kept, frozen-makes, frozen_now, unfrozen-makes}
use Rattle.vb_folder.proofs.ledger.Ledger.freeze_next.Goals as goal

pub returns-in_default-clause-makes : goal.returns-in_default-clause-makes
returns-in_default-clause-makes c = λ told.
    let s = the_view c.self.inside in
    subst (λ (s : LedgerState). Makes (events.Freeze c.args.by) (answers.Fault Memory) s (record (the_view c.self.inside) { local = c.freeze.new.self }) told told) c.self.view_is
    (subst (λ (l : LocalState). Makes (events.Freeze c.args.by) (answers.Fault Memory) s (record s { local = l }) told told) (sym c.in_default.ensures.err)
    (unfrozen-makes c.args.by s told (ap is_busy_now c.self.view_is ∙ c.requires.idle) (ap is_spent_now c.self.view_is ∙ c.requires.unspent)))

pub invariant_of-self-2 : goal.invariant_of-self-2
invariant_of-self-2 c =
    let s = the_view c.self.inside in
    let freezes = c.in-Ok.ensures.ok in
    let nodes = c.self.inside.local.live.index.nodes in
    let tree = c.nodes_have_a_tree.ensures.tree nodes freezes.of.table freezes.of.rooted in
    let shape = c.nodes_have_a_tree.ensures.shape nodes freezes.of.table freezes.of.rooted in
    frozen-kept s c.freeze.new.self c.push.new.self c.start-self-inside.result freezes.frozen c.self.invariant (ap is_busy_now c.self.view_is ∙ c.requires.idle) (ap is_spent_now c.self.view_is ∙ c.requires.unspent) freezes.waits
    (subst AllCanBeSent (sym (freezes.of.order (blank_tree nodes) tree shape)) (c.indexes_can_be_sent.ensures.sendable nodes (blank_tree nodes) freezes.of.table tree shape))
    (subst AreApart (sym (freezes.of.order (blank_tree nodes) tree shape)) (c.indexes_can_be_sent.ensures.apart nodes (blank_tree nodes) freezes.of.table tree shape))
    c.start-self-inside.ensures.cursor c.start-self-inside.ensures.epoch

pub returns-clause-makes : goal.returns-clause-makes
returns-clause-makes c = λ told.
    let s = the_view c.self.inside in
    subst (λ (s : LedgerState). Makes (events.Freeze c.args.by) (answers.Frozen (c.self.inside.epoch + 1)) s (frozen_now (the_view c.self.inside) c.freeze.new.self c.push.new.self c.start-self-inside.result) told told) c.self.view_is
    (frozen-makes c.args.by s c.freeze.new.self c.push.new.self c.start-self-inside.result told (ap is_busy_now c.self.view_is ∙ c.requires.idle) (ap is_spent_now c.self.view_is ∙ c.requires.unspent) c.in-Ok.ensures.ok (ap (λ (r : Recorded). r.entries) c.push.ensures) c.start-self-inside.ensures.cursor)
