use Rattle.std.proofs.Common.{subst}
use Rattle.std.specs.List.Sorted.{IsStrictlySortedBy}
use Rattle.std.specs.Map.{keys_of}
use Rattle.vb_pages.specs.Tables.{key_order}
use Rattle.vb_pages.proofs.Same.{copied-step}
use Rattle.vb_pages.proofs.page_table.PageTable.copy.Goals as goal

pub loop-key-preserved-in_ok-insert : goal.loop-key-preserved-in_ok-insert
loop-key-preserved-in_ok-insert c =
    copied-step c.args.self.now c.loop-key.entries.entries c.insert.new.self.entries c.in-Some.key.now c.in-Some.kept.now c.in_ok-copy.field-0 c.next.new.self c.loop-key.key-iterator
    (subst (λ es. IsStrictlySortedBy key_order (keys_of es)) c.self.view_is c.iter-key-items.ensures.ordered) c.loop-key.invariant c.in-Some.ensures.steps c.in_ok-insert.ensures.entries c.in_ok-copy.ensures

pub loop-key-preserved : goal.loop-key-preserved
loop-key-preserved c =
    copied-step c.args.self.now c.loop-key.entries.entries c.insert.new.self.entries c.in-Some.key.now c.in-Some.kept.now c.in_ok-copy.field-0 c.next.new.self c.loop-key.key-iterator
    (subst (λ es. IsStrictlySortedBy key_order (keys_of es)) c.self.view_is c.iter-key-items.ensures.ordered) c.loop-key.invariant c.in-Some.ensures.steps c.in_ok-insert.ensures.entries c.in_ok-copy.ensures
