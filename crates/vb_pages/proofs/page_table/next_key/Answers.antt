use Rattle.std.proofs.Common.{subst}
use Rattle.std.specs.declared.ops.Bound.TheVariants.{Included, Unbounded}
use Rattle.std.proofs.lemmas.Option.{MatchOption-at_none}
use Rattle.std.specs.BTreeMap.Range.{IsRangeOf}
use Rattle.vb_pages.specs.Tables.{key_of, key_order}
use Rattle.vb_pages.proofs.Keys.{none_later-empty, none_later-other}
use Rattle.vb_pages.proofs.page_table.next_key.Goals as goal

pub returns-in_default-clause-none : goal.returns-in_default-clause-none
returns-in_default-clause-none c =
    let m = c.args.entries.now in
    let range = subst (λ r. IsRangeOf key_order (Included (key_of c.args.slot c.args.first)) Unbounded m r) c.in-Some.ensures.steps (c.range-later.ensures.in_range tt) in
    none_later-other m c.args.slot c.args.first (c.in-Some.key.now, c.in-Some.field-0-1.now) c.next.new.self range c.if-key-slot.false

pub returns-in_default-2-clause-none : goal.returns-in_default-2-clause-none
returns-in_default-2-clause-none c =
    let m = c.args.entries.now in
    let range = subst (λ r. IsRangeOf key_order (Included (key_of c.args.slot c.args.first)) Unbounded m r) (MatchOption-at_none _ _ c.in_default.is c.next.ensures.steps).0 (c.range-later.ensures.in_range tt) in
    none_later-empty m c.args.slot c.args.first range
