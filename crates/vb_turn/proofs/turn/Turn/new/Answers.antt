-- A lock is made.
use Rattle.std.proofs.Common.{rules, ◌≡◌, ◌<◌, ◌≤◌, length, sym, ap, ◌∙◌, subst}
use Rattle.vb_turn.specs.Numbers.{AreApart}
use Rattle.vb_turn.specs.declared.view.Start.{Start}
use Rattle.vb_turn.proofs.Making.{starts}
use Rattle.vb_turn.proofs.turn.Turn.new.Goals as goal

pub vacant-laid-requires : goal.vacant-laid-requires
vacant-laid-requires g c = let start : Start g.row.V.Denot = record { value = c.args.value; numbers = c.in-Ok.copied } in
    let copied : c.in-Ok.copied.items ≡ c.args.numbers.now = search rules in
    starts g.V.Kept.history g.V.Kept.stands g.V.Kept.published_after start
    (subst (λ l. 0 < length l) (sym copied) c.requires.numbers.0) (subst (λ l. length l ≤ 65) (sym copied) c.requires.numbers.1) (subst AreApart (sym copied) c.requires.numbers.2)
    c.published-epoch.result (c.published-epoch.ensures.epoch c.args.value c.requires.value.0 ∙ ap (g.V.Kept.published_after c.args.value) c.requires.value.1)

pub returns-clause-ok : goal.returns-clause-ok
returns-clause-ok g c =
    let copied : c.in-Ok.copied.items ≡ c.args.numbers.now = search rules in
    let start : Start g.row.V.Denot = record { value = c.args.value; numbers = c.in-Ok.copied } in
    let key : c.in-Ok-laid.table.shared.key ≡ start = search rules in record {
      given = ap (λ (k : Start g.row.V.Denot). k.value) key;
      numbers_are = ap (λ (k : Start g.row.V.Denot). k.numbers.items) key ∙ copied;
      made = c.hand_out-seats.ensures.row.0;
      in_order = c.hand_out-seats.ensures.row.1;
      unused = c.hand_out-seats.ensures.unused;
    }
