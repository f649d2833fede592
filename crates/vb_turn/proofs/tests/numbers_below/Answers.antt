-- One number more.
use Rattle.std.proofs.Common.{rules, ◌≡◌, [], ◌∷◌, ◌++◌, ap, sym, subst, ◌∙◌}
use Rattle.vb_turn.specs.Numbers.{AreApart, times}
use Rattle.vb_turn.proofs.Books.{apart_push}
use Rattle.vb_turn.proofs.tests.numbers_below.Goals as goal

pub loop-i-preserved : goal.loop-i-preserved
loop-i-preserved c = let more = apart_push c.loop-i.numbers.items c.loop-i.i c.loop-i.invariant.1 c.loop-i.invariant.2 in
    let pushed : c.loop-i.numbers.items ++ c.loop-i.i ∷ [] ≡ c.push.new.self.items = search rules in
    (search rules, subst AreApart pushed more.0, λ number l. ap (times number) (sym pushed) ∙ more.1 number l)
