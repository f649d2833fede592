-- An entry more in the small value.
use Rattle.std.proofs.Common.{rules, ◌≡◌, ◌+◌, [], ◌∷◌, ◌++◌, refl, subst, arith}
use Rattle.vb_hist.specs.declared.entry.Entry.TheVariants.{Publish, End}
use Rattle.vb_turn.specs.Books.{Pages, StandsFor}
use Rattle.vb_turn.proofs.Books.{stands_end, stands_publish}
use Rattle.vb_turn.proofs.tests.Book.add.Goals as goal

pub returns-then-number-eq0-clause-stands : goal.returns-then-number-eq0-clause-stands
returns-then-number-eq0-clause-stands c = λ given s.
    let before : c.args.self.now.before ≡ c.self.inside.before = search rules in
    let published : c.args.self.now.published ≡ c.self.inside.published = search rules in
    let history : c.args.self.now.history ++ Publish (c.self.inside.published + 1) ∷ [] ≡ c.push.new.self.entries = search rules in
    subst (StandsFor given) (λ i. let z : Pages = record { before = before i; history = history i; published = c.self.inside.published + 1 } in z)
    (stands_publish given c.args.self.now (c.self.inside.published + 1) (omega (arith, published)) s)

pub returns-then-number-eq0-clause-grows : goal.returns-then-number-eq0-clause-grows
returns-then-number-eq0-clause-grows c =
    let history : c.args.self.now.history ++ Publish (c.self.inside.published + 1) ∷ [] ≡ c.push.new.self.entries = search rules in
    let none : 0 ≡ c.args.number = search rules in
    (Publish (c.self.inside.published + 1) ∷ [], history, (none, tt))

pub returns-else-number-eq0-clause-stands : goal.returns-else-number-eq0-clause-stands
returns-else-number-eq0-clause-stands c = λ given s.
    let before : c.args.self.now.before ≡ c.self.inside.before = search rules in
    let published : c.args.self.now.published ≡ c.self.inside.published = search rules in
    let history : c.args.self.now.history ++ End c.args.number ∷ [] ≡ c.push-else-number-eq0.new.self.entries = search rules in
    subst (StandsFor given) (λ i. let z : Pages = record { before = before i; history = history i; published = published i } in z) (stands_end given c.args.self.now c.args.number s)

pub returns-else-number-eq0-clause-grows : goal.returns-else-number-eq0-clause-grows
returns-else-number-eq0-clause-grows c =
    let history : c.args.self.now.history ++ End c.args.number ∷ [] ≡ c.push-else-number-eq0.new.self.entries = search rules in
    (End c.args.number ∷ [], history, (refl, tt))
