use Rattle.std.proofs.Common.{◌≡◌, List, map, ltb, rules, ap, ◌∙◌}
use Rattle.std.specs.List.{filter}
use Rattle.std.proofs.lemmas.List.Elements.{filter_from_retain}
use Rattle.vb_cause.specs.declared.failures.Failure.{Failure}
use Rattle.vb_cause.specs.Failing.{nearer, passed}
use Rattle.vb_cause.proofs.Used.{passed-used}
use Rattle.vb_cause.proofs.failures.Failures.pass.Goals as goal

passed_from : {T : Type 0} (seen before kept after : List (Failure T)) → before ≡ seen → kept ≡ filter (λ f. ltb 1 f.nth) before → after ≡ map nearer kept → after ≡ passed seen
passed_from seen before kept after same filtered mapped =
    mapped ∙ ap (map nearer) (filtered ∙ ap (filter (λ f. ltb 1 f.nth)) same)

pub returns-clause-passed : goal.returns-clause-passed
returns-clause-passed g c =
    passed_from c.args.self.now c.self.inside.items.items c.retain.new.self.items c.bring_nearer.new.failures.items c.self.view_is (filter_from_retain _ (λ (f : Failure g.row.T.Denot). ltb 1 f.nth) (λ p x b q h. search rules) _ c.self.inside.items.items c.retain.new.self.items c.retain.ensures.filtered) c.bring_nearer.ensures

pub returns-clause-used : goal.returns-clause-used
returns-clause-used g c = passed-used c.args.self.now c.bring_nearer.new.failures.items (returns-clause-passed g c)
