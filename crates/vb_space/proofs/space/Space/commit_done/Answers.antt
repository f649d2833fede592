use Rattle.std.proofs.Common.{arith, ap, ◌∙◌}
use Rattle.std.specs.Prelude.{count_by}
use Rattle.std.proofs.lemmas.List.{with_items_is}
use Rattle.vb_space.specs.Free.{has_next}
use Rattle.vb_space.proofs.Counts.{next-settled}
use Rattle.vb_space.proofs.space.Space.commit_done.Goals as goal

pub returns-clause-next : goal.returns-clause-next
returns-clause-next c = ap (count_by has_next) (with_items_is c.self.inside.users c.settle-self-inside.new.users (omega arith) ∙ c.settle-self-inside.ensures.settled) ∙ next-settled c.deref_mut.result.now
