use Rattle.std.proofs.Common.{List, length, ap, arith}
use Rattle.std.proofs.lemmas.List.{length-take}
use Rattle.vb_block.specs.declared.digest.Ref.{Ref}
use Rattle.vb_plan.proofs.map_pages.group_at.Goals as goal

pub returns-clause-few : goal.returns-clause-few
returns-clause-few c = omega (arith, ap (λ (rs : List Ref). length rs) c.split_within-2.ensures.front, length-take 113 c.split_within.result.1.now)
