use Rattle.std.proofs.Common.{refl}
use Rattle.vb_frozen.specs.Orders.{order_of}
use Rattle.vb_frozen.specs.Sources.{next_of}
use Rattle.vb_plan.specs.Laws.{slots_next}
use Rattle.vb_plan.specs.Seen.{basis_of}
use Rattle.vb_next.proofs.After.{after-alike, tree-alike}
use Rattle.vb_next.proofs.Referred.{after-refs}
use Rattle.vb_next.proofs.laws.a_next_view_leaves_its_tree.Goals as goal

pub returns-clause-tree : goal.returns-clause-tree
returns-clause-tree c committed space nodes tree table pages is can has =
    tree-alike (slots_next (basis_of committed space) (next_of (order_of nodes tree) table)) nodes pages tree
    (after-alike committed nodes tree table (basis_of committed space) is refl can) has

pub returns-clause-refs : goal.returns-clause-refs
returns-clause-refs c committed space nodes tree table slot k old r is can had has =
    after-refs committed nodes tree table (basis_of committed space) slot k old r is can had has
