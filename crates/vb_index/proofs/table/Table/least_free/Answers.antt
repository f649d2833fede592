use Rattle.std.proofs.Common.{◌<◌, List, length, Option, sym, subst}
use Rattle.vb_index.specs.declared.held.Held.{Held}
use Rattle.vb_index.specs.Nodes.{nodes_in}
use Rattle.vb_index.proofs.Kept.{free_some}
use Rattle.vb_index.proofs.table.Table.least_free.Goals as goal

pub unwrap-requires : goal.unwrap-requires
unwrap-requires c =
    let P : List (Option Held) → Type 0 = λ nodes. nodes_in nodes < length nodes in
    c.first.ensures.variant.1 (free_some c.self.inside c.self.invariant (subst P (sym c.self.view_is) c.requires))
