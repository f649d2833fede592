use Rattle.std.proofs.Common.{◌<◌, List, length, Option, sym, subst}
use Rattle.vb_index.specs.declared.held.Held.{Held}
use Rattle.vb_index.specs.Changes.{IsBare}
use Rattle.vb_index.proofs.Leaving.{bare-empty}
use Rattle.vb_index.proofs.table.Table.is_bare.Goals as goal

pub returns : goal.returns
returns c =
    let P : List (Option Held) → Type 0 = λ nodes. IsBare nodes c.args.slot in
    let L : List (Option Held) → Type 0 = λ nodes. c.args.slot < length nodes in
    let both = bare-empty c.self.inside c.args.slot c.index.result.now c.self.invariant (subst L (sym c.self.view_is) c.requires) c.index.ensures in
    ((λ h. subst P c.self.view_is (both.0 (c.is_empty.ensures.0 h))), (λ bare. c.is_empty.ensures.1 (both.1 (subst P (sym c.self.view_is) bare))))
