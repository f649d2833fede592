use Rattle.std.proofs.Common.{◌<◌, List, [], length, unwrap_or, Option, refl, sym, ap, ◌∙◌, subst, set}
use Rattle.std.specs.Option.{option_map}
use Rattle.vb_index.specs.declared.held.Held.{Held}
use Rattle.vb_index.specs.Nodes.{refs_at}
use Rattle.vb_index.specs.Changes.{with_ref}
use Rattle.vb_index.proofs.Heights.{rooted-changed}
use Rattle.vb_index.proofs.Resizing.{Changes, page_in, item_at, ref_changes, kept-changed}
use Rattle.vb_index.proofs.table.Table.set_ref.Goals as goal

pub invariant_of-self : goal.invariant_of-self
invariant_of-self c =
    let P : List (Option Held) → Type 0 = λ nodes. c.args.page < length (unwrap_or (refs_at nodes c.args.slot) []) in
    let file = page_in c.self.inside.nodes.items c.args.slot c.args.page (subst P (sym c.self.view_is) c.requires) in
    let changes : Changes c.self.inside.nodes.items c.args.slot file.0 (with_ref c.args.page c.args.reference file.0) =
    ref_changes c.self.inside.nodes.items c.args.slot c.args.page c.args.reference file.0 c.self.invariant.table file.1 in
    kept-changed c.self.inside _ c.args.slot file.0 (with_ref c.args.page c.args.reference file.0) c.self.invariant changes
    (rooted-changed c.self.inside.nodes.items c.args.slot file.0 (with_ref c.args.page c.args.reference file.0) c.self.invariant.table c.self.invariant.rooted changes)
    (ap (set c.self.inside.nodes.items c.args.slot) (c.replace_in_slot.ensures ∙ ap (option_map (with_ref c.args.page c.args.reference)) (item_at c.self.inside.nodes.items c.args.slot file.0 c.index_mut.result.now file.1 c.index_mut.ensures.value)))
    refl refl refl refl
