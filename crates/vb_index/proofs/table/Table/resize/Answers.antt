use Rattle.std.proofs.Common.{◌≡◌, List, Option, Some, refl, sym, ap, ◌∙◌, subst, set, is_some, true, arith}
use Rattle.std.specs.Option.{option_map}
use Rattle.vb_index.specs.declared.held.Held.{Held}
use Rattle.vb_index.specs.Nodes.{held_at, refs_at}
use Rattle.vb_index.specs.Changes.{resized}
use Rattle.vb_index.proofs.Heights.{rooted-changed}
use Rattle.vb_index.proofs.Resizing.{Changes, item_at, file-held, resized_changes, kept-changed, few_pages, few-pages}
use Rattle.vb_index.proofs.Tables.{among_totals}
use Rattle.vb_index.proofs.table.Table.resize.Goals as goal

pub overflow_add-pages : goal.overflow_add-pages
overflow_add-pages c = omega (arith, few-pages c.self.inside.nodes.items c.self.invariant.table, c.self.invariant.pages, c.pages_of-2.ensures, few_pages c.args.len c.requires.short)

pub invariant_of-self-2 : goal.invariant_of-self-2
invariant_of-self-2 c =
    let holds : held_at c.self.inside.nodes.items c.args.slot ≡ Some c.in-Some.held.now = sym c.in-Some.ensures in
    let P : List (Option Held) → Type 0 = λ nodes. is_some (refs_at nodes c.args.slot) ≡ true in
    let file = file-held c.self.inside.nodes.items c.args.slot c.in-Some.held.now (subst P (sym c.self.view_is) c.requires.file) holds in
    let among = among_totals c.self.inside.nodes.items c.args.slot c.in-Some.held.now holds in
    let changes : Changes c.self.inside.nodes.items c.args.slot c.in-Some.held.now (resized c.args.len c.in-Some.held.now) =
    resized_changes c.self.inside.nodes.items c.args.slot c.args.len c.in-Some.held.now c.self.invariant.table holds file c.requires.short in
    kept-changed c.self.inside _ c.args.slot c.in-Some.held.now (resized c.args.len c.in-Some.held.now) c.self.invariant changes
    (rooted-changed c.self.inside.nodes.items c.args.slot c.in-Some.held.now (resized c.args.len c.in-Some.held.now) c.self.invariant.table c.self.invariant.rooted changes)
    (ap (set c.self.inside.nodes.items c.args.slot) (c.in_ok-resize_slot.ensures.ok ∙ ap (option_map (resized c.args.len)) (item_at c.self.inside.nodes.items c.args.slot c.in-Some.held.now c.index_mut.result.now holds c.index_mut.ensures.value)))
    refl refl refl
    (omega (arith, among.1, c.self.invariant.pages, c.pages_of.ensures, c.pages_of-2.ensures))
