use Rattle.std.proofs.Common.{◌≡◌, cond, is_some, List, get_or, set, ◌&&◌, ◌==◌, Option, Some, None, sym, ap, ◌∙◌, subst, arith}
use Rattle.std.specs.Option.{option_map}
use Rattle.std.specs.BTreeMap as tree
use Rattle.std.specs.Ordering.{nat_cmp}
use Rattle.std.specs.Cmp.Lexicographic.{slice_cmp}
use Rattle.vb_index.specs.declared.held.Held.{Held}
use Rattle.vb_index.specs.Nodes.{held_at, same_name}
use Rattle.vb_index.specs.Heights.{MayStand}
use Rattle.vb_index.specs.Moves.{placed_in, MayReplace}
use Rattle.vb_index.proofs.Heights.{rooted-replace}
use Rattle.vb_index.proofs.Tables.{folder_in, among_totals}
use Rattle.vb_index.proofs.Places.{Moves, Replaces, may-replaces, replaces-moves, kept-replace, taken-in}
use Rattle.vb_index.proofs.table.Table.replace.Goals as goal

pub reassign_child-requires-clause-in_table : goal.reassign_child-requires-clause-in_table
reassign_child-requires-clause-in_table c =
    let P : List (Option Held) → Type 0 = λ nodes. MayReplace nodes c.args.slot c.args.other c.args.folder c.args.name in
    let may : MayReplace c.self.inside.nodes.items c.args.slot c.args.other c.args.folder c.args.name = subst P (sym c.self.view_is) c.requires.place in
    omega (arith, taken-in c.self.inside.nodes.items c.args.folder c.args.name c.args.other c.self.invariant.table may.taken, c.self.invariant.maps)

pub reassign_child-requires-clause-taken : goal.reassign_child-requires-clause-taken
reassign_child-requires-clause-taken c = λ d.
    let P : List (Option Held) → Type 0 = λ nodes. MayReplace nodes c.args.slot c.args.other c.args.folder c.args.name in
    let may : MayReplace c.self.inside.nodes.items c.args.slot c.args.other c.args.folder c.args.name = subst P (sym c.self.view_is) c.requires.place in
    ap is_some (ap (λ own. tree.get (slice_cmp nat_cmp) (get_or c.self.inside.children.items c.args.folder d) own) (c.in_ok-key.ensures ∙ c.slice.ensures)
    ∙ c.self.invariant.found c.args.folder c.args.name d (taken-in c.self.inside.nodes.items c.args.folder c.args.name c.args.other c.self.invariant.table may.taken) ∙ may.taken)

pub drop_child-requires : goal.drop_child-requires
drop_child-requires c =
    let there = c.self.invariant.table.in_folder c.args.slot c.in-Some.held.now (sym c.in-Some.ensures) c.requires.place.above_root in
    let in_table = folder_in c.self.inside.nodes.items c.in-Some.held.now.node.parent there in
    omega (arith, in_table, c.self.invariant.maps, c.reassign_child.ensures.len)

pub invariant_of-self-2 : goal.invariant_of-self-2
invariant_of-self-2 c =
    let P : List (Option Held) → Type 0 = λ nodes. MayReplace nodes c.args.slot c.args.other c.args.folder c.args.name in
    let holds : held_at c.self.inside.nodes.items c.args.slot ≡ Some c.in-Some.held.now = sym c.in-Some.ensures in
    let goes : held_at c.self.inside.nodes.items c.args.other ≡ Some c.in-Some-held_in.gone.now = sym c.in-Some-held_in.ensures in
    let r : Replaces c.self.inside.nodes.items c.args.slot c.in-Some.held.now c.args.other c.in-Some-held_in.gone.now c.args.folder c.args.name =
    may-replaces c.self.inside.nodes.items c.args.slot c.args.other c.args.folder c.args.name c.in-Some.held.now c.in-Some-held_in.gone.now c.self.invariant.table (subst P (sym c.self.view_is) c.requires.place) holds goes in
    let S : List (Option Held) → Type 0 = λ nodes. MayStand nodes c.args.slot c.args.folder c.args.name in
    let rooted = rooted-replace c.self.inside.nodes.items c.args.slot c.in-Some.held.now c.args.other c.in-Some-held_in.gone.now c.args.folder c.args.name c.self.invariant.table c.self.invariant.rooted r (subst S (sym c.self.view_is) c.requires.stands) in
    let m : Moves (set c.self.inside.nodes.items c.args.other None) c.args.slot c.in-Some.held.now c.args.folder c.args.name =
    replaces-moves c.self.inside.nodes.items c.args.slot c.in-Some.held.now c.args.other c.in-Some-held_in.gone.now c.args.folder c.args.name c.self.invariant.table r in
    let among = among_totals c.self.inside.nodes.items c.args.other c.in-Some-held_in.gone.now goes in
    kept-replace c.self.inside _ c.args.slot c.in-Some.held.now c.args.other c.in-Some-held_in.gone.now c.args.folder c.args.name c.self.invariant r rooted (record {
      nodes = c.set_place.ensures ∙ ap (λ o. set (set c.self.inside.nodes.items c.args.other None) c.args.slot (option_map (placed_in c.args.folder c.args.name) o)) m.holds;
      maps = c.drop_child.ensures.len ∙ c.reassign_child.ensures.len;
      found = λ t y d l.
          c.drop_child.ensures.gone t y d (omega (arith, l, c.reassign_child.ensures.len))
          ∙ ap (cond (c.in-Some.held.now.node.parent == t && same_name c.in-Some.held.now.node.name y) None)
          (c.reassign_child.ensures.found t y d l
          ∙ ap (λ own. cond (c.args.folder == t && same_name own y) (Some c.args.slot) (tree.get (slice_cmp nat_cmp) (get_or c.self.inside.children.items t d) y)) (c.in_ok-key.ensures ∙ c.slice.ensures));
      free = c.in_ok-insert.ensures.updates.0;
      count = omega (arith, among.0, c.self.invariant.count);
      pages = omega (arith, among.1, c.self.invariant.pages, c.pages_of.ensures);
    })
