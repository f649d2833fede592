use Rattle.std.proofs.Common.{◌≡◌, ℕ, List, Option, Some, None, refl, sym, subst, arith}
use Rattle.vb_index.specs.declared.held.Held.{Held}
use Rattle.vb_index.specs.Nodes.{held_at, child_of}
use Rattle.vb_index.proofs.Heights.{rooted-empty}
use Rattle.vb_index.proofs.Kept.{kept-empty}
use Rattle.vb_index.proofs.Shrinking.{Leaves}
use Rattle.vb_index.proofs.Tables.{folder_in, held_in_table, among_totals}
use Rattle.vb_index.proofs.table.Table.take.Goals as goal

pub drop_child-requires : goal.drop_child-requires
drop_child-requires c =
    let there = c.self.invariant.table.in_folder c.args.slot c.in-Some.held.now (sym c.in-Some.ensures) c.requires.above_root in
    let in_table = folder_in c.self.inside.nodes.items c.in-Some.held.now.node.parent there in
    omega (arith, in_table, c.self.invariant.maps)

pub overflow_sub-count : goal.overflow_sub-count
overflow_sub-count c =
    let among = among_totals c.self.inside.nodes.items c.args.slot c.in-Some.held.now (sym c.in-Some.ensures) in
    omega (arith, among.0, c.self.invariant.count)

pub overflow_sub-pages : goal.overflow_sub-pages
overflow_sub-pages c =
    let among = among_totals c.self.inside.nodes.items c.args.slot c.in-Some.held.now (sym c.in-Some.ensures) in
    omega (arith, among.1, c.self.invariant.pages, c.pages_of.ensures)

pub invariant_of-self-2 : goal.invariant_of-self-2
invariant_of-self-2 c =
    let held = c.in-Some.held.now in
    let holds : held_at c.self.inside.nodes.items c.args.slot ≡ Some c.in-Some.held.now = sym c.in-Some.ensures in
    let among = among_totals c.self.inside.nodes.items c.args.slot c.in-Some.held.now holds in
    let P : List (Option Held) → Type 0 = λ nodes. (name : List ℕ) → child_of nodes c.args.slot name ≡ None in
    let leaves : Leaves c.self.inside.nodes.items c.args.slot c.in-Some.held.now = record {
      there = held_in_table c.self.inside.nodes.items c.args.slot c.in-Some.held.now holds;
      above_root = c.requires.above_root;
      holds = holds;
      bare = subst P (sym c.self.view_is) c.requires.bare;
    } in
    let rooted = rooted-empty c.self.inside.nodes.items c.args.slot c.in-Some.held.now c.self.invariant.table c.self.invariant.rooted leaves in
    kept-empty c.self.inside _ c.args.slot c.in-Some.held.now c.self.invariant leaves rooted (record {
      nodes = refl;
      maps = c.drop_child.ensures.len;
      found = c.drop_child.ensures.gone;
      free = c.in_ok-insert.ensures.updates.0;
      count = omega (arith, among.0, c.self.invariant.count);
      pages = omega (arith, among.1, c.self.invariant.pages, c.pages_of.ensures);
    })
