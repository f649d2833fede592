use Rattle.std.proofs.Common.{◌≡◌, cond, List, get_or, set, ◌&&◌, ◌==◌, Option, Some, None, refl, sym, ap, ◌∙◌, subst, arith}
use Rattle.std.specs.Option.{option_map}
use Rattle.std.specs.BTreeMap as tree
use Rattle.std.specs.Ordering.{nat_cmp}
use Rattle.std.specs.Cmp.Lexicographic.{slice_cmp}
use Rattle.vb_index.specs.declared.held.Held.{Held}
use Rattle.vb_index.specs.Nodes.{held_at, same_name}
use Rattle.vb_index.specs.Heights.{MayStand}
use Rattle.vb_index.specs.Moves.{placed_in, MayPlace}
use Rattle.vb_index.proofs.Heights.{rooted-place}
use Rattle.vb_index.proofs.Kept.{kept-same}
use Rattle.vb_index.proofs.Tables.{folder_in}
use Rattle.vb_index.proofs.Places.{Moves, may-moves, kept-place}
use Rattle.vb_index.proofs.table.Table.relocate.Goals as goal

pub invariant_of-self : goal.invariant_of-self
invariant_of-self c =
    kept-same c.self.inside _ c.self.invariant refl c.add_child.ensures.len (λ folder name d l. c.in_err-add_child.ensures.err folder name d l) refl refl refl

pub drop_child-requires : goal.drop_child-requires
drop_child-requires c =
    let there = c.self.invariant.table.in_folder c.args.slot c.in-Some.held.now (sym c.in-Some.ensures) c.requires.place.above_root in
    let in_table = folder_in c.self.inside.nodes.items c.in-Some.held.now.node.parent there in
    omega (arith, in_table, c.self.invariant.maps, c.add_child.ensures.len)

pub invariant_of-self-2 : goal.invariant_of-self-2
invariant_of-self-2 c =
    let held = c.in-Some.held.now in
    let P : List (Option Held) → Type 0 = λ nodes. MayPlace nodes c.args.slot c.args.folder c.args.name in
    let holds : held_at c.self.inside.nodes.items c.args.slot ≡ Some c.in-Some.held.now = sym c.in-Some.ensures in
    let m : Moves c.self.inside.nodes.items c.args.slot c.in-Some.held.now c.args.folder c.args.name =
    may-moves c.self.inside.nodes.items c.args.slot c.args.folder c.args.name c.in-Some.held.now c.self.invariant.table (subst P (sym c.self.view_is) c.requires.place) holds in
    let S : List (Option Held) → Type 0 = λ nodes. MayStand nodes c.args.slot c.args.folder c.args.name in
    let rooted = rooted-place c.self.inside.nodes.items c.args.slot c.in-Some.held.now c.args.folder c.args.name c.self.invariant.table c.self.invariant.rooted m (subst S (sym c.self.view_is) c.requires.stands) in
    kept-place c.self.inside _ c.args.slot c.in-Some.held.now c.args.folder c.args.name c.self.invariant m rooted (record {
      nodes = c.set_place.ensures ∙ ap (λ o. set c.self.inside.nodes.items c.args.slot (option_map (placed_in c.args.folder c.args.name) o)) holds;
      maps = c.drop_child.ensures.len ∙ c.add_child.ensures.len;
      found = λ t y d l.
          c.drop_child.ensures.gone t y d (omega (arith, l, c.add_child.ensures.len))
          ∙ ap (cond (c.in-Some.held.now.node.parent == t && same_name c.in-Some.held.now.node.name y) None)
          (c.in_ok-add_child.ensures.ok t y d l
          ∙ ap (λ own. cond (c.args.folder == t && same_name own y) (Some c.args.slot) (tree.get (slice_cmp nat_cmp) (get_or c.self.inside.children.items t d) y)) (c.in_ok-key.ensures ∙ c.slice.ensures));
      free = refl;
      count = refl;
      pages = refl;
    })
