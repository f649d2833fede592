use Rattle.std.proofs.Common.{◌≡◌, ◌+◌, ◌∷◌, ◌++◌, [], false, ◌&&◌, ◌==◌, cond, List, get_or, Option, Some, refl, sym, ap, ◌∙◌, subst}
use Rattle.std.specs.BTreeMap as tree
use Rattle.std.specs.Ordering.{nat_cmp}
use Rattle.std.specs.Cmp.Lexicographic.{slice_cmp}
use Rattle.vb_index.specs.declared.held.Held.{Held}
use Rattle.vb_tree.specs.Renames.{is_deep}
use Rattle.vb_index.specs.Heights.{path_to}
use Rattle.vb_index.specs.Nodes.{same_name, IsTable}
use Rattle.vb_index.proofs.Growth.{Fills}
use Rattle.vb_index.proofs.Heights.{rooted-fill}
use Rattle.vb_index.proofs.Kept.{kept-same, kept-fill}
use Rattle.vb_index.proofs.table.Table.put.Goals as goal

pub invariant_of-self : goal.invariant_of-self
invariant_of-self c =
    kept-same c.self.inside _ c.self.invariant refl c.add_child.ensures.len (λ folder name d l. c.in_err-add_child.ensures.err folder name d l) refl refl refl

pub invariant_of-self-2 : goal.invariant_of-self-2
invariant_of-self-2 c =
    let P : List (Option Held) → Type 0 = λ nodes. Fills nodes c.args.held.node.slot c.args.held in
    let fills : Fills c.self.inside.nodes.items c.args.held.node.slot c.args.held = subst P (sym c.self.view_is) (record {
      there = c.requires.in_table;
      above_root = c.requires.above_root;
      free = c.requires.free;
      in_folder = c.requires.in_folder;
      new_name = c.requires.new_name;
      fits = c.requires.fits;
    }) in
    let D : List (Option Held) → Type 0 = λ nodes. is_deep (path_to nodes c.args.held.node.parent ++ c.args.held.node.name ∷ []) ≡ false in
    let rooted = rooted-fill c.self.inside.nodes.items c.args.held.node.slot c.args.held c.self.invariant.table c.self.invariant.rooted fills c.requires.valid (subst D (sym c.self.view_is) c.requires.shallow) in
    kept-fill c.self.inside _ c.args.held.node.slot c.args.held c.self.invariant fills rooted (record {
      nodes = refl;
      maps = c.add_child.ensures.len;
      found = λ folder name d l. c.in_ok-add_child.ensures.ok folder name d l
          ∙ ap (λ own. cond (c.args.held.node.parent == folder && same_name own name) (Some c.args.held.node.slot) (tree.get (slice_cmp nat_cmp) (get_or c.self.inside.children.items folder d) name)) (c.in_ok-name.ensures ∙ c.slice.ensures);
      free = c.remove.ensures.updates.0;
      count = refl;
      pages = ap (λ n. c.self.inside.pages + n) c.pages_of.ensures;
    })

pub returns-clause-table : goal.returns-clause-table
returns-clause-table c = subst IsTable c.self.view_is c.self.invariant.table
