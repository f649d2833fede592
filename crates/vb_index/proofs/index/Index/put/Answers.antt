use Rattle.std.proofs.Common.{◌≡◌, List, Option, sym, ap, subst}
use Rattle.vb_index.specs.declared.held.Held.{Held}
use Rattle.vb_index.specs.Indexes.{IndexState, HasShapeOf}
use Rattle.vb_index.proofs.Additions.{on_ok-both, put_grown}
use Rattle.vb_index.proofs.Growth.{Fills}
use Rattle.vb_index.specs.Contents.{HasTree}
use Rattle.vb_index.proofs.Contents.{put-tree}
use Rattle.vb_index.proofs.index.Index.put.Goals as goal

pub returns-clause-tree : goal.returns-clause-tree
returns-clause-tree c = λ tree folder entry shape at path alike.
    let nodes : c.args.self.now.nodes ≡ c.self.inside.table = ap (λ (s : IndexState). s.nodes) (sym c.self.view_is) in
    let held : Held = record { node = c.args.node; refs = c.args.refs } in
    let P : List (Option Held) → Type 0 = λ ns. HasShapeOf ns tree in
    let F : List (Option Held) → Type 0 = λ ns. Fills ns c.args.node.slot (record { node = c.args.node; refs = c.args.refs }) in
    let fills : Fills c.self.inside.table c.args.node.slot (record { node = c.args.node; refs = c.args.refs }) = subst F nodes (record {
      there = c.requires.in_table;
      above_root = c.requires.above_root;
      free = c.requires.free;
      in_folder = c.requires.in_folder;
      new_name = c.requires.new_name;
      fits = c.requires.fits;
    }) in
    on_ok-both c.put.result c.put.ensures.table c.put.ensures.ok (λ table new.
    put_grown c.self.inside.table c.put.new.self tree c.args.node.slot (record { node = c.args.node; refs = c.args.refs }) folder entry table new (subst P nodes shape) fills (rw (← nodes) at) path alike)

pub returns-clause-contents : goal.returns-clause-contents
returns-clause-contents c = λ pages tree folder entry has at valid path alike here.
    let nodes : c.args.self.now.nodes ≡ c.self.inside.table = ap (λ (s : IndexState). s.nodes) (sym c.self.view_is) in
    let P : List (Option Held) → Type 0 = λ ns. HasTree ns pages tree in
    let F : List (Option Held) → Type 0 = λ ns. Fills ns c.args.node.slot (record { node = c.args.node; refs = c.args.refs }) in
    let fills : Fills c.self.inside.table c.args.node.slot (record { node = c.args.node; refs = c.args.refs }) = subst F nodes (record {
      there = c.requires.in_table;
      above_root = c.requires.above_root;
      free = c.requires.free;
      in_folder = c.requires.in_folder;
      new_name = c.requires.new_name;
      fits = c.requires.fits;
    }) in
    on_ok-both c.put.result c.put.ensures.table c.put.ensures.ok (λ table new.
    put-tree c.self.inside.table c.put.new.self tree c.args.node.slot (record { node = c.args.node; refs = c.args.refs }) folder entry pages table new (subst P nodes has) fills (rw (← nodes) at) valid path alike here)
