use Rattle.std.proofs.Common.{◌≤◌, ℕ, List, sym, subst, arith, length}
use Rattle.vb_tree.specs.Trees.{data_pages_of}
use Rattle.vb_index.specs.Indexes.{IndexState}
use Rattle.vb_active.specs.Files.{IsFileOf}
use Rattle.vb_active.specs.Views.{ActiveState, KeepsFiles}
use Rattle.vb_active.proofs.Replaced.{at_ok, file-pages, replaced-files, replaced-view, shrunk-pages}
use Rattle.vb_active.proofs.active.Active.shrink.Goals as goal

pub invariant_of-self-2 : goal.invariant_of-self-2
invariant_of-self-2 c =
    let old = c.self.inside in
    let P : ActiveState → Type 0 = λ v. (path : List (List ℕ)) × IsFileOf v.index.nodes path c.args.file.slot c.args.file.length in
    let f = subst P (sym c.self.view_is) c.requires.file in
    let file = f.1 in
    let few : data_pages_of c.args.len ≤ length file.held.refs = omega (arith, file-pages old.index.nodes f.0 c.args.file.slot c.args.file.length file, c.requires.fewer) in
    let pages = shrunk-pages old.table c.put_run.new.self c.cut.new.self c.args.file.slot c.args.len c.args.first c.pages_of.result c.args.run.items c.pages_of.ensures c.in_ok-put_run.ensures.ok c.cut.ensures in
    let made = at_ok c.set_length.result (c.set_length.ensures.shorter file.held file.there few) (c.set_length.ensures.nodes file.held file.there) in
    subst (λ (i : IndexState). KeepsFiles i.nodes c.cut.new.self) (sym made)
    (replaced-files old.index.nodes old.table c.cut.new.self c.args.file.slot c.args.len c.args.first c.args.run.items file.held file.there file.file c.self.invariant pages)

pub returns-clause-ok : goal.returns-clause-ok
returns-clause-ok c =
    let old = c.self.inside in
    let P : ActiveState → Type 0 = λ v. (path : List (List ℕ)) × IsFileOf v.index.nodes path c.args.file.slot c.args.file.length in
    let f = subst P (sym c.self.view_is) c.requires.file in
    let file = f.1 in
    let few : data_pages_of c.args.len ≤ length file.held.refs = omega (arith, file-pages old.index.nodes f.0 c.args.file.slot c.args.file.length file, c.requires.fewer) in
    let pages = shrunk-pages old.table c.put_run.new.self c.cut.new.self c.args.file.slot c.args.len c.args.first c.pages_of.result c.args.run.items c.pages_of.ensures c.in_ok-put_run.ensures.ok c.cut.ensures in
    let made = at_ok c.set_length.result (c.set_length.ensures.shorter file.held file.there few) (c.set_length.ensures.nodes file.held file.there) in
    replaced-view c.args.self.now old.index c.set_length.new.self old.table c.cut.new.self c.args.file.slot c.args.len c.args.first c.args.run.items file.held c.self.view_is file.there made pages
