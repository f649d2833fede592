use Rattle.std.proofs.Common.{◌≡◌, ◌≤◌, length, IsSome, ℕ, List, sym, ap, subst, ◌∙◌, arith}
use Rattle.vb_tree.specs.Trees.{data_pages_of}
use Rattle.vb_index.specs.Changes.{resized}
use Rattle.vb_index.specs.Indexes.{IndexState}
use Rattle.vb_active.specs.Files.{IsFileOf}
use Rattle.vb_active.specs.Views.{ActiveState, KeepsFiles, ref_at}
use Rattle.vb_pages.specs.Tables.{kept_page}
use Rattle.vb_active.proofs.Replaced.{at_ok, file-pages, grown-pages, length-refs_for, replaced-files, replaced-view, resized-there, undone-index}
use Rattle.vb_active.proofs.active.Active.grow.Goals as goal

pub invariant_of-self-in-Ok : goal.invariant_of-self-in-Ok
invariant_of-self-in-Ok c =
    let old = c.self.inside in
    let P : ActiveState → Type 0 = λ v. (path : List (List ℕ)) × IsFileOf v.index.nodes path c.args.file.slot c.args.file.length in
    let f = subst P (sym c.self.view_is) c.requires.file in
    let file = f.1 in
    let pages = grown-pages old.index.nodes old.table c.put_run.new.self c.args.file.slot c.args.len c.args.first c.args.run.items file.held file.there file.file (omega (arith, file-pages old.index.nodes f.0 c.args.file.slot c.args.file.length file, c.requires.more)) c.requires.ends c.self.invariant c.in-Ok.ensures.ok in
    let made = c.in_ok-set_length.ensures.nodes file.held file.there in
    subst (λ (i : IndexState). KeepsFiles i.nodes c.put_run.new.self) (sym made)
    (replaced-files old.index.nodes old.table c.put_run.new.self c.args.file.slot c.args.len c.args.first c.args.run.items file.held file.there file.file c.self.invariant pages)

pub returns-in-Ok-clause-ok : goal.returns-in-Ok-clause-ok
returns-in-Ok-clause-ok c =
    let old = c.self.inside in
    let P : ActiveState → Type 0 = λ v. (path : List (List ℕ)) × IsFileOf v.index.nodes path c.args.file.slot c.args.file.length in
    let f = subst P (sym c.self.view_is) c.requires.file in
    let file = f.1 in
    let pages = grown-pages old.index.nodes old.table c.put_run.new.self c.args.file.slot c.args.len c.args.first c.args.run.items file.held file.there file.file (omega (arith, file-pages old.index.nodes f.0 c.args.file.slot c.args.file.length file, c.requires.more)) c.requires.ends c.self.invariant c.in-Ok.ensures.ok in
    replaced-view c.args.self.now old.index c.set_length.new.self old.table c.put_run.new.self c.args.file.slot c.args.len c.args.first c.args.run.items file.held c.self.view_is file.there (c.in_ok-set_length.ensures.nodes file.held file.there) pages

back : (c : goal.After-set_length-in-Err) → c.set_length-in-Err.new.self ≡ c.self.inside.index
back c =
    let old = c.self.inside in
    let P : ActiveState → Type 0 = λ v. (path : List (List ℕ)) × IsFileOf v.index.nodes path c.args.file.slot c.args.file.length in
    let f = subst P (sym c.self.view_is) c.requires.file in
    let file = f.1 in
    let long = c.args.file.length in
    let len = c.args.len in
    let each = file-pages old.index.nodes f.0 c.args.file.slot long file in
    let made = c.in_ok-set_length.ensures.nodes file.held file.there in
    let there = resized-there old.index c.set_length.new.self c.args.file.slot len file.held file.there made in
    let few : data_pages_of long ≤ length (resized len file.held).refs = omega (arith, c.requires.more, length-refs_for len file.held.refs) in
    let again = at_ok c.set_length-in-Err.result (c.set_length-in-Err.ensures.shorter (resized len file.held) there few) (c.set_length-in-Err.ensures.nodes (resized len file.held) there) in
    undone-index old.index c.set_length.new.self c.set_length-in-Err.new.self c.args.file.slot len long file.held file.there file.long each (omega (arith, c.requires.more)) made again

pub invariant_of-self-in-Err : goal.invariant_of-self-in-Err
invariant_of-self-in-Err c = λ s k some.
    subst (λ (i : IndexState). IsSome (ref_at i.nodes s k)) (sym (back c)) (c.self.invariant s k (subst (λ t. IsSome (kept_page t s k)) c.in-Err.ensures.err some))

pub returns-in-Err-clause-err : goal.returns-in-Err-clause-err
returns-in-Err-clause-err c =
    ap (λ i. record { index = i; pages = c.put_run.new.self }) (back c)
    ∙ ap (λ t. record { index = c.self.inside.index; pages = t }) c.in-Err.ensures.err
    ∙ c.self.view_is
