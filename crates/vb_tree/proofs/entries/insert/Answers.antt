use Rattle.std.proofs.Common.{◌≡◌, Bool, ap, ◌∙◌, sym}
use Rattle.std.specs.List.{position_or_len, insert}
use Rattle.std.specs.Ordering.{is_lt}
use Rattle.vb_tree.specs.declared.tree.TreeEntry.{TreeEntry}
use Rattle.vb_path.specs.Paths.{path_cmp}
use Rattle.vb_tree.proofs.Lookups.{insert_entry-place}
use Rattle.vb_tree.proofs.entries.insert.Goals as goal

pub returns-clause-ok : goal.returns-clause-ok
returns-clause-ok c =
    let items = c.args.entries.now.items in
    let is_later : TreeEntry → Bool = λ e. is_lt (path_cmp c.args.entry.path e.path) in
    let place : c.place_for-place.result ≡ position_or_len is_later items =
    c.place_for-place.ensures.first ∙ ap (position_or_len is_later) c.deref.ensures.value in
    c.in_ok-insert.ensures.items
    ∙ ap (λ n. insert items n c.args.entry) place
    ∙ sym (insert_entry-place c.args.entry items)
