use Rattle.std.proofs.Common.{◌≡◌, None, ap, ◌∙◌, rules}
use Rattle.std.specs.Map.{lookup}
use Rattle.std.specs.Str.{bytes_eq}
use Rattle.indexmap.proofs.CallerLemmas.{insert_entry-new}
use Rattle.vb_sync.proofs.Finding.{lookup-snoc, none_of}
use Rattle.vb_sync.proofs.noting.note_page.Goals as goal

pub returns-in_ok-insert : goal.returns-in_ok-insert
returns-in_ok-insert c = λ other.
    let pages = c.args.pages.now in
    let none : lookup (bytes_eq c.args.digest) pages.entries ≡ None = none_of _ (search rules) in
    ap (lookup (bytes_eq other)) (c.in_ok-insert.ensures.entries ∙ insert_entry-new bytes_eq pages c.args.digest c.args.place none)
    ∙ lookup-snoc (bytes_eq other) pages.entries c.args.digest c.args.place
