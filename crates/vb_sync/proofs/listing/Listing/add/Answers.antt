use Rattle.std.proofs.Common.{rules, ◌≡◌, List, ℕ, length, sym, subst}
use Rattle.vb_sync.specs.Indexes.{IsIndex, NotesPages}
use Rattle.vb_sync.proofs.Finding.{ok_goes}
use Rattle.vb_sync.proofs.listing.Listing.add.Goals as goal

pub returns-clause-index : goal.returns-clause-index
returns-clause-index c =
    let old = c.args.self.now in
    let pages = c.note_pages.new.pages.entries in
    let count : length old.entries ≡ c.len-i.result = search rules in
    let noted = subst (λ (ds : List (List ℕ)). NotesPages old.pages.entries pages c.len-i.result ds) c.slice.ensures c.in_ok-note_pages.ensures in
    let index = c.in_ok-note_entry.ensures old.entries old.pages.entries pages c.requires.index count noted in
    ok_goes c.add.result (λ added. subst (λ es. IsIndex es pages c.note_entry.new.contents.entries c.note_entry.new.files.entries) (sym added) index) c.add.ensures.ok
