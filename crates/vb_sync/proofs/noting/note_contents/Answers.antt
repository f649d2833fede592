use Rattle.std.proofs.Common.{◌≡◌, List, ℕ, Some, subst}
use Rattle.std.specs.Map.{lookup}
use Rattle.std.specs.Global.{Vec}
use Rattle.vb_block.specs.declared.digest.Digest.{Digest}
use Rattle.vb_sync.specs.Published.{same_digests}
use Rattle.vb_sync.specs.Indexes.{NotesContents}
use Rattle.vb_sync.proofs.Finding.{ok_goes}
use Rattle.vb_sync.proofs.Indexing.{file-noted}
use Rattle.vb_sync.proofs.noting.note_contents.Goals as goal

pub returns : goal.returns
returns c = λ entries pages noted is count notes file.
    let old = c.args.contents.now.entries in
    let new = c.first_of.new.contents.entries in
    let first = c.in_ok-first.first in
    let contents = subst (λ (ds : List (List ℕ)). NotesContents old new c.args.i ds) c.slice.ensures c.in_ok-first.ensures.noted in
    let at = subst (λ (ds : List (List ℕ)). lookup (λ (key : Vec Digest). same_digests ds key.items) new ≡ Some first) c.slice.ensures c.in_ok-first.ensures.first in
    ok_goes c.note_file.result (λ files.
    file-noted c.args.i entries c.args.file.now pages old c.args.files.now.entries noted new c.note_file.new.files.entries first count is file notes contents at files) c.note_file.ensures
