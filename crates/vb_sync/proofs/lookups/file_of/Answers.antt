use Rattle.std.proofs.Common.{sym, ◌∙◌}
use Rattle.vb_sync.proofs.Indexing.{no_file}
use Rattle.vb_sync.proofs.lookups.file_of.Goals as goal

pub returns-in-Some : goal.returns-in-Some
returns-in-Some c =
    c.file_with.ensures ∙ c.requires.files_found c.args.digests.now c.in-Some.first.now c.args.length (sym (c.requires.contents_found c.args.digests.now) ∙ sym c.in-Some.ensures.value)

pub returns-in-None : goal.returns-in-None
returns-in-None c =
    sym (no_file c.args.length c.args.digests.now c.args.listing.now.entries (sym (c.requires.contents_found c.args.digests.now) ∙ sym c.in-None.ensures.value))
