use Rattle.std.proofs.Common.{sym, ◌∙◌}
use Rattle.vb_sync.proofs.Indexing.{page-there, page-nowhere}
use Rattle.vb_sync.proofs.lookups.page_of.Goals as goal

pub returns-in-Some-clause-there : goal.returns-in-Some-clause-there
returns-in-Some-clause-there c =
    page-there c.args.digest.now c.args.listing.now.entries c.in-Some.place.now (sym (c.requires.pages_found c.args.digest.now) ∙ sym c.in-Some.ensures.value)

pub returns-in-None-clause-nowhere : goal.returns-in-None-clause-nowhere
returns-in-None-clause-nowhere c = λ published.
    page-nowhere c.args.digest.now c.args.listing.now.entries (sym (c.requires.pages_found c.args.digest.now) ∙ sym c.in-None.ensures.value) published.0 published.1 published.2
