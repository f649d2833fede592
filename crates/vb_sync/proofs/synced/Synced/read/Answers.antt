use Rattle.vb_link.specs.Views.{LinkView}
use Rattle.vb_sync.proofs.Asking.{told_of}
use Rattle.vb_sync.proofs.synced.Synced.read.Goals as goal

pub invariant_of-result : goal.invariant_of-result
invariant_of-result g c =
    let info = c.in-Ok.info in
    let listing = c.in-Ok-list_entries.listing in
    let link = c.list_entries.new.link in
    let view : LinkView = record { id = info.id; epoch = info.epoch; entries = listing.entries } in
    let shown = c.in-Ok-list_entries.ensures.view in
    record {
      told = told_of (g.K.Link.shown link) view info c.in-Ok-list_entries.ensures.described shown;
      valid = g.met.K.Link.valid link view shown;
      index = c.in-Ok-list_entries.ensures.index;
    }
