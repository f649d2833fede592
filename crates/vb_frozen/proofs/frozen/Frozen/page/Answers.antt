use Rattle.std.proofs.Common.{◌≡◌, ap, sym, ◌∙◌, slice_get}
use Rattle.std.specs.Option.{option_and_then}
use Rattle.vb_pages.specs.Tables.{kept_page}
use Rattle.vb_frozen.specs.declared.entry.FrozenEntry.{FrozenEntry}
use Rattle.vb_frozen.specs.Views.{page_kept, page_ref}
use Rattle.vb_frozen.proofs.GivenPages.{page-given, some-in, some-of}
use Rattle.vb_frozen.proofs.frozen.Frozen.page.Goals as goal

pub returns-clause-given : goal.returns-clause-given
returns-clause-given g c =
    let f = c.args.self.now in
    let k = c.args.page in
    let entry = c.entry.result.now in
    let reference = some-of (page_ref f.order c.args.i k) c.requires.there in
    let read = c.page_of_entry.ensures in
    let seen : page_kept f.order f.pages c.args.i k ≡ kept_page f.pages entry.slot k = ap (option_and_then (λ (x : FrozenEntry). kept_page f.pages x.slot k)) c.entry.ensures in
    record {
      kept = λ bytes there. read.kept bytes (sym seen ∙ there);
      answer = λ r out. read.answer r (sym seen ∙ out.apart) (some-in (λ (x : FrozenEntry). slice_get x.refs k) (slice_get f.order c.args.i) entry r c.entry.ensures out.at);
      read = λ d r told out. read.read d r told (sym seen ∙ out.apart) (some-in (λ (x : FrozenEntry). slice_get x.refs k) (slice_get f.order c.args.i) entry r c.entry.ensures out.at);
      contents = λ d tree e told has backed there within.
          page-given f.pages d f.order tree c.args.i k entry e c.page_of_entry.result (g.met.D.Disk.valid c.args.disk.now d told) has c.entry.ensures there within reference.0 reference.1 backed read.kept read.answer (λ r. read.read d r told);
    }
