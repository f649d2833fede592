use Rattle.std.proofs.Common.{arith, ◌∙◌}
use Rattle.vb_sync.proofs.Finding.{ok_no_err, of_err}
use Rattle.vb_sync.proofs.Asking.{next_told, never_refused, whole_view}
use Rattle.vb_sync.proofs.reading.list_entries.Goals as goal

pub returns-in-Err-clause-never_refused : goal.returns-in-Err-clause-never_refused
returns-in-Err-clause-never_refused g c = λ refusal is.
    let l = c.loop-i in
    never_refused (g.K.Link.shown l.link) (g.K.Link.shown c.entry.new.self) c.args.info.now l.i c.in-Err.error l.invariant.described (omega arith) c.in-Err.ensures.stays c.in-Err.ensures.entry refusal (of_err c.in-Err.error _ is)

pub returns-clause-view : goal.returns-clause-view
returns-clause-view g c =
    let l = c.loop-i in
    whole_view (g.K.Link.shown l.link) c.args.info.now l.i l.listing.entries l.invariant.described (omega arith) l.invariant.entries

pub add-requires-clause-few : goal.add-requires-clause-few
add-requires-clause-few g c =
    let l = c.loop-i in
    (next_told (g.K.Link.shown l.link) (g.K.Link.shown c.entry.new.self) c.args.info.now l.i l.listing.entries c.in-Ok.entry l.invariant.described l.invariant.entries (omega arith)
    (λ v was. c.in-Ok.ensures.stays v was (ok_no_err _ _)) c.in-Ok.ensures.entry (λ v was. g.met.K.Link.valid l.link v was)).few

pub add-requires-clause-pages : goal.add-requires-clause-pages
add-requires-clause-pages g c =
    let l = c.loop-i in
    (next_told (g.K.Link.shown l.link) (g.K.Link.shown c.entry.new.self) c.args.info.now l.i l.listing.entries c.in-Ok.entry l.invariant.described l.invariant.entries (omega arith)
    (λ v was. c.in-Ok.ensures.stays v was (ok_no_err _ _)) c.in-Ok.ensures.entry (λ v was. g.met.K.Link.valid l.link v was)).pages

pub loop-i-preserved : goal.loop-i-preserved
loop-i-preserved g c =
    let l = c.loop-i in
    let next = next_told (g.K.Link.shown l.link) (g.K.Link.shown c.entry.new.self) c.args.info.now l.i l.listing.entries c.in-Ok.entry l.invariant.described l.invariant.entries (omega arith)
    (λ v was. c.in-Ok.ensures.stays v was (ok_no_err _ _)) c.in-Ok.ensures.entry (λ v was. g.met.K.Link.valid l.link v was) in
    let faults = c.in-Ok.ensures.cause.kept in
    let before = l.invariant.faults in
    let called = c.in-Ok.ensures.called in
    let calls = l.invariant.called in
    record {
      described = next.described;
      stays = λ v was. c.in-Ok.ensures.stays v (l.invariant.stays v was) (ok_no_err _ _);
      entries = λ v there. c.in_ok-add-in-Ok.ensures.entries ∙ next.entries v there;
      index = c.in_ok-add-in-Ok.ensures.index;
      told = c.in-Ok.ensures.told ∙ l.invariant.told;
      sent = c.in-Ok.ensures.sent ∙ l.invariant.sent;
      faults = omega (arith, faults, before);
      left = record {
        told = λ some. c.in-Ok.ensures.left.told (l.invariant.left.told some);
        kept = λ some.
            let more = c.in-Ok.ensures.left.kept (l.invariant.left.told some) in
            let less = l.invariant.left.kept some in
            omega (arith, more, less);
      };
      called = omega (arith, called, calls);
    }
