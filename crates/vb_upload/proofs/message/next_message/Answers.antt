use Rattle.std.proofs.Common.{ℕ, sym, ap, ◌∙◌, slice_get}
use Rattle.vb_upload.specs.Cursors.{message_of_entry}
use Rattle.vb_upload.specs.Steps.{epoch_of, cursor_of}
use Rattle.vb_upload.proofs.Positions.{next-begin, next-entry, next-page, next-sealed}
use Rattle.vb_publish.proofs.Names.{begin-same}
use Rattle.vb_upload.proofs.message.next_message.Goals as goal

pub returns-in-Begin-clause-planned : goal.returns-in-Begin-clause-planned
returns-in-Begin-clause-planned g c = λ d tree told view.
    let upload = c.args.upload.now in
    next-begin c.args.frozen.now.order tree (epoch_of upload) (cursor_of upload) _ (sym c.cursor.ensures ∙ c.in-Begin.is) (begin-same c.epoch.result (epoch_of upload) (sym c.epoch.ensures))

pub returns-in_ok-entry_message-in-Entry-clause-planned : goal.returns-in_ok-entry_message-in-Entry-clause-planned
returns-in_ok-entry_message-in-Entry-clause-planned g c = λ d tree told view.
    let upload = c.args.upload.now in
    let f = c.args.frozen.now in
    next-entry f.order f.pages d tree (epoch_of upload) (cursor_of upload) c.in-Entry.i c.in_ok-entry_message-in-Entry.field-0 (sym c.cursor.ensures ∙ c.in-Entry.is) view c.requires.stands
    (◌∙◌ {b = message_of_entry c.epoch-in-Entry.result.number (slice_get c.args.frozen.now.order c.in-Entry.i)} c.in_ok-entry_message-in-Entry.ensures (ap (λ (n : ℕ). message_of_entry n (slice_get c.args.frozen.now.order c.in-Entry.i)) c.epoch-in-Entry.ensures))

pub returns-in-Page-clause-planned : goal.returns-in-Page-clause-planned
returns-in-Page-clause-planned g c = λ d tree told view.
    let upload = c.args.upload.now in
    let f = c.args.frozen.now in
    next-page f.order f.pages d tree (epoch_of upload) (cursor_of upload) c.in-Page.i c.in-Page.page c.page_message.result (sym c.cursor.ensures ∙ c.in-Page.is) view c.requires.stands
    (λ e here there. c.page_message.ensures.part d tree e told here there)

pub returns-in_ok-enter_message-in-Sealed-clause-planned : goal.returns-in_ok-enter_message-in-Sealed-clause-planned
returns-in_ok-enter_message-in-Sealed-clause-planned g c = λ d tree told view.
    let upload = c.args.upload.now in
    let f = c.args.frozen.now in
    next-sealed f.order f.pages d tree (epoch_of upload) (cursor_of upload) c.in-Sealed.i c.entry.result.now c.in_ok-enter_message-in-Sealed.field-0 (sym c.cursor.ensures ∙ c.in-Sealed.is) view c.requires.stands c.entry.ensures (c.in_ok-enter_message-in-Sealed.ensures)
