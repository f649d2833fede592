use Rattle.std.proofs.Common.{refl, sym, ap, ◌∙◌, arith}
use Rattle.std.proofs.lemmas.Option.{slice_get_past}
use Rattle.vb_upload.specs.Cursors.{message_of_entry}
use Rattle.vb_upload.proofs.Behind.{sendable-at}
use Rattle.vb_publish.proofs.Names.{publish-same}
use Rattle.vb_upload.proofs.message.entry_message.Goals as goal

pub returns-then-i-count : goal.returns-then-i-count
returns-then-i-count c =
    let order = c.args.frozen.now.order in
    let epoch = c.args.epoch.number in
    publish-same c.args.epoch epoch refl ∙ ap (message_of_entry epoch) (sym (slice_get_past order c.args.i (omega arith)))

pub enter_message-requires : goal.enter_message-requires
enter_message-requires c = sendable-at c.args.frozen.now.order c.args.i c.entry-entry.result.now c.requires.sendable c.entry-entry.ensures
