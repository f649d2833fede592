use Rattle.std.proofs.Common.{Err}
use Rattle.vb_folder.proofs.Sent.{is-sending}
use Rattle.vb_folder.proofs.SentMade.{damaged-sent, fault-uploads, sent-calls, step-uploads}
use Rattle.vb_folder.proofs.ledger.Ledger.send.Goals as goal

pub returns-in-Ok-clause-uploads : goal.returns-in-Ok-clause-uploads
returns-in-Ok-clause-uploads g c =
    step-uploads
    (record {
      taken = c.messages_show_what_is_due.ensures.taken;
      sent = c.messages_show_what_is_due.ensures.sent;
      failed = c.messages_show_what_is_due.ensures.failed;
      within = c.a_message_is_due_at_each_cursor.ensures.within;
      counts = c.a_message_is_due_at_each_cursor.ensures.counts;
      there = c.plans_have_lengths.ensures.there;
    })
    c.in-Ok.step c.args.self.now c.hand_over.new.self c.note_step.new.self _ _ c.requires.spare c.local-kept.ensures.kept
    (is-sending c.args.self.now c.local-kept.ensures.kept c.requires.sure c.requires.due) c.in-Ok.ensures.sends c.note_step.ensures

pub returns-in-Err-clause-uploads : goal.returns-in-Err-clause-uploads
returns-in-Err-clause-uploads g c =
    fault-uploads
    (record {
      taken = c.messages_show_what_is_due.ensures.taken;
      sent = c.messages_show_what_is_due.ensures.sent;
      failed = c.messages_show_what_is_due.ensures.failed;
      within = c.a_message_is_due_at_each_cursor.ensures.within;
      counts = c.a_message_is_due_at_each_cursor.ensures.counts;
      there = c.plans_have_lengths.ensures.there;
    })
    c.in-Err.error c.is_last-last.result c.args.self.now c.hand_over.new.self c.note_error.new.self _ _ c.requires.spare c.local-kept.ensures.kept
    (is-sending c.args.self.now c.local-kept.ensures.kept c.requires.sure c.requires.due) c.in-Err.ensures.sends
    (c.is_last-last.ensures c.in-Err.ensures.sends.frozen c.in-Err.ensures.sends.view) c.note_error.ensures

pub returns-in-Err-clause-calls : goal.returns-in-Err-clause-calls
returns-in-Err-clause-calls g c =
    sent-calls c.args.self.now c.hand_over.new.self _ _ (Err c.in-Err.error) (is-sending c.args.self.now c.local-kept.ensures.kept c.requires.sure c.requires.due) c.in-Err.ensures.sends

pub returns-in-Err-clause-damaged : goal.returns-in-Err-clause-damaged
returns-in-Err-clause-damaged g c = damaged-sent c.is_last-last.result c.in-Err.error c.args.self.now c.hand_over.new.self c.note_error.new.self c.in-Err.ensures.sends.others c.note_error.ensures
