use Rattle.std.proofs.Common.{◌≡◌, ◌<◌, ◌≤◌, Some, ap, arith, is_some, refl, subst, sym, ◌∙◌}
use Rattle.vb_event.specs.Answers.{due_view}
use Rattle.vb_local.specs.States.{frozen_in, frozen_state}
use Rattle.vb_folder.specs.Ledgers.{LedgerState}
use Rattle.vb_folder.specs.Sending.{DeviceMoment, HandsOver}
use Rattle.vb_folder.specs.contracts.ledger.Ledger.{the_view}
use Rattle.vb_folder.proofs.Sent.{is-sending, sent_now}
use Rattle.vb_folder.proofs.SentMade.{can-be-shown, sends-view}
use Rattle.vb_folder.proofs.ledger.Ledger.hand_over.Goals as goal

pub step-requires-clause-below : goal.step-requires-clause-below
step-requires-clause-below g c = λ i page reference on.
    let s = the_view c.self.inside in
    let frozen = frozen_state c.in-Some.frozen.now in
    let at : frozen_in s.local.phase ≡ Some frozen = sym c.in-Some.ensures in
    let sending = is-sending s c.self.invariant (ap (λ (x : LedgerState). x.unsure) c.self.view_is ∙ c.requires.sure) (ap (λ (x : LedgerState). is_some (due_view x.local.standing x.stage)) c.self.view_is ∙ c.requires.due) in
    let low : reference.place < s.local.view.head.blocks = c.frozen_pages_are_on_the_disk.ensures.below s.local frozen i page reference c.live-live.ensures.tied at (sends-view s frozen c.self.invariant sending at).apart on in
    let high : s.local.view.head.blocks ≤ g.D.Disk.seen c.args.disk.now = subst (λ (x : LedgerState). x.local.view.head.blocks ≤ g.D.Disk.seen c.args.disk.now) (sym c.self.view_is) c.requires.blocks in
    omega arith

pub returns-clause-sends : goal.returns-clause-sends
returns-clause-sends g c =
    let s = the_view c.self.inside in
    let frozen = frozen_state c.in-Some.frozen.now in
    let at : frozen_in s.local.phase ≡ Some frozen = sym c.in-Some.ensures in
    let law = c.frozen_pages_are_on_the_disk.ensures in
    let before : DeviceMoment = record {
      disk = g.D.Disk.told c.args.disk.now;
      link = record { cloud = g.K.Link.told c.args.link.now; left = g.K.Link.failures_left c.args.link.now };
      calls = record { disk = g.D.Disk.calls c.args.disk.now; link = g.K.Link.calls c.args.link.now; sends = g.K.Link.sends c.args.link.now };
    } in
    let after : DeviceMoment = record {
      disk = g.D.Disk.told c.step.new.disk;
      link = record { cloud = g.K.Link.told c.step.new.link; left = g.K.Link.failures_left c.step.new.link };
      calls = record { disk = g.D.Disk.calls c.step.new.disk; link = g.K.Link.calls c.step.new.link; sends = g.K.Link.sends c.step.new.link };
    } in
    subst (λ (x : LedgerState). HandsOver x (sent_now s c.step.new.self) before after c.step.result) c.self.view_is (record {
      frozen = frozen;
      view = at;
      others = refl;
      shown = can-be-shown s frozen (law.few s.local frozen c.live-live.ensures.tied at) (λ d t shows. law.tree d s.local t frozen shows at)
          (λ d t i page shows. law.backed d s.local t frozen i page c.live-live.ensures.tied shows at);
      steps = c.step.ensures.steps;
      read = c.step.ensures.called;
      called = c.step.ensures.link_called;
    })
