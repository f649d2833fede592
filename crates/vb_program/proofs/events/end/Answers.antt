use Rattle.std.proofs.Common.{max, ap}
use Rattle.vb_core.specs.Folders.{ledger_in}
use Rattle.vb_event.specs.declared.answer.FolderAnswer.TheVariants as answers
use Rattle.vb_event.specs.declared.event.FolderEvent.TheVariants as events
use Rattle.vb_faultless.proofs.Answered.{end-blames}
use Rattle.vb_folder.specs.Ledgers.{LedgerState}
use Rattle.vb_program.proofs.Answered.{stays-makes, Stays}
use Rattle.vb_program.proofs.events.end.Goals as goal

pub returns-clause-ok : goal.returns-clause-ok
returns-clause-ok c = λ t r.
    let old = c.args.folder.now in
    let mid = c.reserve.new.self in
    let new = c.end.new.self in
    let room = max (ledger_in old).history.spare 1 in
    let stays : Stays old mid new room = record {
      reserved = c.in_ok-reserve.ensures.ok;
      disk_reserved = c.in_ok-reserve.ensures.disk;
      link_reserved = c.in_ok-reserve.ensures.link;
      disk = c.end.ensures.disk;
      link = c.end.ensures.link;
      head = ap (λ (s : LedgerState). s.local.view.head) c.end.ensures.others;
    } in
    stays-makes old mid new t room (events.End c.args.writer) answers.Ended stays c.end.ensures.makes end-blames (λ e. cc e) (λ made same. same) r
