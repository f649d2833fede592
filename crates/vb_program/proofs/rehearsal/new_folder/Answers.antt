use Rattle.std.proofs.Common.{Some, length, ap, refl}
use Rattle.vb_core.specs.Greetings.{link_seen}
use Rattle.vb_link.specs.Memory.{cloud_of, link_failures_left_of}
use Rattle.vb_program.proofs.NewFolders.{started-quiet, started-refused, Started, IsNewCloud}
use Rattle.vb_program.proofs.rehearsal.new_folder.Goals as goal

pub unreachable-requires : goal.unreachable-requires
unreachable-requires c =
    c.in_default.not-Memory (started-refused _ _ _ c.in-Err.refused.why (ap Some c.new.ensures.cloud, ap (λ fs. Some (length fs)) c.new.ensures.failures) c.in-Err.ensures.greets)

pub returns-in-Ok-clause-quiet : goal.returns-in-Ok-clause-quiet
returns-in-Ok-clause-quiet c =
    started-quiet _ _ _ c.in_ok-mounted.mounted _ c.in-Ok.folder (record {
      store = c.in_ok-mounted.ensures;
      cloud = (ap Some c.new.ensures.cloud, ap (λ fs. Some (length fs)) c.new.ensures.failures);
      after = _;
      after_left = refl;
      greets = c.in-Ok.ensures.greets;
      disk = c.in-Ok.ensures.disk;
      begins = c.in-Ok.ensures.begins;
      opened = c.in-Ok.ensures.starts;
    })
