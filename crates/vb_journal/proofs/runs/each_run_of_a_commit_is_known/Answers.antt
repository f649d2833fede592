use Rattle.vb_journal.proofs.CommitRuns.{commit-lost, commit-made}
use Rattle.vb_journal.specs.Plans.{call_at, next_stage}
use Rattle.vb_journal.specs.Progress.{IsCommitting}
use Rattle.std.proofs.Common.{length}
use Rattle.vb_steps.proofs.RunsKept.{run-keeps}
use Rattle.vb_journal.proofs.runs.each_run_of_a_commit_is_known.Goals as goal

pub returns : goal.returns
returns c head epoch images homes journal stage last d end events can is run =
    run-keeps (call_at head epoch images) (λ s got. next_stage (length images) s) (λ s m. IsCommitting head epoch images homes journal s m)
    (λ s m known. commit-made head epoch images homes journal s m can.images_are known)
    (λ s m left may known. commit-lost head epoch images homes journal s m left can may known)
    stage d events last end run is
