use Rattle.vb_cloud.specs.Machine.{CloudState}
use Rattle.vb_folder.proofs.RunsMade.{event-of, run-step, IsEvent}
use Rattle.vb_folder.proofs.laws.calls_are_steps_of_a_run.Goals as goal

pub returns : goal.returns
returns c = λ o event answer old new disk_before disk_after before after t k disk disk_later link link_later happens sound cause.
    let one : IsEvent o event answer old new disk_before disk_after before.cloud after.cloud t k = event-of o event answer old new disk_before disk_after before after t k happens sound in
    (one.given, one.is_given, run-step o event answer old new disk_before disk_after before.cloud after.cloud t k disk disk_later link link_later sound one cause)
