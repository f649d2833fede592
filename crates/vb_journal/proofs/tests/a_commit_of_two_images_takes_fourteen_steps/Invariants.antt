use Rattle.std.proofs.Common.{◌≤◌}
use Rattle.vb_journal.specs.Commits.{head_of}
use Rattle.vb_journal.proofs.tests.a_commit_of_two_images_takes_fourteen_steps.Given as goal

abbrev pub invariant-answers : goal.invariant-answers
invariant-answers g l = (head_of l.commit).blocks ≤ 38
