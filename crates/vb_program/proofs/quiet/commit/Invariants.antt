-- the view is on its way, and its commit isn't at rest
use Rattle.std.proofs.Common.{◌≡◌, ◌≢◌, ℕ, List, length}
use Rattle.vb_core.specs.Folders.{ledger_in}
use Rattle.vb_hist.specs.declared.entry.Entry.{Entry}
use Rattle.vb_hist.specs.declared.entry.Stage.TheVariants as stages
use Rattle.vb_local.specs.Answers.{answers_left}
use Rattle.vb_program.specs.Playing.{last_epoch_in, limits_in, IsUnderWay}
use Rattle.vb_program.proofs.quiet.commit.Given as goal

abbrev pub invariant-steps : goal.invariant-steps
invariant-steps l = record {
  some : (history : List Entry) × (by : ℕ) × IsUnderWay history by l.folder;
  way : (history : List Entry) (by : ℕ) → IsUnderWay history by l.fn.folder → IsUnderWay history by l.folder;
  on : (ledger_in l.folder).stage ≢ stages.Rested;
  epoch : last_epoch_in l.folder ≡ last_epoch_in l.fn.folder;
  limits : limits_in l.folder ≡ limits_in l.fn.folder;
}

abbrev pub decreases-steps : goal.decreases-steps
decreases-steps l = length (answers_left (ledger_in l.folder).local)
