use Rattle.std.proofs.Common.{rules, ◌≡◌, ◌+◌, ◌*◌, List, false, length, refl, sym, ap, subst, ◌∙◌}
use Rattle.vb_disk.specs.declared.disk_error.DiskError.TheVariants.{Memory}
use Rattle.vb_disk.specs.States.{DiskCall}
use Rattle.vb_journal.specs.declared.commit.Commit.{Commit}
use Rattle.vb_journal.specs.declared.commit_stage.CommitStep.{CommitStep}
use Rattle.vb_journal.specs.declared.commit_stage.CommitStep.TheVariants.{Idle}
use Rattle.vb_journal.specs.declared.commit_stage.Stage.{Stage}
use Rattle.vb_journal.specs.Calls.{MakesFirst}
use Rattle.vb_journal.specs.Commits.{calls_left}
use Rattle.vb_journal.specs.Data.{is_sync}
use Rattle.vb_journal.specs.Plans.{due_call, is_rested, next_stage}
use Rattle.vb_journal.specs.Progress.{GoesOn}
use Rattle.vb_journal.proofs.DriverSteps.{due-gone, due-made, due-sync}
use Rattle.vb_steps.specs.Calls.{is_read, is_write}
use Rattle.vb_journal.proofs.DataPlaces.{LeavesFrom-gone, LeavesFrom-made, LeavesFrom-none, answers_sync, due_below}
use Rattle.vb_journal.proofs.FirstCalls.{done, error-too, gone, first_gone, first_made}
use Rattle.vb_journal.proofs.PlanSteps.{answer_to-calls_from, calls_from-same}
use Rattle.vb_journal.proofs.StepsOfCommits.{goes_on-gone, goes_on-made, goes_on-none}
use Rattle.vb_steps.proofs.StepsMade.{none-within}
use Rattle.vb_journal.proofs.commit.Commit.step.Goals as goal

pub returns-then-is_rested-clause-crash : goal.returns-then-is_rested-clause-crash
returns-then-is_rested-clause-crash g c homes journal =
    let old = c.args.self.now in
    goes_on-none old.head old.epoch old.images homes journal old.stage (g.D.Disk.told c.args.disk.now) (g.D.Disk.told c.args.disk.now) old.can (λ d told. g.met.D.Disk.valid c.args.disk.now d told) refl

pub returns-then-is_rested-clause-data : goal.returns-then-is_rested-clause-data
returns-then-is_rested-clause-data g c =
    let old = c.args.self.now in
    LeavesFrom-none (2 + 2 * old.head.nodes) (g.D.Disk.told c.args.disk.now) (g.D.Disk.told c.args.disk.now) (done Idle) (λ cell. refl) refl

pub returns-in-Ok-clause-calls : goal.returns-in-Ok-clause-calls
returns-in-Ok-clause-calls g c =
    let old = c.args.self.now in
    let new = c.step.new.machine in
    let going : is_rested c.args.self.now.stage ≡ false = sym c.is_rested.ensures ∙ c.if-is_rested.false in
    let goes = c.in-Ok.ensures.steps.went.goes in
    let same = calls_from-same old.head new.head old.epoch new.epoch old.images new.images (next_stage (length old.images) old.stage) new.stage goes.head_is goes.epoch_is goes.images_are goes.stage_is in
    let Q : List DiskCall → Type 0 = λ l. MakesFirst (calls_left c.args.self.now) l (g.D.Disk.told c.args.disk.now) (g.D.Disk.told c.step.new.disk) (done c.answer-answer.result) in
    subst Q (sym same) (first_made (Unit {0}) CommitStep old.head old.epoch old.images old.stage (g.D.Disk.told c.args.disk.now) (g.D.Disk.told c.step.new.disk) c.in-Ok.field-0 c.answer-answer.result going (due-made old.head old.epoch old.images old.stage (g.D.Disk.told c.args.disk.now) (g.D.Disk.told c.step.new.disk) c.in-Ok.field-0 going c.in-Ok.ensures.steps))

pub returns-in-Ok-clause-answer : goal.returns-in-Ok-clause-answer
returns-in-Ok-clause-answer g c =
    let old = c.args.self.now in
    let going : is_rested c.args.self.now.stage ≡ false = sym c.is_rested.ensures ∙ c.if-is_rested.false in
    c.answer-answer.ensures ∙ sym (answer_to-calls_from old.head old.epoch old.images old.stage going)

pub returns-in-Ok-clause-data : goal.returns-in-Ok-clause-data
returns-in-Ok-clause-data g c =
    let old = c.args.self.now in
    let going : is_rested c.args.self.now.stage ≡ false = sym c.is_rested.ensures ∙ c.if-is_rested.false in
    LeavesFrom-made (2 + 2 * old.head.nodes) (due_call old.head old.epoch old.images old.stage) (g.D.Disk.told c.args.disk.now) (g.D.Disk.told c.step.new.disk) c.answer-answer.result
    (due_below old.head old.epoch old.images old.stage old.can.finish) (ap is_sync c.answer-answer.ensures ∙ answers_sync old.head old.epoch old.images old.stage going) (due-made old.head old.epoch old.images old.stage (g.D.Disk.told c.args.disk.now) (g.D.Disk.told c.step.new.disk) c.in-Ok.field-0 going c.in-Ok.ensures.steps).made

pub returns-in-Ok-clause-crash : goal.returns-in-Ok-clause-crash
returns-in-Ok-clause-crash g c homes journal =
    let old = c.args.self.now in
    let going : is_rested c.args.self.now.stage ≡ false = sym c.is_rested.ensures ∙ c.if-is_rested.false in
    let Q : Stage → Type 0 = λ s. GoesOn c.args.self.now.head c.args.self.now.epoch c.args.self.now.images homes journal c.args.self.now.stage s (g.D.Disk.told c.args.disk.now) (g.D.Disk.told c.step.new.disk) in
    subst Q (sym c.in-Ok.ensures.steps.went.goes.stage_is) (goes_on-made old.head old.epoch old.images homes journal old.stage (g.D.Disk.told c.args.disk.now) (g.D.Disk.told c.step.new.disk) old.can (λ d told. g.met.D.Disk.valid c.args.disk.now d told) (λ d told. g.met.D.Disk.valid c.step.new.disk d told) going (due-made old.head old.epoch old.images old.stage (g.D.Disk.told c.args.disk.now) (g.D.Disk.told c.step.new.disk) c.in-Ok.field-0 going c.in-Ok.ensures.steps).made)

pub returns-in-Err-clause-calls : goal.returns-in-Err-clause-calls
returns-in-Err-clause-calls g c =
    let old = c.args.self.now in
    let going : is_rested c.args.self.now.stage ≡ false = sym c.is_rested.ensures ∙ c.if-is_rested.false in
    let Q : Commit → Type 0 = λ m. MakesFirst (calls_left c.args.self.now) (calls_left m) (g.D.Disk.told c.args.disk.now) (g.D.Disk.told c.step.new.disk) (gone {T = CommitStep} c.in-Err.error) in
    subst Q (sym c.in-Err.ensures.steps.stays) (first_gone (Unit {0}) CommitStep old.head old.epoch old.images old.stage (g.D.Disk.told c.args.disk.now) (g.D.Disk.told c.step.new.disk) c.in-Err.error going (due-gone old.head old.epoch old.images old.stage (g.D.Disk.told c.args.disk.now) (g.D.Disk.told c.step.new.disk) c.in-Err.error going c.in-Err.ensures.steps))

pub returns-in-Err-clause-crash : goal.returns-in-Err-clause-crash
returns-in-Err-clause-crash g c homes journal =
    let old = c.args.self.now in
    let going : is_rested c.args.self.now.stage ≡ false = sym c.is_rested.ensures ∙ c.if-is_rested.false in
    let Q : Commit → Type 0 = λ m. GoesOn c.args.self.now.head c.args.self.now.epoch c.args.self.now.images homes journal c.args.self.now.stage m.stage (g.D.Disk.told c.args.disk.now) (g.D.Disk.told c.step.new.disk) in
    subst Q (sym c.in-Err.ensures.steps.stays) (goes_on-gone old.head old.epoch old.images homes journal old.stage (g.D.Disk.told c.args.disk.now) (g.D.Disk.told c.step.new.disk) c.in-Err.error old.can (λ d told. g.met.D.Disk.valid c.args.disk.now d told) (λ d told. g.met.D.Disk.valid c.step.new.disk d told) going (due-gone old.head old.epoch old.images old.stage (g.D.Disk.told c.args.disk.now) (g.D.Disk.told c.step.new.disk) c.in-Err.error going c.in-Err.ensures.steps))

pub returns-in-Err-clause-data : goal.returns-in-Err-clause-data
returns-in-Err-clause-data g c =
    let old = c.args.self.now in
    let going : is_rested c.args.self.now.stage ≡ false = sym c.is_rested.ensures ∙ c.if-is_rested.false in
    LeavesFrom-gone (2 + 2 * old.head.nodes) (due_call old.head old.epoch old.images old.stage) (g.D.Disk.told c.args.disk.now) (g.D.Disk.told c.step.new.disk) c.in-Err.error (due_below old.head old.epoch old.images old.stage old.can.finish) (due-gone old.head old.epoch old.images old.stage (g.D.Disk.told c.args.disk.now) (g.D.Disk.told c.step.new.disk) c.in-Err.error going c.in-Err.ensures.steps)

pub returns-in-Err-clause-no_memory : goal.returns-in-Err-clause-no_memory
returns-in-Err-clause-no_memory g c calls is memory =
    let old = c.args.self.now in
    let going : is_rested c.args.self.now.stage ≡ false = sym c.is_rested.ensures ∙ c.if-is_rested.false in
    let sync = due-sync old.head old.epoch old.images old.stage calls going is in
    c.in-Err.ensures.no_memory (ap is_read sync) (ap is_write sync) (error-too CommitStep (Unit {0}) c.in-Err.error Memory memory)

pub returns-then-is_rested-clause-within : goal.returns-then-is_rested-clause-within
returns-then-is_rested-clause-within g c = none-within (g.D.Disk.told c.args.disk.now) (λ d told. g.met.D.Disk.valid c.args.disk.now d told)

pub returns-then-is_rested-clause-steps : goal.returns-then-is_rested-clause-steps
returns-then-is_rested-clause-steps g c = record {
  calls = search rules;
  answer = search rules;
  head = search rules;
  epoch = search rules;
  images = search rules;
  next = search rules;
  stays = search rules;
  seen = search rules;
  cause = search rules;
  left = search rules;
  called = search rules;
  within = returns-then-is_rested-clause-within g c;
  no_memory = search rules;
  data_stands = returns-then-is_rested-clause-data g c;
  crash = returns-then-is_rested-clause-crash g c;
}

pub returns-in-Ok-clause-steps : goal.returns-in-Ok-clause-steps
returns-in-Ok-clause-steps g c = record {
  calls = returns-in-Ok-clause-calls g c;
  answer = returns-in-Ok-clause-answer g c;
  head = search rules;
  epoch = search rules;
  images = search rules;
  next = search rules;
  stays = search rules;
  seen = search rules;
  cause = search rules;
  left = search rules;
  called = search rules;
  within = search rules;
  no_memory = search rules;
  data_stands = returns-in-Ok-clause-data g c;
  crash = returns-in-Ok-clause-crash g c;
}

pub returns-in-Err-clause-steps : goal.returns-in-Err-clause-steps
returns-in-Err-clause-steps g c = record {
  calls = returns-in-Err-clause-calls g c;
  answer = search rules;
  head = search rules;
  epoch = search rules;
  images = search rules;
  next = search rules;
  stays = search rules;
  seen = search rules;
  cause = search rules;
  left = search rules;
  called = search rules;
  within = search rules;
  no_memory = returns-in-Err-clause-no_memory g c;
  data_stands = returns-in-Err-clause-data g c;
  crash = returns-in-Err-clause-crash g c;
}
