use Rattle.std.proofs.Common.{Ok, ap, refl, sym, ◌∙◌}
use Rattle.vb_journal.specs.declared.commit_stage.CommitStep.TheVariants.{Rested}
use Rattle.vb_program.proofs.Loops.{commit-goes_on, way-stops}
use Rattle.vb_program.proofs.quiet.commit.Goals as goal

pub steps-init : goal.steps-init
steps-init c = record {
  some = c.requires.way;
  way = λ history by w. w;
  on = λ rested. (let written = c.requires.on in cc);
  epoch = refl;
  limits = refl;
}

pub commit_step-requires : goal.commit_step-requires
commit_step-requires c = record { rehearsed = (c.steps.invariant.some.2.trees, c.steps.invariant.some.2.rehearsed) }

pub returns-then-is_rest-clause-way : goal.returns-then-is_rest-clause-way
returns-then-is_rest-clause-way c = λ history by w.
    (commit-goes_on history by c.steps.folder c.commit_step.new.folder c.commit_step.result Rested (c.in-Ok.is ∙ ap Ok (c.is_rest.ensures.rested c.if-is_rest.true))
    (c.steps.invariant.way history by w) c.steps.invariant.on c.commit_step.ensures.ok).way

pub returns-then-is_rest-clause-rested : goal.returns-then-is_rest-clause-rested
returns-then-is_rest-clause-rested c =
    let some = c.steps.invariant.some in
    (commit-goes_on some.0 some.1 c.steps.folder c.commit_step.new.folder c.commit_step.result Rested (c.in-Ok.is ∙ ap Ok (c.is_rest.ensures.rested c.if-is_rest.true))
    some.2 c.steps.invariant.on c.commit_step.ensures.ok).rested refl

pub returns-then-is_rest-clause-same : goal.returns-then-is_rest-clause-same
returns-then-is_rest-clause-same c =
    let some = c.steps.invariant.some in
    let goes = commit-goes_on some.0 some.1 c.steps.folder c.commit_step.new.folder c.commit_step.result Rested (c.in-Ok.is ∙ ap Ok (c.is_rest.ensures.rested c.if-is_rest.true))
    some.2 c.steps.invariant.on c.commit_step.ensures.ok in
    (goes.epoch ∙ c.steps.invariant.epoch, goes.limits ∙ c.steps.invariant.limits)

pub steps-smaller : goal.steps-smaller
steps-smaller c =
    let some = c.steps.invariant.some in
    (commit-goes_on some.0 some.1 c.steps.folder c.commit_step.new.folder c.commit_step.result c.in-Ok.step c.in-Ok.is
    some.2 c.steps.invariant.on c.commit_step.ensures.ok).fewer

pub steps-preserved : goal.steps-preserved
steps-preserved c =
    let some = c.steps.invariant.some in
    let goes = commit-goes_on some.0 some.1 c.steps.folder c.commit_step.new.folder c.commit_step.result c.in-Ok.step c.in-Ok.is
    some.2 c.steps.invariant.on c.commit_step.ensures.ok in
    record {
      some = (some.0, some.1, goes.way);
      way = λ history by w. (commit-goes_on history by c.steps.folder c.commit_step.new.folder c.commit_step.result c.in-Ok.step c.in-Ok.is
          (c.steps.invariant.way history by w) c.steps.invariant.on c.commit_step.ensures.ok).way;
      on = goes.on (c.is_rest.ensures.other c.if-is_rest.false);
      epoch = goes.epoch ∙ c.steps.invariant.epoch;
      limits = goes.limits ∙ c.steps.invariant.limits;
    }

pub returns-in-Err-clause-err : goal.returns-in-Err-clause-err
returns-in-Err-clause-err c = λ history by w.
    way-stops history by c.steps.folder c.commit_step.new.folder c.commit_step.result c.in-Err.error c.in-Err.is (c.steps.invariant.way history by w) c.commit_step.ensures.err
