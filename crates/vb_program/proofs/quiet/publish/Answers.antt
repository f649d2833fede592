use Rattle.std.proofs.Common.{Ok, ap, refl, sym, ◌∙◌}
use Rattle.vb_program.proofs.Loops.{upload-is_sent, upload-publishes, upload-sends, way-stops}
use Rattle.vb_program.proofs.quiet.publish.Goals as goal

pub steps-init : goal.steps-init
steps-init c = record {
  some = c.requires.way;
  way = λ history by w. w;
  rested = c.requires.rested;
  epoch = refl;
  limits = refl;
}

pub upload_step-requires : goal.upload_step-requires
upload_step-requires c = record { rehearsed = (c.steps.invariant.some.2.trees, c.steps.invariant.some.2.rehearsed) }

pub returns-then-is_publication-clause-quiet : goal.returns-then-is_publication-clause-quiet
returns-then-is_publication-clause-quiet c =
    let some = c.steps.invariant.some in
    (upload-publishes some.0 some.1 (c.is_publication.ensures.published c.if-is_publication.true).0 c.steps.folder c.upload_step.new.folder c.upload_step.result (c.in-Ok.is ∙ ap Ok (c.is_publication.ensures.published c.if-is_publication.true).1)
    some.2 c.steps.invariant.rested c.upload_step.ensures.ok).quiet

pub returns-then-is_publication-clause-played : goal.returns-then-is_publication-clause-played
returns-then-is_publication-clause-played c = λ history by w.
    (upload-publishes history by (c.is_publication.ensures.published c.if-is_publication.true).0 c.steps.folder c.upload_step.new.folder c.upload_step.result (c.in-Ok.is ∙ ap Ok (c.is_publication.ensures.published c.if-is_publication.true).1)
    (c.steps.invariant.way history by w) c.steps.invariant.rested c.upload_step.ensures.ok).played

pub returns-then-is_publication-clause-same : goal.returns-then-is_publication-clause-same
returns-then-is_publication-clause-same c =
    let some = c.steps.invariant.some in
    let whole = upload-publishes some.0 some.1 (c.is_publication.ensures.published c.if-is_publication.true).0 c.steps.folder c.upload_step.new.folder c.upload_step.result (c.in-Ok.is ∙ ap Ok (c.is_publication.ensures.published c.if-is_publication.true).1)
    some.2 c.steps.invariant.rested c.upload_step.ensures.ok in
    (whole.epoch ∙ c.steps.invariant.epoch, whole.limits ∙ c.steps.invariant.limits)

pub steps-smaller : goal.steps-smaller
steps-smaller c =
    let some = c.steps.invariant.some in
    let sent = upload-is_sent some.0 some.1 c.steps.folder c.upload_step.new.folder c.upload_step.result c.in-Ok.step c.in-Ok.is (c.is_publication.ensures.other c.if-is_publication.false)
    some.2 c.steps.invariant.rested c.upload_step.ensures.ok in
    c.in-Ok.ensures.fewer sent

pub steps-preserved : goal.steps-preserved
steps-preserved c =
    let some = c.steps.invariant.some in
    let sent = upload-is_sent some.0 some.1 c.steps.folder c.upload_step.new.folder c.upload_step.result c.in-Ok.step c.in-Ok.is (c.is_publication.ensures.other c.if-is_publication.false)
    some.2 c.steps.invariant.rested c.upload_step.ensures.ok in
    let sends = upload-sends some.0 some.1 c.steps.folder c.upload_step.new.folder c.upload_step.result (c.in-Ok.is ∙ ap Ok sent) some.2 c.steps.invariant.rested c.upload_step.ensures.ok in
    record {
      some = (some.0, some.1, sends.way);
      way = λ history by w. (upload-sends history by c.steps.folder c.upload_step.new.folder c.upload_step.result (c.in-Ok.is ∙ ap Ok sent)
          (c.steps.invariant.way history by w) c.steps.invariant.rested c.upload_step.ensures.ok).way;
      rested = sends.at;
      epoch = sends.epoch ∙ c.steps.invariant.epoch;
      limits = sends.limits ∙ c.steps.invariant.limits;
    }

pub returns-in-Err-clause-err : goal.returns-in-Err-clause-err
returns-in-Err-clause-err c = λ history by w.
    way-stops history by c.steps.folder c.upload_step.new.folder c.upload_step.result c.in-Err.error c.in-Err.is (c.steps.invariant.way history by w) c.upload_step.ensures.err
