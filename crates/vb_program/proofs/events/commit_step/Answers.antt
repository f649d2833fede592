use Rattle.std.proofs.Common.{Ok, Err, refl}
use Rattle.vb_program.proofs.Answered.{stepped-makes, stepped-never_fails, Stepped}
use Rattle.vb_program.proofs.events.commit_step.Goals as goal

pub returns-in-Ok-clause-ok : goal.returns-in-Ok-clause-ok
returns-in-Ok-clause-ok c = λ t r.
    let stepped : Stepped c.args.folder.now c.commit_step.new.self _ _ (Ok c.in-Ok.step) = record {
      makes = c.in-Ok.ensures.makes;
      steps = c.in-Ok.ensures.steps;
      before_told = refl;
      after_told = refl;
      seen = c.in-Ok.ensures.seen;
      left = c.in-Ok.ensures.left;
      link = c.in-Ok.ensures.link;
    } in
    stepped-makes c.args.folder.now c.commit_step.new.self t _ _ c.in-Ok.step r stepped

pub unreachable-requires : goal.unreachable-requires
unreachable-requires c =
    let stepped : Stepped c.args.folder.now c.commit_step.new.self _ _ (Err c.in-Err-Failed.field-0) = record {
      makes = c.in-Err-Failed.ensures.makes;
      steps = c.in-Err-Failed.ensures.steps;
      before_told = refl;
      after_told = refl;
      seen = c.in-Err-Failed.ensures.seen;
      left = c.in-Err-Failed.ensures.left;
      link = c.in-Err-Failed.ensures.link;
    } in
    stepped-never_fails c.args.folder.now c.commit_step.new.self c.requires.rehearsed.0 _ _ c.in-Err-Failed.field-0 c.requires.rehearsed.1 stepped c.in-Err-Failed.field-0-is
