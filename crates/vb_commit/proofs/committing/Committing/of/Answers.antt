use Rattle.std.proofs.Common.{rules, ◌≡◌, ◌∙◌, ap, arith, subst, sym}
use Rattle.vb_journal.specs.declared.commit_stage.Stage.TheVariants.{Journal}
use Rattle.vb_journal.proofs.Heads.{CanGoOn-start}
use Rattle.vb_journal.proofs.PlanSteps.{length-calls_from}
use Rattle.vb_plan.specs.Plans.{steps_due}
use Rattle.vb_commit.specs.Known.{IsCommittingFor}
use Rattle.vb_commit.specs.Ways.{WayState, begun_way, steps_left}
use Rattle.vb_commit.proofs.WayClauses.{begun-known}
use Rattle.vb_commit.proofs.committing.Committing.of.Goals as goal

pub returns-clause-steps : goal.returns-clause-steps
returns-clause-steps c =
    let same : c.take_up.new.self ≡ begun_way c.args.head c.args.epoch c.args.plan.images c.args.plan.pages = search rules in
    let count : steps_left (begun_way c.args.head c.args.epoch c.args.plan.images c.args.plan.pages) ≡ steps_due c.args.plan = omega (arith, length-calls_from c.args.head c.args.epoch c.args.plan.images (Journal 0)) in
    ap steps_left same ∙ count

pub returns-clause-known : goal.returns-clause-known
returns-clause-known c source homes journal d once rests =
    let same : c.take_up.new.self ≡ begun_way c.args.head c.args.epoch c.args.plan.images c.args.plan.pages = search rules in
    subst (λ (s : WayState). IsCommittingFor source homes journal c.args.plan.pages s d) (sym same)
    (begun-known source homes journal c.args.head c.args.epoch c.args.plan.images c.args.plan.pages d (CanGoOn-start c.args.head c.args.epoch c.args.plan.images (Journal 0) c.requires.can).finish c.requires.places once rests)
