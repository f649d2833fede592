use Rattle.std.proofs.Common.{rules, ◌≡◌, ℕ, List, All, ap, subst, sym}
use Rattle.vb_head.specs.declared.head.Head.{Head}
use Rattle.vb_journal.specs.declared.commit_stage.Stage.TheVariants.{Journal}
use Rattle.vb_journal.specs.Plans.{CanCommit}
use Rattle.vb_journal.proofs.Heads.{CanGoOn-start}
use Rattle.vb_plan.specs.declared.plan_page.PlanPage.{PlanPage}
use Rattle.vb_plan.specs.Plans.{PlanState, plan_of}
use Rattle.vb_store.proofs.NextPlanned.{basis_at}
use Rattle.vb_commit.specs.Known.{IsCommittingFor}
use Rattle.vb_commit.specs.Ways.{IsDataPage, WayState, begun_way}
use Rattle.vb_store.proofs.NextImages.{can_commit}
use Rattle.vb_commit.proofs.PlannedPages.{planned-once, planned-places}
use Rattle.vb_commit.proofs.WayClauses.{begun-known}
use Rattle.vb_commit.proofs.committing.Committing.start.Goals as goal

pub of-requires-clause-can : goal.of-requires-clause-can
of-requires-clause-can c =
    let v = c.args.view.now in
    let images : c.in_ok-plan.plan.images ≡ (plan_of (basis_at c.args.view.now) c.args.next.now).images = ap (λ (p : PlanState). p.images) c.in_ok-plan.ensures.plan in
    subst (λ (h : Head). CanCommit h c.args.epoch c.in_ok-plan.plan.images) (sym c.head-head.ensures.head)
    (subst (λ (is : List (List ℕ)). CanCommit c.args.view.now.head c.args.epoch is) (sym images) (can_commit v c.args.next.now c.args.epoch c.head-head.ensures.view c.requires.none_begun c.requires.can c.requires.sequence c.requires.epoch))

pub of-requires-clause-places : goal.of-requires-clause-places
of-requires-clause-places c =
    let v = c.args.view.now in
    let pages : c.in_ok-plan.plan.pages ≡ (plan_of (basis_at c.args.view.now) c.args.next.now).pages = ap (λ (p : PlanState). p.pages) c.in_ok-plan.ensures.plan in
    subst (λ (h : Head). All (IsDataPage h) c.in_ok-plan.plan.pages) (sym c.head-head.ensures.head)
    (subst (λ (ps : List PlanPage). All (IsDataPage c.args.view.now.head) ps) (sym pages) (planned-places v c.args.next.now c.head-head.ensures.view c.requires.none_begun c.requires.can))

pub returns-clause-known : goal.returns-clause-known
returns-clause-known c source homes journal d rests =
    let v = c.args.view.now in
    let plan = plan_of (basis_at c.args.view.now) c.args.next.now in
    let same : c.of.result ≡ begun_way c.args.view.now.head c.args.epoch (plan_of (basis_at c.args.view.now) c.args.next.now).images (plan_of (basis_at c.args.view.now) c.args.next.now).pages = search rules in
    subst (λ (s : WayState). IsCommittingFor source homes journal (plan_of (basis_at c.args.view.now) c.args.next.now).pages s d) (sym same)
    (begun-known source homes journal c.args.view.now.head c.args.epoch plan.images plan.pages d
    (CanGoOn-start c.args.view.now.head c.args.epoch plan.images (Journal 0) (can_commit v c.args.next.now c.args.epoch c.head-head.ensures.view c.requires.none_begun c.requires.can c.requires.sequence c.requires.epoch)).finish
    (planned-places v c.args.next.now c.head-head.ensures.view c.requires.none_begun c.requires.can) (planned-once v c.args.next.now c.head-head.ensures.view c.requires.none_begun c.requires.can) rests)
