use Rattle.std.proofs.Common.{rules, ◌≡◌, All, None, Option, Some, subst}
use Rattle.std.specs.Option.{option_copied}
use Rattle.vb_commit.specs.declared.pages_left.PagesLeft.{PagesLeft}
use Rattle.vb_journal.specs.Commits.{head_of}
use Rattle.vb_steps.specs.Disks.{disk_view}
use Rattle.vb_commit.specs.Shown.{pages_in}
use Rattle.vb_commit.specs.Ways.{IsDataPage}
use Rattle.vb_commit.proofs.WayClauses.{commit-way}
use Rattle.vb_commit.proofs.committing.Committing.step.Goals as goal

pub place-requires-clause-places : goal.place-requires-clause-places
place-requires-clause-places g c =
    let is : c.self.inside.pages ≡ Some c.in-Some.left = search rules in
    subst (λ (o : Option PagesLeft). All (IsDataPage (head_of c.self.inside.commit)) (pages_in o)) is c.self.invariant.way.places

pub returns-in-None : goal.returns-in-None
returns-in-None g c =
    let none : c.self.inside.pages ≡ None = search rules in
    let left : c.take.new.self ≡ None = search rules in
    let before = disk_view (g.D.Disk.told c.args.disk.now) (g.D.Disk.seen c.args.disk.now) (g.D.Disk.faults c.args.disk.now) (g.D.Disk.failures_left c.args.disk.now) (g.D.Disk.calls c.args.disk.now) in
    let after = disk_view (g.D.Disk.told c.step.new.disk) (g.D.Disk.seen c.step.new.disk) (g.D.Disk.faults c.step.new.disk) (g.D.Disk.failures_left c.step.new.disk) (g.D.Disk.calls c.step.new.disk) in
    record { steps = commit-way c.self.inside.commit c.step.new.self c.self.inside.pages c.take.new.self c.args.self.now (option_copied c.args.page) before after c.step.result none left c.self.view_is c.self.invariant.way c.step.ensures.steps }
