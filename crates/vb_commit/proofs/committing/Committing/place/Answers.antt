use Rattle.std.proofs.Common.{rules, ap}
use Rattle.std.proofs.lemmas.List.Elements.{All-tail}
use Rattle.std.specs.Option.{option_copied}
use Rattle.vb_journal.specs.Commits.{epoch_of, head_of}
use Rattle.vb_steps.specs.Disks.{disk_view}
use Rattle.vb_commit.specs.Shown.{all_left, left_way}
use Rattle.vb_commit.specs.Ways.{IsDataPage, WayState}
use Rattle.vb_commit.proofs.WayClauses.{failed-way, placed-way, same-begun}
use Rattle.vb_commit.proofs.committing.Committing.place.Goals as goal

pub take_up-requires-clause-places : goal.take_up-requires-clause-places
take_up-requires-clause-places g c = All-tail (IsDataPage c.args.self.now.head) c.args.left.due c.args.left.plan.pages c.requires.places

pub returns-in-Ok : goal.returns-in-Ok
returns-in-Ok g c =
    let left = c.args.left in
    let before = disk_view (g.D.Disk.told c.args.disk.now) (g.D.Disk.seen c.args.disk.now) (g.D.Disk.faults c.args.disk.now) (g.D.Disk.failures_left c.args.disk.now) (g.D.Disk.calls c.args.disk.now) in
    let after = disk_view (g.D.Disk.told c.write_planned.new.disk) (g.D.Disk.seen c.write_planned.new.disk) (g.D.Disk.faults c.write_planned.new.disk) (g.D.Disk.failures_left c.write_planned.new.disk) (g.D.Disk.calls c.write_planned.new.disk) in
    record {
      steps = placed-way c.args.self.now.head c.args.self.now.epoch left.plan.images left.due left.plan.pages (option_copied c.args.page) c.take_up.new.self before after c.in-Ok.field-0
          c.requires.can c.requires.places c.take_up.ensures c.in-Ok.ensures.steps c.in-Ok.ensures.seen (search rules) (search rules) (search rules) c.in-Ok.ensures.within;
    }

pub returns-in-Err : goal.returns-in-Err
returns-in-Err g c =
    let left = c.args.left in
    let commit = c.self.inside.commit in
    let before = disk_view (g.D.Disk.told c.args.disk.now) (g.D.Disk.seen c.args.disk.now) (g.D.Disk.faults c.args.disk.now) (g.D.Disk.failures_left c.args.disk.now) (g.D.Disk.calls c.args.disk.now) in
    let after = disk_view (g.D.Disk.told c.write_planned.new.disk) (g.D.Disk.seen c.write_planned.new.disk) (g.D.Disk.faults c.write_planned.new.disk) (g.D.Disk.failures_left c.write_planned.new.disk) (g.D.Disk.calls c.write_planned.new.disk) in
    record {
      steps = failed-way c.args.self.now.head c.args.self.now.epoch left.plan.images left.due left.plan.pages (option_copied c.args.page) (left_way (head_of c.self.inside.commit) (epoch_of c.self.inside.commit) c.args.left) before after c.in-Err.error
          c.requires.can c.requires.places
          (same-begun c.args.self.now (head_of c.self.inside.commit) (epoch_of c.self.inside.commit) left.plan.images (all_left c.args.left) (ap (λ (s : WayState). s.head) c.self.view_is) (ap (λ (s : WayState). s.epoch) c.self.view_is))
          c.in-Err.ensures.steps c.in-Err.ensures.seen (search rules) (search rules) (search rules) c.in-Err.ensures.within;
    }
