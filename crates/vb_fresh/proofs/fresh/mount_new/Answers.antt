use Rattle.std.proofs.Common.{Ok, ap, ◌∙◌}
use Rattle.vb_disk.specs.Memory.{failures_of, state_of}
use Rattle.vb_store.specs.Mounts.{mount_phase}
use Rattle.vb_fresh.proofs.NewMounts.{IsNewMount-after, IsNewMount-begun, fails-by_memory, fewer-left, step-as}
use Rattle.vb_fresh.proofs.NewStores.{IsNewStore-after}
use Rattle.vb_fresh.proofs.fresh.mount_new.Goals as goal

pub steps-init : goal.steps-init
steps-init c =
    IsNewMount-begun c.args.id c.args.blocks c.args.nodes (mount_phase c.start-mount.result) c.start-mount.result.disk c.requires c.in_ok-disk.ensures.name
    (ap state_of c.start-mount.ensures.disk ∙ c.in_ok-disk.ensures.state) (ap failures_of c.start-mount.ensures.disk ∙ c.in_ok-disk.ensures.failures)
    c.start-mount.ensures.blocks c.start-mount.ensures.relied c.start-mount.ensures.known c.start-mount.ensures.beside

pub step-requires : goal.step-requires
step-requires c = c.steps.invariant.seen

pub returns-in-Ok-Ready : goal.returns-in-Ok-Ready
returns-in-Ok-Ready c =
    IsNewStore-after c.args.id c.args.blocks c.args.nodes (mount_phase c.steps.mount) (mount_phase c.step.new.self) c.steps.mount.disk c.step.new.self.disk c.finish.result c.step.result c.requires c.in_ok-disk.ensures.name
    c.steps.invariant c.step.ensures.steps c.finish.ensures.disk c.finish.ensures.view c.finish.ensures.shown c.finish.ensures.none_begun

pub steps-smaller : goal.steps-smaller
steps-smaller c =
    fewer-left c.args.id c.args.blocks c.args.nodes (mount_phase c.steps.mount) (mount_phase c.step.new.self) c.steps.mount.disk c.step.new.self.disk c.steps.invariant
    (step-as _ _ _ _ c.step.result _ (c.in-Ok-More.is ∙ ap Ok c.in-Ok-More.field-0-is) c.step.ensures.steps)

pub steps-preserved : goal.steps-preserved
steps-preserved c =
    IsNewMount-after c.args.id c.args.blocks c.args.nodes (mount_phase c.steps.mount) (mount_phase c.step.new.self) c.steps.mount.disk c.step.new.self.disk c.steps.invariant
    (step-as _ _ _ _ c.step.result _ (c.in-Ok-More.is ∙ ap Ok c.in-Ok-More.field-0-is) c.step.ensures.steps)

pub lacking-requires : goal.lacking-requires
lacking-requires c =
    fails-by_memory c.args.id c.args.blocks c.args.nodes (mount_phase c.steps.mount) (mount_phase c.step.new.self) c.steps.mount.disk c.step.new.self.disk c.in-Err.error c.requires c.in_ok-disk.ensures.name c.steps.invariant
    (step-as _ _ _ _ c.step.result _ c.in-Err.is c.step.ensures.steps)
