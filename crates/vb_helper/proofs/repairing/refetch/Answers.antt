use Rattle.vb_helper.proofs.Mending.{spares_of, moments_of, repaired_of}
use Rattle.vb_helper.proofs.repairing.refetch.Goals as goal

pub returns-clause-spares : goal.returns-clause-spares
returns-clause-spares g c = λ d e was is.
    spares_of c.args.reference.now c.args.synced.now.entries (g.K.Link.told c.args.link.now) d e (g.D.Disk.told c.read_or_repair.new.disk) c.read_or_repair.result (c.read_or_repair.ensures.disk d was) is

pub returns-clause-moments : goal.returns-clause-moments
returns-clause-moments g c = λ d e was is.
    moments_of c.args.reference.now c.args.synced.now.entries (g.K.Link.told c.args.link.now) d e (g.D.Disk.told c.read_or_repair.new.disk) c.read_or_repair.result (c.read_or_repair.ensures.disk d was) is

pub returns-clause-repaired : goal.returns-clause-repaired
returns-clause-repaired g c = λ d e was is.
    repaired_of c.args.reference.now c.args.synced.now.entries (g.K.Link.told c.args.link.now) d e (g.D.Disk.told c.read_or_repair.new.disk) c.read_or_repair.result (c.read_or_repair.ensures.disk d was) is
