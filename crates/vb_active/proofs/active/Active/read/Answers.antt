use Rattle.std.proofs.Common.{sym, subst}
use Rattle.vb_index.specs.Indexes.{HasShapeOf}
use Rattle.vb_active.specs.Files.{IsFileOf}
use Rattle.vb_active.specs.Views.{ActiveState}
use Rattle.vb_active.proofs.Reading.{read-performs}
use Rattle.vb_active.proofs.active.Active.read.Goals as goal

pub returns-in-Ok-read_range-clause-performs : goal.returns-in-Ok-read_range-clause-performs
returns-in-Ok-read_range-clause-performs g c =
    let P : ActiveState → Type 0 = λ v. IsFileOf v.index.nodes c.args.path.now c.in-Ok.file.slot c.in-Ok.file.length in
    read-performs (g.D.Disk.told c.args.disk.now) c.args.self.now c.args.path.now c.in-Ok.file.slot c.in-Ok.file.length c.args.offset c.args.length c.min-end.result c.min-start.result c.in-Ok-read_range.bytes
    (subst P c.self.view_is c.in-Ok.ensures.found)
    (λ tree next shape. let Q : ActiveState → Type 0 = λ v. HasShapeOf v.index.nodes tree in c.in-Ok.ensures.refused tree next (subst Q (sym c.self.view_is) shape))
    c.min-end.ensures c.min-start.ensures c.in-Ok-read_range.ensures.range
