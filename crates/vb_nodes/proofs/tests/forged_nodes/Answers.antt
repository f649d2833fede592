use Rattle.std.proofs.Common.{◌≡◌, ℕ, Option, Some, subst}
use Rattle.std.specs.Option.{IfSome}
use Rattle.vb_inode.specs.declared.node.Node.{Node}
use Rattle.vb_inode.specs.Reading.{IsNodeOf}
use Rattle.vb_nodes.proofs.Forged.{forged_next}
use Rattle.vb_nodes.proofs.tests.forged_nodes.Goals as goal

pub loop-slot-preserved : goal.loop-slot-preserved
loop-slot-preserved c =
    let is : c.forged.result ≡ Some c.in_ok-ok_or.field-0 = c.in_ok-ok_or.ensures.ok_part in
    let node = c.in_ok-ok_or.field-0 in
    let of = subst (λ (o : Option Node). IfSome o (λ (n : Node). (n.slot ≡ c.loop-slot.slot) × IsNodeOf 16 n)) is c.forged.ensures in
    forged_next c.loop-slot.slot c.loop-slot.nodes c.add.new.self node c.loop-slot.invariant of c.in_ok-add.ensures.ok
