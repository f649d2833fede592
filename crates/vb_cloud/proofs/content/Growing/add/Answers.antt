use Rattle.std.proofs.Common.{arith}
use Rattle.std.proofs.lemmas.Grind.{common_steps}
use Rattle.vb_cloud.proofs.Digests.{noted}
use Rattle.vb_cloud.proofs.content.Growing.add.Goals as goal

pub note_up_to-requires-clause-within : goal.note_up_to-requires-clause-within
note_up_to-requires-clause-within c = let n = noted c.self.inside.digests.items c.self.inside.bytes c.self.invariant.0 in grind (arith, common_steps)

pub note_up_to-requires-clause-most : goal.note_up_to-requires-clause-most
note_up_to-requires-clause-most c = let n = noted c.self.inside.digests.items c.self.inside.bytes c.self.invariant.0 in grind (arith, common_steps)

pub note_up_to-requires-clause-next : goal.note_up_to-requires-clause-next
note_up_to-requires-clause-next c = let n = noted c.self.inside.digests.items c.self.inside.bytes c.self.invariant.0 in grind (arith, common_steps)
