use Rattle.std.proofs.Common.{◌≡◌, ◌<◌, ◌≤◌, ℕ, IfSome, Option, Some, subst}
use Rattle.vb_folder.proofs.Doubted.{doubt-begins}
use Rattle.vb_folder.proofs.ledger.Ledger.settle.Goals as goal

pub note_published-requires-clause-past : goal.note_published-requires-clause-past
note_published-requires-clause-past c =
    (subst (λ (o : Option ℕ). IfSome o (λ epoch. (c.args.self.now.published < epoch) × (epoch ≤ c.args.self.now.epoch))) c.requires.unsure c.local-kept.ensures.kept.doubt).1

pub note_published-requires-clause-begins : goal.note_published-requires-clause-begins
note_published-requires-clause-begins c = doubt-begins c.args.self.now c.args.doubt c.local-kept.ensures.kept c.requires.unsure
