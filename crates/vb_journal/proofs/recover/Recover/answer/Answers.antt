use Rattle.vb_journal.proofs.Answering.{ahead-of, differs-of}
use Rattle.vb_journal.proofs.recover.Recover.answer.Goals as goal

pub returns-clause-ahead : goal.returns-clause-ahead
returns-clause-ahead c = ahead-of c.args.self.now.stage c.answer.result c.answer.ensures.answer

pub returns-clause-differ : goal.returns-clause-differ
returns-clause-differ c = differs-of c.args.self.now.stage c.answer.result c.answer.ensures.answer
