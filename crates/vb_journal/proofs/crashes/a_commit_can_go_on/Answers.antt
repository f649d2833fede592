use Rattle.vb_journal.proofs.Heads.{CanGoOn-start}
use Rattle.vb_journal.proofs.crashes.a_commit_can_go_on.Goals as goal

pub returns : goal.returns
returns c head epoch images stage can = CanGoOn-start head epoch images stage can
