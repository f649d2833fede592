use Rattle.vb_local.proofs.Given.{page-given, page-source, pages-left}
use Rattle.vb_local.proofs.laws.a_due_page_is_kept.Goals as goal

pub returns-clause-given : goal.returns-clause-given
returns-clause-given c frozen left kept = page-given frozen left kept

pub returns-clause-source : goal.returns-clause-source
returns-clause-source c frozen left kept = page-source frozen left kept

pub returns-clause-left : goal.returns-clause-left
returns-clause-left c frozen left kept = pages-left frozen left kept
