use Rattle.std.proofs.Common.{refl}
use Rattle.vb_block.specs.Pages.{filled_page}
use Rattle.vb_block.proofs.page.Page.fill.Goals as goal

pub returns-clause-filled : goal.returns-clause-filled
unfolding filled_page
returns-clause-filled c = refl
