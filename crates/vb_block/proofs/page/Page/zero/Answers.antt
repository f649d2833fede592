use Rattle.vb_block.specs.Pages.{filled_page}
use Rattle.vb_block.proofs.page.Page.zero.Goals as goal

pub returns : goal.returns
unfolding filled_page
returns c = c.in_ok-new.ensures.ok
