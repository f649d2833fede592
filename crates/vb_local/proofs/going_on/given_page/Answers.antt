use Rattle.std.proofs.Common.{sym}
use Rattle.std.specs.Option.{option_copied}
use Rattle.vb_local.specs.States.{frozen_state}
use Rattle.vb_local.proofs.Given.{page-gives}
use Rattle.vb_local.proofs.going_on.given_page.Goals as goal

pub returns-in-Some-clause-given : goal.returns-in-Some-clause-given
returns-in-Some-clause-given c = page-gives (frozen_state c.args.frozen.now) c.args.commit.now.pages c.in-Some.due c.requires (sym c.in-Some.ensures) (option_copied c.dirty_page.result) c.dirty_page.ensures
