use Rattle.std.proofs.Common.{◌≡◌, subst}
use Rattle.vb_msg.proofs.PathTexts.{text-again}
use Rattle.vb_msg.specs.Bodies.{ReadsPath}
use Rattle.vb_msg.proofs.bodies.entry_path.Goals as goal

pub returns-in-Ok : goal.returns-in-Ok
returns-in-Ok c = subst (λ text. ReadsPath text c.below_root.result) (text-again c.args.text.now _ c.in-Ok.ensures) c.below_root.ensures
