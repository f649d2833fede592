use Rattle.std.proofs.Common.{◌∙◌}
use Rattle.vb_publish.proofs.Names.{enter-same}
use Rattle.vb_upload.proofs.message.enter_message.Goals as goal

pub returns : goal.returns
returns c = enter-same _ c.args.entry.now.path c.args.kind (c.in_ok-path.ensures ∙ c.in_ok-copy_names.ensures ∙ c.slice.ensures)
