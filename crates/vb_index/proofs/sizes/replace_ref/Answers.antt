use Rattle.std.proofs.Common.{List, ap, ◌∙◌}
use Rattle.vb_block.specs.declared.digest.Ref.{Ref}
use Rattle.vb_index.specs.declared.held.Held.{Held}
use Rattle.vb_index.proofs.Resizing.{set-parts}
use Rattle.vb_index.proofs.sizes.replace_ref.Goals as goal

pub returns : goal.returns
returns c =
    let H : List Ref → Held = λ refs. record { node = c.args.held.now.node; refs = refs } in
    ap H (c.overwrite.ensures ∙ set-parts c.args.held.now.refs c.args.page c.args.reference c.requires)
