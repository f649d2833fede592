use Rattle.std.proofs.Common.{List, ap, ◌∙◌}
use Rattle.vb_block.specs.declared.digest.Ref.{Ref}
use Rattle.vb_index.proofs.Resizing.{set-parts}
use Rattle.vb_frozen.specs.declared.entry.FrozenEntry.{FrozenEntry}
use Rattle.vb_frozen.proofs.order.replace_ref.Goals as goal

pub returns : goal.returns
returns c =
    let e = c.args.entry.now in
    let H : List Ref → FrozenEntry = λ refs. record { path = e.path; kind = e.kind; len = e.len; slot = e.slot; parent = e.parent; refs = refs } in
    ap H (c.overwrite.ensures ∙ set-parts e.refs c.args.page c.args.reference c.requires)
