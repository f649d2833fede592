use Rattle.std.proofs.Common.{None, sym, ap, ◌∙◌}
use Rattle.vb_tree.specs.declared.operation.Op.TheVariants.{Read}
use Rattle.vb_tree.specs.declared.reply.Reply.TheVariants.{Bytes}
use Rattle.vb_tree.specs.Contents.{part_of}
use Rattle.vb_tree.proofs.Lookups.{bytes_in-place}
use Rattle.vb_tree.proofs.Replies.{reply_of-allowed}
use Rattle.vb_tree.proofs.looks.read.Goals as goal

pub returns-in_ok-of-in-Ok : goal.returns-in_ok-of-in-Ok
returns-in_ok-of-in-Ok c = λ limits.
    ap Bytes (c.in_ok-of-in-Ok.ensures ∙ c.part-bytes.ensures ∙ ap (part_of c.args.offset c.args.length) (c.slice.ensures ∙ sym (bytes_in-place c.args.path.now c.args.entries.now c.in-Ok.place c.index-entries-place.result c.in-Ok.ensures.found)))
    ∙ sym (reply_of-allowed limits c.args.entries.now (Read c.args.path.now c.args.offset c.args.length) (c.in-Ok.ensures.refused None))
