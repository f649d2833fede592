use Rattle.vb_inode.proofs.Written.{nothing_written}
use Rattle.vb_inode.proofs.page_writer.PageWriter.over.Goals as goal

pub invariant_of-result : goal.invariant_of-result
invariant_of-result c = nothing_written c.fill.new.self c.fill.ensures.filled
