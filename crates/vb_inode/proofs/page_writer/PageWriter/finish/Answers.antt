use Rattle.std.proofs.Common.{ap, ◌∙◌}
use Rattle.vb_inode.specs.Layout.{padded}
use Rattle.vb_inode.proofs.Written.{all_written}
use Rattle.vb_inode.proofs.page_writer.PageWriter.finish.Goals as goal

pub returns : goal.returns
returns c = all_written c.self.inside.at c.self.inside.page c.self.invariant ∙ ap (padded 4096) c.self.view_is
