use Rattle.std.proofs.Common.{◌*◌}
use Rattle.vb_tree.specs.Contents.{part_of}
use Rattle.vb_publish.proofs.Names.{part-same}
use Rattle.vb_upload.proofs.message.part_message.Goals as goal

pub returns : goal.returns
returns c = λ bytes len is. part-same _ (part_of (4096 * c.args.page) 4096 bytes) (c.in_ok-bytes.ensures.part bytes len is)
