use Rattle.vb_inode.specs.Views.{fields_of}
use Rattle.vb_inode.proofs.Decoded.{held}
use Rattle.vb_inode.proofs.decode.held_fields.Goals as goal

pub returns : goal.returns
returns c =
    held c.args.page.now c.bytes.result.now c.split_at.result.0.now (fields_of c.split_fields.result) c.requires c.split_fields.ensures.fits c.bytes.ensures.bytes c.split_at.ensures.front c.split_fields.ensures.spelled
