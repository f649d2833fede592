use Rattle.std.proofs.Common.{◌+◌, ◌≤◌, length, refl, ap, arith}
use Rattle.vb_inode.proofs.Written.{length_written, put_written}
use Rattle.vb_inode.proofs.page_writer.PageWriter.put.Goals as goal

pub invariant_of-self : goal.invariant_of-self
invariant_of-self c =
    let at = c.self.inside.at in
    let page = c.self.inside.page in
    let bytes = c.args.bytes.now in
    let within : at + length bytes ≤ 4096 = omega (arith, length_written at page c.self.invariant, ap length c.self.view_is, c.requires) in
    (put_written at (at + length bytes) page bytes c.set.new.self c.self.invariant refl within c.set.ensures.written c.set.ensures.page).0
