use Rattle.std.proofs.Common.{ℕ, ◌+◌, ◌≤◌, List, ◌++◌, length, replicate, ap, ◌∙◌, arith}
use Rattle.vb_inode.proofs.Written.{length_written, skip_written}
use Rattle.vb_inode.proofs.page_writer.PageWriter.skip.Goals as goal

pub invariant_of-self : goal.invariant_of-self
invariant_of-self c =
    let at = c.self.inside.at in
    let page = c.self.inside.page in
    let within : at + c.args.count ≤ 4096 = omega (arith, length_written at page c.self.invariant, ap length c.self.view_is, c.requires) in
    (skip_written at c.args.count page c.self.invariant within).0

pub returns-clause-written : goal.returns-clause-written
returns-clause-written c =
    let at = c.self.inside.at in
    let page = c.self.inside.page in
    let within : at + c.args.count ≤ 4096 = omega (arith, length_written at page c.self.invariant, ap length c.self.view_is, c.requires) in
    (skip_written at c.args.count page c.self.invariant within).1 ∙ ap (λ (bytes : List ℕ). bytes ++ replicate c.args.count 0) c.self.view_is
