use Rattle.std.proofs.Common.{◌^◌, ◌≤◌, ◌∙◌, arith, rules}
use Rattle.vb_block.specs.Pages.{IsSealed}
use Rattle.vb_inode.proofs.Decoded.{Holds-node_page, answer_is_due, answer_is_node, answer_is_wrong}
use Rattle.vb_inode.proofs.PagesRead.{sealed_is_read, unsealed_read}
use Rattle.vb_inode.proofs.decode.decode_node.Goals as goal

pub returns-then-ne-clause-read : goal.returns-then-ne-clause-read
returns-then-ne-clause-read c =
    let open_block : IsSealed c.args.page.now → ⊥ = search rules in
    unsealed_read c.args.nodes c.args.page.now open_block ∙ cc

pub returns-clause-read : goal.returns-clause-read
returns-clause-read c =
    let a = c.read_sealed.ensures in
    sealed_is_read c.args.nodes c.args.page.now a.0 c.read_sealed.result a.1 a.2

pub returns-then-ne-clause-accepted : goal.returns-then-ne-clause-accepted
returns-then-ne-clause-accepted c = λ node h e.
    let few : c.args.nodes ≤ 2 ^ 32 = omega (arith, c.ranges.nodes.fits) in
    let sealed : IsSealed c.args.page.now = (Holds-node_page c.args.nodes c.args.page.now node few h e).is_sealed in
    let open_block : IsSealed c.args.page.now → ⊥ = search rules in
    absurd (open_block sealed)

pub returns-clause-due : goal.returns-clause-due
returns-clause-due c =
    let a = c.read_sealed.ensures in
    answer_is_due c.args.nodes c.args.page.now a.0 c.read_sealed.result a.1 a.2

pub returns-clause-wrong : goal.returns-clause-wrong
returns-clause-wrong c = λ f why holds e.
    let a = c.read_sealed.ensures in
    answer_is_wrong c.args.nodes c.args.page.now a.0 f why c.read_sealed.result a.1 a.2 holds e

pub returns-clause-accepted : goal.returns-clause-accepted
returns-clause-accepted c = λ node h e.
    let few : c.args.nodes ≤ 2 ^ 32 = omega (arith, c.ranges.nodes.fits) in
    let a = c.read_sealed.ensures in
    answer_is_node c.args.nodes c.args.page.now a.0 node c.read_sealed.result few a.1 a.2 h e
