use Rattle.std.proofs.Common.{rules, ◌≡◌, ◌*◌, drop, take, ◌∙◌}
use Rattle.vb_block.specs.Pages.{overwritten}
use Rattle.vb_cloud.proofs.Digests.{page_written}
use Rattle.vb_cloud.proofs.pages.page_at.Goals as goal

pub returns : goal.returns
returns c =
    let set : c.set.new.self ≡ overwritten c.in_ok-page.page 0 (take 4096 (drop (4096 * c.args.number) c.args.bytes.now)) = search rules in
    set ∙ page_written c.args.bytes.now c.in_ok-page.page c.args.number (search rules)
