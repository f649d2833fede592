use Rattle.std.proofs.Common.{rules, ◌≡◌, Some}
use Rattle.sha2.specs.Sha256.{sha256}
use Rattle.vb_link.specs.Views.{page_in}
use Rattle.vb_link.proofs.Places.{page_told}
use Rattle.vb_link.proofs.memory_calls.MemoryCloudLink.fetch.Goals as goal

pub returns-clause-page : goal.returns-clause-page
returns-clause-page c =
    let there : page_in c.args.i c.args.page c.args.self.now.cloud ≡ Some c.in_ok-copied.copied = search rules in
    let is : sha256 c.in_ok-copied.copied ≡ c.args.digest.now = search rules in
    (is, page_told c.args.self.now.cloud c.args.i c.args.page c.in_ok-copied.copied c.args.digest.now there is)
