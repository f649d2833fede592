use Rattle.std.proofs.Common.{rules, ◌≡◌, Some, None, refl}
use Rattle.sha2.specs.Sha256.{sha256}
use Rattle.vb_link.specs.Views.{page_in}
use Rattle.vb_cloudlog.proofs.SentFrames.{past-pages, page-shown}
use Rattle.vb_cloudlog.proofs.link_calls.LogCloudLink.fetch.Goals as goal

pub returns-in_default-clause-page : goal.returns-in_default-clause-page
returns-in_default-clause-page g c =
    let l = c.ready.new.self in
    let none : page_in c.args.i c.args.page l.cloud ≡ None = search rules in
    (refl, past-pages (g.F.LogFile.told l.file) l.is_loaded l.cloud c.args.i c.args.page l.held c.in-Ok.ensures.loaded none)

pub returns-in-Ok-page_at-clause-page : goal.returns-in-Ok-page_at-clause-page
returns-in-Ok-page_at-clause-page g c =
    let l = c.ready.new.self in
    let there : page_in c.args.i c.args.page l.cloud ≡ Some c.in-Ok-page_at.copied = search rules in
    let is : sha256 c.in-Ok-page_at.copied ≡ c.args.digest.now = search rules in
    page-shown (g.F.LogFile.told l.file) l.is_loaded l.cloud c.args.i c.args.page c.in-Ok-page_at.copied c.args.digest.now l.held c.in-Ok.ensures.loaded there is
