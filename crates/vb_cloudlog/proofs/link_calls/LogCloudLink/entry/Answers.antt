use Rattle.std.proofs.Common.{rules, ◌≤◌, length, refl}
use Rattle.vb_cloudlog.proofs.SentFrames.{past-entries}
use Rattle.vb_cloudlog.proofs.link_calls.LogCloudLink.entry.Goals as goal

pub returns-then-i-len-clause-entry : goal.returns-then-i-len-clause-entry
returns-then-i-len-clause-entry g c =
    let l = c.ready.new.self in
    let past : length l.cloud.tree ≤ c.args.i = search rules in
    (refl, past-entries (g.F.LogFile.told l.file) l.is_loaded l.cloud c.args.i l.held c.in-Ok.ensures.loaded past)
