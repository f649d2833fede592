use Rattle.std.proofs.Common.{Ok, subst}
use Rattle.vb_head.specs.declared.head.Head.{Head}
use Rattle.vb_core.specs.Greetings.{link_seen, Greets, LinkSeen}
use Rattle.vb_core.proofs.Begun.{begun-greets, begun-opened}
use Rattle.vb_core.proofs.folder.Folder.start.Goals as goal

pub returns-in-Ok-clause-greets : goal.returns-in-Ok-clause-greets
returns-in-Ok-clause-greets g c =
    let before : LinkSeen = link_seen (g.K.Link.told c.args.link) (g.K.Link.shown c.args.link) (g.K.Link.faults c.args.link) (g.K.Link.failures_left c.args.link) (g.K.Link.calls c.args.link) (g.K.Link.sends c.args.link) in
    let after : LinkSeen = link_seen (g.K.Link.told c.greet.new.link) (g.K.Link.shown c.greet.new.link) (g.K.Link.faults c.greet.new.link) (g.K.Link.failures_left c.greet.new.link) (g.K.Link.calls c.greet.new.link) (g.K.Link.sends c.greet.new.link) in
    begun-greets c.args.mounted.view.head before (λ k. link_seen (g.K.Link.told k) (g.K.Link.shown k) (g.K.Link.faults k) (g.K.Link.failures_left k) (g.K.Link.calls k) (g.K.Link.sends k))
    c.greet.new.link c.in-Ok.published c.begin.result (subst (λ (h : Head). Greets h before after (Ok c.in-Ok.published)) c.head.ensures.head c.in-Ok.ensures)
    c.begin.ensures.link c.begin.ensures.published c.begin.ensures.refused

pub returns-in-Ok-clause-starts : goal.returns-in-Ok-clause-starts
returns-in-Ok-clause-starts g c =
    begun-opened c.args.mounted.view (g.D.Disk.told c.args.mounted.disk)
    (link_seen (g.K.Link.told c.args.link) (g.K.Link.shown c.args.link) (g.K.Link.faults c.args.link) (g.K.Link.failures_left c.args.link) (g.K.Link.calls c.args.link) (g.K.Link.sends c.args.link))
    (λ k. link_seen (g.K.Link.told k) (g.K.Link.shown k) (g.K.Link.faults k) (g.K.Link.failures_left k) (g.K.Link.calls k) (g.K.Link.sends k))
    c.begin.result (returns-in-Ok-clause-greets g c) c.begin.ensures.begins
