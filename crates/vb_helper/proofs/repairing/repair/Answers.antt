use Rattle.std.proofs.Common.{rules}
use Rattle.vb_helper.proofs.Fetched.{published_at, fault_left, not_refused}
use Rattle.vb_helper.proofs.repairing.repair.Goals as goal

pub returns-in-Ok-write-clause-answer : goal.returns-in-Ok-write-clause-answer
returns-in-Ok-write-clause-answer g c = published_at c.args.synced.now c.args.reference.now.digest c.args.at c.requires.first

pub returns-in-Err-Failed-clause-answer : goal.returns-in-Err-Failed-clause-answer
returns-in-Err-Failed-clause-answer g c = published_at c.args.synced.now c.args.reference.now.digest c.args.at c.requires.first

pub returns-in-Err-Refused-clause-answer : goal.returns-in-Err-Refused-clause-answer
returns-in-Err-Refused-clause-answer g c = published_at c.args.synced.now c.args.reference.now.digest c.args.at c.requires.first

pub returns-in-Err-Failed-clause-link_left : goal.returns-in-Err-Failed-clause-link_left
returns-in-Err-Failed-clause-link_left g c = λ k told is.
    fault_left k c.args.synced.now c.args.reference.now.digest c.args.at (g.K.Link.failures_left c.args.link.now) (g.K.Link.failures_left c.fetch.new.self) is c.requires.first c.in-Err-Failed.ensures.kept
    (λ some. c.in-Err-Failed.ensures.used k told some (search rules))

pub returns-in-Err-Refused-clause-link_left : goal.returns-in-Err-Refused-clause-link_left
returns-in-Err-Refused-clause-link_left g c = λ k told is.
    absurd (not_refused k c.args.synced.now c.args.reference.now.digest c.args.at is c.requires.first (rw c.in-Err-Refused.field-0-is at (c.in-Err-Refused.ensures.answer k told)))
