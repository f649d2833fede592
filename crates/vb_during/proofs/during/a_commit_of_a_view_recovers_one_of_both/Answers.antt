use Rattle.std.proofs.Common.{false}
use Rattle.vb_journal.proofs.ChoicesOf.{IsChoiceOf-crash}
use Rattle.vb_store.specs.Clear.{first_candidates, last_candidates}
use Rattle.vb_during.specs.During.{views_at}
use Rattle.vb_views.proofs.ReadsOfViews.{one-recovered}
use Rattle.vb_views.proofs.RestingViews.{first-given, last-given}
use Rattle.vb_during.proofs.NextHeld.{commit-recovers-views}
use Rattle.vb_during.proofs.during.a_commit_of_a_view_recovers_one_of_both.Goals as goal

pub returns-clause-one_of : goal.returns-clause-one_of
returns-clause-one_of c = commit-recovers-views

pub returns-clause-candidates : goal.returns-clause-candidates
returns-clause-candidates c v s d reads disk known picked = one-recovered (views_at v s.stage) d reads disk (commit-recovers-views v s false d known) picked

pub returns-clause-first : goal.returns-clause-first
returns-clause-first c v s d disk known = one-recovered (views_at v s.stage) d (first_candidates d) disk (commit-recovers-views v s false d known) (first-given d)

pub returns-clause-last : goal.returns-clause-last
returns-clause-last c v s d disk known = one-recovered (views_at v s.stage) d (last_candidates d) disk (commit-recovers-views v s false d known) (last-given d)

pub returns-clause-crash : goal.returns-clause-crash
returns-clause-crash c v s d new disk known crash = commit-recovers-views v s false d known new (IsChoiceOf-crash d new disk crash)
