use Rattle.vb_during.proofs.HistoriesKept.{history-crashes, history-exact, history-known, history-recovers, history-whole}
use Rattle.vb_during.proofs.during.a_history_of_a_commit_recovers_one_of_both_views.Goals as goal

pub returns-clause-known : goal.returns-clause-known
returns-clause-known c = history-known

pub returns-clause-one_of : goal.returns-clause-one_of
returns-clause-one_of c = history-recovers

pub returns-clause-crash : goal.returns-clause-crash
returns-clause-crash c = history-crashes

pub returns-clause-whole : goal.returns-clause-whole
returns-clause-whole c = history-whole

pub returns-clause-exact : goal.returns-clause-exact
returns-clause-exact c = history-exact
