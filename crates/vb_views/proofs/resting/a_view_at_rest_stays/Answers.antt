use Rattle.vb_journal.proofs.ChoicesOf.{IsChoiceOf-crash}
use Rattle.vb_views.proofs.RestsKept.{rests-chosen, rests-damaged, rests-rewritten, rests-synced, rests-written}
use Rattle.vb_views.proofs.resting.a_view_at_rest_stays.Goals as goal

pub returns-clause-damage : goal.returns-clause-damage
returns-clause-damage c = rests-damaged

pub returns-clause-sync : goal.returns-clause-sync
returns-clause-sync c = rests-synced

pub returns-clause-choice : goal.returns-clause-choice
returns-clause-choice c = rests-chosen

pub returns-clause-crash : goal.returns-clause-crash
returns-clause-crash c head index d new is disk crash rests = rests-chosen head index d new is (IsChoiceOf-crash d new disk crash) rests

pub returns-clause-write : goal.returns-clause-write
returns-clause-write c = rests-written

pub returns-clause-again : goal.returns-clause-again
returns-clause-again c = rests-rewritten
