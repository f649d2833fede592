use Rattle.vb_views.proofs.ClearViews.{clear-commit, clear-rest}
use Rattle.vb_views.proofs.WholeViews.{crash-recovers, rest-recovers}
use Rattle.vb_views.proofs.committing.a_crash_of_whole_places_recovers_a_view.Goals as goal

pub returns-clause-rest : goal.returns-clause-rest
returns-clause-rest c = rest-recovers

pub returns-clause-commit : goal.returns-clause-commit
returns-clause-commit c head epoch images homes journal stage d new old tree index after can disk known unharmed holds whole crash =
    crash-recovers head epoch images homes journal stage d new old tree index after (record { can = can; disk = disk; known = known; unharmed = unharmed }) holds whole crash

pub returns-clause-clear_rest : goal.returns-clause-clear_rest
returns-clause-clear_rest c = clear-rest

pub returns-clause-clear_commit : goal.returns-clause-clear_commit
returns-clause-clear_commit c head epoch images homes journal stage d old tree index after can disk known unharmed holds are =
    clear-commit head epoch images homes journal stage d old tree index after (record { can = can; disk = disk; known = known; unharmed = unharmed }) holds are
