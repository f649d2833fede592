use Rattle.std.proofs.Common.{false}
use Rattle.vb_journal.proofs.ChoicesOf.{IsChoiceOf-crash}
use Rattle.vb_store.specs.Clear.{first_candidates, last_candidates}
use Rattle.vb_views.proofs.ReadsOfViews.{one-recovered}
use Rattle.vb_views.proofs.RestingViews.{first-given, last-given}
use Rattle.vb_local.specs.Shown.{views_of}
use Rattle.vb_local.proofs.FoldersShown.{shown-recovers}
use Rattle.vb_local.proofs.shown_laws.a_shown_folder_is_recovered.Goals as goal

pub returns-clause-one_of : goal.returns-clause-one_of
returns-clause-one_of c d s t made shows = shown-recovers d s t made shows

pub returns-clause-candidates : goal.returns-clause-candidates
returns-clause-candidates c d s t reads disk shows picked = one-recovered (views_of s t) d reads disk (shown-recovers d s t false shows) picked

pub returns-clause-first : goal.returns-clause-first
returns-clause-first c d s t disk shows = one-recovered (views_of s t) d (first_candidates d) disk (shown-recovers d s t false shows) (first-given d)

pub returns-clause-last : goal.returns-clause-last
returns-clause-last c d s t disk shows = one-recovered (views_of s t) d (last_candidates d) disk (shown-recovers d s t false shows) (last-given d)

pub returns-clause-crash : goal.returns-clause-crash
returns-clause-crash c d new s t disk shows crash = shown-recovers d s t false shows new (IsChoiceOf-crash d new disk crash)
