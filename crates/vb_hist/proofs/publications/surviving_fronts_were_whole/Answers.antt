use Rattle.vb_hist.specs.Histories.{surviving, up_to_epoch}
use Rattle.vb_hist.proofs.Fronts.{up_to_epoch-front}
use Rattle.vb_hist.proofs.Whole.{folder-was_whole, fronts-were_whole}
use Rattle.vb_hist.proofs.publications.surviving_fronts_were_whole.Goals as goal

pub returns-clause-whole : goal.returns-clause-whole
returns-clause-whole c = fronts-were_whole

pub returns-clause-folder : goal.returns-clause-folder
returns-clause-folder c = λ o history front p.
    let w = fronts-were_whole o.start history front p in (w.0, w.1, folder-was_whole o.start o.base history front w)

pub returns-clause-folder_at : goal.returns-clause-folder_at
returns-clause-folder_at c = λ o history epoch.
    let front = up_to_epoch o.start epoch (surviving o.start history) in
    let w = fronts-were_whole o.start history front (up_to_epoch-front o.start epoch (surviving o.start history)) in
    (w.0, w.1, folder-was_whole o.start o.base history front w)
