use Rattle.vb_hist.proofs.Holding.{held-front, held-later}
use Rattle.vb_hist.proofs.pages.held_pages_stay_apart.Goals as goal

pub returns-clause-held : goal.returns-clause-held
returns-clause-held c = held-front

pub returns-clause-held_later : goal.returns-clause-held_later
returns-clause-held_later c = held-later

pub returns-clause-front : goal.returns-clause-front
returns-clause-front c = λ digest o front history p apart one other held_one held_other is.
    apart one other (held-front o front history one p held_one) (held-front o front history other p held_other) is

pub returns-clause-later : goal.returns-clause-later
returns-clause-later c = λ digest o history later disk_faults link_faults whole apart one other held_one held_other is.
    apart one other (held-later o history later disk_faults link_faults one whole held_one) (held-later o history later disk_faults link_faults other whole held_other) is
