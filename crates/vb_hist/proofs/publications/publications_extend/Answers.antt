use Rattle.vb_hist.proofs.Extended.{extends-later, extends-over_cut}
use Rattle.vb_hist.proofs.publications.publications_extend.Goals as goal

pub returns-clause-front : goal.returns-clause-front
returns-clause-front c = λ o history later legal. (extends-later o history later legal).front

pub returns-clause-epoch : goal.returns-clause-epoch
returns-clause-epoch c = λ o history later legal. (extends-later o history later legal).epoch

pub returns-clause-cut : goal.returns-clause-cut
returns-clause-cut c = λ o history epoch limits legal frozen above. (extends-over_cut o history epoch limits legal frozen above).front
