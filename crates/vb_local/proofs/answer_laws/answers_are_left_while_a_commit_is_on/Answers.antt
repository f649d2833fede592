use Rattle.vb_local.proofs.AnswersLeft.{answers-end, none-left, none-on}
use Rattle.vb_local.proofs.answer_laws.answers_are_left_while_a_commit_is_on.Goals as goal

pub returns-clause-none : goal.returns-clause-none
returns-clause-none c s off = none-left s off

pub returns-clause-only : goal.returns-clause-only
returns-clause-only c s tied none = none-on s tied none

pub returns-clause-rest : goal.returns-clause-rest
returns-clause-rest c s tied on = answers-end s tied on
