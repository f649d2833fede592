use Rattle.vb_event.proofs.Rests.{all-rest, answer-due, end-rested}
use Rattle.vb_event.proofs.laws.answers_lead_to_rest.Goals as goal

pub returns-clause-last : goal.returns-clause-last
returns-clause-last c = end-rested

pub returns-clause-due : goal.returns-clause-due
returns-clause-due c = answer-due

pub returns-clause-rests : goal.returns-clause-rests
returns-clause-rests c = all-rest
