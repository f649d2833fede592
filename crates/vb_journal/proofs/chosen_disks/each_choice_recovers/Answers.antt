use Rattle.vb_journal.proofs.ChosenDisks.{EachChoiceRecovers-stage, EachChoiceStays-journal}
use Rattle.vb_journal.proofs.chosen_disks.each_choice_recovers.Goals as goal

pub returns-clause-commit : goal.returns-clause-commit
returns-clause-commit c head epoch images homes journal stage d can is new chosen = EachChoiceRecovers-stage head epoch images homes journal stage d can is new chosen

pub returns-clause-journal : goal.returns-clause-journal
returns-clause-journal c head epoch images homes journal next d can is new chosen = EachChoiceStays-journal head epoch images homes journal next d can is new chosen
