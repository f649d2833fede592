use Rattle.vb_journal.proofs.ChosenDisks.{EachChoiceStays-rest}
use Rattle.vb_journal.proofs.chosen_disks.each_choice_at_rest_recovers.Goals as goal

pub returns : goal.returns
returns c head homes journal d range closed is new chosen = EachChoiceStays-rest head homes journal d range closed is new chosen
