use Rattle.vb_msg.proofs.FrameLaws.{frames-once}
use Rattle.vb_msg.proofs.laws.bytes_hold_one_list_of_messages.Goals as goal

pub returns-clause-one : goal.returns-clause-one
returns-clause-one c = frames-once
