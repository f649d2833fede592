use Rattle.vb_msg.proofs.FramesRead.{accepted-by}
use Rattle.vb_msg.proofs.reading.decode.Goals as goal

pub returns-clause-accepted : goal.returns-clause-accepted
returns-clause-accepted c = accepted-by c.args.bytes.now c.read_frame.result c.read_frame.ensures
