use Rattle.std.proofs.Common.{rules, ◌≡◌, Some, take, drop}
use Rattle.vb_cloudlog.proofs.Loading.{piece-stops, stop-read}
use Rattle.vb_cloudlog.proofs.reading.read_piece.Goals as goal

pub returns-in_default-Err-Stopped-clause-reads : goal.returns-in_default-Err-Stopped-clause-reads
returns-in_default-Err-Stopped-clause-reads g c = λ all told.
    let stops : c.feed.new.self.stop ≡ Some c.in_default-Err-Stopped.stop = search rules in
    let front = c.in-Ok.ensures.read all told in
    stop-read all c.args.at c.args.replay.now c.feed.new.self c.in_default-Err-Stopped.stop c.refusal_of.result
    (piece-stops c.args.replay.now c.feed.new.self c.feed.result.0 c.in-Ok.n (take c.in-Ok.n c.read_at.new.into) (drop c.args.at all) c.in_default-Err-Stopped.stop c.feed.ensures.fed front.front stops)
    c.refusal_of.ensures
