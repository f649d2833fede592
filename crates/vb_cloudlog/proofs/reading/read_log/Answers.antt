use Rattle.std.proofs.Common.{rules, ◌<◌, ◌≤◌, ap, ◌∙◌, arith}
use Rattle.vb_cause.specs.Faults.{greatest_count}
use Rattle.vb_cloudlog.specs.Replays.{ReplayState}
use Rattle.vb_cloudlog.proofs.Loading.{nothing-fed, piece-fed, all-fed, rest-stops}
use Rattle.vb_cloudlog.proofs.reading.read_log.Goals as goal

pub loop-at-init : goal.loop-at-init
loop-at-init g c = record {
  within = omega arith;
  fed = λ all told. nothing-fed all c.new-replay.result c.new-replay.ensures.new;
  whole = λ all told. c.in-Ok.ensures.len all told;
  told = c.in-Ok.ensures.told;
  faults = c.in-Ok.ensures.cause.kept;
  goes_on = ap (λ (r : ReplayState). r.stop) c.new-replay.ensures.new;
  room = search rules;
}

pub loop-at-preserved : goal.loop-at-preserved
loop-at-preserved g c =
    let inv = c.loop-at.invariant in
    let n = c.in-Ok-read_piece.n in
    let before : c.loop-at.at < c.in-Ok.len = search rules in
    record {
      within = omega (arith, before, c.in-Ok-read_piece.ensures.within);
      fed = λ all told.
          let read = c.in-Ok-read_piece.ensures.reads all (inv.told ∙ told) in
          piece-fed all c.loop-at.at n c.loop-at.replay c.read_piece.new.replay (inv.fed all told) read.0;
      whole = inv.whole;
      told = c.in-Ok-read_piece.ensures.told ∙ inv.told;
      faults = omega (arith, inv.faults, c.in-Ok-read_piece.ensures.cause.kept);
      goes_on = c.in-Ok-read_piece.ensures.goes_on;
      room = search rules;
    }

pub returns-in-Err-clause-reads : goal.returns-in-Err-clause-reads
returns-in-Err-clause-reads g c = λ all told.
    rest-stops all c.loop-at.at c.loop-at.replay c.read_piece.new.replay c.in-Err.refusal (c.loop-at.invariant.fed all told)
    (c.in-Err.ensures.reads all (c.loop-at.invariant.told ∙ told))

pub returns-clause-reads : goal.returns-clause-reads
returns-clause-reads g c = λ all told.
    let past : c.in-Ok.len ≤ c.loop-at.at = search rules in
    let fits : c.in-Ok.len ≤ greatest_count = search rules in
    let whole = c.loop-at.invariant.whole all told in
    (all-fed all c.loop-at.at c.in-Ok.len c.loop-at.replay (c.loop-at.invariant.fed all told) whole past, omega (arith, fits, whole))
