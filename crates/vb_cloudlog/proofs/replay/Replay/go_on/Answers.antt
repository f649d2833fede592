use Rattle.std.proofs.Common.{arith}
use Rattle.vb_cloudlog.specs.declared.play.Played.TheVariants.{Taken, Kept}
use Rattle.vb_cloudlog.proofs.Steps.{played-on, went-took, took-within, kept}
use Rattle.vb_cloudlog.proofs.replay.Replay.go_on.Goals as goal

pub overflow_sub-result : goal.overflow_sub-result
overflow_sub-result c =
    let plays = played-on c.self.inside.cloud c.play.new.cloud c.self.inside.place c.slice.result.now c.extend.new.self c.self.inside.rest c.split_at.result.0.now (Taken c.in-Taken.len) c.slice.ensures c.in-Ok.ensures.ok c.in-Taken.ensures.played in
    let within = took-within c.self.inside.cloud c.play.new.cloud c.self.inside.place c.self.inside.rest c.split_at.result.0.now c.args.piece.now c.min-more.result c.in-Taken.len c.self.invariant.partial c.split_at.ensures.front plays in
    omega (arith, within.0, c.len-had.ensures)

pub returns-in-Taken-clause-fed : goal.returns-in-Taken-clause-fed
returns-in-Taken-clause-fed c =
    let plays = played-on c.self.inside.cloud c.play.new.cloud c.self.inside.place c.slice.result.now c.extend.new.self c.self.inside.rest c.split_at.result.0.now (Taken c.in-Taken.len) c.slice.ensures c.in-Ok.ensures.ok c.in-Taken.ensures.played in
    went-took c.args.self.now c.self.inside.cloud c.play.new.cloud c.self.inside.place c.saturating_add-self-inside.result c.self.inside.rest c.truncate.new.self c.self.inside.stop c.split_at.result.0.now c.args.piece.now c.min-more.result c.in-Taken.len c.len-had.result c.self.view_is c.requires.goes_on
    c.self.invariant.partial c.split_at.ensures.front plays c.saturating_add-self-inside.ensures c.len-had.ensures c.truncate.ensures

pub returns-in-Taken-clause-within : goal.returns-in-Taken-clause-within
returns-in-Taken-clause-within c =
    let plays = played-on c.self.inside.cloud c.play.new.cloud c.self.inside.place c.slice.result.now c.extend.new.self c.self.inside.rest c.split_at.result.0.now (Taken c.in-Taken.len) c.slice.ensures c.in-Ok.ensures.ok c.in-Taken.ensures.played in
    let within = took-within c.self.inside.cloud c.play.new.cloud c.self.inside.place c.self.inside.rest c.split_at.result.0.now c.args.piece.now c.min-more.result c.in-Taken.len c.self.invariant.partial c.split_at.ensures.front plays in
    (omega (arith, within.1, c.len-had.ensures), omega (arith, within.2, c.len-had.ensures))

pub returns-in-Kept-clause-fed : goal.returns-in-Kept-clause-fed
returns-in-Kept-clause-fed c =
    let plays = played-on c.self.inside.cloud c.play.new.cloud c.self.inside.place c.slice.result.now c.extend.new.self c.self.inside.rest c.split_at.result.0.now Kept c.slice.ensures c.in-Ok.ensures.ok c.in-Kept.ensures.played in
    kept c.args.self.now c.self.inside.cloud c.play.new.cloud c.self.inside.place c.self.inside.rest c.self.inside.stop c.split_at.result.0.now c.extend.new.self c.args.piece.now c.min-more.result c.self.view_is c.requires.goes_on c.split_at.ensures.front c.in-Ok.ensures.ok plays
