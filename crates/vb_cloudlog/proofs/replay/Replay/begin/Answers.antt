use Rattle.vb_cloudlog.proofs.Steps.{began-took, began-kept}
use Rattle.vb_cloudlog.proofs.replay.Replay.begin.Goals as goal

pub returns-in-Taken-clause-fed : goal.returns-in-Taken-clause-fed
returns-in-Taken-clause-fed c =
    began-took c.args.self.now _ _ _ _ _ _ c.args.piece.now c.in-Taken.len c.self.view_is c.requires.goes_on c.requires.empty c.in-Taken.ensures.played c.saturating_add-self-inside.ensures

pub returns-in-Ok-clause-fed : goal.returns-in-Ok-clause-fed
returns-in-Ok-clause-fed c =
    began-kept c.args.self.now _ _ _ _ _ _ c.args.piece.now c.self.view_is c.requires.goes_on c.requires.empty c.in-Ok.ensures.ok c.in-Kept.ensures.played
