use Rattle.std.proofs.Common.{◌∷◌, ◌++◌}
use Rattle.std.proofs.lemmas.Result.{err_from_is_err_and}
use Rattle.vb_disk.specs.States.{Resize, Sync}
use Rattle.vb_head.specs.Heads.{head_page}
use Rattle.vb_journal.specs.declared.commit_stage.Turn.TheVariants.{First}
use Rattle.vb_journal.specs.Calls.{turn_calls}
use Rattle.vb_store.specs.Formats.{home_calls, made_head}
use Rattle.vb_store.proofs.CallsMade.{call_made, stopped, went_on}
use Rattle.vb_store.proofs.formatting.make_store.Goals as goal

pub returns-in_err-write_heads-clause-makes : goal.returns-in_err-write_heads-clause-makes
returns-in_err-write_heads-clause-makes g c =
    let p = err_from_is_err_and c.from_residual-in_err-write_heads.result c.from_residual-in_err-write_heads.ensures.1 in
    went_on c.in_ok-resize.was (call_made (Resize c.args.blocks) c.resize.result c.resize.ensures.ok c.resize.ensures.err c.resize.ensures.untold)
    (stopped (home_calls c.args.nodes ++ (Sync ∷ turn_calls (head_page (made_head c.args.id c.args.blocks c.args.nodes)) First)) c.in_err-write_heads.was p.1 c.write_heads.ensures.makes)

pub returns-in_err-write_homes-clause-makes : goal.returns-in_err-write_homes-clause-makes
returns-in_err-write_homes-clause-makes g c =
    let p = err_from_is_err_and c.from_residual-in_err-write_homes.result c.from_residual-in_err-write_homes.ensures.1 in
    went_on c.in_ok-resize.was (call_made (Resize c.args.blocks) c.resize.result c.resize.ensures.ok c.resize.ensures.err c.resize.ensures.untold)
    (went_on c.in_ok-write_heads.was c.write_heads.ensures.makes
    (stopped (Sync ∷ turn_calls (head_page (made_head c.args.id c.args.blocks c.args.nodes)) First) c.in_err-write_homes.was p.1 c.write_homes.ensures.makes))

pub returns-in_err-sync-clause-makes : goal.returns-in_err-sync-clause-makes
returns-in_err-sync-clause-makes g c =
    let p = err_from_is_err_and c.from_residual-in_err-sync.result c.from_residual-in_err-sync.ensures.1 in
    went_on c.in_ok-resize.was (call_made (Resize c.args.blocks) c.resize.result c.resize.ensures.ok c.resize.ensures.err c.resize.ensures.untold)
    (went_on c.in_ok-write_heads.was c.write_heads.ensures.makes
    (went_on c.in_ok-write_homes.was c.write_homes.ensures.makes
    (stopped (turn_calls (head_page (made_head c.args.id c.args.blocks c.args.nodes)) First) c.in_err-sync.was p.1
    (call_made Sync c.sync.result c.sync.ensures.ok c.sync.ensures.err c.sync.ensures.untold))))

pub returns-clause-makes : goal.returns-clause-makes
returns-clause-makes g c =
    went_on c.in_ok-resize.was (call_made (Resize c.args.blocks) c.resize.result c.resize.ensures.ok c.resize.ensures.err c.resize.ensures.untold)
    (went_on c.in_ok-write_heads.was c.write_heads.ensures.makes
    (went_on c.in_ok-write_homes.was c.write_homes.ensures.makes
    (went_on c.in_ok-sync.was (call_made Sync c.sync.result c.sync.ensures.ok c.sync.ensures.err c.sync.ensures.untold)
    c.write_heads-2.ensures.makes)))
