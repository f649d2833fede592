use Rattle.std.proofs.Common.{[], ◌∷◌}
use Rattle.std.proofs.lemmas.Result.{err_from_is_err_and}
use Rattle.vb_disk.specs.States.{Sync}
use Rattle.vb_store.proofs.CallsMade.{call_made, stopped, went_on, write_made}
use Rattle.vb_store.proofs.formatting.write_synced.Goals as goal

pub returns-in_err-write-clause-makes : goal.returns-in_err-write-clause-makes
returns-in_err-write-clause-makes g c =
    let p = err_from_is_err_and c.from_residual.result c.from_residual.ensures.1 in
    stopped (Sync ∷ []) c.in_err-write.was p.1
    (write_made c.args.place c.args.page.now c.write.result c.write.ensures.ok c.write.ensures.failed c.write.ensures.memory c.write.ensures.untold)

pub returns-clause-makes : goal.returns-clause-makes
returns-clause-makes g c =
    went_on c.in_ok-write.was
    (write_made c.args.place c.args.page.now c.write.result c.write.ensures.ok c.write.ensures.failed c.write.ensures.memory c.write.ensures.untold)
    (call_made Sync c.sync.result c.sync.ensures.ok c.sync.ensures.err c.sync.ensures.untold)
