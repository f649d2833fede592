use Rattle.std.proofs.Common.{ℕ, List, [], ◌∷◌, subst}
use Rattle.std.proofs.lemmas.Result.{err_from_is_err_and}
use Rattle.vb_disk.specs.States.{Sync, Write}
use Rattle.vb_journal.specs.declared.commit_stage.Turn.TheVariants.{First}
use Rattle.vb_journal.specs.Calls.{turn_calls}
use Rattle.vb_store.specs.Runs.{MakesAll}
use Rattle.vb_store.proofs.CallsMade.{stopped, went_on}
use Rattle.vb_store.proofs.formatting.write_heads.Goals as goal

pub returns-in_err-write_synced-clause-makes : goal.returns-in_err-write_synced-clause-makes
returns-in_err-write_synced-clause-makes g c =
    let p = err_from_is_err_and c.from_residual-in_err-write_synced.result c.from_residual-in_err-write_synced.ensures.1 in
    let P : List ℕ → Type 0 = λ page. MakesAll (turn_calls page First) (g.D.Disk.told c.args.disk.now) (g.D.Disk.told c.write_synced.new.disk) c.from_residual-in_err-write_synced.result in
    subst P c.in_ok-page.ensures (stopped (Write 1 c.in_ok-page.page ∷ Sync ∷ []) c.in_err-write_synced.was p.1 c.write_synced.ensures.makes)

pub returns-clause-makes : goal.returns-clause-makes
returns-clause-makes g c =
    let P : List ℕ → Type 0 = λ page. MakesAll (turn_calls page First) (g.D.Disk.told c.args.disk.now) (g.D.Disk.told c.write_synced-2.new.disk) c.write_synced-2.result in
    subst P c.in_ok-page.ensures (went_on c.in_ok-write_synced.was c.write_synced.ensures.makes c.write_synced-2.ensures.makes)
