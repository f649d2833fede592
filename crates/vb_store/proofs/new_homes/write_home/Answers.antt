use Rattle.std.proofs.Common.{ℕ, ◌+◌, List, [], ◌∷◌, subst}
use Rattle.vb_disk.specs.States.{Write}
use Rattle.vb_store.specs.Runs.{MakesAll}
use Rattle.vb_store.proofs.CallsMade.{write_made}
use Rattle.vb_store.proofs.new_homes.write_home.Goals as goal

pub returns-clause-makes : goal.returns-clause-makes
returns-clause-makes g c =
    let P : List ℕ → Type 0 = λ page. MakesAll (Write (2 + c.args.slot) page ∷ []) (g.D.Disk.told c.args.disk.now) (g.D.Disk.told c.write.new.self) c.write.result in
    subst P c.in_ok-page.ensures
    (write_made (2 + c.args.slot) c.in_ok-page.page c.write.result c.write.ensures.ok c.write.ensures.failed c.write.ensures.memory c.write.ensures.untold)
