use Rattle.vb_folder.proofs.ledger.Ledger.upload_step.Goals as goal

pub returns-in-Some-clause-tells : goal.returns-in-Some-clause-tells
returns-in-Some-clause-tells g c = c.ask.ensures.tells (g.D.Disk.told c.args.disk.now)

pub returns-in-Some-clause-calls : goal.returns-in-Some-clause-calls
returns-in-Some-clause-calls g c = c.ask.ensures.calls (g.D.Disk.calls c.args.disk.now)
