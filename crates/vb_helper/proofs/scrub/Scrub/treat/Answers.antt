use Rattle.std.proofs.lemmas.Result.{err_from_is_err_and}
use Rattle.vb_helper.proofs.Treating.{treats_memory, at_error}
use Rattle.vb_helper.proofs.scrub.Scrub.treat.Goals as goal

pub returns-in_err-path-clause-treats : goal.returns-in_err-path-clause-treats
returns-in_err-path-clause-treats g c =
    let out = err_from_is_err_and c.from_residual.result c.from_residual.ensures.1 in
    let told = treats_memory c.args.order.now c.args.due c.args.synced.now.entries (g.D.Disk.told c.args.disk.now) (g.K.Link.told c.args.link.now) (g.D.Disk.calls c.args.disk.now) (g.K.Link.calls c.args.link.now) c.args.self.now.treated c.entry-entry.result.now c.get-reference.result.now c.entry-entry.ensures c.get-reference.ensures in
    at_error _ _ _ _ _ _ c.from_residual.result out.0 out.1 out.2 told

pub returns-in_err-named-clause-treats : goal.returns-in_err-named-clause-treats
returns-in_err-named-clause-treats g c =
    let out = err_from_is_err_and c.from_residual-in_err-named.result c.from_residual-in_err-named.ensures.1 in
    let told = treats_memory c.args.order.now c.args.due c.args.synced.now.entries (g.D.Disk.told c.args.disk.now) (g.K.Link.told c.args.link.now) (g.D.Disk.calls c.args.disk.now) (g.K.Link.calls c.args.link.now) c.args.self.now.treated c.entry-entry.result.now c.get-reference.result.now c.entry-entry.ensures c.get-reference.ensures in
    at_error _ _ _ _ _ _ c.from_residual-in_err-named.result out.0 out.1 out.2 told
