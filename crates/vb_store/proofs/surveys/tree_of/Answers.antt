use Rattle.std.proofs.Common.{◌≡◌, Err, subst, arith}
use Rattle.vb_nodes.specs.declared.errors.TableError.{TableError}
use Rattle.vb_nodes.specs.declared.errors.TableError.TheVariants.{Wrong}
use Rattle.vb_nodes.specs.Holdings.{IsIndexed, index_from}
use Rattle.vb_tree.specs.declared.tree.Limits.{Limits}
use Rattle.vb_store.proofs.Surveyed.{by_slot, index-wrong}
use Rattle.vb_store.proofs.surveys.tree_of.Goals as goal

pub index_of-requires-clause-by_slot : goal.index_of-requires-clause-by_slot
index_of-requires-clause-by_slot c = by_slot c.args.head.now.nodes c.args.nodes.now c.requires.all c.requires.read

pub index_of-requires-clause-limits : goal.index_of-requires-clause-limits
index_of-requires-clause-limits c =
    let r = c.requires.is.range in
    record { least_nodes = r.nodes_low; most_nodes = r.nodes_high; least_pages = omega (arith, c.from.ensures, r.space); most_pages = omega (arith, c.from.ensures, r.blocks) }

pub refusal-requires-clause-slot : goal.refusal-requires-clause-slot
refusal-requires-clause-slot c = λ slot why is.
    let limits : Limits = record { pages = c.from.result; nodes = c.args.head.now.nodes } in
    let wrong : index_from limits c.args.nodes.now ≡ Err (Wrong slot why) = subst (λ (e : TableError). IsIndexed (index_from limits c.args.nodes.now) (Err e)) is c.in-Err.ensures in
    omega (arith, index-wrong limits c.args.nodes.now slot why wrong, c.requires.all, c.requires.is.range.nodes_high)
