use Rattle.std.proofs.Common.{ltb, rules}
use Rattle.std.proofs.lemmas.Fn.{filter_same}
use Rattle.vb_disk.proofs.cells.unlist.Goals as goal

pub returns : goal.returns
returns c = filter_same _ (λ place. ltb place c.args.blocks) _ (λ x b f' t. search rules) c.args.listed.now.items c.retain.new.self.items c.retain.ensures.filtered
