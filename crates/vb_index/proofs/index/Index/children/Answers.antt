use Rattle.std.proofs.Common.{◌≡◌, Some, map, IfOk, subst}
use Rattle.vb_tree.specs.Trees.{names_in}
use Rattle.vb_index.specs.Nodes.{slot_at}
use Rattle.vb_index.specs.Indexes.{IndexState, HasShapeOf}
use Rattle.vb_index.specs.Listings.{name_at, AreEntries}
use Rattle.vb_index.proofs.Named.{ok-then, entries-names}
use Rattle.vb_index.proofs.index.Index.children.Goals as goal

pub returns-clause-names : goal.returns-clause-names
returns-clause-names c = λ tree path is shape at.
    let P : IndexState → Type 0 = λ s. HasShapeOf s.nodes tree → slot_at s.nodes path ≡ Some c.args.folder → IfOk c.children.result (λ slots. map (name_at s.nodes) slots ≡ names_in path tree) in
    let here : P (record { limits = c.self.inside.limits; nodes = c.self.inside.table }) = λ shape' at'. ok-then c.children.result (λ slots. AreEntries c.self.inside.table c.args.folder slots) (λ slots. map (name_at c.self.inside.table) slots ≡ names_in path tree) (λ slots. entries-names c.self.inside.table tree path c.args.folder slots is shape' at') c.children.ensures.slots in
    subst P c.self.view_is here shape at
