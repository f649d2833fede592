use Rattle.std.proofs.Common.{◌≡◌, ℕ, List, Option, Some, set, sym, ap, ◌∙◌, subst}
use Rattle.vb_index.specs.declared.held.Held.{Held}
use Rattle.vb_tree.specs.Trees.{with_bytes_at}
use Rattle.vb_index.specs.Nodes.{held_at, slot_at}
use Rattle.vb_index.specs.Changes.{resized}
use Rattle.vb_index.specs.Indexes.{IndexState, HasShapeOf}
use Rattle.vb_index.proofs.Resizing.{file_in, resized-tree}
use Rattle.vb_tree.specs.Refusals.{refuse_resize}
use Rattle.vb_index.specs.Contents.{HasTree, HasPages, KeepsOthers}
use Rattle.vb_index.proofs.Contents.{resized-contents}
use Rattle.vb_index.proofs.index.Index.resize.Goals as goal

pub returns-clause-tree : goal.returns-clause-tree
returns-clause-tree c = λ tree bytes shape len.
    let nodes : c.args.self.now.nodes ≡ c.self.inside.table = ap (λ (s : IndexState). s.nodes) (sym c.self.view_is) in
    let P : List (Option Held) → Type 0 = λ ns. HasShapeOf ns tree in
    let Q : List (List ℕ) → Type 0 = λ p. HasShapeOf c.resize.new.self (with_bytes_at p bytes tree) in
    subst Q c.parts.ensures.same (resized-tree c.self.inside.table c.resize.new.self tree c.parts.result.now c.in_ok-slot.slot c.args.len bytes c.in_ok-slot.ensures.found c.in_ok-slot.ensures.short (subst P nodes shape) len c.in_ok-resize.ensures.ok)

pub returns-clause-nodes : goal.returns-clause-nodes
returns-clause-nodes c =
    let file = file_in c.self.inside.table c.in_ok-slot.slot c.in_ok-slot.ensures.found.file in
    let S : List (Option Held) → IndexState = λ ns. record { limits = c.self.inside.limits; nodes = ns } in
    let P : IndexState → Type 0 = λ s. (x : ℕ) × (h : Held) × (slot_at s.nodes c.args.path.now ≡ Some x) × (held_at s.nodes x ≡ Some h) × (S c.resize.new.self ≡ record { limits = s.limits; nodes = set s.nodes x (Some (resized c.args.len h)) }) in
    subst P c.self.view_is (c.in_ok-slot.slot, file.0, ap (slot_at c.self.inside.table) (sym c.parts.ensures.same) ∙ c.in_ok-slot.ensures.found.at, file.1, ap S (c.in_ok-resize.ensures.ok file.0 file.1))

pub returns-clause-contents : goal.returns-clause-contents
returns-clause-contents c = λ pages changed tree bytes slot has len at here others.
    let nodes : c.args.self.now.nodes ≡ c.self.inside.table = ap (λ (s : IndexState). s.nodes) (sym c.self.view_is) in
    let P : List (Option Held) → Type 0 = λ ns. HasTree ns pages tree in
    let Q : List (List ℕ) → Type 0 = λ p. HasTree c.resize.new.self changed (with_bytes_at p bytes tree) in
    let had : HasTree c.self.inside.table pages tree = subst P nodes has in
    let both : Some slot ≡ Some c.in_ok-slot.slot = sym at ∙ ap (λ ns. slot_at ns c.args.path.now) nodes ∙ ap (slot_at c.self.inside.table) (sym c.parts.ensures.same) ∙ c.in_ok-slot.ensures.found.at in
    let same : slot ≡ c.in_ok-slot.slot = cc in
    subst Q c.parts.ensures.same (resized-contents c.self.inside.table c.resize.new.self tree c.parts.result.now c.in_ok-slot.slot c.args.len bytes (refuse_resize c.self.inside.limits tree c.parts.result.now c.args.len) pages changed c.in_ok-slot.ensures.found c.in_ok-slot.ensures.short had len (c.in_ok-slot.ensures.refused tree had.shape) (subst (λ t. HasPages changed t bytes) same here) (subst (λ t. KeepsOthers t pages changed) same others) c.in_ok-resize.ensures.ok)
