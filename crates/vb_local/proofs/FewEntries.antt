-- A frozen view has fewer entries than a store may have nodes.
use Rattle.std.proofs.Common.{◌≡◌, ℕ, suc, ◌+◌, ◌≤◌, Bool, true, false, cond, ◌==◌, List, [], ◌∷◌, length, Option, None, Some, refl, ap, subst, ◌∙◌, arith}
use Rattle.std.proofs.lemmas.List.{length-map}
use Rattle.vb_block.specs.declared.digest.Ref.{Ref}
use Rattle.vb_tree.specs.declared.tree.TreeEntry.{TreeEntry}
use Rattle.vb_index.specs.declared.held.Held.{Held}
use Rattle.vb_index.specs.Indexes.{HasShapeOf}
use Rattle.vb_index.proofs.Tables.{nodes_in-le}
use Rattle.vb_frozen.specs.declared.entry.FrozenEntry.{FrozenEntry}
use Rattle.vb_frozen.specs.Orders.{entry_for, order_of, with_ref, with_reference}
use Rattle.vb_frozen.specs.Sources.{next_node, next_of}
use Rattle.vb_plan.proofs.NextTrees.{nodes_few}
use Rattle.vb_store.specs.Views.{IsView, ViewState}
use Rattle.vb_local.specs.AtRest.{HasNewRefs, NewRef, with_references}
use Rattle.vb_local.specs.Phases.{AreTied, IsTiedIn}
use Rattle.vb_local.specs.States.{frozen_in, LocalState, PhaseState, Rests, Waits, Writes}
use Rattle.vb_local.specs.Ties.{FrozenState, HasFewEntries, IsFrozenOver}

-- ---- where they come from

-- the nodes of a view
pub view-few : (v : ViewState) → IsView v → length v.index.nodes ≤ 65536
view-few v is = omega (arith, is.slots, is.can.range.nodes_high)

-- the order of nodes has an entry for each but the root
pub order-few : (nodes : List (Option Held)) (tree : List TreeEntry) → HasShapeOf nodes tree → length (order_of nodes tree) + 1 ≤ length nodes
order-few nodes tree shape = omega (arith, length-map tree (entry_for nodes), shape.as_many, nodes_in-le nodes)

-- a view that can be committed has no more nodes than the committed one
pub over-few : (v : ViewState) (frozen : FrozenState) → IsView v → IsFrozenOver v.index frozen → HasFewEntries frozen
over-few v frozen is over = omega (arith, view-few v is, nodes_few (length v.index.nodes) (next_of frozen.order frozen.pages) over.can.tree, length-map frozen.order (next_node frozen.pages))

-- ---- new references

with-reference-length : (slot page : ℕ) (reference : Ref) (order : List FrozenEntry) → length (with_reference slot page reference order) ≡ length order
with-reference-length slot page reference [] = refl
with-reference-length slot page reference (e ∷ es) =
    elim (e.slot == slot) as (λ b. length (cond b (with_ref page reference e ∷ es) (e ∷ with_reference slot page reference es)) ≡ length (e ∷ es)) [
      | true ↦ refl
      | false ↦ ap (λ (n : ℕ). suc n) (with-reference-length slot page reference es)
    ]

with-references-length : (refs : List NewRef) (order : List FrozenEntry) → length (with_references refs order) ≡ length order
with-references-length [] order = refl
with-references-length (r ∷ rs) order = with-references-length rs (with_reference r.slot r.page r.reference order) ∙ with-reference-length r.slot r.page r.reference order

-- an order with new references has as many entries
pub new-refs-few : (old new : FrozenState) → HasNewRefs old.order new.order → HasFewEntries old → HasFewEntries new
new-refs-few old new refs few = omega (arith, few, ap length refs.1, with-references-length refs.0 old.order)

-- ---- in each phase

phase-few : (v : ViewState) (s : LocalState) (phase : PhaseState) (frozen : FrozenState) → IsView v → IsTiedIn v s.live phase → frozen_in phase ≡ Some frozen → HasFewEntries frozen
phase-few v s (Rests None) frozen is tied there = absurd (cc there)
phase-few v s (Rests (Some one)) frozen is tied there = (let same : one ≡ frozen = cc there in subst HasFewEntries same tied.frozen_is.few)
phase-few v s (Waits one epoch) frozen is tied there = (let same : one ≡ frozen = cc there in subst HasFewEntries same (over-few v one is tied.frozen_is))
phase-few v s (Writes one way) frozen is tied there = (let same : one ≡ frozen = cc there in subst HasFewEntries same tied.frozen_is.few)

pub tied-few : (s : LocalState) (frozen : FrozenState) → AreTied s → frozen_in s.phase ≡ Some frozen → length frozen.order ≤ 65535
tied-few s frozen tied there = phase-few s.view s s.phase frozen tied.view tied.phase there
