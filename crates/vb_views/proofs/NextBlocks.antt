-- The blocks of the next nodes are those of the committed ones, with the images of the plan put over them.
use Rattle.std.proofs.Common.{◌≡◌, ◌⊎◌, ℕ, ◌+◌, ◌<◌, Bool, true, false, not, cond, eqb, List, [], ◌∷◌, length, map, Option, Some, None, Ok, refl, sym, ap, subst, ◌∙◌, inl, inr, arith}
use Rattle.std.proofs.lemmas.Bool.{cases_Bool, cases_eq, eq-eqb, ne_eqb}
use Rattle.std.proofs.lemmas.List.Elements.{All-head, All-tail}
use Rattle.std.specs.List.{All, range_with_len}
use Rattle.std.specs.Option.{option_map}
use Rattle.vb_index.specs.declared.held.Held.{Held}
use Rattle.vb_index.specs.Nodes.{held_at, IsTable}
use Rattle.vb_index.proofs.Ascending.{In, contains-in}
use Rattle.vb_inode.specs.declared.node.Node.{Node}
use Rattle.vb_inode.specs.declared.next_view.NextNode.{NextNode}
use Rattle.vb_inode.specs.Reading.{node_read}
use Rattle.vb_inode.proofs.PagesRead.{node_page_read}
use Rattle.vb_journal.specs.Images.{slot_of}
use Rattle.vb_journal.specs.Progress.{new_images}
use Rattle.vb_journal.specs.Shown.{image_over}
use Rattle.vb_plan.specs.Conditions.{CanPlan, CanSeal}
use Rattle.vb_plan.specs.Laws.{block_next, changed_slots, slots_next}
use Rattle.vb_plan.specs.Plans.{Basis, all_held, node_at, node_in, plan_of, same_in_slot}
use Rattle.vb_plan.proofs.ChangedSlots.{Rises, filtered_rise, images_of_changed, passes_in}
use Rattle.vb_plan.proofs.SameNodes.{same_in_slot-Decides}
use Rattle.vb_plan.proofs.Sealed.{node_next_given}
use Rattle.vb_plan.proofs.Slots.{length-by_slot}
use Rattle.vb_store.proofs.SameJournals.{not_false}
use Rattle.vb_store.proofs.SlotsRead.{slot_read}
use Rattle.vb_views.specs.AtRest.{AreBlocksOf}

-- ---- images that are put over homes

-- where each page of some slots names its slot, and has this property, so has the page of a slot once they are put over
-- a home, if the home has it or the slot is among them
put_over : (P : List ℕ → Type 0) (page : ℕ → List ℕ) (slot : ℕ) (slots : List ℕ) (home : List ℕ) → ((s : ℕ) → In s slots → slot_of (page s) ≡ s) → P (page slot) → P home ⊎ In slot slots → P (image_over (map page slots) slot home)
put_over P page slot [] home named own (inl at) = at
put_over P page slot [] home named own (inr among) = absurd among
put_over P page slot (s ∷ slots) home named own either = elim (cases_eq s slot) [
  | inl same ↦
      let here : eqb (slot_of (page s)) slot ≡ true = eq-eqb (slot_of (page s)) slot (named s (inl refl) ∙ same) in
      subst (λ (b : Bool). P (image_over (map page slots) slot (cond b (page s) home))) (sym here)
      (put_over P page slot slots (page s) (λ t is. named t (inr is)) own (inl (subst (λ (t : ℕ). P (page t)) (sym same) own)))
  | inr apart ↦
      let other : eqb (slot_of (page s)) slot ≡ false = ne_eqb (slot_of (page s)) slot (λ e. apart (sym (named s (inl refl)) ∙ e)) in
      subst (λ (b : Bool). P (image_over (map page slots) slot (cond b (page s) home))) (sym other)
      (put_over P page slot slots home (λ t is. named t (inr is)) own (later either apart))
] where
  later : P home ⊎ In slot (s ∷ slots) → (s ≡ slot → ⊥) → P home ⊎ In slot slots
  later (inl at) apart = inl at
  later (inr (inl same)) apart = absurd (apart (sym same))
  later (inr (inr is)) apart = inr is

-- ---- the blocks of the next nodes

in_all : {X : Type 0} (P : X → Type 0) (xs : List X) (x : X) → All P xs → In x xs → P x
in_all P [] x all is = absurd is
in_all P (y ∷ ys) x all (inl same) = subst P (sym same) (All-head P y ys all)
in_all P (y ∷ ys) x all (inr is) = in_all P ys x (All-tail P y ys all) is

next_read : (basis : Basis) (next : List NextNode) (slot : ℕ) → CanPlan basis next → CanSeal basis next → slot < length basis.nodes → node_read (length basis.nodes) (block_next basis next slot) ≡ Ok (node_in slot (node_at (slots_next basis next) slot))
next_read basis next slot can seal within = node_page_read (length basis.nodes) (node_in slot (node_at (slots_next basis next) slot)) seal.few (node_next_given basis next can.nodes seal slot within)

-- the slot of the node in a slot
own_of : (slot : ℕ) (o : Option Node) → ((node : Node) → o ≡ Some node → node.slot ≡ slot) → (node_in slot o).slot ≡ slot
own_of slot None own = refl
own_of slot (Some node) own = own node refl

-- whether a slot changes
changes : Basis → List NextNode → ℕ → Bool
changes basis next slot = not (same_in_slot (node_at basis.nodes slot) (node_at (slots_next basis next) slot))

-- next nodes stand in their own slots
abbrev AreInOwnSlots : List (Option Held) → Type 0
AreInOwnSlots nodes = (slot : ℕ) (node : Node) → node_at nodes slot ≡ Some node → node.slot ≡ slot

next_blocks : (basis : Basis) (next : List NextNode) (homes : ℕ → List ℕ) → CanPlan basis next → CanSeal basis next → AreInOwnSlots (slots_next basis next) → AreBlocksOf basis.nodes homes → AreBlocksOf (slots_next basis next) (new_images (plan_of basis next).images homes)
unfolding changes
next_blocks basis next homes can seal own blocks slot within =
    let slots = length basis.nodes in
    let news = slots_next basis next in
    let many : length news ≡ slots = length-by_slot slots (all_held basis 0 next) in
    let below : slot < slots = omega (arith, within, many) in
    let page : ℕ → List ℕ = block_next basis next in
    let P : List ℕ → Type 0 = λ p. node_read slots p ≡ Ok (node_in slot (node_at news slot)) in
    let changed : List ℕ = changed_slots basis next in
    let images : (plan_of basis next).images ≡ map page changed = images_of_changed basis.nodes news (range_with_len 0 slots) in
    let risen : Rises 0 (0 + slots) changed = filtered_rise (changes basis next) 0 slots in
    let named : (s : ℕ) → In s changed → slot_of (page s) ≡ s = λ s among.
    let low : s < slots = (let less : s < 0 + slots = in_all (λ x. x < 0 + slots) changed s risen.below among in omega (arith, less)) in
    sym (slot_read slots (page s) (node_in s (node_at news s)) (next_read basis next s can seal low)) ∙ own_of s (node_at news s) (own s) in
    let either : P (homes slot) ⊎ In slot changed = elim (cases_Bool (changes basis next slot)) [
      | inl differs ↦ inr (contains-in changed slot (passes_in (changes basis next) 0 slots slot (omega arith) (omega (arith, below)) differs))
      | inr stays ↦ inl (blocks slot below ∙ ap (λ (o : Option Node). Ok (node_in slot o)) (same_node_in (node_at basis.nodes slot) (node_at news slot) stays))
    ] in
    let over : P (image_over (map page changed) slot (homes slot)) = put_over P page slot changed (homes slot) named (next_read basis next slot can seal below) either in
    subst (λ (n : ℕ). node_read n (new_images (plan_of basis next).images homes slot) ≡ Ok (node_in slot (node_at news slot))) (sym many)
    (subst (λ (l : List (List ℕ)). P (image_over l slot (homes slot))) (sym images) over)
  where
    same_node_in : (a b : Option Node) → not (same_in_slot a b) ≡ false → a ≡ b
    same_node_in a b stays = (same_in_slot-Decides a b).0 (not_false (same_in_slot a b) stays)

own_slots : (nodes : List (Option Held)) → IsTable nodes → AreInOwnSlots nodes
own_slots nodes table slot node is = by (held_at nodes slot) refl is where
  by : (o : Option Held) → held_at nodes slot ≡ o → option_map (λ (held : Held). held.node) o ≡ Some node → node.slot ≡ slot
  by None there e = absurd (cc e)
  by (Some held) there e = let same : held.node ≡ node = cc e in ap (λ (n : Node). n.slot) (sym same) ∙ (table.fits slot held there).at_slot

-- the blocks of the nodes of an index that has the next nodes
pub next-blocks : (basis : Basis) (next : List NextNode) (nodes : List (Option Held)) (homes : ℕ → List ℕ) → CanPlan basis next → CanSeal basis next → nodes ≡ slots_next basis next → IsTable nodes → AreBlocksOf basis.nodes homes → AreBlocksOf nodes (new_images (plan_of basis next).images homes)
next-blocks basis next nodes homes can seal is table blocks =
    subst (λ (l : List (Option Held)). AreBlocksOf l (new_images (plan_of basis next).images homes)) (sym is)
    (next_blocks basis next homes can seal (own_slots (slots_next basis next) (subst IsTable is table)) blocks)
