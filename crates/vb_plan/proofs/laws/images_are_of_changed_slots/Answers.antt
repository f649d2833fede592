use Rattle.std.proofs.Common.{length, not, arith}
use Rattle.std.specs.List.{range_with_len}
use Rattle.vb_plan.specs.Laws.{slots_next}
use Rattle.vb_plan.specs.Plans.{all_held, node_at, same_in_slot}
use Rattle.vb_plan.proofs.ChangedSlots.{filtered_rise, images_of_changed, same_outside}
use Rattle.vb_plan.proofs.Nexts.{length-images_of}
use Rattle.vb_plan.proofs.SameNodes.{same_in_slot-Decides}
use Rattle.vb_plan.proofs.laws.images_are_of_changed_slots.Goals as goal

pub returns-clause-changed : goal.returns-clause-changed
returns-clause-changed c a b = same_in_slot-Decides a b

pub returns-clause-images : goal.returns-clause-images
returns-clause-images c basis next = images_of_changed basis.nodes (slots_next basis next) (range_with_len 0 (length basis.nodes))

pub returns-clause-others : goal.returns-clause-others
returns-clause-others c basis next slot within none = same_outside basis.nodes (slots_next basis next) (length basis.nodes) slot within none

pub returns-clause-rising : goal.returns-clause-rising
returns-clause-rising c basis next = (filtered_rise (λ slot. not (same_in_slot (node_at basis.nodes slot) (node_at (slots_next basis next) slot))) 0 (length basis.nodes)).rising

pub returns-clause-below : goal.returns-clause-below
returns-clause-below c basis next k d within =
    let risen = filtered_rise (λ slot. not (same_in_slot (node_at basis.nodes slot) (node_at (slots_next basis next) slot))) 0 (length basis.nodes) in
    omega (arith, risen.below k d within)

pub returns-clause-few : goal.returns-clause-few
returns-clause-few c basis next = length-images_of basis.nodes (all_held basis 0 next)
