-- What a change of a slot does to the pages that all files take.
use Rattle.std.proofs.Common.{◌≡◌, ℕ, ◌+◌, ◌-◌, ◌≤◌, ◌&&◌, nat_lt, List, length, set, Option, Some, None, inl, inr, refl, sym, ap, ◌∙◌, arith}
use Rattle.std.proofs.lemmas.Bool.{cases_Bool}
use Rattle.std.proofs.lemmas.Bool.Decides.{Decides-ltb, nat_tests}
use Rattle.std.proofs.lemmas.List.{set_past}
use Rattle.std.specs.Option.{option_map}
use Rattle.vb_tree.specs.declared.tree.Limits.{Limits}
use Rattle.vb_tree.specs.declared.reply.Refusal.TheVariants.{NoSpace, TooLong}
use Rattle.vb_tree.specs.Refusals.{refuse, refuse_length, refuse_pages}
use Rattle.vb_tree.specs.Trees.{longest_file, pages_of_length}
use Rattle.vb_index.specs.declared.held.Held.{Held}
use Rattle.vb_index.specs.Changes.{resized}
use Rattle.vb_index.specs.Moves.{placed_in, with_place, without_slot}
use Rattle.vb_index.specs.Nodes.{held_at, pages_in, pages_of_slot}
use Rattle.vb_index.proofs.Tables.{among_totals, held_in_table, pages_in-set}

-- where a slot takes no more pages than before, no more are taken in all
pub no_more : (nodes : List (Option Held)) (slot : ℕ) (new : Option Held) → pages_of_slot new ≤ pages_of_slot (held_at nodes slot) → pages_in (set nodes slot new) ≤ pages_in nodes
no_more nodes slot new less = elim (cases_Bool (nat_lt slot (length nodes))) [
  | inl l ↦ (let sums = pages_in-set nodes slot new ((Decides-ltb slot (length nodes)).0 l) in omega (arith, sums, less))
  | inr l ↦ (let past : length nodes ≤ slot = grind (arith, nat_tests) in let same = ap pages_in (set_past nodes slot new past) in omega (arith, same))
]

same_size : (folder : ℕ) (name : List ℕ) (o : Option Held) → pages_of_slot (option_map (placed_in folder name) o) ≡ pages_of_slot o
same_size folder name None = refl
same_size folder name (Some held) = refl

no_more-without : (nodes : List (Option Held)) (slot : Option ℕ) → pages_in (without_slot nodes slot) ≤ pages_in nodes
no_more-without nodes None = omega arith
no_more-without nodes (Some slot) = no_more nodes slot None (omega arith)

-- a node that gets another place, with what stood there gone, takes no page more
pub no_more-moved : (nodes : List (Option Held)) (slot folder : ℕ) (name : List ℕ) (replaced : Option ℕ) → pages_in (with_place (without_slot nodes replaced) slot folder name) ≤ pages_in nodes
no_more-moved nodes slot folder name replaced =
    let less = no_more-without nodes replaced in
    let same = same_size folder name (held_at (without_slot nodes replaced) slot) in
    let more = no_more (without_slot nodes replaced) slot (option_map (placed_in folder name) (held_at (without_slot nodes replaced) slot)) (omega (arith, same)) in
    omega (arith, less, more)

-- a length that isn't refused leaves room
has_room : (limits : Limits) (before after len : ℕ) → refuse_length limits before after len ≡ None → before ≤ limits.pages → after ≤ limits.pages
has_room limits before after len none within = elim (cases_Bool (nat_lt longest_file len)) [
  | inl long ↦ absurd (let out : Some (TooLong len) ≡ None = sym (ap (λ b. refuse b (TooLong len) (refuse_pages limits before after)) long) ∙ none in cc)
  | inr short ↦ (let left : refuse_pages limits before after ≡ None = sym (ap (λ b. refuse b (TooLong len) (refuse_pages limits before after)) short) ∙ none in
      elim (cases_Bool (nat_lt limits.pages after && nat_lt before after)) [
        | inl both ↦ absurd (let out : Some (NoSpace after limits.pages) ≡ None = sym (ap (λ b. refuse b (NoSpace after limits.pages) None) both) ∙ left in cc)
        | inr either ↦ grind (arith, nat_tests)
      ])
]

-- a file gets a length that isn't refused, and all files keep the limit
pub resized_within : (limits : Limits) (nodes : List (Option Held)) (slot : ℕ) (held : Held) (pages old len : ℕ) → held_at nodes slot ≡ Some held → held.node.length ≡ old → pages ≡ pages_in nodes → refuse_length limits pages (pages - pages_of_length old + pages_of_length len) len ≡ None → pages_in nodes ≤ limits.pages → pages_in (set nodes slot (Some (resized len held))) ≤ limits.pages
resized_within limits nodes slot held pages old len e is count none within =
    let sums = pages_in-set nodes slot (Some (resized len held)) (held_in_table nodes slot held e) in
    let was = ap pages_of_slot e in
    let size = ap pages_of_length is in
    let among = (among_totals nodes slot held e).1 in
    let room = has_room limits pages (pages - pages_of_length old + pages_of_length len) len none (omega (arith, count, within)) in
    omega (arith, sums, was, size, among, room, count)
