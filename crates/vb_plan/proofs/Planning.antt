-- Nodes that are planned one after the other.
use Rattle.std.proofs.Common.{◌≡◌, ℕ, ◌+◌, ◌<◌, ◌≤◌, List, [], ◌∷◌, ◌++◌, length, get_or, drop, sym, ap, ◌∙◌, arith, append_assoc, length-append}
use Rattle.std.proofs.lemmas.List.{append-nil, drop_all, drop_more}
use Rattle.vb_index.specs.declared.held.Held.{Held}
use Rattle.vb_inode.specs.declared.next_view.NextNode.{NextNode}
use Rattle.vb_plan.specs.declared.plan_page.PlanPage.{PlanPage}
use Rattle.vb_plan.specs.Sources.{pages_written}
use Rattle.vb_plan.specs.Plans.{Basis, all_held, all_pages, data_page, data_refs, held_next, map_image, maps_due, pages_next, taken_by, taken_by_data}
use Rattle.vb_plan.proofs.Placing.{length-pages_written}

-- as many places are taken as pages are written
pub length-pages_next : (basis : Basis) (taken : ℕ) (x : NextNode) → taken + length (pages_next basis taken x) ≡ taken_by basis taken x
length-pages_next basis taken x =
    omega (
      arith,
      length-append (pages_written (data_page x.node.slot) basis.free taken 0 x.pages) (pages_written (map_image (data_refs basis taken x)) basis.free (taken_by_data taken x) 0 (maps_due basis taken x)),
      length-pages_written (data_page x.node.slot) basis.free taken 0 x.pages,
      length-pages_written (map_image (data_refs basis taken x)) basis.free (taken_by_data taken x) 0 (maps_due basis taken x),
    )

-- so many of these nodes are planned, and what is to be written of them was added to the pages to write
pub record HasPlanned (basis : Basis) (begun : List PlanPage) (next : List NextNode) (done : ℕ) (held : List Held) (pages : List PlanPage) : Type 0 where
  pub held_left : held ++ all_held basis (length pages) (drop done next) ≡ all_held basis (length begun) next
  pub pages_left : pages ++ all_pages basis (length pages) (drop done next) ≡ begun ++ all_pages basis (length begun) next

-- the next one has its places
pub room_for_node : {basis : Basis} {begun : List PlanPage} {next : List NextNode} {done : ℕ} {held : List Held} {pages : List PlanPage} → HasPlanned basis begun next done held pages → (x : NextNode) → done < length next → get_or next done x ≡ x → taken_by basis (length pages) x ≤ length begun + length (all_pages basis (length begun) next)
room_for_node {basis} {begun} {next} {done} {pages} planned x within is =
    let left : drop done next ≡ x ∷ drop (done + 1) next = drop_more next done x within ∙ ap (λ (n : NextNode). n ∷ drop (done + 1) next) is in
    let all : length (pages ++ all_pages basis (length pages) (x ∷ drop (done + 1) next)) ≡ length (begun ++ all_pages basis (length begun) next) = ap (λ (xs : List NextNode). length (pages ++ all_pages basis (length pages) xs)) (sym left) ∙ ap length planned.pages_left in
    omega (arith, all, length-append pages (all_pages basis (length pages) (x ∷ drop (done + 1) next)), length-append begun (all_pages basis (length begun) next), length-append (pages_next basis (length pages) x) (all_pages basis (taken_by basis (length pages) x) (drop (done + 1) next)), length-pages_next basis (length pages) x)

-- one more
pub one_planned : {basis : Basis} {begun : List PlanPage} {next : List NextNode} {done : ℕ} {held : List Held} {pages : List PlanPage} → HasPlanned basis begun next done held pages → (x : NextNode) → done < length next → get_or next done x ≡ x → (held2 : List Held) (pages2 : List PlanPage) → held2 ≡ held ++ held_next basis (length pages) x ∷ [] → pages2 ≡ pages ++ pages_next basis (length pages) x → HasPlanned basis begun next (done + 1) held2 pages2
one_planned {basis} {begun} {next} {done} {held} {pages} planned x within is held2 pages2 more_held more_pages =
    let left : drop done next ≡ x ∷ drop (done + 1) next = drop_more next done x within ∙ ap (λ (n : NextNode). n ∷ drop (done + 1) next) is in
    let after : length pages2 ≡ taken_by basis (length pages) x = ap length more_pages ∙ length-append pages (pages_next basis (length pages) x) ∙ length-pages_next basis (length pages) x in
    record {
      held_left =
          ap (λ (n : ℕ). held2 ++ all_held basis n (drop (done + 1) next)) after
          ∙ ap (λ (hs : List Held). hs ++ all_held basis (taken_by basis (length pages) x) (drop (done + 1) next)) more_held
          ∙ append_assoc held (held_next basis (length pages) x ∷ []) (all_held basis (taken_by basis (length pages) x) (drop (done + 1) next))
          ∙ ap (λ (xs : List NextNode). held ++ all_held basis (length pages) xs) (sym left)
          ∙ planned.held_left;
      pages_left =
          ap (λ (n : ℕ). pages2 ++ all_pages basis n (drop (done + 1) next)) after
          ∙ ap (λ (ps : List PlanPage). ps ++ all_pages basis (taken_by basis (length pages) x) (drop (done + 1) next)) more_pages
          ∙ append_assoc pages (pages_next basis (length pages) x) (all_pages basis (taken_by basis (length pages) x) (drop (done + 1) next))
          ∙ ap (λ (xs : List NextNode). pages ++ all_pages basis (length pages) xs) (sym left)
          ∙ planned.pages_left;
    }

-- what is so once all are planned
pub all_planned_held : {basis : Basis} {begun : List PlanPage} {next : List NextNode} {done : ℕ} {held : List Held} {pages : List PlanPage} → HasPlanned basis begun next done held pages → length next ≤ done → held ≡ all_held basis (length begun) next
all_planned_held {basis} {next} {done} {held} {pages} planned past =
    sym (append-nil held) ∙ ap (λ (xs : List NextNode). held ++ all_held basis (length pages) xs) (sym (drop_all done next past)) ∙ planned.held_left

pub all_planned_pages : {basis : Basis} {begun : List PlanPage} {next : List NextNode} {done : ℕ} {held : List Held} {pages : List PlanPage} → HasPlanned basis begun next done held pages → length next ≤ done → pages ≡ begun ++ all_pages basis (length begun) next
all_planned_pages {basis} {next} {done} {pages} planned past =
    sym (append-nil pages) ∙ ap (λ (xs : List NextNode). pages ++ all_pages basis (length pages) xs) (sym (drop_all done next past)) ∙ planned.pages_left
