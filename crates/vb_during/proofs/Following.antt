-- The commit that is started over a view: its next view follows the committed one.
use Rattle.std.proofs.Common.{ℕ, List, [], ◌∷◌, length, map, refl, sym, ap, subst, ◌∙◌, arith}
use Rattle.std.proofs.lemmas.Bool.{false≢true}
use Rattle.std.proofs.lemmas.List.Elements.{All-cons, All-head, All-nil, All-tail, All-weaker}
use Rattle.std.specs.List.{All, Contains}
use Rattle.vb_commit.specs.Ways.{bytes_in}
use Rattle.vb_index.specs.Contents.{HasTree}
use Rattle.vb_inode.specs.declared.next_view.NextNode.{NextNode}
use Rattle.vb_plan.specs.declared.plan_page.PlanPage.{PlanPage}
use Rattle.vb_plan.specs.Laws.{place_of, slots_next}
use Rattle.vb_plan.specs.Plans.{all_held, all_pages, plan_of}
use Rattle.vb_plan.specs.Seen.{basis_of}
use Rattle.vb_plan.proofs.FreeOnes.{first_are_free}
use Rattle.vb_plan.proofs.PlannedPlaces.{places_of_plan}
use Rattle.vb_plan.proofs.Slots.{length-by_slot}
use Rattle.vb_space.specs.Free.{has_committed}
use Rattle.vb_space.specs.Spaces.{IsFree}
use Rattle.vb_store.specs.Views.{IsView, ViewState, places_in}
use Rattle.vb_store.proofs.NextImages.{can_commit}
use Rattle.vb_store.proofs.NextPlanned.{can_plan, can_seal, can_view_next}
use Rattle.vb_store.proofs.NextSettled.{head_after, viewed_after}
use Rattle.vb_tree.specs.declared.tree.TreeEntry.{TreeEntry}
use Rattle.vb_views.specs.Commits.{IsPageOf}
use Rattle.vb_during.specs.During.{CanStart, Follows, commit_over}
use Rattle.vb_during.proofs.NextTables.{next-table}

each_place : (P : ℕ → Type 0) (pages : List PlanPage) → All P (map place_of pages) → All (λ p. P (place_of p)) pages
each_place P [] all = All-nil (λ p. P (place_of p))
each_place P (p ∷ pages) all = All-cons (λ q. P (place_of q)) p pages (All-head P (place_of p) (map place_of pages) all) (each_place P pages (All-tail P (place_of p) (map place_of pages) all))

free_apart : (view : ViewState) (place : ℕ) → IsView view → IsFree view.space place → Contains (places_in view.index.nodes) place → ⊥
free_apart view place is free named =
    let used = ((is.committed place).1 named).used in
    false≢true (sym (ap has_committed free.unused) ∙ used)

pub over-follows : (view : ViewState) (next : List NextNode) (epoch : ℕ) (tree : List TreeEntry) (source : ℕ → ℕ → List ℕ) (after : List TreeEntry) → CanStart view next epoch
    → All (λ p. IsPageOf p (bytes_in source p)) (plan_of (basis_of view.index view.space) next).pages → HasTree (slots_next (basis_of view.index view.space) next) source after → Follows (commit_over view next epoch tree source after)
over-follows view next epoch tree source after can given has =
    let basis = basis_of view.index view.space in
    let plans = can_plan view next can.is can.none_begun can.follows in
    let seal = can_seal view next can.is can.follows in
    let stands = next-table basis next can.follows.tree seal (omega (arith, can.is.slots, can.is.can.range.nodes_high)) in
    let free : All (IsFree view.space) (map place_of (all_pages basis 0 next)) =
    subst (λ (places : List ℕ). All (IsFree view.space) places) (sym (places_of_plan basis next plans.room)) (first_are_free view.space (length (all_pages basis 0 next))) in
    record {
      can = plans;
      seal = seal;
      is = refl;
      view = record {
        can = viewed_after view.head _ _ (head_after view.head epoch _ (can_commit view next epoch can.is can.none_begun can.follows can.sequence can.in_range)) (can_view_next view next can.is can.none_begun can.follows);
        slots = length-by_slot (length view.index.nodes) (all_held basis 0 next) ∙ can.is.slots;
        table = stands.0;
        rooted = stands.1;
      };
      apart = All-weaker (λ p. IsFree view.space (place_of p)) (λ p. Contains (places_in view.index.nodes) (place_of p) → ⊥) (λ p is_free. free_apart view (place_of p) can.is is_free) (all_pages basis 0 next) (each_place (IsFree view.space) (all_pages basis 0 next) free);
      given = given;
      has = has;
    }
