-- That a first file can be planned in an empty store.
use Rattle.std.proofs.Common.{rules, ◌≡◌, ℕ, ◌+◌, ◌≤◌, ◌==◌, Bool, true, false, cond, List, [], ◌∷◌, length, replicate, All, Some, None, refl, arith}
use Rattle.std.proofs.lemmas.Bool.{eqb-true}
use Rattle.vb_index.specs.Nodes.{root_held}
use Rattle.std.specs.Prelude.{IsTrue}
use Rattle.vb_path.specs.Parts.{is_part}
use Rattle.vb_inode.specs.Nodes.{may_be_named}
use Rattle.vb_inode.specs.declared.next_view.NextNode.{NextNode}
use Rattle.vb_inode.specs.declared.next_view.PageSource.TheVariants.{Fresh}
use Rattle.vb_plan.specs.Conditions.{CanPlan, IsNextNode}
use Rattle.vb_plan.specs.Plans.{Basis}
use Rattle.vb_plan.specs.Worked.{file_next, root_next}
use Rattle.vb_plan.proofs.Nexts.{all_cons}

abbrev pub first_view : List ℕ → List NextNode
first_view digest = root_next ∷ file_next 1 (97 ∷ []) 5 (Fresh digest ∷ []) ∷ []

abbrev pub first_basis : List ℕ → Basis
first_basis free = record { nodes = Some root_held ∷ replicate 15 None; free = free }

one_of_two : (slot : ℕ) (a b : Bool) → (0 == slot) ≡ a → (1 == slot) ≡ b → cond a 1 0 + cond b 1 0 ≤ 1
one_of_two slot true true ea eb = absurd (omega (arith, eqb-true 0 slot ea, eqb-true 1 slot eb))
one_of_two slot true false ea eb = omega arith
one_of_two slot false true ea eb = omega arith
one_of_two slot false false ea eb = omega arith

none_of : {X : Type 0} (P : X → Type 0) → All P []
none_of P k d within = absurd (omega arith)

pub can_plan_first : (digest free : List ℕ) → IsTrue (is_part (97 ∷ [])) → 2 ≤ length free → CanPlan (first_basis free) (first_view digest)
unfolding may_be_named
can_plan_first digest free part room =
    let root : IsNextNode 16 root_next = record { slot = omega arith; used = refl; named = search rules; parented = search rules; measured = search rules; unplanned = refl; each_page = refl } in
    let file : IsNextNode 16 (file_next 1 (97 ∷ []) 5 (Fresh digest ∷ [])) = record { slot = omega arith; used = refl; named = part; parented = search rules; measured = search rules; unplanned = refl; each_page = refl } in
    record {
      nodes = all_cons (IsNextNode 16) root_next (file_next 1 (97 ∷ []) 5 (Fresh digest ∷ []) ∷ []) root (all_cons (IsNextNode 16) (file_next 1 (97 ∷ []) 5 (Fresh digest ∷ [])) [] file (none_of (IsNextNode 16)));
      root = refl;
      own_slot = λ slot. omega (arith, one_of_two slot (0 == slot) (1 == slot) refl refl);
      kept = none_of _;
      kept_once = λ place. omega arith;
      room = room;
    }
