-- Images, one slot after the other.
use Rattle.std.proofs.Common.{◌≡◌, ℕ, zero, suc, ◌+◌, List, ◌++◌, Option, sym, ap, ◌∙◌, arith, append_assoc}
use Rattle.std.proofs.lemmas.List.{append-nil}
use Rattle.std.specs.List.{flat_map, range_with_len}
use Rattle.vb_index.specs.declared.held.Held.{Held}
use Rattle.vb_plan.specs.Plans.{image_of, images_in, node_at}

more_of_range : {A : Type 0} (f : ℕ → List A) (a n : ℕ) → flat_map f (range_with_len a (suc n)) ≡ flat_map f (range_with_len a n) ++ f (a + n)
more_of_range f a zero = append-nil (f a) ∙ ap f (omega arith)
more_of_range f a (suc n) =
    ap (λ (ys : List _). f a ++ ys) (more_of_range f (a + 1) n)
    ∙ sym (append_assoc (f a) (flat_map f (range_with_len (a + 1) n)) (f (a + 1 + n)))
    ∙ ap (λ (k : ℕ). (f a ++ flat_map f (range_with_len (a + 1) n)) ++ f k) (omega arith)

-- the images of one slot more
pub one_image_more : (old new : List (Option Held)) (slot : ℕ) → images_in old new (range_with_len 0 (slot + 1)) ≡ images_in old new (range_with_len 0 slot) ++ image_of slot (node_at old slot) (node_at new slot)
one_image_more old new slot =
    let next : slot + 1 ≡ suc slot = omega arith in
    let from : 0 + slot ≡ slot = omega arith in
    ap (λ (n : ℕ). images_in old new (range_with_len 0 n)) next
    ∙ more_of_range (λ (s : ℕ). image_of s (node_at old s) (node_at new s)) 0 slot
    ∙ ap (λ (s : ℕ). images_in old new (range_with_len 0 slot) ++ image_of s (node_at old s) (node_at new s)) from
