-- The laws of path order, and of the test whether two paths are one.
use Rattle.std.proofs.Common.{◌≡◌, ℕ, true, false, List, refl, sym, ◌∙◌}
use Rattle.std.specs.declared.cmp.Ordering.{Ordering}
use Rattle.std.specs.declared.cmp.Ordering.TheVariants.{Less, Equal, Greater}
use Rattle.std.specs.Bool.{Decides}
use Rattle.std.specs.Cmp.{IsTotalOrder}
use Rattle.std.specs.Ordering.{nat_cmp, is_lt, is_eq, eq_by_cmp, ordering_reverse}
use Rattle.std.specs.Cmp.Lexicographic.{slice_cmp, lists_total, lists_ties, nat_list_cmp_total, texts_ties}
use Rattle.std.proofs.lemmas.Slice.Eq.{slice_eq-Decides, bytes_eq-Decides}
use Rattle.std.proofs.lemmas.Bool.{false≢true}
use Rattle.vb_path.specs.Paths.{same_path, path_cmp}

pub path_cmp-total : IsTotalOrder path_cmp
path_cmp-total = lists_total nat_list_cmp_total

pub same_path-ties : (p q : List (List ℕ)) → same_path p q ≡ eq_by_cmp path_cmp p q
same_path-ties = lists_ties (slice_cmp nat_cmp) texts_ties

pub same_path-Decides : (p q : List (List ℕ)) → Decides (same_path p q) (p ≡ q)
same_path-Decides p q = slice_eq-Decides bytes_eq-Decides p q (same_path p q) refl

-- a path that isn't before another, nor is it, is after it
pub after-path : (p q : List (List ℕ)) → is_lt (path_cmp p q) ≡ false → same_path p q ≡ false → path_cmp q p ≡ Less
after-path p q h s =
    reversed (path_cmp p q) h (sym (same_path-ties p q) ∙ s) (path_cmp-total.antisymm q p) where
      reversed : (o : Ordering) → is_lt o ≡ false → is_eq o ≡ false → path_cmp q p ≡ ordering_reverse o → path_cmp q p ≡ Less
      reversed Less a b e = absurd (false≢true (sym a))
      reversed Equal a b e = absurd (false≢true (sym b))
      reversed Greater a b e = e

pub before-path : (p q : List (List ℕ)) → is_lt (path_cmp p q) ≡ true → path_cmp p q ≡ Less
before-path p q h = lesser (path_cmp p q) h refl where
  lesser : (o : Ordering) → is_lt o ≡ true → path_cmp p q ≡ o → path_cmp p q ≡ Less
  lesser Less a e = e
  lesser Equal a e = absurd (false≢true a)
  lesser Greater a e = absurd (false≢true a)
