-- The entries after a rename, one entry more at a time.
use Rattle.std.proofs.Common.{◌≡◌, ℕ, suc, ◌<◌, Bool, true, false, cond, not, List, ◌∷◌, length, drop, get_or, inl, inr, refl, sym, ap, ◌∙◌, drop-cons}
use Rattle.std.proofs.lemmas.Bool.{cases_Bool, false≢true}
use Rattle.vb_tree.specs.declared.tree.TreeEntry.{TreeEntry}
use Rattle.vb_path.specs.Paths.{same_path}
use Rattle.vb_path.proofs.PathLaws.{same_path-Decides}
use Rattle.vb_tree.specs.Trees.{insert_entry, without}
use Rattle.vb_tree.specs.Renames.{path_after, moved, in_path_order}

flipped : (v : Bool) (p q : List (List ℕ)) → same_path p q ≡ v → same_path q p ≡ v
flipped true p q h = (same_path-Decides q p).1 (sym ((same_path-Decides p q).0 h))
flipped false p q h =
    elim (cases_Bool (same_path q p)) [
      | inl s ↦ absurd (false≢true (sym h ∙ (same_path-Decides p q).1 (sym ((same_path-Decides q p).0 s))))
      | inr s ↦ s
    ]

from_place : (source target : List (List ℕ)) (tree : List TreeEntry) (n m : ℕ) (e : TreeEntry) (v : Bool) → n < length tree → m ≡ suc n → e ≡ get_or tree n e → same_path e.path target ≡ v → moved source target (without target (drop n tree)) ≡ moved source target (cond (not v) (e ∷ without target (drop m tree)) (without target (drop m tree)))
from_place source target tree n m e v h s is t =
    ap (λ l. moved source target (without target l)) (drop-cons tree n e h)
    ∙ ap (λ x. moved source target (without target (x ∷ drop (suc n) tree))) (sym is)
    ∙ ap (λ k. moved source target (without target (e ∷ drop k tree))) (sym s)
    ∙ ap (λ w. moved source target (cond (not w) (e ∷ without target (drop m tree)) (without target (drop m tree)))) (flipped v e.path target t)

-- an entry that isn't at the target stands at its path after the rename
pub moved-step : (source target : List (List ℕ)) (tree : List TreeEntry) (n m : ℕ) (e : TreeEntry) → n < length tree → m ≡ suc n → e ≡ get_or tree n e → same_path e.path target ≡ false → in_path_order (moved source target (without target (drop n tree))) ≡ insert_entry (record e { path = path_after source target e.path }) (in_path_order (moved source target (without target (drop m tree))))
moved-step source target tree n m e h s is t = ap in_path_order (from_place source target tree n m e false h s is t)

-- an entry at the target is gone
pub moved-skip : (source target : List (List ℕ)) (tree : List TreeEntry) (n m : ℕ) (e : TreeEntry) → n < length tree → m ≡ suc n → e ≡ get_or tree n e → same_path e.path target ≡ true → in_path_order (moved source target (without target (drop n tree))) ≡ in_path_order (moved source target (without target (drop m tree)))
moved-skip source target tree n m e h s is t = ap in_path_order (from_place source target tree n m e true h s is t)

pub not_true : (a : Bool) → not a ≡ true → a ≡ false
not_true true h = absurd (false≢true h)
not_true false h = refl

pub not_false : (a : Bool) → not a ≡ false → a ≡ true
not_false true h = refl
not_false false h = absurd (false≢true (sym h))
