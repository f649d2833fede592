-- The way to a path, one part more at a time.
use Rattle.std.proofs.Common.{◌≡◌, ℕ, ◌+◌, ◌<◌, ◌≤◌, List, [], ◌∷◌, ◌++◌, length, take, drop, Option, refl, sym, ap, ◌∙◌, arith, length-drop}
use Rattle.std.proofs.lemmas.List.{drop-drop}
use Rattle.std.proofs.Math.Seq.{take-add}
use Rattle.vb_tree.specs.declared.tree.TreeEntry.{TreeEntry}
use Rattle.vb_tree.specs.declared.reply.Refusal.{Refusal}
use Rattle.vb_tree.specs.Trees.{kind_at}
use Rattle.vb_tree.specs.Refusals.{refuse_rest, refuse_step}

rest_step : (tree : List TreeEntry) (folder rest : List (List ℕ)) (next : Option Refusal) → 1 < length rest → refuse_rest tree folder rest next ≡ refuse_step (kind_at (folder ++ take 1 rest) tree) (refuse_rest tree (folder ++ take 1 rest) (drop 1 rest) next)
rest_step tree folder [] next h = absurd (omega arith)
rest_step tree folder (x ∷ []) next h = absurd (omega arith)
rest_step tree folder (x ∷ y ∷ zs) next h = refl

-- one part more on the way
pub refuse_rest-step : (tree : List TreeEntry) (path : List (List ℕ)) (k : ℕ) (next : Option Refusal) → k + 1 < length path → refuse_rest tree (take k path) (drop k path) next ≡ refuse_step (kind_at (take (k + 1) path) tree) (refuse_rest tree (take (k + 1) path) (drop (k + 1) path) next)
refuse_rest-step tree path k next h =
    rest_step tree (take k path) (drop k path) next (omega (arith, length-drop k path))
    ∙ ap (λ r. refuse_step (kind_at (take k path ++ take 1 (drop k path)) tree) (refuse_rest tree (take k path ++ take 1 (drop k path)) r next)) (drop-drop 1 k path)
    ∙ ap (λ f. refuse_step (kind_at f tree) (refuse_rest tree f (drop (k + 1) path) next)) (sym (take-add k 1 path))

rest_end : (tree : List TreeEntry) (folder rest : List (List ℕ)) (next : Option Refusal) → length rest ≤ 1 → refuse_rest tree folder rest next ≡ next
rest_end tree folder [] next h = refl
rest_end tree folder (x ∷ []) next h = refl
rest_end tree folder (x ∷ y ∷ zs) next h = absurd (omega arith)

-- the last part isn't on the way
pub refuse_rest-end : (tree : List TreeEntry) (path : List (List ℕ)) (k : ℕ) (next : Option Refusal) → length path ≤ k + 1 → refuse_rest tree (take k path) (drop k path) next ≡ next
refuse_rest-end tree path k next h = rest_end tree (take k path) (drop k path) next (omega (arith, length-drop k path))

pub ruleset ways = (refuse_rest-step, refuse_rest-end)
