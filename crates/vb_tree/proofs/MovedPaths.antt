-- The text of a path at or below the source, and of where it leads.
use Rattle.std.proofs.Common.{◌≡◌, ℕ, zero, suc, ◌+◌, ◌-◌, ◌<◌, ◌≤◌, Bool, true, false, cond, nat_lt, ◌&&◌, ◌||◌, List, [], ◌∷◌, ◌++◌, length, drop, sym, ap, ◌∙◌, arith, length-append}
use Rattle.std.specs.List.{flat_map, AllByRecursion}
use Rattle.std.proofs.lemmas.Grind.{flat_map-append}
use Rattle.std.proofs.lemmas.Bool.{false≢true, ltb-false}
use Rattle.std.proofs.lemmas.Bool.Decides.{nat_tests}
use Rattle.vb_path.specs.Paths.{text_of_path, IsPath}
use Rattle.vb_tree.specs.Trees.{is_root}
use Rattle.vb_path.specs.Parts.{IsPart, MakePath}
use Rattle.vb_path.proofs.PartLaws.{parts_are_parts, parts_make_path}
use Rattle.vb_tree.specs.Renames.{is_within, is_deep, moved_path, path_after}
use Rattle.vb_tree.proofs.Within.{within-parts}
use Rattle.vb_tree.proofs.Removals.{either_false}

-- each part behind a slash
abbrev pub slashed : List (List ℕ) → List ℕ
slashed parts = flat_map (λ p. 47 ∷ p) parts

-- the text of a path that isn't the root, with more parts
pub text-append : (top rest : List (List ℕ)) → is_root top ≡ false → text_of_path (top ++ rest) ≡ text_of_path top ++ slashed rest
text-append [] rest h = absurd (false≢true (sym h))
text-append (x ∷ xs) rest h = flat_map-append (λ p. 47 ∷ p) (x ∷ xs) rest

-- the text of a path within another that isn't the root
pub text-within : (top path : List (List ℕ)) → is_root top ≡ false → is_within top path ≡ true → text_of_path path ≡ text_of_path top ++ slashed (drop (length top) path)
text-within top path below h =
    ap text_of_path (within-parts top path h) ∙ text-append top (drop (length top) path) below

-- it is no shorter
pub text-no_shorter : (top path : List (List ℕ)) → is_root top ≡ false → is_within top path ≡ true → length (text_of_path top) ≤ length (text_of_path path)
text-no_shorter top path below h =
    omega (arith, ap length (text-within top path below h), length-append (text_of_path top) (slashed (drop (length top) path)))

-- how long the text of a path is that moved
pub length-moved : (source target path : List (List ℕ)) → is_root source ≡ false → is_root target ≡ false → is_within source path ≡ true → length (text_of_path (moved_path source target path)) ≡ length (text_of_path target) + length (text_of_path path) - length (text_of_path source)
length-moved source target path s t h =
    let rest = drop (length source) path in
    omega (arith, ap length (text-within source path s h), length-append (text_of_path source) (slashed rest), ap length (text-append target rest t), length-append (text_of_path target) (slashed rest))

-- how many parts it has
pub parts-moved : (source target path : List (List ℕ)) → is_within source path ≡ true → length (moved_path source target path) ≡ length target + length path - length source
parts-moved source target path h =
    let rest = drop (length source) path in
    omega (arith, length-append target rest, ap length (within-parts source path h), length-append source rest)

-- one of two tests holds where the first does, and else as the second does
pub or_left : (a b : ℕ) (v : Bool) → a < b → nat_lt a b ≡ (nat_lt a b || v)
or_left a b v h = grind (arith, nat_tests)

pub or_right : (a b : ℕ) (v : Bool) → b ≤ a → v ≡ (nat_lt a b || v)
or_right a b v h = grind (arith, nat_tests)

-- ---- what moved and isn't too deep is at a path

All-append : (xs ys : List (List ℕ)) → AllByRecursion IsPart xs → AllByRecursion IsPart ys → AllByRecursion IsPart (xs ++ ys)
All-append [] ys all more = more
All-append (x ∷ xs) ys all more = (all.0, All-append xs ys all.1 more)

All-drop : (n : ℕ) (xs : List (List ℕ)) → AllByRecursion IsPart xs → AllByRecursion IsPart (drop n xs)
All-drop zero xs all = all
All-drop (suc n) [] all = tt
All-drop (suc n) (x ∷ xs) all = All-drop n xs all.1

-- where what is at or below the source leads is a path
pub moved_path-parts : (source target path : List (List ℕ)) → IsPath target → IsPath path → is_deep (moved_path source target path) ≡ false → MakePath (moved_path source target path)
moved_path-parts source target path t p shallow =
    let after = moved_path source target path in
    let each = either_false (nat_lt 1024 (length (text_of_path after))) (nat_lt 32 (length after)) shallow in
    record {
      valid = All-append target (drop (length source) path) (parts_are_parts target t) (All-drop (length source) path (parts_are_parts path p));
      few = ltb-false 32 (length after) each.1;
      short = ltb-false 1024 (length (text_of_path after)) each.0;
    }

-- the path after a rename that makes none too deep is a path
pub path_after-path : (source target path : List (List ℕ)) → IsPath target → (is_within source path && is_deep (moved_path source target path)) ≡ false → IsPath path → IsPath (path_after source target path)
path_after-path source target path t shallow p =
    let after = moved_path source target path in
    elim (is_within source path) as (λ v. (v && is_deep after) ≡ false → IsPath (cond v after path)) [
      | true ↦ λ h. parts_make_path after (moved_path-parts source target path t p h)
      | false ↦ λ h. p
    ] shallow

pub ruleset moved_parts = (moved_path-parts)

pub ruleset within_texts = (text-no_shorter, length-moved, parts-moved)
