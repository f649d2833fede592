-- References that are replaced leave each file as many as it has.
use Rattle.std.proofs.Common.{◌≡◌, ℕ, zero, suc, ◌+◌, ◌≤◌, Bool, true, false, cond, List, [], ◌∷◌, length, get_or, slice_set, unwrap_or, Option, Some, None, refl, subst, sym, ◌∙◌}
use Rattle.std.proofs.Math.ListN.{length-set}
use Rattle.std.specs.Option.{option_and_then, option_map}
use Rattle.vb_block.specs.declared.digest.Ref.{Ref}
use Rattle.vb_index.specs.declared.held.Held.{Held}
use Rattle.vb_index.specs.Changes.{with_ref}
use Rattle.vb_index.specs.Nodes.{held_at, is_file_node, refs_of}
use Rattle.vb_store.specs.declared.map_page.MapPage.{MapPage}
use Rattle.vb_store.specs.Maps.{IsOfFile}
use Rattle.vb_store.specs.Metadata.{with_ref_at, with_refs_at}

-- how many references a slot has
many : Option Held → ℕ
many o = length (unwrap_or (option_and_then refs_of o) [])

many_by : (file : Bool) (page : ℕ) (r : Ref) (refs : List Ref) → (let pick : List Ref → Option (List Ref) = λ l. cond file (Some l) None in length (unwrap_or (pick (slice_set refs page r)) []) ≡ length (unwrap_or (pick refs) []))
many_by true page r refs = length-set refs page r
many_by false page r refs = refl

many-with_ref : (page : ℕ) (r : Ref) (o : Option Held) → many (option_map (with_ref page r) o) ≡ many o
unfolding many
many-with_ref page r None = refl
many-with_ref page r (Some held) = many_by (is_file_node held.node.kind) page r held.refs

many-set : (slots : List (Option Held)) (slot other : ℕ) (new : Option Held) → many new ≡ many (get_or slots slot None) → many (get_or (slice_set slots slot new) other None) ≡ many (get_or slots other None)
many-set [] slot other new same = refl
many-set (s ∷ slots) zero zero new same = same
many-set (s ∷ slots) zero (suc other) new same = refl
many-set (s ∷ slots) (suc slot) zero new same = refl
many-set (s ∷ slots) (suc slot) (suc other) new same = many-set slots slot other new same

many-with_refs_at : (refs : List Ref) (slots : List (Option Held)) (slot first other : ℕ) → many (held_at (with_refs_at slots slot first refs) other) ≡ many (held_at slots other)
many-with_refs_at [] slots slot first other = refl
many-with_refs_at (r ∷ rs) slots slot first other =
    many-with_refs_at rs (with_ref_at slots slot first r) slot (first + 1) other
    ∙ many-set slots slot other (option_map (with_ref first r) (held_at slots slot)) (many-with_ref first r (held_at slots slot))

pub IsOfFile-with_refs_at : (refs : List Ref) (slots : List (Option Held)) (slot first : ℕ) (m : MapPage) → IsOfFile slots m → IsOfFile (with_refs_at slots slot first refs) m
unfolding many
IsOfFile-with_refs_at refs slots slot first m is = subst (λ (n : ℕ). m.first + m.count ≤ n) (sym (many-with_refs_at refs slots slot first m.slot)) is
