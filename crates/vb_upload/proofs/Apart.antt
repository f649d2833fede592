-- A settled page leaves each entry of an order its slot.
use Rattle.std.proofs.Common.{◌≡◌, ◌≢◌, ℕ, Bool, true, false, cond, ◌==◌, List, [], ◌∷◌}
use Rattle.std.specs.List.{All}
use Rattle.std.proofs.lemmas.List.Elements.{All-cons, All-head, All-tail}
use Rattle.vb_block.specs.declared.digest.Ref.{Ref}
use Rattle.vb_frozen.specs.declared.entry.FrozenEntry.{FrozenEntry}
use Rattle.vb_frozen.specs.Orders.{with_ref, with_reference, AreApart}

-- the entry of another slot
abbrev IsBeside : ℕ → FrozenEntry → Type 0
IsBeside slot e = e.slot ≢ slot

settled-beside : (slot page : ℕ) (reference : Ref) (s : ℕ) (order : List FrozenEntry) → All (IsBeside s) order → All (IsBeside s) (with_reference slot page reference order)
settled-beside slot page reference s [] all = all
settled-beside slot page reference s (e ∷ es) all =
    let first = All-head (IsBeside s) e es all in
    let rest = All-tail (IsBeside s) e es all in
    elim (e.slot == slot) as (λ b. All (IsBeside s) (cond b (with_ref page reference e ∷ es) (e ∷ with_reference slot page reference es))) [
      | true ↦ All-cons (IsBeside s) (with_ref page reference e) es first rest
      | false ↦ All-cons (IsBeside s) e (with_reference slot page reference es) first (settled-beside slot page reference s es rest)
    ]

pub settled-apart : (slot page : ℕ) (reference : Ref) (order : List FrozenEntry) → AreApart order → AreApart (with_reference slot page reference order)
settled-apart slot page reference [] apart = tt
settled-apart slot page reference (e ∷ es) apart =
    elim (e.slot == slot) as (λ b. AreApart (cond b (with_ref page reference e ∷ es) (e ∷ with_reference slot page reference es))) [
      | true ↦ apart
      | false ↦ (settled-beside slot page reference e.slot es apart.0, settled-apart slot page reference es apart.1)
    ]
