-- The writes of the homes, one after the other.
use Rattle.std.proofs.Common.{◌≡◌, ℕ, zero, suc, ◌+◌, ◌-◌, ◌<◌, List, [], ◌∷◌, ◌++◌, Option, refl, sym, ap, subst, ◌∙◌, add-one, add-suc, add-zero, arith}
use Rattle.vb_disk.specs.States.{DiskState, DiskCall, Write, after_calls}
use Rattle.vb_inode.specs.Layout.{node_page}
use Rattle.vb_store.specs.Formats.{empty_node, home_calls}
use Rattle.vb_store.specs.Runs.{IsBrokenOff}
use Rattle.vb_store.proofs.CallsMade.{after_calls-append, broken_after, broken_before}

-- the write of one home
abbrev pub home_call : ℕ → List DiskCall
home_call slot = Write (2 + slot) (node_page (empty_node slot)) ∷ []

pub home_calls-none : home_calls 0 ≡ []
unfolding home_calls
home_calls-none = refl

pub home_calls-suc : (slot : ℕ) → home_calls (suc slot) ≡ home_calls slot ++ home_call slot
unfolding home_calls
home_calls-suc slot = refl

pub home_calls-more : (slot : ℕ) → home_calls (slot + 1) ≡ home_calls slot ++ home_call slot
home_calls-more slot = ap home_calls (add-one slot) ∙ home_calls-suc slot

-- the state after one home more
pub after_home : (d : DiskState) (slot : ℕ) → after_calls (after_calls d (home_calls slot)) (home_call slot) ≡ after_calls d (home_calls (slot + 1))
after_home d slot = sym (after_calls-append d (home_calls slot) (home_call slot)) ∙ ap (after_calls d) (sym (home_calls-more slot))

broken_on : (slot k : ℕ) (d : DiskState) (new : Option DiskState) → IsBrokenOff (home_calls slot) d new → IsBrokenOff (home_calls (slot + k)) d new
broken_on slot zero d new is = let P : ℕ → Type 0 = λ n. IsBrokenOff (home_calls n) d new in subst P (sym (add-zero slot)) is
broken_on slot (suc k) d new is =
    let P : List DiskCall → Type 0 = λ calls. IsBrokenOff calls d new in
    subst P (sym (ap home_calls (add-suc slot k) ∙ home_calls-suc (slot + k))) (broken_before (home_calls (slot + k)) (home_call (slot + k)) d new (broken_on slot k d new is))

-- the homes were broken off at one of them
pub broken_at_home : (slot nodes : ℕ) (d : DiskState) (new : Option DiskState) → slot < nodes → IsBrokenOff (home_call slot) (after_calls d (home_calls slot)) new → IsBrokenOff (home_calls nodes) d new
broken_at_home slot nodes d new before is =
    let P : List DiskCall → Type 0 = λ calls. IsBrokenOff calls d new in
    let here : IsBrokenOff (home_calls (slot + 1)) d new = subst P (sym (home_calls-more slot)) (broken_after (home_calls slot) (home_call slot) d new is) in
    let rest : (slot + 1) + (nodes - (slot + 1)) ≡ nodes = omega arith in
    let Q : ℕ → Type 0 = λ n. IsBrokenOff (home_calls n) d new in
    subst Q rest (broken_on (slot + 1) (nodes - (slot + 1)) d new here)
