-- An operation leaves files within the limits of the index.
use Rattle.std.proofs.Common.{◌≡◌, ℕ, ◌≤◌, List, Option, Some, None, set, sym, ap, ◌∙◌, subst}
use Rattle.vb_index.specs.declared.held.Held.{Held}
use Rattle.vb_index.specs.Changes.{resized, IsFileAt}
use Rattle.vb_index.specs.Indexes.{IndexState, KeepsLimits}
use Rattle.vb_index.specs.Nodes.{held_at, pages_in, slot_at}
use Rattle.vb_active.specs.Files.{IsFileOf}
use Rattle.vb_active.specs.Replacing.{Replaces}
use Rattle.vb_active.specs.Views.{ActiveState}

-- the file at a path, which is in this slot, may get a length: all files then keep the limit where they kept it before
pub record LeavesRoom (index : IndexState) (path : List (List ℕ)) (slot len : ℕ) : Type 0 where
  pub at : slot_at index.nodes path ≡ Some slot
  pub room : (held : Held) → held_at index.nodes slot ≡ Some held → KeepsLimits index → pages_in (set index.nodes slot (Some (resized len held))) ≤ index.limits.pages

-- what a length that was judged says
pub leaves-room : (index : IndexState) (path : List (List ℕ)) (slot len : ℕ) → IsFileAt index.nodes path slot
    → ((held : Held) → held_at index.nodes slot ≡ Some held → KeepsLimits index → pages_in (set index.nodes slot (Some (resized len held))) ≤ index.limits.pages)
    → LeavesRoom index path slot len
leaves-room index path slot len file room = record { at = file.at; room = room }

-- a file that got such a length
pub replaced-within : (old new : ActiveState) (path : List (List ℕ)) (slot judged long len first : ℕ) (run : List (List ℕ))
    → IsFileOf old.index.nodes path slot long → LeavesRoom old.index path judged len → Replaces old new slot len first run
    → KeepsLimits old.index → KeepsLimits new.index
replaced-within old new path slot judged long len first run file leaves r within =
    let both : Some judged ≡ Some slot = sym leaves.at ∙ file.at in
    let same : judged ≡ slot = cc in
    let N : ℕ → Type 0 = λ s. pages_in (set old.index.nodes s (Some (resized len file.held))) ≤ old.index.limits.pages in
    let held = ap (held_at old.index.nodes) same ∙ file.there in
    let made : KeepsLimits (record old.index { nodes = set old.index.nodes slot (Some (resized len file.held)) }) = subst N same (leaves.room file.held held within) in
    subst KeepsLimits (sym (r.index file.held file.there)) made
