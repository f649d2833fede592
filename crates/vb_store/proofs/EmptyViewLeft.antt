-- A format leaves a disk that recovers the view of the empty store alone.
use Rattle.std.proofs.Common.{◌≡◌, ℕ, ◌+◌, ◌-◌, false, List, [], ◌∷◌, length, Option, Some, None, Result, Ok, Err, OnOk, refl, ap, subst, ◌∙◌, arith}
use Rattle.vb_disk.specs.declared.cell.Cell.{Cell}
use Rattle.vb_disk.specs.States.{DiskState, after_calls}
use Rattle.vb_store.specs.Clear.{first_candidates, last_candidates}
use Rattle.vb_store.specs.EmptyStores.{IsMadeEmpty, empty_home}
use Rattle.vb_store.specs.Formats.{CanFormat, format_calls, made_head}
use Rattle.vb_store.specs.Metadata.{metadata_of}
use Rattle.vb_store.specs.OneOf.{RecoversOneOf, TreeView, ViewOf, empty_view}
use Rattle.vb_store.specs.Recovered.{Placed, entries_read}
use Rattle.vb_store.specs.Runs.{MakesAll}
use Rattle.vb_store.proofs.EmptyRecovered.{ReadsEmpty, empty_slots, free_placed, metadata-empty}
use Rattle.vb_store.proofs.EmptyStores.{IsAtRest-empty, IsInRange-made_head, IsMadeEmpty-alone}
use Rattle.vb_store.proofs.KnownViews.{RecoversOneOf-rest, ViewOf-settled}
use Rattle.vb_store.proofs.MadeEmpty.{IsMadeEmpty-format}

first_of : Cell → List ℕ
first_of cell = cell.first

-- its candidates are those of an empty store
firsts_empty : (id : List ℕ) (blocks nodes : ℕ) (old new : DiskState) → CanFormat id blocks nodes → length id ≡ 16 → IsMadeEmpty id blocks nodes old new → ReadsEmpty id blocks nodes (first_candidates new)
unfolding first_of
firsts_empty id blocks nodes old new can long made = record {
  can = can;
  long = long;
  first = ap first_of made.store.first_head;
  second = ap first_of made.store.second_head;
  homes = λ slot within. ap first_of (made.store.homes slot within);
}

pub ViewOf-made : (id : List ℕ) (blocks nodes : ℕ) (old new : DiskState) → CanFormat id blocks nodes → length id ≡ 16 → IsMadeEmpty id blocks nodes old new → ViewOf new (empty_view id blocks nodes) (made_head id blocks nodes) empty_home
ViewOf-made id blocks nodes old new can long made =
    let journal : ℕ → List ℕ = λ i. last_candidates old (2 + nodes + i) in
    let reads : ℕ → List ℕ = first_candidates new in
    ViewOf-settled (made_head id blocks nodes) empty_home journal new (empty_view id blocks nodes) (IsInRange-made_head id blocks nodes can) refl
    (IsAtRest-empty id blocks nodes old new can long made) (IsMadeEmpty-alone id blocks nodes old new made)
    (ap (λ (size : ℕ). metadata_of size reads) made.store.size ∙ metadata-empty id blocks nodes reads (firsts_empty id blocks nodes old new can long made))
    (ap (λ (ps : List Placed). entries_read reads ps) (free_placed (empty_slots nodes) (nodes - 1)))

pub RecoversOneOf-made : (id : List ℕ) (blocks nodes : ℕ) (old new : DiskState) → CanFormat id blocks nodes → length id ≡ 16 → IsMadeEmpty id blocks nodes old new → RecoversOneOf (empty_view id blocks nodes ∷ []) false new
RecoversOneOf-made id blocks nodes old new can long made =
    let view : TreeView = empty_view id blocks nodes in
    RecoversOneOf-rest (view ∷ []) false (made_head id blocks nodes) empty_home (λ i. last_candidates old (2 + nodes + i)) new view (IsInRange-made_head id blocks nodes can) refl
    (IsAtRest-empty id blocks nodes old new can long made) (ViewOf-made id blocks nodes old new can long made) (0, omega arith, refl)

-- so it is where all calls of a format were made, on a disk that tells
pub RecoversOneOf-format : {T E : Type 0} (id : List ℕ) (blocks nodes : ℕ) (old new : Option DiskState) (result : Result T E) → CanFormat id blocks nodes → length id ≡ 16 → MakesAll (format_calls id blocks nodes) old new result → (d : DiskState) → new ≡ Some d → OnOk result (RecoversOneOf (empty_view id blocks nodes ∷ []) false d)
RecoversOneOf-format id blocks nodes (Some before) new (Ok x) can long makes d told =
    let made : new ≡ Some (after_calls before (format_calls id blocks nodes)) = makes.made before refl in
    let same : after_calls before (format_calls id blocks nodes) ≡ d = cc (made, told) in
    subst (RecoversOneOf (empty_view id blocks nodes ∷ []) false) same
    (RecoversOneOf-made id blocks nodes before (after_calls before (format_calls id blocks nodes)) can long (IsMadeEmpty-format id blocks nodes before (let space = can.space in omega arith)))
RecoversOneOf-format id blocks nodes None new (Ok x) can long makes d told =
    let none : new ≡ None = makes.untold refl in
    absurd (cc (none, told))
RecoversOneOf-format id blocks nodes old new (Err e) can long makes d told = tt
