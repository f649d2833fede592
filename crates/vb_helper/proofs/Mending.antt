-- What a repair leaves of a disk: writes alone, at one place.
use Rattle.std.proofs.Common.{◌≡◌, ◌≢◌, ℕ, ◌⊎◌, true, false, cond, eqb, List, [], ◌∷◌, ◌++◌, length, get_or, Option, Some, None, refl, sym, ap, ◌∙◌, subst, inl, inr, arith, length-append}
use Rattle.std.specs.Prelude.{Result, Ok, Err}
use Rattle.std.specs.Option.{unwrap_or}
use Rattle.std.specs.List.{All}
use Rattle.std.proofs.Math.Seq.{get_or-append_seam}
use Rattle.std.proofs.lemmas.Bool.Decides.{nat_tests}
use Rattle.sha2.specs.Sha256.{sha256}
use Rattle.vb_block.specs.declared.digest.Ref.{Ref}
use Rattle.vb_cloud.specs.Machine.{CloudState}
use Rattle.vb_disk.specs.declared.cell.Cell.{Cell}
use Rattle.vb_disk.specs.Cells.{candidates, candidate_at, read_of, written_cell}
use Rattle.vb_disk.specs.Moments.{EachMoment}
use Rattle.vb_disk.specs.States.{DiskState, Write, read_at, written}
use Rattle.vb_disk.proofs.Ways.{OnlyWrites-refl, OnlyWrites-written, EachMoment-tried}
use Rattle.vb_link.specs.declared.view.ViewEntry.{ViewEntry}
use Rattle.vb_helper.specs.declared.repairing.Refetched.{Refetched}
use Rattle.vb_helper.specs.declared.repairing.Refetched.TheVariants.{Whole, Repaired}
use Rattle.vb_helper.specs.declared.refetch_error.RefetchError.{RefetchError}
use Rattle.vb_helper.specs.declared.refetch_error.RefetchError.TheVariants.{NotHeld, DiskFault, LinkFault, Memory}
use Rattle.vb_helper.specs.Repairs.{IsMissed, IsMended, LeavesDisk, Spares, IsRepaired}

some_is : {X : Type 0} (x y : X) → Some x ≡ Some y → x ≡ y
some_is x y h = cc

-- a place that isn't hurt, of whose candidates each has the due digest, reads as due
unhurt_due : (cell : Cell) (digest : List ℕ) → cell.hurt ≡ None → All (λ page. sha256 page ≡ digest) (candidates cell) → sha256 (read_of cell) ≡ digest
unhurt_due cell digest whole all =
    ap (λ (hurt : Option (List ℕ)). sha256 (unwrap_or hurt (candidate_at cell (length cell.later)))) whole ∙ all (length cell.later) cell.first (omega arith)

-- a written place
newest : (cell : Cell) (page : List ℕ) → read_of (written_cell cell page) ≡ page
newest cell page =
    let count : length (cell.later ++ page ∷ []) ≡ length (cell.first ∷ cell.later) = length-append cell.later (page ∷ []) ∙ omega arith in
    ap (λ n. get_or (cell.first ∷ cell.later ++ page ∷ []) n cell.first) count ∙ get_or-append_seam (cell.first ∷ cell.later) page [] cell.first

cell_here : (d : DiskState) (place : ℕ) (page : List ℕ) → (written d place page).cells place ≡ written_cell (d.cells place) page
cell_here d place page =
    let same : eqb place place ≡ true = grind (arith, nat_tests) in
    ap (λ b. cond b (written_cell (d.cells place) page) (d.cells place)) same

cell_beside : (d : DiskState) (place other : ℕ) (page : List ℕ) → other ≢ place → (written d place page).cells other ≡ d.cells other
cell_beside d place other page apart =
    let differ : eqb other place ≡ false = grind (arith, nat_tests) in
    ap (λ b. cond b (written_cell (d.cells other) page) (d.cells other)) differ

Spares-none : (reference : Ref) (d : DiskState) → Spares reference d d
Spares-none reference d = record { writes = OnlyWrites-refl d; elsewhere = λ place apart. refl; unhurt = λ whole all. refl }

Spares-written : (reference : Ref) (d : DiskState) (page : List ℕ) → IsMissed reference d → Spares reference d (written d reference.place page)
Spares-written reference d page missed = record {
  writes = OnlyWrites-written d reference.place page;
  elsewhere = λ place apart. cell_beside d reference.place place page apart;
  unhurt = λ whole all. absurd (missed (unhurt_due (d.cells reference.place) reference.digest whole all));
}

-- ---- what is left of a disk

-- the place missed, and a page of the due digest was written there
record IsWritten (reference : Ref) (d e : DiskState) : Type 0 where
  missed : IsMissed reference d
  page : List ℕ
  due : sha256 page ≡ reference.digest
  is : e ≡ written d reference.place page

mended : (reference : Ref) (entries : List ViewEntry) (cloud : Option CloudState) (d e : DiskState) (told : Option DiskState) → IsMended reference entries cloud d told → told ≡ Some e → IsWritten reference d e
mended reference entries cloud d e told m is = record { missed = m.missed; page = m.page; due = m.due; is = some_is e (written d reference.place m.page) (sym is ∙ m.is) }

stands : (d e : DiskState) (told : Option DiskState) → told ≡ Some d → told ≡ Some e → e ≡ d
stands d e told was is = some_is e d (sym is ∙ was)

ways : (reference : Ref) (entries : List ViewEntry) (cloud : Option CloudState) (d e : DiskState) (told : Option DiskState) (result : Result Refetched RefetchError)
    → LeavesDisk reference entries cloud d told result → told ≡ Some e → (e ≡ d) ⊎ IsWritten reference d e
ways reference entries cloud d e told (Ok Whole) leaves is = inl (stands d e told leaves.1 is)
ways reference entries cloud d e told (Ok Repaired) leaves is = inr (mended reference entries cloud d e told leaves is)
ways reference entries cloud d e told (Err (NotHeld place kept found)) leaves is = inl (stands d e told leaves.2 is)
ways reference entries cloud d e told (Err LinkFault) leaves is = inl (stands d e told leaves.1 is)
ways reference entries cloud d e told (Err DiskFault) (inl leaves) is = inl (stands d e told leaves is)
ways reference entries cloud d e told (Err DiskFault) (inr leaves) is = inr (mended reference entries cloud d e told leaves is)
ways reference entries cloud d e told (Err Memory) leaves is = inl (stands d e told leaves is)

spared : (reference : Ref) (d e : DiskState) → (e ≡ d) ⊎ IsWritten reference d e → Spares reference d e
spared reference d e (inl is) = subst (λ (x : DiskState). Spares reference d x) (sym is) (Spares-none reference d)
spared reference d e (inr w) = subst (λ (x : DiskState). Spares reference d x) (sym w.is) (Spares-written reference d w.page w.missed)

moments : (reference : Ref) (d e : DiskState) → (e ≡ d) ⊎ IsWritten reference d e → EachMoment (Spares reference d) d e
moments reference d e (inl is) = EachMoment-tried (Spares reference d) d e (Write reference.place []) (inl is) (Spares-none reference d) (spared reference d e (inl is))
moments reference d e (inr w) = EachMoment-tried (Spares reference d) d e (Write reference.place w.page) (inr w.is) (Spares-none reference d) (spared reference d e (inr w))

pub spares_of : (reference : Ref) (entries : List ViewEntry) (cloud : Option CloudState) (d e : DiskState) (told : Option DiskState) (result : Result Refetched RefetchError)
    → LeavesDisk reference entries cloud d told result → told ≡ Some e → Spares reference d e
spares_of reference entries cloud d e told result leaves is = spared reference d e (ways reference entries cloud d e told result leaves is)

pub moments_of : (reference : Ref) (entries : List ViewEntry) (cloud : Option CloudState) (d e : DiskState) (told : Option DiskState) (result : Result Refetched RefetchError)
    → LeavesDisk reference entries cloud d told result → told ≡ Some e → EachMoment (Spares reference d) d e
moments_of reference entries cloud d e told result leaves is = moments reference d e (ways reference entries cloud d e told result leaves is)

pub repaired_of : (reference : Ref) (entries : List ViewEntry) (cloud : Option CloudState) (d e : DiskState) (told : Option DiskState) (result : Result Refetched RefetchError)
    → LeavesDisk reference entries cloud d told result → told ≡ Some e → IsRepaired reference e result
repaired_of reference entries cloud d e told (Ok Whole) leaves is = ap (λ (x : DiskState). sha256 (read_at x reference.place)) (stands d e told leaves.1 is) ∙ leaves.0
repaired_of reference entries cloud d e told (Ok Repaired) leaves is =
    let w = mended reference entries cloud d e told leaves is in
    let cell : e.cells reference.place ≡ written_cell (d.cells reference.place) w.page = ap (λ (x : DiskState). x.cells reference.place) w.is ∙ cell_here d reference.place w.page in
    (ap (λ (c : Cell). c.hurt) cell, ap (λ (c : Cell). sha256 (read_of c)) cell ∙ ap sha256 (newest (d.cells reference.place) w.page) ∙ w.due)
repaired_of reference entries cloud d e told (Err error) leaves is = tt
