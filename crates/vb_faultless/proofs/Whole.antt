-- No call of a disk hurts a place.
use Rattle.std.proofs.Common.{◌≡◌, ℕ, ◌==◌, true, false, cond, List, [], ◌∷◌, None, refl, subst}
use Rattle.std.specs.Prelude.{nat_lt}
use Rattle.vb_disk.specs.Cells.{blank_cell, written_cell}
use Rattle.vb_disk.specs.Moments.{Reaches}
use Rattle.vb_disk.specs.States.{after_call, after_calls, DiskCall, DiskState, Resize, Sync, Write}
use Rattle.vb_during.specs.TornPages.{IsAllWhole}

whole-call : (d : DiskState) (call : DiskCall) → IsAllWhole d → IsAllWhole (after_call d call)
whole-call d (Write at page) whole place = elim (place == at) as (λ b. (cond b (written_cell (d.cells place) page) (d.cells place)).hurt ≡ None) [
  | true ↦ refl
  | false ↦ whole place
]
whole-call d Sync whole place = whole place
whole-call d (Resize blocks) whole place = elim (nat_lt place blocks) as (λ b. (cond b (d.cells place) blank_cell).hurt ≡ None) [
  | true ↦ whole place
  | false ↦ refl
]

whole-calls : (d : DiskState) (calls : List DiskCall) → IsAllWhole d → IsAllWhole (after_calls d calls)
whole-calls d [] whole = whole
whole-calls d (call ∷ calls) whole = whole-calls (after_call d call) calls (whole-call d call whole)

pub whole-reached : (d next : DiskState) → Reaches d next → IsAllWhole d → IsAllWhole next
whole-reached d next reaches whole = subst IsAllWhole reaches.1 (whole-calls d reaches.0 whole)
