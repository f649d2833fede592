-- The told state of a disk in memory is one that a disk can have.
use Rattle.std.proofs.Common.{◌≡◌, ◌≤◌, false, Option, Some, None, is_some, unwrap_or, refl, ap, subst, arith}
use Rattle.std.specs.Ordering.{nat_cmp}
use Rattle.std.specs.BTreeMap.{get}
use Rattle.vb_disk.specs.declared.cell.Cell.{Cell}
use Rattle.vb_disk.specs.declared.memory_disk.MemoryDisk.{MemoryDisk}
use Rattle.vb_disk.specs.Cells.{blank_cell}
use Rattle.vb_disk.specs.Memory.{state_of}
use Rattle.vb_disk.specs.States.{DiskState, IsDiskState}

none_from : {T : Type 0} (o : Option T) → is_some o ≡ false → o ≡ None
none_from None is = refl
none_from (Some x) is = absurd (cc is)

-- so is the told state of a disk in memory
pub IsDiskState-state_of : (m : MemoryDisk) (d : DiskState) → Some (state_of m) ≡ Some d → IsDiskState d
IsDiskState-state_of m d is =
    let same : state_of m ≡ d = cc is in
    subst IsDiskState same (record {
      blank_past_size = λ place past. ap (λ (o : Option Cell). unwrap_or o blank_cell) (none_from (get nat_cmp m.table.cells place) (m.table.sound.inside place past));
      hurt_are_misses = λ place. (m.table.sound.each place).hurt_miss;
      candidates_are_pages = λ place. (m.table.sound.each place).pages;
      hurt_are_pages = λ place. (m.table.sound.each place).hurt_page;
      counted = m.counted;
    })

-- it sees the size that it tells
pub seen_size-fits : (m : MemoryDisk) (d : DiskState) → Some (state_of m) ≡ Some d → (state_of m).size ≤ d.size
seen_size-fits m d is =
    let same : state_of m ≡ d = cc is in
    let size : (state_of m).size ≡ d.size = ap (λ (e : DiskState). e.size) same in
    omega (arith, size)
