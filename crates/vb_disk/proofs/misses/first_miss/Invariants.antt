use Rattle.std.proofs.Common.{◌≡◌, ℕ, ◌+◌, ◌<◌, ◌≤◌, false}
use Rattle.vb_block.specs.Pages.{filled_page}
use Rattle.vb_disk.specs.Misses.{is_miss}
use Rattle.vb_disk.proofs.misses.first_miss.Given as goal

-- the bytes that were tried give no miss
abbrev pub invariant-loop-tried : goal.invariant-loop-tried
invariant-loop-tried l = (byte : ℕ) → byte ≤ 238 → 238 < byte + l.tried → is_miss l.cell (filled_page byte) ≡ false
