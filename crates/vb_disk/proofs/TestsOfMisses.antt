-- The test of a miss decides whether bytes are one.
use Rattle.std.proofs.Common.{◌≢◌, ℕ, Bool, not, Decides, List, refl}
use Rattle.std.specs.List.{All, list_all}
use Rattle.std.specs.Str.{bytes_eq}
use Rattle.std.proofs.lemmas.Bool.Decides.{Decides-not, Decides-by_and, Decides-and, Decides-like}
use Rattle.std.proofs.lemmas.Slice.Eq.{bytes_eq-Decides}
use Rattle.sha2.specs.Sha256.{sha256}
use Rattle.vb_block.specs.Pages.{IsSealed, seal_of, sealed_part}
use Rattle.vb_disk.specs.declared.cell.Cell.{Cell}
use Rattle.vb_disk.specs.Cells.{candidates}
use Rattle.vb_disk.specs.Misses.{IsMiss, is_miss, is_sealed}

-- a test of each element decides what holds of each
all_decides : {X : Type 0} (p : X → Bool) (P : X → Type 0) → ((x : X) → Decides (p x) (P x)) → (xs : List X) → Decides (list_all p xs) (All P xs)
all_decides p P each xs = Decides-by_and p P (list_all p) each refl (λ x ys. refl) xs

pub is_miss-Decides : (cell : Cell) (bytes : List ℕ) → Decides (is_miss cell bytes) (IsMiss cell bytes)
is_miss-Decides cell bytes =
    let unsealed : Decides (not (is_sealed bytes)) (¬ IsSealed bytes) = Decides-not (is_sealed bytes) (bytes_eq-Decides (seal_of bytes) (sha256 (sealed_part bytes))) in
    let P : List ℕ → Type 0 = λ candidate. sha256 candidate ≢ sha256 bytes in
    let p : List ℕ → Bool = λ candidate. not (bytes_eq (sha256 candidate) (sha256 bytes)) in
    let unlike : Decides (list_all p (candidates cell)) (All P (candidates cell)) = all_decides p P (λ candidate. Decides-not (bytes_eq (sha256 candidate) (sha256 bytes)) (bytes_eq-Decides (sha256 candidate) (sha256 bytes))) (candidates cell) in
    Decides-like (is_miss cell bytes) (λ parts. record { unsealed = parts.0; unlike = parts.1 }) (λ miss. (miss.unsealed, miss.unlike)) (Decides-and (not (is_sealed bytes)) (list_all p (candidates cell)) unsealed unlike)
