use Rattle.std.proofs.Common.{◌≡◌, ℕ, ◌+◌, ◌^◌, ◌<◌, List, ◌++◌, length, take, drop, ap, ◌∙◌, arith}
use Rattle.sha2.specs.Sha256.{sha256}
use Rattle.byteorder.specs.Endian.{little_bytes, little_number}
use Rattle.vb_block.specs.Pages.{overwritten, sealed_page, sealed_part}
use Rattle.vb_head.proofs.Parts.{number4_again}
use Rattle.vb_journal.specs.Images.{slot_of}
use Rattle.vb_journal.proofs.tests.image_for.Goals as goal

front_number : (v : ℕ) (rest seal : List ℕ) → v < 2 ^ 32 → little_number 4 (take 4064 (little_bytes 4 v ++ rest) ++ seal) ≡ v
front_number v rest seal fits = number4_again v (take 4060 rest ++ seal) fits

-- a sealed page with a number at its front names that slot
slot_of-sealed_page : (v : ℕ) (old bare page : List ℕ) → v < 2 ^ 32 → bare ≡ overwritten old 0 (little_bytes 4 v) → page ≡ sealed_page bare → slot_of page ≡ v
unfolding slot_of sealed_part
slot_of-sealed_page v old bare page fits put is =
    ap (little_number 4) is ∙ ap (λ (b : List ℕ). little_number 4 (sealed_page b)) put ∙ front_number v (drop (0 + length (little_bytes 4 v)) old) (sha256 (sealed_part (overwritten old 0 (little_bytes 4 v)))) fits

pub returns-clause-slot : goal.returns-clause-slot
returns-clause-slot c = slot_of-sealed_page c.args.slot c.in_ok-page.page c.put_u32.new.page c.seal.new.page (omega (arith, c.ranges.slot)) c.put_u32.ensures c.seal.ensures.sealed_bytes
