use Rattle.std.proofs.Common.{List, ℕ, take, ap, ◌∙◌, arith}
use Rattle.std.proofs.lemmas.List.{length-take}
use Rattle.sha2.specs.Sha256.{sha256}
use Rattle.vb_block.specs.Pages.{sealed_part}
use Rattle.vb_block.proofs.sealing.due_seal.Goals as goal

pub slice_bounds-digest-end : goal.slice_bounds-digest-end
slice_bounds-digest-end c = omega (arith, length-take 4064 c.bytes.result.now, c.bytes.ensures.page)

pub returns : goal.returns
unfolding sealed_part
returns c = c.of.ensures ∙ c.digest.ensures ∙ ap (λ (bytes : List ℕ). sha256 (take 4064 bytes)) c.bytes.ensures.bytes
