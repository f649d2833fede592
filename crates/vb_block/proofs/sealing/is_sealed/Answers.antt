use Rattle.std.proofs.Common.{ap, ◌∙◌, take, drop}
use Rattle.std.proofs.lemmas.Slice.Eq.{slice_eq-Decides}
use Rattle.std.proofs.lemmas.Bool.Decides.{Decides-eqb}
use Rattle.vb_block.proofs.Seals.{IsSealed-from_parts}
use Rattle.vb_block.proofs.sealing.is_sealed.Goals as goal

pub returns : goal.returns
returns c =
    IsSealed-from_parts c.args.page.now _ _ _ c.eq.result (c.split_at.ensures.front ∙ ap (take 4064) c.bytes.ensures.bytes) (c.split_at.ensures.back ∙ ap (drop 4064) c.bytes.ensures.bytes) (c.as_slice.ensures ∙ c.digest-digest.ensures) (slice_eq-Decides Decides-eqb c.as_slice.result.now c.split_at.result.1.now c.eq.result c.eq.ensures)
