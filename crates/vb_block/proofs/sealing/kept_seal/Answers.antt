use Rattle.std.proofs.Common.{◌-◌, drop, length, ap, ◌∙◌, arith}
use Rattle.std.proofs.lemmas.List.{take_all, length-drop}
use Rattle.vb_block.specs.Pages.{seal_of}
use Rattle.vb_block.proofs.sealing.kept_seal.Goals as goal

pub returns : goal.returns
unfolding seal_of
returns c =
    let bytes = c.bytes.result.now in
    c.of.ensures ∙ c.copy_from_slice.ensures.after ∙ take_all (length bytes - 4064) (drop 4064 bytes) (omega (arith, length-drop 4064 bytes)) ∙ ap (drop 4064) c.bytes.ensures.bytes
