use Rattle.std.proofs.Common.{◌≡◌, length, drop, ap, ◌∙◌, subst, sym, arith}
use Rattle.std.proofs.lemmas.Slice.{between_to_end}
use Rattle.vb_path.specs.Paths.{text_of_path, parts_after_slash, IsPath}
use Rattle.vb_path.proofs.ReadText.{text-read, IsPath-read}
use Rattle.vb_path.proofs.path.read.Goals as goal

pub invariant_of-result : goal.invariant_of-result
invariant_of-result c =
    let text = c.args.text.now in
    let parts : c.in_ok-parts.parts ≡ parts_after_slash (drop 1 text) = c.in_ok-parts.ensures ∙ ap parts_after_slash (between_to_end text 1 (length text) (omega arith)) in (
      c.in_ok-of.ensures ∙ text-read text c.requires ∙ ap text_of_path (sym parts),
      subst IsPath (sym parts) (IsPath-read text c.requires),
    )
