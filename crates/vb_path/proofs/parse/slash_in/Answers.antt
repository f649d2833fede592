use Rattle.std.proofs.Common.{◌≡◌, ◌+◌, ◌<◌, [], ◌∷◌, length, take, drop, MatchOption, subst, sym}
use Rattle.vb_path.specs.Paths.{pieces_of}
use Rattle.vb_path.proofs.Pieces.{pieces-position}
use Rattle.vb_path.proofs.parse.slash_in.Goals as goal

pub returns : goal.returns
returns c =
    let text = c.args.text.now in
    subst (λ r. MatchOption r (pieces_of text ≡ text ∷ []) (λ i. (i < length text) × (pieces_of text ≡ take i text ∷ pieces_of (drop (i + 1) text)))) (sym c.place_of.ensures) (pieces-position text)
