use Rattle.std.proofs.Common.{◌≡◌, ◌+◌, ◌<◌, ◌==◌, [], ◌∷◌, length, take, drop, MatchOption, subst, sym}
use Rattle.std.specs.List.{slice_split}
use Rattle.vb_script.proofs.Pieces.{pieces-position}
use Rattle.vb_script.proofs.split.first_end.Goals as goal

pub returns : goal.returns
returns c =
    let text = c.args.text.now in
    let s = c.args.separator in
    subst (λ r. MatchOption r (slice_split (λ b. b == s) text ≡ text ∷ []) (λ i. (i < length text) × (slice_split (λ b. b == s) text ≡ take i text ∷ slice_split (λ b. b == s) (drop (i + 1) text)))) (sym c.place_of.ensures) (pieces-position s text)
