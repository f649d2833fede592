-- What survives, as it is computed.
use Rattle.std.proofs.Common.{◌≡◌, ℕ, ◌≤◌, List, ◌∷◌, ◌++◌, length, take, drop, refl, ap, sym, ◌∙◌, subst}
use Rattle.std.specs.List.{filter}
use Rattle.std.proofs.lemmas.List.{take_at}
use Rattle.std.proofs.lemmas.List.Prefix.{front_fits}
use Rattle.vb_tree.specs.declared.tree.Limits.{Limits}
use Rattle.vb_hist.specs.declared.entry.Entry.{Entry}
use Rattle.vb_hist.specs.declared.entry.Entry.TheVariants.{Cut}
use Rattle.vb_hist.specs.Histories.{outlives_cut, survivors_after, up_to_epoch}
use Rattle.vb_hist.proofs.Fronts.{up_to_epoch-front}

-- a front that was counted is no longer than the list
pub counted-fits : (start epoch n : ℕ) (line seen : List Entry) → n ≡ length (up_to_epoch start epoch seen) → seen ≡ line → n ≤ length line
counted-fits start epoch n line seen count is =
    let p = up_to_epoch-front start epoch line in
    let fits : length (up_to_epoch start epoch line) ≤ length line = front_fits line (up_to_epoch start epoch line) p.0 (sym p.1) in
    subst (λ k. k ≤ length line) (sym (count ∙ ap (λ (l : List Entry). length (up_to_epoch start epoch l)) is)) fits

-- a list parted after that front is what a cut leaves
pub cut-counted : (start epoch n : ℕ) (limits : Limits) (line seen : List Entry) (entry : Entry) → n ≡ length (up_to_epoch start epoch seen) → seen ≡ line → entry ≡ Cut epoch limits
    → take n line ++ entry ∷ filter outlives_cut (drop n line) ≡ survivors_after start line entry
cut-counted start epoch n limits line seen entry count is cut =
    let p = up_to_epoch-front start epoch line in
    let front : take (length (up_to_epoch start epoch line)) line ≡ up_to_epoch start epoch line =
    ap (take (length (up_to_epoch start epoch line))) (sym p.1) ∙ take_at (up_to_epoch start epoch line) p.0 (length (up_to_epoch start epoch line)) refl in
    ap (λ k. take k line ++ entry ∷ filter outlives_cut (drop k line)) (count ∙ ap (λ (l : List Entry). length (up_to_epoch start epoch l)) is)
    ∙ ap (λ l. l ++ entry ∷ filter outlives_cut (drop (length (up_to_epoch start epoch line)) line)) front
    ∙ ap (λ e. up_to_epoch start epoch line ++ e ∷ filter outlives_cut (drop (length (up_to_epoch start epoch line)) line)) cut
    ∙ ap (survivors_after start line) (sym cut)
