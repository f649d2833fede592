use Rattle.std.proofs.Common.{◌≡◌, ◌++◌, length, drop, ap, ◌∙◌, sym, subst, arith}
use Rattle.std.proofs.lemmas.Slice.{between_to_end}
use Rattle.vb_path.specs.Parts.{MakePath}
use Rattle.vb_tree.specs.Renames.{moved_path}
use Rattle.vb_tree.proofs.MovedPaths.{moved_path-parts}
use Rattle.vb_tree.proofs.moves.moved.Goals as goal

pub of_parts-requires : goal.of_parts-requires
of_parts-requires c =
    let source = c.args.source.now in
    let target = c.args.target.now in
    let path = c.args.path.now in
    let front = c.parts-3.result.now in
    let top = c.parts-2.result.now in
    let old = c.parts.result.now in
    let parts : c.in_ok-parts.parts ≡ moved_path source target path =
    c.in_ok-parts.ensures
    ∙ ap (λ t. front ++ t) (between_to_end old (length top) (length old) (omega arith))
    ∙ ap (λ t. t ++ drop (length top) old) c.parts-3.ensures.same
    ∙ ap (λ t. target ++ drop (length t) old) c.parts-2.ensures.same
    ∙ ap (λ t. target ++ drop (length source) t) c.parts.ensures.same in
    subst MakePath (sym parts) (moved_path-parts source target path c.parts-3.ensures.valid c.parts.ensures.valid c.requires.shallow)
