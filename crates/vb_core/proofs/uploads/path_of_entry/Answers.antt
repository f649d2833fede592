use Rattle.std.proofs.Common.{◌∙◌, List, subst, sym, ℕ}
use Rattle.vb_path.specs.Parts.{MakePath}
use Rattle.vb_core.proofs.uploads.path_of_entry.Goals as goal

pub of_parts-requires : goal.of_parts-requires
of_parts-requires c =
    subst (λ (parts : List (List ℕ)). MakePath parts) (sym (c.in_ok-copy_names.ensures ∙ c.slice.ensures)) (c.paths_have_parts.ensures.within c.args.entry.now.path c.requires)
