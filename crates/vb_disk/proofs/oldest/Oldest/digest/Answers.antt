use Rattle.std.proofs.Common.{◌≡◌, Option, unwrap_or, sym, ap, List, ℕ, ◌∙◌}
use Rattle.sha2.specs.Sha256.{sha256}
use Rattle.vb_block.specs.Pages.{filled_page, zero_page}
use Rattle.vb_disk.proofs.oldest.Oldest.digest.Goals as goal

pub returns-in-None : goal.returns-in-None
unfolding filled_page
returns-in-None c =
    let zeros : zero_page ≡ c.args.self.now = ap (λ (o : Option (List ℕ)). unwrap_or o zero_page) (sym c.in-None.is) ∙ c.self.view_is in
    c.of.ensures ∙ c.digest.ensures ∙ ap sha256 zeros
