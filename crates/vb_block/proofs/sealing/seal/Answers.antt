use Rattle.std.proofs.Common.{◌≡◌, ap, arith, length, rules, subst, sym, ◌∙◌}
use Rattle.std.proofs.lemmas.List.{length-take}
use Rattle.vb_block.specs.Pages.{IsSealed}
use Rattle.vb_block.proofs.Seals.{sealed_page-from_written, IsSealed-sealed_page}
use Rattle.vb_block.proofs.sealing.seal.Goals as goal

pub slice_bounds-digest-end : goal.slice_bounds-digest-end
slice_bounds-digest-end c = omega (arith, length-take 4064 c.bytes.result.now, c.bytes.ensures.page)

pub returns-clause-sealed_bytes : goal.returns-clause-sealed_bytes
returns-clause-sealed_bytes c =
    let long : length c.digest-digest.result ≡ 32 = search rules in
    sealed_page-from_written c.args.page.now c.bytes.result.now c.digest-digest.result c.set.new.self c.bytes.ensures.page c.bytes.ensures.bytes c.digest-digest.ensures long c.set.ensures.written

pub returns-clause-sealed : goal.returns-clause-sealed
returns-clause-sealed c =
    subst IsSealed (sym (returns-clause-sealed_bytes c)) (IsSealed-sealed_page c.args.page.now (sym (ap length c.bytes.ensures.bytes) ∙ c.bytes.ensures.page))
