use Rattle.std.proofs.Common.{◌≡◌, ℕ, true, ltb, ap, sym, arith, rules, ◌∙◌}
use Rattle.std.specs.Map.{lookup}
use Rattle.std.specs.BTreeMap.{is_at}
use Rattle.std.specs.Ordering.{is_eq, nat_cmp}
use Rattle.std.proofs.lemmas.Bool.Decides.{nat_tests}
use Rattle.std.proofs.lemmas.Map.Entries.{lookup-filter-keys}
use Rattle.std.proofs.lemmas.Map.Made.{filter_same_pairs}
use Rattle.vb_disk.specs.declared.cell.Cell.{Cell}
use Rattle.vb_disk.proofs.cells.cut.Goals as goal

same_from_is_eq : (q k : ℕ) → is_eq (nat_cmp q k) ≡ true → q ≡ k
same_from_is_eq q k equal = grind (arith, nat_tests)

pub returns : goal.returns
returns c =
    let kept = filter_same_pairs {K = ℕ} {X = Cell} _ (λ e. ltb e.0 c.args.blocks) _ (λ k v b w f' t. search rules) c.args.cells.now.entries c.retain.new.self.entries c.retain.ensures.filtered in
    λ q. ap (lookup (is_at (nat_cmp q))) kept ∙ lookup-filter-keys (is_at (nat_cmp q)) (λ k. ltb k c.args.blocks) (ltb q c.args.blocks) (λ k at. ap (λ (n : ℕ). ltb n c.args.blocks) (sym (same_from_is_eq q k at))) c.args.cells.now.entries
