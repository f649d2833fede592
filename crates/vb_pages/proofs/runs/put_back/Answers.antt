use Rattle.std.proofs.Common.{◌≡◌, ◌+◌, ◌^◌, ◌≤◌, ap, subst, ◌∙◌, arith, length, IsSome}
use Rattle.std.specs.Option.{unwrap_or}
use Rattle.std.proofs.lemmas.List.{length_push}
use Rattle.vb_pages.specs.declared.kept.PageKey.{PageKey}
use Rattle.vb_pages.specs.Tables.{kept_at, run_at}
use Rattle.vb_pages.proofs.RunLoops.{back-step, back-there, Became}
use Rattle.vb_pages.proofs.runs.put_back.Goals as goal

pub loop-old-preserved : goal.loop-old-preserved
loop-old-preserved c =
    let slot = c.args.slot in
    let first = c.args.first in
    let before = c.loop-old.entries.entries in
    let after = c.put_back_one.new.entries.entries in
    let r = c.pop.new.self.items in
    let old = c.in-Some.old in
    let items = c.in-Some.ensures.items in
    let became : Became before after slot (first + length r) old = subst (λ n. Became before after slot (first + n) old) (c.len.ensures ∙ c.pop.new.self.ok.0) c.put_back_one.ensures in
    let longer : length c.loop-old.replaced.items ≡ length r + 1 = ap length items ∙ length_push r old in
    let fitted : first + length c.loop-old.replaced.items ≤ 2 ^ 32 = c.loop-old.invariant.fits in
    record {
      fits = omega (arith, longer, fitted);
      there = back-there before after slot first r old became (subst (λ xs. (q : PageKey) → IsSome (run_at slot first xs q) → IsSome (kept_at before q)) items c.loop-old.invariant.there);
      back = λ q. c.loop-old.invariant.back q ∙ ap (λ xs. unwrap_or (run_at slot first xs q) (kept_at before q)) items ∙ back-step before after slot first r old became q;
    }
