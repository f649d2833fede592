use Rattle.std.proofs.Common.{◌≡◌, ◌+◌, ap, sym, subst, ◌∙◌, arith, rules, length, ◌∷◌, Some, IsSome}
use Rattle.std.specs.Option.{option_map, option_or, unwrap_or}
use Rattle.std.specs.Vec.Iter.{into_iter_items}
use Rattle.std.proofs.lemmas.List.{length_push}
use Rattle.vb_pages.specs.declared.kept.PageKey.{PageKey}
use Rattle.vb_pages.specs.Tables.{key_of, kept_at, kept_of, run_at}
use Rattle.vb_pages.proofs.RunLoops.{noted-step, noted-there, run-step, Became}
use Rattle.vb_pages.proofs.runs.replace_all.Goals as goal

pub loop-page-preserved : goal.loop-page-preserved
loop-page-preserved c =
    let slot = c.args.slot in
    let first = c.args.first in
    let before = c.loop-page.entries.entries in
    let after = c.insert.new.self.entries in
    let r = c.loop-page.replaced.items in
    let x = c.in-Some.page in
    let rest = into_iter_items c.next.new.self in
    let old = c.in_ok-old.old in
    let kept = c.loop-page.invariant in
    let items : into_iter_items c.loop-page.page-iterator ≡ x ∷ rest = search rules in
    let pushed = c.push_reserved.ensures.items in
    let long : c.len.result ≡ length r = c.len.ensures ∙ c.loop-page.replaced.ok.0 in
    let more : length c.push_reserved.new.self.items ≡ length r + 1 = ap length pushed ∙ length_push r old in
    let became : Became before after slot (first + length r) (Some (kept_of x)) = subst (λ n. Became before after slot (first + n) (Some (kept_of x))) long c.in_ok-old.ensures.updates.0 in
    let stood : old ≡ kept_at before (key_of slot (first + length r)) = c.in_ok-old.ensures.old ∙ ap (λ n. kept_at before (key_of slot (first + n))) long in
    let next : (first + length r) + 1 ≡ first + length c.push_reserved.new.self.items = omega (arith, more) in
    record {
      can_next = tt;
      finite = tt;
      fits = omega (arith, more, ap length items, kept.fits);
      room = omega (arith, more, ap length items, kept.room, c.push_reserved.ensures.capacity);
      run = λ q. kept.run q ∙ ap (λ xs. option_or (option_map kept_of (run_at slot (first + length r) xs q)) (kept_at before q)) items
          ∙ run-step before after slot (first + length r) x rest became q
          ∙ ap (λ n. option_or (option_map kept_of (run_at slot n rest q)) (kept_at after q)) next;
      noted = λ q. kept.noted q ∙ noted-step before after slot first r old (Some (kept_of x)) became stood q ∙ ap (λ xs. unwrap_or (run_at slot first xs q) (kept_at after q)) (sym pushed);
      there = subst (λ xs. (q : PageKey) → IsSome (run_at slot first xs q) → IsSome (kept_at after q)) (sym pushed) (noted-there before after slot first r old (kept_of x) became kept.there);
    }
