use Rattle.std.proofs.Common.{set, ℕ, ap, arith, ◌∙◌, ◌<◌, length}
use Rattle.std.proofs.lemmas.List.Edits.{map_over_more}
use Rattle.vb_cause.specs.Failing.{nearer}
use Rattle.vb_cause.proofs.failures.bring_nearer.Goals as goal

pub loop-i-preserved : goal.loop-i-preserved
loop-i-preserved g c =
    let within : c.loop-i.i < length c.args.failures.now.items = omega (arith, c.len-i-end.ensures) in
    let more = map_over_more nearer c.args.failures.now.items c.loop-i.failures.items c.loop-i.i c.index-failure.result.now within c.loop-i.invariant c.index-failure.ensures in
    ap (λ (n : ℕ). set c.loop-i.failures.items c.loop-i.i (record { nth = n; how = c.index-failure.result.now.how })) c.saturating_sub.ensures ∙ more
