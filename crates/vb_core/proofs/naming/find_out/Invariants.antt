use Rattle.std.proofs.Common.{ℕ, ◌<◌}
use Rattle.vb_active.specs.Views.{IsOut}
use Rattle.vb_core.proofs.naming.find_out.Given as goal

abbrev pub invariant-loop-page : goal.invariant-loop-page
invariant-loop-page l = (before : ℕ) → before < l.page → IsOut l.live l.slot before l.reference → ⊥
