use Rattle.std.proofs.Common.{List, Some, refl, sym, ap, ◌∙◌, inl, inr, arith}
use Rattle.std.proofs.lemmas.Bool.{cases_lt}
use Rattle.std.proofs.lemmas.Result.{err_from_is_err_and}
use Rattle.vb_disk.specs.States.{DiskCall, after_calls}
use Rattle.vb_store.specs.Formats.{home_calls}
use Rattle.vb_store.proofs.CallsMade.{failed_at}
use Rattle.vb_store.proofs.Homes.{after_home, broken_at_home, home_calls-none}
use Rattle.vb_store.proofs.new_homes.write_homes.Goals as goal

pub loop-slot-init : goal.loop-slot-init
loop-slot-init g c = record {
  told = λ d told. told ∙ ap (λ (calls : List DiskCall). Some (after_calls d calls)) (sym home_calls-none);
  untold = λ untold. untold;
  seen = refl;
  faults = omega arith;
  left_told = λ some. some;
  left_kept = λ some. omega arith;
  none = λ zero. refl;
  some = λ more. absurd (omega (arith, more));
}

pub returns-in_err-write_home-clause-makes : goal.returns-in_err-write_home-clause-makes
returns-in_err-write_home-clause-makes g c =
    let p = err_from_is_err_and c.from_residual.result c.from_residual.ensures.1 in
    failed_at p.1
    (λ d told. broken_at_home c.loop-slot.slot c.args.nodes d (g.D.Disk.told c.write_home.new.disk) c.loop-slot-test.true
    (c.in_err-write_home.ensures.makes.broken_off (after_calls d (home_calls c.loop-slot.slot)) (c.loop-slot.invariant.told d told)))
    (λ untold. c.write_home.ensures.makes.untold (c.loop-slot.invariant.untold untold))

pub loop-slot-preserved : goal.loop-slot-preserved
loop-slot-preserved g c = record {
  told = λ d told. c.in_ok-write_home.ensures.makes.made (after_calls d (home_calls c.loop-slot.slot)) (c.loop-slot.invariant.told d told) ∙ ap Some (after_home d c.loop-slot.slot);
  untold = λ untold. c.write_home.ensures.makes.untold (c.loop-slot.invariant.untold untold);
  seen = c.write_home.ensures.seen ∙ c.loop-slot.invariant.seen;
  faults = omega arith;
  left_told = λ some. c.write_home.ensures.left.told (c.loop-slot.invariant.left_told some);
  left_kept = λ some.
      let before = c.loop-slot.invariant.left_kept some in
      let here = c.write_home.ensures.left.kept (c.loop-slot.invariant.left_told some) in
      omega (arith, before, here);
  none = λ zero. absurd (omega (arith, zero));
  some = λ more.
      let one = c.in_ok-write_home.ensures.called in
      elim (cases_lt 0 c.loop-slot.slot) [
        | inl later ↦ let before = c.loop-slot.invariant.some later in omega (arith, before, one)
        | inr first ↦ let before = c.loop-slot.invariant.none (omega (arith, first)) in omega (arith, before, one, first)
      ];
}
