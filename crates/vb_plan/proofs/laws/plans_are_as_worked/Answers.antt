use Rattle.std.proofs.Common.{refl}
use Rattle.vb_plan.proofs.laws.plans_are_as_worked.Goals as goal

pub returns-clause-small : goal.returns-clause-small
returns-clause-small c = record {
  made = refl;
  written = refl;
  written_again = refl;
  renamed = refl;
  removed = refl;
  unchanged = refl;
  two = refl;
}

pub returns-clause-long : goal.returns-clause-long
returns-clause-long c = record { made = refl; written = refl; cut = refl; cut_again = refl }
