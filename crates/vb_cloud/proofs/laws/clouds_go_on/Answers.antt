use Rattle.vb_cloud.proofs.Rises.{valid_after}
use Rattle.vb_cloud.proofs.laws.clouds_go_on.Goals as goal

pub returns-clause-valid : goal.returns-clause-valid
returns-clause-valid c = λ k messages is. valid_after k messages is
