use Rattle.vb_local.proofs.Given.{first-kept, holds-kept}
use Rattle.vb_local.proofs.laws.a_rested_commit_holds_the_frozen_pages.Goals as goal

pub returns-clause-holds : goal.returns-clause-holds
returns-clause-holds c d frozen next plan slot page bytes reference every digests kept at has = holds-kept d frozen next plan slot page bytes reference every digests kept at has

pub returns-clause-first : goal.returns-clause-first
returns-clause-first c d frozen plan slot page bytes reference every kept has = first-kept d frozen plan slot page bytes reference every kept has
