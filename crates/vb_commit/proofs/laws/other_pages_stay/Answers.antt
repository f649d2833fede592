use Rattle.vb_commit.proofs.WayLaws.{only-stays}
use Rattle.vb_commit.proofs.laws.other_pages_stay.Goals as goal

pub returns : goal.returns
returns c from pages d next place page stand past other every = only-stays from pages d next place page stand past other every
