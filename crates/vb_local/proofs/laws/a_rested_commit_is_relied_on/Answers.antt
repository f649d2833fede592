use Rattle.vb_local.proofs.laws.a_rested_commit_is_relied_on.Goals as goal

pub returns : goal.returns
returns c next frozen live relies follows slot page reference out = relies slot page reference (follows slot page reference out)
