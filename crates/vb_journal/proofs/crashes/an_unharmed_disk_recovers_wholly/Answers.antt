use Rattle.vb_journal.proofs.UnharmedCrashes.{EachCrashRecoversWholly-stage, RecoversWholly-rest}
use Rattle.vb_journal.proofs.crashes.an_unharmed_disk_recovers_wholly.Goals as goal

pub returns-clause-commit : goal.returns-clause-commit
returns-clause-commit c head epoch images homes journal stage d can disk is unharmed = EachCrashRecoversWholly-stage head epoch images homes journal stage d can disk is unharmed

pub returns-clause-rest : goal.returns-clause-rest
returns-clause-rest c head homes journal d new range closed disk is unharmed crash = RecoversWholly-rest head homes journal d new range closed disk is unharmed crash
