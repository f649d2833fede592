use Rattle.vb_journal.proofs.AfterCrashes.{EachCrashRecovers-stage}
use Rattle.vb_journal.proofs.crashes.each_crash_recovers.Goals as goal

pub returns : goal.returns
returns c head epoch images homes journal stage d can disk is = EachCrashRecovers-stage head epoch images homes journal stage d can disk is
