use Rattle.vb_journal.proofs.AfterCrashes.{EachCrashStays-rest}
use Rattle.vb_journal.proofs.crashes.each_crash_at_rest_recovers.Goals as goal

pub returns : goal.returns
returns c head homes journal d range closed disk is = EachCrashStays-rest head homes journal d range closed disk is
