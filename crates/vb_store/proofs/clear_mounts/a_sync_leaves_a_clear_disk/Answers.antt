use Rattle.vb_store.proofs.ClearMounts.{IsClear-synced, last-crash}
use Rattle.vb_store.proofs.clear_mounts.a_sync_leaves_a_clear_disk.Goals as goal

pub returns-clause-picked : goal.returns-clause-picked
returns-clause-picked c = last-crash

pub returns-clause-clear : goal.returns-clause-clear
returns-clause-clear c = IsClear-synced
