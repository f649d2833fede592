use Rattle.vb_store.proofs.ViewsOfClear.{RecoversAView-clear}
use Rattle.vb_store.proofs.one_of.a_clear_disk_recovers_one_of_its_views.Goals as goal

pub returns : goal.returns
returns c = RecoversAView-clear
