use Rattle.vb_faultless.proofs.Undamaged.{call-undamaged, shown-backs, upload-undamaged}
use Rattle.vb_faultless.proofs.laws.whole_disks_show_no_damage.Goals as goal

pub returns-clause-backs : goal.returns-clause-backs
returns-clause-backs c = shown-backs

pub returns-clause-call : goal.returns-clause-call
returns-clause-call c = call-undamaged

pub returns-clause-upload_step : goal.returns-clause-upload_step
returns-clause-upload_step c = λ d s t shown result shows tells.
    upload-undamaged d s shown result shows.whole (λ frozen at i k. c.frozen_pages_are_on_the_disk.ensures.backed d s.local t frozen i k shows.tied shows.shows at) tells
