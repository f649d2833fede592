use Rattle.vb_faultless.proofs.Answered.{call-blames, drop-blames, end-blames, freeze-blames, made-due, step-blames, upload-blames}
use Rattle.vb_faultless.proofs.laws.faultless_devices_answer.Goals as goal

pub returns-clause-due : goal.returns-clause-due
returns-clause-due c = made-due

pub returns-clause-call : goal.returns-clause-call
returns-clause-call c = call-blames

pub returns-clause-commit_step : goal.returns-clause-commit_step
returns-clause-commit_step c = step-blames

pub returns-clause-upload_step : goal.returns-clause-upload_step
returns-clause-upload_step c = λ o d s new t k after left before link shown result shows sound none uses tells made.
    upload-blames o d s new t k after left before link result (c.whole_disks_show_no_damage.ensures.upload_step d s t shown result shows tells) sound none uses made

pub returns-clause-freeze : goal.returns-clause-freeze
returns-clause-freeze c = freeze-blames

pub returns-clause-drop_view : goal.returns-clause-drop_view
returns-clause-drop_view c = drop-blames

pub returns-clause-end : goal.returns-clause-end
returns-clause-end c = end-blames
