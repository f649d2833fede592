use Rattle.vb_event.specs.declared.event.FolderEvent.TheVariants as events
use Rattle.vb_event.proofs.Transitions.{sound-event}
use Rattle.vb_event.proofs.laws.events_keep_histories_sound.Goals as goal

pub returns-clause-call : goal.returns-clause-call
returns-clause-call c = λ o core given writer op answer is may s. sound-event o core given (events.Call writer op) answer is may s

pub returns-clause-freeze : goal.returns-clause-freeze
returns-clause-freeze c = λ o core given by answer is may s. sound-event o core given (events.Freeze by) answer is may s

pub returns-clause-commit_step : goal.returns-clause-commit_step
returns-clause-commit_step c = λ o core given answer is may s. sound-event o core given events.CommitStep answer is may s

pub returns-clause-upload_step : goal.returns-clause-upload_step
returns-clause-upload_step c = λ o core given answer is may s. sound-event o core given events.UploadStep answer is may s

pub returns-clause-drop_view : goal.returns-clause-drop_view
returns-clause-drop_view c = λ o core given answer is may s. sound-event o core given events.DropView answer is may s

pub returns-clause-end : goal.returns-clause-end
returns-clause-end c = λ o core given writer answer is may s. sound-event o core given (events.End writer) answer is may s
