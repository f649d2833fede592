use Rattle.vb_event.specs.declared.event.FolderEvent.TheVariants as events
use Rattle.vb_folder.proofs.SoundMade.{still-sound, KeepsHistories}
use Rattle.vb_folder.proofs.laws.made_events_keep_folders_sound.Goals as goal

pub returns : goal.returns
returns c = λ o event answer old new before after d was is makes told sound. still-sound histories c.events_keep_trees.ensures.stays o event answer old new before after d was is makes told sound where
  histories : KeepsHistories
  histories o core (given) (events.Call writer op) answer is may sound = c.events_keep_histories_sound.ensures.call o core given writer op answer is may sound
  histories o core (given) (events.Freeze by) answer is may sound = c.events_keep_histories_sound.ensures.freeze o core given by answer is may sound
  histories o core (given) events.CommitStep answer is may sound = c.events_keep_histories_sound.ensures.commit_step o core given answer is may sound
  histories o core (given) events.UploadStep answer is may sound = c.events_keep_histories_sound.ensures.upload_step o core given answer is may sound
  histories o core (given) events.DropView answer is may sound = c.events_keep_histories_sound.ensures.drop_view o core given answer is may sound
  histories o core (given) (events.End writer) answer is may sound = c.events_keep_histories_sound.ensures.end o core given writer answer is may sound
