use Rattle.vb_event.specs.declared.event.FolderEvent.TheVariants as events
use Rattle.vb_folder.proofs.RunsMade.{event-of, sound-with}
use Rattle.vb_folder.proofs.SoundMade.{KeepsHistories}
use Rattle.vb_folder.proofs.laws.calls_keep_clouds_sound.Goals as goal

pub returns : goal.returns
returns c = λ o event answer old new disk_before disk_after before after t k happens sound.
    sound-with histories c.events_keep_what_is_shown.ensures.cloud o event answer old new disk_before disk_after before.cloud after.cloud t k sound
    (event-of o event answer old new disk_before disk_after before after t k happens sound) where
      histories : KeepsHistories
      histories o core (given) (events.Call writer op) answer is may sound = c.events_keep_histories_sound.ensures.call o core given writer op answer is may sound
      histories o core (given) (events.Freeze by) answer is may sound = c.events_keep_histories_sound.ensures.freeze o core given by answer is may sound
      histories o core (given) events.CommitStep answer is may sound = c.events_keep_histories_sound.ensures.commit_step o core given answer is may sound
      histories o core (given) events.UploadStep answer is may sound = c.events_keep_histories_sound.ensures.upload_step o core given answer is may sound
      histories o core (given) events.DropView answer is may sound = c.events_keep_histories_sound.ensures.drop_view o core given answer is may sound
      histories o core (given) (events.End writer) answer is may sound = c.events_keep_histories_sound.ensures.end o core given writer answer is may sound
