use Rattle.vb_folder.proofs.ViewsMade.{sound-views}
use Rattle.vb_folder.proofs.laws.sound_folders_recover_their_history.Goals as goal

pub returns : goal.returns
returns c = record {
  views = sound-views;
  one_of = λ o s d made sound. c.a_shown_folder_is_recovered.ensures.one_of d s.local sound.trees made sound.shows;
}
