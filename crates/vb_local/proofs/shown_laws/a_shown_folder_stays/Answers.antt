use Rattle.vb_local.proofs.FoldersShown.{shown-hurt}
use Rattle.vb_local.proofs.shown_laws.a_shown_folder_stays.Goals as goal

pub returns : goal.returns
returns c = shown-hurt
