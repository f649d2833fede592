-- A folder that is sound for an opening is sound for the same one with lower counts of faults.
use Rattle.std.proofs.Common.{ℕ, ◌≤◌, List, [], ◌∷◌, arith}
use Rattle.vb_hist.specs.declared.entry.Entry.{Entry}
use Rattle.vb_hist.specs.Histories.{survivors_after}
use Rattle.vb_hist.specs.Legal.{AreLegalAfter, Opening}
use Rattle.vb_cloud.specs.Machine.{CloudState}
use Rattle.vb_event.specs.Core.{Core, FolderView}
use Rattle.vb_event.specs.Sound.{HasSoundHistory, HasSoundCloud, IsSound, with_counts}

legal-as : (o : Opening) (disk link : ℕ) (line entries : List Entry) → AreLegalAfter o line entries → AreLegalAfter (with_counts o disk link) line entries
legal-as o disk link line [] legal = tt
legal-as o disk link line (entry ∷ entries) legal = (legal.0, legal.1, legal-as o disk link (survivors_after o.start line entry) entries legal.2)

history-as : (o : Opening) (core : Core) (disk link : ℕ) → HasSoundHistory o core → HasSoundHistory (with_counts o disk link) core
history-as o core disk link s = record {
  legal = legal-as o disk link [] core.history s.legal;
  whole = s.whole;
  active = s.active;
  frozen = s.frozen;
  marks = s.marks;
  written = s.written;
  order = s.order;
}

cloud-as : (o : Opening) (core : Core) (k : CloudState) (disk link : ℕ) → HasSoundCloud o core k → HasSoundCloud (with_counts o disk link) core k
cloud-as o core k disk link c = record { epoch = c.epoch; tree = c.tree; draft = c.draft }

pub sound-as : (o : Opening) (folder : FolderView) (disk link : ℕ) → disk ≤ o.disk_faults → link ≤ o.link_faults → IsSound o folder → IsSound (with_counts o disk link) folder
sound-as o folder disk link lower fewer s = record {
  history = history-as o folder.core disk link s.history;
  cloud = λ k told. cloud-as o folder.core k disk link (s.cloud k told);
  disk_faults = (let low = s.disk_faults in omega arith);
  link_faults = (let low = s.link_faults in omega arith);
}
