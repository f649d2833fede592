-- Room for entries is nothing of an event.
use Rattle.std.proofs.Common.{◌≡◌, ℕ, Option, sym, subst}
use Rattle.vb_disk.specs.States.{DiskState}
use Rattle.vb_event.specs.declared.answer.FolderAnswer.{FolderAnswer}
use Rattle.vb_event.specs.declared.event.FolderEvent.{FolderEvent}
use Rattle.vb_hist.specs.Histories.{Recorded}
use Rattle.vb_folder.specs.Events.{Makes}
use Rattle.vb_folder.specs.Ledgers.{LedgerState}

-- the folder with room for so many entries
abbrev pub with_room : LedgerState → ℕ → LedgerState
with_room s n = record s { history = record s.history { spare = n } }

abbrev pub room-before : (event : FolderEvent) (answer : FolderAnswer) (s new : LedgerState) (n : ℕ) (before after : Option DiskState) → Makes event answer (with_room s n) new before after → Makes event answer s new before after
room-before event answer s new n before after makes = record {
  given = makes.given;
  is_given = makes.is_given;
  pushed = λ t. makes.pushed t;
  shown = λ d t told shows. record {
    next = (makes.shown d t told shows).next;
    told = (makes.shown d t told shows).told;
    shows = (makes.shown d t told shows).shows;
    may = (makes.shown d t told shows).may;
    core = (makes.shown d t told shows).core;
  };
}

abbrev pub room-after : (event : FolderEvent) (answer : FolderAnswer) (s new : LedgerState) (n : ℕ) (before after : Option DiskState) → Makes event answer s new before after → Makes event answer s (with_room new n) before after
room-after event answer s new n before after makes = record {
  given = makes.given;
  is_given = makes.is_given;
  pushed = λ t. makes.pushed t;
  shown = λ d t told shows. record {
    next = (makes.shown d t told shows).next;
    told = (makes.shown d t told shows).told;
    shows = (makes.shown d t told shows).shows;
    may = (makes.shown d t told shows).may;
    core = (makes.shown d t told shows).core;
  };
}

-- the same from a folder whose history is that with other room
pub from-roomed : (event : FolderEvent) (answer : FolderAnswer) (s new : LedgerState) (history : Recorded) (n : ℕ) (before after : Option DiskState) → history ≡ record s.history { spare = n } → Makes event answer (record s { history = history }) new before after → Makes event answer s new before after
from-roomed event answer s new history n before after same makes =
    room-before event answer s new n before after (subst (λ (h : Recorded). Makes event answer (record s { history = h }) new before after) same makes)

-- and to one
pub to-roomed : (event : FolderEvent) (answer : FolderAnswer) (s new : LedgerState) (history : Recorded) (n : ℕ) (before after : Option DiskState) → history ≡ record new.history { spare = n } → Makes event answer s new before after → Makes event answer s (record new { history = history }) before after
to-roomed event answer s new history n before after same makes =
    subst (λ (h : Recorded). Makes event answer s (record new { history = h }) before after) (sym same) (room-after event answer s new n before after makes)
