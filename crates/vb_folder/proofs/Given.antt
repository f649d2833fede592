-- Events that freeze nothing, and events that leave the views as they are.
use Rattle.std.proofs.Common.{◌≡◌, List, [], ◌∷◌, ◌++◌, Option, ap, sym, subst, ◌∙◌, append-nil, arith}
use Rattle.vb_disk.specs.States.{DiskState}
use Rattle.vb_event.specs.Answers.{MayAnswer}
use Rattle.vb_event.specs.Core.{Core, Given, IsGiven}
use Rattle.vb_event.specs.Steps.{core_after, pushed_by}
use Rattle.vb_event.specs.declared.answer.FolderAnswer.{FolderAnswer}
use Rattle.vb_event.specs.declared.event.FolderEvent.{FolderEvent}
use Rattle.vb_hist.specs.Histories.{Recorded}
use Rattle.vb_hist.specs.declared.entry.Entry.{Entry}
use Rattle.vb_journal.specs.declared.commit_stage.CommitStep.TheVariants.{Committed, Rested}
use Rattle.vb_local.specs.Shown.{LocalTrees, ShowsOn}
use Rattle.vb_folder.specs.Events.{trees_after, Makes}
use Rattle.vb_folder.specs.Ledgers.{LedgerState, core_of}

-- some steps of a commit, and one message
abbrev pub some_given : Given
some_given = record { commit = Committed ∷ Rested ∷ []; messages = 1 }

pub some-is-given : IsGiven some_given
some-is-given = record { commit = tt; messages = omega arith }

-- the core of a folder with another history
abbrev pub with_entries : Core → List Entry → Core
with_entries core entries = record core { history = entries }

-- an event that changes nothing but the history: it leaves the trees, and pushes these entries
pub record ChangesNothing (event : FolderEvent) (answer : FolderAnswer) (s : LedgerState) (entries : List Entry) : Type 0 where
  pub trees : (t : LocalTrees) → trees_after event answer t ≡ t
  pub pushed : (t : LocalTrees) → pushed_by some_given (core_of s t) event answer ≡ entries
  pub core : (t : LocalTrees) → core_after some_given (core_of s t) event answer ≡ with_entries (core_of s t) (s.history.entries ++ entries)

pub still-makes : (event : FolderEvent) (answer : FolderAnswer) (s : LedgerState) (history : Recorded) (entries : List Entry) (told : Option DiskState) → ChangesNothing event answer s entries → ((t : LocalTrees) → MayAnswer some_given (core_of s t) event answer) → history.entries ≡ s.history.entries ++ entries → Makes event answer s (record s { history = history }) told told
still-makes event answer s history entries told nothing may noted = record {
  given = some_given;
  is_given = some-is-given;
  pushed = λ t. noted ∙ ap (λ (es : List Entry). s.history.entries ++ es) (sym (nothing.pushed t));
  shown = λ d t is shows. record {
    next = d;
    told = is;
    shows = subst (λ (u : LocalTrees). ShowsOn d s.local u) (sym (nothing.trees t)) shows;
    may = may t;
    core = ap (λ (u : LocalTrees). core_of (record s { history = history }) u) (nothing.trees t) ∙ ap (with_entries (core_of s t)) noted ∙ sym (nothing.core t);
  };
}

-- the same where nothing is noted
pub unnoted : (s : LedgerState) (history : Recorded) → history.entries ≡ s.history.entries → history.entries ≡ s.history.entries ++ []
unnoted s history same = same ∙ sym (append-nil s.history.entries)
