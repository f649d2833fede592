-- The small value that the lock is tried with: a history of publications and ends, with the published epoch of its marks.
use Rattle.std.specs.Prelude.{◌≡◌, ℕ, List, []}
use Rattle.vb_hist.specs.declared.entry.Entry.{Entry}
use Rattle.vb_hist.specs.Legal.{Opening, marks_of}
use Rattle.vb_turn.specs.Numbers.{Rises}

-- where a history begins, at this published epoch
abbrev pub opening_at : ℕ → Opening
opening_at epoch = record {
  limits = record { pages = 0; nodes = 1 };
  base = [];
  start = epoch;
  published = epoch;
  published_tree = [];
  disk_faults = 0;
  link_faults = 0;
}

-- the published epoch of the marks of a history
abbrev pub epoch_after : ℕ → List Entry → ℕ
epoch_after epoch history = (marks_of (opening_at epoch) history).published

-- a history, and the epoch that was published before it
pub record Pages : Type 0 where
  pub before : ℕ
  pub history : List Entry
  pub published : ℕ

-- what was published stands for the history: it is that of its marks, and below that of no beginning
pub record StandsFor (given now : Pages) : Type 0 where
  pub begun : now.before ≡ given.before
  pub marks : now.published ≡ epoch_after given.before now.history
  pub rises : Rises (epoch_after given.before) now.history
