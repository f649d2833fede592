-- Who made an entry, and the entries of one maker.
use Rattle.std.specs.Prelude.{ℕ, ◌==◌, List}
use Rattle.std.specs.List.{filter}
use Rattle.vb_hist.specs.declared.entry.Entry.{Entry}
use Rattle.vb_hist.specs.declared.entry.Entry.TheVariants.{Call, Freeze, FreezeBusy, Commit, Rest, Publish, Doubt, Dropped, End, Cut}

-- the number of an entry: its writer or who froze, and 0 where it has neither
abbrev pub maker_of : Entry → ℕ
maker_of (Call writer op reply) = writer
maker_of (Freeze by epoch) = by
maker_of (FreezeBusy writer epoch) = writer
maker_of (Commit epoch) = 0
maker_of (Rest epoch) = 0
maker_of (Publish epoch) = 0
maker_of (Doubt epoch) = 0
maker_of (Dropped epoch) = 0
maker_of (End writer) = writer
maker_of (Cut epoch limits) = 0

-- the entries of a number, in their order
abbrev pub entries_of : ℕ → List Entry → List Entry
entries_of number history = filter (λ entry. maker_of entry == number) history
