use Rattle.std.proofs.Common.{◌≡◌, ◌+◌, ◌≤◌, min, Some, take}
use Rattle.std.specs.Option.{option_map}
use Rattle.vb_cause.specs.Faults.{greatest_count}
use Rattle.vb_link.specs.Views.{LinkView, info_of}
use Rattle.vb_link.specs.Links.{KeepsFailures}
use Rattle.vb_sync.specs.Indexes.{IsIndex}
use Rattle.vb_sync.proofs.reading.list_entries.Given as goal

-- the entries before this one were told, of the view that was shown and is shown on
abbrev pub invariant-loop-i : goal.invariant-loop-i
invariant-loop-i g l = record {
  described : option_map info_of (g.K.Link.shown l.link) ≡ Some l.info;
  stays : (v : LinkView) → g.K.Link.shown l.initial.link ≡ Some v → g.K.Link.shown l.link ≡ Some v;
  entries : (v : LinkView) → g.K.Link.shown l.link ≡ Some v → l.listing.entries ≡ take l.i v.entries;
  index : IsIndex l.listing.entries l.listing.pages.entries l.listing.contents.entries l.listing.files.entries;
  told : g.K.Link.told l.link ≡ g.K.Link.told l.initial.link;
  sent : g.K.Link.sends l.link ≡ g.K.Link.sends l.initial.link;
  faults : g.K.Link.faults l.initial.link ≤ g.K.Link.faults l.link;
  left : KeepsFailures (g.K.Link.failures_left l.initial.link) (g.K.Link.failures_left l.link);
  called : g.K.Link.calls l.link ≡ min (g.K.Link.calls l.initial.link + l.i) greatest_count;
}
