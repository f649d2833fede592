-- A report: lines that were added to it, and how often it found no memory for more.
use Rattle.std.specs.Prelude.{◌≡◌, ℕ, List, ◌++◌, Result, Ok, Err}
use mathlib.Core.List.{IsPrefix}
use Rattle.vb_cause.specs.Faults.{counted}
use Rattle.vb_hist.specs.declared.entry.Entry.{Entry}
use Rattle.vb_report.specs.Text.{history_text}

-- the bytes of its lines, and the count of its shortages of memory
pub record ReportView : Type 0 where
  pub text : List ℕ
  pub shortages : ℕ

-- the report has this text more
abbrev pub with_text : ReportView → List ℕ → ReportView
with_text report more = record report { text = report.text ++ more }

-- the report found no memory once more
abbrev pub with_shortage : ReportView → ReportView
with_shortage report = record report { shortages = counted report.shortages }

-- a text is added whole; or no memory is found, which is counted, and the lines stay
abbrev pub Adds : {A E : Type 0} → ReportView → List ℕ → Result A E → ReportView → Type 0
Adds old more (Ok done) new = new ≡ with_text old more
Adds old more (Err error) new = new ≡ with_shortage old

-- the lines of a history are added; or no memory is found, which is counted, and whole lines are added as far as it was
abbrev pub AddsHistory : {A E : Type 0} → ReportView → List Entry → Result A E → ReportView → Type 0
AddsHistory old history (Ok done) new = new ≡ with_text old (history_text history)
AddsHistory old history (Err error) new =
    (front : List Entry) × IsPrefix front history × (new ≡ with_shortage (with_text old (history_text front)))
