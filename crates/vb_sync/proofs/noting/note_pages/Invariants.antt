use Rattle.std.proofs.Common.{take}
use Rattle.vb_sync.specs.Indexes.{NotesPages}
use Rattle.vb_sync.proofs.noting.note_pages.Given as goal

-- the pages before this one were noted
abbrev pub invariant-loop-page : goal.invariant-loop-page
invariant-loop-page l = NotesPages l.initial.pages.entries l.pages.entries l.i (take l.page l.digests)
