use Rattle.std.proofs.Common.{◌≡◌, map, take}
use Rattle.std.specs.List.{All}
use Rattle.vb_block.specs.Pages.{IsPage}
use Rattle.vb_disk.specs.Crashes.{page_of}
use Rattle.vb_disk.proofs.crashing.copies.Given as goal

abbrev pub invariant-loop-tear : goal.invariant-loop-tear
invariant-loop-tear l = record {
  copied : l.pages.items ≡ map page_of (take l.tear-index l.torn);
  pages : All IsPage l.pages.items;
}
