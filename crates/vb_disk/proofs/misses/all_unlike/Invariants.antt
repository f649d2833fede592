use Rattle.std.proofs.Common.{◌≡◌, drop, not}
use Rattle.std.specs.List.{list_all}
use Rattle.std.specs.Str.{bytes_eq}
use Rattle.sha2.specs.Sha256.{sha256}
use Rattle.vb_disk.proofs.misses.all_unlike.Given as goal

-- what is left decides
abbrev pub invariant-loop-page : goal.invariant-loop-page
invariant-loop-page l =
    list_all (λ page. not (bytes_eq (sha256 page) l.digest)) (drop l.page-index l.pages) ≡ list_all (λ page. not (bytes_eq (sha256 page) l.digest)) l.pages
