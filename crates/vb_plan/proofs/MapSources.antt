-- The sources of a file's map pages, by number.
use Rattle.std.proofs.Common.{◌≡◌, ℕ, ◌<◌, List, length, get_or, arith}
use Rattle.std.proofs.lemmas.List.FromFn.{get_or-map-range_with_len, length-map-range_with_len}
use Rattle.vb_block.specs.declared.digest.Ref.{Ref}
use Rattle.vb_inode.specs.declared.next_view.PageSource.{PageSource}
use Rattle.vb_plan.specs.Maps.{group_count, map_source, map_sources, FileRefs}

-- there are as many as map pages
pub length-map_sources : (old : FileRefs) (refs : List Ref) → length (map_sources old refs) ≡ group_count refs
length-map_sources old refs = length-map-range_with_len (map_source old refs) 0 (group_count refs)

-- each is that of its number
pub map_source_at : (old : FileRefs) (refs : List Ref) (number : ℕ) (d : PageSource) → number < group_count refs → get_or (map_sources old refs) number d ≡ map_source old refs number
map_source_at old refs number d within = get_or-map-range_with_len (map_source old refs) 0 (group_count refs) number number d within (omega arith)
