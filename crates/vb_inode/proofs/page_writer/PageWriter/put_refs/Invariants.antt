use Rattle.std.proofs.Common.{◌≡◌, ◌+◌, ◌*◌, ◌++◌, length, take}
use Rattle.std.specs.List.{flat_map}
use Rattle.vb_inode.specs.Layout.{ref_bytes}
use Rattle.vb_inode.proofs.page_writer.PageWriter.put_refs.Given as goal

abbrev pub invariant-loop-reference : goal.invariant-loop-reference
invariant-loop-reference l = (l.self ≡ l.fn.self ++ flat_map ref_bytes (take l.reference-index l.refs)) × (length l.self ≡ length l.fn.self + 36 * l.reference-index)
