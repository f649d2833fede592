use Rattle.std.proofs.Common.{◌≡◌, ◌+◌, ◌*◌, ◌++◌, length}
use Rattle.std.specs.List.{flat_map}
use Rattle.vb_inode.specs.Layout.{ref_bytes, AreRefs}
use Rattle.vb_inode.proofs.references.read_refs.Given as goal

abbrev pub invariant-loop : goal.invariant-loop
invariant-loop l = (length l.refs ≡ l.counter) × AreRefs l.refs × (l.bytes ≡ flat_map ref_bytes l.refs ++ l.rest) × (length l.rest + 36 * l.counter ≡ length l.bytes)
