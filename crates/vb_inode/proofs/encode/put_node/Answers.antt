use Rattle.std.proofs.Common.{◌≡◌, ℕ, ◌-◌, ◌*◌, List, ◌++◌, length, replicate, sym, ap, ◌∙◌, arith}
use Rattle.std.specs.List.{flat_map}
use Rattle.std.proofs.lemmas.List.{length-append}
use Rattle.vb_block.specs.declared.digest.Ref.{Ref}
use Rattle.vb_block.specs.Numbers.{four_bytes}
use Rattle.vb_inode.specs.Layout.{fields_from, padded, ref_bytes}
use Rattle.vb_inode.proofs.Checked.{length-name, map_pages-few}
use Rattle.vb_inode.proofs.FieldBytes.{sealed_bytes-joined}
use Rattle.vb_inode.proofs.encode.put_node.Goals as goal

pub overflow_cast-name : goal.overflow_cast-name
overflow_cast-name c =
    let node = c.args.node.now in
    omega (arith, length-name node.slot node.kind node.name c.requires.in_range.named, ap length c.slice-name.ensures)

pub put-requires : goal.put-requires
put-requires c =
    let node = c.args.node.now in
    omega (arith, length-name node.slot node.kind node.name c.requires.in_range.named, ap length c.slice-name.ensures, ap length c.requires.empty)

pub overflow_sub-name : goal.overflow_sub-name
overflow_sub-name c =
    let node = c.args.node.now in
    omega (arith, length-name node.slot node.kind node.name c.requires.in_range.named, ap length c.slice-name.ensures)

pub skip-requires-2 : goal.skip-requires-2
skip-requires-2 c =
    let node = c.args.node.now in
    omega (arith, length-name node.slot node.kind node.name c.requires.in_range.named, ap length c.slice-name.ensures, ap length c.requires.empty)

pub put_refs-requires : goal.put_refs-requires
put_refs-requires c =
    let node = c.args.node.now in
    let few = map_pages-few node.kind node.length c.requires.in_range.measured in
    omega (arith, length-name node.slot node.kind node.name c.requires.in_range.named, ap length c.slice-name.ensures, ap length c.slice-maps.ensures, c.requires.in_range.mapped, few.1, ap length c.requires.empty)

pub skip-requires-3 : goal.skip-requires-3
skip-requires-3 c =
    let node = c.args.node.now in
    let few = map_pages-few node.kind node.length c.requires.in_range.measured in
    omega (arith, length-name node.slot node.kind node.name c.requires.in_range.named, ap length c.slice-name.ensures, ap length c.slice-maps.ensures, c.requires.in_range.mapped, few.1, ap length c.requires.empty)

pub returns-clause-written : goal.returns-clause-written
returns-clause-written c =
    let node = c.args.node.now in
    let name = c.slice-name.result.now in
    let maps = c.slice-maps.result.now in
    let refs = flat_map ref_bytes maps in
    let long : 36 * length maps ≡ length refs = omega (arith, c.put_refs.ensures.length, ap length c.put_refs.ensures.written, length-append c.skip-2.new.self refs) in
    let filled : padded 3776 (flat_map ref_bytes node.maps) ≡ refs ++ replicate (3776 - 36 * length maps) 0 = ap (λ (x : List Ref). padded 3776 (flat_map ref_bytes x)) (sym c.slice-maps.ensures) ∙ ap (λ (k : ℕ). refs ++ replicate (3776 - k) 0) (sym long) in
    sealed_bytes-joined (fields_from node) c.args.writer.now c.put_u32.new.self c.put_u32-2.new.self c.put_u32-3.new.self c.put_u32-4.new.self c.put_u64.new.self c.put_u32-5.new.self c.skip.new.self c.put.new.self c.skip-2.new.self c.put_refs.new.self c.skip-3.new.self
    name (replicate (256 - length name) 0) refs (replicate (3776 - 36 * length maps) 0)
    c.requires.empty
    c.put_u32.ensures.written
    (c.put_u32-2.ensures.written ∙ ap (λ (n : ℕ). c.put_u32.new.self ++ four_bytes n) c.kind_number.ensures)
    c.put_u32-3.ensures.written
    (c.put_u32-4.ensures.written ∙ ap (λ (x : List ℕ). c.put_u32-3.new.self ++ four_bytes (length x)) c.slice-name.ensures)
    c.put_u64.ensures.written
    (c.put_u32-5.ensures.written ∙ ap (λ (x : List Ref). c.put_u64.new.self ++ four_bytes (length x)) c.slice-maps.ensures)
    c.skip.ensures.written
    c.put.ensures.written
    c.skip-2.ensures.written
    (ap (padded 256) (sym c.slice-name.ensures))
    c.put_refs.ensures.written
    c.skip-3.ensures.written
    filled

pub returns-clause-length : goal.returns-clause-length
returns-clause-length c =
    let node = c.args.node.now in
    let few = map_pages-few node.kind node.length c.requires.in_range.measured in
    omega (arith, length-name node.slot node.kind node.name c.requires.in_range.named, ap length c.slice-name.ensures, ap length c.slice-maps.ensures, c.requires.in_range.mapped, few.1, ap length c.requires.empty)
