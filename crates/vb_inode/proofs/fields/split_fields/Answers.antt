use Rattle.vb_block.proofs.Numbers.{parts_whole}
use Rattle.vb_inode.proofs.FieldBytes.{sealed_bytes-split}
use Rattle.vb_inode.proofs.fields.split_fields.Goals as goal

pub returns-clause-spelled : goal.returns-clause-spelled
returns-clause-spelled c =
    let after_numbers = c.split_u32-map_count.result.1.now in
    let after_gap = c.split_at.result.1.now in
    sealed_bytes-split _ c.args.bytes.now c.split_u32-slot.result.1.now c.split_u32-kind.result.1.now c.split_u32-parent.result.1.now c.split_u32-name_length.result.1.now c.split_u64-file_length.result.1.now after_numbers after_gap
    c.split_u32-slot.ensures.parts c.split_u32-kind.ensures.parts c.split_u32-parent.ensures.parts c.split_u32-name_length.ensures.parts c.split_u64-file_length.ensures.parts c.split_u32-map_count.ensures.parts
    (parts_whole 4 after_numbers _ _ c.split_at.ensures.front c.split_at.ensures.back)
    (parts_whole 256 after_gap _ _ c.split_at-2.ensures.front c.split_at-2.ensures.back)
