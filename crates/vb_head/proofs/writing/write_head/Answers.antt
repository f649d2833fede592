use Rattle.std.proofs.Common.{ℕ, List, [], length, refl, sym, ap, ◌∙◌, arith}
use Rattle.byteorder.specs.Endian.{little_bytes}
use Rattle.vb_block.specs.Pages.{overwritten}
use Rattle.vb_head.specs.Layout.{signature, spelled}
use Rattle.vb_head.specs.Heads.{count_of, number_of}
use Rattle.vb_head.proofs.HeadsWritten.{BeginsWith-overwritten, BeginsWith-zero_page, head_page-from_sealed}
use Rattle.vb_head.proofs.writing.write_head.Goals as goal

-- each field is put behind those that stand there, and then the page is sealed
pub returns : goal.returns
unfolding spelled
returns c =
    let h = c.args.head.now in
    let id_is = c.bytes.ensures.bytes in
    let b0 = BeginsWith-zero_page c.in_ok-page.page c.in_ok-page.ensures in
    let b8 = BeginsWith-overwritten c.in_ok-page.page c.set.new.self [] signature 0 8 b0 refl (omega arith) c.set.ensures.written in
    let b12 = BeginsWith-overwritten c.set.new.self c.put_u32.new.page _ (little_bytes 4 1) 8 4 b8 refl (omega arith) c.put_u32.ensures in
    let b28 = BeginsWith-overwritten c.put_u32.new.page c.set-2.new.self _ h.id 12 16 b12 (sym (ap length id_is) ∙ c.bytes.ensures.length) (omega arith) (c.set-2.ensures.written ∙ ap (λ (l : List ℕ). overwritten c.put_u32.new.page 12 l) id_is) in
    let b32 = BeginsWith-overwritten c.set-2.new.self c.put_u32-2.new.page _ (little_bytes 4 h.blocks) 28 4 b28 refl (omega arith) c.put_u32-2.ensures in
    let b36 = BeginsWith-overwritten c.put_u32-2.new.page c.put_u32-3.new.page _ (little_bytes 4 h.nodes) 32 4 b32 refl (omega arith) c.put_u32-3.ensures in
    let b44 = BeginsWith-overwritten c.put_u32-3.new.page c.put_u64.new.page _ (little_bytes 8 h.sequence) 36 8 b36 refl (omega arith) c.put_u64.ensures in
    let b52 = BeginsWith-overwritten c.put_u64.new.page c.put_u64-2.new.page _ (little_bytes 8 h.epoch) 44 8 b44 refl (omega arith) c.put_u64-2.ensures in
    let b56 = BeginsWith-overwritten c.put_u64-2.new.page c.put_u32-4.new.page _ (little_bytes 4 (number_of h.state)) 52 4 b52 refl (omega arith) (c.put_u32-4.ensures ∙ ap (λ (v : ℕ). overwritten c.put_u64-2.new.page 52 (little_bytes 4 v)) c.state_number.ensures) in
    let b60 = BeginsWith-overwritten c.put_u32-4.new.page c.put_u32-5.new.page _ (little_bytes 4 (count_of h.state)) 56 4 b56 refl (omega arith) (c.put_u32-5.ensures ∙ ap (λ (v : ℕ). overwritten c.put_u32-4.new.page 56 (little_bytes 4 v)) c.image_count.ensures) in
    head_page-from_sealed h c.put_u32-5.new.page c.seal.new.page _ b60 refl c.seal.ensures.sealed_bytes
