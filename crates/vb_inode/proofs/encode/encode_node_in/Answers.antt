use Rattle.std.proofs.Common.{◌≡◌, ℕ, List, ◌++◌, ap, ◌∙◌}
use Rattle.sha2.specs.Sha256.{sha256}
use Rattle.vb_block.specs.Pages.{sealed_part}
use Rattle.vb_inode.specs.Layout.{fields_from, node_page, sealed_bytes}
use Rattle.vb_inode.proofs.Zeros.{take-padded}
use Rattle.vb_inode.proofs.encode.encode_node_in.Goals as goal

pub returns : goal.returns
unfolding node_page sealed_part
returns c =
    let covered : sealed_part c.finish-page.result ≡ sealed_bytes (fields_from c.args.node.now) = ap sealed_part c.finish-page.ensures ∙ take-padded 4096 4064 c.put_node.new.writer c.put_node.ensures.length ∙ c.put_node.ensures.written in
    c.seal.ensures.sealed_bytes ∙ ap (λ (bytes : List ℕ). bytes ++ sha256 bytes) covered
