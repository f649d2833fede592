use Rattle.std.proofs.Common.{ℕ, List, ◌++◌, ap, ◌∙◌}
use Rattle.std.specs.List.{flat_map}
use Rattle.vb_inode.specs.Layout.{map_page, padded, ref_bytes}
use Rattle.vb_inode.proofs.encode.encode_map_in.Goals as goal

pub returns : goal.returns
unfolding map_page
returns c =
    c.finish.ensures ∙ ap (padded 4096) (c.put_refs.ensures.written ∙ ap (λ (bytes : List ℕ). bytes ++ flat_map ref_bytes c.args.refs.now) c.over-writer.ensures)
