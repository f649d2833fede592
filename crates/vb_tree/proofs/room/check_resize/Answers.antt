use Rattle.std.proofs.Common.{◌∙◌}
use Rattle.vb_tree.proofs.Sizes.{refuse_resize-place}
use Rattle.vb_tree.proofs.room.check_resize.Goals as goal

pub returns : goal.returns
returns c = λ path h.
    refuse_resize-place c.args.limits path c.args.entries.now c.args.new c.args.place c.index-entries-place.result _ _ _ _ h c.len-old.ensures c.pages_in-before.ensures c.pages_of.ensures c.pages_of-2.ensures
    ∙ c.check_length.ensures
