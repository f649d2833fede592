use Rattle.std.proofs.Common.{◌∙◌, sym}
use Rattle.vb_journal.proofs.Choices.{IsChosen-from}
use Rattle.vb_journal.proofs.HeadReads.{chosen-is}
use Rattle.vb_journal.proofs.recovering.decide.Goals as goal

pub after_heads-requires-clause-is : goal.after_heads-requires-clause-is
after_heads-requires-clause-is c = chosen-is c.args.first.size.places c.args.first.read c.args.second.now c.in-Ok.head c.args.first.good c.requires.good (sym c.choose_head.ensures ∙ c.in-Ok.is)

pub invariant_of-result : goal.invariant_of-result
invariant_of-result c =
    let is = sym c.choose_head.ensures ∙ c.in-Ok.is in
    record {
      is = chosen-is c.args.first.size.places c.args.first.read c.args.second.now c.in-Ok.head c.args.first.good c.requires.good is;
      whole = (IsChosen-from c.args.first.size.places c.args.first.read c.args.second.now c.in-Ok.head is).made;
      other = c.other_place-place.ensures.place;
    }
