-- All seats are back.
use Rattle.std.proofs.Common.{rules, ◌≡◌, length, sym, ap, ◌∙◌, subst}
use lib.ListN.{length-map}
use Rattle.vb_turn.specs.Turns.{IsBack, AreBack, number_of}
use Rattle.vb_turn.proofs.Totals.{all_by}
use Rattle.vb_turn.proofs.Books.{written_back}
use Rattle.vb_turn.proofs.tests.played.Goals as goal

pub close-book-requires : goal.close-book-requires
close-book-requires g c = let after = c.all_work-last.new.seats in let made = c.in-Ok.ensures.ok in
    let long : length after ≡ length c.row.inside.seats.items = search rules in
    let len : c.row.inside.seats.len ≡ length c.row.inside.seats.items = search rules in
    let same = written_back after c.row.inside.seats.items c.row.inside.seats.len long len in
    let row : length c.row.inside.seats.items ≡ length c.in-Ok.row.seats = search rules in (
      subst (AreBack c.in-Ok.turn) (sym same) (all_by (IsBack c.in-Ok.turn) after c.all_work-last.ensures.0),
      ap length same ∙ (long ∙ (row ∙ (sym (length-map c.in-Ok.row.seats number_of) ∙ (ap length made.in_order ∙ sym (ap length made.numbers_are))))),
    )
