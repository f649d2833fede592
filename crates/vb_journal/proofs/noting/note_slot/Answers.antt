use Rattle.std.proofs.Common.{◌≡◌, ◌∙◌, ℕ, Bool, true, cond, List, [], ◌∷◌, ◌++◌, Option, Some, None, sym, ap}
use Rattle.std.specs.Prelude.{IsOk}
use Rattle.vb_journal.specs.Images.{slot_of}
use Rattle.vb_journal.specs.Notes.{slots_with}
use Rattle.vb_journal.specs.Recovering.{images_by}
use Rattle.vb_journal.specs.Recovers.{last_of}
use Rattle.vb_journal.proofs.noting.note_slot.Goals as goal

pub returns-in-Some-clause-slots : goal.returns-in-Some-clause-slots
unfolding slot_of
returns-in-Some-clause-slots c =
    let reads : c.args.reads_image ≡ true = c.if-not-reads_image.false in
    let slots : List ℕ = c.args.slots.now.items in
    let image : Option (List ℕ) = Some c.in-Some.image.now in
    let slot : c.get_u32.result ≡ slot_of c.in-Some.image.now = c.get_u32.ensures in
    let pushed : IsOk c.push.result = c.push.ensures.succeeds (c.requires reads) in
    c.push.ensures.items ∙ ap (λ (t : Bool). cond t (slots ++ c.get_u32.result ∷ []) slots) pushed
    ∙ ap (λ (s : ℕ). slots ++ s ∷ []) slot
    ∙ ap (slots_with slots) c.in-Some.ensures.image
    ∙ ap (λ (t : Bool). slots_with slots (cond t (last_of (images_by c.args.stage.now)) None)) (sym reads)
