use Rattle.std.proofs.Common.{◌≡◌, ◌+◌, ◌<◌, ◌∙◌, ◌++◌, ◌∷◌, [], List, ℕ, true, length, refl, ap, sym, subst, set, arith}
use Rattle.std.specs.Prelude.{vec_len}
use Rattle.std.proofs.lemmas.Bool.{ltb-true}
use Rattle.std.proofs.lemmas.List.{length-append}
use Rattle.vb_journal.specs.Images.{AreImages, slot_of}
use Rattle.vb_head.specs.declared.head.State.TheVariants.{Opened}
use Rattle.vb_journal.specs.Journals.{AreAll}
use Rattle.vb_journal.specs.Marks.{AreMarked}
use Rattle.vb_journal.proofs.Marked.{AreImages-more, AreMarked-more, IsNext-from, at-err, at-ok}
use Rattle.vb_journal.proofs.journal.Journal.add.Goals as goal

pub invariant_of-self-then-is_err-2 : goal.invariant_of-self-then-is_err-2
invariant_of-self-then-is_err-2 c =
    let journal = c.args.self in
    let same : c.add.new.self ≡ c.args.self.images = at-err _ c.add.result (sym c.is_err-2.ensures.value ∙ c.if-is_err-2.true) c.add.ensures.err in
    record {
      is = journal.is;
      opened = journal.opened;
      left = subst (λ (l : List (List ℕ)). length l < c.args.self.count) (sym same) journal.left;
      images_are = subst (AreImages journal.head.nodes) (sym same) journal.images_are;
      marks = λ slot. c.make_room.ensures.marks slot ∙ subst (λ (l : List (List ℕ)). AreMarked c.args.self.named.items l) (sym same) journal.marks slot;
      few = c.make_room.ensures.few;
    }

pub invariant_of-self-then-more : goal.invariant_of-self-then-more
unfolding slot_of
invariant_of-self-then-more c =
    let journal = c.args.self in
    let next = IsNext-from journal.head.nodes (2 + journal.head.nodes + length journal.images) journal.images c.args.image c.requires in
    let more : c.add.new.self ≡ c.args.self.images ++ c.args.image ∷ [] = at-ok _ c.add.result (sym c.is_err-2.ensures.value ∙ c.if-is_err-2.false) c.add.ensures.ok in
    let room : vec_len c.make_room.new.named ≡ c.args.self.head.nodes = at-ok _ c.make_room.result (sym c.is_err.ensures.value ∙ c.if-is_err.false) c.make_room.ensures.ok in
    let long : vec_len c.make_room.new.named ≡ length c.make_room.new.named.items = c.make_room.new.named.ok.0 in
    let low : slot_of c.args.image < c.args.self.head.nodes = ltb-true (slot_of c.args.image) c.args.self.head.nodes next.slot in
    let slot : c.get_u32-slot.result ≡ slot_of c.args.image = c.get_u32-slot.ensures in
    let marked : AreMarked c.make_room.new.named.items c.args.self.images = λ s. c.make_room.ensures.marks s ∙ journal.marks s in
    let Q : ℕ → Type 0 = λ n. AreMarked (set c.make_room.new.named.items n true) (c.args.self.images ++ c.args.image ∷ []) in
    let marks : AreMarked (set c.make_room.new.named.items c.get_u32-slot.result true) c.add.new.self = subst (AreMarked (set c.make_room.new.named.items c.get_u32-slot.result true)) (sym more) (subst Q (sym slot) (AreMarked-more c.make_room.new.named.items journal.images c.args.image marked (omega (arith, low, room, long)))) in
    record {
      is = journal.is;
      opened = journal.opened;
      left = subst (λ (l : List (List ℕ)). length l < c.args.self.count) (sym more) (omega (arith, length-append c.args.self.images (c.args.image ∷ [])));
      images_are = subst (AreImages journal.head.nodes) (sym more) (AreImages-more journal.head.nodes journal.images c.args.image journal.images_are next);
      marks = marks;
      few = c.make_room.ensures.few;
    }

pub returns : goal.returns
returns c =
    let journal = c.args.self in
    let next = IsNext-from journal.head.nodes (2 + journal.head.nodes + length journal.images) journal.images c.args.image c.requires in
    let more : c.add.new.self ≡ c.args.self.images ++ c.args.image ∷ [] = at-ok _ c.add.result (sym c.is_err-2.ensures.value ∙ c.if-is_err-2.false) c.add.ensures.ok in
    let last : c.args.self.count ≡ length (c.args.self.images ++ c.args.image ∷ []) = omega (arith, length-append c.args.self.images (c.args.image ∷ []), journal.left) in
    let all : AreAll c.args.self.head c.add.new.self = record {
      counted = journal.opened ∙ ap Opened (last ∙ ap length (sym more));
      images_are = subst (AreImages journal.head.nodes) (sym more) (AreImages-more journal.head.nodes journal.images c.args.image journal.images_are next);
    } in
    (refl, more, all)
