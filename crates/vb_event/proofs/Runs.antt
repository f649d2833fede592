-- Runs: a folder after a list of events, and the promise between its two ends.
use Rattle.std.proofs.Common.{◌≡◌, ℕ, ◌<◌, ◌≤◌, ◌==◌, inl, inr, true, false, if◌then◌else◌, List, [], ◌∷◌, ◌++◌, Option, Some, None, refl, ap, sym, ◌∙◌, subst, subst₂, append-nil, arith}
use Rattle.std.proofs.lemmas.Bool.Decides.{nat_tests}
use mathlib.Core.List.{IsPrefix}
use Rattle.vb_hist.specs.Histories.{IsFrozenAt, up_to_epoch}
use Rattle.vb_hist.specs.Legal.{Opening, folder_at}
use Rattle.vb_hist.specs.Openings.{published_front}
use Rattle.vb_hist.proofs.Earlier.{fronts-extend}
use Rattle.vb_hist.proofs.Order.{IsInOrder}
use Rattle.vb_hist.proofs.Extended.{prefix-then}
use Rattle.vb_hist.proofs.Fronts.{up_to_epoch-append}
use Rattle.vb_hist.proofs.Pushed.{IsFrozenAt-append}
use Rattle.vb_cloud.specs.Machine.{CloudState}
use Rattle.vb_event.specs.declared.event.FolderEvent.{FolderEvent}
use Rattle.vb_event.specs.declared.answer.FolderAnswer.{FolderAnswer}
use Rattle.vb_event.specs.Core.{Core, FolderView, Given, IsGiven}
use Rattle.vb_event.specs.Steps.{Happening, Runs, Steps, pushed_by}
use Rattle.vb_event.specs.Sound.{HasSoundHistory, HasSoundCloud, IsPublishedFreeze, IsSound}
use Rattle.vb_event.specs.Promise.{GoesOnFrom, KeepsPromise}
use Rattle.vb_event.proofs.Noted.{all-survives, line-ordered}
use Rattle.vb_event.proofs.Transitions.{sound-event}
use Rattle.vb_event.proofs.Shown.{cloud-event, published-freeze, shown-freeze}
use Rattle.vb_event.proofs.Later.{published-later, seen-later}

-- ---- one event

pub sound-made : (o : Opening) (given : Given) (before after : FolderView) (event : FolderEvent) (answer : FolderAnswer) → IsGiven given → Steps given before event answer after → IsSound o before → IsSound o after
sound-made o given before after event answer is step s = record {
  history = subst (HasSoundHistory o) (sym step.core) (sound-event o before.core given event answer is step.may s.history);
  cloud = λ k told. (let was = step.told k told in
      subst (λ c. HasSoundCloud o c k) (sym step.core) (cloud-event o before.core given event answer was.0 k is step.may was.2 s.history (s.cloud was.0 was.1)));
  disk_faults = (let low = s.disk_faults in let kept = step.cause.disk_kept in omega arith);
  link_faults = (let low = s.link_faults in let kept = step.cause.link_kept in omega arith);
}

-- a later moment of a folder: its history goes on, and what is published never falls
record Rises (before after : FolderView) : Type 0 where
  grows : IsPrefix before.core.history after.core.history
  published : before.core.published ≤ after.core.published
  told : (k : CloudState) → after.cloud ≡ Some k → (was : CloudState) × (before.cloud ≡ Some was) × (was.epoch ≤ k.epoch)

rises-self : (folder : FolderView) → Rises folder folder
rises-self folder = record { grows = ([], append-nil folder.core.history); published = omega arith; told = λ k is. (k, is, omega arith) }

rises-then : (one two three : FolderView) → Rises one two → Rises two three → Rises one three
rises-then one two three p q = record {
  grows = prefix-then one.core.history two.core.history three.core.history p.grows q.grows;
  published = (let first = p.published in let second = q.published in omega arith);
  told = λ k is. (let later = q.told k is in let earlier = p.told later.0 later.1 in (earlier.0, earlier.1, omega (arith, earlier.2, later.2)));
}

rises-made : (o : Opening) (given : Given) (before after : FolderView) (event : FolderEvent) (answer : FolderAnswer) → Steps given before event answer after → IsSound o before → Rises before after
rises-made o given before after event answer step s = record {
  grows = (pushed_by given before.core event answer, ap (λ c. c.history) (sym step.core));
  published = subst (λ c. before.core.published ≤ c.published) (sym step.core) (published-later o before.core given event answer step.may s.history);
  told = λ k is. (let was = step.told k is in (was.0, was.1, seen-later o before.core given event answer was.0 k step.may was.2 s.history (s.cloud was.0 was.1)));
}

-- ---- a run

pub sound-run : (o : Opening) (before after : FolderView) (run : List Happening) → Runs before run after → IsSound o before → IsSound o after
sound-run o before after [] made s = subst (IsSound o) (sym made) s
sound-run o before after (one ∷ others) (next, given, step, made) s = sound-run o next after others made (sound-made o one.given before next one.event one.answer given step s)

rises-run : (o : Opening) (before after : FolderView) (run : List Happening) → Runs before run after → IsSound o before → Rises before after
rises-run o before after [] made s = subst (Rises before) (sym made) (rises-self before)
rises-run o before after (one ∷ others) (next, given, step, made) s =
    rises-then before next after (rises-made o one.given before next one.event one.answer step s)
    (rises-run o next after others made (sound-made o one.given before next one.event one.answer given step s))

-- ---- what is published goes on

-- the front of a later epoch goes on from that of an earlier one
fronts : (o : Opening) (core next : Core) (was is : ℕ) → HasSoundHistory o core → HasSoundHistory o next → IsPrefix core.history next.history → IsPublishedFreeze o core.history was → IsPublishedFreeze o next.history is → was ≤ is
    → IsPrefix (published_front o core.history was) (published_front o next.history is)
fronts o core next was is s n grows (inl opening) there low =
    subst (λ b. IsPrefix (if b then [] else up_to_epoch o.start was core.history) (published_front o next.history is)) (sym same) (published_front o next.history is, refl)
  where
    same : (was == o.published) ≡ true
    same = grind (arith, nat_tests)
fronts o core next was is s n grows (inr here) (inl opening) low = absurd (omega (arith, here.0))
fronts o core next was is s n grows (inr here) (inr there) low =
    subst₂ (λ a b. IsPrefix (if a then [] else up_to_epoch o.start was core.history) (if b then [] else up_to_epoch o.start is next.history)) (sym first) (sym second)
    (subst (λ l. IsPrefix l (up_to_epoch o.start is next.history)) stays extends)
  where
    first : (was == o.published) ≡ false
    first = (let above : o.published < was = here.0 in grind (arith, nat_tests))

    second : (is == o.published) ≡ false
    second = (let above : o.published < is = there.0 in grind (arith, nat_tests))

    order : IsInOrder o.start next.history
    order = subst (IsInOrder o.start) (all-survives o next n) (line-ordered o next n).order

    frozen : IsFrozenAt o.start was next.history
    frozen = subst (IsFrozenAt o.start was) grows.1 (IsFrozenAt-append o.start was core.history grows.0 here.1)

    stays : up_to_epoch o.start was next.history ≡ up_to_epoch o.start was core.history
    stays = ap (up_to_epoch o.start was) (sym grows.1) ∙ up_to_epoch-append o.start was core.history grows.0 here.1

    extends : IsPrefix (up_to_epoch o.start was next.history) (up_to_epoch o.start is next.history)
    extends = fronts-extend o.start was is next.history order frozen there.1 low

goes-on : (o : Opening) (core next : Core) (was is : ℕ) → HasSoundHistory o core → HasSoundHistory o next → IsPrefix core.history next.history → IsPublishedFreeze o core.history was → IsPublishedFreeze o next.history is → was ≤ is
    → GoesOnFrom o core next was is
goes-on o core next was is s n grows here there low = record {
  later = low;
  extends = subst₂ (λ l m. IsPrefix (published_front o l was) (published_front o m is)) (sym (all-survives o core s)) (sym (all-survives o next n)) (fronts o core next was is s n grows here there low);
}

told-same : (o : Option CloudState) (a b : CloudState) → o ≡ Some a → o ≡ Some b → a ≡ b
told-same o a b h g = cc (h, g)

-- a sound folder that rises to a sound one keeps the promise
promise : (o : Opening) (before after : FolderView) → IsSound o before → IsSound o after → Rises before after → KeepsPromise o before after
promise o before after b s rises = record {
  tells = record {
    legal = s.history.legal;
    live_tree = s.history.active;
    frozen_tree = λ busy. s.history.frozen ∙ ap (λ t. if t then Some (folder_at o after.core.history after.core.epoch) else None) busy;
    marks = s.history.marks;
  };
  shown = λ k told. (let c = s.cloud k told in record {
    told = c.epoch;
    frozen = subst (λ l. IsPublishedFreeze o l k.epoch) (sym (all-survives o after.core s.history)) (shown-freeze o after.core k s.history c);
    tree = c.tree;
  });
  grows = rises.grows;
  published = goes-on o before.core after.core before.core.published after.core.published b.history s.history rises.grows (published-freeze o before.core b.history) (published-freeze o after.core s.history) rises.published;
  seen = λ was k here there. (let earlier = rises.told k there in let same = told-same before.cloud was earlier.0 here earlier.1 in
      let low : was.epoch ≤ k.epoch = subst (λ (w : CloudState). w.epoch ≤ k.epoch) (sym same) earlier.2 in
      goes-on o before.core after.core was.epoch k.epoch b.history s.history rises.grows (shown-freeze o before.core was b.history (b.cloud was here)) (shown-freeze o after.core k s.history (s.cloud k there)) low);
}

pub promise-run : (o : Opening) (before after : FolderView) (run : List Happening) → Runs before run after → IsSound o before → KeepsPromise o before after
promise-run o before after run made s = promise o before after s (sound-run o before after run made s) (rises-run o before after run made s)

-- ---- a moment on the way

run-split : (before after : FolderView) (first more : List Happening) → Runs before (first ++ more) after → (mid : FolderView) × Runs before first mid × Runs mid more after
run-split before after [] more made = (before, refl, made)
run-split before after (one ∷ others) more (next, given, step, made) =
    let rest = run-split next after others more made in
    (rest.0, (next, given, step, rest.1), rest.2)

pub promise-passed : (o : Opening) (before after : FolderView) (first more : List Happening) → Runs before (first ++ more) after → IsSound o before
    → (mid : FolderView) × Runs before first mid × Runs mid more after × KeepsPromise o before mid × KeepsPromise o mid after
promise-passed o before after first more made s =
    let split = run-split before after first more made in
    (split.0, split.1, split.2, promise-run o before split.0 first split.1 s, promise-run o split.0 after more split.2 (sound-run o before split.0 first split.1 s))
