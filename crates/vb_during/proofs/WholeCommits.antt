-- Where nothing that counts is hurt, what a crash recovers while the commit of a view is on its way.
use Rattle.std.proofs.Common.{◌≡◌, ℕ, ◌+◌, ◌<◌, List, [], ◌∷◌, ◌++◌, length, sym, subst, ◌∙◌, inl, inr, arith}
use Rattle.std.proofs.lemmas.List.{append-nil}
use Rattle.vb_commit.specs.Known.{AreWritten, JournalStands, StoreStands}
use Rattle.vb_commit.specs.Ways.{Waits, WayState}
use Rattle.vb_commit.proofs.WaysKept.{way}
use Rattle.vb_disk.specs.States.{DiskState, IsDiskState}
use Rattle.vb_head.specs.declared.head.Head.{Head}
use Rattle.vb_journal.specs.declared.commit_stage.Stage.{Stage}
use Rattle.vb_journal.specs.declared.commit_stage.Stage.TheVariants.{Journal, Opening, Homes, Closing, Rested}
use Rattle.vb_journal.specs.Images.{image_at, slot_of}
use Rattle.vb_journal.specs.Plans.{CanGoOn, closed_head}
use Rattle.vb_journal.specs.Progress.{IsAtRest, IsUnharmed, IsUnnamed, IsWholeAt}
use Rattle.vb_journal.proofs.Overlays.{named_or_not}
use Rattle.vb_plan.specs.declared.plan_page.PlanPage.{PlanPage}
use Rattle.vb_views.specs.Commits.{HasWholePlacesAt}
use Rattle.vb_views.proofs.ClearViews.{clear-commit, clear-rest}
use Rattle.vb_views.proofs.WholeViews.{IsWholeCommit, crash-recovers, rest-recovers}
use Rattle.vb_during.specs.During.{IsCommittingView, IsWholeView, RecoversWhole, ViewCommit, head_after, plan_for}
use Rattle.vb_during.proofs.NextHeld.{at-own, next-holds, next-rests, old-rests}

-- ---- homes that are whole

home_whole : (head : Head) (images : List (List ℕ)) (d : DiskState) → ((i : ℕ) → i < length images → IsWholeAt d (2 + slot_of (image_at images i))) → ((slot : ℕ) → slot < head.nodes → IsUnnamed images slot → IsWholeAt d (2 + slot)) → (slot : ℕ) → slot < head.nodes → IsWholeAt d (2 + slot)
home_whole head images d named others slot within = elim (named_or_not images slot) [
  | inl is ↦ subst (λ (s : ℕ). IsWholeAt d (2 + s)) is.is (named is.at is.within)
  | inr unnamed ↦ others slot within unnamed
]

-- before the first call of the journal it is unharmed as a store at rest
unharmed_before : (head : Head) (images : List (List ℕ)) (d : DiskState) → IsUnharmed head images (Journal 0) d → IsUnharmed head [] Rested d
unharmed_before head images d u = record {
  heads = u.heads;
  in_journal = λ i within. absurd (omega (arith, within));
  at_home = λ i within needed. absurd (omega (arith, within));
  others = λ slot within unnamed. home_whole head images d (λ i few. u.at_home i few few) u.others slot within;
}

-- and after the last one
unharmed_after : (head : Head) (epoch : ℕ) (images : List (List ℕ)) (d : DiskState) → IsUnharmed head images Rested d → IsUnharmed (closed_head head epoch) [] Rested d
unharmed_after head epoch images d u = record {
  heads = u.heads;
  in_journal = λ i within. absurd (omega (arith, within));
  at_home = λ i within needed. absurd (omega (arith, within));
  others = λ slot within unnamed. home_whole head images d (λ i few. u.at_home i few few) u.others slot within;
}

-- ---- crashes

-- a disk that can be, on which nothing that counts is hurt
record IsWholeDisk (v : ViewCommit) (stage : Stage) (d : DiskState) : Type 0 where
  pub disk : IsDiskState d
  pub unharmed : IsUnharmed v.head (plan_for v).images stage d
  pub places : HasWholePlacesAt stage v.old v.new d

whole_placed : (v : ViewCommit) (s : WayState) (d : DiskState) (k : IsCommittingView v s d) (stage : Stage) → IsWholeDisk v stage d → CanGoOn v.head v.epoch (plan_for v).images stage → JournalStands v.head v.epoch (plan_for v).images k.homes k.journal stage d → AreWritten v.source (plan_for v).pages stage d → RecoversWhole v stage d
whole_placed v s d k (Journal next) w can stands written =
    let c : IsWholeCommit v.head v.epoch (plan_for v).images k.homes k.journal (Journal next) d = record { can = can; disk = w.disk; known = stands; unharmed = w.unharmed } in
    record {
      crash = λ new crash. crash-recovers v.head v.epoch (plan_for v).images k.homes k.journal (Journal next) d new v.old v.tree v.new v.after c k.holds w.places crash;
      clear = clear-commit v.head v.epoch (plan_for v).images k.homes k.journal (Journal next) d v.old v.tree v.new v.after c k.holds w.places;
    }
whole_placed v s d k (Opening turn) w can stands written =
    let c : IsWholeCommit v.head v.epoch (plan_for v).images k.homes k.journal (Opening turn) d = record { can = can; disk = w.disk; known = stands; unharmed = w.unharmed } in
    let holds = next-holds v s d k k.holds.size written in
    record {
      crash = λ new crash. crash-recovers v.head v.epoch (plan_for v).images k.homes k.journal (Opening turn) d new v.old v.tree v.new v.after c (k.holds, holds) w.places crash;
      clear = clear-commit v.head v.epoch (plan_for v).images k.homes k.journal (Opening turn) d v.old v.tree v.new v.after c (k.holds, holds) w.places;
    }
whole_placed v s d k (Homes next) w can stands written =
    let c : IsWholeCommit v.head v.epoch (plan_for v).images k.homes k.journal (Homes next) d = record { can = can; disk = w.disk; known = stands; unharmed = w.unharmed } in
    let holds = next-holds v s d k k.holds.size written in
    record {
      crash = λ new crash. crash-recovers v.head v.epoch (plan_for v).images k.homes k.journal (Homes next) d new v.old v.tree v.new v.after c holds w.places crash;
      clear = clear-commit v.head v.epoch (plan_for v).images k.homes k.journal (Homes next) d v.old v.tree v.new v.after c holds w.places;
    }
whole_placed v s d k (Closing turn) w can stands written =
    let c : IsWholeCommit v.head v.epoch (plan_for v).images k.homes k.journal (Closing turn) d = record { can = can; disk = w.disk; known = stands; unharmed = w.unharmed } in
    let holds = next-holds v s d k k.holds.size written in
    record {
      crash = λ new crash. crash-recovers v.head v.epoch (plan_for v).images k.homes k.journal (Closing turn) d new v.old v.tree v.new v.after c holds w.places crash;
      clear = clear-commit v.head v.epoch (plan_for v).images k.homes k.journal (Closing turn) d v.old v.tree v.new v.after c holds w.places;
    }
whole_placed v s d k Rested w can stands written =
    let holds = next-holds v s d k k.holds.size written in
    let rests = next-rests v s d k stands written in
    let whole = unharmed_after v.head v.epoch (plan_for v).images d w.unharmed in
    record {
      crash = λ new crash. rest-recovers (head_after v) v.new d new v.after k.follows.view w.disk rests holds.has whole w.places crash;
      clear = clear-rest (head_after v) v.new d v.after k.follows.view w.disk rests holds.has whole w.places;
    }

whole_left : (v : ViewCommit) (s : WayState) (d : DiskState) (k : IsCommittingView v s d) → IsWholeDisk v (Journal 0) d → IsAtRest v.head k.homes k.journal d → RecoversWhole v (Journal 0) d
whole_left v s d k w stands =
    let rests = old-rests v s d k stands in
    let whole = unharmed_before v.head (plan_for v).images d w.unharmed in
    record {
      crash = λ new crash. rest-recovers v.head v.old d new v.tree k.holds.view w.disk rests k.holds.has whole w.places crash;
      clear = clear-rest v.head v.old d v.tree k.holds.view w.disk rests k.holds.has whole w.places;
    }

whole_pages : (v : ViewCommit) (s : WayState) (d : DiskState) (k : IsCommittingView v s d) (pages : List PlanPage) (stage : Stage) → IsWholeDisk v stage d → CanGoOn v.head v.epoch (plan_for v).images stage → Waits pages stage → k.known.placed ++ pages ≡ (plan_for v).pages → StoreStands k.homes k.journal pages (way v.head v.epoch (plan_for v).images pages stage) d → AreWritten v.source k.known.placed stage d → RecoversWhole v stage d
whole_pages v s d k [] stage w can waits all stands written =
    whole_placed v s d k stage w can stands (subst (λ (ps : List PlanPage). AreWritten v.source ps stage d) (sym (append-nil k.known.placed) ∙ all) written)
whole_pages v s d k (p ∷ pages) stage w can waits all stands written =
    subst (λ (x : Stage). RecoversWhole v x d) (sym waits) (whole_left v s d k (subst (λ (x : Stage). IsWholeDisk v x d) waits w) stands)

pub whole-recovers : (v : ViewCommit) (s : WayState) (d : DiskState) → IsDiskState d → IsCommittingView v s d → IsWholeView v s.stage d → RecoversWhole v s.stage d
whole-recovers v s d disk k w =
    whole_pages v s d k s.pages s.stage (record { disk = disk; unharmed = w.unharmed; places = w.places })
    (at-own (λ head epoch images. CanGoOn head epoch images s.stage) v s k.of k.of.way.can)
    k.of.way.waits k.known.of_plan
    (at-own (λ head epoch images. StoreStands k.homes k.journal s.pages (way head epoch images s.pages s.stage) d) v s k.of k.known.store)
    k.known.pages
