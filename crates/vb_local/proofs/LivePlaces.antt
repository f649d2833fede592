-- Where the pages of a live view over the committed one lie, and what an operation leaves of it.
use Rattle.std.proofs.Common.{◌≡◌, ℕ, zero, suc, ◌≤◌, ◌<◌, List, [], ◌∷◌, slice_get, unwrap_or, Option, Some, None, All, refl, sym, ap, subst, ◌∙◌, arith}
use Rattle.std.specs.Option.{option_and_then}
use Rattle.std.specs.Prelude.{Result, Ok, Err, IfOk, OnErr}
use Rattle.std.proofs.lemmas.List.Elements.{All-head, All-tail}
use Rattle.vb_block.specs.declared.digest.Ref.{Ref}
use Rattle.vb_disk.specs.States.{DiskState}
use Rattle.vb_tree.specs.declared.operation.Op.{Op}
use Rattle.vb_tree.specs.declared.reply.Reply.{Reply}
use Rattle.vb_tree.specs.declared.tree.TreeEntry.{TreeEntry}
use Rattle.vb_tree.specs.Operations.{tree_after}
use Rattle.vb_index.specs.declared.held.Held.{Held}
use Rattle.vb_index.specs.Indexes.{KeepsLimits}
use Rattle.vb_index.specs.Nodes.{held_at, refs_of, IsTable}
use Rattle.vb_pages.specs.declared.page_error.PageError.{PageError}
use Rattle.vb_active.specs.Performs.{Performs, Plays}
use Rattle.vb_active.specs.Views.{ActiveState, Backs, LiesBelow, StaysOut, ref_at}
use Rattle.vb_store.specs.Views.{IsView, ViewState, places_in, places_of}
use Rattle.vb_views.specs.AtRest.{HoldsAllPages}
use Rattle.vb_views.proofs.MetadataGiven.{all_held}
use Rattle.vb_views.proofs.PlacesInOrder.{all_rest}
use Rattle.vb_local.specs.Events.{Calls, PlaysOn}
use Rattle.vb_local.specs.Phases.{AreTied, IsTiedAtRest, IsTiedBefore, IsTiedDuring, IsTiedIn}
use Rattle.vb_local.specs.Shown.{LocalTrees, ShowsIn, ShowsOn}
use Rattle.vb_local.specs.States.{LocalState, PhaseState, Rests, Waits, Writes}
use Rattle.vb_local.specs.Ties.{FrozenState, IsLiveOver, LiveFollows}
use Rattle.vb_local.proofs.PlansShown.{ref-holds}

-- ---- places

ref_place : (P : ℕ → Type 0) (refs : List Ref) (k : ℕ) (r : Ref) → All P (places_of refs) → slice_get refs k ≡ Some r → P r.place
ref_place P [] k r all at = absurd (cc at)
ref_place P (x ∷ refs) zero r all at = let same : x ≡ r = cc at in subst (λ (y : Ref). P y.place) same (All-head P x.place (places_of refs) all)
ref_place P (x ∷ refs) (suc k) r all at = ref_place P refs k r (All-tail P x.place (places_of refs) all) at

held_of : (o : Option Held) (k : ℕ) (r : Ref) → slice_get (unwrap_or (option_and_then refs_of o) []) k ≡ Some r → (held : Held) × (o ≡ Some held)
held_of None k r e = absurd (cc e)
held_of (Some held) k r e = (held, refl)

-- what is so of each place that nodes name is so of that of each reference
pub named-place : (P : ℕ → Type 0) (nodes : List (Option Held)) (slot k : ℕ) (r : Ref) → All P (places_in nodes) → ref_at nodes slot k ≡ Some r → P r.place
named-place P nodes slot k r all at =
    let held = held_of (held_at nodes slot) k r at in
    ref_place P (unwrap_or (refs_of held.0) []) k r
    (all_rest P (places_of held.0.node.maps) (places_of (unwrap_or (refs_of held.0) [])) (all_held P nodes slot held.0 held.1 all))
    (sym (ap (λ (o : Option Held). slice_get (unwrap_or (option_and_then refs_of o) []) k) held.1) ∙ at)

-- the pages of the live view that aren't in memory lie on the disk
pub live-below : (s : LocalState) (size : ℕ) → AreTied s → s.view.head.blocks ≤ size → LiesBelow size s.live
live-below s size tied within slot page r out =
    let below = named-place (λ place. place < s.view.head.blocks) s.view.index.nodes slot page r tied.view.can.below (tied.live.relies slot page r out) in
    omega (arith, below, within)

-- ---- operations

-- what stays out of memory leaves the ties of each phase
phase-stays : (v : ViewState) (old new : ActiveState) (phase : PhaseState) → StaysOut old new → IsTiedIn v old phase → IsTiedIn v new phase
phase-stays v old new (Rests frozen) out tied = tied
phase-stays v old new (Waits frozen epoch) out tied = record {
  none_begun = tied.none_begun;
  frozen_is = tied.frozen_is;
  follows = λ slot page r is. tied.follows slot page r (out slot page r is);
  can = tied.can;
}
phase-stays v old new (Writes frozen way) out tied = record {
  next = tied.next;
  begun = tied.begun;
  frozen_is = tied.frozen_is;
  follows = λ slot page r is. tied.follows slot page r (out slot page r is);
  is = tied.is;
  head = tied.head;
  going = tied.going;
}

pub performed-tied : (s : LocalState) (new : ActiveState) (told : Option DiskState) (op : Op) (result : Result Reply PageError) → AreTied s → Performs told s.live new op result → (KeepsLimits s.live.index → KeepsLimits new.index) → AreTied (record s { live = new })
performed-tied s new told op result tied performs within = record {
  view = tied.view;
  live = record {
    limits = performs.limits ∙ tied.live.limits;
    relies = λ slot page r is. tied.live.relies slot page r (performs.out slot page r is);
  };
  limits = within tied.limits;
  phase = phase-stays s.view s.live new s.phase performs.out tied.phase;
  stands = tied.stands;
}

-- ---- what an operation gives

-- the live view is backed by each disk that shows the folder
live-backed : (s : LocalState) (t : LocalTrees) (d : DiskState) → AreTied s → ShowsOn d s t → Backs d s.live
live-backed s t d tied shows slot page r out = ref-holds s.view.index.nodes d slot page r (is-table s.view s.phase t d shows.phase) (holds-all s.view s.phase t d shows.phase) (tied.live.relies slot page r out) where
  holds-all : (v : ViewState) (phase : PhaseState) (t : LocalTrees) (d : DiskState) → ShowsIn v phase t d → HoldsAllPages v.index.nodes d
  holds-all v (Rests frozen) t d shows = shows.rests.rests.holds
  holds-all v (Waits frozen epoch) t d shows = shows.rests.rests.holds
  holds-all v (Writes frozen way) t d shows = shows.is.holds.holds

  is-table : (v : ViewState) (phase : PhaseState) (t : LocalTrees) (d : DiskState) → ShowsIn v phase t d → IsTable v.index.nodes
  is-table v (Rests frozen) t d shows = shows.rests.view.table
  is-table v (Waits frozen epoch) t d shows = shows.rests.view.table
  is-table v (Writes frozen way) t d shows = shows.is.holds.view.table

-- the live tree is of no matter to the rest
phase-other : (v : ViewState) (phase : PhaseState) (t : LocalTrees) (tree : List TreeEntry) (d : DiskState) → ShowsIn v phase t d → ShowsIn v phase (record t { active = tree }) d
phase-other v (Rests frozen) t tree d shows = record { rests = shows.rests; stands = shows.stands; same = shows.same }
phase-other v (Waits frozen epoch) t tree d shows = record { rests = shows.rests; tree = shows.tree; nodes = shows.nodes; order = shows.order; over = shows.over; has = shows.has }
phase-other v (Writes frozen way) t tree d shows = record { tree = shows.tree; next = shows.next; begun = shows.begun; free = shows.free; source = shows.source; is = shows.is; kept = shows.kept }

plays-on : (s : LocalState) (new : ActiveState) (d : DiskState) (op : Op) (t : LocalTrees) (result : Result Reply PageError) → ShowsOn d s t → IfOk result (Plays d s.live new op t.active) → IfOk result (PlaysOn d s (record s { live = new }) op t)
plays-on s new d op t (Ok reply) shows plays = record { said = plays.said; shows = record { live = plays.leaves; phase = phase-other s.view s.phase t (tree_after s.live.index.limits t.active op) d shows.phase } }
plays-on s new d op t (Err error) shows plays = tt

kept-on : (s : LocalState) (new : ActiveState) (result : Result Reply PageError) → OnErr result (new ≡ s.live) → OnErr result (record s { live = new } ≡ s)
kept-on s new (Ok reply) kept = tt
kept-on s new (Err error) kept = ap (λ (a : ActiveState). record s { live = a }) kept

pub performed-calls : (s : LocalState) (new : ActiveState) (told : Option DiskState) (op : Op) (result : Result Reply PageError) → AreTied s → Performs told s.live new op result → Calls s (record s { live = new }) op told result
performed-calls s new told op result tied performs = record {
  performs = performs;
  others = refl;
  plays = λ d t is shows. plays-on s new d op t result shows (performs.played d t.active is (live-backed s t d tied shows) shows.live);
  kept = kept-on s new result performs.kept;
}
