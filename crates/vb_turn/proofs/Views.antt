-- The views of seats under the rule, where the view of one seat changes.
use Rattle.std.proofs.Common.{◌≡◌, ◌≢◌, ℕ, ◌+◌, ◌%◌, ◌^◌, ◌<◌, ◌≤◌, ◌⊎◌, ⊎_elim, inl, inr, Bool, true, false, List, [], ◌∷◌, length, set, Option, Some, refl, ap, sym, ◌∙◌, subst₂, le_trans, true≢false, arith}
use mathlib.Core.Logic.{dite}
use native.Mathlib.Decide.{ℕ_discrete}
use mathlib.Core.Option.{some, none, some-injective, some-ne-none}
use mathlib.Core.Option as maybe
use mathlib.Core.List.{IsPrefix}
use lib.ListN.{get_elem?}
use Rattle.atomic_table.specs.Table.{State}
use Rattle.atomic_table.proofs.Lists.{at_set, set_here, set_else}
use Rattle.vb_hist.specs.declared.entry.Entry.{Entry}
use Rattle.vb_turn.specs.declared.view.TurnStage.{TurnStage}
use Rattle.vb_turn.specs.declared.view.TurnStage.TheVariants.{Free, Waiting, Holding, Counted, Posted, Starting}
use Rattle.vb_turn.specs.declared.view.View.{View}
use Rattle.vb_turn.specs.declared.view.Start.{Start}
use Rattle.vb_turn.specs.Numbers.{AllKnown, weigh, Made, Rises}
use Rattle.vb_turn.specs.Rule.{Place, starting, home, away, Now, slot_of, ticket_of, tickets, has_turn, IsAt, AreDrawn, IsPlaced, Fits, Rule}
use Rattle.vb_turn.proofs.Totals.{total_set, total_below, total_length, at_lt, prefix_trans, published_later}

-- what holds of the view of some seat still does where one view becomes w, of which it holds if it is that one
pub after_set : {W : Type 0} (views : List W) (j k : ℕ) (v w : W) (P : W → Type 0) → get_elem? views j ≡ some v → (u : W) × (get_elem? views k ≡ some u) × P u → (k ≡ j → P w)
    → (u : W) × (get_elem? (set views j w) k ≡ some u) × P u
after_set views j k v w P at was mine = dite (ℕ_discrete k j)
    (λ same. (w, ap (λ i. get_elem? (set views j w) i) same ∙ set_here views j w (at_lt views j v at), mine same))
    (λ other. (was.0, set_else views j k w other ∙ was.1, was.2))

-- a stage that has no turn
pub aside_sees : {V : Type 0} (now : Now V) (stage : TurnStage) (seen : List Entry) → has_turn stage ≡ false → IsAt now stage seen → IsPrefix seen now.shown
aside_sees now Free seen off at = at
aside_sees now (Waiting t) seen off at = at
aside_sees now (Holding t) seen off at = absurd (true≢false off)
aside_sees now (Counted t) seen off at = absurd (true≢false off)
aside_sees now (Posted t) seen off at = absurd (true≢false off)
aside_sees now Starting seen off at = absurd (true≢false off)

pub aside_is : {V : Type 0} (now : Now V) (stage : TurnStage) (seen : List Entry) → has_turn stage ≡ false → IsPrefix seen now.shown → IsAt now stage seen
aside_is now Free seen off at = at
aside_is now (Waiting t) seen off at = at
aside_is now (Holding t) seen off at = absurd (true≢false off)
aside_is now (Counted t) seen off at = absurd (true≢false off)
aside_is now (Posted t) seen off at = absurd (true≢false off)
aside_is now Starting seen off at = absurd (true≢false off)

-- a stage that has its turn has the served ticket
pub turn_ticket : {V : Type 0} (now : Now V) (stage : TurnStage) (seen : List Entry) → has_turn stage ≡ true → IsAt now stage seen → ticket_of stage ≡ Some now.served
turn_ticket now Free seen on at = absurd (true≢false (sym on))
turn_ticket now (Waiting t) seen on at = absurd (true≢false (sym on))
turn_ticket now (Holding t) seen on at = ap (λ n. Some n) at.0
turn_ticket now (Counted t) seen on at = ap (λ n. Some n) at.0
turn_ticket now (Posted t) seen on at = ap (λ n. Some n) at.0
turn_ticket now Starting seen on at = ap (λ n. Some n) (sym at.0)

-- where a value is home no seat has its turn
pub home_aside : {V : Type 0} (now : Now V) (x : V) (stage : TurnStage) (seen : List Entry) → now.place ≡ home x → IsAt now stage seen → has_turn stage ≡ false
home_aside now x Free seen is at = refl
home_aside now x (Waiting t) seen is at = refl
home_aside now x (Holding t) seen is at = absurd (cc (is, at.1))
home_aside now x (Counted t) seen is at = absurd (cc (is, at.1))
home_aside now x (Posted t) seen is at = absurd (cc (is, at.1))
home_aside now x Starting seen is at = absurd (cc (is, at.1))

pub tickets_le : (stage : TurnStage) → tickets stage ≤ 1
tickets_le Free = omega arith
tickets_le (Waiting t) = omega arith
tickets_le (Holding t) = omega arith
tickets_le (Counted t) = omega arith
tickets_le (Posted t) = omega arith
tickets_le Starting = omega arith

bool_cases : (b : Bool) → (b ≡ true) ⊎ (b ≡ false)
bool_cases true = inl refl
bool_cases false = inr refl

module _ {V : Type 0} (history : V → List Entry) (stands : V → V → Type 0) (epoch : V → List Entry → ℕ) (start : Start V) where
  abbrev F : Now V → ℕ → View V → Type 0
  F = Fits history stands epoch start

  abbrev R : State (Option V) (View V) → Now V → Type 0
  R = Rule history stands epoch start

  -- a view has no more tickets than numbers
  few_tickets : (now : Now V) (j : ℕ) (v : View V) → F now j v → tickets v.stage ≤ weigh (λ _. 1) v.mine
  few_tickets now j v f = of v.mine f.spent
    where
      of : (mine : List (ℕ × List Entry)) → (mine ≡ [] → v.stage ≡ Free) → tickets v.stage ≤ weigh (λ _. 1) mine
      of [] spent = let e = ap tickets (spent refl) in omega arith
      of (m ∷ ms) spent = let l = tickets_le v.stage in omega arith

  -- at most 65 tickets are out
  pub few_out : (s : State (Option V) (View V)) (now : Now V) → R s now → now.drawn ≤ now.served + 65
  few_out s now r =
      let fewer = total_below (λ (v : View V). tickets v.stage) (λ (v : View V). weigh (λ _. 1) v.mine) s.views (λ j v at. few_tickets now j v (r.fits j v at)) in
      let all = r.numbers (λ _. 1) in let many = total_length start.numbers.items in omega (arith, r.count, r.few)

  -- the seat that has its turn is the one of the served ticket
  pub turn_seat : (s : State (Option V) (View V)) (now : Now V) → R s now → (j : ℕ) (v : View V) → get_elem? s.views j ≡ some v → has_turn v.stage ≡ true → now.seat_of now.served ≡ j
  turn_seat s now r j v at on = let f = r.fits j v at in (f.ticket now.served (turn_ticket now v.stage v.seen on f.stage)).2

  -- each other seat has none
  pub aside : (s : State (Option V) (View V)) (now : Now V) → R s now → (j k : ℕ) (u : View V) → now.seat_of now.served ≡ j → k ≢ j → get_elem? s.views k ≡ some u → has_turn u.stage ≡ false
  aside s now r j k u served other at = ⊎_elim (λ on. absurd (other (sym (turn_seat s now r k u at on) ∙ served))) (λ off. off) (bool_cases (has_turn u.stage))

  -- a seat with no turn fits a later moment at which its ticket is still out and no less is shown
  pub aside_fit : (now later : Now V) (k : ℕ) (u : View V) → has_turn u.stage ≡ false → F now k u
      → ((t : ℕ) → ticket_of u.stage ≡ Some t → (later.served ≤ t) × (t < later.drawn) × (later.seat_of t ≡ k))
      → Made later.log u.mine → IsPrefix now.shown later.shown → epoch start.value now.shown ≤ epoch start.value later.shown → IsPrefix now.log later.log → F later k u
  aside_fit now later k u off f ticket made shown risen log = record {
    spent = f.spent;
    given = f.given;
    ticket = ticket;
    stage = aside_is later u.stage u.seen off (prefix_trans u.seen now.shown later.shown (aside_sees now u.stage u.seen off f.stage) shown);
    made = made;
    told = λ some_of. let q = f.told some_of in record {
      most = le_trans q.most risen;
      source = published_later (epoch start.value) now.log later.log u.told log q.source;
      least = q.least;
    };
  }

  -- the view of one seat changes, and with it the moment
  pub changed : (s : State (Option V) (View V)) (now later : Now V) (j : ℕ) (v w : View V) (words : List ℕ) (homes : List (maybe.Option (Option V)))
      → R s now → get_elem? s.views j ≡ some v
      → words ≡ later.drawn % 2 ^ 64 ∷ later.served % 2 ^ 64 ∷ length later.log % 2 ^ 64 ∷ epoch start.value later.shown ∷ [] → homes ≡ slot_of later.place ∷ []
      → ((h : ℕ → ℕ) → weigh h w.mine ≡ weigh h v.mine)
      → later.served + tickets w.stage + now.drawn ≡ later.drawn + tickets v.stage + now.served
      → AreDrawn later (set s.views j w) → IsPlaced history stands epoch start later (set s.views j w) later.place
      → F later j w → ((k : ℕ) (u : View V) → k ≢ j → get_elem? s.views k ≡ some u → F now k u → F later k u)
      → AllKnown start.numbers.items later.log → Rises (epoch start.value) later.log → Rises (epoch start.value) later.shown → IsPrefix later.shown later.log
      → R record { words = words; homes = homes; views = set s.views j w } later
  changed s now later j v w words homes r at words_are slot_is same balance drawn placed mine others known rises risen front = record {
    words = words_are;
    slot = slot_is;
    few = r.few;
    apart = r.apart;
    numbers = λ h. let e = total_set (λ (u : View V). weigh h u.mine) s.views j v w at in let f = same h in omega (arith, r.numbers h);
    count = let e = total_set (λ (u : View V). tickets u.stage) s.views j v w at in omega (arith, r.count, balance);
    drawn = drawn;
    placed = placed;
    fits = λ k u there. ⊎_elim (λ (t : (k ≡ j) × (w ≡ u)). subst₂ (λ i x. F later i x) (sym t.0) t.1 mine) (λ (t : (k ≢ j) × (get_elem? s.views k ≡ some u)). others k u t.0 t.1 (r.fits k u t.1)) (at_set s.views j k w u there);
    known = known;
    rises = rises;
    risen = risen;
    front = front;
  }

  -- the views alone change, of a seat that keeps its ticket
  pub drawn_stays : (s : State (Option V) (View V)) (now : Now V) (j : ℕ) (v w : View V) → R s now → get_elem? s.views j ≡ some v → ticket_of w.stage ≡ ticket_of v.stage → AreDrawn now (set s.views j w)
  drawn_stays s now j v w r at same t from to = let was = r.drawn t from to in after_set s.views j (now.seat_of t) v w (λ u. ticket_of u.stage ≡ Some t) at was
      (λ here. same ∙ (ap (λ u. ticket_of u.stage) (some-injective v was.0 (sym at ∙ (ap (λ i. get_elem? s.views i) (sym here) ∙ was.1))) ∙ was.2))

  pub placed_stays : (s : State (Option V) (View V)) (now : Now V) (j : ℕ) (v w : View V) → R s now → get_elem? s.views j ≡ some v → (has_turn v.stage ≡ true → has_turn w.stage ≡ true)
      → (place : Place V) → IsPlaced history stands epoch start now s.views place → IsPlaced history stands epoch start now (set s.views j w) place
  placed_stays s now j v w r at same (home x) was = was
  placed_stays s now j v w r at same starting was = after_set s.views j (now.seat_of now.served) v w (λ u. has_turn u.stage ≡ true) at was
      (λ here. same (ap (λ u. has_turn u.stage) (some-injective v was.0 (sym at ∙ (ap (λ i. get_elem? s.views i) (sym here) ∙ was.1))) ∙ was.2))
  placed_stays s now j v w r at same away was = after_set s.views j (now.seat_of now.served) v w (λ u. has_turn u.stage ≡ true) at was
      (λ here. same (ap (λ u. has_turn u.stage) (some-injective v was.0 (sym at ∙ (ap (λ i. get_elem? s.views i) (sym here) ∙ was.1))) ∙ was.2))

  -- the seat of the served ticket makes a step of its turn, with the slot in hand afterwards
  pub turns : (s : State (Option V) (View V)) (now : Now V) (j : ℕ) (v w : View V) (log shown : List Entry) (words : List ℕ) (homes : List (maybe.Option (Option V)))
      → R s now → get_elem? s.views j ≡ some v → now.seat_of now.served ≡ j
      → words ≡ now.drawn % 2 ^ 64 ∷ now.served % 2 ^ 64 ∷ length log % 2 ^ 64 ∷ epoch start.value shown ∷ [] → homes ≡ none ∷ []
      → ((h : ℕ → ℕ) → weigh h w.mine ≡ weigh h v.mine)
      → ticket_of w.stage ≡ ticket_of v.stage → tickets w.stage ≡ tickets v.stage → has_turn w.stage ≡ true
      → F (record now { place = away; log = log; shown = shown }) j w
      → ((k : ℕ) (u : View V) → k ≢ j → get_elem? s.views k ≡ some u → Made log u.mine)
      → IsPrefix now.log log → IsPrefix now.shown shown → epoch start.value now.shown ≤ epoch start.value shown
      → AllKnown start.numbers.items log → Rises (epoch start.value) log → Rises (epoch start.value) shown → IsPrefix shown log
      → R record { words = words; homes = homes; views = set s.views j w } (record now { place = away; log = log; shown = shown })
  turns s now j v w log shown words homes r at served words_are slot_is same ticket as_many on mine made more later up known rises risen front =
      changed s now (record now { place = away; log = log; shown = shown }) j v w words homes r at words_are slot_is same (omega (arith, as_many))
      (drawn_stays s now j v w r at ticket)
      (w, ap (λ i. get_elem? (set s.views j w) i) served ∙ set_here s.views j w (at_lt s.views j v at), on)
      mine
      (λ k u other there f. aside_fit now (record now { place = away; log = log; shown = shown }) k u (aside s now r j k u served other there) f f.ticket (made k u other there) later up more)
      known rises risen front
