-- Each kind of step keeps the lock's rule, and tells its seat what it says.
use Rattle.std.proofs.Common.{◌≡◌, ◌≢◌, ℕ, ◌+◌, ◌%◌, ◌^◌, ◌<◌, ◌≤◌, true, false, ◌==◌, if◌then◌else◌, MatchBool, List, [], ◌∷◌, ◌++◌, length, set, slice_index, slice_set, Option, Some, None, refl, ap, sym, ◌∙◌, subst, subst₂, true≢false, length-append, arith}
use Rattle.std.proofs.lemmas.Bool.Decides.{nat_tests}
use mathlib.Core.Logic.{dite}
use native.Mathlib.Decide.{ℕ_discrete}
use mathlib.Core.Option.{some, none, some-injective}
use mathlib.Core.List.{IsPrefix}
use lib.ListN.{get_elem?}
use lib.Seq.{set-get_or}
use Rattle.atomic_table.specs.Table.{State, Step, step, Act, keeps, takes, gives, put_back, carried_after, Valid, stepped, Allows}
use Rattle.atomic_table.proofs.Lists.{set_here, set_again, one_turn}
use Rattle.vb_hist.specs.declared.entry.Entry.{Entry}
use Rattle.vb_hist.specs.Makers.{entries_of}
use Rattle.vb_turn.specs.declared.view.TurnStage.{TurnStage}
use Rattle.vb_turn.specs.declared.view.TurnStage.TheVariants.{Free, Waiting, Holding, Counted, Posted, Starting}
use Rattle.vb_turn.specs.declared.view.View.{View}
use Rattle.vb_turn.specs.declared.view.Start.{Start}
use Rattle.vb_turn.specs.Numbers.{once, weigh, Made, remade, Rises, GoesOn}
use Rattle.vb_turn.specs.Rule.{Place, starting, home, away, Now, slot_of, ticket_of, tickets, has_turn, is_counted, IsAt, AreDrawn, IsServed, IsPlaced, Fits, Rule, Keeps}
use Rattle.vb_turn.specs.Steps.{Sat, drew, holding, Gets, looked, opened, counted, counted_stage, posted, posted_stage, passed, Tells, glanced}
use Rattle.vb_turn.specs.Seating.{is_holding, made_first}
use Rattle.vb_turn.proofs.Totals.{total_two, total_one, at_lt, weigh_remade, made_remade, made_more, entries_more, prefix_refl, prefix_trans, published_later, others_none}
use Rattle.vb_turn.proofs.Views.{after_set, turn_ticket, aside_sees, few_out, turn_seat, aside, aside_fit, changed, drawn_stays, placed_stays, turns}

pub holding_is : (stage : TurnStage) → is_holding stage ≡ true → (t : ℕ) × (stage ≡ Holding t)
holding_is Free on = absurd (true≢false (sym on))
holding_is (Waiting t) on = absurd (true≢false (sym on))
holding_is (Holding t) on = (t, refl)
holding_is (Counted t) on = absurd (true≢false (sym on))
holding_is (Posted t) on = absurd (true≢false (sym on))
holding_is Starting on = absurd (true≢false (sym on))

-- the seat of a ticket that was just drawn, and of one drawn before
newest : (n i : ℕ) (seat_of : ℕ → ℕ) (t : ℕ) → t ≡ n → (if t == n then i else seat_of t) ≡ i
newest n i seat_of t same = let e : (t == n) ≡ true = grind (arith, nat_tests) in ap (λ b. if b then i else seat_of t) e

older : (n i : ℕ) (seat_of : ℕ → ℕ) (t : ℕ) → t ≢ n → (if t == n then i else seat_of t) ≡ seat_of t
older n i seat_of t other = let e : (t == n) ≡ false = grind (arith, nat_tests) in ap (λ b. if b then i else seat_of t) e

module _ {V : Type 0} (history : V → List Entry) (stands : V → V → Type 0) (epoch : V → List Entry → ℕ) (start : Start V) where
  abbrev St : Type 0
  St = State (Option V) (View V)

  abbrev E : List Entry → ℕ
  E = epoch start.value

  abbrev K : St → Type 0
  K = Keeps history stands epoch start

  abbrev F : Now V → ℕ → View V → Type 0
  F = Fits history stands epoch start

  abbrev R : St → Now V → Type 0
  R = Rule history stands epoch start

  -- what a step is made on is of no matter here
  abbrev no_step : Step (Option V)
  no_step = step 0 0 0 0 none

  -- the seat's numbers are some, so that it was given what the lock was
  given_is : (now : Now V) (j : ℕ) (v : View V) (given : V) → F now j v → 0 < length v.mine → v.given ≡ Some given → given ≡ start.value
  given_is now j v given f some_of is = cc (is, f.given some_of)

  -- draw
  abbrev after_draw : Now V → ℕ → Now V
  after_draw now j = record now { drawn = now.drawn + 1; seat_of = λ t. if t == now.drawn then j else now.seat_of t }

  abbrev waiting : Now V → View V → View V
  waiting now v = record v { stage = Waiting now.drawn }

  -- the free seat isn't the one that has its turn
  draw_served : (s : St) (now : Now V) (j : ℕ) (v : View V) → R s now → get_elem? s.views j ≡ some v → v.stage ≡ Free → IsServed now s.views → IsServed (after_draw now j) (set s.views j (waiting now v))
  draw_served s now j v r at free was =
      let g = r.fits (now.seat_of now.served) was.0 was.1 in
      let b = g.ticket now.served (turn_ticket now was.0.stage was.0.seen was.2 g.stage) in
      let it = older now.drawn j now.seat_of now.served (λ e. omega (arith, b.1)) in
      subst (λ i. (u : View V) × (get_elem? (set s.views j (waiting now v)) i ≡ some u) × (has_turn u.stage ≡ true)) (sym it)
      (after_set s.views j (now.seat_of now.served) v (waiting now v) (λ u. has_turn u.stage ≡ true) at was
      (λ here. let same : was.0 ≡ v = some-injective was.0 v (sym was.1 ∙ (ap (λ i. get_elem? s.views i) here ∙ at)) in
      absurd (true≢false (sym was.2 ∙ (ap (λ (u : View V). has_turn u.stage) same ∙ ap has_turn free)))))

  draw_placed : (s : St) (now : Now V) (j : ℕ) (v : View V) → R s now → get_elem? s.views j ≡ some v → v.stage ≡ Free
      → (place : Place V) → IsPlaced history stands epoch start now s.views place → IsPlaced history stands epoch start (after_draw now j) (set s.views j (waiting now v)) place
  draw_placed s now j v r at free starting was = draw_served s now j v r at free was
  draw_placed s now j v r at free (home x) was = was
  draw_placed s now j v r at free away was = draw_served s now j v r at free was

  draw_drawn : (s : St) (now : Now V) (j : ℕ) (v : View V) → R s now → get_elem? s.views j ≡ some v → v.stage ≡ Free → AreDrawn (after_draw now j) (set s.views j (waiting now v))
  draw_drawn s now j v r at free t from to = dite (ℕ_discrete t now.drawn)
      (λ same. (waiting now v, ap (λ i. get_elem? (set s.views j (waiting now v)) i) (newest now.drawn j now.seat_of t same) ∙ set_here s.views j (waiting now v) (at_lt s.views j v at), ap (λ n. Some n) (sym same)))
      (λ before. let was = r.drawn t from (omega (arith, before)) in
      subst (λ i. (u : View V) × (get_elem? (set s.views j (waiting now v)) i ≡ some u) × (ticket_of u.stage ≡ Some t)) (sym (older now.drawn j now.seat_of t before))
      (after_set s.views j (now.seat_of t) v (waiting now v) (λ u. ticket_of u.stage ≡ Some t) at was
      (λ here. let same : was.0 ≡ v = some-injective was.0 v (sym was.1 ∙ (ap (λ i. get_elem? s.views i) here ∙ at)) in
      absurd (cc (was.2, ap (λ (u : View V). ticket_of u.stage) same, ap ticket_of free)))))

  pub draws : (slots j : ℕ) (m : Sat V) → m.0.stage ≡ Free → 0 < length m.0.mine → Allows K slots j m 0 (λ n. (n + 1) % 2 ^ 64) (drew no_step m)
  draws slots j m free some_of s k one at small =
      let now = k.0 in let r = k.1 in let f = r.fits j m.0 at in
      let found : slice_index s.words 0 ≡ now.drawn % 2 ^ 64 = ap (λ l. slice_index l 0) r.words in
      let next : (slice_index s.words 0 + 1) % 2 ^ 64 ≡ (now.drawn + 1) % 2 ^ 64 = omega (arith, found) in
      let none_of : tickets m.0.stage ≡ 0 = ap tickets free in
      let out : now.served ≤ now.drawn = omega (arith, r.count) in (
        waiting now m.0,
        keeps,
        tt,
        (
          after_draw now j,
          changed history stands epoch start s now (after_draw now j) j m.0 (waiting now m.0) (slice_set s.words 0 ((slice_index s.words 0 + 1) % 2 ^ 64)) s.homes r at
              (ap (λ l. slice_set l 0 ((slice_index s.words 0 + 1) % 2 ^ 64)) r.words ∙ ap (λ n. n ∷ now.served % 2 ^ 64 ∷ length now.log % 2 ^ 64 ∷ E now.shown ∷ []) next)
              r.slot (λ h. refl) (omega (arith, none_of))
              (draw_drawn s now j m.0 r at free) (draw_placed s now j m.0 r at free now.place r.placed)
              (record {
                spent = λ none. let e = ap length none in absurd (omega arith);
                given = f.given;
                ticket = λ t is. let e : now.drawn ≡ t = cc is in (omega arith, omega arith, newest now.drawn j now.seat_of t (sym e));
                stage = subst (λ st. IsAt now st m.0.seen) free f.stage;
                made = f.made;
                told = λ l. let q = f.told l in record { most = q.most; source = q.source; least = λ _. q.least (ap is_counted free) };
              })
              (λ i u other there g. record {
                spent = g.spent;
                given = g.given;
                ticket = λ t is. let b = g.ticket t is in (b.0, omega (arith, b.1), older now.drawn j now.seat_of t (λ e. omega (arith, b.1)) ∙ b.2);
                stage = g.stage;
                made = g.made;
                told = g.told;
              })
              r.known r.rises r.risen r.front,
        ),
        (now.drawn, found, refl),
      )

  -- look
  abbrev taken : Now V → Now V
  taken now = record now { place = away; log = now.log; shown = now.shown }

  -- the ticket that is out is the served one where the two are the same modulo 2^64
  is_served : (s : St) (now : Now V) (t : ℕ) → R s now → now.served ≤ t → t < now.drawn → now.served % 2 ^ 64 ≡ t % 2 ^ 64 → now.served ≡ t
  is_served s now t r from to same = let few = few_out history stands epoch start s now r in one_turn now.served t (2 ^ 64) from (omega arith) same

  get_home : (s : St) (now : Now V) (j t : ℕ) (m : Sat V) (x : V) → R s now → get_elem? s.views j ≡ some m.0 → m.0.stage ≡ Waiting t → 0 < length m.0.mine → now.served ≡ t → now.place ≡ home x
      → let w = holding E t (history x) m.0 in
      R record { words = slice_set s.words 1 (slice_index s.words 1); homes = slice_set s.homes 0 none; views = set s.views j w } (taken now) × Gets (stands start.value) E history m.0 x
  get_home s now j t m x r at waits some_of same is =
      let f = r.fits j m.0 at in let tick = f.ticket t (ap ticket_of waits) in
      let held : stands start.value x × (history x ≡ now.log) × (now.shown ≡ now.log) = subst (λ q. IsPlaced history stands epoch start now s.views q) is r.placed in
      let served : now.seat_of now.served ≡ j = ap now.seat_of same ∙ tick.2 in
      let sees : IsPrefix m.0.seen now.shown = aside_sees now m.0.stage m.0.seen (ap has_turn waits) f.stage in
      let grows : IsPrefix m.0.seen (history x) = subst (λ l. IsPrefix m.0.seen l) (held.2 ∙ sym held.1) sees in
      let q = f.told some_of in (
        turns history stands epoch start s now j m.0 (holding E t (history x) m.0) now.log now.shown (slice_set s.words 1 (slice_index s.words 1)) (slice_set s.homes 0 none) r at served
            (ap (λ l. slice_set l 1 (slice_index l 1)) r.words) (ap (λ l. slice_set l 0 none) r.slot) (λ h. refl)
            (sym (ap ticket_of waits)) (sym (ap tickets waits)) refl
            record {
              spent = λ none_left. let e = ap length none_left in absurd (omega arith);
              given = f.given;
              ticket = λ n e. f.ticket n (ap ticket_of waits ∙ e);
              stage = (sym same, refl, held.1, held.2);
              made = f.made;
              told = λ l. record {
                most = let e : E (history x) ≡ E now.shown = ap E (held.1 ∙ sym held.2) in omega (arith, e);
                source = (history x, subst (λ l. IsPrefix (history x) l) held.1 (prefix_refl (history x)), refl);
                least = λ _. omega arith;
              };
            }
            (λ i u other there. (r.fits i u there).made) (prefix_refl now.log) (prefix_refl now.shown) (omega arith) r.known r.rises r.risen r.front,
        record {
          valid = held.0;
          grows = grows;
          made = subst (λ l. Made l m.0.mine) (sym held.1) f.made;
          told = published_later E now.log (history x) m.0.told (subst (λ l. IsPrefix now.log l) (sym held.1) (prefix_refl now.log)) q.source;
        },
      )

  -- a load by a seat whose view stays
  stays : (s : St) (now : Now V) (i j : ℕ) (v : View V) → R s now → get_elem? s.views j ≡ some v → R record { words = slice_set s.words i (slice_index s.words i); homes = s.homes; views = set s.views j v } now
  stays s now i j v r at = subst₂ (λ ws vs. R record { words = ws; homes = s.homes; views = vs } now) (sym (set-get_or s.words i 0)) (sym (set_again s.views j v at)) r

  abbrev LookSays : Sat V → ℕ → V → ℕ → Sat V → Type 0
  LookSays m found given t m' = MatchBool (found == t % 2 ^ 64)
      ((x : V) × Gets (stands given) (epoch given) history m.0 x × (m' ≡ (holding (epoch given) t (history x) m.0, (0, Some x) ∷ m.1)))
      (m' ≡ m)

  -- what is said of the ticket and of the value given is said of whatever they are called
  look_says : (now : Now V) (j t : ℕ) (m m' : Sat V) (found : ℕ) → F now j m.0 → 0 < length m.0.mine → m.0.stage ≡ Waiting t → LookSays m found start.value t m' → looked history stands epoch no_step m found m'
  look_says now j t m m' found f some_of waits says n given waits_n is =
      let e : t ≡ n = cc (waits, waits_n) in subst₂ (λ g k. LookSays m found g k m') (sym (given_is now j m.0 given f some_of is)) e says

  abbrev Looks : St → ℕ → Sat V → Type 0
  Looks s j m = (w : View V) × (a : Act (Option V)) × Valid s.homes m.1 a × K (stepped s 1 (slice_index s.words 1) j m.1 w a) × looked history stands epoch no_step m (slice_index s.words 1) (w, carried_after m.1 a)

  -- a seat that waits isn't the one that has its turn
  not_served : (s : St) (now : Now V) (j t : ℕ) (v : View V) → get_elem? s.views j ≡ some v → v.stage ≡ Waiting t → now.seat_of now.served ≡ j → IsServed now s.views → ⊥
  not_served s now j t v at waits served was =
      let same : was.0 ≡ v = some-injective was.0 v (sym was.1 ∙ (ap (λ i. get_elem? s.views i) served ∙ at)) in
      true≢false (sym was.2 ∙ (ap (λ (u : View V). has_turn u.stage) same ∙ ap has_turn waits))

  look_hit : (s : St) (now : Now V) (j t : ℕ) (m : Sat V) → R s now → get_elem? s.views j ≡ some m.0 → m.0.stage ≡ Waiting t → 0 < length m.0.mine → now.served ≡ t → (slice_index s.words 1 == t % 2 ^ 64) ≡ true
      → (place : Place V) → now.place ≡ place → Looks s j m
  look_hit s now j t m r at waits some_of same hit (home x) is =
      let got = get_home s now j t m x r at waits some_of same is in let m' : Sat V = (holding E t (history x) m.0, (0, Some x) ∷ m.1) in (
        holding E t (history x) m.0,
        takes 0 (Some x),
        ap (λ l. get_elem? l 0) (r.slot ∙ ap (λ q. slot_of q ∷ []) is),
        (taken now, got.0),
        look_says now j t m m' (slice_index s.words 1) (r.fits j m.0 at) some_of waits
            (subst (λ b. MatchBool b ((y : V) × Gets (stands start.value) E history m.0 y × (m' ≡ (holding E t (history y) m.0, (0, Some y) ∷ m.1))) (m' ≡ m)) (sym hit) (x, got.1, refl)),
      )
  look_hit s now j t m r at waits some_of same hit starting is =
      absurd (not_served s now j t m.0 at waits (ap now.seat_of same ∙ ((r.fits j m.0 at).ticket t (ap ticket_of waits)).2) (subst (λ q. IsPlaced history stands epoch start now s.views q) is r.placed))
  look_hit s now j t m r at waits some_of same hit away is =
      absurd (not_served s now j t m.0 at waits (ap now.seat_of same ∙ ((r.fits j m.0 at).ticket t (ap ticket_of waits)).2) (subst (λ q. IsPlaced history stands epoch start now s.views q) is r.placed))

  pub looks : (slots j t : ℕ) (m : Sat V) → m.0.stage ≡ Waiting t → 0 < length m.0.mine → Allows K slots j m 1 (λ n. n) (looked history stands epoch no_step m)
  looks slots j t m waits some_of s k one at small =
      let now = k.0 in let r = k.1 in let f = r.fits j m.0 at in let tick = f.ticket t (ap ticket_of waits) in
      let found : slice_index s.words 1 ≡ now.served % 2 ^ 64 = ap (λ l. slice_index l 1) r.words in
      dite (ℕ_discrete (slice_index s.words 1) (t % 2 ^ 64))
      (λ same. look_hit s now j t m r at waits some_of (is_served s now t r tick.0 tick.1 (sym found ∙ same)) (grind (arith, nat_tests)) now.place refl)
      (λ other. let miss : (slice_index s.words 1 == t % 2 ^ 64) ≡ false = grind (arith, nat_tests) in (
        m.0,
        keeps,
        tt,
        (now, stays s now 1 j m.0 r at),
        look_says now j t m m (slice_index s.words 1) f some_of waits
            (subst (λ b. MatchBool b ((y : V) × Gets (stands start.value) E history m.0 y × (m ≡ (holding E t (history y) m.0, (0, Some y) ∷ m.1))) (m ≡ m)) (sym miss) refl),
      ))

  -- open
  pub opens : (slots j : ℕ) (m : Sat V) → m.0.stage ≡ Starting → 0 < length m.0.mine → Allows K slots j m 1 (λ n. n) (opened no_step m)
  opens slots j m is some_of s k one at small =
      let now = k.0 in let r = k.1 in let f = r.fits j m.0 at in let q = f.told some_of in
      let here = subst (λ st. IsAt now st m.0.seen) is f.stage in
      let served = turn_seat history stands epoch start s now r j m.0 at (ap has_turn is) in
      let w : View V = record m.0 { stage = Posted 0 } in (
        w,
        takes 0 None,
        ap (λ l. get_elem? l 0) (r.slot ∙ ap (λ a. slot_of a ∷ []) here.1),
        (
          taken now,
          turns history stands epoch start s now j m.0 w now.log now.shown (slice_set s.words 1 (slice_index s.words 1)) (slice_set s.homes 0 none) r at served
              (ap (λ l. slice_set l 1 (slice_index l 1)) r.words) (ap (λ l. slice_set l 0 none) r.slot) (λ h. refl)
              (sym (ap ticket_of is)) (sym (ap tickets is)) refl
              record {
                spent = λ none_left. let e = ap length none_left in absurd (omega arith);
                given = f.given;
                ticket = λ n e. f.ticket n (ap ticket_of is ∙ e);
                stage = (sym here.0, refl, here.2, here.3);
                made = f.made;
                told = λ l. record { most = q.most; source = q.source; least = λ _. q.least (ap is_counted is) };
              }
              (λ i u other there. (r.fits i u there).made) (prefix_refl now.log) (prefix_refl now.shown) (omega arith) r.known r.rises r.risen r.front,
        ),
        refl,
      )

  -- count
  pub counts : (slots j t n : ℕ) (m : Sat V) (more : List Entry) → m.0.stage ≡ Holding t → 0 < length m.0.mine → n ≡ length more
      → ((number : ℕ) → weigh (once number) m.0.mine ≡ 0 → entries_of number more ≡ []) → Rises E (m.0.seen ++ more)
      → Allows K slots j m 2 (λ k. (k + n) % 2 ^ 64) (counted (m.0.seen ++ more) no_step m)
  counts slots j t n m more is some_of many own rises s k one at small =
      let now = k.0 in let r = k.1 in let f = r.fits j m.0 at in let q = f.told some_of in
      let here = subst (λ st. IsAt now st m.0.seen) is f.stage in
      let served = turn_seat history stands epoch start s now r j m.0 at (ap has_turn is) in
      let log : List Entry = m.0.seen ++ more in
      let w : View V = record m.0 { stage = counted_stage m.0.stage; seen = log; mine = remade log m.0.mine } in
      let grows : IsPrefix now.log log = (more, ap (λ l. l ++ more) (sym here.2)) in
      let found : slice_index s.words 2 ≡ length now.log % 2 ^ 64 = ap (λ l. slice_index l 2) r.words in
      let long : length log ≡ length now.log + length more = length-append m.0.seen more ∙ ap (λ l. length l + length more) here.2 in
      let next : (slice_index s.words 2 + n) % 2 ^ 64 ≡ length log % 2 ^ 64 = omega (arith, found, many, long) in (
        w,
        keeps,
        tt,
        (
          record now { place = away; log = log; shown = now.shown },
          turns history stands epoch start s now j m.0 w log now.shown (slice_set s.words 2 ((slice_index s.words 2 + n) % 2 ^ 64)) s.homes r at served
              (ap (λ l. slice_set l 2 ((slice_index s.words 2 + n) % 2 ^ 64)) r.words ∙ ap (λ x. now.drawn % 2 ^ 64 ∷ now.served % 2 ^ 64 ∷ x ∷ E now.shown ∷ []) next)
              (r.slot ∙ ap (λ a. slot_of a ∷ []) here.1) (λ h. weigh_remade h log m.0.mine)
              (ap (λ st. ticket_of (counted_stage st)) is ∙ sym (ap ticket_of is)) (ap (λ st. tickets (counted_stage st)) is ∙ sym (ap tickets is)) (ap (λ st. has_turn (counted_stage st)) is)
              record {
                spent = λ none_left. let e = ap length none_left in let l = weigh_remade (λ _. 1) log m.0.mine in absurd (none_of m.0.mine some_of (sym l ∙ ap (weigh (λ _. 1)) none_left));
                given = λ l. f.given some_of;
                ticket = λ x e. f.ticket x (ap ticket_of is ∙ (sym (ap (λ st. ticket_of (counted_stage st)) is) ∙ e));
                stage = subst (λ st. IsAt (record now { place = away; log = log; shown = now.shown }) st log) (sym (ap counted_stage is)) (here.0, refl, refl);
                made = made_remade log m.0.mine;
                told = λ l. record {
                  most = q.most;
                  source = published_later E now.log log m.0.told grows q.source;
                  least = λ off. absurd (true≢false (sym (ap (λ st. is_counted (counted_stage st)) is) ∙ off));
                };
              }
              (λ i u other there. subst (λ l. Made l u.mine) grows.1 (made_more now.log more u.mine
              (λ number some_there. own number (let two = total_two (λ (x : View V). weigh (once number) x.mine) s.views i j u m.0 other there at in let sum = r.numbers (once number) in let once_at_most = r.apart number in omega arith))
              (r.fits i u there).made))
              grows (prefix_refl now.shown) (omega arith)
              (λ number unknown. entries_more number m.0.seen more ∙ (ap (λ l. entries_of number l ++ entries_of number more) here.2 ∙ (ap (λ l. l ++ entries_of number more) (r.known number unknown)
              ∙ own number (let l = total_one (λ (x : View V). weigh (once number) x.mine) s.views j m.0 at in let sum = r.numbers (once number) in omega arith))))
              rises r.risen (prefix_trans now.shown now.log log r.front grows),
        ),
        refl,
      )
    where
      none_of : (mine : List (ℕ × List Entry)) → 0 < length mine → weigh (λ _. 1) mine ≡ 0 → ⊥
      none_of [] some_left none_left = omega arith
      none_of (x ∷ xs) some_left none_left = omega arith

  -- the same for a seat with one number, of which the entries are
  pub counts_own : (slots j number n : ℕ) (m : Sat V) (log : List Entry) → is_holding m.0.stage ≡ true → m.0.mine ≡ (number, made_first m.0.mine) ∷ []
      → GoesOn number m.0.seen log → length log ≡ length m.0.seen + n → Rises E log → Allows K slots j m 2 (λ k. (k + n) % 2 ^ 64) (counted log no_step m)
  counts_own slots j number n m log holds own on long rises =
      let h = holding_is m.0.stage holds in
      let some_of : 0 < length m.0.mine = let e = ap length own in omega arith in
      let many : n ≡ length on.0 = let e = length-append m.0.seen on.0 in let f = ap length on.1 in omega arith in
      subst (λ l. Allows K slots j m 2 (λ k. (k + n) % 2 ^ 64) (counted l no_step m)) on.1
      (counts slots j h.0 n m on.0 h.1 some_of many
      (λ other none_of. others_none number other on.0 on.2 (let w : weigh (once other) m.0.mine ≡ once other number + 0 = ap (weigh (once other)) own in omega arith))
      (subst (λ l. Rises E l) (sym on.1) rises))

  -- post
  pub posts : (slots j t e : ℕ) (m : Sat V) → m.0.stage ≡ Counted t → 0 < length m.0.mine → e ≡ E m.0.seen → Allows K slots j m 3 (λ _. e) (λ _. posted no_step m e)
  posts slots j t e m is some_of epoch_is s k one at small =
      let now = k.0 in let r = k.1 in let f = r.fits j m.0 at in
      let here = subst (λ st. IsAt now st m.0.seen) is f.stage in
      let served = turn_seat history stands epoch start s now r j m.0 at (ap has_turn is) in
      let w : View V = record m.0 { stage = posted_stage m.0.stage; told = e } in
      let known : e ≡ E now.log = epoch_is ∙ ap E here.2 in (
        w,
        keeps,
        tt,
        (
          record now { place = away; log = now.log; shown = now.log },
          turns history stands epoch start s now j m.0 w now.log now.log (slice_set s.words 3 e) s.homes r at served
              (ap (λ l. slice_set l 3 e) r.words ∙ ap (λ x. now.drawn % 2 ^ 64 ∷ now.served % 2 ^ 64 ∷ length now.log % 2 ^ 64 ∷ x ∷ []) known)
              (r.slot ∙ ap (λ a. slot_of a ∷ []) here.1) (λ h. refl)
              (ap (λ st. ticket_of (posted_stage st)) is ∙ sym (ap ticket_of is)) (ap (λ st. tickets (posted_stage st)) is ∙ sym (ap tickets is)) (ap (λ st. has_turn (posted_stage st)) is)
              record {
                spent = λ none_left. let l = ap length none_left in absurd (omega arith);
                given = f.given;
                ticket = λ x is_x. f.ticket x (ap ticket_of is ∙ (sym (ap (λ st. ticket_of (posted_stage st)) is) ∙ is_x));
                stage = subst (λ st. IsAt (record now { place = away; log = now.log; shown = now.log }) st m.0.seen) (sym (ap posted_stage is)) (here.0, refl, here.2, refl);
                made = f.made;
                told = λ l. record {
                  most = omega (arith, known);
                  source = (now.log, prefix_refl now.log, known);
                  least = λ off. omega (arith, epoch_is);
                };
              }
              (λ i u other there. (r.fits i u there).made)
              (prefix_refl now.log) r.front (r.rises now.shown r.front) r.known r.rises r.rises (prefix_refl now.log),
        ),
        refl,
      )

  -- pass
  abbrev after_pass : Now V → V → Now V
  after_pass now x = record now { served = now.served + 1; place = home x }

  pass_drawn : (s : St) (now : Now V) (j t : ℕ) (v w : View V) (x : V) → R s now → get_elem? s.views j ≡ some v → v.stage ≡ Posted t → t ≡ now.served → AreDrawn (after_pass now x) (set s.views j w)
  pass_drawn s now j t v w x r at is served n from to = let was = r.drawn n (omega arith) to in after_set s.views j (now.seat_of n) v w (λ u. ticket_of u.stage ≡ Some n) at was
      (λ here. let same : was.0 ≡ v = some-injective was.0 v (sym was.1 ∙ (ap (λ i. get_elem? s.views i) here ∙ at)) in
      let e : n ≡ t = cc (was.2, ap (λ (u : View V). ticket_of u.stage) same, ap ticket_of is) in absurd (omega (arith, from, served)))

  pub passes : (slots j t : ℕ) (m : Sat V) (x : V) → m.0.stage ≡ Posted t → 0 < length m.0.mine → m.1 ≡ (0, Some x) ∷ [] → stands start.value x → history x ≡ m.0.seen
      → Allows K slots j m 1 (λ n. (n + 1) % 2 ^ 64) (passed no_step m)
  passes slots j t m x is some_of carries valid all s k one at small =
      let now = k.0 in let r = k.1 in let f = r.fits j m.0 at in let q = f.told some_of in
      let here = subst (λ st. IsAt now st m.0.seen) is f.stage in
      let served = turn_seat history stands epoch start s now r j m.0 at (ap has_turn is) in
      let tick = f.ticket t (ap ticket_of is) in
      let w : View V = record m.0 { stage = Free } in
      let found : slice_index s.words 1 ≡ now.served % 2 ^ 64 = ap (λ l. slice_index l 1) r.words in
      let next : (slice_index s.words 1 + 1) % 2 ^ 64 ≡ (now.served + 1) % 2 ^ 64 = omega (arith, found) in
      let one_of : tickets m.0.stage ≡ 1 = ap tickets is in (
        w,
        gives,
        tt,
        (
          after_pass now x,
          changed history stands epoch start s now (after_pass now x) j m.0 w (slice_set s.words 1 ((slice_index s.words 1 + 1) % 2 ^ 64)) (put_back s.homes m.1) r at
              (ap (λ l. slice_set l 1 ((slice_index s.words 1 + 1) % 2 ^ 64)) r.words ∙ ap (λ n. now.drawn % 2 ^ 64 ∷ n ∷ length now.log % 2 ^ 64 ∷ E now.shown ∷ []) next)
              (ap (λ c. put_back s.homes c) carries ∙ ap (λ l. slice_set l 0 (some (Some x))) r.slot)
              (λ h. refl) (omega (arith, one_of))
              (pass_drawn s now j t m.0 w x r at is here.0) (valid, all ∙ here.2, here.3)
              record {
                spent = λ none_left. refl;
                given = f.given;
                ticket = λ n e. absurd (cc e);
                stage = subst (λ l. IsPrefix m.0.seen l) (here.2 ∙ sym here.3) (prefix_refl m.0.seen);
                made = f.made;
                told = λ l. record { most = q.most; source = q.source; least = λ _. q.least (ap is_counted is) };
              }
              (λ i u other there g. aside_fit history stands epoch start now (after_pass now x) i u (aside history stands epoch start s now r j i u served other there) g
              (λ n e. let b = g.ticket n e in (dite (ℕ_discrete n now.served) (λ same. absurd (other (sym b.2 ∙ (ap now.seat_of same ∙ served)))) (λ later. omega (arith, b.0)), b.1, b.2))
              g.made (prefix_refl now.shown) (omega arith) (prefix_refl now.log))
              r.known r.rises r.risen r.front,
        ),
        refl,
      )

  -- glance
  sees_shown : (now : Now V) (stage : TurnStage) (seen : List Entry) → is_counted stage ≡ false → IsAt now stage seen → IsPrefix seen now.shown
  sees_shown now Free seen off at = at
  sees_shown now (Waiting t) seen off at = at
  sees_shown now (Holding t) seen off at = subst (λ l. IsPrefix seen l) (at.2 ∙ sym at.3) (prefix_refl seen)
  sees_shown now (Counted t) seen off at = absurd (true≢false off)
  sees_shown now (Posted t) seen off at = subst (λ l. IsPrefix seen l) (at.2 ∙ sym at.3) (prefix_refl seen)
  sees_shown now Starting seen off at = subst (λ l. IsPrefix seen l) (at.2 ∙ sym at.3) (prefix_refl seen)

  pub glances : (slots j : ℕ) (m : Sat V) → is_counted m.0.stage ≡ false → 0 < length m.0.mine → Allows K slots j m 3 (λ n. n) (glanced epoch no_step m)
  glances slots j m off some_of s k one at small =
      let now = k.0 in let r = k.1 in let f = r.fits j m.0 at in let q = f.told some_of in
      let found : slice_index s.words 3 ≡ E now.shown = ap (λ l. slice_index l 3) r.words in
      let w : View V = record m.0 { told = slice_index s.words 3 } in
      let sees = sees_shown now m.0.stage m.0.seen off f.stage in (
        w,
        keeps,
        tt,
        (
          now,
          changed history stands epoch start s now now j m.0 w (slice_set s.words 3 (slice_index s.words 3)) s.homes r at
              (ap (λ l. slice_set l 3 (slice_index l 3)) r.words) r.slot (λ h. refl) (omega arith)
              (drawn_stays history stands epoch start s now j m.0 w r at refl) (placed_stays history stands epoch start s now j m.0 w r at (λ on. on) now.place r.placed)
              record {
                spent = f.spent;
                given = f.given;
                ticket = f.ticket;
                stage = f.stage;
                made = f.made;
                told = λ l. record { most = omega (arith, found); source = (now.shown, r.front, found); least = λ _. let up = r.risen m.0.seen sees in omega (arith, found) };
              }
              (λ i u other there g. g)
              r.known r.rises r.risen r.front,
        ),
        ((λ given is. subst (λ g. Tells (epoch g) m.0 (slice_index s.words 3)) (sym (given_is now j m.0 given f some_of is)) record { later = let l = q.most in omega (arith, found); history = now.shown; grows = sees; epoch_of = found }), refl),
      )
