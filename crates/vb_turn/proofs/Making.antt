-- A lock is made, its seats are split off and joined again, and it is closed.
use Rattle.std.proofs.Common.{◌≡◌, ◌≢◌, ℕ, zero, suc, ◌+◌, ◌<◌, ◌≤◌, ◌⊎◌, ⊎_elim, inl, inr, Bool, true, false, if◌then◌else◌, nat_le, max, List, [], ◌∷◌, ◌++◌, length, set, Option, Some, None, refl, ap, sym, ◌∙◌, subst, true≢false, arith}
use native.Mathlib.Decide.{dec_le}
use mathlib.Core.Option.{some, some-injective, some-ne-none}
use mathlib.Core.List.{IsPrefix}
use lib.ListN.{get_elem?}
use Rattle.atomic_table.specs.Table.{State, Splits, Joins, Final, Seen, opening}
use Rattle.atomic_table.proofs.Lists.{at_set, set_else, at_snoc, at_longer}
use Rattle.vb_hist.specs.declared.entry.Entry.{Entry}
use Rattle.vb_turn.specs.declared.view.TurnStage.TheVariants.{Free}
use Rattle.vb_turn.specs.declared.view.View.{View}
use Rattle.vb_turn.specs.declared.view.Start.{Start}
use Rattle.vb_turn.specs.Numbers.{AreApart, AllKnown, Makers, weigh, Made, WasPublished, Rises, unused}
use Rattle.vb_turn.specs.Rule.{Place, starting, home, away, Now, slot_of, ticket_of, tickets, has_turn, is_counted, IsAt, IsServed, IsPlaced, IsTold, Fits, Rule, Keeps, first_view}
use Rattle.vb_turn.specs.Steps.{longer, first_of, after_first, handed_out, left_over, joined, spent_view}
use Rattle.vb_turn.proofs.Totals.{total_append, total_set, total_two, total_length, weigh_unused, made_unused, made_append, prefix_refl}
use Rattle.vb_turn.proofs.Views.{after_set}

-- what holds of the view of some seat still does where a seat more has come
after_push : {W : Type 0} (views : List W) (k : ℕ) (w : W) (P : W → Type 0) → (u : W) × (get_elem? views k ≡ some u) × P u → (u : W) × (get_elem? (views ++ w ∷ []) k ≡ some u) × P u
after_push views k w P was = (was.0, at_longer views (w ∷ []) k was.0 was.1, was.2)

weigh_split : (h : ℕ → ℕ) (makers : Makers) → weigh h (after_first makers) + weigh h (first_of makers) ≡ weigh h makers
weigh_split h [] = refl
weigh_split h (m ∷ ms) = omega arith

made_split : (log : List Entry) (makers : Makers) → Made log makers → Made log (after_first makers) × Made log (first_of makers)
made_split log [] made = (tt, tt)
made_split log (m ∷ ms) made = (made.1, (made.0, tt))

some_before : (makers : Makers) → (0 < length (after_first makers) → 0 < length makers) × (0 < length (first_of makers) → 0 < length makers)
some_before [] = ((λ l. l), (λ l. l))
some_before (m ∷ ms) = ((λ l. omega arith), (λ l. omega arith))

weighs_none : (makers : Makers) → weigh (λ _. 1) makers ≡ 0 → makers ≡ []
weighs_none [] none_of = refl
weighs_none (m ∷ ms) none_of = absurd (omega arith)

prefix_none : {A : Type 0} (xs : List A) → IsPrefix xs [] → xs ≡ []
prefix_none [] front = refl
prefix_none (x ∷ xs) front = absurd (cc front.1)

longer_cases : (P : List Entry → Type 0) (xs ys : List Entry) → P xs → P ys → P (longer xs ys)
longer_cases P xs ys here there = by_test (nat_le (length xs) (length ys))
  where
    by_test : (b : Bool) → P (if b then ys else xs)
    by_test true = there
    by_test false = here

module _ {V : Type 0} (history : V → List Entry) (stands : V → V → Type 0) (epoch : V → List Entry → ℕ) (start : Start V) where
  abbrev St : Type 0
  St = State (Option V) (View V)

  abbrev E : List Entry → ℕ
  E = epoch start.value

  abbrev K : St → Type 0
  K = Keeps history stands epoch start

  abbrev F : Now V → ℕ → View V → Type 0
  F = Fits history stands epoch start

  abbrev R : St → Now V → Type 0
  R = Rule history stands epoch start

  -- a part of a free view fits wherever the view did
  part_fits : (now : Now V) (j k : ℕ) (v : View V) (mine : Makers) → v.stage ≡ Free → F now j v → (0 < length mine → 0 < length v.mine) → Made now.log mine → F now k (record v { mine = mine })
  part_fits now j k v mine free f some_of made = record {
    spent = λ none_left. free;
    given = λ l. f.given (some_of l);
    ticket = λ t is. absurd (cc (is, ap ticket_of free));
    stage = f.stage;
    made = made;
    told = λ l. let q = f.told (some_of l) in record { most = q.most; source = q.source; least = q.least };
  }

  -- split
  pub splits : (j : ℕ) (v : View V) → v.stage ≡ Free → Splits K j v (left_over v) (handed_out v)
  splits j v free s k at =
      let now = k.0 in let r = k.1 in let f = r.fits j v at in let cut = made_split now.log v.mine f.made in
      let views : List (View V) = set s.views j (left_over v) ++ handed_out v ∷ [] in (
        now,
        record {
          words = r.words;
          slot = r.slot;
          few = r.few;
          apart = r.apart;
          numbers = λ h. let e = total_append (λ (u : View V). weigh h u.mine) (set s.views j (left_over v)) (handed_out v ∷ []) in
              let one = total_set (λ (u : View V). weigh h u.mine) s.views j v (left_over v) at in let two = weigh_split h v.mine in omega (arith, r.numbers h);
          count = let e = total_append (λ (u : View V). tickets u.stage) (set s.views j (left_over v)) (handed_out v ∷ []) in
              let one = total_set (λ (u : View V). tickets u.stage) s.views j v (left_over v) at in let none_of : tickets v.stage ≡ 0 = ap tickets free in omega (arith, r.count);
          drawn = λ t from to. let was = r.drawn t from to in after_push (set s.views j (left_over v)) (now.seat_of t) (handed_out v) (λ u. ticket_of u.stage ≡ Some t)
              (after_set s.views j (now.seat_of t) v (left_over v) (λ u. ticket_of u.stage ≡ Some t) at was (λ here. ap (λ (u : View V). ticket_of u.stage) (same_view s j (now.seat_of t) v was.0 at was.1 here) ∙ was.2));
          placed = placed s now j v at now.place r.placed;
          fits = λ i u there. ⊎_elim
              (λ before. ⊎_elim (λ (t : (i ≡ j) × (left_over v ≡ u)). subst (λ x. F now i x) t.1 (part_fits now j i v (after_first v.mine) free f (some_before v.mine).0 cut.0))
              (λ (t : (i ≢ j) × (get_elem? s.views i ≡ some u)). r.fits i u t.1) (at_set s.views j i (left_over v) u before))
              (λ last. subst (λ x. F now i x) last (part_fits now j i v (first_of v.mine) free f (some_before v.mine).1 cut.1))
              (at_snoc (set s.views j (left_over v)) (handed_out v) u i there);
          known = r.known;
          rises = r.rises;
          risen = r.risen;
          front = r.front;
        },
      )
    where
      same_view : (s : St) (j i : ℕ) (v u : View V) → get_elem? s.views j ≡ some v → get_elem? s.views i ≡ some u → i ≡ j → v ≡ u
      same_view s j i v u at there here = some-injective v u (sym at ∙ (ap (λ n. get_elem? s.views n) (sym here) ∙ there))

      served : (s : St) (now : Now V) (j : ℕ) (v : View V) → get_elem? s.views j ≡ some v → IsServed now s.views → IsServed now (set s.views j (left_over v) ++ handed_out v ∷ [])
      served s now j v at was = after_push (set s.views j (left_over v)) (now.seat_of now.served) (handed_out v) (λ u. has_turn u.stage ≡ true)
          (after_set s.views j (now.seat_of now.served) v (left_over v) (λ u. has_turn u.stage ≡ true) at was (λ here. ap (λ (u : View V). has_turn u.stage) (same_view s j (now.seat_of now.served) v was.0 at was.1 here) ∙ was.2))

      placed : (s : St) (now : Now V) (j : ℕ) (v : View V) → get_elem? s.views j ≡ some v → (place : Place V) → IsPlaced history stands epoch start now s.views place
          → IsPlaced history stands epoch start now (set s.views j (left_over v) ++ handed_out v ∷ []) place
      placed s now j v at starting was = served s now j v at was
      placed s now j v at (home x) was = was
      placed s now j v at away was = served s now j v at was

  -- join
  join_told : (now : Now V) (v w : View V) → IsTold history stands epoch start now.log now.shown v → IsTold history stands epoch start now.log now.shown w → v.stage ≡ Free → w.stage ≡ Free → IsTold history stands epoch start now.log now.shown (joined v w)
  join_told now v w p q free out = let one = p.least (ap is_counted free) in let two = q.least (ap is_counted out) in record {
    most = omega (arith, p.most, q.most);
    source = ⊎_elim (λ e. subst (λ n. WasPublished E now.log n) (sym e) p.source) (λ e. subst (λ n. WasPublished E now.log n) (sym e) q.source) (max_cases v.told w.told);
    least = λ off. longer_cases (λ l. E l ≤ max v.told w.told) v.seen w.seen (omega arith) (omega arith);
  }
    where
      max_cases : (a b : ℕ) → (max a b ≡ a) ⊎ (max a b ≡ b)
      max_cases a b = ⊎_elim (λ l. inr (omega arith)) (λ l. inl (omega arith)) (of (dec_le a b))
        where
          of : Dec (a ≤ b) → (a ≤ b) ⊎ (b ≤ a)
          of (yes l) = inl l
          of (no l) = inr (omega arith)

  -- a view that two others had no turn in stays where the turn is
  still : (s : St) (j o i : ℕ) (v w : View V) (P : View V → Type 0) → get_elem? s.views j ≡ some v → o ≢ j → get_elem? s.views o ≡ some w → (P v → ⊥) → (P w → ⊥)
      → (u : View V) × (get_elem? s.views i ≡ some u) × P u → (u : View V) × (get_elem? (set (set s.views j (joined v w)) o spent_view) i ≡ some u) × P u
  still s j o i v w P at other there not_v not_w was =
      after_set (set s.views j (joined v w)) o i w spent_view P (set_else s.views j o (joined v w) other ∙ there)
      (after_set s.views j i v (joined v w) P at was (λ here. absurd (not_v (subst P (some-injective was.0 v (sym was.1 ∙ (ap (λ n. get_elem? s.views n) here ∙ at))) was.2))))
      (λ here. absurd (not_w (subst P (some-injective was.0 w (sym was.1 ∙ (ap (λ n. get_elem? s.views n) here ∙ there))) was.2)))

  join_placed : (s : St) (now : Now V) (j o : ℕ) (v w : View V) → get_elem? s.views j ≡ some v → o ≢ j → get_elem? s.views o ≡ some w → v.stage ≡ Free → w.stage ≡ Free
      → (place : Place V) → IsPlaced history stands epoch start now s.views place → IsPlaced history stands epoch start now (set (set s.views j (joined v w)) o spent_view) place
  join_placed s now j o v w at other there free out (home x) was = was
  join_placed s now j o v w at other there free out starting was = still s j o (now.seat_of now.served) v w (λ u. has_turn u.stage ≡ true) at other there
      (λ on. true≢false (sym on ∙ ap has_turn free)) (λ on. true≢false (sym on ∙ ap has_turn out)) was
  join_placed s now j o v w at other there free out away was = still s j o (now.seat_of now.served) v w (λ u. has_turn u.stage ≡ true) at other there
      (λ on. true≢false (sym on ∙ ap has_turn free)) (λ on. true≢false (sym on ∙ ap has_turn out)) was

  spent_fits : (now : Now V) (i : ℕ) → F now i spent_view
  spent_fits now i = record {
    spent = λ e. refl;
    given = λ l. absurd (omega arith);
    ticket = λ t is. absurd (cc is);
    stage = (now.shown, refl);
    made = tt;
    told = λ l. absurd (omega arith);
  }

  join_fits : (now : Now V) (j o i : ℕ) (v w : View V) → F now j v → F now o w → v.stage ≡ Free → w.stage ≡ Free → 0 < length v.mine → 0 < length w.mine → F now i (joined v w)
  join_fits now j o i v w f g free out some_of some_more = record {
    spent = λ e. free;
    given = λ l. f.given some_of;
    ticket = λ t is. absurd (cc (is, ap ticket_of free));
    stage = subst (λ st. IsAt now st (longer v.seen w.seen)) (sym free) (longer_cases (λ l. IsPrefix l now.shown) v.seen w.seen (subst (λ st. IsAt now st v.seen) free f.stage) (subst (λ st. IsAt now st w.seen) out g.stage));
    made = made_append now.log w.mine v.mine g.made f.made;
    told = λ l. join_told now v w (f.told some_of) (g.told some_more) free out;
  }

  pub joins : (j o : ℕ) (v w : View V) → v.stage ≡ Free → w.stage ≡ Free → 0 < length v.mine → 0 < length w.mine → Joins K j v o w (joined v w) spent_view
  joins j o v w free out some_of some_more s k at other found =
      let now = k.0 in let r = k.1 in let there : get_elem? s.views o ≡ some w = sym (set_else s.views j o (joined v w) other) ∙ found in (
        now,
        record {
          words = r.words;
          slot = r.slot;
          few = r.few;
          apart = r.apart;
          numbers = λ h. let one = total_set (λ (u : View V). weigh h u.mine) s.views j v (joined v w) at in
              let two = total_set (λ (u : View V). weigh h u.mine) (set s.views j (joined v w)) o w spent_view found in
              let both = total_append (λ (m : ℕ × List Entry). h m.0) w.mine v.mine in omega (arith, r.numbers h);
          count = let one = total_set (λ (u : View V). tickets u.stage) s.views j v (joined v w) at in
              let two = total_set (λ (u : View V). tickets u.stage) (set s.views j (joined v w)) o w spent_view found in
              let none_of : tickets w.stage ≡ 0 = ap tickets out in omega (arith, r.count);
          drawn = λ t from to. still s j o (now.seat_of t) v w (λ u. ticket_of u.stage ≡ Some t) at other there (λ is. cc (is, ap ticket_of free)) (λ is. cc (is, ap ticket_of out)) (r.drawn t from to);
          placed = join_placed s now j o v w at other there free out now.place r.placed;
          fits = λ i u is. ⊎_elim (λ (t : (i ≡ o) × (spent_view ≡ u)). subst (λ x. F now i x) t.1 (spent_fits now i))
              (λ (t : (i ≢ o) × (get_elem? (set s.views j (joined v w)) i ≡ some u)). ⊎_elim
              (λ (z : (i ≡ j) × (joined v w ≡ u)). subst (λ x. F now i x) z.1 (join_fits now j o i v w (r.fits j v at) (r.fits o w there) free out some_of some_more))
              (λ (z : (i ≢ j) × (get_elem? s.views i ≡ some u)). r.fits i u z.1) (at_set s.views j i (joined v w) u t.1))
              (at_set (set s.views j (joined v w)) o i spent_view u is);
          known = r.known;
          rises = r.rises;
          risen = r.risen;
          front = r.front;
        },
      )

  -- the making
  abbrev first_now : Now V
  first_now = record { drawn = 1; served = 0; seat_of = λ _. 0; place = starting; log = []; shown = [] }

  rises_none : Rises E []
  rises_none front is = let e : E front ≡ E [] = ap E (prefix_none front is) in omega arith

  first_fits : 0 < length start.numbers.items → (j : ℕ) (v : View V) → get_elem? (first_view epoch start ∷ []) j ≡ some v → F first_now j v
  first_fits some_of (suc j) v at = absurd (some-ne-none v (sym at))
  first_fits some_of zero v at = subst (λ x. F first_now 0 x) (some-injective (first_view epoch start) v at) record {
    spent = λ e. absurd (none start.numbers.items some_of e);
    given = λ l. refl;
    ticket = λ t is. let e : 0 ≡ t = cc is in (omega arith, omega arith, refl);
    stage = (refl, refl, refl, refl);
    made = made_unused start.numbers.items;
    told = λ l. record { most = omega arith; source = ([], prefix_refl [], refl); least = λ off. omega arith };
  }
    where
      none : (numbers : List ℕ) → 0 < length numbers → unused numbers ≡ [] → ⊥
      none [] l e = omega arith
      none (n ∷ ns) l e = cc e

  pub starts : 0 < length start.numbers.items → length start.numbers.items ≤ 65 → AreApart start.numbers.items → (e : ℕ) → e ≡ E [] → K (opening (1 ∷ 0 ∷ 0 ∷ e ∷ []) (None ∷ []) (first_view epoch start))
  starts some_of few apart e is = (
    first_now,
    record {
      words = ap (λ n. 1 ∷ 0 ∷ 0 ∷ n ∷ []) is;
      slot = refl;
      few = few;
      apart = apart;
      numbers = λ h. let w = weigh_unused h start.numbers.items in omega arith;
      count = omega arith;
      drawn = λ t from to. let z : 0 ≡ t = omega arith in (first_view epoch start, refl, ap (λ n. Some n) z);
      placed = (first_view epoch start, refl, refl);
      fits = first_fits some_of;
      known = λ n unknown. refl;
      rises = rises_none;
      risen = rises_none;
      front = prefix_refl [];
    },
  )

  -- the end: the free view that has all numbers finds the value home
  pub closes : (s : St) (now : Now V) (j : ℕ) (v : View V) → R s now → get_elem? s.views j ≡ some v → v.stage ≡ Free → weigh (λ _. 1) v.mine ≡ length start.numbers.items
      → (x : V) × (s.homes ≡ some (Some x) ∷ []) × stands start.value x × Made (history x) v.mine × AllKnown start.numbers.items (history x)
  closes s now j v r at free all = of now.place refl r.placed
    where
      none_served : IsServed now s.views → ⊥
      none_served was =
          let other : now.seat_of now.served ≢ j = λ here. true≢false (sym was.2 ∙ (ap (λ (u : View V). has_turn u.stage) (some-injective was.0 v (sym was.1 ∙ (ap (λ n. get_elem? s.views n) here ∙ at))) ∙ ap has_turn free)) in
          let two = total_two (λ (u : View V). weigh (λ _. 1) u.mine) s.views (now.seat_of now.served) j was.0 v other was.1 at in
          let sum = r.numbers (λ _. 1) in let many = total_length start.numbers.items in
          let none_left = weighs_none was.0.mine (omega arith) in
          true≢false (sym was.2 ∙ ap has_turn ((r.fits (now.seat_of now.served) was.0 was.1).spent none_left))

      of : (place : Place V) → now.place ≡ place → IsPlaced history stands epoch start now s.views place
          → (x : V) × (s.homes ≡ some (Some x) ∷ []) × stands start.value x × Made (history x) v.mine × AllKnown start.numbers.items (history x)
      of starting is was = absurd (none_served was)
      of away is was = absurd (none_served was)
      of (home x) is was = (x, r.slot ∙ ap (λ q. slot_of q ∷ []) is, was.0, subst (λ l. Made l v.mine) (sym was.1) (r.fits j v at).made, subst (λ l. AllKnown start.numbers.items l) (sym was.1) r.known)

  -- what the slot of the closed table has
  pub finds : (words : List ℕ) (slots : List (Option V)) (j : ℕ) (v : View V) (kept : Option V) → Final (Seen K j v) words slots → v.stage ≡ Free → weigh (λ _. 1) v.mine ≡ length start.numbers.items → get_elem? slots 0 ≡ some kept
      → (x : V) × (kept ≡ Some x) × stands start.value x × Made (history x) v.mine × AllKnown start.numbers.items (history x)
  finds words slots j v kept final free all taken =
      let end = closes final.0 final.1.0.0 j v final.1.0.1 final.1.1 free all in
      (end.0, some-injective kept (Some end.0) (sym taken ∙ final.4 0 (Some end.0) (ap (λ l. get_elem? l 0) end.1)), end.2, end.3, end.4)
