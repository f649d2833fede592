-- Seats between two calls.
use Rattle.std.proofs.Common.{◌≡◌, ◌≢◌, ◌<◌, ◌%◌, ◌^◌, ◌==◌, ℕ, true, false, MatchBool, MatchOption, List, [], ◌∷◌, length, Option, Some, None, refl, sym, ap, ◌∙◌, subst, true≢false, arith}
use Rattle.std.proofs.lemmas.Bool.Decides.{nat_tests}
use Rattle.atomic_table.specs.Table.{step, rest}
use mathlib.Core.Option.{none}
use Rattle.vb_hist.specs.declared.entry.Entry.{Entry}
use Rattle.vb_turn.specs.declared.view.View.{View}
use Rattle.vb_turn.specs.declared.view.TurnStage.{TurnStage}
use Rattle.vb_turn.specs.declared.view.TurnStage.TheVariants.{Free, Waiting, Holding, Counted, Posted, Starting}
use Rattle.vb_turn.specs.declared.seat.TurnSeat.{TurnSeat}
use Rattle.vb_turn.specs.Rule.{is_counted}
use Rattle.vb_turn.specs.Seating.{is_rest, is_holding, made_first}
use Rattle.vb_turn.specs.Steps.{Sat, Gets, Took, holding, looked}

pub rest_counts : (stage : TurnStage) → is_rest stage ≡ true → is_counted stage ≡ false
rest_counts Free on = refl
rest_counts (Waiting t) on = refl
rest_counts (Holding t) on = refl
rest_counts (Counted t) on = absurd (true≢false (sym on))
rest_counts (Posted t) on = refl
rest_counts Starting on = refl

-- a seat with its own number has some
pub has_some : {V : Type 0} (seat : TurnSeat V) → seat.seat.me.0.mine ≡ (seat.number, made_first seat.seat.me.0.mine) ∷ [] → 0 < length seat.seat.me.0.mine
has_some seat own = let e = ap length own in omega arith

abbrev first_value : {V : Type 0} → List (ℕ × Option V) → Option V
first_value [] = None
first_value (x ∷ xs) = x.1

module _ {V : Type 0} (history : V → List Entry) (stands : V → V → Type 0) (epoch : V → List Entry → ℕ) (m m' : Sat V) (found ticket t : ℕ) (given : V)
    (told : looked history stands epoch (step 0 0 0 0 none) m found m') (waits : m.0.stage ≡ Waiting t) (is : m.0.given ≡ Some given) (mine : ticket ≡ t % 2 ^ 64) where
  -- another ticket is served
  pub look_missed : found ≢ ticket → m' ≡ m
  look_missed other = let off : (found == t % 2 ^ 64) ≡ false = grind (arith, nat_tests) in
      subst (λ b. MatchBool b ((x : V) × Gets (stands given) (epoch given) history m.0 x × (m' ≡ (holding (epoch given) t (history x) m.0, (0, Some x) ∷ m.1))) (m' ≡ m)) off (told t given waits is)

  -- the seat's own is
  pub look_found : found ≡ ticket → (x : V) × Gets (stands given) (epoch given) history m.0 x × (m' ≡ (holding (epoch given) t (history x) m.0, (0, Some x) ∷ m.1))
  look_found same = let on : (found == t % 2 ^ 64) ≡ true = grind (arith, nat_tests) in
      subst (λ b. MatchBool b ((x : V) × Gets (stands given) (epoch given) history m.0 x × (m' ≡ (holding (epoch given) t (history x) m.0, (0, Some x) ∷ m.1))) (m' ≡ m)) on (told t given waits is)

  -- and the value is taken out of the slot
  pub look_took : (after : Sat V) (out : Option V) → found ≡ ticket → m'.1 ≡ (0, out) ∷ rest m'.1 → after ≡ (m'.0, (0, None) ∷ rest m'.1)
      → MatchOption out (after ≡ m) (Took history (stands given) (epoch given) m after)
  look_took after out same carried put =
      let got = look_found same in
      let is_value : out ≡ Some got.0 = ap first_value (sym carried ∙ ap (λ (x : Sat V). x.1) got.2) in
      let seat : after ≡ (holding (epoch given) t (history got.0) m.0, (0, None) ∷ m.1) = put ∙ ap (λ (x : Sat V). let y : Sat V = (x.0, (0, None) ∷ rest x.1) in y) got.2 in
      subst (λ o. MatchOption o (after ≡ m) (Took history (stands given) (epoch given) m after)) (sym is_value) record {
        gets = got.1;
        holds = ap (λ (x : Sat V). is_holding x.0.stage) seat;
        view = ap (λ (x : Sat V). x.0) seat ∙ ap (λ st. let v : View V = record m.0 { stage = st; seen = history got.0; told = epoch given (history got.0) } in v) (sym (ap (λ (x : Sat V). x.0.stage) seat));
        slot = ap (λ (x : Sat V). x.1) seat;
      }
