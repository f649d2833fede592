-- How what was got grows.
use Rattle.std.proofs.Common.{◌≡◌, ℕ, ◌+◌, ◌<◌, ◌≤◌, false, List, [], ◌++◌, length, take, drop, Option, Some, Ok, sym, ap, ◌∙◌, subst, append_assoc, arith, ltb}
use Rattle.std.proofs.lemmas.List.{take-append-drop, take-take, take_at, drop_at, take_all, drop_all, length-append, length-take-le, append-nil}
use Rattle.std.proofs.Math.Seq.{drop-nil}
use Rattle.std.proofs.lemmas.Bool.{ltb-false}
use Rattle.vb_stream.specs.Streams.{TakesFront, HasGot, TakesAtMost}

-- the front that a read took, with what is left of it
pub taken-got : (bytes got buffer : List ℕ) (old new : Option (List ℕ)) (n room : ℕ) → HasGot bytes got old → ((b : List ℕ) → old ≡ Some b → TakesFront b (Ok n) (take room buffer) new) → n ≤ room → HasGot bytes (got ++ take n buffer) new
taken-got bytes got buffer old new n room h t le =
    let rest = h.0.0 in
    let f = t rest h.1 in
    let same : take n buffer ≡ take n rest = sym (take-take n room buffer le) ∙ f.1 in (
      (
        drop n rest,
        ap (λ r. (got ++ r) ++ drop n rest) same ∙ append_assoc got (take n rest) (drop n rest) ∙ ap (λ r. got ++ r) (take-append-drop n rest) ∙ h.0.1,
      ),
      f.2,
    )

-- where a read of a buffer that isn't empty took nothing, nothing is left
pub nothing-left : (bytes got buffer : List ℕ) (old new : Option (List ℕ)) (n room : ℕ) → HasGot bytes got old → ((b : List ℕ) → old ≡ Some b → TakesFront b (Ok n) (take room buffer) new) → 0 < room → room ≤ length buffer → ltb 0 n ≡ false → new ≡ Some []
nothing-left bytes got buffer old new n room h t some fits none =
    let f = t h.0.0 h.1 in
    let long : 0 < length (take room buffer) = omega (arith, length-take-le room buffer fits) in
    let zero_taken : n ≤ 0 = ltb-false 0 n none in
    let empty : h.0.0 ≡ [] = f.3 long (omega arith) in
    f.2 ∙ ap (λ l. Some (drop n l)) empty ∙ ap (λ l. Some l) (drop-nil n)

-- what was taken and then lost is at most as much as was asked for
pub lost-at-most : (most : ℕ) (bytes got front : List ℕ) (new : Option (List ℕ)) → HasGot bytes (got ++ front) new → length got + length front ≤ most → TakesAtMost most bytes new
lost-at-most most bytes got front new h le = (got ++ front, omega (arith, length-append got front), h)

-- all that was asked for was got
pub got-all : (most : ℕ) (bytes got : List ℕ) (left : Option (List ℕ)) → HasGot bytes got left → length got ≡ most → (got ≡ take most bytes) × (left ≡ Some (drop most bytes))
got-all most bytes got left h same = (
  sym (ap (take most) (sym h.0.1) ∙ take_at got h.0.0 most same),
  h.1 ∙ ap (λ l. Some l) (sym (ap (drop most) (sym h.0.1) ∙ drop_at got h.0.0 most same)),
)

-- all that there was was got
pub got-end : (most : ℕ) (bytes got : List ℕ) (left : Option (List ℕ)) → HasGot bytes got left → left ≡ Some [] → length got ≤ most → (got ≡ take most bytes) × (left ≡ Some (drop most bytes))
got-end most bytes got left h end le =
    let told = h.1 in
    let none : h.0.0 ≡ [] = cc in
    let whole : bytes ≡ got = sym h.0.1 ∙ ap (λ r. got ++ r) none ∙ append-nil got in
    let P : List ℕ → Type 0 = λ b. (got ≡ take most b) × (left ≡ Some (drop most b)) in
    subst P (sym whole) (sym (take_all most got le), end ∙ ap (λ l. Some l) (sym (drop_all most got le)))
