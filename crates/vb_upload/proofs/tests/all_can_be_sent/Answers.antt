use Rattle.std.proofs.Common.{◌≡◌, ℕ, ◌+◌, ◌<◌, ◌≤◌, List, Option, Some, None, inl, inr, false, refl, sym, ap, subst, ◌∙◌, arith, slice_get, length}
use Rattle.std.specs.Prelude.{nat_lt}
use Rattle.std.specs.Option.{option_and_then}
use Rattle.std.proofs.lemmas.Bool.{cases_Bool, ltb-true}
use Rattle.std.proofs.lemmas.Bool.Decides.{nat_tests}
use Rattle.std.proofs.lemmas.Option.{slice_get-get_or, slice_get_within}
use Rattle.vb_block.specs.declared.digest.Ref.{Ref}
use Rattle.vb_frozen.specs.declared.entry.FrozenEntry.{FrozenEntry}
use Rattle.vb_frozen.specs.Views.{page_ref}
use Rattle.vb_upload.specs.Cursors.{CanBeSent}
use Rattle.vb_upload.proofs.tests.all_can_be_sent.Goals as goal

not_less : (a b : ℕ) → nat_lt a b ≡ false → b ≤ a
not_less a b h = grind (arith, nat_tests)

abbrev some_ref : Ref → Option Ref
some_ref r = Some r

-- what holds of the entries before one and of this one holds of those before the next
one-more : (order : List FrozenEntry) (i : ℕ) (here : FrozenEntry) (P : FrozenEntry → Type 0) → slice_get order i ≡ Some here → P here → ((k : ℕ) (e : FrozenEntry) → k < i → slice_get order k ≡ Some e → P e) → (k : ℕ) (e : FrozenEntry) → k < i + 1 → slice_get order k ≡ Some e → P e
one-more order i here P at holds before k e less there = elim (cases_Bool (nat_lt k i)) [
  | inl h ↦ before k e (ltb-true k i h) there
  | inr h ↦
      let past : i ≤ k = not_less k i h in
      let same : k ≡ i = omega arith in
      let now : slice_get order i ≡ Some e = sym (ap (slice_get order) same) ∙ there in
      let is : here ≡ e = cc (sym at ∙ now) in
      subst P is holds
]

-- a reference below so many places
abbrev AllBelow : ℕ → FrozenEntry → Type 0
AllBelow blocks e = (page : ℕ) (reference : Ref) → slice_get e.refs page ≡ Some reference → reference.place < blocks

at-entry : (order : List FrozenEntry) (i page : ℕ) (reference : Ref) → page_ref order i page ≡ Some reference → (o : Option FrozenEntry) → slice_get order i ≡ o → (e : FrozenEntry) × (slice_get order i ≡ Some e) × (slice_get e.refs page ≡ Some reference)
at-entry order i page reference h None is = absurd (differ (sym h ∙ ap (option_and_then (λ (x : FrozenEntry). slice_get x.refs page)) is)) where
  differ : some_ref reference ≡ None → ⊥
  differ e = cc
at-entry order i page reference h (Some e) is = (e, is, sym (ap (option_and_then (λ (x : FrozenEntry). slice_get x.refs page)) is) ∙ h)

pub loop-i-preserved : goal.loop-i-preserved
loop-i-preserved c =
    let order = c.args.frozen.now.order in
    let i = c.loop-i.i in
    let before = c.loop-i.invariant in (
      one-more order i c.entry.result.now CanBeSent c.entry.ensures (c.if-not-can_be_sent.ensures refl) before.0,
      λ k e page reference less there. one-more order i c.entry-else-not-can_be_sent.result.now (AllBelow c.args.blocks) c.entry-else-not-can_be_sent.ensures (c.if-not-are_below.ensures refl) (λ n f earlier here p r. before.1 n f p r earlier here) k e less there page reference,
    )

pub returns-clause-sent : goal.returns-clause-sent
returns-clause-sent c = λ is k d less. c.loop-i.invariant.0 k _ (let past : length c.args.frozen.now.order ≤ c.loop-i.i = omega arith in omega arith) (slice_get-get_or c.args.frozen.now.order k d less)

pub returns-clause-below : goal.returns-clause-below
returns-clause-below c = λ is i page reference h.
    let order = c.args.frozen.now.order in
    let e = at-entry order i page reference h (slice_get order i) refl in
    let less : i < length order = slice_get_within order i e.0 e.1 in
    c.loop-i.invariant.1 i e.0 page reference (omega arith) e.1 e.2
