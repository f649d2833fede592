-- A page that is settled leaves the tree.
use Rattle.std.proofs.Common.{◌≡◌, ◌≢◌, ℕ, zero, suc, ◌<◌, ◌&&◌, Bool, true, false, cond, eqb, List, [], ◌∷◌, length, set, slice_get, Option, Some, None, unwrap_or, refl, sym, ap, subst, ◌∙◌, inl, inr, arith}
use Rattle.std.specs.Option.{option_map}
use Rattle.std.specs.List.{All, find}
use Rattle.std.proofs.lemmas.Bool.{cases_Bool, false≢true}
use Rattle.std.proofs.lemmas.Bool.Decides.{Decides-eqb}
use Rattle.std.proofs.lemmas.List.Elements.{All-head, All-tail, All-cons}
use Rattle.vb_block.specs.declared.digest.Ref.{Ref}
use Rattle.vb_disk.specs.States.{DiskState}
use Rattle.vb_tree.specs.declared.tree.TreeEntry.{TreeEntry}
use Rattle.vb_pages.specs.declared.kept.KeptPage.{KeptPage}
use Rattle.vb_pages.specs.declared.kept.PageKey.{PageKey}
use Rattle.vb_pages.specs.Disks.{first_at}
use Rattle.vb_pages.specs.Tables.{kept_page, Forgets}
use Rattle.vb_frozen.specs.declared.entry.FrozenEntry.{FrozenEntry}
use Rattle.vb_frozen.specs.Orders.{refs_in, with_ref, with_reference, AreApart}
use Rattle.vb_frozen.specs.Views.{frozen_page, AreEntriesOf, HasFrozenTree, IsEntryOf}

set-here : (refs : List Ref) (page : ℕ) (reference : Ref) → page < length refs → slice_get (set refs page reference) page ≡ Some reference
set-here [] page reference h = absurd (omega (arith, h))
set-here (r ∷ rs) zero reference h = refl
set-here (r ∷ rs) (suc k) reference h = set-here rs k reference (omega (arith, h))

set-beside : (refs : List Ref) (page k : ℕ) (reference : Ref) → k ≢ page → slice_get (set refs page reference) k ≡ slice_get refs k
set-beside [] page k reference apart = refl
set-beside (r ∷ rs) zero zero reference apart = absurd (apart refl)
set-beside (r ∷ rs) zero (suc k) reference apart = refl
set-beside (r ∷ rs) (suc page) zero reference apart = refl
set-beside (r ∷ rs) (suc page) (suc k) reference apart = set-beside rs page k reference (λ e. apart (ap (λ n. suc n) e))

-- the pages of other slots stay
kept-other : (pages left : List (PageKey × KeptPage)) (slot page s k : ℕ) → Forgets pages left slot page → s ≢ slot → kept_page left s k ≡ kept_page pages s k
kept-other pages left slot page s k forgets apart = elim (cases_Bool (eqb s slot)) [
  | inl holds ↦ absurd (apart ((Decides-eqb s slot).0 holds))
  | inr fails ↦ forgets s k ∙ ap (λ b. cond (b && eqb k page) None (kept_page pages s k)) fails
]

-- and so do the other pages of the slot
kept-beside : (pages left : List (PageKey × KeptPage)) (slot page s k : ℕ) → Forgets pages left slot page → k ≢ page → kept_page left s k ≡ kept_page pages s k
kept-beside pages left slot page s k forgets apart = elim (cases_Bool (eqb k page)) [
  | inl holds ↦ absurd (apart ((Decides-eqb k page).0 holds))
  | inr fails ↦ forgets s k ∙ ap (λ b. cond (eqb s slot && b) None (kept_page pages s k)) fails ∙ neither (eqb s slot) (kept_page pages s k)
] where
  neither : (b : Bool) (o : Option (List ℕ)) → cond (b && false) None o ≡ o
  neither true o = refl
  neither false o = refl

gone : (pages left : List (PageKey × KeptPage)) (slot page : ℕ) → Forgets pages left slot page → kept_page left slot page ≡ None
gone pages left slot page forgets = forgets slot page ∙ ap (λ b. cond (b && eqb page page) None (kept_page pages slot page)) ((Decides-eqb slot slot).1 refl) ∙ ap (λ b. cond b None (kept_page pages slot page)) ((Decides-eqb page page).1 refl)

-- an entry of another slot
other-entry : (pages left : List (PageKey × KeptPage)) (d : DiskState) (slot page : ℕ) (f : FrozenEntry) (e : TreeEntry) → Forgets pages left slot page → f.slot ≢ slot → IsEntryOf pages d f e → IsEntryOf left d f e
other-entry pages left d slot page f e forgets apart was = record {
  path = was.path;
  kind = was.kind;
  len = was.len;
  contents = λ k within. ap (λ o. unwrap_or o (first_at d (slice_get f.refs k))) (kept-other pages left slot page f.slot k forgets apart) ∙ was.contents k within;
}

other-entries : (pages left : List (PageKey × KeptPage)) (d : DiskState) (slot page : ℕ) (fs : List FrozenEntry) (es : List TreeEntry) → Forgets pages left slot page → All (λ f. f.slot ≢ slot) fs → AreEntriesOf pages d fs es → AreEntriesOf left d fs es
other-entries pages left d slot page [] [] forgets apart was = tt
other-entries pages left d slot page [] (e ∷ es) forgets apart was = absurd was
other-entries pages left d slot page (f ∷ fs) [] forgets apart was = absurd was
other-entries pages left d slot page (f ∷ fs) (e ∷ es) forgets apart was = (
  other-entry pages left d slot page f e forgets (All-head (λ (x : FrozenEntry). x.slot ≢ slot) f fs apart) was.0,
  other-entries pages left d slot page fs es forgets (All-tail (λ (x : FrozenEntry). x.slot ≢ slot) f fs apart) was.1,
)

-- the entry of the slot
settled-entry : (pages left : List (PageKey × KeptPage)) (d : DiskState) (page : ℕ) (reference : Ref) (bytes : List ℕ) (f : FrozenEntry) (e : TreeEntry) → Forgets pages left f.slot page → page < length f.refs → kept_page pages f.slot page ≡ Some bytes → (d.cells reference.place).first ≡ bytes → IsEntryOf pages d f e → IsEntryOf left d (with_ref page reference f) e
settled-entry pages left d page reference bytes f e forgets short there same was = record {
  path = was.path;
  kind = was.kind;
  len = was.len;
  contents = λ k within. stays k ∙ was.contents k within;
} where
  here : frozen_page left d (with_ref page reference f) page ≡ frozen_page pages d f page
  here = ap (λ o. unwrap_or o (first_at d (slice_get (set f.refs page reference) page))) (gone pages left f.slot page forgets)
      ∙ ap (first_at d) (set-here f.refs page reference short)
      ∙ same
      ∙ sym (ap (λ o. unwrap_or o (first_at d (slice_get f.refs page))) there)

  stays : (k : ℕ) → frozen_page left d (with_ref page reference f) k ≡ frozen_page pages d f k
  stays k = elim (cases_Bool (eqb k page)) [
    | inl holds ↦ subst (λ n. frozen_page left d (with_ref page reference f) n ≡ frozen_page pages d f n) (sym ((Decides-eqb k page).0 holds)) here
    | inr fails ↦
        let apart : k ≢ page = λ e. false≢true (sym fails ∙ (Decides-eqb k page).1 e) in
        ap (λ o. unwrap_or o (first_at d (slice_get (set f.refs page reference) k))) (kept-beside pages left f.slot page f.slot k forgets apart)
        ∙ ap (λ o. unwrap_or (kept_page pages f.slot k) (first_at d o)) (set-beside f.refs page k reference apart)
  ]

settled-entries : (pages left : List (PageKey × KeptPage)) (d : DiskState) (slot page : ℕ) (reference : Ref) (bytes : List ℕ) (fs : List FrozenEntry) (es : List TreeEntry) → Forgets pages left slot page → AreApart fs → page < length (refs_in fs slot) → kept_page pages slot page ≡ Some bytes → (d.cells reference.place).first ≡ bytes → AreEntriesOf pages d fs es → AreEntriesOf left d (with_reference slot page reference fs) es
settled-entries pages left d slot page reference bytes [] es forgets apart short there same was = absurd (omega (arith, short))
settled-entries pages left d slot page reference bytes (f ∷ fs) [] forgets apart short there same was = absurd was
settled-entries pages left d slot page reference bytes (f ∷ fs) (e ∷ es) forgets apart short there same was = elim (cases_Bool (eqb f.slot slot)) [
  | inl holds ↦
      let at : f.slot ≡ slot = (Decides-eqb f.slot slot).0 holds in
      let short_here : page < length f.refs = subst (λ b. page < length (unwrap_or (option_map (λ (x : FrozenEntry). x.refs) (cond b (Some f) (find (λ x. eqb x.slot slot) fs))) [])) holds short in
      let here = settled-entry pages left d page reference bytes f e (subst (λ s. Forgets pages left s page) (sym at) forgets) short_here (ap (λ s. kept_page pages s page) at ∙ there) same was.0 in
      let others = other-entries pages left d slot page fs es forgets (subst (λ s. All (λ (x : FrozenEntry). x.slot ≢ s) fs) at apart.0) was.1 in
      subst (λ b. AreEntriesOf left d (cond b (with_ref page reference f ∷ fs) (f ∷ with_reference slot page reference fs)) (e ∷ es)) (sym holds) (here, others)
  | inr fails ↦
      let away : f.slot ≢ slot = λ at. false≢true (sym fails ∙ (Decides-eqb f.slot slot).1 at) in
      let short_there : page < length (refs_in fs slot) = subst (λ b. page < length (unwrap_or (option_map (λ (x : FrozenEntry). x.refs) (cond b (Some f) (find (λ x. eqb x.slot slot) fs))) [])) fails short in
      subst (λ b. AreEntriesOf left d (cond b (with_ref page reference f ∷ fs) (f ∷ with_reference slot page reference fs)) (e ∷ es)) (sym fails)
      (other-entry pages left d slot page f e forgets away was.0, settled-entries pages left d slot page reference bytes fs es forgets apart.1 short_there there same was.1)
]

-- no two entries get one slot
apart-all : (slot page : ℕ) (reference : Ref) (s : ℕ) (fs : List FrozenEntry) → All (λ f. f.slot ≢ s) fs → All (λ f. f.slot ≢ s) (with_reference slot page reference fs)
apart-all slot page reference s [] apart = apart
apart-all slot page reference s (f ∷ fs) apart = by (eqb f.slot slot) (apart-all slot page reference s fs (All-tail (λ (x : FrozenEntry). x.slot ≢ s) f fs apart)) where
  by : (b : Bool) → All (λ x. x.slot ≢ s) (with_reference slot page reference fs) → All (λ x. x.slot ≢ s) (cond b (with_ref page reference f ∷ fs) (f ∷ with_reference slot page reference fs))
  by true rest = All-cons (λ (x : FrozenEntry). x.slot ≢ s) (with_ref page reference f) fs (All-head (λ (x : FrozenEntry). x.slot ≢ s) f fs apart) (All-tail (λ (x : FrozenEntry). x.slot ≢ s) f fs apart)
  by false rest = All-cons (λ (x : FrozenEntry). x.slot ≢ s) f (with_reference slot page reference fs) (All-head (λ (x : FrozenEntry). x.slot ≢ s) f fs apart) rest

apart-with : (slot page : ℕ) (reference : Ref) (fs : List FrozenEntry) → AreApart fs → AreApart (with_reference slot page reference fs)
apart-with slot page reference [] apart = tt
apart-with slot page reference (f ∷ fs) apart = by (eqb f.slot slot) (apart-with slot page reference fs apart.1) where
  by : (b : Bool) → AreApart (with_reference slot page reference fs) → AreApart (cond b (with_ref page reference f ∷ fs) (f ∷ with_reference slot page reference fs))
  by true rest = apart
  by false rest = (apart-all slot page reference f.slot fs apart.0, rest)

pub settled-tree : (order : List FrozenEntry) (pages left : List (PageKey × KeptPage)) (d : DiskState) (tree : List TreeEntry) (slot page : ℕ) (reference : Ref) (bytes : List ℕ) → HasFrozenTree order pages d tree → page < length (refs_in order slot) → kept_page pages slot page ≡ Some bytes → (d.cells reference.place).first ≡ bytes → Forgets pages left slot page → HasFrozenTree (with_reference slot page reference order) left d tree
settled-tree order pages left d tree slot page reference bytes has short there same forgets = record {
  is_tree = has.is_tree;
  apart = apart-with slot page reference order has.apart;
  entries = settled-entries pages left d slot page reference bytes order tree forgets has.apart short there same has.entries;
}
