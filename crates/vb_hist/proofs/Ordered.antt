-- What every surviving list of a legal history keeps.
use Rattle.std.proofs.Common.{◌≡◌, ℕ, ◌+◌, ◌<◌, ◌≤◌, ◌⊎◌, inl, inr, false, IfSome, List, [], ◌∷◌, ◌++◌, Option, Some, None, refl, ap, sym, ◌∙◌, subst, subst₂, arith}
use Rattle.std.specs.List.{fold, filter}
use Rattle.std.proofs.lemmas.List.Sums.{fold-append}
use Rattle.std.proofs.lemmas.List.Elements.{filter_map-append}
use Rattle.vb_tree.specs.declared.tree.Limits.{Limits}
use Rattle.vb_tree.specs.declared.tree.TreeEntry.{TreeEntry}
use Rattle.vb_hist.specs.declared.entry.Entry.{Entry}
use Rattle.vb_hist.specs.declared.entry.Entry.TheVariants.{Freeze, Publish, Doubt, Cut}
use Rattle.vb_hist.specs.declared.entry.Stage.TheVariants.{Written}
use Rattle.vb_hist.specs.Histories.{IsFrozenAt, folder_after, is_cut, outlives_cut, survivors_after, surviving, up_to_epoch}
use Rattle.vb_hist.specs.Quiet.{epoch_after}
use Rattle.vb_hist.specs.Cuts.{HasDoubtBelow, IsCutBack}
use Rattle.vb_hist.specs.Epochs.{published_epoch, publications_of, last_or}
use Rattle.vb_hist.specs.declared.marks.Marks.{Marks}
use Rattle.vb_hist.specs.Legal.{AreLegalAfter, GoesBackToFreeze, IsLegal, MayFollow, Opening, marks_after, marks_at_start}
use Rattle.vb_hist.proofs.Order.{FitsEpoch, IsInOrder, along-append, along-front, along-rest, last-grows, last_after}
use Rattle.vb_hist.proofs.Outlived.{doubt_after, doubt-fold, published-fold, rise-none}
use Rattle.vb_hist.proofs.Newer.{AreNewer, FitsPublished, IsNewer, doubt-from, doubt-newer, kept-newer, kept-order, newer-rise, published-last, published_after}
use Rattle.vb_hist.proofs.Marked.{AreSound, IsPast, sound-after, waiting-above}
use Rattle.vb_hist.proofs.Cuts.{Parted, cut-back, cut-doubt, cut-parted, line_marks, parted}

-- a list that a legal history may leave
pub record IsOrdered (o : Opening) (line : List Entry) : Type 0 where
  pub order : IsInOrder o.start line
  pub newer : AreNewer o.start o.published o.published line
  pub last : (line_marks o line).last ≡ last_after o.start line
  pub sound : AreSound o.start o.published (line_marks o line)

pub ordered-start : (o : Opening) → IsOrdered o []
ordered-start o = record {
  order = tt;
  newer = tt;
  last = refl;
  sound = record {
    standing = waiting-above o.start o.published (λ e. (e ≡ o.start) × IsNewer o.start o.published o.published e) (λ above. (refl, inr above));
    doubt = tt;
    published = inl refl;
    from = omega arith;
  };
}

-- an entry that may follow fits the last epoch and the published one
fits-epoch : (o : Opening) (m : Marks) (folder : List TreeEntry) (entry : Entry) → AreSound o.start o.published m → MayFollow m folder entry → FitsEpoch m.last entry
fits-epoch o m folder (Freeze by epoch) s may = may.2
fits-epoch o m folder (Doubt epoch) s may = (subst (λ x. IfSome x (λ e. (e ≡ m.last) × IsNewer o.start o.published m.published e)) may.0 s.standing).0
fits-epoch o m folder other s may = tt

fits-published : (o : Opening) (m : Marks) (folder : List TreeEntry) (entry : Entry) → AreSound o.start o.published m → MayFollow m folder entry → FitsPublished o.start o.published m.published entry
fits-published o m folder (Publish epoch) s may = may.0
fits-published o m folder (Doubt epoch) s may = (subst (λ x. IfSome x (λ e. (e ≡ m.last) × IsNewer o.start o.published m.published e)) may.0 s.standing).1
fits-published o m folder other s may = tt

last-step : (m : Marks) (entry : Entry) → is_cut entry ≡ false → (marks_after m entry).last ≡ epoch_after m.last entry
last-step m (Freeze by epoch) h = refl
last-step m (Cut epoch limits) h = cc
last-step m other h = refl

pub ordered-push : (o : Opening) (line : List Entry) (folder : List TreeEntry) (entry : Entry) → IsOrdered o line → MayFollow (line_marks o line) folder entry → is_cut entry ≡ false → IsOrdered o (line ++ entry ∷ [])
ordered-push o line folder entry s may no_cut =
    let m = line_marks o line in
    let step : line_marks o (line ++ entry ∷ []) ≡ marks_after (line_marks o line) entry = fold-append marks_after (marks_at_start o) line (entry ∷ []) in
    let shown : (line_marks o line).published ≡ fold published_after o.published line = published-fold (marks_at_start o) line ∙ sym (published-last o.published line) in
    record {
      order = along-append epoch_after FitsEpoch o.start line (entry ∷ []) s.order (subst (λ n. FitsEpoch n entry) s.last (fits-epoch o (line_marks o line) folder entry s.sound may), tt);
      newer = along-append published_after (FitsPublished o.start o.published) o.published line (entry ∷ []) s.newer
          (subst (λ n. FitsPublished o.start o.published n entry) shown (fits-published o (line_marks o line) folder entry s.sound may), tt);
      last = ap (λ (n : Marks). n.last) step ∙ last-step (line_marks o line) entry no_cut ∙ ap (λ n. epoch_after n entry) s.last ∙ sym (fold-append epoch_after o.start line (entry ∷ []));
      sound = subst (λ n. AreSound o.start o.published n) (sym step) (sound-after o.start o.published (line_marks o line) folder entry s.sound may no_cut);
    }

-- an epoch that a cut may go back to isn't below what was published since the opening
abbrev pub IsNotBelow : Opening → List Entry → ℕ → Type 0
IsNotBelow o line epoch = ((line_marks o line).published ≡ o.published) ⊎ ((line_marks o line).published ≤ epoch)

pub cut-not_below : (o : Opening) (line : List Entry) (folder : List TreeEntry) (epoch : ℕ) (limits : Limits) → IsOrdered o line → MayFollow (line_marks o line) folder (Cut epoch limits) → IsNotBelow o line epoch
cut-not_below o line folder epoch limits s may = at s.sound.published may
  where
    m : Marks
    m = line_marks o line

    at : ((line_marks o line).published ≡ o.published) ⊎ IsPast o.start (line_marks o line) (line_marks o line).published
        → (epoch ≡ (line_marks o line).last) ⊎ (((epoch + 1 ≡ (line_marks o line).last) × ((line_marks o line).stage ≡ Written)) ⊎ ((epoch ≡ (line_marks o line).published) ⊎ ((line_marks o line).doubt ≡ Some epoch)))
        → IsNotBelow o line epoch
    at (inl is) how = inl is
    at (inr past) (inl is) = inr (omega (arith, past.1, is))
    at (inr past) (inr (inl is)) = inr (omega (arith, past.2 is.1, is.0))
    at (inr past) (inr (inr (inl is))) = inr (omega (arith, is))
    at (inr past) (inr (inr (inr is))) =
        elim (subst (λ x. IfSome x (λ e. IsPast o.start (line_marks o line) e × IsNewer o.start o.published (line_marks o line).published e)) is s.sound.doubt).1 as (λ h. IsNotBelow o line epoch)
        [ inl same ↦ inl same.0 | inr low ↦ inr (omega (arith, low)) ]

nil-right : {X : Type 0} (xs ys : List X) → xs ++ ys ≡ [] → ys ≡ []
nil-right [] ys h = h
nil-right (x ∷ xs) ys h = cc

-- the marks after what a cut leaves
pub cut-marks : (o : Opening) (line : List Entry) (epoch : ℕ) (limits : Limits) → IsOrdered o line → IsNotBelow o line epoch → Parted o.start epoch line
    → IsCutBack (line_marks o line) epoch limits (line_marks o (survivors_after o.start line (Cut epoch limits)))
cut-marks o line epoch limits s above p =
    let front = up_to_epoch o.start epoch line in
    let m1 = line_marks o (up_to_epoch o.start epoch line) in
    let rest = p.0 in
    let shown : m1.published ≡ fold published_after o.published front = published-fold (marks_at_start o) front ∙ sym (published-last o.published front) in
    let newer : AreNewer o.start o.published (fold published_after o.published front) rest =
    along-rest published_after (FitsPublished o.start o.published) o.published front rest (subst (AreNewer o.start o.published o.published) (sym p.1.whole) s.newer) in
    let all : fold marks_after m1 rest ≡ line_marks o line = sym (fold-append marks_after (marks_at_start o) front rest) ∙ ap (line_marks o) p.1.whole in
    let cut : fold marks_after (marks_after m1 (Cut epoch limits)) (filter outlives_cut rest) ≡ line_marks o (survivors_after o.start line (Cut epoch limits)) =
    sym (fold-append marks_after (marks_at_start o) front (Cut epoch limits ∷ filter outlives_cut rest)) ∙ ap (line_marks o) (sym (cut-parted o.start epoch limits line p)) in
    let premise : (publications_of rest ≡ []) ⊎ ((fold marks_after m1 rest).published ≤ epoch) = elim above [ inl is ↦ inl (nothing is) | inr below ↦ inr (subst (λ (n : Marks). n.published ≤ epoch) (sym all) below) ] in
    subst₂ (λ a b. IsCutBack a epoch limits b) all cut
    (cut-back m1 epoch limits rest (newer-rise o.start o.published m1.published rest (subst (λ n. AreNewer o.start o.published n rest) (sym shown) newer)) premise)
  where
    nothing : (line_marks o line).published ≡ o.published → publications_of (p.0) ≡ []
    nothing is =
        let none : publications_of line ≡ [] =
        rise-none o.published (publications_of line) (newer-rise o.start o.published o.published line s.newer) (sym (published-fold (marks_at_start o) line) ∙ is) in
        nil-right (publications_of (up_to_epoch o.start epoch line)) (publications_of (p.0))
        (sym (filter_map-append published_epoch (up_to_epoch o.start epoch line) (p.0)) ∙ ap publications_of p.1.whole ∙ none)

pub cut-doubts : (o : Opening) (line : List Entry) (epoch : ℕ) (limits : Limits) → IsOrdered o line → Parted o.start epoch line
    → HasDoubtBelow (line_marks o line) epoch (line_marks o (survivors_after o.start line (Cut epoch limits)))
cut-doubts o line epoch limits s p =
    let front = up_to_epoch o.start epoch line in
    let m1 = line_marks o (up_to_epoch o.start epoch line) in
    let rest = p.0 in
    let doubt : m1.doubt ≡ fold doubt_after None front = doubt-fold (marks_at_start o) front in
    let order : IsInOrder (last_after o.start front) rest = along-rest epoch_after FitsEpoch o.start front rest (subst (IsInOrder o.start) (sym p.1.whole) s.order) in
    let all : fold marks_after m1 rest ≡ line_marks o line = sym (fold-append marks_after (marks_at_start o) front rest) ∙ ap (line_marks o) p.1.whole in
    let cut : fold marks_after (marks_after m1 (Cut epoch limits)) (filter outlives_cut rest) ≡ line_marks o (survivors_after o.start line (Cut epoch limits)) =
    sym (fold-append marks_after (marks_at_start o) front (Cut epoch limits ∷ filter outlives_cut rest)) ∙ ap (line_marks o) (sym (cut-parted o.start epoch limits line p)) in
    subst₂ (λ a b. HasDoubtBelow a epoch b) all cut
    (cut-doubt m1 epoch limits rest (subst (λ n. IsInOrder n rest) p.1.last order) (subst (λ x. IfSome x (λ d. d < epoch)) (sym doubt) p.1.doubt))

kept-last : (last : ℕ) (xs : List Entry) → last_after last (filter outlives_cut xs) ≡ last
kept-last last [] = refl
kept-last last (Publish epoch ∷ xs) = kept-last last xs
kept-last last (other ∷ xs) = kept-last last xs

if_both : {X : Type 0} (x : Option X) (P Q : X → Type 0) → IfSome x P → IfSome x Q → IfSome x (λ v. P v × Q v)
if_both None P Q a b = tt
if_both (Some v) P Q a b = (a, b)

if_then : {X : Type 0} (x : Option X) (P Q : X → Type 0) → ((v : X) → P v → Q v) → IfSome x P → IfSome x Q
if_then None P Q f a = tt
if_then (Some v) P Q f a = f v a

-- what a cut leaves is in order, wherever it goes back to
pub ordered-order_of_cut : (o : Opening) (line : List Entry) (epoch : ℕ) (limits : Limits) → IsOrdered o line → IsFrozenAt o.start epoch line → IsInOrder o.start (survivors_after o.start line (Cut epoch limits))
ordered-order_of_cut o line epoch limits s frozen =
    let p = parted o.start epoch line s.order frozen in
    let front = up_to_epoch o.start epoch line in
    subst (IsInOrder o.start) (sym (cut-parted o.start epoch limits line p))
    (along-append epoch_after FitsEpoch o.start front (Cut epoch limits ∷ filter outlives_cut p.0)
    (along-front epoch_after FitsEpoch o.start front p.0 (subst (IsInOrder o.start) (sym p.1.whole) s.order)) (tt, kept-order (last_after o.start front) p.0))

pub ordered-cut : (o : Opening) (line : List Entry) (epoch : ℕ) (limits : Limits) → IsOrdered o line → IsNotBelow o line epoch → IsFrozenAt o.start epoch line
    → IsOrdered o (survivors_after o.start line (Cut epoch limits))
ordered-cut o line epoch limits s above frozen =
    subst (IsOrdered o) (sym (cut-parted o.start epoch limits line (parted o.start epoch line s.order frozen)))
    (made (parted o.start epoch line s.order frozen) (subst (λ l. IsCutBack (line_marks o line) epoch limits (line_marks o l)) (cut-parted o.start epoch limits line (parted o.start epoch line s.order frozen))
    (cut-marks o line epoch limits s above (parted o.start epoch line s.order frozen)))
    (subst (λ l. HasDoubtBelow (line_marks o line) epoch (line_marks o l)) (cut-parted o.start epoch limits line (parted o.start epoch line s.order frozen))
    (cut-doubts o line epoch limits s (parted o.start epoch line s.order frozen))))
  where
    made : (p : Parted o.start epoch line) → IsCutBack (line_marks o line) epoch limits (line_marks o (up_to_epoch o.start epoch line ++ Cut epoch limits ∷ filter outlives_cut p.0))
        → HasDoubtBelow (line_marks o line) epoch (line_marks o (up_to_epoch o.start epoch line ++ Cut epoch limits ∷ filter outlives_cut p.0))
        → IsOrdered o (up_to_epoch o.start epoch line ++ Cut epoch limits ∷ filter outlives_cut p.0)
    made p c g =
        let front = up_to_epoch o.start epoch line in
        let kept = Cut epoch limits ∷ filter outlives_cut p.0 in
        let m = line_marks o line in
        let n = line_marks o (front ++ kept) in
        let whole_order : IsInOrder o.start (front ++ p.0) = subst (IsInOrder o.start) (sym p.1.whole) s.order in
        let whole_newer : AreNewer o.start o.published o.published (front ++ p.0) = subst (AreNewer o.start o.published o.published) (sym p.1.whole) s.newer in
        let order : IsInOrder o.start (front ++ kept) = along-append epoch_after FitsEpoch o.start front kept (along-front epoch_after FitsEpoch o.start front p.0 whole_order) (tt, kept-order (last_after o.start front) p.0) in
        let newer : AreNewer o.start o.published o.published (front ++ kept) =
        along-append published_after (FitsPublished o.start o.published) o.published front kept (along-front published_after (FitsPublished o.start o.published) o.published front p.0 whole_newer)
        (tt, kept-newer o.start o.published (fold published_after o.published front) p.0 (along-rest published_after (FitsPublished o.start o.published) o.published front p.0 whole_newer)) in
        let ends : last_after o.start (front ++ kept) ≡ epoch = fold-append epoch_after o.start front kept ∙ kept-last (last_after o.start front) p.0 ∙ p.1.last in
        let from : o.start ≤ epoch = subst (λ l. o.start ≤ l) p.1.last (last-grows o.start front (along-front epoch_after FitsEpoch o.start front p.0 whole_order)) in
        let doubt : n.doubt ≡ fold doubt_after None (front ++ kept) = doubt-fold (marks_at_start o) (front ++ kept) in
        let shown : n.published ≡ last_or o.published (publications_of (front ++ kept)) = published-fold (marks_at_start o) (front ++ kept) in
        let low : IfSome n.doubt (λ d. o.start ≤ d) = subst (λ x. IfSome x (λ d. o.start ≤ d)) (sym doubt) (doubt-from o.start o.start None (front ++ kept) (omega arith) order tt) in
        let new : IfSome n.doubt (λ d. IsNewer o.start o.published n.published d) =
        subst₂ (λ x q. IfSome x (λ d. IsNewer o.start o.published q d)) (sym doubt) (sym shown) (doubt-newer o.start o.published o.published None (front ++ kept) newer tt) in
        record {
          order = order;
          newer = newer;
          last = c.last ∙ sym ends;
          sound = record {
            standing = subst₂ (λ x q. IfSome x (λ e. (e ≡ n.last) × IsNewer o.start o.published q e)) (sym c.standing) (sym c.published)
                (waiting-above epoch m.published (λ e. (e ≡ n.last) × IsNewer o.start o.published m.published e) (λ h. (sym c.last, inr h)));
            doubt = if_both n.doubt (λ d. IsPast o.start n d) (λ d. IsNewer o.start o.published n.published d)
                (if_then n.doubt (λ d. (o.start ≤ d) × (d < epoch)) (λ d. IsPast o.start n d) (λ d h. (h.0, omega (arith, h.1, c.last), λ w. omega (arith, h.1, c.last)))
                (if_both n.doubt (λ d. o.start ≤ d) (λ d. d < epoch) low g.below)) new;
            published = past c s.sound.published above;
            from = subst (λ l. o.start ≤ l) (sym c.last) from;
          };
        }
      where
        past : {n : Marks} → IsCutBack (line_marks o line) epoch limits n → ((line_marks o line).published ≡ o.published) ⊎ IsPast o.start (line_marks o line) (line_marks o line).published
            → IsNotBelow o line epoch → (n.published ≡ o.published) ⊎ IsPast o.start n n.published
        past {n} c (inl is) above = inl (c.published ∙ is)
        past {n} c (inr was) (inl is) = inl (c.published ∙ is)
        past {n} c (inr was) (inr below) = inr (omega (arith, was.0, c.published), omega (arith, below, c.published, c.last), λ w. cc (c.stage))

-- each entry of a legal history leaves such a list
pub ordered-step : (o : Opening) (line : List Entry) (folder : List TreeEntry) (entry : Entry) → IsOrdered o line → MayFollow (line_marks o line) folder entry → GoesBackToFreeze o.start line entry
    → IsOrdered o (survivors_after o.start line entry)
ordered-step o line folder (Cut epoch limits) s may back = ordered-cut o line epoch limits s (cut-not_below o line folder epoch limits s may) back
ordered-step o line folder other s may back = ordered-push o line folder other s may refl

pub ordered-all : (o : Opening) (line entries : List Entry) → IsOrdered o line → AreLegalAfter o line entries → IsOrdered o (fold (survivors_after o.start) line entries)
ordered-all o line [] s legal = s
ordered-all o line (entry ∷ entries) s legal =
    ordered-all o (survivors_after o.start line entry) entries (ordered-step o line (folder_after o.base line) entry s legal.0 legal.1) legal.2

pub ordered : (o : Opening) (history : List Entry) → IsLegal o history → IsOrdered o (surviving o.start history)
ordered o history legal = ordered-all o [] history (ordered-start o) legal
