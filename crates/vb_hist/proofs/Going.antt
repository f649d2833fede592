-- A history that goes on the opening that another one makes.
use Rattle.std.proofs.Common.{◌≡◌, ◌≢◌, ℕ, ◌<◌, ◌≤◌, ◌⊎◌, inl, inr, Bool, true, false, ◌||◌, ◌==◌, if◌then◌else◌, IsTrue, List, [], ◌∷◌, ◌++◌, append_assoc, append-nil, Option, Some, None, refl, ap, sym, ◌∙◌, subst, subst₂, arith}
use Rattle.std.specs.List.{fold, list_any}
use Rattle.std.proofs.lemmas.List.Sums.{fold-append}
use Rattle.std.proofs.lemmas.Bool.Decides.{eqb_tells}
use Rattle.vb_tree.specs.declared.tree.TreeEntry.{TreeEntry}
use Rattle.vb_hist.specs.declared.entry.Entry.{Entry}
use Rattle.vb_hist.specs.declared.entry.Entry.TheVariants.{Publish, Doubt, Cut}
use Rattle.vb_hist.specs.declared.entry.Stage.TheVariants.{Written}
use Rattle.vb_hist.specs.Histories.{HasNoCut, IsFrozenAt, folder_after, is_cut, is_freeze_of, survivors_after, surviving, tree_after_entry, up_to_epoch, up_to_freeze}
use Rattle.vb_hist.specs.declared.marks.Marks.{Marks}
use Rattle.vb_hist.specs.Legal.{AreLegalAfter, IsLegal, MayFollow, Opening, folder_at, folder_of, marks_after, marks_at_start, marks_of, waiting_view}
use Rattle.vb_hist.specs.Openings.{GoesOnWith, MakesOpening, opening_of, published_tree_of}
use Rattle.vb_hist.proofs.Survivors.{surviving-whole, survivors-append, survivors-push}
use Rattle.vb_hist.proofs.Fronts.{up_to_epoch-append, up_to_freeze-past}
use Rattle.vb_hist.proofs.Growth.{no_cut-goes_back}
use Rattle.vb_hist.proofs.Order.{IsInOrder, frozen-within, last_after}
use Rattle.vb_hist.proofs.Outlived.{published-fold, rise-grows}
use Rattle.vb_hist.proofs.Newer.{newer-rise}
use Rattle.vb_hist.proofs.Marked.{IsPast}
use Rattle.vb_hist.proofs.Cuts.{line_marks}
use Rattle.vb_hist.proofs.Ordered.{IsOrdered, ordered}
use Rattle.vb_hist.proofs.Earlier.{bounds-frozen}

-- the marks are the same but for the doubt
abbrev pub SameButDoubt : Option ℕ → Marks → Marks → Type 0
SameButDoubt before alone whole = (doubt : Option ℕ) × (whole ≡ record alone { doubt = doubt }) × ((doubt ≡ alone.doubt) ⊎ ((alone.doubt ≡ None) × (doubt ≡ before)))

same-after : (before : Option ℕ) (alone whole : Marks) (entry : Entry) → SameButDoubt before alone whole → is_cut entry ≡ false → SameButDoubt before (marks_after alone entry) (marks_after whole entry)
same-after before alone whole (Publish epoch) s no_cut = (None, ap (λ m. marks_after m (Publish epoch)) s.1, inl refl)
same-after before alone whole (Doubt epoch) s no_cut = (Some epoch, ap (λ m. marks_after m (Doubt epoch)) s.1, inl refl)
same-after before alone whole (Cut epoch limits) s no_cut = cc
same-after before alone whole other s no_cut = (s.0, ap (λ m. marks_after m other) s.1, s.2)

-- what may follow the history alone may follow it where it goes on
may-on : (before : Option ℕ) (alone whole : Marks) (folder : List TreeEntry) (entry : Entry) → SameButDoubt before alone whole → is_cut entry ≡ false → MayFollow alone folder entry → MayFollow whole folder entry
may-on before alone whole folder (Publish epoch) s no_cut may = subst (λ m. MayFollow m folder (Publish epoch)) (sym s.1) (may.0, at may.1 s.2)
  where
    at : (((alone.standing ≡ Some epoch) × (alone.stage ≢ Written)) ⊎ (alone.doubt ≡ Some epoch)) → ((s.0 ≡ alone.doubt) ⊎ ((alone.doubt ≡ None) × (s.0 ≡ before)))
        → (((alone.standing ≡ Some epoch) × (alone.stage ≢ Written)) ⊎ (s.0 ≡ Some epoch))
    at (inl is) which = inl is
    at (inr is) (inl same) = inr (same ∙ is)
    at (inr is) (inr none) = cc (none.0)
may-on before alone whole folder (Cut epoch limits) s no_cut may = cc
may-on before alone whole folder other s no_cut may = subst (λ m. MayFollow m folder other) (sym s.1) may

-- what survives of one history beside another that began later
pub record Continues (before : Option ℕ) (o later : Opening) (line own : List Entry) : Type 0 where
  pub marks : SameButDoubt before (line_marks later own) (line_marks o line)
  pub folder : folder_after o.base line ≡ folder_after later.base own

continues-push : (before : Option ℕ) (o later : Opening) (line own : List Entry) (entry : Entry) → Continues before o later line own → is_cut entry ≡ false → Continues before o later (line ++ entry ∷ []) (own ++ entry ∷ [])
continues-push before o later line own entry c no_cut = record {
  marks = subst₂ (SameButDoubt before) (sym (fold-append marks_after (marks_at_start later) own (entry ∷ []))) (sym (fold-append marks_after (marks_at_start o) line (entry ∷ [])))
      (same-after before (line_marks later own) (line_marks o line) entry c.marks no_cut);
  folder = fold-append tree_after_entry o.base line (entry ∷ []) ∙ ap (λ t. tree_after_entry t entry) c.folder ∙ sym (fold-append tree_after_entry later.base own (entry ∷ []));
}

pub continues-all : (before : Option ℕ) (o later : Opening) (line own history : List Entry) → Continues before o later line own → HasNoCut history → Continues before o later (line ++ history) (own ++ history)
continues-all before o later line own [] c whole = subst₂ (Continues before o later) (sym (append-nil line)) (sym (append-nil own)) c
continues-all before o later line own (entry ∷ entries) c whole =
    subst₂ (Continues before o later) (append_assoc line (entry ∷ []) entries) (append_assoc own (entry ∷ []) entries)
    (continues-all before o later (line ++ entry ∷ []) (own ++ entry ∷ []) entries (continues-push before o later line own entry c whole.0) whole.1)

pub legal-on : (before : Option ℕ) (o later : Opening) (line own history : List Entry) → Continues before o later line own → HasNoCut history → AreLegalAfter later own history → AreLegalAfter o line history
legal-on before o later line own [] c whole legal = tt
legal-on before o later line own (entry ∷ entries) c whole legal = (
  subst (λ t. MayFollow (line_marks o line) t entry) (sym c.folder) (may-on before (line_marks later own) (line_marks o line) (folder_after later.base own) entry c.marks whole.0 legal.0),
  no_cut-goes_back o.start line entry whole.0,
  subst (λ l. AreLegalAfter o l entries) (sym (survivors-push o.start line entry whole.0))
      (legal-on before o later (line ++ entry ∷ []) (own ++ entry ∷ []) entries (continues-push before o later line own entry c whole.0) whole.1
      (subst (λ l. AreLegalAfter later l entries) (survivors-push later.start own entry whole.0) legal.2)),
)

-- entries that are legal after others are legal together
pub legal-append : (o : Opening) (line first later : List Entry) → AreLegalAfter o line first → AreLegalAfter o (fold (survivors_after o.start) line first) later → AreLegalAfter o line (first ++ later)
legal-append o line [] later a b = b
legal-append o line (entry ∷ entries) later a b = (a.0, a.1, legal-append o (survivors_after o.start line entry) entries later a.2 b)

pub legal-first : (o : Opening) (line first later : List Entry) → AreLegalAfter o line (first ++ later) → AreLegalAfter o line first
legal-first o line [] later all = tt
legal-first o line (entry ∷ entries) later all = (all.0, all.1, legal-first o (survivors_after o.start line entry) entries later all.2)

pub legal-later : (o : Opening) (line first later : List Entry) → AreLegalAfter o line (first ++ later) → AreLegalAfter o (fold (survivors_after o.start) line first) later
legal-later o line [] later all = all
legal-later o line (entry ∷ entries) later all = legal-later o (survivors_after o.start line entry) entries later all.2

-- an opening that a history makes continues it
pub continues-start : (o : Opening) (history : List Entry) (disk_faults link_faults : ℕ) → MakesOpening o history
    → Continues (marks_of o history).doubt o (opening_of o history disk_faults link_faults) (surviving o.start history) []
continues-start o history disk_faults link_faults makes =
    let m = marks_of o history in
    record {
      marks = (m.doubt, ap (λ s. record m { standing = s }) makes.waits ∙ ap (λ t. record m { standing = waiting_view m.last m.published; stage = t }) makes.rested, inr (refl, refl));
      folder = refl;
    }

pub surviving-on : (start : ℕ) (history later : List Entry) → HasNoCut later → surviving start (history ++ later) ≡ surviving start history ++ later
surviving-on start history later whole = fold-append (survivors_after start) [] history later ∙ survivors-append start (surviving start history) later whole

pub goes_on : (before : Option ℕ) (alone whole : Marks) → SameButDoubt before alone whole → GoesOnWith before alone whole
goes_on before alone whole s = record {
  last = ap (λ (m : Marks). m.last) s.1;
  standing = ap (λ (m : Marks). m.standing) s.1;
  stage = ap (λ (m : Marks). m.stage) s.1;
  doubt = elim s.2 [ inl same ↦ inl (ap (λ (m : Marks). m.doubt) s.1 ∙ same) | inr none ↦ inr (none.0, ap (λ (m : Marks). m.doubt) s.1 ∙ none.1) ];
  published = ap (λ (m : Marks). m.published) s.1;
  limits_are = ap (λ (m : Marks). m.limits) s.1;
}

-- where a history goes on another one
pub continued : (o : Opening) (history later : List Entry) (disk_faults link_faults : ℕ) → MakesOpening o history → HasNoCut later
    → Continues (marks_of o history).doubt o (opening_of o history disk_faults link_faults) (surviving o.start (history ++ later)) (surviving (marks_of o history).last later)
continued o history later disk_faults link_faults makes whole =
    subst₂ (Continues (marks_of o history).doubt o (opening_of o history disk_faults link_faults)) (sym (surviving-on o.start history later whole)) (sym (surviving-whole (marks_of o history).last later whole))
    (continues-all (marks_of o history).doubt o (opening_of o history disk_faults link_faults) (surviving o.start history) [] later (continues-start o history disk_faults link_faults makes) whole)

pub goes_on-legal : (o : Opening) (history later : List Entry) (disk_faults link_faults : ℕ) → IsLegal o history → MakesOpening o history → HasNoCut later → IsLegal (opening_of o history disk_faults link_faults) later → IsLegal o (history ++ later)
goes_on-legal o history later disk_faults link_faults legal makes whole own =
    legal-append o [] history later legal
    (legal-on (marks_of o history).doubt o (opening_of o history disk_faults link_faults) (surviving o.start history) [] later (continues-start o history disk_faults link_faults makes) whole own)

-- the folder at an epoch of the later history
pub folder_at-on : (o : Opening) (history later : List Entry) (disk_faults link_faults epoch : ℕ) → IsLegal o history → MakesOpening o history → HasNoCut later
    → IsLegal (opening_of o history disk_faults link_faults) later → IsFrozenAt (marks_of o history).last epoch later
    → folder_at o (history ++ later) epoch ≡ folder_at (opening_of o history disk_faults link_faults) later epoch
folder_at-on o history later disk_faults link_faults epoch legal makes whole own frozen =
    ap (λ l. folder_after o.base (up_to_epoch o.start epoch l)) (surviving-on o.start history later whole)
    ∙ at (epoch == (marks_of o history).last) (eqb_tells epoch (marks_of o history).last) frozen
    ∙ ap (λ l. folder_after (folder_of o history) (up_to_epoch (marks_of o history).last epoch l)) (sym (surviving-whole (marks_of o history).last later whole))
  where
    line : List Entry
    line = surviving o.start history

    s : IsOrdered o (surviving o.start history)
    s = ordered o history legal

    at_last : epoch ≡ (marks_of o history).last → folder_after o.base (up_to_epoch o.start epoch (surviving o.start history ++ later)) ≡ folder_of o history
    at_last is =
        let low : o.start ≤ (marks_of o history).last = (ordered o history legal).sound.from in
        let last : (marks_of o history).last ≡ last_after o.start (surviving o.start history) = (ordered o history legal).last in
        let there : IsFrozenAt o.start epoch (surviving o.start history) = bounds-frozen o.start epoch (surviving o.start history) (ordered o history legal).order (omega (arith, is, low)) (omega (arith, is, last)) in
        ap (folder_after o.base) (up_to_epoch-append o.start epoch (surviving o.start history) later there) ∙ ap (folder_at o history) is ∙ sym makes.tree

    behind : epoch ≢ (marks_of o history).last → list_any (is_freeze_of epoch) later ≡ true
        → folder_after o.base (up_to_epoch o.start epoch (surviving o.start history ++ later)) ≡ folder_after (folder_of o history) (up_to_freeze epoch later)
    behind not there =
        let own_order : IsInOrder (marks_of o history).last later =
        subst (IsInOrder (marks_of o history).last) (surviving-whole (marks_of o history).last later whole) (ordered (opening_of o history disk_faults link_faults) later own).order in
        let above : (marks_of o history).last < epoch = (frozen-within (marks_of o history).last epoch later own_order there).0 in
        let low : o.start ≤ (marks_of o history).last = (ordered o history legal).sound.from in
        let last : (marks_of o history).last ≡ last_after o.start (surviving o.start history) = (ordered o history legal).last in
        let none : list_any (is_freeze_of epoch) (surviving o.start history) ≡ false =
        not_there (list_any (is_freeze_of epoch) (surviving o.start history)) (λ h. let w = frozen-within o.start epoch (surviving o.start history) (ordered o history legal).order h in omega (arith, w.1, last, above)) in
        let other : (epoch == o.start) ≡ false = unlike epoch o.start (omega (arith, low, above)) in
        ap (λ b. folder_after o.base (if b then [] else up_to_freeze epoch (surviving o.start history ++ later))) other
        ∙ ap (folder_after o.base) (up_to_freeze-past epoch (surviving o.start history) later none)
        ∙ fold-append tree_after_entry o.base (surviving o.start history) (up_to_freeze epoch later)
      where
        not_there : (b : Bool) → (b ≡ true → ⊥) → b ≡ false
        not_there true h = absurd (h refl)
        not_there false h = refl

        unlike : (a b : ℕ) → b < a → (a == b) ≡ false
        unlike a b h = elim (eqb_tells a b) [ inl is ↦ absurd (omega (arith, is.1)) | inr is ↦ is.0 ]

    at : (b : Bool) → ((b ≡ true) × (epoch ≡ (marks_of o history).last)) ⊎ ((b ≡ false) × (epoch ≢ (marks_of o history).last)) → IsTrue (b || list_any (is_freeze_of epoch) later)
        → folder_after o.base (up_to_epoch o.start epoch (surviving o.start history ++ later)) ≡ folder_after (folder_of o history) (if b then [] else up_to_freeze epoch later)
    at true (inl is) there = at_last is.1
    at true (inr is) there = cc
    at false (inl is) there = cc
    at false (inr is) there = behind is.1 there

-- the tree that the cloud shows of a history that goes on
pub published_tree-on : (o : Opening) (history later : List Entry) (disk_faults link_faults : ℕ) → IsLegal o history → MakesOpening o history → HasNoCut later
    → IsLegal (opening_of o history disk_faults link_faults) later → published_tree_of o (history ++ later) ≡ published_tree_of (opening_of o history disk_faults link_faults) later
published_tree-on o history later disk_faults link_faults legal makes whole own =
    let same : (marks_of o (history ++ later)).published ≡ (marks_of (opening_of o history disk_faults link_faults) later).published =
    (goes_on (marks_of o history).doubt (marks_of (opening_of o history disk_faults link_faults) later) (marks_of o (history ++ later)) (continued o history later disk_faults link_faults makes whole).marks).published in
    ap (λ q. if q == o.published then o.published_tree else folder_at o (history ++ later) q) same
    ∙ at (now == shown) (eqb_tells now shown)
  where
    later_opening : Opening
    later_opening = opening_of o history disk_faults link_faults

    now : ℕ
    now = (marks_of (opening_of o history disk_faults link_faults) later).published

    shown : ℕ
    shown = (marks_of o history).published

    before : (b : Bool) → ((b ≡ true) × (shown ≡ o.published)) ⊎ ((b ≡ false) × (shown ≢ o.published))
        → (if b then o.published_tree else folder_at o (history ++ later) shown) ≡ (if b then o.published_tree else folder_at o history shown)
    before true is = refl
    before false (inl is) = cc
    before false (inr is) =
        let past : IsPast o.start (marks_of o history) shown = elim (ordered o history legal).sound.published [ inl same ↦ absurd (is.1 same) | inr past ↦ past ] in
        let last : (marks_of o history).last ≡ last_after o.start (surviving o.start history) = (ordered o history legal).last in
        let there : IsFrozenAt o.start shown (surviving o.start history) = bounds-frozen o.start shown (surviving o.start history) (ordered o history legal).order past.0 (omega (arith, past.1, last)) in
        ap (λ l. folder_after o.base (up_to_epoch o.start shown l)) (surviving-on o.start history later whole)
        ∙ ap (folder_after o.base) (up_to_epoch-append o.start shown (surviving o.start history) later there)

    at : (b : Bool) → ((b ≡ true) × (now ≡ shown)) ⊎ ((b ≡ false) × (now ≢ shown))
        → (if now == o.published then o.published_tree else folder_at o (history ++ later) now)
        ≡ (if b then published_tree_of o history else folder_at (opening_of o history disk_faults link_faults) later now)
    at true (inl is) = ap (λ q. if q == o.published then o.published_tree else folder_at o (history ++ later) q) is.1 ∙ before (shown == o.published) (eqb_tells shown o.published)
    at true (inr is) = cc
    at false (inl is) = cc
    at false (inr is) =
        let s = ordered (opening_of o history disk_faults link_faults) later own in
        let past : IsPast (marks_of o history).last (marks_of (opening_of o history disk_faults link_faults) later) now = elim s.sound.published [ inl same ↦ absurd (is.1 same) | inr past ↦ past ] in
        let frozen : IsFrozenAt (marks_of o history).last now later =
        subst (IsFrozenAt (marks_of o history).last now) (surviving-whole (marks_of o history).last later whole) (bounds-frozen (marks_of o history).last now (surviving (marks_of o history).last later) s.order past.0 (omega (arith, past.1, s.last))) in
        let rises : shown ≤ now = subst (λ q. shown ≤ q) (sym (published-fold (marks_at_start later_opening) (surviving (marks_of o history).last later)))
        (rise-grows shown _ (newer-rise (marks_of o history).last shown shown (surviving (marks_of o history).last later) s.newer)) in
        let rose : o.published ≤ shown = subst (λ q. o.published ≤ q) (sym (published-fold (marks_at_start o) (surviving o.start history)))
        (rise-grows o.published _ (newer-rise o.start o.published o.published (surviving o.start history) (ordered o history legal).newer)) in
        let other : (now == o.published) ≡ false = elim (eqb_tells now o.published) [ inl same ↦ absurd (omega (arith, same.1, rises, rose, is.1)) | inr unlike ↦ unlike.0 ] in
        ap (λ b. if b then o.published_tree else folder_at o (history ++ later) now) other ∙ folder_at-on o history later disk_faults link_faults now legal makes whole own frozen
