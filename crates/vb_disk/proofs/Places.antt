-- How the map of places changes, and that what a table keeps is kept.
use Rattle.std.proofs.Common.{◌≡◌, ◌≢◌, ℕ, ◌<◌, Bool, true, false, cond, ◌||◌, ◌&&◌, eqb, ltb, nat_eq, List, [], length, Option, Some, None, Result, Ok, Err, OnOk, OnErr, is_some, unwrap_or, refl, sym, ap, subst, ◌∙◌, inl, inr, arith}
use Rattle.std.specs.List.{filter, list_any, All}
use Rattle.std.specs.Ordering.{nat_cmp}
use Rattle.std.specs.Map.{lookup}
use Rattle.std.specs.BTreeMap.{BTreeMap, get, is_at}
use Rattle.std.proofs.lemmas.Bool.{cases_eq, cases_lt, cases_Bool, cond-true, cond-false, eq-eqb, ne_eqb, lt-ltb, le-ltb, or_cases, or_left, or_right}
use Rattle.std.proofs.lemmas.Bool.Decides.{nat_tests}
use Rattle.std.proofs.lemmas.Map.Views.{any-filter_same}
use Rattle.std.proofs.lemmas.List.{get_or_past}
use Rattle.std.proofs.lemmas.List.Elements.{All-nil, All-cons, All-push}
use Rattle.sha2.specs.Sha256.{sha256}
use Rattle.vb_block.specs.Pages.{IsPage, filled_page, zero_page}
use Rattle.vb_disk.specs.declared.cell.Cell.{Cell}
use Rattle.vb_disk.specs.declared.crash.Side.{Side}
use Rattle.vb_disk.specs.Cells.{blank_cell, candidates, candidate_at, kept_cell, settled_cell, picked_cell, written_cell, hurt_cell, side_index, is_settled}
use Rattle.vb_disk.specs.Misses.{IsMiss, is_miss}
use Rattle.vb_disk.specs.Sparse.{cell_in, ChangesOne, KeepsAll, IsCell, IsListed, IsTable}
use Rattle.vb_disk.proofs.TestsOfMisses.{is_miss-Decides}

-- what the map has at a place says what stands there
pub cell_from_get : (old new : BTreeMap ℕ Cell) (place : ℕ) → get nat_cmp new place ≡ get nat_cmp old place → cell_in new place ≡ cell_in old place
cell_from_get old new place same = ap (λ (o : Option Cell). unwrap_or o blank_cell) same

-- one place changed by a function of what stood there
pub cell_in-changed : (f : Cell → Cell) (old new : BTreeMap ℕ Cell) (place : ℕ) → ChangesOne old new place (f (cell_in old place)) → (other : ℕ) → cell_in new other ≡ cond (eqb other place) (f (cell_in old other)) (cell_in old other)
cell_in-changed f old new place change other = elim (cases_eq other place) [
  | inl same ↦
      let Q : ℕ → Type 0 = λ n. cell_in new n ≡ cond (eqb n place) (f (cell_in old n)) (cell_in old n) in
      subst Q (sym same) (change.here ∙ sym (cond-true (eqb place place) (f (cell_in old place)) (cell_in old place) (eq-eqb place place refl)))
  | inr apart ↦ cell_from_get old new other (change.others other apart) ∙ sym (cond-false (eqb other place) (f (cell_in old other)) (cell_in old other) (ne_eqb other place apart))
]

-- the candidate at any position has what all candidates have
candidate_has : (P : List ℕ → Type 0) (cell : Cell) (i : ℕ) → All P (candidates cell) → P (candidate_at cell i)
candidate_has P cell i all = elim (cases_lt i (length (candidates cell))) [
  | inl within ↦ all i cell.first within
  | inr past ↦ subst P (sym (get_or_past (candidates cell) i cell.first past)) (all 0 cell.first (omega arith))
]

-- what is a miss among all candidates is one at each of them alone
pub IsMiss-kept_cell : (cell : Cell) (i : ℕ) (bytes : List ℕ) → IsMiss cell bytes → IsMiss (kept_cell cell i) bytes
IsMiss-kept_cell cell i bytes miss =
    let Q : List ℕ → Type 0 = λ candidate. sha256 candidate ≢ sha256 bytes in
    record { unsealed = miss.unsealed; unlike = All-cons Q (candidate_at cell i) [] (candidate_has Q cell i miss.unlike) (All-nil Q) }

pub IsCell-kept_cell : (cell : Cell) (i : ℕ) → IsCell cell → IsCell (kept_cell cell i)
IsCell-kept_cell cell i was = record {
  pages = All-cons IsPage (candidate_at cell i) [] (candidate_has IsPage cell i was.pages) (All-nil IsPage);
  hurt_page = was.hurt_page;
  hurt_miss = λ bytes hurt. IsMiss-kept_cell cell i bytes (was.hurt_miss bytes hurt);
}

-- a write adds a page
pub IsCell-written_cell : (cell : Cell) (page : List ℕ) → IsCell cell → IsPage page → IsCell (written_cell cell page)
IsCell-written_cell cell page was is_page = record {
  pages = All-push IsPage (candidates cell) page was.pages is_page;
  hurt_page = λ bytes hurt. absurd (cc hurt);
  hurt_miss = λ bytes hurt. absurd (cc hurt);
}

zero_page-IsPage : IsPage zero_page
unfolding filled_page
zero_page-IsPage = refl

pub IsCell-blank_cell : IsCell blank_cell
IsCell-blank_cell = record {
  pages = All-cons IsPage zero_page [] zero_page-IsPage (All-nil IsPage);
  hurt_page = λ bytes hurt. absurd (cc hurt);
  hurt_miss = λ bytes hurt. absurd (cc hurt);
}

-- ---- the list of places with more than one candidate

listed_or : (a b l : Bool) → (a ≡ true → b ≡ true) → (a || l) ≡ true → (b || l) ≡ true
listed_or a b l goes was = elim (or_cases a l was) [ inl holds ↦ or_left b l (goes holds) | inr holds ↦ or_right b l holds ]

pub IsListed-changed : (old new : BTreeMap ℕ Cell) (listed : List ℕ) (place : ℕ) (cell : Cell) → IsListed old listed → ChangesOne old new place cell → (is_settled (cell_in old place) ≡ true → is_settled cell ≡ true) → IsListed new listed
IsListed-changed old new listed place cell was change goes other = elim (cases_eq other place) [
  | inl same ↦
      let Q : ℕ → Type 0 = λ n. (is_settled (cell_in new n) || list_any (nat_eq n) listed) ≡ true in
      subst Q (sym same) (listed_or (is_settled (cell_in old place)) (is_settled (cell_in new place)) (list_any (nat_eq place) listed) (λ holds. ap is_settled change.here ∙ goes holds) (was place))
  | inr apart ↦ ap (λ (c : Cell). is_settled c || list_any (nat_eq other) listed) (cell_from_get old new other (change.others other apart)) ∙ was other
]

-- ---- what a table keeps

pub IsTable-kept : (size : ℕ) (old new : BTreeMap ℕ Cell) (before after : List ℕ) → IsTable size old before → KeepsAll old new → IsListed new after → IsTable size new after
IsTable-kept size old new before after was keeps listed = record {
  inside = λ place past. ap is_some (keeps place) ∙ was.inside place past;
  all_listed = listed;
  each = λ place. subst IsCell (sym (cell_from_get old new place (keeps place))) (was.each place);
}

pub IsTable-changed : (size : ℕ) (old new : BTreeMap ℕ Cell) (before after : List ℕ) (place : ℕ) (cell : Cell) → IsTable size old before → place < size → ChangesOne old new place cell → IsListed new after → IsCell cell → IsTable size new after
IsTable-changed size old new before after place cell was within change listed holds = record {
  inside = λ other past.
      let apart : other ≢ place = omega arith in
      ap is_some (change.others other apart) ∙ was.inside other past;
  all_listed = listed;
  each = λ other. elim (cases_eq other place) [
    | inl same ↦
        let Q : ℕ → Type 0 = λ n. IsCell (cell_in new n) in
        subst Q (sym same) (subst IsCell (sym change.here) holds)
    | inr apart ↦ subst IsCell (sym (cell_from_get old new other (change.others other apart))) (was.each other)
  ];
}

pub IsTable-settled : (size : ℕ) (side : Side) (old new : BTreeMap ℕ Cell) (before : List ℕ) → IsTable size old before → ((place : ℕ) → cell_in new place ≡ settled_cell side (cell_in old place)) → ((place : ℕ) → is_some (get nat_cmp new place) ≡ is_some (get nat_cmp old place)) → (after : List ℕ) → IsTable size new after
IsTable-settled size side old new before was settled same_keys after = record {
  inside = λ place past. same_keys place ∙ was.inside place past;
  all_listed = λ place. or_left (is_settled (cell_in new place)) (list_any (nat_eq place) after) (ap is_settled (settled place));
  each = λ place. subst IsCell (sym (settled place)) (IsCell-kept_cell (cell_in old place) (side_index side (cell_in old place)) (was.each place));
}

-- what stands at a place of a map that was cut
pub cell_in-cut : (old new : BTreeMap ℕ Cell) (blocks place : ℕ) → get nat_cmp new place ≡ cond (ltb place blocks) (get nat_cmp old place) None → cell_in new place ≡ cond (ltb place blocks) (cell_in old place) blank_cell
cell_in-cut old new blocks place cut = elim (cases_lt place blocks) [
  | inl within ↦ cell_from_get old new place (cut ∙ cond-true (ltb place blocks) (get nat_cmp old place) None (lt-ltb place blocks within)) ∙ sym (cond-true (ltb place blocks) (cell_in old place) blank_cell (lt-ltb place blocks within))
  | inr past ↦ ap (λ (o : Option Cell). unwrap_or o blank_cell) (cut ∙ cond-false (ltb place blocks) (get nat_cmp old place) None (le-ltb place blocks past)) ∙ sym (cond-false (ltb place blocks) (cell_in old place) blank_cell (le-ltb place blocks past))
]

same_from_nat_eq : (q k : ℕ) → nat_eq q k ≡ true → q ≡ k
same_from_nat_eq q k equal = grind (arith, nat_tests)

-- of the list, the places below the cut are left
listed-cut : (blocks place : ℕ) (listed : List ℕ) → list_any (nat_eq place) (filter (λ p. ltb p blocks) listed) ≡ (ltb place blocks && list_any (nat_eq place) listed)
listed-cut blocks place listed =
    any-filter_same (nat_eq place) (λ p. ltb p blocks) (ltb place blocks) (λ k is. ap (λ (n : ℕ). ltb n blocks) (sym (same_from_nat_eq place k is))) listed

pub IsTable-cut : (size blocks : ℕ) (old new : BTreeMap ℕ Cell) (before after : List ℕ) → IsTable size old before → ((place : ℕ) → get nat_cmp new place ≡ cond (ltb place blocks) (get nat_cmp old place) None) → after ≡ filter (λ p. ltb p blocks) before → IsTable blocks new after
IsTable-cut size blocks old new before after was cut left = record {
  inside = λ place past. ap is_some (cut place ∙ cond-false (ltb place blocks) (get nat_cmp old place) None (le-ltb place blocks past));
  all_listed = λ place.
      let found = ap (list_any (nat_eq place)) left ∙ listed-cut blocks place before in
      subst (λ (l : Bool). (is_settled (cell_in new place) || l) ≡ true) (sym found)
      (subst (λ c. (is_settled c || (ltb place blocks && list_any (nat_eq place) before)) ≡ true) (sym (cell_in-cut old new blocks place (cut place)))
      (elim (ltb place blocks) as (λ b. (is_settled (cond b (cell_in old place) blank_cell) || (b && list_any (nat_eq place) before)) ≡ true) [ true ↦ was.all_listed place | false ↦ refl ]));
  each = λ place. subst IsCell (sym (cell_in-cut old new blocks place (cut place)))
      (elim (ltb place blocks) as (λ b. IsCell (cond b (cell_in old place) blank_cell)) [ true ↦ was.each place | false ↦ IsCell-blank_cell ]);
}

-- a change that may find no memory
pub IsTable-tried : {E : Type 0} (result : Result (Unit {0}) E) (size : ℕ) (old new : BTreeMap ℕ Cell) (before after : List ℕ) (place : ℕ) (cell : Cell) → IsTable size old before → place < size → OnOk result (ChangesOne old new place cell) → OnErr result (KeepsAll old new) → IsListed new after → IsCell cell → IsTable size new after
IsTable-tried (Ok done) size old new before after place cell was within change keeps listed holds = IsTable-changed size old new before after place cell was within change listed holds
IsTable-tried (Err reason) size old new before after place cell was within change keeps listed holds = IsTable-kept size old new before after was keeps listed

-- ---- hurt and picked places

pub IsCell-hurt_cell : (cell : Cell) (page : List ℕ) → IsCell cell → IsPage page → IsMiss cell page → IsCell (hurt_cell cell page)
IsCell-hurt_cell cell page was is_page miss = record {
  pages = was.pages;
  hurt_page = λ bytes hurt. let same : page ≡ bytes = cc hurt in subst IsPage same is_page;
  hurt_miss = λ bytes hurt.
      let same : page ≡ bytes = cc hurt in
      subst (λ (b : List ℕ). IsMiss (hurt_cell cell page) b) same (record { unsealed = miss.unsealed; unlike = miss.unlike });
}

pub IsCell-picked_cell : (i : ℕ) (cell : Cell) → IsCell cell → IsCell (picked_cell i cell)
IsCell-picked_cell i cell was =
    elim (is_settled cell) as (λ b. IsCell (cond b cell (kept_cell cell i))) [ true ↦ was | false ↦ IsCell-kept_cell cell i was ]

pub is_settled-picked_cell : (i : ℕ) (cell : Cell) → is_settled (picked_cell i cell) ≡ true
is_settled-picked_cell i cell = elim (cases_Bool (is_settled cell)) [
  | inl settled ↦ ap is_settled (cond-true (is_settled cell) cell (kept_cell cell i) settled) ∙ settled
  | inr unsettled ↦ ap is_settled (cond-false (is_settled cell) cell (kept_cell cell i) unsettled)
]

none_from : {T : Type 0} (o : Option T) → is_some o ≡ false → o ≡ None
none_from None is = refl
none_from (Some x) is = absurd (cc is)

-- a place with two candidates or more lies within the disk
pub within_from_unsettled : (size : ℕ) (cells : BTreeMap ℕ Cell) (listed : List ℕ) (place : ℕ) → IsTable size cells listed → is_settled (cell_in cells place) ≡ false → place < size
within_from_unsettled size cells listed place was unsettled = elim (cases_lt place size) [
  | inl within ↦ within
  | inr past ↦
      let blank : is_settled (cell_in cells place) ≡ true = ap (λ (o : Option Cell). is_settled (unwrap_or o blank_cell)) (none_from (get nat_cmp cells place) (was.inside place past)) in
      absurd (cc (blank, unsettled))
]

-- and the map has it
pub is_some_from_unsettled : (cells : BTreeMap ℕ Cell) (place : ℕ) → is_settled (cell_in cells place) ≡ false → is_some (get nat_cmp cells place) ≡ true
is_some_from_unsettled cells place unsettled = elim (cases_Bool (is_some (get nat_cmp cells place))) [
  | inl there ↦ there
  | inr absent ↦
      let blank : is_settled (cell_in cells place) ≡ true = ap (λ (o : Option Cell). is_settled (unwrap_or o blank_cell)) (none_from (get nat_cmp cells place) absent) in
      absurd (cc (blank, unsettled))
]

pub IsListed-kept : (old new : BTreeMap ℕ Cell) (listed : List ℕ) → IsListed old listed → KeepsAll old new → IsListed new listed
IsListed-kept old new listed was keeps place = ap (λ (c : Cell). is_settled c || list_any (nat_eq place) listed) (cell_from_get old new place (keeps place)) ∙ was place

pub IsTable-hurt : (size : ℕ) (old new : BTreeMap ℕ Cell) (listed : List ℕ) (place : ℕ) (page : List ℕ) → IsTable size old listed → place < size → IsPage page → is_miss (cell_in old place) page ≡ true → ChangesOne old new place (hurt_cell (cell_in old place) page) → IsTable size new listed
IsTable-hurt size old new listed place page was within is_page miss change =
    IsTable-changed size old new listed listed place (hurt_cell (cell_in old place) page) was within change (IsListed-changed old new listed place (hurt_cell (cell_in old place) page) was.all_listed change (λ holds. holds)) (IsCell-hurt_cell (cell_in old place) page (was.each place) is_page ((is_miss-Decides (cell_in old place) page).0 miss))

pub IsTable-damaged : {E : Type 0} (result : Result (Unit {0}) E) (size : ℕ) (old new : BTreeMap ℕ Cell) (listed : List ℕ) (place : ℕ) (page : List ℕ) → IsTable size old listed → place < size → IsPage page → is_miss (cell_in old place) page ≡ true → OnOk result (ChangesOne old new place (hurt_cell (cell_in old place) page)) → OnErr result (KeepsAll old new) → IsTable size new listed
IsTable-damaged (Ok done) size old new listed place page was within is_page miss change keeps = IsTable-hurt size old new listed place page was within is_page miss change
IsTable-damaged (Err reason) size old new listed place page was within is_page miss change keeps = IsTable-kept size old new listed listed was keeps (IsListed-kept old new listed was.all_listed keeps)

pub IsTable-picked : (size : ℕ) (old new : BTreeMap ℕ Cell) (listed : List ℕ) (place index : ℕ) → IsTable size old listed → place < size → ChangesOne old new place (picked_cell index (cell_in old place)) → IsTable size new listed
IsTable-picked size old new listed place index was within change =
    IsTable-changed size old new listed listed place (picked_cell index (cell_in old place)) was within change (IsListed-changed old new listed place (picked_cell index (cell_in old place)) was.all_listed change (λ holds. is_settled-picked_cell index (cell_in old place))) (IsCell-picked_cell index (cell_in old place) (was.each place))

-- ---- a new table

pub IsTable-none : (size : ℕ) (cells : BTreeMap ℕ Cell) (listed : List ℕ) → cells.entries ≡ [] → IsTable size cells listed
IsTable-none size cells listed none =
    let absent : (place : ℕ) → get nat_cmp cells place ≡ None = λ place. ap (lookup (is_at (nat_cmp place))) none in
    let blank : (place : ℕ) → cell_in cells place ≡ blank_cell = λ place. ap (λ (o : Option Cell). unwrap_or o blank_cell) (absent place) in
    record {
      inside = λ place past. ap is_some (absent place);
      all_listed = λ place. or_left (is_settled (cell_in cells place)) (list_any (nat_eq place) listed) (ap is_settled (blank place));
      each = λ place. subst IsCell (sym (blank place)) IsCell-blank_cell;
    }
