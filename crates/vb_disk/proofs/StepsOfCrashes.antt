-- The steps of a crash: tears from the last to the first, and picks from the first to the last.
use Rattle.std.proofs.Common.{◌≡◌, ℕ, zero, suc, ◌+◌, ◌<◌, ◌≤◌, Bool, true, false, cond, ◌&&◌, eqb, ltb, List, [], ◌∷◌, ◌++◌, length, get_or, take, drop, map, length-append, Option, Some, None, refl, sym, ap, subst, ◌∙◌, inl, inr, arith}
use Rattle.std.specs.BTreeMap.{BTreeMap}
use Rattle.std.proofs.lemmas.Bool.{cases_eq, cond-true, eq-eqb, ne_eqb, ltb-true, and_parts}
use Rattle.std.proofs.lemmas.List.{take_more, drop_more, map-append, same_from_push}
use Rattle.vb_disk.specs.declared.cell.Cell.{Cell}
use Rattle.vb_disk.specs.declared.crash.Pick.{Pick}
use Rattle.vb_disk.specs.declared.crash.Tear.{Tear}
use Rattle.vb_disk.specs.declared.crash.CrashRefused.{CrashRefused}
use Rattle.vb_disk.specs.declared.crash.CrashRefused.TheVariants.{NoSuchCandidate, NotOpen, NotAMiss}
use Rattle.vb_disk.specs.Cells.{candidates, is_settled, picked_cell, kept_cell, hurt_cell}
use Rattle.vb_disk.specs.Crashes.{has_candidate, page_of, pick_at, pick_refusal, tear_at, tear_refusal, with_pick, with_tear}
use Rattle.vb_disk.specs.Misses.{is_miss}
use Rattle.vb_disk.specs.Sparse.{cell_in, cells_of, ChangesOne}
use Rattle.vb_disk.proofs.Places.{cell_in-changed, is_settled-picked_cell}

-- ---- refusals, one by one

not_refused : {A : Type 0} (b : Bool) (rest : Option A) (reason : A) → cond b rest (Some reason) ≡ None → (b ≡ true) × (rest ≡ None)
not_refused true rest reason none = (refl, none)
not_refused false rest reason none = absurd (cc none)

passed_over : {A : Type 0} (b : Bool) (rest : Option A) (reason : A) → cond b (Some reason) rest ≡ None → (b ≡ false) × (rest ≡ None)
passed_over true rest reason none = absurd (cc none)
passed_over false rest reason none = (refl, none)

-- a pick that isn't refused has its candidate
pub pick_allowed : (size : ℕ) (cells : ℕ → Cell) (picks : List Pick) (n : ℕ) (p : Pick) → pick_refusal size cells picks ≡ None → n < length picks → get_or picks n p ≡ p → has_candidate size cells p ≡ true
pick_allowed size cells [] n p none within is = absurd (omega arith)
pick_allowed size cells (q ∷ qs) zero p none within is = subst (λ (x : Pick). has_candidate size cells x ≡ true) is (not_refused (has_candidate size cells q) (pick_refusal size cells qs) (NoSuchCandidate q.place) none).0
pick_allowed size cells (q ∷ qs) (suc n) p none within is = pick_allowed size cells qs n p (not_refused (has_candidate size cells q) (pick_refusal size cells qs) (NoSuchCandidate q.place) none).1 (omega arith) is

-- a place may be torn so
abbrev pub MayTear : (ℕ → Cell) → Tear → Type 0
MayTear cells t = (is_settled (cells t.place) ≡ false) × (is_miss (cells t.place) t.page ≡ true)

pub tear_head : (cells : ℕ → Cell) (t : Tear) (ts : List Tear) → tear_refusal cells (t ∷ ts) ≡ None → MayTear cells t × (tear_refusal cells ts ≡ None)
tear_head cells t ts none =
    let opened = passed_over (is_settled (cells t.place)) (cond (is_miss (cells t.place) t.page) (tear_refusal cells ts) (Some (NotAMiss t.place))) (NotOpen t.place) none in
    let missed = not_refused (is_miss (cells t.place) t.page) (tear_refusal cells ts) (NotAMiss t.place) opened.1 in
    ((opened.0, missed.0), missed.1)

-- a tear that isn't refused may be made
pub tear_allowed : (cells : ℕ → Cell) (torn : List Tear) (n : ℕ) (t : Tear) → tear_refusal cells torn ≡ None → n < length torn → get_or torn n t ≡ t → MayTear cells t
tear_allowed cells [] n t none within is = absurd (omega arith)
tear_allowed cells (u ∷ us) zero t none within is = subst (MayTear cells) is (tear_head cells u us none).0
tear_allowed cells (u ∷ us) (suc n) t none within is = tear_allowed cells us n t (tear_head cells u us none).1 (omega arith) is

-- ---- tears

-- a tear leaves the candidates
pub candidates-with_tear : (tear : Option (List ℕ)) (cell : Cell) → candidates (with_tear tear cell) ≡ candidates cell
candidates-with_tear None cell = refl
candidates-with_tear (Some page) cell = refl

pub is_settled-with_tear : (tear : Option (List ℕ)) (cell : Cell) → is_settled (with_tear tear cell) ≡ is_settled cell
is_settled-with_tear None cell = refl
is_settled-with_tear (Some page) cell = refl

pub is_miss-with_tear : (tear : Option (List ℕ)) (cell : Cell) (bytes : List ℕ) → is_miss (with_tear tear cell) bytes ≡ is_miss cell bytes
is_miss-with_tear None cell bytes = refl
is_miss-with_tear (Some page) cell bytes = refl

hurt_cell-with_tear : (tear : Option (List ℕ)) (cell : Cell) (page : List ℕ) → hurt_cell (with_tear tear cell) page ≡ hurt_cell cell page
hurt_cell-with_tear None cell page = refl
hurt_cell-with_tear (Some other) cell page = refl

-- one tear before others
pub tear_before : (here : Bool) (page : List ℕ) (rest : Option (List ℕ)) (cell : Cell) → cond here (hurt_cell (with_tear rest cell) page) (with_tear rest cell) ≡ with_tear (cond here (Some page) rest) cell
tear_before true page rest cell = hurt_cell-with_tear rest cell page
tear_before false page rest cell = refl

-- the places as far as the tears from the k-th on were made
pub record IsTearing (torn : List Tear) (old new : BTreeMap ℕ Cell) (k : ℕ) : Type 0 where
  pub within : k ≤ length torn
  pub so_far : (place : ℕ) → cell_in new place ≡ with_tear (tear_at place (drop k torn)) (cell_in old place)

eqb-flip : (a b : ℕ) → eqb a b ≡ eqb b a
eqb-flip a b = elim (cases_eq a b) [
  | inl same ↦ eq-eqb a b same ∙ sym (eq-eqb b a (sym same))
  | inr apart ↦ ne_eqb a b apart ∙ sym (ne_eqb b a (λ same. apart (sym same)))
]

-- one more, before those that were made
pub IsTearing-more : (torn : List Tear) (old mid new : BTreeMap ℕ Cell) (n : ℕ) (t : Tear) (page : List ℕ) → IsTearing torn old mid (n + 1) → get_or torn n t ≡ t → page ≡ t.page → ChangesOne mid new t.place (hurt_cell (cell_in mid t.place) page) → IsTearing torn old new n
IsTearing-more torn old mid new n t page tearing is read change = record {
  within = omega (arith, tearing.within);
  so_far = λ place.
      let rest = drop (n + 1) torn in
      let whole : drop n torn ≡ t ∷ rest = drop_more torn n t (omega (arith, tearing.within)) ∙ ap (λ (u : Tear). u ∷ rest) is in
      cell_in-changed (λ cell. hurt_cell cell page) mid new t.place change place
      ∙ ap (λ (cell : Cell). cond (eqb place t.place) (hurt_cell cell page) cell) (tearing.so_far place)
      ∙ tear_before (eqb place t.place) page (tear_at place rest) (cell_in old place)
      ∙ ap (λ (b : Bool). with_tear (cond b (Some page) (tear_at place rest)) (cell_in old place)) (eqb-flip place t.place)
      ∙ ap (λ (p : List ℕ). with_tear (cond (eqb t.place place) (Some p) (tear_at place rest)) (cell_in old place)) read
      ∙ ap (λ (ts : List Tear). with_tear (tear_at place ts) (cell_in old place)) (sym whole);
}

-- the last of the pages that are left is that of the tear at its place
pub last_page : (torn : List Tear) (pages : List (List ℕ)) (page : List ℕ) (t : Tear) → length pages < length torn → pages ++ page ∷ [] ≡ map page_of (take (length pages + 1) torn) → get_or torn (length pages) t ≡ t → (pages ≡ map page_of (take (length pages) torn)) × (page ≡ t.page)
last_page torn pages page t within is at =
    let n = length pages in
    let parts : map page_of (take (n + 1) torn) ≡ map page_of (take n torn) ++ t.page ∷ [] =
    ap (map page_of) (take_more torn n t within ∙ ap (λ (u : Tear). take n torn ++ u ∷ []) at) ∙ map-append page_of (take n torn) (t ∷ []) in
    same_from_push pages (map page_of (take n torn)) page t.page (is ∙ parts)

-- ---- picks

-- the one, and else the other
abbrev pub first_of_both : {A : Type 0} → Option A → Option A → Option A
first_of_both None other = other
first_of_both (Some x) other = Some x

-- a pick more, after others
pick_at-push : (place : ℕ) (ps : List Pick) (p : Pick) → pick_at place (ps ++ p ∷ []) ≡ first_of_both (pick_at place ps) (cond (eqb p.place place) (Some p.index) None)
pick_at-push place [] p = refl
pick_at-push place (q ∷ qs) p = elim (eqb q.place place) as (λ b. cond b (Some q.index) (pick_at place (qs ++ p ∷ [])) ≡ first_of_both (cond b (Some q.index) (pick_at place qs)) (cond (eqb p.place place) (Some p.index) None)) [
  | true ↦ refl
  | false ↦ pick_at-push place qs p
]

-- a place that was picked before has one candidate alone
pick_after : (before : Option ℕ) (here : Bool) (index : ℕ) (cell : Cell) → cond here (picked_cell index (with_pick before cell)) (with_pick before cell) ≡ with_pick (first_of_both before (cond here (Some index) None)) cell
pick_after None true index cell = refl
pick_after None false index cell = refl
pick_after (Some i) false index cell = refl
pick_after (Some i) true index cell = cond-true (is_settled (picked_cell i cell)) (picked_cell i cell) (kept_cell (picked_cell i cell) index) (is_settled-picked_cell i cell)

-- the places as far as the first k picks were made
pub record IsPicking (picks : List Pick) (old new : BTreeMap ℕ Cell) (k : ℕ) : Type 0 where
  pub so_far : (place : ℕ) → cell_in new place ≡ with_pick (pick_at place (take k picks)) (cell_in old place)

-- one pick more
pub IsPicking-more : (picks : List Pick) (old mid new : BTreeMap ℕ Cell) (k : ℕ) (p : Pick) → IsPicking picks old mid k → k < length picks → get_or picks k p ≡ p → ChangesOne mid new p.place (picked_cell p.index (cell_in mid p.place)) → IsPicking picks old new (k + 1)
IsPicking-more picks old mid new k p picking within is change = record {
  so_far = λ place.
      let so_far = take k picks in
      let whole : take (k + 1) picks ≡ so_far ++ p ∷ [] = take_more picks k p within ∙ ap (λ (q : Pick). so_far ++ q ∷ []) is in
      cell_in-changed (λ cell. picked_cell p.index cell) mid new p.place change place
      ∙ ap (λ (cell : Cell). cond (eqb place p.place) (picked_cell p.index cell) cell) (picking.so_far place)
      ∙ ap (λ (b : Bool). cond b (picked_cell p.index (with_pick (pick_at place so_far) (cell_in old place))) (with_pick (pick_at place so_far) (cell_in old place))) (eqb-flip place p.place)
      ∙ pick_after (pick_at place so_far) (eqb p.place place) p.index (cell_in old place)
      ∙ ap (λ (pick : Option ℕ). with_pick pick (cell_in old place)) (sym (pick_at-push place so_far p))
      ∙ ap (λ (ps : List Pick). with_pick (pick_at place ps) (cell_in old place)) (sym whole);
}

-- where a place still has several candidates, no pick was made there, and the pick that is due names one of them
pub pick_there : (before : Option ℕ) (cell : Cell) (index : ℕ) → index < length (candidates cell) → is_settled (with_pick before cell) ≡ false → index ≤ length (with_pick before cell).later
pick_there None cell index within unsettled = omega arith
pick_there (Some i) cell index within unsettled = let settled = is_settled-picked_cell i cell in absurd (cc (settled, unsettled))

-- the picks are refused as before where all places have the candidates that they had
pub pick_refusal-same : (size : ℕ) (old new : ℕ → Cell) → ((place : ℕ) → candidates (new place) ≡ candidates (old place)) → (picks : List Pick) → pick_refusal size new picks ≡ pick_refusal size old picks
pick_refusal-same size old new same [] = refl
pick_refusal-same size old new same (p ∷ ps) =
    ap (λ (all : List (List ℕ)). cond (ltb p.place size && ltb p.index (length all)) (pick_refusal size new ps) (Some (NoSuchCandidate p.place))) (same p.place)
    ∙ ap (λ (rest : Option CrashRefused). cond (ltb p.place size && ltb p.index (length (candidates (old p.place)))) rest (Some (NoSuchCandidate p.place))) (pick_refusal-same size old new same ps)

-- ---- what each step of the loops needs and gives

-- one tear, the last that is left
pub record TearStep (torn : List Tear) (old mid : BTreeMap ℕ Cell) (pages : List (List ℕ)) (page : List ℕ) (t : Tear) : Type 0 where
  pub several : is_settled (cell_in mid t.place) ≡ false
  pub miss : is_miss (cell_in mid t.place) page ≡ true
  pub pages_left : pages ≡ map page_of (take (length pages) torn)
  pub more : (new : BTreeMap ℕ Cell) → ChangesOne mid new t.place (hurt_cell (cell_in mid t.place) page) → IsTearing torn old new (length pages)

tear_step_at : (size : ℕ) (torn : List Tear) (old mid : BTreeMap ℕ Cell) (pages : List (List ℕ)) (page : List ℕ) (t : Tear) → tear_refusal (cells_of old) torn ≡ None → pages ++ page ∷ [] ≡ map page_of (take (length pages + 1) torn) → IsTearing torn old mid (length pages + 1) → get_or torn (length pages) t ≡ t → TearStep torn old mid pages page t
tear_step_at size torn old mid pages page t none are tearing is =
    let within : length pages < length torn = omega (arith, tearing.within) in
    let last = last_page torn pages page t within are is in
    let allowed = tear_allowed (cells_of old) torn (length pages) t none within is in
    let before = tear_at t.place (drop (length pages + 1) torn) in
    record {
      several = ap is_settled (tearing.so_far t.place) ∙ is_settled-with_tear before (cell_in old t.place) ∙ allowed.0;
      miss = ap (λ (cell : Cell). is_miss cell page) (tearing.so_far t.place) ∙ is_miss-with_tear before (cell_in old t.place) page ∙ ap (λ (bytes : List ℕ). is_miss (cell_in old t.place) bytes) last.1 ∙ allowed.1;
      pages_left = last.0;
      more = λ new change. IsTearing-more torn old mid new (length pages) t page tearing is last.1 change;
    }

pub tear_step : (size : ℕ) (torn : List Tear) (old mid : BTreeMap ℕ Cell) (all pages : List (List ℕ)) (page : List ℕ) (n : ℕ) (t : Tear) → tear_refusal (cells_of old) torn ≡ None → all ≡ pages ++ page ∷ [] → all ≡ map page_of (take (length all) torn) → IsTearing torn old mid (length all) → n ≡ length pages → t ≡ get_or torn n t → TearStep torn old mid pages page (get_or torn n t)
tear_step size torn old mid all pages page n t none split are tearing at is =
    let long : length all ≡ length pages + 1 = ap length split ∙ length-append pages (page ∷ []) in
    let read : get_or torn n (get_or torn n t) ≡ get_or torn n t = ap (λ (d : Tear). get_or torn n d) (sym is) in
    let here : get_or torn (length pages) (get_or torn n t) ≡ get_or torn n t = ap (λ (k : ℕ). get_or torn k (get_or torn n t)) (sym at) ∙ read in
    tear_step_at size torn old mid pages page (get_or torn n t) none (sym split ∙ are ∙ ap (λ (k : ℕ). map page_of (take k torn)) long) (subst (λ (k : ℕ). IsTearing torn old mid k) long tearing) here

-- one pick, the next
pub record PickStep (size : ℕ) (picks : List Pick) (old mid : BTreeMap ℕ Cell) (k : ℕ) (p : Pick) : Type 0 where
  pub within : p.place < size
  pub there : is_settled (cell_in mid p.place) ≡ false → p.index ≤ length (cell_in mid p.place).later
  pub more : (new : BTreeMap ℕ Cell) → ChangesOne mid new p.place (picked_cell p.index (cell_in mid p.place)) → IsPicking picks old new (k + 1)

pub get_or-any : {X : Type 0} (xs : List X) (i : ℕ) (d e : X) → i < length xs → get_or xs i d ≡ get_or xs i e
get_or-any [] i d e within = absurd (omega arith)
get_or-any (x ∷ xs) zero d e within = refl
get_or-any (x ∷ xs) (suc i) d e within = get_or-any xs i d e (omega arith)

pick_step_at : (size : ℕ) (picks : List Pick) (old mid : BTreeMap ℕ Cell) (k : ℕ) (p : Pick) → pick_refusal size (cells_of old) picks ≡ None → IsPicking picks old mid k → k < length picks → get_or picks k p ≡ p → PickStep size picks old mid k p
pick_step_at size picks old mid k p none picking within is =
    let allowed = and_parts (ltb p.place size) (ltb p.index (length (candidates (cell_in old p.place)))) (pick_allowed size (cells_of old) picks k p none within is) in
    let before = pick_at p.place (take k picks) in
    record {
      within = ltb-true p.place size allowed.0;
      there = λ unsettled.
          let now = picking.so_far p.place in
          let index_there = pick_there before (cell_in old p.place) p.index (ltb-true p.index (length (candidates (cell_in old p.place))) allowed.1) (sym (ap is_settled now) ∙ unsettled) in
          subst (λ (cell : Cell). p.index ≤ length cell.later) (sym now) index_there;
      more = λ new change. IsPicking-more picks old mid new k p picking within is change;
    }

pub pick_step : (size size' : ℕ) (picks : List Pick) (old mid : BTreeMap ℕ Cell) (k : ℕ) (d : Pick) → pick_refusal size (cells_of old) picks ≡ None → size' ≡ size → IsPicking picks old mid k → k < length picks → PickStep size' picks old mid k (get_or picks k d)
pick_step size size' picks old mid k d none same picking within =
    subst (λ (s : ℕ). PickStep s picks old mid k (get_or picks k d)) (sym same) (pick_step_at size picks old mid k (get_or picks k d) none picking within (get_or-any picks k (get_or picks k d) d within))
