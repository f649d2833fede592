-- Places of planned pages: what calls leave of their candidates.
use Rattle.std.proofs.Common.{◌≡◌, ◌≢◌, ℕ, suc, ◌+◌, ◌<◌, ◌≤◌, Bool, true, false, cond, eqb, ◌==◌, List, [], ◌∷◌, ◌++◌, All, length, get_or, count_by, refl, sym, ap, subst, ◌∙◌, arith, length-append}
use Rattle.std.proofs.lemmas.Bool.{eq-eqb}
use Rattle.std.proofs.lemmas.List.{map-append}
use Rattle.std.proofs.lemmas.List.Elements.{All-cons, All-get_or, All-head, All-nil, All-push, All-tail, All-weaker}
use Rattle.std.proofs.lemmas.List.Sums.{sum_by-cons}
use Rattle.vb_disk.specs.declared.cell.Cell.{Cell}
use Rattle.vb_disk.specs.Cells.{candidates, synced_cell, written_cell}
use Rattle.vb_disk.specs.States.{DiskCall, DiskState, Resize, Sync, Write, after_call, written}
use Rattle.vb_journal.proofs.DataPlaces.{IsBelow, is_sync_call}
use Rattle.vb_journal.proofs.TriedCells.{written-elsewhere, written-here}
use Rattle.vb_plan.specs.declared.plan_page.PlanPage.{PlanPage}
use Rattle.vb_plan.specs.Laws.{place_of}
use Rattle.vb_commit.specs.Known.{IsEvery, IsLast, newest, places_of}
use Rattle.vb_commit.specs.Ways.{bytes_in}

-- ---- one cell

last_of : (xs : List (List ℕ)) (page d : List ℕ) → get_or (xs ++ page ∷ []) (length xs) d ≡ page
last_of [] page d = refl
last_of (x ∷ xs) page d = last_of xs page d

-- what was written is the newest
pub newest-written : (cell : Cell) (page : List ℕ) → newest (written_cell cell page) ≡ page
newest-written cell page =
    let more : length (cell.later ++ page ∷ []) ≡ suc (length cell.later) = omega (arith, length-append cell.later (page ∷ [])) in
    ap (λ (n : ℕ). get_or (cell.first ∷ (cell.later ++ page ∷ [])) n cell.first) more ∙ last_of cell.later page cell.first

-- what each candidate is, the newest is
pub newest-every : (P : List ℕ → Type 0) (cell : Cell) → All P (candidates cell) → P (newest cell)
newest-every P cell every = All-get_or P (candidates cell) (length cell.later) cell.first (omega arith) every

-- ---- places that a call doesn't write

-- a place from there on that a call below doesn't write
pub call-leaves : (from : ℕ) (d : DiskState) (call : DiskCall) (place : ℕ) → IsBelow from call → from ≤ place → (after_call d call).cells place ≡ cond (is_sync_call call) (synced_cell (d.cells place)) (d.cells place)
call-leaves from d (Write at page) place below past = written-elsewhere d at place page (λ same. omega arith)
call-leaves from d Sync place below past = refl
call-leaves from d (Resize blocks) place below past = absurd below

-- ---- one page

pub last-same : (source : ℕ → ℕ → List ℕ) (d e : DiskState) (p : PlanPage) → e.cells (place_of p) ≡ d.cells (place_of p) → IsLast source d p → IsLast source e p
last-same source d e p same is = ap (λ (c : Cell). newest c) same ∙ is

pub every-same : (source : ℕ → ℕ → List ℕ) (d e : DiskState) (p : PlanPage) → e.cells (place_of p) ≡ d.cells (place_of p) → IsEvery source d p → IsEvery source e p
every-same source d e p same is = subst (λ (c : Cell). All (λ page. page ≡ bytes_in source p) (candidates c)) (sym same) is

-- a sync leaves the last candidate alone
pub every-synced : (source : ℕ → ℕ → List ℕ) (d e : DiskState) (p : PlanPage) → e.cells (place_of p) ≡ synced_cell (d.cells (place_of p)) → IsLast source d p → IsEvery source e p
every-synced source d e p same is =
    let Q : List ℕ → Type 0 = λ page. page ≡ bytes_in source p in
    subst (λ (c : Cell). All (λ page. page ≡ bytes_in source p) (candidates c)) (sym same) (All-cons Q (newest (d.cells (place_of p))) [] is (All-nil Q))

-- where every candidate is the page, the last one is
pub every-last : (source : ℕ → ℕ → List ℕ) (d : DiskState) (p : PlanPage) → IsEvery source d p → IsLast source d p
every-last source d p is = newest-every (λ page. page ≡ bytes_in source p) (d.cells (place_of p)) is

every-cond : (source : ℕ → ℕ → List ℕ) (d e : DiskState) (p : PlanPage) (b : Bool) → e.cells (place_of p) ≡ cond b (synced_cell (d.cells (place_of p))) (d.cells (place_of p)) → IsEvery source d p → IsEvery source e p
every-cond source d e p true same is = every-synced source d e p same (every-last source d p is)
every-cond source d e p false same is = every-same source d e p same is

-- ---- all pages

-- the pages lie from there on
abbrev pub AreFrom : ℕ → List PlanPage → Type 0
AreFrom from pages = All (λ p. from ≤ place_of p) pages

pub all-both : {X : Type 0} (P Q R : X → Type 0) → ((x : X) → P x → Q x → R x) → (xs : List X) → All P xs → All Q xs → All R xs
all-both P Q R both xs each also k d within = both (get_or xs k d) (each k d within) (also k d within)

-- every candidate stays the page at a call below
pub every-call : (source : ℕ → ℕ → List ℕ) (from : ℕ) (d : DiskState) (call : DiskCall) (pages : List PlanPage) → IsBelow from call → AreFrom from pages → All (IsEvery source d) pages → All (IsEvery source (after_call d call)) pages
every-call source from d call pages below past is =
    all-both (λ (p : PlanPage). from ≤ place_of p) (IsEvery source d) (IsEvery source (after_call d call))
    (λ p over every. every-cond source d (after_call d call) p (is_sync_call call) (call-leaves from d call (place_of p) below over) every) pages past is

-- the last candidate stays the page at a write below, and is the only one after a sync
pub last-write : (source : ℕ → ℕ → List ℕ) (from : ℕ) (d : DiskState) (place : ℕ) (bytes : List ℕ) (pages : List PlanPage) → place < from → AreFrom from pages → All (IsLast source d) pages → All (IsLast source (written d place bytes)) pages
last-write source from d place bytes pages below past is =
    all-both (λ (p : PlanPage). from ≤ place_of p) (IsLast source d) (IsLast source (written d place bytes))
    (λ p over last. last-same source d (written d place bytes) p (written-elsewhere d place (place_of p) bytes (λ same. omega arith)) last) pages past is

pub last-sync : (source : ℕ → ℕ → List ℕ) (d : DiskState) (pages : List PlanPage) → All (IsLast source d) pages → All (IsEvery source (after_call d Sync)) pages
last-sync source d pages is = All-weaker (IsLast source d) (IsEvery source (after_call d Sync)) (λ p last. every-synced source d (after_call d Sync) p refl last) pages is

-- where each of their places stands they stay
pub last-stand : (source : ℕ → ℕ → List ℕ) (from : ℕ) (d e : DiskState) (pages : List PlanPage) → ((place : ℕ) → from ≤ place → e.cells place ≡ d.cells place) → AreFrom from pages → All (IsLast source d) pages → All (IsLast source e) pages
last-stand source from d e pages stands past is =
    all-both (λ (p : PlanPage). from ≤ place_of p) (IsLast source d) (IsLast source e) (λ p over last. last-same source d e p (stands (place_of p) over) last) pages past is

pub every-stand : (source : ℕ → ℕ → List ℕ) (from : ℕ) (d e : DiskState) (pages : List PlanPage) → ((place : ℕ) → from ≤ place → e.cells place ≡ d.cells place) → AreFrom from pages → All (IsEvery source d) pages → All (IsEvery source e) pages
every-stand source from d e pages stands past is =
    all-both (λ (p : PlanPage). from ≤ place_of p) (IsEvery source d) (IsEvery source e) (λ p over every. every-same source d e p (stands (place_of p) over) every) pages past is

-- ---- the write of a page

-- a write to another place leaves them, and one of a page makes it the last candidate
pub last-beside : (source : ℕ → ℕ → List ℕ) (d : DiskState) (place : ℕ) (bytes : List ℕ) (pages : List PlanPage) → All (λ p. place_of p ≢ place) pages → All (IsLast source d) pages → All (IsLast source (written d place bytes)) pages
last-beside source d place bytes pages apart is =
    all-both (λ (p : PlanPage). place_of p ≢ place) (IsLast source d) (IsLast source (written d place bytes))
    (λ p other last. last-same source d (written d place bytes) p (written-elsewhere d place (place_of p) bytes other) last) pages apart is

pub last-placed : (source : ℕ → ℕ → List ℕ) (d : DiskState) (pages : List PlanPage) (p : PlanPage) → All (λ q. place_of q ≢ place_of p) pages → All (IsLast source d) pages → All (IsLast source (written d (place_of p) (bytes_in source p))) (pages ++ p ∷ [])
last-placed source d pages p apart is =
    let e = written d (place_of p) (bytes_in source p) in
    let here : IsLast source e p = ap (λ (c : Cell). newest c) (written-here d (place_of p) (bytes_in source p)) ∙ newest-written (d.cells (place_of p)) (bytes_in source p) in
    All-push (IsLast source e) pages p (last-beside source d (place_of p) (bytes_in source p) pages apart is) here

-- ---- places that differ

-- how often a number stands in a list
abbrev times_in : ℕ → List ℕ → ℕ
times_in place places = count_by (λ p. p == place) places

times-cons : (place x : ℕ) (xs : List ℕ) → times_in place (x ∷ xs) ≡ cond (eqb x place) 1 0 + times_in place xs
times-cons place x xs = sum_by-cons (λ (y : ℕ). cond (eqb y place) 1 0) x xs

times-here : (place x : ℕ) (xs : List ℕ) → x ≡ place → times_in place (x ∷ xs) ≡ 1 + times_in place xs
times-here place x xs is = times-cons place x xs ∙ ap (λ (b : Bool). cond b 1 0 + times_in place xs) (eq-eqb x place is)

one-in : (place : ℕ) (before after : List ℕ) → 1 ≤ times_in place (before ++ place ∷ after)
one-in place [] after = omega (arith, times-here place place after refl)
one-in place (x ∷ before) after = omega (arith, times-cons place x (before ++ place ∷ after), one-in place before after)

-- where a place stands once it is none of those before it
apart-of : (p : PlanPage) (before after : List PlanPage) → times_in (place_of p) (places_of (before ++ p ∷ after)) ≤ 1 → All (λ q. place_of q ≢ place_of p) before
apart-of p [] after once = All-nil (λ (q : PlanPage). place_of q ≢ place_of p)
apart-of p (q ∷ before) after once =
    let others = places_of (before ++ p ∷ after) in
    let there : 1 ≤ times_in (place_of p) others = subst (λ (ps : List ℕ). 1 ≤ times_in (place_of p) ps) (sym (map-append place_of before (p ∷ after))) (one-in (place_of p) (places_of before) (places_of after)) in
    All-cons (λ (x : PlanPage). place_of x ≢ place_of p) q before
    (λ same. omega (arith, once, there, times-here (place_of p) (place_of q) others same))
    (apart-of p before after (omega (arith, once, times-cons (place_of p) (place_of q) others)))

-- so each planned page has a place of its own
pub apart-in : (plan : List PlanPage) (p : PlanPage) (before after : List PlanPage) → before ++ p ∷ after ≡ plan → ((place : ℕ) → times_in place (places_of plan) ≤ 1) → All (λ q. place_of q ≢ place_of p) before
apart-in plan p before after is once = apart-of p before after (subst (λ (pages : List PlanPage). times_in (place_of p) (places_of pages) ≤ 1) (sym is) (once (place_of p)))

all-front : {X : Type 0} (P : X → Type 0) (before after : List X) → All P (before ++ after) → All P before
all-front P [] after each = All-nil P
all-front P (x ∷ before) after each = All-cons P x before (All-head P x (before ++ after) each) (all-front P before after (All-tail P x (before ++ after) each))

-- and what is true of all of them is true of those that were placed
pub all-placed : (P : PlanPage → Type 0) (plan before after : List PlanPage) → before ++ after ≡ plan → All P plan → All P before
all-placed P plan before after is each = all-front P before after (subst (λ (pages : List PlanPage). All P pages) (sym is) each)
