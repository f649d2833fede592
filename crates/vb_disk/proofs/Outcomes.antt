-- What a crash that was told what to leave leaves is one of the outcomes of a crash.
use Rattle.std.proofs.Common.{◌≡◌, ℕ, Bool, true, false, cond, eqb, List, [], ◌∷◌, length, map, Option, Some, None, refl, sym, ap, subst, ◌∙◌, ◌⊎◌, inl, inr, arith}
use Rattle.std.specs.List.{All, Contains}
use Rattle.std.proofs.lemmas.Bool.{cases_lt, eqb-true, eqb-false}
use Rattle.std.proofs.lemmas.List.{get_or_past}
use Rattle.std.proofs.lemmas.List.Elements.{All-head, All-tail}
use Rattle.vb_block.specs.Pages.{IsPage}
use Rattle.vb_disk.specs.declared.cell.Cell.{Cell}
use Rattle.vb_disk.specs.declared.crash.Side.{Side}
use Rattle.vb_disk.specs.declared.crash.Side.TheVariants.{First, Last}
use Rattle.vb_disk.specs.declared.crash.Pick.{Pick}
use Rattle.vb_disk.specs.declared.crash.Tear.{Tear}
use Rattle.vb_disk.specs.declared.crash.CrashRefused.{CrashRefused}
use Rattle.vb_disk.specs.Cells.{candidates, candidate_at, is_settled, kept_cell, settled_cell, side_index, hurt_cell}
use Rattle.vb_disk.specs.Crashes.{IsTorn, MayCrashTo, crash_refusal, crashed, or_reason, page_of, pick_at, pick_refusal, tear_at, tear_refusal, with_pick, with_tear}
use Rattle.vb_disk.specs.Misses.{is_miss}
use Rattle.vb_disk.specs.States.{DiskState}
use Rattle.vb_disk.proofs.StepsOfCrashes.{get_or-any, tear_head}
use Rattle.vb_disk.proofs.TestsOfMisses.{is_miss-Decides}

-- the candidate at any position is one
Contains-candidate_at : (cell : Cell) (i : ℕ) → Contains (candidates cell) (candidate_at cell i)
Contains-candidate_at cell i = elim (cases_lt i (length (candidates cell))) [
  | inl within ↦ (i, within, get_or-any (candidates cell) i (candidate_at cell i) cell.first within)
  | inr past ↦ (0, omega arith, sym (get_or_past (candidates cell) i cell.first past))
]

-- so is the one that is left of one that was kept
kept_left : (rest : Side) (cell : Cell) (i : ℕ) → (settled_cell rest (kept_cell cell i)).first ≡ candidate_at cell i
kept_left First cell i = refl
kept_left Last cell i = refl

-- what is left after a pick was a candidate
Contains-picked : (rest : Side) (pick : Option ℕ) (cell : Cell) → Contains (candidates cell) (settled_cell rest (with_pick pick cell)).first
Contains-picked rest None cell = Contains-candidate_at cell (side_index rest cell)
Contains-picked rest (Some i) cell = elim (is_settled cell) as (λ b. Contains (candidates cell) (settled_cell rest (cond b cell (kept_cell cell i))).first) [
  | true ↦ Contains-candidate_at cell (side_index rest cell)
  | false ↦ subst (Contains (candidates cell)) (sym (kept_left rest cell i)) (Contains-candidate_at cell i)
]

-- a pick leaves what a place reads as
hurt-with_pick : (pick : Option ℕ) (cell : Cell) → (with_pick pick cell).hurt ≡ cell.hurt
hurt-with_pick None cell = refl
hurt-with_pick (Some i) cell = elim (is_settled cell) as (λ b. (cond b cell (kept_cell cell i)).hurt ≡ cell.hurt) [ true ↦ refl | false ↦ refl ]

-- a place is hurt as before, or newly torn
crashed_hurt : (rest : Side) (pick : Option ℕ) (tear : Option (List ℕ)) (cell : Cell) → ((page : List ℕ) → tear ≡ Some page → IsPage page) → ((page : List ℕ) → tear ≡ Some page → (is_settled cell ≡ false) × (is_miss cell page ≡ true)) → ((settled_cell rest (with_pick pick (with_tear tear cell))).hurt ≡ cell.hurt) ⊎ IsTorn cell (settled_cell rest (with_pick pick (with_tear tear cell)))
crashed_hurt rest pick None cell pages may = inl (hurt-with_pick pick cell)
crashed_hurt rest pick (Some page) cell pages may =
    let allowed = may page refl in
    let unsettled = eqb-false (length cell.later) 0 allowed.0 in
    inr (record {
      several = omega arith;
      bytes = page;
      reads = hurt-with_pick pick (hurt_cell cell page);
      page = pages page refl;
      miss = (is_miss-Decides cell page).0 allowed.1;
    })

crashed_picked : (rest : Side) (pick : Option ℕ) (tear : Option (List ℕ)) (cell : Cell) → Contains (candidates cell) (settled_cell rest (with_pick pick (with_tear tear cell))).first
crashed_picked rest pick None cell = Contains-picked rest pick cell
crashed_picked rest pick (Some page) cell = Contains-picked rest pick (hurt_cell cell page)

here_or_later : (cells : ℕ → Cell) (place : ℕ) (t : Tear) (ts : List Tear) (page : List ℕ) (b : Bool) → eqb t.place place ≡ b → (is_settled (cells t.place) ≡ false) × (is_miss (cells t.place) t.page ≡ true) → (tear_at place ts ≡ Some page → (is_settled (cells place) ≡ false) × (is_miss (cells place) page ≡ true)) → cond b (Some t.page) (tear_at place ts) ≡ Some page → (is_settled (cells place) ≡ false) × (is_miss (cells place) page ≡ true)
here_or_later cells place t ts page true at here later is =
    let same : t.page ≡ page = cc is in
    let there = eqb-true t.place place at in
    (ap (λ (q : ℕ). is_settled (cells q)) (sym there) ∙ here.0, ap (λ (q : ℕ). is_miss (cells q) page) (sym there) ∙ ap (λ (bytes : List ℕ). is_miss (cells t.place) bytes) (sym same) ∙ here.1)
here_or_later cells place t ts page false at here later is = later is

-- the first tear of a place isn't refused where no tear is
first_tear_allowed : (cells : ℕ → Cell) (place : ℕ) (torn : List Tear) (page : List ℕ) → tear_refusal cells torn ≡ None → tear_at place torn ≡ Some page → (is_settled (cells place) ≡ false) × (is_miss (cells place) page ≡ true)
first_tear_allowed cells place [] page none is = absurd (cc is)
first_tear_allowed cells place (t ∷ ts) page none is =
    let head = tear_head cells t ts none in
    here_or_later cells place t ts page (eqb t.place place) refl head.0 (λ later. first_tear_allowed cells place ts page head.1 later) is

page_here : (b : Bool) (t : Tear) (rest : Option (List ℕ)) (page : List ℕ) → IsPage t.page → (rest ≡ Some page → IsPage page) → cond b (Some t.page) rest ≡ Some page → IsPage page
page_here true t rest page here later is = let same : t.page ≡ page = cc is in subst IsPage same here
page_here false t rest page here later is = later is

-- what a place is torn to is one of the pages
tear_page : (place : ℕ) (torn : List Tear) (page : List ℕ) → All IsPage (map page_of torn) → tear_at place torn ≡ Some page → IsPage page
tear_page place [] page all is = absurd (cc is)
tear_page place (t ∷ ts) page all is =
    page_here (eqb t.place place) t (tear_at place ts) page (All-head IsPage t.page (map page_of ts) all) (λ later. tear_page place ts page (All-tail IsPage t.page (map page_of ts) all) later) is

or_none : (a b : Option CrashRefused) → or_reason a b ≡ None → (a ≡ None) × (b ≡ None)
or_none None b none = (refl, none)
or_none (Some reason) b none = absurd (cc none)

pub MayCrashTo-crashed : (rest : Side) (picks : List Pick) (torn : List Tear) (d : DiskState) → All IsPage (map page_of torn) → crash_refusal d picks torn ≡ None → MayCrashTo d (crashed rest picks torn d)
MayCrashTo-crashed rest picks torn d pages none =
    let parts = or_none (pick_refusal d.size d.cells picks) (tear_refusal d.cells torn) none in
    record {
      size = refl;
      writes = refl;
      resizes = refl;
      synced_at = refl;
      each = λ place. record {
        picked = crashed_picked rest (pick_at place picks) (tear_at place torn) (d.cells place);
        alone = refl;
        hurt = crashed_hurt rest (pick_at place picks) (tear_at place torn) (d.cells place) (λ page is. tear_page place torn page pages is) (λ page is. first_tear_allowed d.cells place torn page parts.1 is);
      };
    }

pub or_none_from : (a b : Option CrashRefused) → a ≡ None → b ≡ None → or_reason a b ≡ None
or_none_from None b first second = second
or_none_from (Some reason) b first second = absurd (cc first)
