-- Each call of a commit, made or lost, leaves its disk known.
use Rattle.std.proofs.Common.{◌≡◌, ℕ, ◌+◌, ◌*◌, ◌<◌, ◌≤◌, Bool, true, false, cond, ltb, List, [], ◌∷◌, ◌++◌, All, length, Option, refl, sym, ap, subst, ◌∙◌, inl, inr, arith, unwrap_or}
use Rattle.std.proofs.lemmas.Bool.{cases_lt, lt-ltb, le-ltb}
use Rattle.std.proofs.lemmas.List.{append_assoc}
use Rattle.std.proofs.lemmas.List.Elements.{All-weaker}
use Rattle.vb_disk.specs.States.{DiskCall, DiskState, Resize, Sync, Write, after_call, written}
use Rattle.vb_head.specs.declared.head.Head.{Head}
use Rattle.vb_journal.specs.declared.commit_stage.Stage.{Stage}
use Rattle.vb_journal.specs.declared.commit_stage.Stage.TheVariants.{Journal, Opening, Homes, Closing, Rested}
use Rattle.vb_journal.specs.declared.commit_stage.Turn.TheVariants.{First, FirstSync, Second, SecondSync}
use Rattle.vb_journal.specs.Images.{AreImages, image_at}
use Rattle.vb_journal.specs.Plans as journals
use Rattle.vb_journal.specs.Plans.{CanFinish, due_call, is_rested, next_stage}
use Rattle.vb_journal.specs.Progress.{IsAtRest, IsCommitting}
use Rattle.vb_journal.proofs.CommitRuns.{commit-lost, commit-made}
use Rattle.vb_journal.proofs.DataPlaces.{IsBelow, due_below}
use Rattle.vb_journal.proofs.Keeping.{HasSameCandidates-written, IsAtRest-same, IsCommitting-at_rest}
use Rattle.vb_journal.proofs.Resting.{IsAtRest-rested}
use Rattle.vb_plan.specs.declared.plan_page.PlanPage.{PlanPage}
use Rattle.vb_plan.specs.declared.plan_page.PlanPage.TheVariants.{Data, Map}
use Rattle.vb_plan.specs.Laws.{place_of}
use Rattle.vb_steps.specs.Calls.{ChangeMayFailTo, MayFailTo, after}
use Rattle.vb_commit.specs.Known.{AreWritten, IsCommittingFor, IsEvery, IsLast, JournalStands, StoreStands}
use Rattle.vb_commit.specs.Ways.{IsDataPage, IsGivenFrom, IsWay, WayState, bytes_in, call_at, given_bytes, next_of}
use Rattle.vb_commit.proofs.PageCells.{AreFrom, all-placed, apart-in, call-leaves, every-call, every-stand, last-beside, last-placed, last-stand, last-sync, last-write}

-- a commit on its way, of its parts
abbrev pub way : Head → ℕ → List (List ℕ) → List PlanPage → Stage → WayState
way head epoch images pages stage = record { head = head; epoch = epoch; images = images; pages = pages; stage = stage }

-- ---- pages

-- the bytes that are given are those of the view
pub given-bytes : (source : ℕ → ℕ → List ℕ) (p : PlanPage) (rest : List PlanPage) (given : Option (List ℕ)) → IsGivenFrom source (p ∷ rest) given → given_bytes p given ≡ bytes_in source p
given-bytes source (Data slot number r) rest given from = ap (λ (g : Option (List ℕ)). unwrap_or g []) from
given-bytes source (Map place image) rest given from = refl

-- where no page is left the journal's commit begins
pub store-placed : (homes journal : ℕ → List ℕ) (head : Head) (epoch : ℕ) (images : List (List ℕ)) (rest : List PlanPage) (d : DiskState) → CanFinish head epoch images → IsAtRest head homes journal d → StoreStands homes journal rest (way head epoch images rest (Journal 0)) d
store-placed homes journal head epoch images [] d can is = IsCommitting-at_rest head epoch images homes journal d can.opened.count can.images_are is
store-placed homes journal head epoch images (p ∷ rest) d can is = is

-- a write to a place of data leaves a store at rest
rest-written : (homes journal : ℕ → List ℕ) (head : Head) (p : PlanPage) (bytes : List ℕ) (d : DiskState) → IsDataPage head p → IsAtRest head homes journal d → IsAtRest head homes journal (written d (place_of p) bytes)
rest-written homes journal head p bytes d at is =
    IsAtRest-same head homes journal d (written d (place_of p) bytes) (HasSameCandidates-written (2 + 2 * head.nodes) d (place_of p) bytes at.above) is

page-made : (source : ℕ → ℕ → List ℕ) (homes journal : ℕ → List ℕ) (plan : List PlanPage) (head : Head) (epoch : ℕ) (images : List (List ℕ)) (p : PlanPage) (rest : List PlanPage) (bytes : List ℕ) (d : DiskState) → CanFinish head epoch images → IsDataPage head p → bytes ≡ bytes_in source p
    → IsCommittingFor source homes journal plan (way head epoch images (p ∷ rest) (Journal 0)) d
    → IsCommittingFor source homes journal plan (way head epoch images rest (Journal 0)) (written d (place_of p) bytes)
page-made source homes journal plan head epoch images p rest bytes d can at is k =
    let right : IsCommittingFor source homes journal plan (way head epoch images rest (Journal 0)) (written d (place_of p) (bytes_in source p)) = record {
      placed = k.placed ++ p ∷ [];
      of_plan = append_assoc k.placed (p ∷ []) rest ∙ k.of_plan;
      places = k.places;
      once = k.once;
      store = store-placed homes journal head epoch images rest (written d (place_of p) (bytes_in source p)) can (rest-written homes journal head p (bytes_in source p) d at k.store);
      pages = last-placed source d k.placed p (apart-in plan p k.placed rest k.of_plan k.once) k.pages;
    } in
    subst (λ (b : List ℕ). IsCommittingFor source homes journal plan (way head epoch images rest (Journal 0)) (written d (place_of p) b)) (sym is) right

page-lost : (source : ℕ → ℕ → List ℕ) (homes journal : ℕ → List ℕ) (plan : List PlanPage) (head : Head) (epoch : ℕ) (images : List (List ℕ)) (p : PlanPage) (rest : List PlanPage) (bytes : List ℕ) (d : DiskState) → IsDataPage head p
    → IsCommittingFor source homes journal plan (way head epoch images (p ∷ rest) (Journal 0)) d
    → IsCommittingFor source homes journal plan (way head epoch images (p ∷ rest) (Journal 0)) (written d (place_of p) bytes)
page-lost source homes journal plan head epoch images p rest bytes d at k = record {
  placed = k.placed;
  of_plan = k.of_plan;
  places = k.places;
  once = k.once;
  store = rest-written homes journal head p bytes d at k.store;
  pages = last-beside source d (place_of p) bytes k.placed (apart-in plan p k.placed rest k.of_plan k.once) k.pages;
}

-- ---- the journal

from-data : (head : Head) (pages : List PlanPage) → All (IsDataPage head) pages → AreFrom (2 + 2 * head.nodes) pages
from-data head pages each = All-weaker (IsDataPage head) (λ (p : PlanPage). 2 + 2 * head.nodes ≤ place_of p) (λ p at. at.above) pages each

stands-from : (head : Head) (epoch : ℕ) (images : List (List ℕ)) (homes journal : ℕ → List ℕ) (stage : Stage) (d : DiskState) → AreImages head.nodes images → IsCommitting head epoch images homes journal stage d → JournalStands head epoch images homes journal stage d
stands-from head epoch images homes journal (Journal next) d are is = is
stands-from head epoch images homes journal (Opening turn) d are is = is
stands-from head epoch images homes journal (Homes next) d are is = is
stands-from head epoch images homes journal (Closing turn) d are is = is
stands-from head epoch images homes journal Rested d are is = IsAtRest-rested head epoch images homes journal d are is

committing-from : (head : Head) (epoch : ℕ) (images : List (List ℕ)) (homes journal : ℕ → List ℕ) (stage : Stage) (d : DiskState) → is_rested stage ≡ false → JournalStands head epoch images homes journal stage d → IsCommitting head epoch images homes journal stage d
committing-from head epoch images homes journal (Journal next) d going is = is
committing-from head epoch images homes journal (Opening turn) d going is = is
committing-from head epoch images homes journal (Homes next) d going is = is
committing-from head epoch images homes journal (Closing turn) d going is = is
committing-from head epoch images homes journal Rested d going is = absurd (cc going)

-- the heads, the homes and the journal
journal-made : (head : Head) (epoch : ℕ) (images : List (List ℕ)) (homes journal : ℕ → List ℕ) (stage : Stage) (d : DiskState) → AreImages head.nodes images → is_rested stage ≡ false → JournalStands head epoch images homes journal stage d → JournalStands head epoch images homes journal (next_stage (length images) stage) (after d (journals.call_at head epoch images stage))
journal-made head epoch images homes journal stage d are going is =
    stands-from head epoch images homes journal (next_stage (length images) stage) (after d (journals.call_at head epoch images stage)) are
    (commit-made head epoch images homes journal stage d are (committing-from head epoch images homes journal stage d going is))

journal-lost : (head : Head) (epoch : ℕ) (images : List (List ℕ)) (homes journal : ℕ → List ℕ) (stage : Stage) (d left : DiskState) → CanFinish head epoch images → is_rested stage ≡ false → MayFailTo (journals.call_at head epoch images stage) d left → JournalStands head epoch images homes journal stage d → JournalStands head epoch images homes journal stage left
journal-lost head epoch images homes journal stage d left can going may is =
    stands-from head epoch images homes journal stage left can.images_are
    (commit-lost head epoch images homes journal stage d left can may (committing-from head epoch images homes journal stage d going is))

-- the pages while the journal is written, and at its first sync
written-in : (source : ℕ → ℕ → List ℕ) (pages : List PlanPage) (from next count place : ℕ) (image : List ℕ) (d : DiskState) → (next < count → place < from) → AreFrom from pages → All (IsLast source d) pages
    → AreWritten source pages (cond (ltb next count) (Journal (next + 1)) (Opening First)) (after_call d (cond (ltb next count) (Write place image) Sync))
written-in source pages from next count place image d low past is =
    let Q : Bool → Type 0 = λ b. AreWritten source pages (cond b (Journal (next + 1)) (Opening First)) (after_call d (cond b (Write place image) Sync)) in
    elim (cases_lt next count) [
      | inl more ↦ subst Q (sym (lt-ltb next count more)) (last-write source from d place image pages (low more) past is)
      | inr none ↦ subst Q (sym (le-ltb next count none)) (last-sync source d pages is)
    ]

written-late : (source : ℕ → ℕ → List ℕ) (pages : List PlanPage) (b : Bool) (next : ℕ) (d : DiskState) → All (IsEvery source d) pages → AreWritten source pages (cond b (Homes next) (Closing First)) d
written-late source pages true next d is = is
written-late source pages false next d is = is

pages-made : (source : ℕ → ℕ → List ℕ) (pages : List PlanPage) (head : Head) (epoch : ℕ) (images : List (List ℕ)) (stage : Stage) (d : DiskState) → CanFinish head epoch images → AreFrom (2 + 2 * head.nodes) pages → AreWritten source pages stage d
    → AreWritten source pages (next_stage (length images) stage) (after d (journals.call_at head epoch images stage))
pages-made source pages head epoch images (Journal next) d can past is =
    let few : length images ≤ head.nodes = can.opened.count in
    written-in source pages (2 + 2 * head.nodes) next (length images) (2 + head.nodes + next) (image_at images next) d (λ more. omega arith) past is
pages-made source pages head epoch images (Opening First) d can past is = every-call source (2 + 2 * head.nodes) d (due_call head epoch images (Opening First)) pages (due_below head epoch images (Opening First) can) past is
pages-made source pages head epoch images (Opening FirstSync) d can past is = every-call source (2 + 2 * head.nodes) d Sync pages tt past is
pages-made source pages head epoch images (Opening Second) d can past is = every-call source (2 + 2 * head.nodes) d (due_call head epoch images (Opening Second)) pages (due_below head epoch images (Opening Second) can) past is
pages-made source pages head epoch images (Opening SecondSync) d can past is = every-call source (2 + 2 * head.nodes) d Sync pages tt past is
pages-made source pages head epoch images (Homes next) d can past is =
    written-late source pages (ltb next (length images)) (next + 1) (after_call d (due_call head epoch images (Homes next)))
    (every-call source (2 + 2 * head.nodes) d (due_call head epoch images (Homes next)) pages (due_below head epoch images (Homes next) can) past is)
pages-made source pages head epoch images (Closing First) d can past is = every-call source (2 + 2 * head.nodes) d (due_call head epoch images (Closing First)) pages (due_below head epoch images (Closing First) can) past is
pages-made source pages head epoch images (Closing FirstSync) d can past is = every-call source (2 + 2 * head.nodes) d Sync pages tt past is
pages-made source pages head epoch images (Closing Second) d can past is = every-call source (2 + 2 * head.nodes) d (due_call head epoch images (Closing Second)) pages (due_below head epoch images (Closing Second) can) past is
pages-made source pages head epoch images (Closing SecondSync) d can past is = every-call source (2 + 2 * head.nodes) d Sync pages tt past is
pages-made source pages head epoch images Rested d can past is = is

-- a call below that failed leaves each place from there on
pub lost-leaves : (from : ℕ) (call : DiskCall) (d left : DiskState) → IsBelow from call → ChangeMayFailTo call d left → (place : ℕ) → from ≤ place → left.cells place ≡ d.cells place
lost-leaves from (Write at page) d left below (inl none) place past = ap (λ (s : DiskState). s.cells place) none
lost-leaves from (Write at page) d left below (inr made) place past = ap (λ (s : DiskState). s.cells place) made ∙ call-leaves from d (Write at page) place below past
lost-leaves from Sync d left below none place past = ap (λ (s : DiskState). s.cells place) none
lost-leaves from (Resize blocks) d left below none place past = absurd below

pages-lost : (source : ℕ → ℕ → List ℕ) (pages : List PlanPage) (head : Head) (epoch : ℕ) (images : List (List ℕ)) (stage : Stage) (d left : DiskState) → CanFinish head epoch images → AreFrom (2 + 2 * head.nodes) pages → MayFailTo (journals.call_at head epoch images stage) d left → AreWritten source pages stage d → AreWritten source pages stage left
pages-lost source pages head epoch images (Journal next) d left can past may is =
    last-stand source (2 + 2 * head.nodes) d left pages (lost-leaves (2 + 2 * head.nodes) (due_call head epoch images (Journal next)) d left (due_below head epoch images (Journal next) can) may) past is
pages-lost source pages head epoch images (Opening turn) d left can past may is =
    every-stand source (2 + 2 * head.nodes) d left pages (lost-leaves (2 + 2 * head.nodes) (due_call head epoch images (Opening turn)) d left (due_below head epoch images (Opening turn) can) may) past is
pages-lost source pages head epoch images (Homes next) d left can past may is =
    every-stand source (2 + 2 * head.nodes) d left pages (lost-leaves (2 + 2 * head.nodes) (due_call head epoch images (Homes next)) d left (due_below head epoch images (Homes next) can) may) past is
pages-lost source pages head epoch images (Closing turn) d left can past may is =
    every-stand source (2 + 2 * head.nodes) d left pages (lost-leaves (2 + 2 * head.nodes) (due_call head epoch images (Closing turn)) d left (due_below head epoch images (Closing turn) can) may) past is
pages-lost source pages head epoch images Rested d left can past may is = subst (λ (e : DiskState). AreWritten source pages Rested e) (sym may) is

journal-step : (source : ℕ → ℕ → List ℕ) (homes journal : ℕ → List ℕ) (plan : List PlanPage) (head : Head) (epoch : ℕ) (images : List (List ℕ)) (stage : Stage) (d : DiskState) → CanFinish head epoch images → is_rested stage ≡ false
    → IsCommittingFor source homes journal plan (way head epoch images [] stage) d
    → IsCommittingFor source homes journal plan (way head epoch images [] (next_stage (length images) stage)) (after d (journals.call_at head epoch images stage))
journal-step source homes journal plan head epoch images stage d can going k = record {
  placed = k.placed;
  of_plan = k.of_plan;
  places = k.places;
  once = k.once;
  store = journal-made head epoch images homes journal stage d can.images_are going k.store;
  pages = pages-made source k.placed head epoch images stage d can (from-data head k.placed (all-placed (IsDataPage head) plan k.placed [] k.of_plan k.places)) k.pages;
}

journal-gone : (source : ℕ → ℕ → List ℕ) (homes journal : ℕ → List ℕ) (plan : List PlanPage) (head : Head) (epoch : ℕ) (images : List (List ℕ)) (stage : Stage) (d left : DiskState) → CanFinish head epoch images → is_rested stage ≡ false → MayFailTo (journals.call_at head epoch images stage) d left
    → IsCommittingFor source homes journal plan (way head epoch images [] stage) d
    → IsCommittingFor source homes journal plan (way head epoch images [] stage) left
journal-gone source homes journal plan head epoch images stage d left can going may k = record {
  placed = k.placed;
  of_plan = k.of_plan;
  places = k.places;
  once = k.once;
  store = journal-lost head epoch images homes journal stage d left can going may k.store;
  pages = pages-lost source k.placed head epoch images stage d left can (from-data head k.placed (all-placed (IsDataPage head) plan k.placed [] k.of_plan k.places)) may k.pages;
}

-- the same at each stage: a commit at its end makes no call
journal-goes : (source : ℕ → ℕ → List ℕ) (homes journal : ℕ → List ℕ) (plan : List PlanPage) (head : Head) (epoch : ℕ) (images : List (List ℕ)) (stage : Stage) (d : DiskState) → CanFinish head epoch images
    → IsCommittingFor source homes journal plan (way head epoch images [] stage) d
    → IsCommittingFor source homes journal plan (way head epoch images [] (next_stage (length images) stage)) (after d (journals.call_at head epoch images stage))
journal-goes source homes journal plan head epoch images (Journal next) d can k = journal-step source homes journal plan head epoch images (Journal next) d can refl k
journal-goes source homes journal plan head epoch images (Opening turn) d can k = journal-step source homes journal plan head epoch images (Opening turn) d can refl k
journal-goes source homes journal plan head epoch images (Homes next) d can k = journal-step source homes journal plan head epoch images (Homes next) d can refl k
journal-goes source homes journal plan head epoch images (Closing turn) d can k = journal-step source homes journal plan head epoch images (Closing turn) d can refl k
journal-goes source homes journal plan head epoch images Rested d can k = k

journal-fails : (source : ℕ → ℕ → List ℕ) (homes journal : ℕ → List ℕ) (plan : List PlanPage) (head : Head) (epoch : ℕ) (images : List (List ℕ)) (stage : Stage) (d left : DiskState) → CanFinish head epoch images → MayFailTo (journals.call_at head epoch images stage) d left
    → IsCommittingFor source homes journal plan (way head epoch images [] stage) d
    → IsCommittingFor source homes journal plan (way head epoch images [] stage) left
journal-fails source homes journal plan head epoch images (Journal next) d left can may k = journal-gone source homes journal plan head epoch images (Journal next) d left can refl may k
journal-fails source homes journal plan head epoch images (Opening turn) d left can may k = journal-gone source homes journal plan head epoch images (Opening turn) d left can refl may k
journal-fails source homes journal plan head epoch images (Homes next) d left can may k = journal-gone source homes journal plan head epoch images (Homes next) d left can refl may k
journal-fails source homes journal plan head epoch images (Closing turn) d left can may k = journal-gone source homes journal plan head epoch images (Closing turn) d left can refl may k
journal-fails source homes journal plan head epoch images Rested d left can may k = subst (λ (e : DiskState). IsCommittingFor source homes journal plan (way head epoch images [] Rested) e) (sym may) k

-- ---- each call

parts-made : (source : ℕ → ℕ → List ℕ) (homes journal : ℕ → List ℕ) (plan : List PlanPage) (head : Head) (epoch : ℕ) (images : List (List ℕ)) (pages : List PlanPage) (stage : Stage) (given : Option (List ℕ)) (d : DiskState) → CanFinish head epoch images → IsWay (way head epoch images pages stage) → IsGivenFrom source pages given
    → IsCommittingFor source homes journal plan (way head epoch images pages stage) d
    → IsCommittingFor source homes journal plan (next_of (way head epoch images pages stage)) (after d (call_at (way head epoch images pages stage) given))
parts-made source homes journal plan head epoch images [] stage given d can is from k = journal-goes source homes journal plan head epoch images stage d can k
parts-made source homes journal plan head epoch images (p ∷ rest) stage given d can is from k =
    let at : IsDataPage head p = is.places 0 p (omega arith) in
    let Q : Stage → Type 0 = λ s. IsCommittingFor source homes journal plan (way head epoch images (p ∷ rest) s) d
    → IsCommittingFor source homes journal plan (way head epoch images rest s) (written d (place_of p) (given_bytes p given)) in
    subst Q (sym is.waits) (page-made source homes journal plan head epoch images p rest (given_bytes p given) d can at (given-bytes source p rest given from)) k

parts-lost : (source : ℕ → ℕ → List ℕ) (homes journal : ℕ → List ℕ) (plan : List PlanPage) (head : Head) (epoch : ℕ) (images : List (List ℕ)) (pages : List PlanPage) (stage : Stage) (given : Option (List ℕ)) (d left : DiskState) → CanFinish head epoch images → IsWay (way head epoch images pages stage) → MayFailTo (call_at (way head epoch images pages stage) given) d left
    → IsCommittingFor source homes journal plan (way head epoch images pages stage) d
    → IsCommittingFor source homes journal plan (way head epoch images pages stage) left
parts-lost source homes journal plan head epoch images [] stage given d left can is may k = journal-fails source homes journal plan head epoch images stage d left can may k
parts-lost source homes journal plan head epoch images (p ∷ rest) stage given d left can is (inl none) k = subst (λ (e : DiskState). IsCommittingFor source homes journal plan (way head epoch images (p ∷ rest) stage) e) (sym none) k
parts-lost source homes journal plan head epoch images (p ∷ rest) stage given d left can is (inr made) k =
    let at : IsDataPage head p = is.places 0 p (omega arith) in
    let Q : Stage → Type 0 = λ s. IsCommittingFor source homes journal plan (way head epoch images (p ∷ rest) s) d
    → IsCommittingFor source homes journal plan (way head epoch images (p ∷ rest) s) (written d (place_of p) (given_bytes p given)) in
    subst (λ (e : DiskState). IsCommittingFor source homes journal plan (way head epoch images (p ∷ rest) stage) e) (sym made)
    (subst Q (sym is.waits) (page-lost source homes journal plan head epoch images p rest (given_bytes p given) d at) k)

-- a call that was made leaves a known disk known on the way after it, and one that was lost as it was
pub way-made : (source : ℕ → ℕ → List ℕ) (homes journal : ℕ → List ℕ) (plan : List PlanPage) (s : WayState) (given : Option (List ℕ)) (d : DiskState) → IsWay s → IsGivenFrom source s.pages given → IsCommittingFor source homes journal plan s d → IsCommittingFor source homes journal plan (next_of s) (after d (call_at s given))
way-made source homes journal plan s given d is from k = parts-made source homes journal plan s.head s.epoch s.images s.pages s.stage given d is.can.finish is from k

pub way-lost : (source : ℕ → ℕ → List ℕ) (homes journal : ℕ → List ℕ) (plan : List PlanPage) (s : WayState) (given : Option (List ℕ)) (d left : DiskState) → IsWay s → MayFailTo (call_at s given) d left → IsCommittingFor source homes journal plan s d → IsCommittingFor source homes journal plan s left
way-lost source homes journal plan s given d left is may k = parts-lost source homes journal plan s.head s.epoch s.images s.pages s.stage given d left is.can.finish is may k
