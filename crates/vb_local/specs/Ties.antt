-- How the views in memory hang together: the live one, the frozen one, and the committed and the next nodes.
use Rattle.std.specs.Prelude.{◌≡◌, ℕ, ◌≤◌, List, [], ◌∷◌, length, slice_get, Option, Some, None, IsSome, unwrap_or}
use Rattle.std.specs.List.{All}
use Rattle.std.specs.Option.{option_map}
use Rattle.sha2.specs.Sha256.{sha256}
use Rattle.vb_block.specs.declared.digest.Ref.{Ref}
use Rattle.vb_index.specs.declared.held.Held.{Held}
use Rattle.vb_index.specs.Indexes.{IndexState}
use Rattle.vb_index.specs.Nodes.{pages_in}
use Rattle.vb_pages.specs.declared.kept.KeptPage.{KeptPage}
use Rattle.vb_pages.specs.declared.kept.PageKey.{PageKey}
use Rattle.vb_pages.specs.Tables.{kept_page}
use Rattle.vb_active.specs.Views.{ActiveState, IsOut, ref_at}
use Rattle.vb_frozen.specs.declared.entry.FrozenEntry.{FrozenEntry}
use Rattle.vb_frozen.specs.Orders.{refs_in}
use Rattle.vb_frozen.specs.Sources.{next_of}
use Rattle.vb_plan.specs.declared.plan_page.PlanPage.{PlanPage}
use Rattle.vb_plan.specs.declared.plan_page.PlanPage.TheVariants.{Data, Map}
use Rattle.vb_plan.specs.Following.{CanFollow}

-- ---- what contracts see of a frozen view

-- a frozen view: its entries in path order, and the pages that it keeps in memory
pub record FrozenState : Type 0 where
  pub order : List FrozenEntry
  pub pages : List (PageKey × KeptPage)

-- the reference of a page of a slot in an order, None where there is no such page
abbrev pub ref_in : List FrozenEntry → ℕ → ℕ → Option Ref
ref_in order slot page = slice_get (refs_in order slot) page

-- a page of a frozen view isn't kept in memory, and this is its reference
pub record IsFrozenOut (view : FrozenState) (slot page : ℕ) (reference : Ref) : Type 0 where
  pub at : ref_in view.order slot page ≡ Some reference
  pub apart : kept_page view.pages slot page ≡ None

-- a frozen view has each page that it keeps in memory
abbrev pub KeepsEntries : FrozenState → Type 0
KeepsEntries view = (slot page : ℕ) → IsSome (kept_page view.pages slot page) → IsSome (ref_in view.order slot page)

-- a frozen view has fewer entries than a store may have nodes, since the root is none
abbrev pub HasFewEntries : FrozenState → Type 0
HasFewEntries view = length view.order ≤ 65535

-- ---- what a view has out of memory

-- these nodes have each page that the live view has out of memory, with the same reference
abbrev pub LiveRelies : List (Option Held) → ActiveState → Type 0
LiveRelies nodes live = (slot page : ℕ) (reference : Ref) → IsOut live slot page reference → ref_at nodes slot page ≡ Some reference

-- these nodes have each page that the frozen view has out of memory, with the same reference
abbrev pub FrozenRelies : List (Option Held) → FrozenState → Type 0
FrozenRelies nodes frozen = (slot page : ℕ) (reference : Ref) → IsFrozenOut frozen slot page reference → ref_at nodes slot page ≡ Some reference

-- the frozen view has each page that the live view has out of memory, out of memory too and with the same reference
abbrev pub LiveFollows : FrozenState → ActiveState → Type 0
LiveFollows frozen live = (slot page : ℕ) (reference : Ref) → IsOut live slot page reference → IsFrozenOut frozen slot page reference

-- ---- what is so at each stage of a commit

-- the files of a live view take no more pages than its limits
abbrev pub KeepsLimits : ActiveState → Type 0
KeepsLimits live = pages_in live.index.nodes ≤ live.index.limits.pages

-- the live view over the committed nodes, at each stage: it has their limits, and what it has out of memory is committed
pub record IsLiveOver (committed : IndexState) (live : ActiveState) : Type 0 where
  pub limits : live.index.limits ≡ committed.limits
  pub relies : LiveRelies committed.nodes live

-- at rest: the frozen view keeps no page in memory, and is committed
pub record IsFrozenAtRest (committed : IndexState) (frozen : FrozenState) : Type 0 where
  pub none : (slot page : ℕ) → kept_page frozen.pages slot page ≡ None
  pub relies : FrozenRelies committed.nodes frozen
  pub few : HasFewEntries frozen

-- frozen, and not planned yet: it can be committed over the committed nodes
pub record IsFrozenOver (committed : IndexState) (frozen : FrozenState) : Type 0 where
  pub can : CanFollow committed (next_of frozen.order frozen.pages)
  pub entries : KeepsEntries frozen
  pub relies : FrozenRelies committed.nodes frozen

-- the next nodes have each page that the frozen view keeps in memory, with its digest
abbrev pub HaveDigests : List (Option Held) → FrozenState → Type 0
HaveDigests nodes frozen = (slot page : ℕ) (bytes : List ℕ) → kept_page frozen.pages slot page ≡ Some bytes
    → option_map (λ r. r.digest) (ref_at nodes slot page) ≡ Some (sha256 bytes)

-- a planned page of data is one that the frozen view keeps in memory, with its digest
abbrev pub IsKeptIn : List (PageKey × KeptPage) → PlanPage → Type 0
IsKeptIn pages (Data slot page r) = option_map sha256 (kept_page pages slot page) ≡ Some r.digest
IsKeptIn pages (Map place image) = Unit {0}

-- planned: the next nodes are those of the frozen view, with what it has out of memory and the digests of what it keeps
-- there, and it keeps the pages that are left to be written
pub record IsFrozenUnder (next : List (Option Held)) (left : List PlanPage) (frozen : FrozenState) : Type 0 where
  pub entries : KeepsEntries frozen
  pub relies : FrozenRelies next frozen
  pub digests : HaveDigests next frozen
  pub kept : All (IsKeptIn frozen.pages) left
  pub few : HasFewEntries frozen

-- ---- the pages of a commit

-- the page of data that is given where the first of these pages is written, and none where that is none of data
abbrev pub given_of : List PlanPage → FrozenState → Option (List ℕ)
given_of [] frozen = None
given_of (Data slot page r ∷ left) frozen = kept_page frozen.pages slot page
given_of (Map place image ∷ left) frozen = None

-- the pages of data of a commit by slot and number: those that the frozen view keeps in memory
abbrev pub source_in : FrozenState → ℕ → ℕ → List ℕ
source_in frozen slot page = unwrap_or (kept_page frozen.pages slot page) []
