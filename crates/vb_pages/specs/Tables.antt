-- Which pages a table keeps.
use Rattle.std.specs.Prelude.{◌≡◌, ℕ, ◌-◌, ◌&&◌, ◌==◌, nat_le, if◌then◌else◌, List, slice_get, Option, Some, None}
use Rattle.std.specs.Option.{option_map, option_or}
use Rattle.std.specs.declared.cmp.Ordering.{Ordering}
use Rattle.std.specs.Ordering.{is_eq, nat_cmp, ordering_then}
use Rattle.std.specs.Map.{lookup}
use Rattle.vb_pages.specs.declared.kept.KeptPage.{KeptPage}
use Rattle.vb_pages.specs.declared.kept.PageKey.{PageKey}

-- the order of keys: by slot, and by page within a slot
abbrev pub key_order : PageKey → PageKey → Ordering
key_order a b = ordering_then (nat_cmp a.slot b.slot) (nat_cmp a.page b.page)

-- the key of a page of a slot
abbrev pub key_of : ℕ → ℕ → PageKey
key_of slot page = record { slot = slot; page = page }

-- what a table has under a key
abbrev pub kept_at : List (PageKey × KeptPage) → PageKey → Option KeptPage
kept_at pages key = lookup (λ k. is_eq (key_order key k)) pages

-- the page of a slot that a table keeps
abbrev pub kept_page : List (PageKey × KeptPage) → ℕ → ℕ → Option (List ℕ)
kept_page pages slot page = option_map (λ kept. kept.page) (kept_at pages (key_of slot page))

-- this page of the slot became these bytes, and each other one is as it was
abbrev pub Puts : List (PageKey × KeptPage) → List (PageKey × KeptPage) → ℕ → ℕ → List ℕ → Type 0
Puts old new slot page bytes = (s k : ℕ) → kept_page new s k ≡ (if s == slot && k == page then Some bytes else kept_page old s k)

-- this page of the slot is gone, and each other one is as it was
abbrev pub Forgets : List (PageKey × KeptPage) → List (PageKey × KeptPage) → ℕ → ℕ → Type 0
Forgets old new slot page = (s k : ℕ) → kept_page new s k ≡ (if s == slot && k == page then None else kept_page old s k)

-- the slot has no page from the first one on, and each other one is as it was
abbrev pub Cuts : List (PageKey × KeptPage) → List (PageKey × KeptPage) → ℕ → ℕ → Type 0
Cuts old new slot first = (s k : ℕ) → kept_page new s k ≡ (if s == slot && nat_le first k then None else kept_page old s k)

-- a page that is kept
abbrev pub kept_of : List ℕ → KeptPage
kept_of bytes = record { page = bytes }

-- what a run has under a key, where it begins with this page of the slot
abbrev pub run_at : {X : Type 0} → ℕ → ℕ → List X → PageKey → Option X
run_at slot first run key = if key.slot == slot && nat_le first key.page then slice_get run (key.page - first) else None

-- the run's pages are those of the slot from the first one on, and each other one is as it was
abbrev pub PutsRun : List (PageKey × KeptPage) → List (PageKey × KeptPage) → ℕ → ℕ → List (List ℕ) → Type 0
PutsRun old new slot first run = (s k : ℕ) → kept_page new s k ≡ option_or (run_at slot first run (key_of s k)) (kept_page old s k)
