-- How a store divides its places: the heads, a home for each node, a place of the journal for each node, and then places
-- of data.
use Rattle.std.specs.Prelude.{ℕ, ◌+◌, ◌-◌, ◌*◌, ◌/◌, ◌≤◌, Bool, ◌&&◌, nat_le}
use Rattle.vb_geometry.specs.declared.geometry.TheConstants.{HEADS, LEAST_NODES, MOST_NODES, MOST_BLOCKS, LEAST_PAGES}

-- how many blocks and how many nodes a store has
pub record StoreSize : Type 0 where
  pub blocks : ℕ
  pub nodes : ℕ

-- the home of a node's slot: the homes follow the heads
abbrev pub home_place : ℕ → ℕ
home_place slot = HEADS + slot

-- the place of the journal's ith image, counted from 0: the journal follows the homes
abbrev pub journal_place : ℕ → ℕ → ℕ
journal_place nodes i = HEADS + nodes + i

-- the first data place: the data places follow the journal, which has as many places as there are homes
abbrev pub data_start : ℕ → ℕ
data_start nodes = HEADS + 2 * nodes

-- how many pages a tree of a store may have: half of the data places, since two views of it may stand on the disk at once
abbrev pub page_limit : ℕ → ℕ → ℕ
page_limit blocks nodes = (blocks - data_start nodes) / 2

-- a store may have so many blocks and nodes
pub record IsStoreSize (blocks nodes : ℕ) : Type 0 where
  pub least_nodes : LEAST_NODES ≤ nodes
  pub most_nodes : nodes ≤ MOST_NODES
  pub most_blocks : blocks ≤ MOST_BLOCKS
  pub least_pages : LEAST_PAGES ≤ page_limit blocks nodes

-- whether a store may have so many blocks and nodes
abbrev pub is_store_size : ℕ → ℕ → Bool
is_store_size blocks nodes =
    nat_le LEAST_NODES nodes && nat_le nodes MOST_NODES && nat_le blocks MOST_BLOCKS && nat_le LEAST_PAGES (page_limit blocks nodes)
