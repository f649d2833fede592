-- Map pages of nodes: which there are, and what is known of each.
use Rattle.std.specs.Prelude.{◌≡◌, ◌+◌, ◌≤◌, List, [], length, unwrap_or, Option}
use Rattle.std.specs.List.{flat_map}
use Rattle.vb_index.specs.declared.held.Held.{Held}
use Rattle.vb_index.specs.Nodes.{refs_at}
use Rattle.vb_inode.specs.declared.node.Node.{Node}
use Rattle.vb_tree.specs.Trees.{longest_file, map_pages_of}
use Rattle.vb_store.specs.declared.map_page.MapPage.{MapPage}
use Rattle.vb_store.specs.Metadata.{maps_of_node}

-- a node has as many map references as its length takes
pub record HasMaps (node : Node) : Type 0 where
  pub slot : node.slot ≤ 65536
  pub short : node.length ≤ longest_file
  pub mapped : length node.maps ≡ map_pages_of node.length

-- the map pages of nodes, by slot
unfoldable pub maps_of_nodes : List Node → List MapPage
maps_of_nodes nodes = flat_map maps_of_node nodes

-- a map page names some pages, at most 113 of them, of a file in a slot that a store may have
pub record IsMapPage (m : MapPage) : Type 0 where
  pub slot : m.slot ≤ 65536
  pub some : 1 ≤ m.count
  pub few : m.count ≤ 113

-- its file has them
abbrev pub IsOfFile : List (Option Held) → MapPage → Type 0
IsOfFile slots m = m.first + m.count ≤ length (unwrap_or (refs_at slots m.slot) [])
