-- The tree that nodes have where all bytes are zeros: each table of nodes has one of its shape.
use Rattle.std.specs.Prelude.{List, map, replicate, Option}
use Rattle.vb_index.specs.declared.held.Held.{Held}
use Rattle.vb_index.specs.Nodes.{kind_of}
use Rattle.vb_tree.specs.declared.tree.TreeEntry.{TreeEntry}
use Rattle.vb_store.specs.Recovered.{Placed, placed_in}

-- the entry of a node at its path, with zeros as its bytes
abbrev pub blank_entry : Placed → TreeEntry
blank_entry p = record { path = p.path; kind = kind_of p.held.node; bytes = replicate p.held.node.length 0 }

-- the entries of nodes in path order
abbrev pub blank_tree : List (Option Held) → List TreeEntry
blank_tree nodes = map blank_entry (placed_in nodes)
