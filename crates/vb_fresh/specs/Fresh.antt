-- A new store: what a format and one mount leave of a disk in memory.
use Rattle.std.specs.Prelude.{◌≡◌, ℕ, List, []}
use Rattle.vb_disk.specs.declared.memory_disk.MemoryDisk.{MemoryDisk}
use Rattle.vb_disk.specs.Memory.{failures_of, state_of}
use Rattle.vb_index.specs.Contents.{HasTree}
use Rattle.vb_journal.specs.Progress.{IsWholeAt}
use Rattle.vb_store.specs.declared.view.Mounted.{Mounted}
use Rattle.vb_store.specs.Clear.{first_candidates}
use Rattle.vb_store.specs.Formats.{made_head}
use Rattle.vb_store.specs.Views.{HasNoneBegun, empty_index}
use Rattle.vb_views.specs.AtRest.{IsAtRestFor}
use Rattle.vb_views.specs.Reads.{pages_by}

-- a store that was just made for this folder, of so many places and nodes, and mounted once: its head is the one that a
-- format leaves, at epoch 0 and with sequence 2, and its index has the root alone; its disk is at rest for this view, whose
-- tree is empty, has all places, none of them hurt, and fails at no call
pub record IsNewStore (id : List ℕ) (blocks nodes : ℕ) (m : Mounted MemoryDisk) : Type 0 where
  pub head : m.view.head ≡ made_head id blocks nodes
  pub index : m.view.index ≡ empty_index (made_head id blocks nodes)
  pub none_begun : HasNoneBegun m.view
  pub rests : IsAtRestFor m.view.head m.view.index (state_of m.disk)
  pub tree : HasTree m.view.index.nodes (pages_by (first_candidates (state_of m.disk)) m.view.index.nodes) []
  pub whole : (place : ℕ) → IsWholeAt (state_of m.disk) place
  pub seen : (state_of m.disk).size ≡ blocks
  pub failures : failures_of m.disk ≡ []
