-- Worked plans: a store of 16 nodes, whose data places begin at 34.
use Rattle.std.specs.Prelude.{◌≡◌, ℕ, ◌+◌, ◌-◌, List, [], ◌∷◌, ◌++◌, length, map, replicate, Option, Some, None}
use Rattle.std.specs.List.{range_with_len}
use Rattle.vb_block.specs.declared.digest.Ref.{Ref}
use Rattle.vb_inode.specs.declared.node.NodeKind.TheVariants.{Folder, File}
use Rattle.vb_inode.specs.declared.next_view.NextNode.{NextNode}
use Rattle.vb_inode.specs.declared.next_view.PageSource.{PageSource}
use Rattle.vb_inode.specs.declared.next_view.PageSource.TheVariants.{Kept, Fresh}
use Rattle.vb_inode.specs.Layout.{map_page}
use Rattle.vb_index.specs.declared.held.Held.{Held}
use Rattle.vb_index.specs.Nodes.{root_held}
use Rattle.vb_plan.specs.declared.plan_page.PlanPage.{PlanPage}
use Rattle.vb_plan.specs.declared.plan_page.PlanPage.TheVariants.{Data, Map}
use Rattle.vb_plan.specs.Laws.{changed_slots}
use Rattle.vb_plan.specs.Plans.{Basis, plan_of, steps_due}

-- the root of the next view
abbrev pub root_next : NextNode
root_next = record { node = root_held.node; pages = [] }

-- a folder of the next view, in this slot and right below the root
abbrev pub folder_next : ℕ → List ℕ → NextNode
folder_next slot name = record {
  node = record { slot = slot; kind = Folder; parent = 0; name = name; length = 0; maps = [] };
  pages = [];
}

-- a file of the next view there
abbrev pub file_next : ℕ → List ℕ → ℕ → List PageSource → NextNode
file_next slot name len pages = record {
  node = record { slot = slot; kind = File; parent = 0; name = name; length = len; maps = [] };
  pages = pages;
}

-- what a slot holds of a folder right below the root
abbrev pub folder_held : ℕ → List ℕ → Option Held
folder_held slot name = Some (record {
  node = record { slot = slot; kind = Folder; parent = 0; name = name; length = 0; maps = [] };
  refs = [];
})

-- what a slot holds of a file there
abbrev pub file_held : ℕ → List ℕ → ℕ → List Ref → List Ref → Option Held
file_held slot name len maps refs = Some (record {
  node = record { slot = slot; kind = File; parent = 0; name = name; length = len; maps = maps };
  refs = refs;
})

-- a reference to this place, with a digest of one byte, which is enough to tell pages apart
abbrev pub at : ℕ → ℕ → Ref
at place byte = record { place = place; digest = byte ∷ [] }

-- the root and what the next slots hold, of 16 slots, and the free places
abbrev pub basis : List (Option Held) → List ℕ → Basis
basis held free = record { nodes = Some root_held ∷ held ++ replicate (15 - length held) None; free = free }

-- what is worked out of a plan: its pages, the slots of its images, and its steps
pub record Outcome : Type 0 where
  pub pages : List PlanPage
  pub images : List ℕ
  pub steps : ℕ

-- what comes of a plan
abbrev pub outcome : Basis → List NextNode → Outcome
outcome b next = record { pages = (plan_of b next).pages; images = changed_slots b next; steps = steps_due (plan_of b next) }

-- in a store of 64 blocks: a file of one page is made, written, written again, renamed, and removed after a folder was
-- made; nothing changes; and two files are made at once, of which the second slot has the first path
pub record AreSmallPlans : Type 0 where
  pub made : outcome (basis [] (range_with_len 34 30)) (root_next ∷ file_next 1 (97 ∷ []) 5 (Fresh (1 ∷ []) ∷ []) ∷ [])
      ≡ record { pages = Data 1 0 (at 34 1) ∷ Map 35 (map_page (at 34 1 ∷ [])) ∷ []; images = 1 ∷ []; steps = 14 }
  pub written : outcome (basis (file_held 1 (97 ∷ []) 5 (at 35 9 ∷ []) (at 34 1 ∷ []) ∷ []) (range_with_len 36 28))
      (root_next ∷ file_next 1 (97 ∷ []) 6 (Fresh (2 ∷ []) ∷ []) ∷ [])
      ≡ record { pages = Data 1 0 (at 36 2) ∷ Map 37 (map_page (at 36 2 ∷ [])) ∷ []; images = 1 ∷ []; steps = 14 }
  pub written_again : outcome (basis (file_held 1 (97 ∷ []) 6 (at 37 9 ∷ []) (at 36 2 ∷ []) ∷ []) (34 ∷ 35 ∷ range_with_len 38 26))
      (root_next ∷ file_next 1 (97 ∷ []) 6 (Fresh (3 ∷ []) ∷ []) ∷ [])
      ≡ record { pages = Data 1 0 (at 34 3) ∷ Map 35 (map_page (at 34 3 ∷ [])) ∷ []; images = 1 ∷ []; steps = 14 }
  pub renamed : outcome (basis (file_held 1 (97 ∷ []) 6 (at 35 9 ∷ []) (at 34 3 ∷ []) ∷ []) (range_with_len 36 28))
      (root_next ∷ file_next 1 (98 ∷ []) 6 (Kept (at 34 3) ∷ []) ∷ [])
      ≡ record { pages = []; images = 1 ∷ []; steps = 12 }
  pub removed : outcome (basis (file_held 1 (98 ∷ []) 6 (at 35 9 ∷ []) (at 34 3 ∷ []) ∷ []) (range_with_len 36 28))
      (root_next ∷ folder_next 2 (100 ∷ []) ∷ [])
      ≡ record { pages = []; images = 1 ∷ 2 ∷ []; steps = 14 }
  pub unchanged : outcome (basis (None ∷ folder_held 2 (100 ∷ []) ∷ []) (range_with_len 34 30)) (root_next ∷ folder_next 2 (100 ∷ []) ∷ [])
      ≡ record { pages = []; images = []; steps = 10 }
  pub two : outcome (basis [] (range_with_len 34 30))
      (root_next ∷ file_next 2 (97 ∷ []) 1 (Fresh (1 ∷ []) ∷ []) ∷ file_next 1 (98 ∷ []) 1 (Fresh (2 ∷ []) ∷ []) ∷ [])
      ≡ record {
        pages = Data 2 0 (at 34 1) ∷ Map 35 (map_page (at 34 1 ∷ [])) ∷ Data 1 0 (at 36 2) ∷ Map 37 (map_page (at 36 2 ∷ [])) ∷ [];
        images = 1 ∷ 2 ∷ [];
        steps = 18;
      }

-- the references of a file's pages, of which so many stand at these places
abbrev pub run : ℕ → ℕ → List Ref
run first count = map (λ place. at place 7) (range_with_len first count)

-- what slot 1 holds of a file of 114 pages, as it is written into an empty store of 266 blocks
abbrev pub long_held : List (Option Held)
long_held = file_held 1 (97 ∷ []) 466944 (at 148 9 ∷ at 149 9 ∷ []) (run 34 114) ∷ []

-- what it holds once the first page was written anew
abbrev pub later_held : List (Option Held)
later_held = file_held 1 (97 ∷ []) 466944 (at 151 9 ∷ at 149 9 ∷ []) (at 150 8 ∷ run 35 113) ∷ []

-- what it holds once the file was cut to 113 pages
abbrev pub cut_held : List (Option Held)
cut_held = file_held 1 (97 ∷ []) 462848 (at 151 9 ∷ []) (at 150 8 ∷ run 35 112) ∷ []

-- pages that are kept
abbrev pub kept : List Ref → List PageSource
kept refs = map (λ r. Kept r) refs

-- in a store of 266 blocks: a file of 114 pages is made; its first page is written, and its second map page stays; it is
-- cut to 113 pages, and its first map page stays; it is cut to 112, and its map page lost a reference
pub record AreLongPlans : Type 0 where
  pub made : outcome (basis [] (range_with_len 34 232)) (root_next ∷ file_next 1 (97 ∷ []) 466944 (replicate 114 (Fresh (7 ∷ []))) ∷ [])
      ≡ record {
        pages = map (λ k. Data 1 k (at (34 + k) 7)) (range_with_len 0 114) ++ Map 148 (map_page (run 34 113)) ∷ Map 149 (map_page (run 147 1)) ∷ [];
        images = 1 ∷ [];
        steps = 128;
      }
  pub written : outcome (basis long_held (range_with_len 150 116)) (root_next ∷ file_next 1 (97 ∷ []) 466944 (Fresh (8 ∷ []) ∷ kept (run 35 113)) ∷ [])
      ≡ record { pages = Data 1 0 (at 150 8) ∷ Map 151 (map_page (at 150 8 ∷ run 35 112)) ∷ []; images = 1 ∷ []; steps = 14 }
  pub cut : outcome (basis later_held (34 ∷ 148 ∷ range_with_len 152 114)) (root_next ∷ file_next 1 (97 ∷ []) 462848 (kept (at 150 8 ∷ run 35 112)) ∷ [])
      ≡ record { pages = []; images = 1 ∷ []; steps = 12 }
  pub cut_again : outcome (basis cut_held (34 ∷ 147 ∷ 148 ∷ 149 ∷ range_with_len 152 114)) (root_next ∷ file_next 1 (97 ∷ []) 458752 (kept (at 150 8 ∷ run 35 111)) ∷ [])
      ≡ record { pages = Map 34 (map_page (at 150 8 ∷ run 35 111)) ∷ []; images = 1 ∷ []; steps = 13 }
