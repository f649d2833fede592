-- The plan of a commit: which pages it writes and where, what each slot holds next, and the images of the journal.
use Rattle.std.specs.Prelude.{ℕ, ◌+◌, ◌*◌, ◌==◌, ◌&&◌, Bool, true, false, if◌then◌else◌, List, [], ◌∷◌, ◌++◌, length, replicate, slice_set, Option, Some, None}
use Rattle.std.specs.Option.{option_map}
use Rattle.std.specs.List.{flat_map, range_with_len}
use Rattle.std.specs.Str.{bytes_eq}
use Rattle.vb_block.specs.declared.digest.Ref.{Ref}
use Rattle.vb_inode.specs.declared.node.Node.{Node}
use Rattle.vb_inode.specs.declared.node.NodeKind.TheVariants.{Free}
use Rattle.vb_inode.specs.declared.next_view.NextNode.{NextNode}
use Rattle.vb_inode.specs.declared.next_view.PageSource.{PageSource}
use Rattle.vb_inode.specs.Layout.{kind_number, map_page, node_page}
use Rattle.vb_index.specs.declared.held.Held.{Held}
use Rattle.vb_index.specs.Nodes.{held_at}
use Rattle.vb_plan.specs.declared.plan_page.PlanPage.{PlanPage}
use Rattle.vb_plan.specs.declared.plan_page.PlanPage.TheVariants.{Data, Map}
use Rattle.vb_plan.specs.Sources.{fresh_count, pages_written, refs_from}
use Rattle.vb_plan.specs.Maps.{committed_refs, group_at, map_sources, same_refs}

-- what a plan stands on: the committed nodes by slot, and the places that no view uses, upwards
pub record Basis : Type 0 where
  pub nodes : List (Option Held)
  pub free : List ℕ

-- a plan: the pages to write, in order, what the slots hold next, in the order of the view, and the images of the journal
pub record PlanState : Type 0 where
  pub pages : List PlanPage
  pub nodes : List Held
  pub images : List (List ℕ)

-- ---- one node, after so many free places that are taken

-- the references that the pages of a node have next
abbrev pub data_refs : Basis → ℕ → NextNode → List Ref
data_refs basis taken x = refs_from basis.free taken x.pages

-- how many free places are taken once its pages have theirs
abbrev pub taken_by_data : ℕ → NextNode → ℕ
taken_by_data taken x = taken + fresh_count x.pages

-- where its map pages come from
abbrev pub maps_due : Basis → ℕ → NextNode → List PageSource
maps_due basis taken x = map_sources (committed_refs basis.nodes x.node.slot) (data_refs basis taken x)

-- what its slot holds next
abbrev pub held_next : Basis → ℕ → NextNode → Held
held_next basis taken x = record {
  node = record x.node { maps = refs_from basis.free (taken_by_data taken x) (maps_due basis taken x) };
  refs = data_refs basis taken x;
}

-- a page of data to write, in this slot and of this number
abbrev pub data_page : ℕ → ℕ → Ref → PlanPage
data_page slot number r = Data slot number r

-- a map page to write, with these references
abbrev pub map_of : List Ref → Ref → PlanPage
map_of group r = Map r.place (map_page group)

-- a map page to write, of this number in a file whose pages have these references
abbrev pub map_image : List Ref → ℕ → Ref → PlanPage
map_image refs number r = map_of (group_at number refs) r

-- what is written of it: its pages upwards, and then its map pages upwards
abbrev pub pages_next : Basis → ℕ → NextNode → List PlanPage
pages_next basis taken x =
    pages_written (data_page x.node.slot) basis.free taken 0 x.pages
    ++ pages_written (map_image (data_refs basis taken x)) basis.free (taken_by_data taken x) 0 (maps_due basis taken x)

-- how many free places are taken once all of it has its own
abbrev pub taken_by : Basis → ℕ → NextNode → ℕ
taken_by basis taken x = taken_by_data taken x + fresh_count (maps_due basis taken x)

-- ---- all nodes, one after the other

-- what the slots of these nodes hold next
abbrev pub all_held : Basis → ℕ → List NextNode → List Held
all_held basis taken [] = []
all_held basis taken (x ∷ next) = held_next basis taken x ∷ all_held basis (taken_by basis taken x) next

-- what is written of them
abbrev pub all_pages : Basis → ℕ → List NextNode → List PlanPage
all_pages basis taken [] = []
all_pages basis taken (x ∷ next) = pages_next basis taken x ++ all_pages basis (taken_by basis taken x) next

-- ---- the images

-- slots, once each of these nodes is in its own
abbrev pub with_held : List (Option Held) → List Held → List (Option Held)
with_held slots [] = slots
with_held slots (h ∷ held) = with_held (slice_set slots h.node.slot (Some h)) held

-- what each of so many slots holds where these are all nodes
abbrev pub by_slot : ℕ → List Held → List (Option Held)
by_slot slots held = with_held (replicate slots None) held

-- whether two nodes are one
abbrev pub same_node : Node → Node → Bool
same_node a b =
    a.slot == b.slot && kind_number a.kind == kind_number b.kind && a.parent == b.parent
    && bytes_eq a.name b.name && a.length == b.length && same_refs a.maps b.maps

-- whether a slot has the same node, or is free, in both
abbrev pub same_in_slot : Option Node → Option Node → Bool
same_in_slot None None = true
same_in_slot None (Some b) = false
same_in_slot (Some a) None = false
same_in_slot (Some a) (Some b) = same_node a b

-- the node of a slot, which is a free one where nothing is there
abbrev pub node_in : ℕ → Option Node → Node
node_in slot None = record { slot = slot; kind = Free; parent = 0; name = []; length = 0; maps = [] }
node_in slot (Some node) = node

-- the image of a slot, where its node changed
abbrev pub image_of : ℕ → Option Node → Option Node → List (List ℕ)
image_of slot old new = if same_in_slot old new then [] else node_page (node_in slot new) ∷ []

-- the node in a slot, None where it is free
abbrev pub node_at : List (Option Held) → ℕ → Option Node
node_at nodes slot = option_map (λ held. held.node) (held_at nodes slot)

-- the images of these slots
abbrev pub images_in : List (Option Held) → List (Option Held) → List ℕ → List (List ℕ)
images_in old new slots = flat_map (λ slot. image_of slot (node_at old slot) (node_at new slot)) slots

-- the images of the slots whose node changed, upwards
abbrev pub images_of : List (Option Held) → List Held → List (List ℕ)
images_of nodes held = images_in nodes (by_slot (length nodes) held) (range_with_len 0 (length nodes))

-- ---- the plan

-- the plan of a commit to a view of these nodes
abbrev pub plan_of : Basis → List NextNode → PlanState
plan_of basis next = record {
  pages = all_pages basis 0 next;
  nodes = all_held basis 0 next;
  images = images_of basis.nodes (all_held basis 0 next);
}

-- how many steps a commit takes by its plan: a write for each page, two for each image, and ten for heads and syncs
abbrev pub steps_due : PlanState → ℕ
steps_due plan = length plan.pages + 2 * length plan.images + 10
