-- The index that the nodes of a tree make.
use Rattle.std.specs.Prelude.{◌≡◌, ℕ, nat_lt, true, if◌then◌else◌, List, length, map, replicate, Option, Some, None, Result, Ok, Err}
use Rattle.std.specs.List.{sum_by}
use Rattle.vb_tree.specs.declared.tree.Limits.{Limits}
use Rattle.vb_tree.specs.Trees.{data_pages_of, pages_of_length}
use Rattle.vb_inode.specs.declared.node.Node.{Node}
use Rattle.vb_inode.specs.Nodes.{is_free}
use Rattle.vb_index.specs.declared.held.Held.{Held}
use Rattle.vb_index.specs.Changes.{blank_ref}
use Rattle.vb_index.specs.Indexes.{IndexState}
use Rattle.vb_index.specs.Nodes.{held_at}
use Rattle.vb_nodes.specs.declared.errors.TableError.{TableError}
use Rattle.vb_nodes.specs.declared.errors.TableError.TheVariants.{Wrong, TooManyPages, Memory}
use Rattle.vb_nodes.specs.Faults.{Fault, table_fault}
use Rattle.vb_nodes.specs.Paths.{node_at}

-- what an index holds of a node: nothing of a free one, and of any other one blank reference for each of its pages
abbrev pub held_from : Node → Option Held
held_from node = if is_free node.kind then None else Some (record { node = node; refs = replicate (data_pages_of node.length) blank_ref })

-- what an index holds of the nodes
abbrev pub held_of : List Node → List (Option Held)
held_of nodes = map held_from nodes

-- a node stands for what a slot holds: a free one for nothing, and else that of what is held, wherever its map pages lie
abbrev pub StandsFor : Option Held → Node → Type 0
StandsFor None node = is_free node.kind ≡ true
StandsFor (Some held) node = node ≡ record held.node { maps = node.maps }

-- there is a node for each slot, which stands for what the slot holds
pub record StandForAll (nodes : List Node) (held : List (Option Held)) : Type 0 where
  pub as_many : length nodes ≡ length held
  pub each : (slot : ℕ) → StandsFor (held_at held slot) (node_at nodes slot)

-- how many pages all files take, their map pages among them
abbrev pub pages_of_nodes : List Node → ℕ
pages_of_nodes nodes = sum_by (λ node. pages_of_length node.length) nodes

-- the fault, and else what comes next
abbrev pub refuse_fault : Option Fault → Result IndexState TableError → Result IndexState TableError
refuse_fault (Some fault) next = Err (Wrong fault.slot fault.why)
refuse_fault None next = next

-- the index of the nodes under limits: the first fault, or too many pages, or else what it holds of them
abbrev pub index_from : Limits → List Node → Result IndexState TableError
index_from limits nodes =
    refuse_fault (table_fault nodes)
    (if nat_lt limits.pages (pages_of_nodes nodes) then Err TooManyPages else Ok (record { limits = limits; nodes = held_of nodes }))

-- the answer tells this first fault, or that there is none, or memory ran out
abbrev pub IsJudged : {X : Type 0} → Option Fault → Result X TableError → Type 0
IsJudged fault (Ok x) = fault ≡ None
IsJudged fault (Err (Wrong slot why)) = fault ≡ Some (record { slot = slot; why = why })
IsJudged fault (Err TooManyPages) = ⊥
IsJudged fault (Err Memory) = Unit {0}

-- the answer is this index or refusal, or memory ran out
abbrev pub IsIndexed : Result IndexState TableError → Result IndexState TableError → Type 0
IsIndexed due (Ok index) = due ≡ Ok index
IsIndexed due (Err (Wrong slot why)) = due ≡ Err (Wrong slot why)
IsIndexed due (Err TooManyPages) = due ≡ Err TooManyPages
IsIndexed due (Err Memory) = Unit {0}
