-- What a page reads as.
use Rattle.std.specs.Prelude.{◌≡◌, ℕ, ◌*◌, ◌<◌, ◌^◌, if◌then◌else◌, List, ◌++◌, length, drop, Result, Ok, Err, MatchResult}
use Rattle.std.specs.List.{flat_map}
use Rattle.std.specs.Str.{bytes_eq}
use Rattle.sha2.specs.Sha256.{sha256}
use Rattle.vb_block.specs.Pages.{IsSealed, seal_of, sealed_part}
use Rattle.vb_block.specs.declared.why.Why.{Why}
use Rattle.vb_block.specs.declared.why.Why.TheVariants.{Rest}
use Rattle.vb_block.specs.declared.digest.Ref.{Ref}
use Rattle.vb_inode.specs.declared.node.Node.{Node}
use Rattle.vb_inode.specs.declared.node.NodeKind.{NodeKind}
use Rattle.vb_inode.specs.declared.errors.NodeError.{NodeError}
use Rattle.vb_inode.specs.declared.errors.NodeError.TheVariants.{Unsealed, Wrong, Memory}
use Rattle.vb_inode.specs.Nodes.{IsInRange}
use Rattle.vb_inode.specs.declared.errors.MapError.{MapError}
use Rattle.vb_inode.specs.declared.errors.MapError.TheVariants.{Wrong as WrongMap, Memory as NoMemory}
use Rattle.vb_inode.specs.Layout.{Fields, FitsBlock, sealed_bytes, node_page, ref_bytes, AreRefs, fields_in, refs_in}
use Rattle.vb_inode.specs.Checks.{are_zeros, checked, name_in}

-- the page is sealed, and these fields stand in it
pub record Holds (page : List ℕ) (f : Fields) : Type 0 where
  pub is_sealed : IsSealed page
  pub fits : FitsBlock f
  pub spelled : sealed_part page ≡ sealed_bytes f

-- the node is one of a store of so many nodes
pub record IsNodeOf (nodes : ℕ) (node : Node) : Type 0 where
  pub slot : node.slot < 2 ^ 32
  pub parent : node.parent < nodes
  pub in_range : IsInRange node
  pub refs : AreRefs node.maps

-- the references are the first ones in the bytes, so many of them
pub record AreRefsIn (count : ℕ) (bytes : List ℕ) (refs : List Ref) : Type 0 where
  pub counted : length refs ≡ count
  pub are_refs : AreRefs refs
  pub spelled : bytes ≡ flat_map ref_bytes refs ++ drop (36 * count) bytes

-- the node has what the fields say, and this kind
pub record IsMadeOf (kind : NodeKind) (f : Fields) (node : Node) : Type 0 where
  pub slot : node.slot ≡ f.slot
  pub is_kind : node.kind ≡ kind
  pub parent : node.parent ≡ f.parent
  pub name : node.name ≡ name_in f
  pub file_length : node.length ≡ f.file_length
  pub maps : AreRefsIn f.map_count f.maps node.maps

-- the answer that the checks of the fields ask for
abbrev pub AnswersBy : Fields → Result NodeKind Why → Result Node NodeError → Type 0
AnswersBy f (Err why) result = result ≡ Err (Wrong why)
AnswersBy f (Ok kind) result = MatchResult result (λ node. IsMadeOf kind f node) (λ e. e ≡ Memory)

-- the answer to these fields in a store of so many nodes
abbrev pub Answers : ℕ → Fields → Result Node NodeError → Type 0
Answers nodes f result = AnswersBy f (checked nodes f) result

-- the answer is due to a page: a node only where the page is that node's, both seals only where they
-- differ, and a check only where it is the first that the fields of a sealed page fail
abbrev pub IsDueTo : ℕ → List ℕ → Result Node NodeError → Type 0
IsDueTo nodes page (Ok node) = IsNodeOf nodes node × (page ≡ node_page node)
IsDueTo nodes page (Err (Unsealed kept found)) =
    (IsSealed page → ⊥) × (kept ≡ seal_of page) × (found ≡ sha256 (sealed_part page))
IsDueTo nodes page (Err (Wrong why)) = (f : Fields) × Holds page f × (checked nodes f ≡ Err why)
IsDueTo nodes page (Err Memory) = Unit {0}

-- the result is this value, or memory ran out
abbrev pub IsReadAs : {X E : Type 0} → X → E → Result X E → Type 0
IsReadAs x memory (Ok y) = y ≡ x
IsReadAs x memory (Err e) = e ≡ memory

-- ---- reading as a function

-- the node of this kind that the fields say
abbrev pub node_from : NodeKind → Fields → Node
node_from kind f = record {
  slot = f.slot;
  kind = kind;
  parent = f.parent;
  name = name_in f;
  length = f.file_length;
  maps = refs_in f.map_count f.maps;
}

-- the node of the kind that the checks of the fields give, or the first check that fails
abbrev pub node_by : Result NodeKind Why → Fields → Result Node NodeError
node_by (Ok kind) f = Ok (node_from kind f)
node_by (Err why) f = Err (Wrong why)

-- what a page reads as, in a store of so many nodes: a node, both seals where they differ, or the first check that fails
unfoldable pub node_read : ℕ → List ℕ → Result Node NodeError
node_read nodes page =
    if bytes_eq (seal_of page) (sha256 (sealed_part page))
    then node_by (checked nodes (fields_in page)) (fields_in page)
    else Err (Unsealed (seal_of page) (sha256 (sealed_part page)))

-- what a page reads as where so many references are due: these, or that a byte after them isn't zero
unfoldable pub map_read : ℕ → List ℕ → Result (List Ref) MapError
map_read count page = if are_zeros (drop (36 * count) page) then Ok (refs_in count page) else Err (WrongMap Rest)

-- the answer is what the page reads as, or memory ran out
abbrev pub IsNodeRead : Result Node NodeError → Result Node NodeError → Type 0
IsNodeRead read (Ok node) = read ≡ Ok node
IsNodeRead read (Err (Unsealed kept found)) = read ≡ Err (Unsealed kept found)
IsNodeRead read (Err (Wrong why)) = read ≡ Err (Wrong why)
IsNodeRead read (Err Memory) = Unit {0}

-- the same for a map page
abbrev pub IsMapRead : Result (List Ref) MapError → Result (List Ref) MapError → Type 0
IsMapRead read (Ok refs) = read ≡ Ok refs
IsMapRead read (Err (WrongMap why)) = read ≡ Err (WrongMap why)
IsMapRead read (Err NoMemory) = Unit {0}
