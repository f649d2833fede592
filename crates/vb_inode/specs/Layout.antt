-- The layout of node blocks and map pages: their bytes, in the order of their fields.
use Rattle.std.specs.Prelude.{◌≡◌, ℕ, zero, suc, ◌-◌, ◌<◌, ◌^◌, List, [], ◌∷◌, ◌++◌, length, take, drop, replicate}
use Rattle.std.specs.List.{concat, flat_map, All}
use Rattle.byteorder.specs.Endian.{little_number}
use Rattle.sha2.specs.Sha256.{sha256}
use Rattle.vb_block.specs.declared.digest.Ref.{Ref}
use Rattle.vb_block.specs.Numbers.{four_bytes, eight_bytes}
use Rattle.vb_inode.specs.declared.node.Node.{Node}
use Rattle.vb_inode.specs.declared.node.NodeKind.{NodeKind}
use Rattle.vb_inode.specs.declared.node.NodeKind.TheVariants.{Free, Folder, File}

-- the bytes, and then zeros up to a length
abbrev pub padded : ℕ → List ℕ → List ℕ
padded len bytes = bytes ++ replicate (len - length bytes) 0

-- a reference: 36 bytes
abbrev pub ref_bytes : Ref → List ℕ
ref_bytes r = four_bytes r.place ++ r.digest

-- a map page: its references, and then zeros
unfoldable pub map_page : List Ref → List ℕ
map_page refs = padded 4096 (flat_map ref_bytes refs)

-- the number that stands for a kind
abbrev pub kind_number : NodeKind → ℕ
kind_number Free = 0
kind_number Folder = 1
kind_number File = 2

-- what stands in a node block, before it is understood
pub record Fields : Type 0 where
  pub slot : ℕ
  pub kind : ℕ
  pub parent : ℕ
  pub name_length : ℕ
  pub file_length : ℕ
  pub map_count : ℕ
  pub gap : List ℕ
  pub name : List ℕ
  pub maps : List ℕ

-- how great the numbers may be, and how long the rest is
pub record FitsBlock (f : Fields) : Type 0 where
  pub slot : f.slot < 2 ^ 32
  pub kind : f.kind < 2 ^ 32
  pub parent : f.parent < 2 ^ 32
  pub name_length : f.name_length < 2 ^ 32
  pub file_length : f.file_length < 2 ^ 64
  pub map_count : f.map_count < 2 ^ 32
  pub gap : length f.gap ≡ 4
  pub name : length f.name ≡ 256
  pub maps : length f.maps ≡ 3776

-- the first 4,064 bytes of a node block
unfoldable pub sealed_bytes : Fields → List ℕ
sealed_bytes f = concat (
    four_bytes f.slot
    ∷ four_bytes f.kind
    ∷ four_bytes f.parent
    ∷ four_bytes f.name_length
    ∷ eight_bytes f.file_length
    ∷ four_bytes f.map_count
    ∷ f.gap
    ∷ f.name
    ∷ f.maps
    ∷ [])

-- what stands in the block of a node
abbrev pub fields_from : Node → Fields
fields_from node = record {
  slot = node.slot;
  kind = kind_number node.kind;
  parent = node.parent;
  name_length = length node.name;
  file_length = node.length;
  map_count = length node.maps;
  gap = replicate 4 0;
  name = padded 256 node.name;
  maps = padded 3776 (flat_map ref_bytes node.maps);
}

-- the block of a node: its fields, and the seal over them
unfoldable pub node_page : Node → List ℕ
node_page node = sealed_bytes (fields_from node) ++ sha256 (sealed_bytes (fields_from node))

-- references as they can stand in a block: a place of four bytes, and a digest of 32
abbrev pub AreRefs : List Ref → Type 0
AreRefs refs = All (λ r. (r.place < 2 ^ 32) × (length r.digest ≡ 32)) refs

-- the number in the four bytes from a place on
abbrev pub number4_at : ℕ → List ℕ → ℕ
number4_at at page = little_number 4 (drop at page)

-- the number in the eight bytes from a place on
abbrev pub number8_at : ℕ → List ℕ → ℕ
number8_at at page = little_number 8 (drop at page)

-- the fields in a page
unfoldable pub fields_in : List ℕ → Fields
fields_in page = record {
  slot = number4_at 0 page;
  kind = number4_at 4 page;
  parent = number4_at 8 page;
  name_length = number4_at 12 page;
  file_length = number8_at 16 page;
  map_count = number4_at 24 page;
  gap = take 4 (drop 28 page);
  name = take 256 (drop 32 page);
  maps = take 3776 (drop 288 page);
}

-- the reference at the front of some bytes
abbrev pub ref_in : List ℕ → Ref
ref_in bytes = record { place = number4_at 0 bytes; digest = take 32 (drop 4 bytes) }

-- so many references, one after the other from the front of some bytes on
abbrev pub refs_in : ℕ → List ℕ → List Ref
refs_in zero bytes = []
refs_in (suc n) bytes = ref_in bytes ∷ refs_in n (drop 36 bytes)
