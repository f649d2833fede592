-- Heads: which page a head is written as, and what a page reads as.
use Rattle.std.specs.Prelude.{◌≡◌, ℕ, ◌+◌, ◌*◌, ◌^◌, ◌<◌, ◌≤◌, Bool, false, not, ◌&&◌, ◌||◌, ◌==◌, nat_lt, nat_le, if◌then◌else◌, List, ◌++◌, length, Option, Some, None}
use Rattle.std.specs.Str.{bytes_eq}
use Rattle.sha2.specs.Sha256.{sha256}
use Rattle.vb_block.specs.declared.why.Why.{Why}
use Rattle.vb_block.specs.declared.why.Why.TheVariants.{Blocks, Nodes, Space, Id, Sequence, Epoch, State as StateWhy, Count, Rest}
use Rattle.vb_block.specs.Pages.{seal_of, sealed_part}
use Rattle.vb_geometry.specs.declared.geometry.TheConstants.{LEAST_NODES, LEAST_PAGES, MOST_BLOCKS, MOST_NODES}
use Rattle.vb_geometry.specs.Layout.{data_start}
use Rattle.vb_head.specs.declared.head.Head.{Head}
use Rattle.vb_head.specs.declared.head.HeadRead.{HeadRead}
use Rattle.vb_head.specs.declared.head.HeadRead.TheVariants.{Good, Bad, Alien, Unsealed, Blank}
use Rattle.vb_head.specs.declared.head.State.{State}
use Rattle.vb_head.specs.declared.head.State.TheVariants.{Closed, Opened, Rebuilding}
use Rattle.vb_head.specs.Layout.{Fields, signature, are_zeros, no_rest, spelled, fields_of}

-- ---- writing

-- the number of a state
abbrev pub number_of : State → ℕ
number_of Closed = 0
number_of (Opened count) = 1
number_of Rebuilding = 2

-- the count of journal images, 0 unless Opened
abbrev pub count_of : State → ℕ
count_of Closed = 0
count_of (Opened count) = count
count_of Rebuilding = 0

-- the fields of a head's block
abbrev pub fields_from : Head → Fields
fields_from h = record {
  signature = signature;
  version = 1;
  id = h.id;
  blocks = h.blocks;
  nodes = h.nodes;
  sequence = h.sequence;
  epoch = h.epoch;
  state = number_of h.state;
  count = count_of h.state;
  rest = no_rest;
}

-- the one page of a head: its fields, and their SHA-256
unfoldable pub head_page : Head → List ℕ
head_page h = spelled (fields_from h) ++ sha256 (spelled (fields_from h))

-- the greatest sequence that a head of this state may have
abbrev pub last_sequence : State → ℕ
last_sequence Closed = 2 ^ 63 + 1
last_sequence (Opened count) = 2 ^ 63
last_sequence Rebuilding = 2 ^ 63 + 1

-- the fields are in their ranges
pub record IsInRange (h : Head) : Type 0 where
  pub blocks : h.blocks ≤ MOST_BLOCKS
  pub nodes_low : LEAST_NODES ≤ h.nodes
  pub nodes_high : h.nodes ≤ MOST_NODES
  pub space : data_start h.nodes + 2 * LEAST_PAGES ≤ h.blocks
  pub id : are_zeros h.id ≡ false
  pub sequence_low : 0 < h.sequence
  pub sequence_high : h.sequence ≤ last_sequence h.state
  pub epoch : h.epoch < 2 ^ 63
  pub count : count_of h.state ≤ h.nodes

-- a head: its fields are in their ranges, and its folder id has 16 bytes, as each folder id does
pub record IsHead (h : Head) : Type 0 where
  pub range : IsInRange h
  pub id_length : length h.id ≡ 16

-- ---- reading

-- the state of a number up to 2
abbrev pub state_from : ℕ → ℕ → State
state_from number count = if number == 0 then Closed else (if number == 1 then Opened count else Rebuilding)

-- the head of these fields
abbrev pub head_from : Fields → Head
head_from f = record {
  id = f.id;
  blocks = f.blocks;
  nodes = f.nodes;
  sequence = f.sequence;
  epoch = f.epoch;
  state = state_from f.state f.count;
}

-- the reason where the test holds, and else the next check
abbrev pub refuse : Bool → Why → Option Why → Option Why
refuse test reason next = if test then Some reason else next

-- whether the state is Opened
abbrev pub is_opened : Fields → Bool
is_opened f = f.state == 1

-- whether a count of nodes is out of its range
abbrev pub is_off_nodes : ℕ → Bool
is_off_nodes nodes = nat_lt nodes LEAST_NODES || nat_lt MOST_NODES nodes

-- whether a sequence is out of its range
abbrev pub is_off : ℕ → Bool → Bool
is_off sequence opened = sequence == 0 || nat_lt (if opened then 9223372036854775808 else 9223372036854775809) sequence

-- whether a count of journal images is out of its range
abbrev pub is_miscounted : ℕ → ℕ → Bool → Bool
is_miscounted count nodes opened = if opened then nat_lt nodes count else not (count == 0)

-- the first check that a head's fields fail
abbrev pub fault_of : Fields → Option Why
fault_of f =
    refuse (nat_lt MOST_BLOCKS f.blocks) Blocks (
    refuse (is_off_nodes f.nodes) Nodes (
    refuse (nat_lt f.blocks (data_start f.nodes + 2 * LEAST_PAGES)) Space (
    refuse (are_zeros f.id) Id (
    refuse (is_off f.sequence (is_opened f)) Sequence (
    refuse (nat_le 9223372036854775808 f.epoch) Epoch (
    refuse (nat_lt 2 f.state) StateWhy (
    refuse (is_miscounted f.count f.nodes (is_opened f)) Count (
    refuse (not (are_zeros f.rest)) Rest None))))))))

-- whether the fields are those of a head of this version
abbrev pub is_marked : Fields → Bool
is_marked f = bytes_eq f.signature signature && f.version == 1

-- a head, or why it is none
abbrev pub judged : Option Why → Head → HeadRead
judged None h = Good h
judged (Some why) h = Bad why

-- what a page reads as
abbrev pub head_read : List ℕ → HeadRead
head_read page =
    if are_zeros page then Blank else
    (if not (bytes_eq (seal_of page) (sha256 (sealed_part page))) then Unsealed (seal_of page) (sha256 (sealed_part page)) else
    (if is_marked (fields_of page) then judged (fault_of (fields_of page)) (head_from (fields_of page)) else Alien))
