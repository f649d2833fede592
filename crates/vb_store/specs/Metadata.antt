-- Metadata: what the blocks of a store say, read at once as tables, or the first thing that is wrong with them.
use Rattle.std.specs.Prelude.{ℕ, zero, suc, ◌+◌, ◌-◌, min, ◌==◌, if◌then◌else◌, Bool, true, false, not, List, [], ◌∷◌, ◌++◌, length, replicate, slice_set, Option, Some, None, Result, Ok, Err}
use Rattle.std.specs.List.{flat_map}
use Rattle.std.specs.Option.{option_map}
use Rattle.std.specs.Result.{result_err}
use Rattle.std.specs.Str.{bytes_eq}
use Rattle.sha2.specs.Sha256.{sha256}
use Rattle.vb_block.specs.Pages.{seal_of, sealed_part}
use Rattle.vb_block.specs.declared.digest.Ref.{Ref}
use Rattle.vb_block.specs.declared.why.Why.{Why}
use Rattle.vb_block.specs.declared.why.Why.TheVariants.{Slot, Pages}
use Rattle.vb_disk.specs.Misses.{is_sealed}
use Rattle.vb_head.specs.declared.head.Head.{Head}
use Rattle.vb_journal.specs.declared.recover_error.RecoverError.{RecoverError}
use Rattle.vb_journal.specs.declared.recover_error.RecoverError.TheVariants.{Damaged, Unfit, Memory}
use Rattle.vb_journal.specs.Images.{slot_of}
use Rattle.vb_journal.specs.Notes.{head_place, journal_slots}
use Rattle.vb_journal.specs.Recoveries.{choice_of, image_refusal, journal_of, journal_place, node_image, or_refusal, settled_head}
use Rattle.vb_inode.specs.declared.node.Node.{Node}
use Rattle.vb_inode.specs.declared.errors.NodeError.{NodeError}
use Rattle.vb_inode.specs.declared.errors.NodeError.TheVariants.{Unsealed, Wrong, Memory as NoMemoryForNode}
use Rattle.vb_inode.specs.declared.errors.MapError.{MapError}
use Rattle.vb_inode.specs.declared.errors.MapError.TheVariants.{Wrong as WrongMap, Memory as NoMemoryForMap}
use Rattle.vb_inode.specs.Reading.{map_read, node_read}
use Rattle.vb_tree.specs.Trees.{data_pages_of}
use Rattle.vb_index.specs.declared.held.Held.{Held}
use Rattle.vb_index.specs.Indexes.{IndexState}
use Rattle.vb_index.specs.Nodes.{held_at}
use Rattle.vb_nodes.specs.declared.errors.TableError.{TableError}
use Rattle.vb_nodes.specs.declared.errors.TableError.TheVariants.{Wrong as WrongNode, TooManyPages, Memory as NoMemoryForIndex}
use Rattle.vb_nodes.specs.Claiming.{ClaimsState, claim_answer, with_claim}
use Rattle.vb_nodes.specs.Holdings.{index_from}
use Rattle.vb_store.specs.declared.map_page.MapPage.{MapPage}
use Rattle.vb_index.specs.Changes.{with_ref}
use Rattle.vb_store.specs.Views.{data_start, limits_of}

-- ---- one check after another

-- what comes next of an answer. A refusal stands.
abbrev pub and_then : {A B E : Type 0} → Result A E → (A → Result B E) → Result B E
and_then (Ok a) next = next a
and_then (Err e) next = Err e

-- the refusal where the test holds, and else what comes next
abbrev pub refuse : {A E : Type 0} → Bool → E → Result A E → Result A E
refuse true e next = Err e
refuse false e next = next

-- the refusal where there is one, and else what comes next
abbrev pub unless : {A E : Type 0} → Option E → Result A E → Result A E
unless None next = next
unless (Some e) next = Err e

-- a node, or why its block is refused that stands at this place
abbrev pub node_or_refusal : ℕ → Result Node NodeError → Result Node RecoverError
node_or_refusal place (Ok node) = Ok node
node_or_refusal place (Err (Unsealed kept found)) = Err (Damaged place kept found)
node_or_refusal place (Err (Wrong why)) = Err (Unfit place why)
node_or_refusal place (Err NoMemoryForNode) = Err Memory

-- ---- the journal's images, by place

-- why an image of the journal is refused that stands at this place, after these: the journal refuses it, or its node
-- fails a check
abbrev pub image_fault : ℕ → ℕ → List (List ℕ) → List ℕ → Option RecoverError
image_fault nodes place before image =
    or_refusal (image_refusal nodes place before image) (result_err (node_or_refusal place (node_read nodes image)))

-- the first fault of these images, the first of which stands at this place after some others
abbrev pub images_fault : ℕ → ℕ → List (List ℕ) → List (List ℕ) → Option RecoverError
images_fault nodes place before [] = None
images_fault nodes place before (image ∷ images) =
    or_refusal (image_fault nodes place before image) (images_fault nodes (place + 1) (before ++ image ∷ []) images)

-- the first fault of the images that a head counts in
abbrev pub journal_fault : (ℕ → List ℕ) → Head → Option RecoverError
journal_fault reads head = images_fault head.nodes (journal_place head) [] (journal_of reads head)

-- ---- the node blocks, by slot

-- a page, and the place where it stands
pub record Standing : Type 0 where
  pub place : ℕ
  pub page : List ℕ

-- the place of a slot's block, once images of these slots, which stand from a place on, were put over the homes
abbrev pub place_over : List ℕ → ℕ → ℕ → ℕ → ℕ
place_over [] place slot home = home
place_over (named ∷ slots) place slot home = place_over slots (place + 1) slot (if named == slot then place else home)

-- so for a journal of these slots, in a store of so many nodes
abbrev pub block_place : List ℕ → ℕ → ℕ → ℕ
block_place slots nodes slot = place_over slots (2 + nodes) slot (2 + slot)

-- the block of a slot: what stands at its home, or the image of the journal that was put over it
abbrev pub block_of : (ℕ → List ℕ) → Head → ℕ → Standing
block_of reads head slot = record {
  place = block_place (journal_slots reads head) head.nodes slot;
  page = node_image reads head slot;
}

-- the node in a block of a slot: it is sealed and of that slot, and passes the node's own checks
abbrev pub node_checked : ℕ → ℕ → Standing → Result Node RecoverError
node_checked nodes slot block =
    refuse (not (is_sealed block.page)) (Damaged (2 + slot) (seal_of block.page) (sha256 (sealed_part block.page))) (
    refuse (not (slot_of block.page == slot)) (Unfit block.place Slot) (
    node_or_refusal block.place (node_read nodes block.page)))

-- these nodes, and those of so many slots after theirs
abbrev pub nodes_left : ℕ → (ℕ → Standing) → ℕ → List Node → Result (List Node) RecoverError
nodes_left nodes blocks zero found = Ok found
nodes_left nodes blocks (suc left) found =
    and_then (node_checked nodes (length found) (blocks (length found))) (λ node. nodes_left nodes blocks left (found ++ node ∷ []))

-- ---- the tree

-- an index, or why the nodes make none, where the head stands at this place and the blocks of the nodes at these
abbrev pub index_or_refusal : ℕ → (ℕ → ℕ) → Result IndexState TableError → Result IndexState RecoverError
index_or_refusal place places (Ok index) = Ok index
index_or_refusal place places (Err (WrongNode slot why)) = Err (Unfit (places slot) why)
index_or_refusal place places (Err TooManyPages) = Err (Unfit place Pages)
index_or_refusal place places (Err NoMemoryForIndex) = Err Memory

-- ---- the map pages, by slot of each file and by map page

-- the map pages of a slot from this one of its pages on, of which so many are left
abbrev pub maps_from : ℕ → ℕ → ℕ → List Ref → List MapPage
maps_from slot first left [] = []
maps_from slot first left (r ∷ rs) =
    record { slot = slot; first = first; count = min left 113; reference = r } ∷ maps_from slot (first + 113) (left - 113) rs

-- the map pages of a node
abbrev pub maps_of_node : Node → List MapPage
maps_of_node node = maps_from node.slot 0 (data_pages_of node.length) node.maps

-- the map pages of what a slot holds
abbrev pub maps_of : Option Held → List MapPage
maps_of None = []
maps_of (Some held) = maps_of_node held.node

-- the map pages of all slots
unfoldable pub maps_in : List (Option Held) → List MapPage
maps_in slots = flat_map maps_of slots

-- what is known while map pages are read: what each slot holds, and which data places were named so far
pub record Mapped : Type 0 where
  pub slots : List (Option Held)
  pub claims : ClaimsState

-- none of the data places below a head was named yet
abbrev pub no_claims : Head → ClaimsState
no_claims head = record { first = data_start head; taken = replicate (head.blocks - data_start head) false }

-- the claims with one more, unless it is refused, where the block stands at this place that names it
abbrev pub claims_or_refusal : ℕ → ClaimsState → Result (Unit {0}) Why → Result ClaimsState RecoverError
claims_or_refusal block claims (Ok done) = Ok claims
claims_or_refusal block claims (Err why) = Err (Unfit block why)

-- the claims once the block at a place has named this place
abbrev pub claimed_by : ℕ → ClaimsState → ℕ → Result ClaimsState RecoverError
claimed_by block claims place = claims_or_refusal block (with_claim claims place) (claim_answer claims place)

-- the claims once it has named each of these references
abbrev pub all_claimed_by : ℕ → ClaimsState → List Ref → Result ClaimsState RecoverError
all_claimed_by block claims [] = Ok claims
all_claimed_by block claims (r ∷ rs) = and_then (claimed_by block claims r.place) (λ more. all_claimed_by block more rs)

-- references, or why a map page at this place is refused
abbrev pub refs_or_refusal : ℕ → Result (List Ref) MapError → Result (List Ref) RecoverError
refs_or_refusal place (Ok refs) = Ok refs
refs_or_refusal place (Err (WrongMap why)) = Err (Unfit place why)
refs_or_refusal place (Err NoMemoryForMap) = Err Memory

-- the references in a map page: it has its digest, and passes its check
abbrev pub map_checked : MapPage → List ℕ → Result (List Ref) RecoverError
map_checked m page =
    refuse (not (bytes_eq m.reference.digest (sha256 page))) (Damaged m.reference.place m.reference.digest (sha256 page)) (
    refs_or_refusal m.reference.place (map_read m.count page))

-- the slots, with this reference of a page of a file
abbrev pub with_ref_at : List (Option Held) → ℕ → ℕ → Ref → List (Option Held)
with_ref_at slots slot page r = slice_set slots slot (option_map (with_ref page r) (held_at slots slot))

-- the slots, with these references of a file from this page on
abbrev pub with_refs_at : List (Option Held) → ℕ → ℕ → List Ref → List (Option Held)
with_refs_at slots slot first [] = slots
with_refs_at slots slot first (r ∷ rs) = with_refs_at (with_ref_at slots slot first r) slot (first + 1) rs

-- what is known once a map page, whose place is claimed, reads as this page
abbrev pub after_page : MapPage → List ℕ → Mapped → Result Mapped RecoverError
after_page m page known =
    and_then (map_checked m page) (λ refs.
    and_then (all_claimed_by m.reference.place known.claims refs) (λ all.
    Ok (record { slots = with_refs_at known.slots m.slot m.first refs; claims = all })))

-- what is known once its place is claimed, where the block of its node stands at this place
abbrev pub after_claim : ℕ → MapPage → Mapped → Result Mapped RecoverError
after_claim block m known =
    and_then (claimed_by block known.claims m.reference.place) (λ claims. Ok (record known { claims = claims }))

-- what is known after these map pages
abbrev pub maps_left : (ℕ → List ℕ) → (ℕ → ℕ) → List MapPage → Mapped → Result Mapped RecoverError
maps_left reads places [] known = Ok known
maps_left reads places (m ∷ ms) known =
    and_then (after_claim (places m.slot) m known) (λ claimed.
    and_then (after_page m (reads m.reference.place) claimed) (maps_left reads places ms))

-- ---- the whole

-- what a store's blocks say: its head, at rest, and what each slot holds, with the references of all pages
pub record Metadata : Type 0 where
  pub head : Head
  pub held : List (Option Held)

-- what is known of an index once its map pages are read
abbrev pub mapped_from : (ℕ → List ℕ) → Head → (ℕ → ℕ) → IndexState → Result Mapped RecoverError
mapped_from reads head places index = maps_left reads places (maps_in index.nodes) (record { slots = index.nodes; claims = no_claims head })

-- what is known below a head at this place, with these blocks of its nodes
abbrev pub known_below : (ℕ → List ℕ) → Head → ℕ → (ℕ → Standing) → Result Mapped RecoverError
known_below reads head place blocks =
    and_then (nodes_left head.nodes blocks head.nodes []) (λ nodes.
    and_then (index_or_refusal place (λ slot. (blocks slot).place) (index_from (limits_of head) nodes)) (λ index.
    mapped_from reads head (λ slot. (blocks slot).place) index))

-- the metadata of a head, and of what is known below it
abbrev pub metadata_from : Head → Mapped → Metadata
metadata_from head known = record { head = settled_head head; held = known.slots }

-- the metadata of a disk of this size, where reads give these pages, or the first refusal
unfoldable pub metadata_of : ℕ → (ℕ → List ℕ) → Result Metadata RecoverError
metadata_of size reads =
    and_then (choice_of size reads) (λ head.
    unless (journal_fault reads head) (
    and_then (known_below reads head (head_place reads) (block_of reads head)) (λ known.
    Ok (metadata_from head known))))
