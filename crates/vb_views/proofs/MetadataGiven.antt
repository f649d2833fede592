-- Reads that give the blocks of a view give its metadata.
use Rattle.std.proofs.Common.{◌≡◌, ℕ, zero, suc, ◌+◌, ◌*◌, ◌<◌, ◌≤◌, List, [], ◌∷◌, length, take, drop, slice_get, Option, Some, None, Result, Ok, refl, sym, ap, subst, ◌∙◌, arith}
use Rattle.std.proofs.lemmas.List.{drop-drop}
use Rattle.std.proofs.lemmas.List.Elements.{All-head, All-tail}
use Rattle.std.specs.List.{All, flat_map}
use Rattle.vb_block.specs.declared.digest.Ref.{Ref}
use Rattle.vb_head.specs.declared.head.Head.{Head}
use Rattle.vb_index.specs.declared.held.Held.{Held}
use Rattle.vb_index.specs.Indexes.{IndexState}
use Rattle.vb_index.specs.Nodes.{held_at, pages_in}
use Rattle.vb_inode.specs.declared.node.Node.{Node}
use Rattle.vb_inode.specs.Reading.{map_read}
use Rattle.vb_journal.specs.declared.recover_error.RecoverError.{RecoverError}
use Rattle.vb_journal.specs.Notes.{head_place}
use Rattle.vb_journal.specs.Recoveries.{Recovered, choice_of, journal_of, journal_place, node_image, recovery_of}
use Rattle.vb_journal.specs.Shown.{pages_from}
use Rattle.vb_nodes.specs.declared.errors.TableError.{TableError}
use Rattle.vb_nodes.specs.Holdings.{index_from}
use Rattle.vb_plan.specs.Maps.{group_at}
use Rattle.vb_plan.specs.Plans.{node_at, node_in}
use Rattle.vb_store.specs.declared.map_page.MapPage.{MapPage}
use Rattle.vb_store.specs.Metadata.{Mapped, Metadata, Standing, and_then, block_of, index_or_refusal, journal_fault, known_below, mapped_from, maps_in, metadata_from, metadata_of, no_claims, nodes_left, unless}
use Rattle.vb_store.specs.Views.{limits_of, places_in, places_of_slot}
use Rattle.vb_store.proofs.KnownViews.{all_each}
use Rattle.vb_store.proofs.SameJournals.{IsNode, images_fault-none, nodes_of_images, pages_same}
use Rattle.vb_store.proofs.SameStores.{known_below-same, recovers_as, settled-blocks, settled-nodes}
use Rattle.vb_tree.specs.declared.tree.Limits.{Limits}
use Rattle.vb_views.specs.AtRest.{IsViewOf}
use Rattle.vb_views.specs.Reads.{GivesBlocks, GivesMapsOf, GivesRef}
use Rattle.vb_views.proofs.ClaimedPlaces.{claimed}
use Rattle.vb_views.proofs.MapsTaken.{GivesGroups, IsTakable, order_of, slots_taken}
use Rattle.vb_views.proofs.NodesListed.{index-blanked, listed, nodes-listed}
use Rattle.vb_views.proofs.PlacesInOrder.{all_first, all_rest, places-claimed}

-- ---- map pages, one after the other

groups_from : (reads : ℕ → List ℕ) (maps refs all : List Ref) (k : ℕ) → refs ≡ drop (113 * k) all → All (GivesRef reads) maps → ((j : ℕ) (r : Ref) → slice_get maps j ≡ Some r → map_read (length (group_at (k + j) all)) (reads r.place) ≡ Ok (group_at (k + j) all)) → GivesGroups reads maps refs
groups_from reads [] refs all k from due spelled = tt
groups_from reads (r ∷ rs) refs all k from due spelled =
    let Reads : List Ref → Type 0 = λ group. map_read (length group) (reads r.place) ≡ Ok group in
    let here : Reads (take 113 refs) = subst Reads (ap (λ (n : ℕ). group_at n all) (let e : k + 0 ≡ k = omega arith in e) ∙ ap (take 113) (sym from)) (spelled 0 r refl) in
    let next : drop 113 refs ≡ drop (113 * (k + 1)) all = ap (drop 113) from ∙ drop-drop 113 (113 * k) all ∙ ap (λ (n : ℕ). drop n all) (let e : 113 * k + 113 ≡ 113 * (k + 1) = omega arith in e) in (
      All-head (GivesRef reads) r rs due,
      here,
      groups_from reads rs (drop 113 refs) all (k + 1) next (All-tail (GivesRef reads) r rs due)
          (λ j x is. subst (λ (n : ℕ). map_read (length (group_at n all)) (reads x.place) ≡ Ok (group_at n all)) (let e : k + suc j ≡ k + 1 + j = omega arith in e) (spelled (suc j) x is)),
    )

pub groups-given : (reads : ℕ → List ℕ) (held : Held) → GivesMapsOf held reads → GivesGroups reads held.node.maps held.refs
groups-given reads held given =
    groups_from reads held.node.maps held.refs held.refs 0 (ap (λ (n : ℕ). drop n held.refs) (let e : 0 ≡ 113 * 0 = omega arith in e)) given.due
    (λ j r is. subst (λ (n : ℕ). map_read (length (group_at n held.refs)) (reads r.place) ≡ Ok (group_at n held.refs)) (let e : j ≡ 0 + j = omega arith in e) (given.spelled j r is))

-- ---- places

-- the places of what a slot holds are among all
pub all_held : (P : ℕ → Type 0) (nodes : List (Option Held)) (k : ℕ) (held : Held) → held_at nodes k ≡ Some held → All P (places_in nodes) → All P (places_of_slot (Some held))
all_held P [] k held is all = absurd (cc is)
all_held P (o ∷ nodes) zero held is all = subst (λ (x : Option Held). All P (places_of_slot x)) is (all_first P (places_of_slot o) (places_in nodes) all)
all_held P (o ∷ nodes) (suc k) held is all = all_held P nodes k held is (all_rest P (places_of_slot o) (places_in nodes) all)

-- ---- what is known below the head

blocks_at_rest : (ℕ → List ℕ) → ℕ → Standing
blocks_at_rest images slot = record { place = 0; page = images slot }

taken : (head : Head) → List (Option Held) → Mapped
taken head nodes = record { slots = nodes; claims = claimed (no_claims head) (flat_map order_of nodes) }

below : (size : ℕ) (head : Head) (index : IndexState) (reads : ℕ → List ℕ) → IsViewOf head index → (given : GivesBlocks size head index.nodes reads) → known_below reads head 0 (blocks_at_rest given.images) ≡ Ok (taken head index.nodes)
unfolding maps_in blocks_at_rest taken
below size head index reads is given =
    let nodes = index.nodes in
    let blocks = blocks_at_rest given.images in
    let few : pages_in nodes ≤ (limits_of head).pages = omega (arith, is.can.pages, ap (λ (l : Limits). l.pages) is.can.limits) in
    let read : nodes_left head.nodes blocks head.nodes [] ≡ Ok (listed 0 nodes) = subst (λ (n : ℕ). nodes_left n blocks n [] ≡ Ok (listed 0 nodes)) is.slots (nodes-listed nodes given.images is.table given.blocks) in
    let places : ℕ → ℕ = λ slot. 0 in
    let takable : (k : ℕ) (held : Held) → held_at nodes k ≡ Some held → IsTakable reads (0 + k) held =
    λ k held there. record {
      own = (is.table.fits k held there).at_slot ∙ (let e : k ≡ 0 + k = omega arith in e);
      refs = is.can.refs k held there;
      maps = is.can.maps k held there;
      gives = groups-given reads held (given.maps k held there);
    } in
    ap (λ (x : Result (List Node) RecoverError). and_then x (λ ns. and_then (index_or_refusal 0 places (index_from (limits_of head) ns)) (mapped_from reads head places))) read
    ∙ ap (λ (x : Result IndexState TableError). and_then (index_or_refusal 0 places x) (mapped_from reads head places)) (index-blanked (limits_of head) nodes is.table is.rooted few)
    ∙ slots_taken reads places [] nodes (no_claims head) takable (places-claimed head index is)

-- ---- the whole

pub metadata-given : (size : ℕ) (head : Head) (index : IndexState) (reads : ℕ → List ℕ) → IsViewOf head index → GivesBlocks size head index.nodes reads → metadata_of size reads ≡ Ok (record { head = head; held = index.nodes })
unfolding metadata_of recovery_of blocks_at_rest taken
metadata-given size head index reads is given =
    let nodes = index.nodes in
    let blocks = given.images in
    let known : Mapped = taken head nodes in
    let due : Recovered = record { head = head; images = pages_from blocks 0 head.nodes } in
    let again = recovers_as reads (choice_of size reads) due given.recovery in
    let b : Head = again.head in
    let as_many : b.nodes ≡ head.nodes = sym (settled-nodes b b.state) ∙ ap (λ (h : Head). h.nodes) again.settled in
    let as_large : b.blocks ≡ head.blocks = sym (settled-blocks b b.state) ∙ ap (λ (h : Head). h.blocks) again.settled in
    let images : pages_from (node_image reads b) 0 head.nodes ≡ pages_from blocks 0 head.nodes = subst (λ (n : ℕ). pages_from (node_image reads b) 0 n ≡ pages_from blocks 0 head.nodes) as_many again.images in
    let page : (slot : ℕ) → slot < head.nodes → node_image reads b slot ≡ blocks slot = λ slot within. pages_same (node_image reads b) blocks head.nodes images slot within in
    let each : (slot : ℕ) → slot < b.nodes → IsNode b.nodes (node_image reads b slot) = λ slot within.
    subst (λ (n : ℕ). IsNode n (node_image reads b slot)) (is.slots ∙ sym as_many)
    (subst (IsNode (length nodes)) (sym (page slot (omega (arith, within, as_many)))) (record { node = node_in slot (node_at nodes slot); is = given.blocks slot (omega (arith, within, as_many, is.slots)) })) in
    let faultless : journal_fault reads b ≡ None = images_fault-none b.nodes (journal_place b) [] (journal_of reads b) again.none
    (nodes_of_images b.nodes (journal_place b) [] (journal_of reads b) again.none (λ slot. reads (2 + slot)) each) in
    let found : known_below reads b (head_place reads) (block_of reads b) ≡ Ok known =
    known_below-same reads reads head b 0 (head_place reads) (blocks_at_rest blocks) (block_of reads b) known (record { blocks = as_large; nodes = as_many }) page
    (all_each (λ (m : MapPage). reads m.reference.place ≡ reads m.reference.place) (λ m. refl) (maps_in nodes)) (below size head index reads is given) in
    ap (λ (r : Result Head RecoverError). and_then r (λ h. unless (journal_fault reads h) (and_then (known_below reads h (head_place reads) (block_of reads h)) (λ k. let m : Result Metadata RecoverError = Ok (metadata_from h k) in m)))) again.counts
    ∙ ap (λ (o : Option RecoverError). unless o (and_then (known_below reads b (head_place reads) (block_of reads b)) (λ k. let m : Result Metadata RecoverError = Ok (metadata_from b k) in m))) faultless
    ∙ ap (λ (r : Result Mapped RecoverError). and_then r (λ k. let m : Result Metadata RecoverError = Ok (metadata_from b k) in m)) found
    ∙ ap (λ (h : Head). let m : Result Metadata RecoverError = Ok (record { head = h; held = nodes }) in m) again.settled
