-- Once the journal is recovered, the homes and map pages give what all blocks gave before.
use Rattle.std.proofs.Common.{◌≡◌, ℕ, zero, suc, ◌+◌, ◌<◌, ◌≤◌, List, [], ◌∷◌, ◌++◌, length, Option, Result, Ok, Err, refl, sym, ap, ◌∙◌, arith, length-append}
use Rattle.vb_disk.specs.Cells.{read_of, synced_cell}
use Rattle.vb_disk.specs.States.{DiskState, read_at}
use Rattle.vb_head.specs.declared.head.Head.{Head}
use Rattle.vb_index.specs.Indexes.{IndexState}
use Rattle.vb_inode.specs.declared.node.Node.{Node}
use Rattle.vb_journal.specs.declared.recover_error.RecoverError.{RecoverError}
use Rattle.vb_journal.specs.Recoveries.{node_image, settled_head}
use Rattle.vb_journal.specs.Outcomes.{reads_of}
use Rattle.vb_journal.specs.Recovering.{IsRecovered}
use Rattle.vb_journal.proofs.RecoveredHomes.{recovered-reads}
use Rattle.vb_nodes.specs.Claiming.{ClaimsState}
use Rattle.vb_nodes.specs.Holdings.{index_from}
use Rattle.vb_tree.specs.declared.tree.Limits.{Limits}
use Rattle.vb_store.specs.declared.map_page.MapPage.{MapPage}
use Rattle.vb_journal.specs.Notes.{head_place, journal_slots}
use Rattle.vb_store.specs.Metadata.{Mapped, Metadata, Standing, after_claim, after_page, and_then, block_of, block_place, index_or_refusal, journal_fault, known_below, mapped_from, maps_in, maps_left, metadata_from, metadata_of, no_claims, node_checked, nodes_left, unless}
use Rattle.vb_store.specs.MountLists.{home_places, places_of_homes, places_of_table, places_of_tree}
use Rattle.vb_store.specs.Mounts.{store_places_by}
use Rattle.vb_store.specs.MountStages.{home_of, metadata_at, rest_of_homes, rest_of_index, rest_of_table}
use Rattle.vb_store.specs.RecoveredStores.{IsSoundlyRecovered, metadata_on}
use Rattle.vb_store.specs.Views.{data_start, limits_of}
use Rattle.vb_store.proofs.ClaimsMade.{after_claim-named, after_page-first}
use Rattle.vb_store.proofs.MountRests.{and_then-assoc}
use Rattle.vb_store.proofs.SameStores.{HaveSameSize, claims-same, limits-same, settled-blocks, settled-nodes}

-- what comes next is the same of the same answer
and_then-next : {A B E : Type 0} (r : Result A E) (f g : A → Result B E) → ((a : A) → r ≡ Ok a → f a ≡ g a) → and_then r f ≡ and_then r g
and_then-next (Ok a) f g same = same a refl
and_then-next (Err e) f g same = refl

nodes_left-eq : (nodes left : ℕ) (a b : ℕ → Standing) (found : List Node) → ((slot : ℕ) → slot < length found + left → a slot ≡ b slot) → nodes_left nodes a left found ≡ nodes_left nodes b left found
nodes_left-eq nodes zero a b found same = refl
nodes_left-eq nodes (suc left) a b found same =
    ap (λ (s : Standing). and_then (node_checked nodes (length found) s) (λ node. nodes_left nodes a left (found ++ node ∷ []))) (same (length found) (omega arith))
    ∙ and_then-next (node_checked nodes (length found) (b (length found))) (λ node. nodes_left nodes a left (found ++ node ∷ [])) (λ node. nodes_left nodes b left (found ++ node ∷ []))
    (λ node is. nodes_left-eq nodes left a b (found ++ node ∷ []) (λ slot within. same slot (omega (arith, within, length-append found (node ∷ [])))))

maps_left-eq : (old new : ℕ → List ℕ) (places : ℕ → ℕ) (maps : List MapPage) (known : Mapped) (first : ℕ) → known.claims.first ≡ first → ((place : ℕ) → first ≤ place → new place ≡ old place) → maps_left old places maps known ≡ maps_left new places maps known
maps_left-eq old new places [] known first is same = refl
maps_left-eq old new places (m ∷ ms) known first is same =
    and_then-next (after_claim (places m.slot) m known) (λ claimed. and_then (after_page m (old m.reference.place) claimed) (maps_left old places ms)) (λ claimed. and_then (after_page m (new m.reference.place) claimed) (maps_left new places ms))
    (λ claimed was.
    let named = after_claim-named (places m.slot) m known claimed was in
    let page : new m.reference.place ≡ old m.reference.place = same m.reference.place (omega (arith, named.inside, is)) in
    and_then-next (after_page m (old m.reference.place) claimed) (maps_left old places ms) (maps_left new places ms)
    (λ next took. maps_left-eq old new places ms next first (after_page-first m (old m.reference.place) claimed next took ∙ named.first_is ∙ is) same)
    ∙ ap (λ (p : List ℕ). and_then (after_page m p claimed) (maps_left new places ms)) (sym page))

-- a place that was only synced reads as before
read-synced : (d begun : DiskState) (place : ℕ) → d.cells place ≡ synced_cell (begun.cells place) → read_at d place ≡ read_at begun place
read-synced d begun place is = ap read_of is

standing-same : (a b : Standing) → a.place ≡ b.place → a.page ≡ b.page → a ≡ b
standing-same a b place page = λ i. record { place = place i; page = page i }

-- the nodes at the homes of a store at rest are those that the blocks of another gave
nodes_same : (old new : ℕ → List ℕ) (from head : Head) → HaveSameSize from head → ((slot : ℕ) → slot < from.nodes → new (2 + slot) ≡ node_image old from slot) → nodes_left from.nodes (block_of old from) from.nodes [] ≡ nodes_left head.nodes (home_of new (journal_slots old from) head.nodes) head.nodes []
nodes_same old new from head size homes =
    let slots : List ℕ = journal_slots old from in
    nodes_left-eq from.nodes from.nodes (block_of old from) (home_of new slots from.nodes) [] (λ slot within. standing-same (block_of old from slot) (home_of new slots from.nodes slot) refl (sym (homes slot (omega (arith, within)))))
    ∙ ap (λ (n : ℕ). nodes_left n (home_of new slots n) n []) (sym size.nodes)

-- what is left of a store at rest, whose homes and data places read as those of another
rest-same : (old new : ℕ → List ℕ) (from head : Head) (place : ℕ) → HaveSameSize from head → ((slot : ℕ) → slot < from.nodes → new (2 + slot) ≡ node_image old from slot) → ((p : ℕ) → data_start from ≤ p → new p ≡ old p)
    → and_then (known_below old from place (block_of old from)) (λ k. Ok (metadata_at head k)) ≡ rest_of_homes new head place (journal_slots old from) head.nodes []
rest-same old new from head place size homes data_same =
    let slots : List ℕ = journal_slots old from in
    let fin : Mapped → Result Metadata RecoverError = λ k. Ok (metadata_at head k) in
    let places : ℕ → ℕ = block_place slots from.nodes in
    let others : ℕ → ℕ = block_place slots head.nodes in
    let same_places : places ≡ others = ap (block_place slots) (sym size.nodes) in
    let index : List Node → Result IndexState RecoverError = λ nodes. index_or_refusal place places (index_from (limits_of from) nodes) in
    let read = nodes_same old new from head size homes in
    let maps : (i : IndexState) → and_then (mapped_from old from places i) fin ≡ rest_of_index new head slots i = λ i.
    ap (λ (r : Result Mapped RecoverError). and_then r fin)
    (maps_left-eq old new places (maps_in i.nodes) (record { slots = i.nodes; claims = no_claims from }) (data_start from) refl data_same
    ∙ ap (λ (p : ℕ → ℕ). maps_left new p (maps_in i.nodes) (record { slots = i.nodes; claims = no_claims from })) same_places
    ∙ ap (λ (c : ClaimsState). maps_left new others (maps_in i.nodes) (record { slots = i.nodes; claims = c })) (sym (claims-same from head size))) in
    let table : (nodes : List Node) → and_then (and_then (index nodes) (mapped_from old from places)) fin ≡ rest_of_table new head place slots nodes = λ nodes.
    and_then-assoc (index nodes) (mapped_from old from places) fin
    ∙ and_then-next (index nodes) (λ i. and_then (mapped_from old from places i) fin) (rest_of_index new head slots) (λ i is. maps i)
    ∙ ap (λ (p : ℕ → ℕ). and_then (index_or_refusal place p (index_from (limits_of from) nodes)) (rest_of_index new head slots)) same_places
    ∙ ap (λ (l : Limits). and_then (index_or_refusal place others (index_from l nodes)) (rest_of_index new head slots)) (sym (limits-same from head size)) in
    and_then-assoc (nodes_left from.nodes (block_of old from) from.nodes []) (λ nodes. and_then (index nodes) (mapped_from old from places)) fin
    ∙ and_then-next (nodes_left from.nodes (block_of old from) from.nodes []) (λ nodes. and_then (and_then (index nodes) (mapped_from old from places)) fin) (rest_of_table new head place slots) (λ nodes is. table nodes)
    ∙ ap (λ (r : Result (List Node) RecoverError). and_then r (rest_of_table new head place slots)) read

-- a head has the size of the one that it settles
same_size : (from head : Head) → settled_head from ≡ head → HaveSameSize from head
same_size from head settles = record {
  blocks = ap (λ (h : Head). h.blocks) (sym settles) ∙ settled-blocks from from.state;
  nodes = ap (λ (h : Head). h.nodes) (sym settles) ∙ settled-nodes from from.state;
}

table_same : (a b : Head) (r : Result (List Node) RecoverError) → limits_of a ≡ limits_of b → places_of_table a r ≡ places_of_table b r
table_same a b (Ok nodes) same = ap (λ (l : Limits). places_of_tree (index_from l nodes)) same
table_same a b (Err e) same = refl

-- the homes and map pages that are left to be read of a recovered store are those of the store that was there
pub nodes-told : (begun next : DiskState) (head : Head) (is : IsRecovered begun head next) → places_of_homes (reads_of next) head (journal_slots (reads_of begun) is.chosen) head.nodes [] ≡ store_places_by (reads_of begun) (Ok is.chosen)
nodes-told begun next head is =
    let old : ℕ → List ℕ = reads_of begun in
    let from : Head = is.chosen in
    let size = same_size from head is.settles in
    let nodes : Result (List Node) RecoverError = nodes_left from.nodes (block_of old from) from.nodes [] in
    ap (λ (r : Result (List Node) RecoverError). home_places 0 head.nodes ++ places_of_table head r) (sym (nodes_same old (reads_of next) from head size (λ slot within. recovered-reads begun head next is slot (omega (arith, within, size.nodes)))))
    ∙ ap (λ (n : ℕ). home_places 0 n ++ places_of_table head nodes) size.nodes
    ∙ ap (λ (l : List ℕ). home_places 0 from.nodes ++ l) (table_same head from nodes (limits-same from head size))

pub homes-told : (begun d : DiskState) (head : Head) (r : IsSoundlyRecovered begun head d) → metadata_on begun ≡ rest_of_homes (reads_of d) head (head_place (reads_of begun)) (journal_slots (reads_of begun) r.recovered.chosen) head.nodes []
unfolding metadata_of
homes-told begun d head r =
    let old : ℕ → List ℕ = reads_of begun in
    let from : Head = r.recovered.chosen in
    let place : ℕ = head_place old in
    let settles : settled_head from ≡ head = r.recovered.settles in
    let size = same_size from head settles in
    ap (λ (c : Result Head RecoverError). and_then c (λ h. unless (journal_fault old h) (and_then (known_below old h place (block_of old h)) (λ known. Ok (metadata_from h known))))) r.recovered.counts
    ∙ ap (λ (o : Option RecoverError). unless o (and_then (known_below old from place (block_of old from)) (λ known. Ok (metadata_from from known)))) r.sound
    ∙ ap (λ (h : Head). and_then (known_below old from place (block_of old from)) (λ known. Ok (metadata_at h known))) settles
    ∙ rest-same old (reads_of d) from head place size
    (λ slot within. recovered-reads begun head d r.recovered slot (omega (arith, within, size.nodes)))
    (λ p above. read-synced d begun p (r.recovered.others_stand p (omega (arith, above, size.nodes))))
