-- The same store has the same metadata.
use Rattle.std.proofs.Common.{◌≡◌, ℕ, zero, suc, ◌+◌, ◌-◌, ◌*◌, ◌<◌, ◌≤◌, Bool, true, false, not, ◌==◌, List, [], ◌∷◌, ◌++◌, length, replicate, slice_set, Option, Some, None, Result, Ok, Err, refl, sym, ap, subst, ◌∙◌, inl, inr, arith, length-append}
use Rattle.std.proofs.lemmas.Bool.{cases_eq}
use Rattle.std.proofs.lemmas.List.Elements.{All-head, All-tail}
use Rattle.std.specs.List.{All, flat_map}
use Rattle.std.specs.Option.{option_map}
use Rattle.std.specs.Result.{result_err}
use Rattle.sha2.specs.Sha256.{sha256}
use Rattle.vb_block.specs.Pages.{seal_of, sealed_part}
use Rattle.vb_block.specs.declared.digest.Ref.{Ref}
use Rattle.vb_block.specs.declared.why.Why.{Why}
use Rattle.vb_block.specs.declared.why.Why.TheVariants.{Slot}
use Rattle.vb_disk.specs.Misses.{is_sealed}
use Rattle.vb_head.specs.declared.head.Head.{Head}
use Rattle.vb_head.specs.declared.head.State.{State}
use Rattle.vb_head.specs.declared.head.State.TheVariants.{Closed, Opened, Rebuilding}
use Rattle.vb_index.specs.declared.held.Held.{Held}
use Rattle.vb_index.specs.Indexes.{IndexState}
use Rattle.vb_index.specs.Nodes.{held_at}
use Rattle.vb_inode.specs.declared.node.Node.{Node}
use Rattle.vb_inode.specs.declared.errors.NodeError.{NodeError}
use Rattle.vb_inode.specs.declared.errors.NodeError.TheVariants.{Unsealed, Wrong, Memory}
use Rattle.vb_inode.specs.Reading.{node_read}
use Rattle.vb_journal.specs.declared.recover_error.RecoverError.{RecoverError}
use Rattle.vb_journal.specs.declared.recover_error.RecoverError.TheVariants.{Damaged, Unfit}
use Rattle.vb_journal.specs.Images.{slot_of}
use Rattle.vb_journal.specs.Recoveries.{Recovered, choice_of, image_refusal, images_refusal, journal_of, journal_place, journal_refusal, node_image, node_images, or_refusal, recovered_by, recovered_from, recovery_of, settled_from, settled_head}
use Rattle.vb_journal.specs.Shown.{pages_from}
use Rattle.vb_nodes.specs.Holdings.{index_from}
use Rattle.vb_nodes.specs.declared.errors.TableError.{TableError}
use Rattle.vb_nodes.specs.declared.errors.TableError.TheVariants.{Wrong as WrongNode, TooManyPages, Memory as NoMemoryForIndex}
use Rattle.vb_nodes.specs.Claiming.{ClaimsState, claim_answer, with_claim}
use Rattle.vb_tree.specs.declared.tree.Limits.{Limits}
use Rattle.vb_index.specs.Changes.{with_ref}
use Rattle.vb_geometry.specs.Layout.{page_limit}
use Rattle.vb_store.specs.Views.{limits_of}
use Rattle.vb_journal.specs.Notes.{head_place}
use Rattle.vb_store.specs.Metadata.{Mapped, Metadata, Standing, after_claim, after_page, all_claimed_by, and_then, block_of, claimed_by, claims_or_refusal, image_fault, images_fault, index_or_refusal, journal_fault, known_below, map_checked, mapped_from, maps_in, maps_left, maps_of, metadata_from, metadata_of, no_claims, node_checked, node_or_refusal, nodes_left, refuse, unless, with_ref_at, with_refs_at}
use Rattle.vb_store.specs.declared.map_page.MapPage.{MapPage}
use Rattle.vb_store.specs.Sameness.{IsSameStore}
use Rattle.vb_store.proofs.SameJournals.{IsNode, images_fault-none, nodes_of_images, or_refusal-none, pages_same}
use Rattle.vb_store.proofs.Chains.{and_then-ok, refuse-ok, unless-ok}

-- ---- heads

pub settled-nodes : (h : Head) (s : State) → (settled_from h s).nodes ≡ h.nodes
settled-nodes h Closed = refl
settled-nodes h (Opened count) = refl
settled-nodes h Rebuilding = refl

pub settled-blocks : (h : Head) (s : State) → (settled_from h s).blocks ≡ h.blocks
settled-blocks h Closed = refl
settled-blocks h (Opened count) = refl
settled-blocks h Rebuilding = refl

-- ---- nodes

node_or_refusal-moved : (place other : ℕ) (r : Result Node NodeError) (node : Node) → node_or_refusal place r ≡ Ok node → node_or_refusal other r ≡ Ok node
node_or_refusal-moved place other (Ok n) node is = cc is
node_or_refusal-moved place other (Err (Unsealed kept found)) node is = absurd (cc is)
node_or_refusal-moved place other (Err (Wrong why)) node is = absurd (cc is)
node_or_refusal-moved place other (Err Memory) node is = absurd (cc is)

-- two tests that passed pass, whatever they would have refused with
pub two_tests : {A E F : Type 0} (t u : Bool) (e f : E) (e' f' : F) (r : Result A E) (r' : Result A F) (end : A) → (r ≡ Ok end → r' ≡ Ok end) → refuse t e (refuse u f r) ≡ Ok end → refuse t e' (refuse u f' r') ≡ Ok end
two_tests true u e f e' f' r r' end then is = absurd (cc is)
two_tests false true e f e' f' r r' end then is = absurd (cc is)
two_tests false false e f e' f' r r' end then is = then is

-- a node that is read from a block is read from the same page at another place
node_checked-moved : (nodes slot place other : ℕ) (page : List ℕ) (node : Node) → node_checked nodes slot (record { place = place; page = page }) ≡ Ok node → node_checked nodes slot (record { place = other; page = page }) ≡ Ok node
node_checked-moved nodes slot place other page node =
    let hurt : RecoverError = Damaged (2 + slot) (seal_of page) (sha256 (sealed_part page)) in
    two_tests (not (is_sealed page)) (not (slot_of page == slot)) hurt (Unfit place Slot) hurt (Unfit other Slot)
    (node_or_refusal place (node_read nodes page)) (node_or_refusal other (node_read nodes page)) node (node_or_refusal-moved place other (node_read nodes page) node)

pub node_checked-same : (nodes slot : ℕ) (a b : Standing) (node : Node) → b.page ≡ a.page → node_checked nodes slot a ≡ Ok node → node_checked nodes slot b ≡ Ok node
node_checked-same nodes slot a b node same is =
    let P : List ℕ → Type 0 = λ page. node_checked nodes slot (record { place = b.place; page = page }) ≡ Ok node in
    subst P (sym same) (node_checked-moved nodes slot a.place b.place a.page node is)

-- what follows a step that ends the same
and_then-same : {A B E : Type 0} (r r' : Result A E) (next next' : A → Result B E) (end : B) → ((a : A) → r ≡ Ok a → r' ≡ Ok a) → ((a : A) → next a ≡ Ok end → next' a ≡ Ok end) → and_then r next ≡ Ok end → and_then r' next' ≡ Ok end
and_then-same {A = A} {B = B} {E = E} (Ok a) r' next next' end first then is = subst (λ (o : Result A E). and_then o next' ≡ Ok end) (sym (first a refl)) (then a is)
and_then-same (Err e) r' next next' end first then is = absurd (cc is)

pub nodes_left-same : (nodes left : ℕ) (a b : ℕ → Standing) (slots end : List Node) → ((slot : ℕ) → slot < length slots + left → (b slot).page ≡ (a slot).page) → nodes_left nodes a left slots ≡ Ok end → nodes_left nodes b left slots ≡ Ok end
nodes_left-same nodes zero a b slots end same is = is
nodes_left-same nodes (suc left) a b slots end same is =
    and_then-same (node_checked nodes (length slots) (a (length slots))) (node_checked nodes (length slots) (b (length slots)))
    (λ node. nodes_left nodes a left (slots ++ node ∷ [])) (λ node. nodes_left nodes b left (slots ++ node ∷ [])) end
    (λ node. node_checked-same nodes (length slots) (a (length slots)) (b (length slots)) node (same (length slots) (omega arith)))
    (λ node. nodes_left-same nodes left a b (slots ++ node ∷ []) end (λ slot within. same slot (omega (arith, within, length-append slots (node ∷ [])))))
    is

-- each slot that was read has a node
pub record HasNode (nodes slot : ℕ) (block : Standing) : Type 0 where
  pub node : Node
  pub is : node_checked nodes slot block ≡ Ok node

pub nodes_left-each : (nodes left : ℕ) (a : ℕ → Standing) (slots end : List Node) → nodes_left nodes a left slots ≡ Ok end → (slot : ℕ) → length slots ≤ slot → slot < length slots + left → HasNode nodes slot (a slot)
nodes_left-each nodes zero a slots end is slot from below = absurd (omega arith)
nodes_left-each nodes (suc left) a slots end is slot from below =
    let first = and_then-ok (node_checked nodes (length slots) (a (length slots))) (λ node. nodes_left nodes a left (slots ++ node ∷ [])) end is in
    elim (cases_eq slot (length slots)) [
      | inl same ↦ subst (λ (s : ℕ). HasNode nodes s (a s)) (sym same) (record { node = first.value; is = first.is })
      | inr apart ↦ nodes_left-each nodes left a (slots ++ first.value ∷ []) end first.then slot
          (omega (arith, from, apart, length-append slots (first.value ∷ []))) (omega (arith, below, length-append slots (first.value ∷ [])))
    ]

-- ---- the tree

-- the same index of the nodes below another head of the same size, wherever they stand
index-moved : (place other : ℕ) (places others : ℕ → ℕ) (r : Result IndexState TableError) (index : IndexState) → index_or_refusal place places r ≡ Ok index → index_or_refusal other others r ≡ Ok index
index-moved place other places others (Ok i) index is = cc is
index-moved place other places others (Err (WrongNode slot why)) index is = absurd (cc is)
index-moved place other places others (Err TooManyPages) index is = absurd (cc is)
index-moved place other places others (Err NoMemoryForIndex) index is = absurd (cc is)

-- two heads of one size
pub record HaveSameSize (head other : Head) : Type 0 where
  pub blocks : other.blocks ≡ head.blocks
  pub nodes : other.nodes ≡ head.nodes

pub limits-same : (head other : Head) → HaveSameSize head other → limits_of other ≡ limits_of head
limits-same head other size =
    ap (λ (b : ℕ). let l : Limits = record { pages = page_limit b other.nodes; nodes = other.nodes } in l) size.blocks
    ∙ ap (λ (n : ℕ). let l : Limits = record { pages = page_limit head.blocks n; nodes = n } in l) size.nodes

pub claims-same : (head other : Head) → HaveSameSize head other → no_claims other ≡ no_claims head
claims-same head other size =
    ap (λ (b : ℕ). let c : ClaimsState = record { first = 2 + 2 * other.nodes; taken = replicate (b - (2 + 2 * other.nodes)) false } in c) size.blocks
    ∙ ap (λ (n : ℕ). let c : ClaimsState = record { first = 2 + 2 * n; taken = replicate (head.blocks - (2 + 2 * n)) false } in c) size.nodes

-- ---- map pages

claimed-moved : (block there : ℕ) (claims : ClaimsState) (r : Result (Unit {0}) Why) (all : ClaimsState) → claims_or_refusal block claims r ≡ Ok all → claims_or_refusal there claims r ≡ Ok all
claimed-moved block there claims (Ok done) all is = is
claimed-moved block there claims (Err why) all is = absurd (cc is)

after_claim-moved : (block there : ℕ) (m : MapPage) (known end : Mapped) → after_claim block m known ≡ Ok end → after_claim there m known ≡ Ok end
after_claim-moved block there m known end =
    let with_claims : ClaimsState → Result Mapped RecoverError = λ claims. Ok (record known { claims = claims }) in
    and_then-same (claimed_by block known.claims m.reference.place) (claimed_by there known.claims m.reference.place) with_claims with_claims end
    (λ claims. claimed-moved block there (with_claim known.claims m.reference.place) (claim_answer known.claims m.reference.place) claims) (λ claims same. same)

maps_left-same : (old new : ℕ → List ℕ) (places others : ℕ → ℕ) (maps : List MapPage) (known end : Mapped) → All (λ map. new map.reference.place ≡ old map.reference.place) maps → maps_left old places maps known ≡ Ok end → maps_left new others maps known ≡ Ok end
maps_left-same old new places others [] known end same = λ is. is
maps_left-same old new places others (m ∷ ms) known end same =
    let Same : MapPage → Type 0 = λ n. new n.reference.place ≡ old n.reference.place in
    and_then-same (after_claim (places m.slot) m known) (after_claim (others m.slot) m known)
    (λ claimed. and_then (after_page m (old m.reference.place) claimed) (maps_left old places ms)) (λ claimed. and_then (after_page m (new m.reference.place) claimed) (maps_left new others ms)) end
    (λ claimed. after_claim-moved (places m.slot) (others m.slot) m known claimed)
    (λ claimed. and_then-same (after_page m (old m.reference.place) claimed) (after_page m (new m.reference.place) claimed) (maps_left old places ms) (maps_left new others ms) end
    (λ next was. ap (λ (page : List ℕ). after_page m page claimed) (All-head Same m ms same) ∙ was)
    (λ next. maps_left-same old new places others ms next end (All-tail Same m ms same)))

-- references of pages change no node
maps_of-with_ref : (page : ℕ) (r : Ref) (o : Option Held) → maps_of (option_map (with_ref page r) o) ≡ maps_of o
maps_of-with_ref page r None = refl
maps_of-with_ref page r (Some held) = refl

maps_in-set : (slots : List (Option Held)) (slot : ℕ) (o : Option Held) → maps_of o ≡ maps_of (held_at slots slot) → maps_in (slice_set slots slot o) ≡ maps_in slots
unfolding maps_in
maps_in-set [] slot o same = refl
maps_in-set (s ∷ slots) zero o same = ap (λ (maps : List MapPage). maps ++ flat_map maps_of slots) same
maps_in-set (s ∷ slots) (suc slot) o same = ap (λ (maps : List MapPage). maps_of s ++ maps) (maps_in-set slots slot o same)

pub maps_in-with_refs_at : (refs : List Ref) (slots : List (Option Held)) (slot first : ℕ) → maps_in (with_refs_at slots slot first refs) ≡ maps_in slots
maps_in-with_refs_at [] slots slot first = refl
maps_in-with_refs_at (r ∷ rs) slots slot first =
    maps_in-with_refs_at rs (with_ref_at slots slot first r) slot (first + 1)
    ∙ maps_in-set slots slot (option_map (with_ref first r) (held_at slots slot)) (maps_of-with_ref first r (held_at slots slot))

after_claim-nodes : (block : ℕ) (m : MapPage) (known end : Mapped) → after_claim block m known ≡ Ok end → maps_in end.slots ≡ maps_in known.slots
after_claim-nodes block m known end is =
    let one = and_then-ok (claimed_by block known.claims m.reference.place) (λ claims. Ok (record known { claims = claims })) end is in
    let made : (let next : Mapped = record known { claims = one.value } in next ≡ end) = cc one.then in
    ap (λ (k : Mapped). maps_in k.slots) (sym made)

after_page-nodes : (m : MapPage) (page : List ℕ) (known end : Mapped) → after_page m page known ≡ Ok end → maps_in end.slots ≡ maps_in known.slots
after_page-nodes m page known end is =
    let last : List Ref → ClaimsState → Result Mapped RecoverError = λ refs all. Ok (record { slots = with_refs_at known.slots m.slot m.first refs; claims = all }) in
    let one = and_then-ok (map_checked m page) (λ refs. and_then (all_claimed_by m.reference.place known.claims refs) (last refs)) end is in
    let two = and_then-ok (all_claimed_by m.reference.place known.claims one.value) (last one.value) end one.then in
    let made : with_refs_at known.slots m.slot m.first one.value ≡ end.slots = cc two.then in
    ap maps_in (sym made) ∙ maps_in-with_refs_at one.value known.slots m.slot m.first

pub maps_left-nodes : (reads : ℕ → List ℕ) (places : ℕ → ℕ) (maps : List MapPage) (known end : Mapped) → maps_left reads places maps known ≡ Ok end → maps_in end.slots ≡ maps_in known.slots
maps_left-nodes reads places [] known end is = let same : known ≡ end = cc is in ap (λ (m : Mapped). maps_in m.slots) (sym same)
maps_left-nodes reads places (m ∷ ms) known end is =
    let one = and_then-ok (after_claim (places m.slot) m known) (λ claimed. and_then (after_page m (reads m.reference.place) claimed) (maps_left reads places ms)) end is in
    let two = and_then-ok (after_page m (reads m.reference.place) one.value) (maps_left reads places ms) end one.then in
    maps_left-nodes reads places ms two.value end two.then ∙ after_page-nodes m (reads m.reference.place) one.value two.value two.is ∙ after_claim-nodes (places m.slot) m known one.value one.is

-- ---- what is known below a head

-- two heads of one size, and their blocks and map pages
pub known_below-same : (old new : ℕ → List ℕ) (head other : Head) (place there : ℕ) (blocks others : ℕ → Standing) (known : Mapped) → HaveSameSize head other → ((slot : ℕ) → slot < head.nodes → (others slot).page ≡ (blocks slot).page) → All (λ map. new map.reference.place ≡ old map.reference.place) (maps_in known.slots) → known_below old head place blocks ≡ Ok known → known_below new other there others ≡ Ok known
known_below-same old new head other place there blocks others known size pages maps is =
    let places : ℕ → ℕ = λ slot. (blocks slot).place in
    let theres : ℕ → ℕ = λ slot. (others slot).place in
    let Same : MapPage → Type 0 = λ m. new m.reference.place ≡ old m.reference.place in
    let first = and_then-ok (nodes_left head.nodes blocks head.nodes []) (λ nodes. and_then (index_or_refusal place places (index_from (limits_of head) nodes)) (mapped_from old head places)) known is in
    let second = and_then-ok (index_or_refusal place places (index_from (limits_of head) first.value)) (mapped_from old head places) known first.then in
    let named : maps_in known.slots ≡ maps_in second.value.nodes = maps_left-nodes old places (maps_in second.value.nodes) (record { slots = second.value.nodes; claims = no_claims head }) known second.then in
    let nodes : nodes_left other.nodes others other.nodes [] ≡ Ok first.value =
    ap (λ (n : ℕ). nodes_left n others n []) size.nodes ∙ nodes_left-same head.nodes head.nodes blocks others [] first.value (λ slot within. pages slot (omega (arith, within))) first.is in
    let index : index_or_refusal there theres (index_from (limits_of other) first.value) ≡ Ok second.value =
    ap (λ (l : Limits). index_or_refusal there theres (index_from l first.value)) (limits-same head other size) ∙ index-moved place there places theres (index_from (limits_of head) first.value) second.value second.is in
    let mapped : mapped_from new other theres second.value ≡ Ok known =
    ap (λ (c : ClaimsState). maps_left new theres (maps_in second.value.nodes) (record { slots = second.value.nodes; claims = c })) (claims-same head other size)
    ∙ maps_left-same old new places theres (maps_in second.value.nodes) (record { slots = second.value.nodes; claims = no_claims head }) known (subst (λ (l : List MapPage). All Same l) named maps) second.then in
    ap (λ (r : Result (List Node) RecoverError). and_then r (λ nodes. and_then (index_or_refusal there theres (index_from (limits_of other) nodes)) (mapped_from new other theres))) nodes
    ∙ ap (λ (r : Result IndexState RecoverError). and_then r (mapped_from new other theres)) index
    ∙ mapped

-- ---- the whole

-- where a journal has no fault, it has no reason to be refused
pub journal_refusal-none : (nodes place : ℕ) (before images : List (List ℕ)) → images_fault nodes place before images ≡ None → images_refusal nodes place before images ≡ None
journal_refusal-none nodes place before [] none = refl
journal_refusal-none nodes place before (image ∷ images) none =
    let both = or_refusal-none (image_fault nodes place before image) (images_fault nodes (place + 1) (before ++ image ∷ []) images) none in
    let own = or_refusal-none (image_refusal nodes place before image) (result_err (node_or_refusal place (node_read nodes image))) both.0 in
    ap (λ (o : Option RecoverError). or_refusal o (images_refusal nodes (place + 1) (before ++ image ∷ []) images)) own.0 ∙ journal_refusal-none nodes (place + 1) (before ++ image ∷ []) images both.1

-- what is recovered where this head counts
pub record RecoversAs (reads : ℕ → List ℕ) (choice : Result Head RecoverError) (r : Recovered) : Type 0 where
  pub head : Head
  pub counts : choice ≡ Ok head
  pub none : journal_refusal reads head ≡ None
  pub settled : settled_head head ≡ r.head
  pub images : node_images reads head ≡ r.images

recovers_from : (reads : ℕ → List ℕ) (head : Head) (o : Option RecoverError) (r : Recovered) → journal_refusal reads head ≡ o → recovered_from reads head o ≡ Ok r → RecoversAs reads (Ok head) r
recovers_from reads head None r none is =
    let same : (let made : Recovered = record { head = settled_head head; images = node_images reads head } in made ≡ r) = cc is in
    record { head = head; counts = refl; none = none; settled = ap (λ (x : Recovered). x.head) same; images = ap (λ (x : Recovered). x.images) same }
recovers_from reads head (Some e) r none is = absurd (cc is)

pub recovers_as : (reads : ℕ → List ℕ) (choice : Result Head RecoverError) (r : Recovered) → recovered_by reads choice ≡ Ok r → RecoversAs reads choice r
recovers_as reads (Err e) r is = absurd (cc is)
recovers_as reads (Ok head) r is = recovers_from reads head (journal_refusal reads head) r refl is

-- the node in a page that was read
pub node_from_checked : (place : ℕ) (r : Result Node NodeError) (node : Node) → node_or_refusal place r ≡ Ok node → r ≡ Ok node
node_from_checked place (Ok n) node is = cc is
node_from_checked place (Err (Unsealed kept found)) node is = absurd (cc is)
node_from_checked place (Err (Wrong why)) node is = absurd (cc is)
node_from_checked place (Err Memory) node is = absurd (cc is)

node_in_block : (nodes slot : ℕ) (block : Standing) → HasNode nodes slot block → IsNode nodes block.page
node_in_block nodes slot block has =
    let one = refuse-ok (not (is_sealed block.page)) (Damaged (2 + slot) (seal_of block.page) (sha256 (sealed_part block.page)))
    (refuse (not (slot_of block.page == slot)) (Unfit block.place Slot) (node_or_refusal block.place (node_read nodes block.page))) has.node has.is in
    let two = refuse-ok (not (slot_of block.page == slot)) (Unfit block.place Slot) (node_or_refusal block.place (node_read nodes block.page)) has.node one.then in
    record { node = has.node; is = node_from_checked block.place (node_read nodes block.page) has.node two.then }

pub metadata-same : (size : ℕ) (m : Metadata) (old new : ℕ → List ℕ) → metadata_of size old ≡ Ok m → IsSameStore size m old new → metadata_of size new ≡ Ok m
unfolding metadata_of recovery_of
metadata-same size m old new is same =
    let one = and_then-ok (choice_of size old) (λ head. unless (journal_fault old head) (and_then (known_below old head (head_place old) (block_of old head)) (λ known. Ok (metadata_from head known)))) m is in
    let a : Head = one.value in
    let two = unless-ok (journal_fault old a) (and_then (known_below old a (head_place old) (block_of old a)) (λ known. Ok (metadata_from a known))) m one.then in
    let three = and_then-ok (known_below old a (head_place old) (block_of old a)) (λ known. Ok (metadata_from a known)) m two.then in
    let known : Mapped = three.value in
    let made : metadata_from a known ≡ m = cc three.then in
    let none : journal_refusal old a ≡ None = journal_refusal-none a.nodes (journal_place a) [] (journal_of old a) two.none in
    let first : Recovered = record { head = settled_head a; images = node_images old a } in
    let recovered : recovery_of size old ≡ Ok first =
    ap (recovered_by old) one.is ∙ ap (recovered_from old a) none in
    let again = recovers_as new (choice_of size new) first (same.recovery ∙ recovered) in
    let b : Head = again.head in
    let nodes : b.nodes ≡ a.nodes = sym (settled-nodes b b.state) ∙ ap (λ (h : Head). h.nodes) again.settled ∙ settled-nodes a a.state in
    let blocks : b.blocks ≡ a.blocks = sym (settled-blocks b b.state) ∙ ap (λ (h : Head). h.blocks) again.settled ∙ settled-blocks a a.state in
    let images : pages_from (node_image new b) 0 a.nodes ≡ pages_from (node_image old a) 0 a.nodes = subst (λ (n : ℕ). pages_from (node_image new b) 0 n ≡ pages_from (node_image old a) 0 a.nodes) nodes again.images in
    let page : (slot : ℕ) → slot < a.nodes → node_image new b slot ≡ node_image old a slot = λ slot within. pages_same (node_image new b) (node_image old a) a.nodes images slot within in
    let below = and_then-ok (nodes_left a.nodes (block_of old a) a.nodes []) (λ nodes. and_then (index_or_refusal (head_place old) (λ slot. (block_of old a slot).place) (index_from (limits_of a) nodes)) (mapped_from old a (λ slot. (block_of old a slot).place))) known three.is in
    let each : (slot : ℕ) → slot < a.nodes → IsNode b.nodes (node_image new b slot) = λ slot within.
    subst (λ (n : ℕ). IsNode n (node_image new b slot)) (sym nodes)
    (subst (IsNode a.nodes) (sym (page slot within)) (node_in_block a.nodes slot (block_of old a slot) (nodes_left-each a.nodes a.nodes (block_of old a) [] below.value below.is slot (omega arith) (omega (arith, within))))) in
    let faultless : journal_fault new b ≡ None = images_fault-none b.nodes (journal_place b) [] (journal_of new b) again.none
    (nodes_of_images b.nodes (journal_place b) [] (journal_of new b) again.none (λ slot. new (2 + slot)) (λ slot within. each slot (omega (arith, within, nodes)))) in
    let below_new : known_below new b (head_place new) (block_of new b) ≡ Ok known =
    known_below-same old new a b (head_place old) (head_place new) (block_of old a) (block_of new b) known (record { blocks = blocks; nodes = nodes }) page
    (subst (λ (x : Metadata). All (λ map. new map.reference.place ≡ old map.reference.place) (maps_in x.held)) (sym made) same.maps) three.is in
    let from : Metadata = metadata_from b known in
    let end : from ≡ m = ap (λ (h : Head). let x : Metadata = record { head = h; held = known.slots } in x) again.settled ∙ made in
    ap (λ (r : Result Head RecoverError). and_then r (λ head. unless (journal_fault new head) (and_then (known_below new head (head_place new) (block_of new head)) (λ known. Ok (metadata_from head known))))) again.counts
    ∙ ap (λ (o : Option RecoverError). unless o (and_then (known_below new b (head_place new) (block_of new b)) (λ known. Ok (metadata_from b known)))) faultless
    ∙ ap (λ (r : Result Mapped RecoverError). and_then r (λ known. Ok (metadata_from b known))) below_new
    ∙ ap (λ (x : Metadata). let r : Result Metadata RecoverError = Ok x in r) end
