-- Where a head counts, metadata are refused below the heads alone.
use Rattle.std.proofs.Common.{◌≡◌, ℕ, zero, suc, ◌+◌, ◌≤◌, Bool, true, false, cond, eqb, not, ◌||◌, ◌==◌, nat_lt, List, [], ◌∷◌, ◌++◌, length, Option, Some, None, Result, Ok, Err, refl, sym, subst, ◌∙◌, arith}
use Rattle.std.specs.Result.{result_err}
use Rattle.std.specs.Str.{bytes_eq}
use Rattle.sha2.specs.Sha256.{sha256}
use Rattle.vb_block.specs.Pages.{seal_of, sealed_part}
use Rattle.vb_block.specs.declared.digest.Ref.{Ref}
use Rattle.vb_block.specs.declared.why.Why.{Why}
use Rattle.vb_block.specs.declared.why.Why.TheVariants.{Slot}
use Rattle.vb_disk.specs.Misses.{is_sealed}
use Rattle.vb_head.specs.declared.head.Head.{Head}
use Rattle.vb_index.specs.Indexes.{IndexState}
use Rattle.vb_inode.specs.declared.node.Node.{Node}
use Rattle.vb_inode.specs.declared.errors.NodeError.{NodeError}
use Rattle.vb_inode.specs.declared.errors.NodeError.TheVariants.{Unsealed, Wrong, Memory as NoMemoryForNode}
use Rattle.vb_inode.specs.declared.errors.MapError.{MapError}
use Rattle.vb_inode.specs.declared.errors.MapError.TheVariants.{Wrong as WrongMap, Memory as NoMemoryForMap}
use Rattle.vb_inode.specs.Reading.{map_read, node_read}
use Rattle.vb_journal.specs.declared.recover_error.RecoverError.{RecoverError}
use Rattle.vb_journal.specs.declared.recover_error.RecoverError.TheVariants.{Damaged, Unfit}
use Rattle.vb_journal.specs.Images.{slot_of}
use Rattle.vb_journal.specs.Notes.{head_place, journal_slots}
use Rattle.vb_journal.specs.Recoveries.{choice_of, image_refusal, is_named, journal_of, journal_place, or_refusal}
use Rattle.vb_nodes.specs.declared.errors.TableError.{TableError}
use Rattle.vb_nodes.specs.declared.errors.TableError.TheVariants.{Wrong as WrongNode, TooManyPages, Memory as NoMemoryForIndex}
use Rattle.vb_nodes.specs.Claiming.{ClaimsState, claim_answer, with_claim}
use Rattle.vb_nodes.specs.Holdings.{index_from}
use Rattle.vb_store.specs.declared.map_page.MapPage.{MapPage}
use Rattle.vb_store.specs.Beside.{IsBelowHeads, MayFailBelow}
use Rattle.vb_store.specs.Metadata.{Mapped, Metadata, Standing, after_claim, after_page, all_claimed_by, and_then, block_of, claimed_by, claims_or_refusal, image_fault, images_fault, index_or_refusal, journal_fault, known_below, map_checked, mapped_from, maps_in, maps_left, metadata_from, metadata_of, no_claims, node_checked, node_or_refusal, nodes_left, place_over, refs_or_refusal, refuse, unless, with_refs_at}
use Rattle.vb_store.specs.Views.{limits_of}
use Rattle.vb_store.proofs.ClaimsMade.{after_claim-named, after_page-first}

-- ---- one check after another

then_below : {A B : Type 0} (r : Result A RecoverError) (next : A → Result B RecoverError) → MayFailBelow r → ((a : A) → r ≡ Ok a → MayFailBelow (next a)) → MayFailBelow (and_then r next)
then_below (Ok a) next first then = then a refl
then_below (Err e) next first then = first

refuse_below : {A : Type 0} (test : Bool) (e : RecoverError) (next : Result A RecoverError) → IsBelowHeads e → MayFailBelow next → MayFailBelow (refuse test e next)
refuse_below true e next refused then = refused
refuse_below false e next refused then = then

-- a refusal that there may be
abbrev MayRefuse : Option RecoverError → Type 0
MayRefuse None = Unit {0}
MayRefuse (Some e) = IsBelowHeads e

unless_below : {A : Type 0} (o : Option RecoverError) (next : Result A RecoverError) → MayRefuse o → MayFailBelow next → MayFailBelow (unless o next)
unless_below None next refused then = then
unless_below (Some e) next refused then = refused

or_below : (a b : Option RecoverError) → MayRefuse a → MayRefuse b → MayRefuse (or_refusal a b)
or_below None b first second = second
or_below (Some e) b first second = first

-- ---- the journal

by_tests : (sealed off : Bool) (place : ℕ) (kept found : List ℕ) → 2 ≤ place → MayRefuse (cond (not sealed) (Some (Damaged place kept found)) (cond off (Some (Unfit place Slot)) None))
by_tests false off place kept found past = past
by_tests true true place kept found past = tt
by_tests true false place kept found past = tt

node_below : (place : ℕ) (r : Result Node NodeError) → 2 ≤ place → MayFailBelow (node_or_refusal place r)
node_below place (Ok node) past = tt
node_below place (Err (Unsealed kept found)) past = past
node_below place (Err (Wrong why)) past = tt
node_below place (Err NoMemoryForNode) past = tt

err_below : {A : Type 0} (r : Result A RecoverError) → MayFailBelow r → MayRefuse (result_err r)
err_below (Ok a) is = tt
err_below (Err e) is = is

images_below : (nodes place : ℕ) (before images : List (List ℕ)) → 2 ≤ place → MayRefuse (images_fault nodes place before images)
images_below nodes place before [] past = tt
images_below nodes place before (image ∷ images) past =
    or_below (image_fault nodes place before image) (images_fault nodes (place + 1) (before ++ image ∷ []) images)
    (or_below (image_refusal nodes place before image) (result_err (node_or_refusal place (node_read nodes image)))
    (by_tests (is_sealed image) (not (nat_lt (slot_of image) nodes) || is_named before (slot_of image)) place (seal_of image) (sha256 (sealed_part image)) past)
    (err_below (node_or_refusal place (node_read nodes image)) (node_below place (node_read nodes image) past)))
    (images_below nodes (place + 1) (before ++ image ∷ []) images (omega (arith, past)))

-- ---- the nodes

-- a block stands past the heads
over_past : (slots : List ℕ) (place slot home : ℕ) → 2 ≤ place → 2 ≤ home → 2 ≤ place_over slots place slot home
over_past [] place slot home past is = is
over_past (named ∷ slots) place slot home past is = over_past slots (place + 1) slot (cond (eqb named slot) place home) (omega (arith, past)) (either_past (eqb named slot))
  where
    either_past : (test : Bool) → 2 ≤ cond test place home
    either_past true = past
    either_past false = is

checked_below : (nodes slot : ℕ) (block : Standing) → 2 ≤ block.place → MayFailBelow (node_checked nodes slot block)
checked_below nodes slot block past =
    refuse_below (not (is_sealed block.page)) (Damaged (2 + slot) (seal_of block.page) (sha256 (sealed_part block.page)))
    (refuse (not (slot_of block.page == slot)) (Unfit block.place Slot) (node_or_refusal block.place (node_read nodes block.page)))
    (omega arith)
    (refuse_below (not (slot_of block.page == slot)) (Unfit block.place Slot) (node_or_refusal block.place (node_read nodes block.page)) tt
    (node_below block.place (node_read nodes block.page) past))

nodes_below : (nodes left : ℕ) (blocks : ℕ → Standing) (found : List Node) → ((slot : ℕ) → 2 ≤ (blocks slot).place) → MayFailBelow (nodes_left nodes blocks left found)
nodes_below nodes zero blocks found past = tt
nodes_below nodes (suc left) blocks found past =
    then_below (node_checked nodes (length found) (blocks (length found))) (λ node. nodes_left nodes blocks left (found ++ node ∷ []))
    (checked_below nodes (length found) (blocks (length found)) (past (length found)))
    (λ node read. nodes_below nodes left blocks (found ++ node ∷ []) past)

table_below : (place : ℕ) (places : ℕ → ℕ) (r : Result IndexState TableError) → MayFailBelow (index_or_refusal place places r)
table_below place places (Ok index) = tt
table_below place places (Err (WrongNode slot why)) = tt
table_below place places (Err TooManyPages) = tt
table_below place places (Err NoMemoryForIndex) = tt

-- ---- the map pages

claim_below : (block : ℕ) (claims : ClaimsState) (r : Result (Unit {0}) Why) → MayFailBelow (claims_or_refusal block claims r)
claim_below block claims (Ok done) = tt
claim_below block claims (Err why) = tt

all_below : (block : ℕ) (claims : ClaimsState) (refs : List Ref) → MayFailBelow (all_claimed_by block claims refs)
all_below block claims [] = tt
all_below block claims (r ∷ rs) =
    then_below (claimed_by block claims r.place) (λ more. all_claimed_by block more rs)
    (claim_below block (with_claim claims r.place) (claim_answer claims r.place)) (λ more made. all_below block more rs)

refs_below : (place : ℕ) (r : Result (List Ref) MapError) → MayFailBelow (refs_or_refusal place r)
refs_below place (Ok refs) = tt
refs_below place (Err (WrongMap why)) = tt
refs_below place (Err NoMemoryForMap) = tt

page_below : (m : MapPage) (page : List ℕ) (known : Mapped) → 2 ≤ m.reference.place → MayFailBelow (after_page m page known)
page_below m page known past =
    let place : ℕ = m.reference.place in
    let last : List Ref → ClaimsState → Result Mapped RecoverError = λ refs all. Ok (record { slots = with_refs_at known.slots m.slot m.first refs; claims = all }) in
    then_below (map_checked m page) (λ refs. and_then (all_claimed_by place known.claims refs) (last refs))
    (refuse_below (not (bytes_eq m.reference.digest (sha256 page))) (Damaged place m.reference.digest (sha256 page)) (refs_or_refusal place (map_read m.count page)) past (refs_below place (map_read m.count page)))
    (λ refs read. then_below (all_claimed_by place known.claims refs) (last refs) (all_below place known.claims refs) (λ all made. tt))

pub maps_below : (reads : ℕ → List ℕ) (places : ℕ → ℕ) (maps : List MapPage) (known : Mapped) → 2 ≤ known.claims.first → MayFailBelow (maps_left reads places maps known)
maps_below reads places [] known past = tt
maps_below reads places (m ∷ ms) known past =
    let page : Mapped → Result Mapped RecoverError = after_page m (reads m.reference.place) in
    then_below (after_claim (places m.slot) m known) (λ claimed. and_then (page claimed) (maps_left reads places ms))
    (then_below (claimed_by (places m.slot) known.claims m.reference.place) (λ claims. Ok (record known { claims = claims }))
    (claim_below (places m.slot) (with_claim known.claims m.reference.place) (claim_answer known.claims m.reference.place)) (λ claims made. tt))
    (λ claimed made.
    let named = after_claim-named (places m.slot) m known claimed made in
    then_below (page claimed) (maps_left reads places ms)
    (page_below m (reads m.reference.place) claimed (let inside = named.inside in omega (arith, inside, past)))
    (λ next read. maps_below reads places ms next
    (let first = after_page-first m (reads m.reference.place) claimed next read ∙ named.first_is in omega (arith, first, past))))

-- ---- the whole

known-below : (reads : ℕ → List ℕ) (head : Head) (place : ℕ) (blocks : ℕ → Standing) → ((slot : ℕ) → 2 ≤ (blocks slot).place) → MayFailBelow (known_below reads head place blocks)
known-below reads head place blocks past =
    let places : ℕ → ℕ = λ slot. (blocks slot).place in
    let index : List Node → Result IndexState RecoverError = λ nodes. index_or_refusal place places (index_from (limits_of head) nodes) in
    then_below (nodes_left head.nodes blocks head.nodes []) (λ nodes. and_then (index nodes) (mapped_from reads head places))
    (nodes_below head.nodes head.nodes blocks [] past)
    (λ nodes read. then_below (index nodes) (mapped_from reads head places) (table_below place places (index_from (limits_of head) nodes))
    (λ made indexed. maps_below reads places (maps_in made.nodes) (record { slots = made.nodes; claims = no_claims head }) (omega arith)))

pub metadata-below : (size : ℕ) (reads : ℕ → List ℕ) (head : Head) → choice_of size reads ≡ Ok head → MayFailBelow (metadata_of size reads)
unfolding metadata_of
metadata-below size reads head is =
    let made : Head → Mapped → Result Metadata RecoverError = λ h known. Ok (metadata_from h known) in
    let below : Head → Result Metadata RecoverError = λ h. unless (journal_fault reads h) (and_then (known_below reads h (head_place reads) (block_of reads h)) (made h)) in
    let known : Result Mapped RecoverError = known_below reads head (head_place reads) (block_of reads head) in
    subst (λ (c : Result Head RecoverError). MayFailBelow (and_then c below)) (sym is)
    (unless_below (journal_fault reads head) (and_then known (made head))
    (images_below head.nodes (journal_place head) [] (journal_of reads head) (omega arith))
    (then_below known (made head)
    (known-below reads head (head_place reads) (block_of reads head)
    (λ slot. over_past (journal_slots reads head) (2 + head.nodes) slot (2 + slot) (omega arith) (omega arith)))
    (λ all read. tt)))
