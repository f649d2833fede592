-- Reads that differ from others only where a place is hurt have the same metadata, or are refused as damaged there.
use Rattle.std.proofs.Common.{◌≡◌, ℕ, zero, suc, ◌+◌, Bool, true, false, cond, not, ◌==◌, eqb, List, [], ◌∷◌, ◌++◌, length, map, Option, Some, None, Result, Ok, Err, refl, sym, ap, subst, ◌∙◌, ◌⊎◌, inl, inr}
use Rattle.std.specs.Result.{result_err}
use Rattle.std.specs.Str.{bytes_eq}
use Rattle.std.proofs.lemmas.Bool.{false_from_ne_true}
use Rattle.std.proofs.lemmas.Slice.Eq.{bytes_eq-Decides}
use Rattle.sha2.specs.Sha256.{sha256}
use Rattle.vb_block.specs.Pages.{IsSealed, seal_of, sealed_part}
use Rattle.vb_block.specs.declared.digest.Ref.{Ref}
use Rattle.vb_block.specs.declared.why.Why.TheVariants.{Slot}
use Rattle.vb_head.specs.declared.head.Head.{Head}
use Rattle.vb_head.specs.Heads.{count_of, head_read}
use Rattle.vb_index.specs.Indexes.{IndexState}
use Rattle.vb_inode.specs.declared.node.Node.{Node}
use Rattle.vb_inode.specs.Reading.{map_read, node_read}
use Rattle.vb_journal.specs.declared.recover_error.RecoverError.{RecoverError}
use Rattle.vb_journal.specs.declared.recover_error.RecoverError.TheVariants.{Damaged, Unfit}
use Rattle.vb_journal.specs.Images.{slot_of}
use Rattle.vb_journal.specs.Notes.{head_place}
use Rattle.vb_journal.specs.Recoveries.{choice_of, greater_place, journal_of, journal_place, or_refusal}
use Rattle.vb_journal.specs.Shown.{good_of, image_over, pages_from}
use Rattle.vb_journal.proofs.Found.{refused_image, unsealed_test}
use Rattle.vb_journal.proofs.SameRecoveries.{choice_of-same}
use Rattle.vb_nodes.specs.Holdings.{index_from}
use Rattle.vb_store.specs.declared.map_page.MapPage.{MapPage}
use Rattle.vb_store.specs.Metadata.{Mapped, Metadata, Standing, after_claim, after_page, all_claimed_by, and_then, block_of, block_place, image_fault, images_fault, index_or_refusal, journal_fault, known_below, map_checked, mapped_from, maps_in, maps_left, metadata_from, metadata_of, no_claims, node_checked, node_or_refusal, nodes_left, refs_or_refusal, refuse, unless, with_refs_at}
use Rattle.vb_store.specs.OneOf.{DifferWhereHurt, IsFoundHurt, IsHurtRead}
use Rattle.vb_store.specs.Views.{limits_of}
use Rattle.vb_store.proofs.CrashesOfMounts.{has_metadata}
use Rattle.vb_store.proofs.SameJournals.{not_false, or_refusal-none}
use Rattle.vb_store.proofs.Chains.{refuse-ok}

-- ---- one check after another

-- an answer that was good stays so, or damage is found
abbrev Keeps : {T : Type 0} → (ℕ → List ℕ) → (ℕ → List ℕ) → Result T RecoverError → T → Type 0
Keeps old new answer end = (answer ≡ Ok end) ⊎ IsFoundHurt old new answer

found_then : {A B : Type 0} (old new : ℕ → List ℕ) (r : Result A RecoverError) (next : A → Result B RecoverError) → IsFoundHurt old new r → IsFoundHurt old new (and_then r next)
found_then old new r next hurt = record {
  place = hurt.place;
  kept = hurt.kept;
  found = hurt.found;
  is = ap (λ (x : Result _ RecoverError). and_then x next) hurt.is;
  hurt = hurt.hurt;
}

keeps_then : {A B : Type 0} (old new : ℕ → List ℕ) (r r' : Result A RecoverError) (next next' : A → Result B RecoverError) (end : B) → ((a : A) → r ≡ Ok a → Keeps old new r' a) → ((a : A) → next a ≡ Ok end → Keeps old new (next' a) end) → and_then r next ≡ Ok end → Keeps old new (and_then r' next') end
keeps_then {A = A} old new (Ok a) r' next next' end first then is = elim (first a refl) [
  | inl same ↦ subst (λ (o : Result A RecoverError). Keeps old new (and_then o next') end) (sym same) (then a is)
  | inr hurt ↦ inr (found_then old new r' next' hurt)
]
keeps_then old new (Err e) r' next next' end first then is = absurd (cc is)

-- ---- the journal

-- an image that is hurt is the fault of a journal
record FindsImage (old new : ℕ → List ℕ) (fault : Option RecoverError) : Type 0 where
  place : ℕ
  kept : List ℕ
  found : List ℕ
  is : fault ≡ Some (Damaged place kept found)
  hurt : IsHurtRead old new place

-- a journal without a fault reads the same, or its first image that is hurt is its fault
images_kept : (old new : ℕ → List ℕ) (nodes place : ℕ) (before : List (List ℕ)) (n : ℕ) → ((q : ℕ) → (new q ≡ old q) ⊎ IsHurtRead old new q) → images_fault nodes place before (pages_from old place n) ≡ None → (pages_from new place n ≡ pages_from old place n) ⊎ FindsImage old new (images_fault nodes place before (pages_from new place n))
images_kept old new nodes place before zero each sound = inl refl
images_kept old new nodes place before (suc n) each sound =
    let pages : List (List ℕ) = pages_from new (place + 1) n in
    let both = or_refusal-none (image_fault nodes place before (old place)) (images_fault nodes (place + 1) (before ++ old place ∷ []) (pages_from old (place + 1) n)) sound in
    elim (each place) [
      | inl same ↦ elim (images_kept old new nodes (place + 1) (before ++ old place ∷ []) n each both.1) [
        | inl rest ↦ inl (ap (λ (p : List ℕ). p ∷ pages) same ∙ ap (λ (l : List (List ℕ)). old place ∷ l) rest)
        | inr finds ↦ inr (record {
          place = finds.place;
          kept = finds.kept;
          found = finds.found;
          is = ap (λ (p : List ℕ). images_fault nodes place before (p ∷ pages)) same
              ∙ ap (λ (o : Option RecoverError). or_refusal o (images_fault nodes (place + 1) (before ++ old place ∷ []) pages)) both.0
              ∙ finds.is;
          hurt = finds.hurt;
        })
      ]
      | inr hurt ↦ inr (record {
        place = place;
        kept = seal_of (new place);
        found = sha256 (sealed_part (new place));
        is = ap (λ (o : Option RecoverError). or_refusal (or_refusal o (result_err (node_or_refusal place (node_read nodes (new place))))) (images_fault nodes (place + 1) (before ++ new place ∷ []) pages)) (refused_image nodes place before (new place) hurt.unsealed);
        hurt = hurt;
      })
    ]

-- ---- the node blocks

-- the images of a journal leave what stands at a home, or put the same over it whatever stands there
over_or_bare : (images : List (List ℕ)) (slot : ℕ) → ((home : List ℕ) → image_over images slot home ≡ home) ⊎ ((a b : List ℕ) → image_over images slot a ≡ image_over images slot b)
over_or_bare [] slot = inl (λ home. refl)
over_or_bare (image ∷ images) slot = elim (over_or_bare images slot) [
  | inl bare ↦ by_test (eqb (slot_of image) slot) image bare
  | inr over ↦ inr (λ a b. over (cond (eqb (slot_of image) slot) image a) (cond (eqb (slot_of image) slot) image b))
]
  where
    by_test : (t : Bool) (image : List ℕ) → ((home : List ℕ) → image_over images slot home ≡ home) → ((home : List ℕ) → image_over images slot (cond t image home) ≡ home) ⊎ ((a b : List ℕ) → image_over images slot (cond t image a) ≡ image_over images slot (cond t image b))
    by_test true image bare = inr (λ a b. refl)
    by_test false image bare = inl bare

-- a block reads the same, or it is a home that is hurt
abbrev KeepsBlock : (ℕ → List ℕ) → (ℕ → List ℕ) → Standing → Standing → ℕ → Type 0
KeepsBlock old new was now slot = (now ≡ was) ⊎ ((¬ IsSealed now.page) × IsHurtRead old new (2 + slot))

same_block : (was now : Standing) → now.place ≡ was.place → now.page ≡ was.page → now ≡ was
same_block was now place page = λ i. record { place = place i; page = page i }

block_kept : (old new : ℕ → List ℕ) (head : Head) (slot : ℕ) → journal_of new head ≡ journal_of old head → (new (2 + slot) ≡ old (2 + slot)) ⊎ IsHurtRead old new (2 + slot) → KeepsBlock old new (block_of old head slot) (block_of new head slot) slot
block_kept old new head slot journal home =
    let place : (block_of new head slot).place ≡ (block_of old head slot).place = ap (λ (l : List (List ℕ)). block_place (map slot_of l) head.nodes slot) journal in
    let page : (block_of new head slot).page ≡ image_over (journal_of old head) slot (new (2 + slot)) = ap (λ (l : List (List ℕ)). image_over l slot (new (2 + slot))) journal in
    elim home [
      | inl same ↦ inl (same_block (block_of old head slot) (block_of new head slot) place (page ∙ ap (image_over (journal_of old head) slot) same))
      | inr hurt ↦ elim (over_or_bare (journal_of old head) slot) [
        | inl bare ↦ inr (subst (λ (p : List ℕ). ¬ IsSealed p) (sym (page ∙ bare (new (2 + slot)))) hurt.unsealed, hurt)
        | inr over ↦ inl (same_block (block_of old head slot) (block_of new head slot) place (page ∙ over (new (2 + slot)) (old (2 + slot))))
      ]
    ]

-- a block that isn't sealed is damaged
pub node_refused : (nodes slot : ℕ) (block : Standing) → ¬ IsSealed block.page → node_checked nodes slot block ≡ Err (Damaged (2 + slot) (seal_of block.page) (sha256 (sealed_part block.page)))
node_refused nodes slot block unsealed =
    ap (λ (t : Bool). refuse (not t) (Damaged (2 + slot) (seal_of block.page) (sha256 (sealed_part block.page))) (refuse (not (slot_of block.page == slot)) (Unfit block.place Slot) (node_or_refusal block.place (node_read nodes block.page)))) (unsealed_test block.page unsealed)

node_kept : (old new : ℕ → List ℕ) (nodes slot : ℕ) (was now : Standing) (node : Node) → KeepsBlock old new was now slot → node_checked nodes slot was ≡ Ok node → Keeps old new (node_checked nodes slot now) node
node_kept old new nodes slot was now node kept is = elim kept [
  | inl same ↦ inl (ap (node_checked nodes slot) same ∙ is)
  | inr hurt ↦ inr (record {
    place = 2 + slot;
    kept = seal_of now.page;
    found = sha256 (sealed_part now.page);
    is = node_refused nodes slot now hurt.0;
    hurt = hurt.1;
  })
]

nodes_kept : (old new : ℕ → List ℕ) (nodes left : ℕ) (was now : ℕ → Standing) (found end : List Node) → ((slot : ℕ) → KeepsBlock old new (was slot) (now slot) slot) → nodes_left nodes was left found ≡ Ok end → Keeps old new (nodes_left nodes now left found) end
nodes_kept old new nodes zero was now found end each is = inl is
nodes_kept old new nodes (suc left) was now found end each is =
    keeps_then old new (node_checked nodes (length found) (was (length found))) (node_checked nodes (length found) (now (length found)))
    (λ node. nodes_left nodes was left (found ++ node ∷ [])) (λ node. nodes_left nodes now left (found ++ node ∷ [])) end
    (λ node. node_kept old new nodes (length found) (was (length found)) (now (length found)) node (each (length found)))
    (λ node. nodes_kept old new nodes left was now (found ++ node ∷ []) end each)
    is

-- ---- the map pages

-- a map page that is hurt has another digest
pub page_refused : (old new : ℕ → List ℕ) (m : MapPage) (refs : List Ref) → map_checked m (old m.reference.place) ≡ Ok refs → IsHurtRead old new m.reference.place → map_checked m (new m.reference.place) ≡ Err (Damaged m.reference.place m.reference.digest (sha256 (new m.reference.place)))
page_refused old new m refs is hurt =
    let at : ℕ = m.reference.place in
    let passed = refuse-ok (not (bytes_eq m.reference.digest (sha256 (old at)))) (Damaged at m.reference.digest (sha256 (old at))) (refs_or_refusal at (map_read m.count (old at))) refs is in
    let digest : m.reference.digest ≡ sha256 (old at) = (bytes_eq-Decides m.reference.digest (sha256 (old at))).0 (not_false (bytes_eq m.reference.digest (sha256 (old at))) passed.test_is) in
    let other : bytes_eq m.reference.digest (sha256 (new at)) ≡ false =
    false_from_ne_true (bytes_eq m.reference.digest (sha256 (new at))) (λ same. hurt.unlike (sym digest ∙ (bytes_eq-Decides m.reference.digest (sha256 (new at))).0 same)) in
    ap (λ (t : Bool). refuse (not t) (Damaged at m.reference.digest (sha256 (new at))) (refs_or_refusal at (map_read m.count (new at)))) other

page_kept : (old new : ℕ → List ℕ) (m : MapPage) (refs : List Ref) → (new m.reference.place ≡ old m.reference.place) ⊎ IsHurtRead old new m.reference.place → map_checked m (old m.reference.place) ≡ Ok refs → Keeps old new (map_checked m (new m.reference.place)) refs
page_kept old new m refs (inl same) is = inl (ap (map_checked m) same ∙ is)
page_kept old new m refs (inr hurt) is = inr (record {
  place = m.reference.place;
  kept = m.reference.digest;
  found = sha256 (new m.reference.place);
  is = page_refused old new m refs is hurt;
  hurt = hurt;
})

maps_kept : (old new : ℕ → List ℕ) (places : ℕ → ℕ) (maps : List MapPage) (known end : Mapped) → ((q : ℕ) → (new q ≡ old q) ⊎ IsHurtRead old new q) → maps_left old places maps known ≡ Ok end → Keeps old new (maps_left new places maps known) end
maps_kept old new places [] known end each is = inl is
maps_kept old new places (m ∷ ms) known end each is =
    keeps_then old new (after_claim (places m.slot) m known) (after_claim (places m.slot) m known)
    (λ claimed. and_then (after_page m (old m.reference.place) claimed) (maps_left old places ms)) (λ claimed. and_then (after_page m (new m.reference.place) claimed) (maps_left new places ms)) end
    (λ claimed claim. inl claim)
    (λ claimed. keeps_then old new (after_page m (old m.reference.place) claimed) (after_page m (new m.reference.place) claimed) (maps_left old places ms) (maps_left new places ms) end
    (λ next. after old new m claimed next each)
    (λ next. maps_kept old new places ms next end each))
    is
  where
    after : (old new : ℕ → List ℕ) (m : MapPage) (claimed next : Mapped) → ((q : ℕ) → (new q ≡ old q) ⊎ IsHurtRead old new q) → after_page m (old m.reference.place) claimed ≡ Ok next → Keeps old new (after_page m (new m.reference.place) claimed) next
    after old new m claimed next each is =
        let last : List Ref → Result Mapped RecoverError = λ refs. and_then (all_claimed_by m.reference.place claimed.claims refs) (λ all. Ok (record { slots = with_refs_at claimed.slots m.slot m.first refs; claims = all })) in
        keeps_then old new (map_checked m (old m.reference.place)) (map_checked m (new m.reference.place)) last last next
        (λ refs. page_kept old new m refs (each m.reference.place)) (λ refs same. inl same) is

-- ---- the whole

below_kept : (old new : ℕ → List ℕ) (head : Head) (known : Mapped) → DifferWhereHurt old new → journal_of new head ≡ journal_of old head → known_below old head (head_place old) (block_of old head) ≡ Ok known → Keeps old new (known_below new head (head_place new) (block_of new head)) known
below_kept old new head known differ journal is =
    let places : ℕ → ℕ = λ slot. (block_of old head slot).place in
    let moved : (λ slot. (block_of new head slot).place) ≡ places = ap (λ (l : List (List ℕ)). λ slot. block_place (map slot_of l) head.nodes slot) journal in
    let at : head_place new ≡ head_place old = head_place-same old new differ in
    let index : ℕ → (ℕ → ℕ) → List Node → Result IndexState RecoverError = λ place others nodes. index_or_refusal place others (index_from (limits_of head) nodes) in
    let by : ℕ → (ℕ → ℕ) → Result Mapped RecoverError = λ place others. and_then (nodes_left head.nodes (block_of new head) head.nodes []) (λ nodes. and_then (index place others nodes) (mapped_from new head others)) in
    let same : by (head_place new) (λ slot. (block_of new head slot).place) ≡ by (head_place old) places = ap (λ (p : ℕ). by p (λ slot. (block_of new head slot).place)) at ∙ ap (by (head_place old)) moved in
    subst (λ (r : Result Mapped RecoverError). Keeps old new r known) (sym same)
    (keeps_then old new (nodes_left head.nodes (block_of old head) head.nodes []) (nodes_left head.nodes (block_of new head) head.nodes [])
    (λ nodes. and_then (index (head_place old) places nodes) (mapped_from old head places)) (λ nodes. and_then (index (head_place old) places nodes) (mapped_from new head places)) known
    (λ nodes. nodes_kept old new head.nodes head.nodes (block_of old head) (block_of new head) [] nodes (λ slot. block_kept old new head slot journal (differ.each (2 + slot))))
    (λ nodes. keeps_then old new (index (head_place old) places nodes) (index (head_place old) places nodes) (mapped_from old head places) (mapped_from new head places) known
    (λ made indexed. inl indexed)
    (λ made. maps_kept old new places (maps_in made.nodes) (record { slots = made.nodes; claims = no_claims head }) known differ.each))
    is)
  where
    head_place-same : (old new : ℕ → List ℕ) → DifferWhereHurt old new → head_place new ≡ head_place old
    head_place-same old new differ =
        ap (λ (p : List ℕ). greater_place (good_of (head_read p)) (good_of (head_read (new 1)))) differ.first
        ∙ ap (λ (p : List ℕ). greater_place (good_of (head_read (old 0))) (good_of (head_read p))) differ.second

-- the metadata where this head counts
below : (ℕ → List ℕ) → Head → Result Metadata RecoverError
below reads head = unless (journal_fault reads head) (and_then (known_below reads head (head_place reads) (block_of reads head)) (λ known. Ok (metadata_from head known)))

metadata_below : (size : ℕ) (reads : ℕ → List ℕ) (head : Head) → choice_of size reads ≡ Ok head → metadata_of size reads ≡ below reads head
unfolding metadata_of below
metadata_below size reads head is =
    ap (λ (c : Result Head RecoverError). and_then c (λ h. unless (journal_fault reads h) (and_then (known_below reads h (head_place reads) (block_of reads h)) (λ known. Ok (metadata_from h known))))) is

pub metadata-hurt : (size : ℕ) (m : Metadata) (old new : ℕ → List ℕ) → metadata_of size old ≡ Ok m → DifferWhereHurt old new → (metadata_of size new ≡ Ok m) ⊎ IsFoundHurt old new (metadata_of size new)
unfolding below
metadata-hurt size m old new is differ =
    let has = has_metadata size old m is in
    let head : Head = has.head in
    let counts : choice_of size new ≡ Ok head = choice_of-same size new old differ.first differ.second ∙ has.counts in
    let whole : metadata_of size new ≡ below new head = metadata_below size new head counts in
    let made : Mapped → Result Metadata RecoverError = λ known. Ok (metadata_from head known) in
    let known_new : Result Mapped RecoverError = known_below new head (head_place new) (block_of new head) in
    elim (images_kept old new head.nodes (journal_place head) [] (count_of head.state) differ.each has.sound) [
      | inl journal ↦
          let sound : journal_fault new head ≡ None = ap (images_fault head.nodes (journal_place head) []) journal ∙ has.sound in
          let reads : metadata_of size new ≡ and_then known_new made = whole ∙ ap (λ (o : Option RecoverError). unless o (and_then known_new made)) sound in
          elim (below_kept old new head has.known differ journal has.below) [
            | inl same ↦ inl (reads ∙ ap (λ (r : Result Mapped RecoverError). and_then r made) same ∙ ap (λ (x : Metadata). let r : Result Metadata RecoverError = Ok x in r) has.made)
            | inr hurt ↦ inr (let after = found_then old new known_new made hurt in record { place = after.place; kept = after.kept; found = after.found; is = reads ∙ after.is; hurt = after.hurt })
          ]
      | inr finds ↦ inr (record {
        place = finds.place;
        kept = finds.kept;
        found = finds.found;
        is = whole ∙ ap (λ (o : Option RecoverError). unless o (and_then known_new made)) finds.is;
        hurt = finds.hurt;
      })
    ]
