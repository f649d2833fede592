-- What a disk recovers to, by the head that counts and what its journal reads as.
use Rattle.std.proofs.Common.{◌≡◌, ◌≢◌, ℕ, zero, suc, ◌+◌, ◌<◌, ◌≤◌, Bool, true, false, ◌||◌, eqb, ltb, List, [], ◌∷◌, ◌++◌, length, Option, Some, None, Result, Ok, Err, refl, sym, ap, subst, ◌∙◌, ◌⊎◌, inl, inr, arith}
use Rattle.std.specs.List.{list_any}
use Rattle.std.proofs.lemmas.Bool.{cond-false, eq-eqb, false_from_ne_true, le-ltb, lt-ltb, ne_eqb}
use Rattle.std.proofs.lemmas.List.Folds.{list_any-append}
use Rattle.std.proofs.lemmas.Slice.Eq.{bytes_eq-Decides}
use Rattle.sha2.specs.Sha256.{sha256}
use Rattle.vb_block.specs.Pages.{IsSealed, seal_of, sealed_part}
use Rattle.vb_disk.specs.Misses.{is_sealed}
use Rattle.vb_disk.specs.States.{DiskState, read_at}
use Rattle.vb_head.specs.declared.head.Head.{Head}
use Rattle.vb_head.specs.declared.head.HeadRead.{HeadRead}
use Rattle.vb_head.specs.declared.head.HeadRead.TheVariants.{Unsealed, Blank}
use Rattle.vb_head.specs.Heads.{head_read}
use Rattle.vb_journal.specs.declared.recover_error.RecoverError.{RecoverError}
use Rattle.vb_journal.specs.declared.recover_error.RecoverError.TheVariants.{NotAStore, Damaged}
use Rattle.vb_journal.specs.Images.{AreImages, image_at, slot_of}
use Rattle.vb_journal.specs.Outcomes.{IsRefused, Recovers, recovery_on}
use Rattle.vb_journal.specs.Recoveries.{Recovered, choice_of, head_among, head_choice, headless, image_refusal, images_refusal, is_named, is_rebuilding, journal_of, journal_refusal, node_image, or_refusal, recovered_by, recovered_from, recovery_of, settled_head}
use Rattle.vb_journal.specs.Shown.{good_of, greater, pages_from}
use Rattle.vb_journal.proofs.Heads.{AreGone, IsNoHead, counting, none_good}
use Rattle.vb_journal.proofs.TriedCells.{StaysHurt}

-- ---- pages that were read one after the other

pub length-pages_from : (reads : ℕ → List ℕ) (place n : ℕ) → length (pages_from reads place n) ≡ n
length-pages_from reads place zero = refl
length-pages_from reads place (suc n) = ap suc (length-pages_from reads (place + 1) n)

pub pages_from-at : (reads : ℕ → List ℕ) (place n i : ℕ) → i < n → image_at (pages_from reads place n) i ≡ reads (place + i)
pages_from-at reads place zero i within = absurd (omega arith)
pages_from-at reads place (suc n) zero within = let same : place ≡ place + 0 = omega arith in ap reads same
pages_from-at reads place (suc n) (suc i) within = let same : place + 1 + i ≡ place + suc i = omega arith in pages_from-at reads (place + 1) n i (omega arith) ∙ ap reads same

-- ---- the head that counts

-- a head of a disk that is large enough and has the head's size counts
choice-some : (size : ℕ) (a b : HeadRead) (h : Head) → 38 ≤ size → greater (good_of a) (good_of b) ≡ Some h → h.blocks ≡ size → is_rebuilding h.state ≡ false → head_choice size a b ≡ Ok h
choice-some size a b h large counts fits made =
    cond-false (ltb size 38) (Err (NotAStore 0)) (head_among size a b (greater (good_of a) (good_of b))) (le-ltb size 38 large)
    ∙ ap (head_among size a b) counts
    ∙ rw (eq-eqb h.blocks size fits, made) refl

-- where neither place is a head, none counts
choice-none : (size : ℕ) (a b : HeadRead) → 38 ≤ size → good_of a ≡ None → good_of b ≡ None → head_choice size a b ≡ Err (headless a b)
choice-none size a b large first second =
    cond-false (ltb size 38) (Err (NotAStore 0)) (head_among size a b (greater (good_of a) (good_of b))) (le-ltb size 38 large)
    ∙ ap (λ (o : Option Head). head_among size a b (greater o (good_of b))) first
    ∙ ap (λ (o : Option Head). head_among size a b (greater None o)) second

recovery-refused : (size : ℕ) (reads : ℕ → List ℕ) (e : RecoverError) → choice_of size reads ≡ Err e → recovery_of size reads ≡ Err e
unfolding recovery_of
recovery-refused size reads e is = ap (recovered_by reads) is

recovery-journal : (size : ℕ) (reads : ℕ → List ℕ) (h : Head) (refusal : Option RecoverError) → choice_of size reads ≡ Ok h → journal_refusal reads h ≡ refusal → recovery_of size reads ≡ recovered_from reads h refusal
unfolding recovery_of
recovery-journal size reads h refusal is journal = ap (recovered_by reads) is ∙ ap (recovered_from reads h) journal

-- ---- neither copy is a head

-- the refusal of two places that aren't sealed
refused_headless : (d : DiskState) (a b : HeadRead) (e : RecoverError) → 38 ≤ d.size → head_read (read_at d 0) ≡ a → head_read (read_at d 1) ≡ b → IsNoHead a → IsNoHead b → headless a b ≡ e → recovery_on d ≡ Err e
refused_headless d a b e large first second no_first no_second is =
    let refuse : RecoverError → Result Head RecoverError = λ r. Err r in
    recovery-refused d.size (λ place. read_at d place) e
    (ap (λ (r : HeadRead). head_choice d.size r (head_read (read_at d 1))) first ∙ ap (head_choice d.size a) second ∙ choice-none d.size a b large (none_good a no_first) (none_good b no_second) ∙ ap refuse is)

refused_by_kinds : (nodes count : ℕ) (old new : DiskState) → 38 ≤ new.size → AreGone old new → IsNoHead (head_read (read_at new 0)) → IsNoHead (head_read (read_at new 1)) → IsRefused nodes count old new
refused_by_kinds nodes count old new large gone (inl x) (inl y) = inr (record {
  is = refused_headless new Blank Blank (NotAStore 0) large x y (inl refl) (inl refl) refl;
  first = (gone.first.hurt.bytes, gone.first.hurt.hurt);
  second = (gone.second.hurt.bytes, gone.second.hurt.hurt);
  was_hurt = record { place = gone.place; kind = inl gone.low; hurt = gone.was_hurt };
})
refused_by_kinds nodes count old new large gone (inl x) (inr y) = inl (record {
  place = 1;
  kept = y.0;
  found = y.1.0;
  is = refused_headless new Blank (Unsealed y.0 y.1.0) (Damaged 1 y.0 y.1.0) large x y.1.1 (inl refl) (inr (y.0, (y.1.0, refl))) refl;
  hurt = (gone.second.hurt.bytes, gone.second.hurt.hurt);
  was_hurt = record { place = gone.place; kind = inl gone.low; hurt = gone.was_hurt };
})
refused_by_kinds nodes count old new large gone (inr x) (inl y) = inl (record {
  place = 0;
  kept = x.0;
  found = x.1.0;
  is = refused_headless new (Unsealed x.0 x.1.0) Blank (Damaged 0 x.0 x.1.0) large x.1.1 y (inr (x.0, (x.1.0, refl))) (inl refl) refl;
  hurt = (gone.first.hurt.bytes, gone.first.hurt.hurt);
  was_hurt = record { place = gone.place; kind = inl gone.low; hurt = gone.was_hurt };
})
refused_by_kinds nodes count old new large gone (inr x) (inr y) = inl (record {
  place = 0;
  kept = x.0;
  found = x.1.0;
  is = refused_headless new (Unsealed x.0 x.1.0) (Unsealed y.0 y.1.0) (Damaged 0 x.0 x.1.0) large x.1.1 y.1.1 (inr (x.0, (x.1.0, refl))) (inr (y.0, (y.1.0, refl))) refl;
  hurt = (gone.first.hurt.bytes, gone.first.hurt.hurt);
  was_hurt = record { place = gone.place; kind = inl gone.low; hurt = gone.was_hurt };
})

pub IsRefused-gone : (nodes count : ℕ) (old new : DiskState) → 38 ≤ new.size → AreGone old new → IsRefused nodes count old new
IsRefused-gone nodes count old new large gone = refused_by_kinds nodes count old new large gone gone.first.no_head gone.second.no_head

-- ---- a head counts, and its journal was read

-- a place reads as this page, or it was hurt
abbrev pub ReadsOrHurt : DiskState → DiskState → List ℕ → ℕ → Type 0
ReadsOrHurt old new page place = (read_at new place ≡ page) ⊎ StaysHurt (old.cells place) (new.cells place)

-- these images may stand in the journal after those
record MayFollow (nodes : ℕ) (before rest : List (List ℕ)) : Type 0 where
  sealed : (i : ℕ) → i < length rest → IsSealed (image_at rest i)
  slots : (i : ℕ) → i < length rest → slot_of (image_at rest i) < nodes
  distinct : (i j : ℕ) → i < j → j < length rest → slot_of (image_at rest i) ≢ slot_of (image_at rest j)
  fresh : (i : ℕ) → i < length rest → is_named before (slot_of (image_at rest i)) ≡ false

sealed_test : (page : List ℕ) → IsSealed page → is_sealed page ≡ true
sealed_test page is = (bytes_eq-Decides (seal_of page) (sha256 (sealed_part page))).1 is

pub unsealed_test : (page : List ℕ) → ¬ IsSealed page → is_sealed page ≡ false
unsealed_test page unsealed = false_from_ne_true (is_sealed page) (λ is. unsealed ((bytes_eq-Decides (seal_of page) (sha256 (sealed_part page))).0 is))

accepted : (nodes place : ℕ) (before rest : List (List ℕ)) (image : List ℕ) → MayFollow nodes before (image ∷ rest) → image_refusal nodes place before image ≡ None
accepted nodes place before rest image may =
    let sealed : is_sealed image ≡ true = sealed_test image (may.sealed 0 (omega arith)) in
    let low : ltb (slot_of image) nodes ≡ true = lt-ltb (slot_of image) nodes (may.slots 0 (omega arith)) in
    let fresh : is_named before (slot_of image) ≡ false = may.fresh 0 (omega arith) in
    rw (sealed, low, fresh) refl

pub refused_image : (nodes place : ℕ) (before : List (List ℕ)) (page : List ℕ) → ¬ IsSealed page → image_refusal nodes place before page ≡ Some (Damaged place (seal_of page) (sha256 (sealed_part page)))
refused_image nodes place before page unsealed = let test : is_sealed page ≡ false = unsealed_test page unsealed in rw test refl

others_follow : (nodes : ℕ) (before rest : List (List ℕ)) (image : List ℕ) → MayFollow nodes before (image ∷ rest) → MayFollow nodes (before ++ image ∷ []) rest
others_follow nodes before rest image may = record {
  sealed = λ i within. may.sealed (suc i) (omega arith);
  slots = λ i within. may.slots (suc i) (omega arith);
  distinct = λ i j less within. may.distinct (suc i) (suc j) (omega arith) (omega arith);
  fresh = λ i within.
      let slot = slot_of (image_at rest i) in
      let old : is_named before slot ≡ false = may.fresh (suc i) (omega arith) in
      let other : eqb (slot_of image) slot ≡ false = ne_eqb (slot_of image) slot (may.distinct 0 (suc i) (omega arith) (omega arith)) in
      list_any-append (λ (p : List ℕ). eqb (slot_of p) slot) before (image ∷ []) ∙ ap (λ (b : Bool). b || list_any (λ (p : List ℕ). eqb (slot_of p) slot) (image ∷ [])) old ∙ ap (λ (b : Bool). false || (b || false)) other;
}

-- the first image that was hurt is refused
pub record HasHurtImage (nodes place : ℕ) (old new : DiskState) (before : List (List ℕ)) (n : ℕ) : Type 0 where
  pub at : ℕ
  pub within : at < n
  pub kept : List ℕ
  pub found : List ℕ
  pub hurt : StaysHurt (old.cells (place + at)) (new.cells (place + at))
  pub is : images_refusal nodes place before (pages_from (λ q. read_at new q) place n) ≡ Some (Damaged (place + at) kept found)

-- the images were read as they are and none is refused, or one was hurt
abbrev pub AreRead : ℕ → ℕ → DiskState → DiskState → List (List ℕ) → List (List ℕ) → Type 0
AreRead nodes place old new before rest =
    ((pages_from (λ q. read_at new q) place (length rest) ≡ rest) × (images_refusal nodes place before (pages_from (λ q. read_at new q) place (length rest)) ≡ None))
    ⊎ HasHurtImage nodes place old new before (length rest)

-- the first page was hurt
hurt_here : (nodes place : ℕ) (old new : DiskState) (before : List (List ℕ)) (n : ℕ) → StaysHurt (old.cells place) (new.cells place) → HasHurtImage nodes place old new before (suc n)
hurt_here nodes place old new before n hurt =
    let page = read_at new place in
    let reads : ℕ → List ℕ = λ q. read_at new q in
    let same : place ≡ place + 0 = omega arith in
    let unsealed : ¬ IsSealed page = λ sealed. hurt.ends.unsealed (subst IsSealed hurt.ends.reads sealed) in
    let refused = refused_image nodes place before page unsealed in
    record {
      at = 0;
      within = omega arith;
      kept = seal_of page;
      found = sha256 (sealed_part page);
      hurt = subst (λ (q : ℕ). StaysHurt (old.cells q) (new.cells q)) same hurt;
      is = ap (λ (o : Option RecoverError). or_refusal o (images_refusal nodes (place + 1) (before ++ page ∷ []) (pages_from reads (place + 1) n))) refused
          ∙ ap (λ (q : ℕ). let o : Option RecoverError = Some (Damaged q (seal_of page) (sha256 (sealed_part page))) in o) same;
    }

-- the first page was read as its image, and then the others
read_here : (nodes place : ℕ) (old new : DiskState) (before rest : List (List ℕ)) (image : List ℕ) → MayFollow nodes before (image ∷ rest) → read_at new place ≡ image → AreRead nodes (place + 1) old new (before ++ image ∷ []) rest → AreRead nodes place old new before (image ∷ rest)
read_here nodes place old new before rest image may is others =
    let reads : ℕ → List ℕ = λ q. read_at new q in
    let pages = pages_from reads (place + 1) (length rest) in
    let accept = accepted nodes place before rest image may in
    let goes : images_refusal nodes place before (reads place ∷ pages) ≡ images_refusal nodes (place + 1) (before ++ image ∷ []) pages =
    ap (λ (p : List ℕ). images_refusal nodes place before (p ∷ pages)) is
    ∙ ap (λ (o : Option RecoverError). or_refusal o (images_refusal nodes (place + 1) (before ++ image ∷ []) pages)) accept in
    elim others [
      | inl read ↦ inl (ap (λ (p : List ℕ). p ∷ pages) is ∙ ap (λ (l : List (List ℕ)). image ∷ l) read.0, goes ∙ read.1)
      | inr hurt ↦
          let same : place + 1 + hurt.at ≡ place + suc hurt.at = omega arith in
          inr (record {
            at = suc hurt.at;
            within = omega (arith, hurt.within);
            kept = hurt.kept;
            found = hurt.found;
            hurt = subst (λ (q : ℕ). StaysHurt (old.cells q) (new.cells q)) same hurt.hurt;
            is = goes ∙ hurt.is ∙ ap (λ (q : ℕ). let o : Option RecoverError = Some (Damaged q hurt.kept hurt.found) in o) same;
          })
    ]

read_in_turn : (nodes place : ℕ) (old new : DiskState) (before rest : List (List ℕ)) → MayFollow nodes before rest → ((i : ℕ) → i < length rest → ReadsOrHurt old new (image_at rest i) (place + i)) → AreRead nodes place old new before rest
read_in_turn nodes place old new before [] may reads = inl (refl, refl)
read_in_turn nodes place old new before (image ∷ rest) may reads =
    let same : place + 0 ≡ place = omega arith in
    let here : ReadsOrHurt old new image place = subst (ReadsOrHurt old new image) same (reads 0 (omega arith)) in
    elim here [
      | inl is ↦ read_here nodes place old new before rest image may is
          (read_in_turn nodes (place + 1) old new (before ++ image ∷ []) rest (others_follow nodes before rest image may)
          (λ i within. let next : place + suc i ≡ place + 1 + i = omega arith in subst (ReadsOrHurt old new (image_at rest i)) next (reads (suc i) (omega arith))))
      | inr hurt ↦ inr (hurt_here nodes place old new before (length rest) hurt)
    ]

-- the whole journal of some images
pub journal_read : (nodes place : ℕ) (old new : DiskState) (images : List (List ℕ)) → AreImages nodes images → ((i : ℕ) → i < length images → ReadsOrHurt old new (image_at images i) (place + i)) → AreRead nodes place old new [] images
journal_read nodes place old new images are reads =
    read_in_turn nodes place old new [] images
    (record { sealed = are.sealed; slots = are.slots; distinct = are.distinct; fresh = λ i within. refl })
    reads

-- ---- what is recovered

-- a head counts, and the disk has its size
pub record Counts (new : DiskState) (h : Head) : Type 0 where
  pub large : 38 ≤ new.size
  pub is : counting new ≡ Some h
  pub fits : h.blocks ≡ new.size
  pub made : is_rebuilding h.state ≡ false

counts_choice : (new : DiskState) (h : Head) → Counts new h → choice_of new.size (λ q. read_at new q) ≡ Ok h
counts_choice new h counts = choice-some new.size (head_read (read_at new 0)) (head_read (read_at new 1)) h counts.large counts.is counts.fits counts.made

-- its journal isn't refused, so that the images are put over the homes
pub Recovers-counting : (old new : DiskState) (h target : Head) (images : ℕ → List ℕ) → Counts new h → journal_refusal (λ q. read_at new q) h ≡ None → settled_head h ≡ target → h.nodes ≡ target.nodes → ((slot : ℕ) → slot < h.nodes → (node_image (λ q. read_at new q) h slot ≡ images slot) ⊎ ((old.cells (2 + slot)).hurt ≡ Some (node_image (λ q. read_at new q) h slot))) → Recovers old new target images
Recovers-counting old new h target images counts accepts settled nodes each =
    let reads : ℕ → List ℕ = λ q. read_at new q in
    let found = pages_from (node_image reads h) 0 h.nodes in
    let gives : Head → Result Recovered RecoverError = λ x. Ok (record { head = x; images = found }) in
    record {
      found = found;
      is = recovery-journal new.size reads h None (counts_choice new h counts) accepts ∙ ap gives settled;
      count = length-pages_from (node_image reads h) 0 h.nodes ∙ nodes;
      each = λ slot within.
          let low : slot < h.nodes = omega (arith, nodes) in
          let same : 0 + slot ≡ slot = omega arith in
          let at : image_at found slot ≡ node_image reads h slot = pages_from-at (node_image reads h) 0 h.nodes slot low ∙ ap (node_image reads h) same in
          elim (each slot low) [
            | inl due ↦ inl (at ∙ due)
            | inr hurt ↦ inr (hurt ∙ ap (λ (p : List ℕ). let o : Option (List ℕ) = Some p in o) (sym at))
          ];
    }

-- an image of the journal was hurt, and is refused
pub IsRefused-journal : (nodes : ℕ) (old new : DiskState) (h : Head) → Counts new h → h.nodes ≡ nodes → (n : ℕ) → journal_of (λ q. read_at new q) h ≡ pages_from (λ q. read_at new q) (2 + nodes) n → HasHurtImage nodes (2 + nodes) old new [] n → IsRefused nodes n old new
IsRefused-journal nodes old new h counts same n pages hurt =
    let reads : ℕ → List ℕ = λ q. read_at new q in
    let refusal : journal_refusal reads h ≡ Some (Damaged (2 + nodes + hurt.at) hurt.kept hurt.found) =
    ap (λ (m : ℕ). images_refusal m (2 + m) [] (journal_of reads h)) same ∙ ap (images_refusal nodes (2 + nodes) []) pages ∙ hurt.is in
    inl (record {
      place = 2 + nodes + hurt.at;
      kept = hurt.kept;
      found = hurt.found;
      is = recovery-journal new.size reads h (Some (Damaged (2 + nodes + hurt.at) hurt.kept hurt.found)) (counts_choice new h counts) refusal;
      hurt = (hurt.hurt.ends.bytes, hurt.hurt.ends.hurt);
      was_hurt = record { place = 2 + nodes + hurt.at; kind = inr (omega arith, omega (arith, hurt.within)); hurt = (hurt.hurt.ends.bytes, hurt.hurt.was) };
    })
