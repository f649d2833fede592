-- Journals that are not refused: each image is what stands for its slot, and so it is a node where that is one.
use Rattle.std.proofs.Common.{◌≡◌, ◌≢◌, ℕ, zero, suc, ◌+◌, ◌<◌, Bool, true, false, not, ◌||◌, ◌==◌, nat_lt, cond, eqb, List, [], ◌∷◌, ◌++◌, Option, Some, None, Ok, refl, sym, ap, subst, ◌∙◌, arith}
use Rattle.std.proofs.lemmas.Bool.{cond-true, cond-false, eq-eqb, ne_eqb, ltb-true}
use Rattle.std.proofs.lemmas.List.Elements.{All-cons, All-nil, All-head, All-tail, All-weaker}
use Rattle.std.proofs.lemmas.List.Folds.{list_any-append}
use Rattle.std.specs.List.{All}
use Rattle.std.specs.Result.{result_err}
use Rattle.sha2.specs.Sha256.{sha256}
use Rattle.vb_block.specs.Pages.{seal_of, sealed_part}
use Rattle.vb_block.specs.declared.why.Why.TheVariants.{Slot}
use Rattle.vb_disk.specs.Misses.{is_sealed}
use Rattle.vb_inode.specs.declared.node.Node.{Node}
use Rattle.vb_inode.specs.Reading.{node_read}
use Rattle.vb_journal.specs.declared.recover_error.RecoverError.{RecoverError}
use Rattle.vb_journal.specs.declared.recover_error.RecoverError.TheVariants.{Damaged, Unfit}
use Rattle.vb_journal.specs.Images.{slot_of}
use Rattle.vb_journal.specs.Recoveries.{image_refusal, images_refusal, is_named, or_refusal}
use Rattle.vb_journal.specs.Shown.{image_over, pages_from}
use Rattle.vb_store.specs.Metadata.{images_fault, node_or_refusal}

pub or_refusal-none : (a b : Option RecoverError) → or_refusal a b ≡ None → (a ≡ None) × (b ≡ None)
or_refusal-none None b is = (refl, is)
or_refusal-none (Some e) b is = absurd (cc is)

-- the same pages are the same at each place
pub pages_from-each : (f g : ℕ → List ℕ) (place n : ℕ) → pages_from f place n ≡ pages_from g place n → (k : ℕ) → k < n → f (place + k) ≡ g (place + k)
pages_from-each f g place zero same k within = absurd (omega arith)
pages_from-each f g place (suc n) same zero within =
    let here : place + 0 ≡ place = omega arith in
    let first : f place ≡ g place = cc same in
    ap f here ∙ first ∙ ap g (sym here)
pages_from-each f g place (suc n) same (suc k) within =
    let there : place + suc k ≡ place + 1 + k = omega arith in
    let rest : pages_from f (place + 1) n ≡ pages_from g (place + 1) n = cc same in
    ap f there ∙ pages_from-each f g (place + 1) n rest k (omega arith) ∙ ap g (sym there)

-- the same pages from place 0 on
pub pages_same : (f g : ℕ → List ℕ) (n : ℕ) → pages_from f 0 n ≡ pages_from g 0 n → (k : ℕ) → k < n → f k ≡ g k
pages_same f g n same k within =
    let from : 0 + k ≡ k = omega arith in
    ap f (sym from) ∙ pages_from-each f g 0 n same k within ∙ ap g from

-- what a test and another that both failed say
both_false : (a b : Bool) → (a || b) ≡ false → (a ≡ false) × (b ≡ false)
both_false true b is = absurd (cc is)
both_false false b is = (refl, is)

-- an image that isn't refused names a slot that there is, and that was not named before
pub record IsNew (nodes : ℕ) (before : List (List ℕ)) (image : List ℕ) : Type 0 where
  pub within : slot_of image < nodes
  pub unnamed : is_named before (slot_of image) ≡ false

new_from : (sealed off : Bool) (a b : RecoverError) → cond (not sealed) (Some a) (cond off (Some b) None) ≡ None → off ≡ false
new_from true true a b is = absurd (cc is)
new_from true false a b is = refl
new_from false off a b is = absurd (cc is)

pub not_false : (b : Bool) → not b ≡ false → b ≡ true
not_false true is = refl
not_false false is = absurd (cc is)

is_new : (nodes place : ℕ) (before : List (List ℕ)) (image : List ℕ) → image_refusal nodes place before image ≡ None → IsNew nodes before image
is_new nodes place before image none =
    let off = new_from (is_sealed image) (not (nat_lt (slot_of image) nodes) || is_named before (slot_of image)) (Damaged place (seal_of image) (sha256 (sealed_part image))) (Unfit place Slot) none in
    let both = both_false (not (nat_lt (slot_of image) nodes)) (is_named before (slot_of image)) off in
    record { within = ltb-true (slot_of image) nodes (not_false (nat_lt (slot_of image) nodes) both.0); unnamed = both.1 }

-- a slot that was named before is named by no image after it
unnamed_later : (nodes place : ℕ) (before images : List (List ℕ)) (slot : ℕ) (home : List ℕ) → images_refusal nodes place before images ≡ None → is_named before slot ≡ true → image_over images slot home ≡ home
unnamed_later nodes place before [] slot home none named = refl
unnamed_later nodes place before (image ∷ images) slot home none named =
    let both = or_refusal-none (image_refusal nodes place before image) (images_refusal nodes (place + 1) (before ++ image ∷ []) images) none in
    let new = is_new nodes place before image both.0 in
    let apart : slot_of image ≢ slot = λ same. absurd (cc (sym new.unnamed ∙ ap (is_named before) same ∙ named)) in
    let still : is_named (before ++ image ∷ []) slot ≡ true = list_any-append (λ i. slot_of i == slot) before (image ∷ []) ∙ ap (λ (b : Bool). b || is_named (image ∷ []) slot) named in
    ap (image_over images slot) (cond-false (eqb (slot_of image) slot) image home (ne_eqb (slot_of image) slot apart))
    ∙ unnamed_later nodes (place + 1) (before ++ image ∷ []) images slot home both.1 still

-- an image that stands for its slot, whatever stands at home
pub record Stands (nodes : ℕ) (images : List (List ℕ)) (image : List ℕ) : Type 0 where
  pub within : slot_of image < nodes
  pub stands : (home : List ℕ) → image_over images (slot_of image) home ≡ image

or_true : (b : Bool) → (b || true) ≡ true
or_true true = refl
or_true false = refl

pub each_stands : (nodes place : ℕ) (before images : List (List ℕ)) → images_refusal nodes place before images ≡ None → All (Stands nodes images) images
each_stands nodes place before [] none = All-nil (Stands nodes [])
each_stands nodes place before (image ∷ images) none =
    let both = or_refusal-none (image_refusal nodes place before image) (images_refusal nodes (place + 1) (before ++ image ∷ []) images) none in
    let new = is_new nodes place before image both.0 in
    let self : eqb (slot_of image) (slot_of image) ≡ true = eq-eqb (slot_of image) (slot_of image) refl in
    let named : is_named (before ++ image ∷ []) (slot_of image) ≡ true =
    list_any-append (λ i. slot_of i == slot_of image) before (image ∷ []) ∙ ap (λ (b : Bool). is_named before (slot_of image) || (b || false)) self ∙ or_true (is_named before (slot_of image)) in
    All-cons (Stands nodes (image ∷ images)) image images
    (record {
      within = new.within;
      stands = λ home. ap (image_over images (slot_of image)) (cond-true (eqb (slot_of image) (slot_of image)) image home self)
          ∙ unnamed_later nodes (place + 1) (before ++ image ∷ []) images (slot_of image) image both.1 named;
    })
    (All-weaker (Stands nodes images) (Stands nodes (image ∷ images))
    (λ other stands. record { within = stands.within; stands = λ home. stands.stands (cond (eqb (slot_of image) (slot_of other)) image home) })
    images (each_stands nodes (place + 1) (before ++ image ∷ []) images both.1))

-- a page that reads as a node
pub record IsNode (nodes : ℕ) (page : List ℕ) : Type 0 where
  pub node : Node
  pub is : node_read nodes page ≡ Ok node

-- each image is a node where each slot's block is one
pub nodes_of_images : (nodes place : ℕ) (before images : List (List ℕ)) → images_refusal nodes place before images ≡ None → (homes : ℕ → List ℕ) → ((slot : ℕ) → slot < nodes → IsNode nodes (image_over images slot (homes slot))) → All (IsNode nodes) images
nodes_of_images nodes place before images none homes each =
    All-weaker (Stands nodes images) (IsNode nodes) (λ image stands. subst (IsNode nodes) (stands.stands (homes (slot_of image))) (each (slot_of image) stands.within)) images
    (each_stands nodes place before images none)

-- a journal of nodes that isn't refused has no fault
pub images_fault-none : (nodes place : ℕ) (before images : List (List ℕ)) → images_refusal nodes place before images ≡ None → All (IsNode nodes) images → images_fault nodes place before images ≡ None
images_fault-none nodes place before [] none are = refl
images_fault-none nodes place before (image ∷ images) none are =
    let both = or_refusal-none (image_refusal nodes place before image) (images_refusal nodes (place + 1) (before ++ image ∷ []) images) none in
    let node = All-head (IsNode nodes) image images are in
    ap (λ (o : Option RecoverError). or_refusal (or_refusal o (result_err (node_or_refusal place (node_read nodes image)))) (images_fault nodes (place + 1) (before ++ image ∷ []) images)) both.0
    ∙ ap (λ r. or_refusal (result_err (node_or_refusal place r)) (images_fault nodes (place + 1) (before ++ image ∷ []) images)) node.is
    ∙ images_fault-none nodes (place + 1) (before ++ image ∷ []) images both.1 (All-tail (IsNode nodes) image images are)
