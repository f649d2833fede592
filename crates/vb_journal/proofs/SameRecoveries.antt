-- What is recovered depends on the head that counts and on what stands behind the heads.
use Rattle.std.proofs.Common.{◌≡◌, ℕ, zero, suc, ◌+◌, ◌<◌, ◌≤◌, List, [], ◌∷◌, Option, Some, None, Result, Ok, Err, refl, sym, ap, ◌∙◌, arith}
use Rattle.vb_disk.specs.States.{DiskState, read_at}
use Rattle.vb_head.specs.declared.head.Head.{Head}
use Rattle.vb_head.specs.Heads.{count_of, head_read}
use Rattle.vb_journal.specs.declared.recover_error.RecoverError.{RecoverError}
use Rattle.vb_journal.specs.Recoveries.{Recovered, choice_of, head_choice, images_refusal, journal_of, journal_place, journal_refusal, node_image, node_images, recovered_by, recovered_from, recovery_of, settled_head}
use Rattle.vb_journal.specs.Outcomes.{reads_of, recovery_on}
use Rattle.vb_journal.specs.Shown.{image_over, pages_from}

-- equal reads give equal pages
pub pages_from-same : (a b : ℕ → List ℕ) (place n : ℕ) → ((i : ℕ) → i < n → a (place + i) ≡ b (place + i)) → pages_from a place n ≡ pages_from b place n
pages_from-same a b place zero same = refl
pages_from-same a b place (suc n) same =
    let here : a place ≡ b place = (let at : place ≡ place + 0 = omega arith in ap a at ∙ same 0 (omega arith) ∙ ap b (sym at)) in
    let rest = pages_from-same a b (place + 1) n (λ i within. let at : place + 1 + i ≡ place + suc i = omega arith in ap a at ∙ same (suc i) (omega arith) ∙ ap b (sym at)) in
    ap (λ (p : List ℕ). p ∷ pages_from a (place + 1) n) here ∙ ap (λ (l : List (List ℕ)). b place ∷ l) rest

-- equal images of so many nodes
pub nodes_from-same : (a b : ℕ → List ℕ) (n : ℕ) → ((slot : ℕ) → slot < n → a slot ≡ b slot) → pages_from a 0 n ≡ pages_from b 0 n
nodes_from-same a b n same = pages_from-same a b 0 n (λ i within. let at : 0 + i ≡ i = omega arith in ap a at ∙ same i within ∙ ap b (sym at))

-- equal journals and nodes give equal recoveries
pub recovered_from-same : (a b : ℕ → List ℕ) (head : Head) → journal_of a head ≡ journal_of b head → ((slot : ℕ) → slot < head.nodes → node_image a head slot ≡ node_image b head slot) → recovered_from a head (journal_refusal a head) ≡ recovered_from b head (journal_refusal b head)
recovered_from-same a b head journal nodes =
    let images : node_images a head ≡ node_images b head = nodes_from-same (node_image a head) (node_image b head) head.nodes nodes in
    let refusal : journal_refusal a head ≡ journal_refusal b head = ap (images_refusal head.nodes (journal_place head) []) journal in
    ap (recovered_from a head) refusal ∙ by_refusal (journal_refusal b head) images
  where
    by_refusal : (refusal : Option RecoverError) → node_images a head ≡ node_images b head → recovered_from a head refusal ≡ recovered_from b head refusal
    by_refusal None same = ap (λ (l : List (List ℕ)). let r : Recovered = record { head = settled_head head; images = l } in let o : Result Recovered RecoverError = Ok r in o) same
    by_refusal (Some e) same = refl

by_choice : (a b : ℕ → List ℕ) (choice : Result Head RecoverError) → ((p : ℕ) → 2 ≤ p → a p ≡ b p) → recovered_by a choice ≡ recovered_by b choice
by_choice a b (Err e) same = refl
by_choice a b (Ok head) same =
    let journal : journal_of a head ≡ journal_of b head = pages_from-same a b (journal_place head) (count_of head.state) (λ i within. same (journal_place head + i) (omega arith)) in
    recovered_from-same a b head journal (λ slot within.
    ap (λ (l : List (List ℕ)). image_over l slot (a (2 + slot))) journal ∙ ap (image_over (journal_of b head) slot) (same (2 + slot) (omega arith)))

-- the same head counts, and behind the heads the same stands
pub recovery_of-same : (size : ℕ) (a b : ℕ → List ℕ) → choice_of size a ≡ choice_of size b → ((p : ℕ) → 2 ≤ p → a p ≡ b p) → recovery_of size a ≡ recovery_of size b
unfolding recovery_of
recovery_of-same size a b choice same = ap (recovered_by a) choice ∙ by_choice a b (choice_of size b) same

-- by the choice of the head
pub recovery_of-chosen : (size : ℕ) (reads : ℕ → List ℕ) (choice : Result Head RecoverError) → choice_of size reads ≡ choice → recovery_of size reads ≡ recovered_by reads choice
unfolding recovery_of
recovery_of-chosen size reads choice is = ap (recovered_by reads) is

pub choice_of-same : (size : ℕ) (a b : ℕ → List ℕ) → a 0 ≡ b 0 → a 1 ≡ b 1 → choice_of size a ≡ choice_of size b
choice_of-same size a b first second =
    ap (λ (p : List ℕ). head_choice size (head_read p) (head_read (a 1))) first ∙ ap (λ (p : List ℕ). head_choice size (head_read (b 0)) (head_read p)) second

-- two disks of one size
pub recovery_on-same : (begun new : DiskState) → new.size ≡ begun.size → choice_of begun.size (reads_of new) ≡ choice_of begun.size (reads_of begun) → ((p : ℕ) → 2 ≤ p → read_at new p ≡ read_at begun p) → recovery_on new ≡ recovery_on begun
recovery_on-same begun new size choice same =
    ap (λ (n : ℕ). recovery_of n (reads_of new)) size ∙ recovery_of-same begun.size (reads_of new) (reads_of begun) choice same
