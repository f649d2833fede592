-- The images of a journal, as they are read one after the other.
use Rattle.std.proofs.Common.{◌≡◌, ℕ, zero, suc, ◌+◌, ◌-◌, ◌<◌, List, [], ◌∷◌, ◌++◌, length, Option, Some, None, Ok, refl, sym, ap, subst, ◌∙◌, arith}
use Rattle.std.proofs.lemmas.List.{append_assoc, append-nil, length-append}
use Rattle.vb_disk.specs.States.{DiskState, read_at}
use Rattle.vb_head.specs.declared.head.Head.{Head}
use Rattle.vb_head.specs.declared.head.State.{State}
use Rattle.vb_head.specs.declared.head.State.TheVariants.{Opened}
use Rattle.vb_head.specs.Heads.{count_of}
use Rattle.vb_journal.specs.declared.journal.Journal.{Journal}
use Rattle.vb_journal.specs.declared.recover_error.RecoverError.{RecoverError}
use Rattle.vb_journal.specs.Images.{image_at}
use Rattle.vb_journal.specs.Recoveries.{image_refusal, images_refusal, journal_of, journal_place, journal_refusal, or_refusal, recovered_from}
use Rattle.vb_journal.specs.Outcomes.{reads_of}
use Rattle.vb_journal.specs.Recovering.{HasBothHeads, HasRead, IsHopeless}
use Rattle.vb_journal.specs.Shown.{pages_from}
use Rattle.vb_journal.proofs.Mended.{crashed-both}
use Rattle.vb_journal.proofs.SameRecoveries.{recovery_of-chosen}

-- ---- pages

pub length-pages_from : (reads : ℕ → List ℕ) (place n : ℕ) → length (pages_from reads place n) ≡ n
length-pages_from reads place zero = refl
length-pages_from reads place (suc n) = ap suc (length-pages_from reads (place + 1) n)

pub image_at-pages_from : (reads : ℕ → List ℕ) (place n i : ℕ) → i < n → image_at (pages_from reads place n) i ≡ reads (place + i)
image_at-pages_from reads place zero i within = absurd (omega arith)
image_at-pages_from reads place (suc n) zero within = let same : place ≡ place + 0 = omega arith in ap reads same
image_at-pages_from reads place (suc n) (suc i) within =
    image_at-pages_from reads (place + 1) n i (omega arith) ∙ (let same : place + 1 + i ≡ place + suc i = omega arith in ap reads same)

pub pages_from-append : (reads : ℕ → List ℕ) (place m n all : ℕ) → all ≡ m + n → pages_from reads place all ≡ pages_from reads place m ++ pages_from reads (place + m) n
pages_from-append reads place zero n all is =
    let same : all ≡ n = omega arith in
    let here : place ≡ place + 0 = omega arith in
    ap (pages_from reads place) same ∙ ap (λ (p : ℕ). pages_from reads p n) here
pages_from-append reads place (suc m) n zero is = absurd (omega arith)
pages_from-append reads place (suc m) n (suc all) is =
    let past : place + 1 + m ≡ place + suc m = omega arith in
    ap (λ (l : List (List ℕ)). reads place ∷ l) (pages_from-append reads (place + 1) m n all (omega arith) ∙ ap (λ (p : ℕ). pages_from reads (place + 1) m ++ pages_from reads p n) past)

-- ---- refusals

or_refusal-assoc : (a b c : Option RecoverError) → or_refusal (or_refusal a b) c ≡ or_refusal a (or_refusal b c)
or_refusal-assoc None b c = refl
or_refusal-assoc (Some e) b c = refl

pub images_refusal-append : (nodes place : ℕ) (before xs ys : List (List ℕ)) → images_refusal nodes place before (xs ++ ys) ≡ or_refusal (images_refusal nodes place before xs) (images_refusal nodes (place + length xs) (before ++ xs) ys)
images_refusal-append nodes place before [] ys =
    let here : place ≡ place + 0 = omega arith in
    ap (λ (p : ℕ). images_refusal nodes p before ys) here ∙ ap (λ (l : List (List ℕ)). images_refusal nodes (place + 0) l ys) (sym (append-nil before))
images_refusal-append nodes place before (x ∷ xs) ys =
    let past : place + 1 + length xs ≡ place + suc (length xs) = omega arith in
    ap (or_refusal (image_refusal nodes place before x)) (
    images_refusal-append nodes (place + 1) (before ++ x ∷ []) xs ys
    ∙ ap (λ (p : ℕ). or_refusal (images_refusal nodes (place + 1) (before ++ x ∷ []) xs) (images_refusal nodes p ((before ++ x ∷ []) ++ xs) ys)) past
    ∙ ap (λ (l : List (List ℕ)). or_refusal (images_refusal nodes (place + 1) (before ++ x ∷ []) xs) (images_refusal nodes (place + suc (length xs)) l ys)) (append_assoc before (x ∷ []) xs))
    ∙ sym (or_refusal-assoc (image_refusal nodes place before x) (images_refusal nodes (place + 1) (before ++ x ∷ []) xs) (images_refusal nodes (place + suc (length xs)) (before ++ (x ∷ xs)) ys))

-- behind images that aren't refused the next one decides
pub next-decides : (nodes place : ℕ) (images rest : List (List ℕ)) (image : List ℕ) (refusal : Option RecoverError) → images_refusal nodes place [] images ≡ None → image_refusal nodes (place + length images) images image ≡ refusal → images_refusal nodes place [] (images ++ (image ∷ rest)) ≡ or_refusal refusal (images_refusal nodes (place + length images + 1) (images ++ image ∷ []) rest)
next-decides nodes place images rest image refusal accepted is =
    images_refusal-append nodes place [] images (image ∷ rest)
    ∙ ap (λ (o : Option RecoverError). or_refusal o (images_refusal nodes (place + length images) images (image ∷ rest))) accepted
    ∙ ap (λ (o : Option RecoverError). or_refusal o (images_refusal nodes (place + length images + 1) (images ++ image ∷ []) rest)) is

-- ---- the journal

-- the journal is what was read, the next image, and others
pub journal-split : (reads : ℕ → List ℕ) (head : Head) (count : ℕ) (images : List (List ℕ)) → head.state ≡ Opened count → length images < count → images ≡ pages_from reads (journal_place head) (length images) → journal_of reads head ≡ images ++ (reads (journal_place head + length images) ∷ pages_from reads (journal_place head + length images + 1) (count - length images - 1))
journal-split reads head count images opened left is =
    let parts : count ≡ length images + suc (count - length images - 1) = omega arith in
    ap (λ (s : State). pages_from reads (journal_place head) (count_of s)) opened
    ∙ pages_from-append reads (journal_place head) (length images) (suc (count - length images - 1)) count parts
    ∙ ap (λ (l : List (List ℕ)). l ++ (reads (journal_place head + length images) ∷ pages_from reads (journal_place head + length images + 1) (count - length images - 1))) (sym is)

-- one image more is what reads gave
pub pages-more : (reads : ℕ → List ℕ) (place : ℕ) (images : List (List ℕ)) (image : List ℕ) → images ≡ pages_from reads place (length images) → image ≡ reads (place + length images) → images ++ image ∷ [] ≡ pages_from reads place (length (images ++ image ∷ []))
pages-more reads place images image is read =
    let more : length (images ++ image ∷ []) ≡ length images + 1 = length-append images (image ∷ []) in
    ap (λ (p : List ℕ). images ++ p ∷ []) read
    ∙ ap (λ (l : List (List ℕ)). l ++ reads (place + length images) ∷ []) is
    ∙ sym (pages_from-append reads place (length images) 1 (length (images ++ image ∷ [])) more)

-- the next image is refused
pub hopeless-image : (begun : DiskState) (journal : Journal) (image : List ℕ) (e : RecoverError) (d : DiskState) → HasRead begun journal d → image ≡ read_at begun (journal_place journal.head + length journal.images) → image_refusal journal.head.nodes (journal_place journal.head + length journal.images) journal.images image ≡ Some e → IsHopeless begun e d
hopeless-image begun journal image e d has read refused =
    let head = journal.head in
    let here : image_refusal head.nodes (journal_place head + length journal.images) journal.images (read_at begun (journal_place head + length journal.images)) ≡ Some e = ap (image_refusal head.nodes (journal_place head + length journal.images) journal.images) (sym read) ∙ refused in
    let split = journal-split (reads_of begun) head journal.count journal.images journal.opened journal.left has.images in
    let refusal : journal_refusal (reads_of begun) head ≡ Some e =
    ap (images_refusal head.nodes (journal_place head) []) split
    ∙ next-decides head.nodes (journal_place head) journal.images (pages_from (reads_of begun) (journal_place head + length journal.images + 1) (journal.count - length journal.images - 1)) (read_at begun (journal_place head + length journal.images)) (Some e) has.accepted here in
    record {
      recovery = recovery_of-chosen begun.size (reads_of begun) (Ok head) has.heads.counts ∙ ap (recovered_from (reads_of begun) head) refusal;
      crashes = λ new crash. crashed-both begun head d new has.heads crash;
    }

-- the next image isn't
pub accepted-more : (begun : DiskState) (journal : Journal) (image : List ℕ) (d : DiskState) → HasRead begun journal d → image_refusal journal.head.nodes (journal_place journal.head + length journal.images) journal.images image ≡ None → images_refusal journal.head.nodes (journal_place journal.head) [] (journal.images ++ image ∷ []) ≡ None
accepted-more begun journal image d has accepted =
    next-decides journal.head.nodes (journal_place journal.head) journal.images [] image None has.accepted accepted

-- a journal with this head and these images
pub HasRead-like : (begun : DiskState) (journal : Journal) (head : Head) (images : List (List ℕ)) (d : DiskState) → journal.head ≡ head → journal.images ≡ images → HasBothHeads begun head d → images ≡ pages_from (reads_of begun) (journal_place head) (length images) → images_refusal head.nodes (journal_place head) [] images ≡ None → HasRead begun journal d
HasRead-like begun journal head images d head_is images_are heads read accepted = record {
  heads = subst (λ (h : Head). HasBothHeads begun h d) (sym head_is) heads;
  images = images_are ∙ read ∙ ap (pages_from (reads_of begun) (journal_place head)) (ap length (sym images_are)) ∙ ap (λ (h : Head). pages_from (reads_of begun) (journal_place h) (length journal.images)) (sym head_is);
  accepted = ap (images_refusal journal.head.nodes (journal_place journal.head) []) images_are ∙ ap (λ (h : Head). images_refusal h.nodes (journal_place h) [] images) head_is ∙ accepted;
}

pub HasRead-more : (begun : DiskState) (journal after : Journal) (image : List ℕ) (d : DiskState) → HasRead begun journal d → image ≡ read_at begun (journal_place journal.head + length journal.images) → image_refusal journal.head.nodes (journal_place journal.head + length journal.images) journal.images image ≡ None → after.head ≡ journal.head → after.images ≡ journal.images ++ image ∷ [] → HasRead begun after d
HasRead-more begun journal after image d has read accepted head_is images_are =
    HasRead-like begun after journal.head (journal.images ++ image ∷ []) d head_is images_are has.heads
    (pages-more (reads_of begun) (journal_place journal.head) journal.images image has.images read) (accepted-more begun journal image d has accepted)

-- the journal was read to its end
pub record IsWhole (begun : DiskState) (head : Head) (images : List (List ℕ)) (d : DiskState) : Type 0 where
  pub heads : HasBothHeads begun head d
  pub all : images ≡ journal_of (reads_of begun) head
  pub accepted : journal_refusal (reads_of begun) head ≡ None

pub IsWhole-more : (begun : DiskState) (journal : Journal) (head : Head) (images : List (List ℕ)) (image : List ℕ) (d : DiskState) → HasRead begun journal d → image ≡ read_at begun (journal_place journal.head + length journal.images) → image_refusal journal.head.nodes (journal_place journal.head + length journal.images) journal.images image ≡ None → head ≡ journal.head → images ≡ journal.images ++ image ∷ [] → head.state ≡ Opened (length images) → IsWhole begun head images d
IsWhole-more begun journal head images image d has read accepted head_is images_are counted =
    let all_read : images ≡ pages_from (reads_of begun) (journal_place journal.head) (length images) =
    images_are ∙ pages-more (reads_of begun) (journal_place journal.head) journal.images image has.images read ∙ ap (λ (l : List (List ℕ)). pages_from (reads_of begun) (journal_place journal.head) (length l)) (sym images_are) in
    let all : images ≡ journal_of (reads_of begun) head =
    all_read ∙ ap (λ (h : Head). pages_from (reads_of begun) (journal_place h) (length images)) (sym head_is) ∙ sym (ap (λ (s : State). pages_from (reads_of begun) (journal_place head) (count_of s)) counted) in
    record {
      heads = subst (λ (h : Head). HasBothHeads begun h d) (sym head_is) has.heads;
      all = all;
      accepted = ap (images_refusal head.nodes (journal_place head) []) (sym all) ∙ ap (images_refusal head.nodes (journal_place head) []) images_are ∙ ap (λ (h : Head). images_refusal h.nodes (journal_place h) [] (journal.images ++ image ∷ [])) head_is ∙ accepted-more begun journal image d has accepted;
    }
