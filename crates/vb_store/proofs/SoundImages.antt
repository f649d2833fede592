-- The images of a journal are nodes as far as they were read, or the next one is refused.
use Rattle.std.proofs.Common.{◌≡◌, ℕ, suc, ◌+◌, ◌-◌, ◌<◌, List, [], ◌∷◌, ◌++◌, length, Option, Some, None, Result, Ok, Err, refl, sym, ap, ◌∙◌, arith}
use Rattle.std.proofs.lemmas.List.{append_assoc, append-nil}
use Rattle.std.specs.Option.{option_map}
use Rattle.std.specs.Result.{result_err}
use Rattle.vb_block.specs.declared.why.Why.{Why}
use Rattle.vb_head.specs.declared.head.Head.{Head}
use Rattle.vb_inode.specs.declared.node.Node.{Node}
use Rattle.vb_inode.specs.declared.errors.NodeError.{NodeError}
use Rattle.vb_inode.specs.declared.errors.NodeError.TheVariants.{Unsealed, Wrong, Memory as NoMemoryForNode}
use Rattle.vb_inode.specs.Reading.{node_read}
use Rattle.vb_journal.specs.declared.recover_error.RecoverError.{RecoverError}
use Rattle.vb_journal.specs.declared.recover_error.RecoverError.TheVariants.{Unfit}
use Rattle.vb_journal.specs.Recoveries.{choice_of, image_refusal, or_refusal}
use Rattle.vb_journal.specs.Shown.{pages_from}
use Rattle.vb_journal.proofs.JournalReads.{length-pages_from, pages_from-append}
use Rattle.vb_journal.specs.Notes.{head_place}
use Rattle.vb_store.specs.Metadata.{and_then, block_of, image_fault, images_fault, journal_fault, known_below, metadata_from, metadata_of, node_or_refusal, unless}

or_refusal-assoc : (a b c : Option RecoverError) → or_refusal (or_refusal a b) c ≡ or_refusal a (or_refusal b c)
or_refusal-assoc None b c = refl
or_refusal-assoc (Some e) b c = refl

-- the faults of some images and then others
images_fault-append : (nodes place : ℕ) (before xs ys : List (List ℕ)) → images_fault nodes place before (xs ++ ys) ≡ or_refusal (images_fault nodes place before xs) (images_fault nodes (place + length xs) (before ++ xs) ys)
images_fault-append nodes place before [] ys =
    let here : place ≡ place + 0 = omega arith in
    ap (λ (p : ℕ). images_fault nodes p before ys) here ∙ ap (λ (l : List (List ℕ)). images_fault nodes (place + 0) l ys) (sym (append-nil before))
images_fault-append nodes place before (x ∷ xs) ys =
    let past : place + 1 + length xs ≡ place + suc (length xs) = omega arith in
    ap (or_refusal (image_fault nodes place before x)) (
    images_fault-append nodes (place + 1) (before ++ x ∷ []) xs ys
    ∙ ap (λ (p : ℕ). or_refusal (images_fault nodes (place + 1) (before ++ x ∷ []) xs) (images_fault nodes p ((before ++ x ∷ []) ++ xs) ys)) past
    ∙ ap (λ (l : List (List ℕ)). or_refusal (images_fault nodes (place + 1) (before ++ x ∷ []) xs) (images_fault nodes (place + suc (length xs)) l ys)) (append_assoc before (x ∷ []) xs))
    ∙ sym (or_refusal-assoc (image_fault nodes place before x) (images_fault nodes (place + 1) (before ++ x ∷ []) xs) (images_fault nodes (place + suc (length xs)) (before ++ (x ∷ xs)) ys))

-- behind so many sound pages the next one decides
pub fault-decides : (reads : ℕ → List ℕ) (nodes place n : ℕ) (rest : List (List ℕ)) (fault : Option RecoverError) → images_fault nodes place [] (pages_from reads place n) ≡ None → image_fault nodes (place + n) (pages_from reads place n) (reads (place + n)) ≡ fault
    → images_fault nodes place [] (pages_from reads place n ++ (reads (place + n) ∷ rest)) ≡ or_refusal fault (images_fault nodes (place + n + 1) (pages_from reads place n ++ reads (place + n) ∷ []) rest)
fault-decides reads nodes place n rest fault sound is =
    let pages : List (List ℕ) = pages_from reads place n in
    let more : List (List ℕ) = reads (place + n) ∷ rest in
    images_fault-append nodes place [] pages more
    ∙ ap (λ (o : Option RecoverError). or_refusal o (images_fault nodes (place + length pages) pages more)) sound
    ∙ ap (λ (k : ℕ). images_fault nodes (place + k) pages more) (length-pages_from reads place n)
    ∙ ap (λ (o : Option RecoverError). or_refusal o (images_fault nodes (place + n + 1) (pages ++ reads (place + n) ∷ []) rest)) is

-- one sound image more
pub sound-more : (reads : ℕ → List ℕ) (nodes place n : ℕ) → images_fault nodes place [] (pages_from reads place n) ≡ None → image_fault nodes (place + n) (pages_from reads place n) (reads (place + n)) ≡ None → images_fault nodes place [] (pages_from reads place (n + 1)) ≡ None
sound-more reads nodes place n sound none =
    ap (images_fault nodes place []) (pages_from-append reads place n 1 (n + 1) refl)
    ∙ fault-decides reads nodes place n [] None sound none

-- the first that isn't sound is the fault of the journal
pub faulty-next : (reads : ℕ → List ℕ) (nodes place n count : ℕ) (e : RecoverError) → n < count → images_fault nodes place [] (pages_from reads place n) ≡ None → image_fault nodes (place + n) (pages_from reads place n) (reads (place + n)) ≡ Some e → images_fault nodes place [] (pages_from reads place count) ≡ Some e
faulty-next reads nodes place n count e within sound is =
    let parts : count ≡ n + suc (count - n - 1) = omega (arith, within) in
    ap (images_fault nodes place []) (pages_from-append reads place n (suc (count - n - 1)) count parts)
    ∙ fault-decides reads nodes place n (pages_from reads (place + n + 1) (count - n - 1)) (Some e) sound is

-- metadata by the choice of the head
pub metadata-refused : (size : ℕ) (reads : ℕ → List ℕ) (e : RecoverError) → choice_of size reads ≡ Err e → metadata_of size reads ≡ Err e
unfolding metadata_of
metadata-refused size reads e is =
    ap (λ (c : Result Head RecoverError). and_then c (λ h. unless (journal_fault reads h) (and_then (known_below reads h (head_place reads) (block_of reads h)) (λ known. Ok (metadata_from h known))))) is

-- and by the first fault of its journal
pub metadata-faulty : (size : ℕ) (reads : ℕ → List ℕ) (head : Head) (e : RecoverError) → choice_of size reads ≡ Ok head → journal_fault reads head ≡ Some e → metadata_of size reads ≡ Err e
unfolding metadata_of
metadata-faulty size reads head e is fault =
    ap (λ (c : Result Head RecoverError). and_then c (λ h. unless (journal_fault reads h) (and_then (known_below reads h (head_place reads) (block_of reads h)) (λ known. Ok (metadata_from h known))))) is
    ∙ ap (λ (o : Option RecoverError). unless o (and_then (known_below reads head (head_place reads) (block_of reads head)) (λ known. Ok (metadata_from head known)))) fault

-- ---- the checks of a node

-- an image that the journal doesn't refuse is judged by its node
pub fault-by_node : (nodes place : ℕ) (before : List (List ℕ)) (image : List ℕ) → image_refusal nodes place before image ≡ None → image_fault nodes place before image ≡ result_err (node_or_refusal place (node_read nodes image))
fault-by_node nodes place before image none =
    ap (λ (o : Option RecoverError). or_refusal o (result_err (node_or_refusal place (node_read nodes image)))) none

no_fault : (place : ℕ) (r : Result Node NodeError) → result_err r ≡ None → result_err (node_or_refusal place r) ≡ None
no_fault place (Ok node) is = refl
no_fault place (Err e) is = absurd (cc is)

one_fault : (place : ℕ) (why : Why) (r : Result Node NodeError) → result_err r ≡ Some (Wrong why) → result_err (node_or_refusal place r) ≡ Some (Unfit place why)
one_fault place why (Ok node) is = absurd (cc is)
one_fault place why (Err (Unsealed kept found)) is = absurd (cc is)
one_fault place why (Err (Wrong w)) is = let same : w ≡ why = cc is in ap (λ (x : Why). Some (Unfit place x)) same
one_fault place why (Err NoMemoryForNode) is = absurd (cc is)

-- the fault of an image, by the check of its node
pub image-faults : (nodes place : ℕ) (before : List (List ℕ)) (image : List ℕ) (fault : Option Why) → image_refusal nodes place before image ≡ None → result_err (node_read nodes image) ≡ option_map Wrong fault → image_fault nodes place before image ≡ option_map (λ why. Unfit place why) fault
image-faults nodes place before image None none is = fault-by_node nodes place before image none ∙ no_fault place (node_read nodes image) is
image-faults nodes place before image (Some why) none is = fault-by_node nodes place before image none ∙ one_fault place why (node_read nodes image) is
