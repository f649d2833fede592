-- What is read from a page as a function: the fields that stand there, their node, and the references.
use Rattle.std.proofs.Common.{◌≡◌, ℕ, suc, ◌+◌, ◌-◌, ◌*◌, ◌<◌, ◌≤◌, ◌^◌, Bool, true, false, cond, List, [], ◌∷◌, ◌++◌, length, take, drop, replicate, Result, Ok, Err, refl, sym, ap, subst, ◌∙◌, append_assoc, arith}
use Rattle.std.specs.Str.{bytes_eq}
use Rattle.std.specs.List.{flat_map}
use Rattle.std.specs.Option.{option_map}
use Rattle.std.specs.Result.{result_err}
use Rattle.std.proofs.lemmas.List.{drop-drop, drop_at, length-append, take_at, take-append-drop}
use Rattle.std.proofs.lemmas.Slice.Eq.{bytes_eq-Decides}
use Rattle.byteorder.specs.Endian.{little_number}
use Rattle.byteorder.specs.Numbers.{little_number-reads_back}
use Rattle.sha2.specs.Sha256.{sha256}
use Rattle.vb_block.specs.Pages.{IsSealed, seal_of, sealed_part}
use Rattle.vb_block.specs.declared.digest.Ref.{Ref}
use Rattle.vb_block.specs.declared.why.Why.{Why}
use Rattle.vb_block.specs.declared.why.Why.TheVariants.{Rest}
use Rattle.vb_inode.specs.declared.node.Node.{Node}
use Rattle.vb_inode.specs.declared.node.NodeKind.{NodeKind}
use Rattle.vb_inode.specs.declared.errors.NodeError.{NodeError}
use Rattle.vb_inode.specs.declared.errors.NodeError.TheVariants.{Unsealed, Wrong}
use Rattle.vb_inode.specs.declared.errors.MapError.TheVariants.{Wrong as WrongMap}
use Rattle.vb_block.specs.Numbers.{four_bytes, eight_bytes}
use Rattle.vb_inode.specs.Layout.{fields_from, map_page, node_page, ref_bytes, ref_in, refs_in, fields_in, number4_at, number8_at, sealed_bytes, AreRefs, Fields, FitsBlock}
use Rattle.vb_inode.specs.Checks.{are_zeros, checked}
use Rattle.vb_inode.specs.Reading.{map_read, node_by, node_from, node_read, Answers, AnswersBy, AreRefsIn, Holds, IsMadeOf, IsNodeOf, IsNodeRead}
use Rattle.vb_block.proofs.Numbers.{length-four_bytes, length-eight_bytes}
use Rattle.vb_inode.proofs.Zeros.{take-padded}
use Rattle.vb_inode.proofs.RefBytes.{map_page-zeros, map_page_same, ref_same}
use Rattle.vb_inode.proofs.FieldBytes.{after_1, after_2, after_3, after_4, after_5, after_6, after_7, after_8, fields_same, sealed_bytes-parts}
use Rattle.vb_inode.proofs.Checked.{checked-Passes}
use Rattle.vb_inode.proofs.Decoded.{node_page_same, nodes_same, Holds-node_page, Passes-fields_from}

-- ---- the fields that stand in a page

four_again : (n : ℕ) (rest : List ℕ) → n < 2 ^ 32 → little_number 4 (four_bytes n ++ rest) ≡ n
unfolding four_bytes
four_again n rest fits = little_number-reads_back 4 n rest fits

eight_again : (n : ℕ) (rest : List ℕ) → n < 2 ^ 64 → little_number 8 (eight_bytes n ++ rest) ≡ n
unfolding eight_bytes
eight_again n rest fits = little_number-reads_back 8 n rest fits

-- what follows a part of a page
after_part : (page x rest : List ℕ) (at n : ℕ) → length x ≡ n → drop at page ≡ x ++ rest → drop (at + n) page ≡ rest
after_part page x rest at n long is = sym (drop-drop n at page) ∙ ap (drop n) is ∙ drop_at x rest n long

-- the next part, where what follows is a part and more, and then these bytes
next_part : (page x y rest s : List ℕ) (at n : ℕ) → length x ≡ n → drop at page ≡ x ++ ((y ++ rest) ++ s) → drop (at + n) page ≡ y ++ (rest ++ s)
next_part page x y rest s at n long is = after_part page x ((y ++ rest) ++ s) at n long is ∙ append_assoc y rest s

number4_is : (page rest : List ℕ) (at n : ℕ) → n < 2 ^ 32 → drop at page ≡ four_bytes n ++ rest → number4_at at page ≡ n
number4_is page rest at n fits is = ap (little_number 4) is ∙ four_again n rest fits

number8_is : (page rest : List ℕ) (at n : ℕ) → n < 2 ^ 64 → drop at page ≡ eight_bytes n ++ rest → number8_at at page ≡ n
number8_is page rest at n fits is = ap (little_number 8) is ∙ eight_again n rest fits

part_is : (page x rest : List ℕ) (at n : ℕ) → length x ≡ n → drop at page ≡ x ++ rest → take n (drop at page) ≡ x
part_is page x rest at n long is = ap (take n) is ∙ take_at x rest n long

-- the fields of a page that begins with their bytes
fields_in-bytes : (f : Fields) (page s : List ℕ) → FitsBlock f → page ≡ sealed_bytes f ++ s → fields_in page ≡ f
unfolding fields_in
fields_in-bytes f page s fits is =
    let d0 : drop 0 page ≡ four_bytes f.slot ++ (after_1 f ++ s) = is ∙ ap (λ (b : List ℕ). b ++ s) (sealed_bytes-parts f) ∙ append_assoc (four_bytes f.slot) (after_1 f) s in
    let d4 : drop 4 page ≡ four_bytes f.kind ++ (after_2 f ++ s) = next_part page (four_bytes f.slot) (four_bytes f.kind) (after_2 f) s 0 4 (length-four_bytes f.slot) d0 in
    let d8 : drop 8 page ≡ four_bytes f.parent ++ (after_3 f ++ s) = next_part page (four_bytes f.kind) (four_bytes f.parent) (after_3 f) s 4 4 (length-four_bytes f.kind) d4 in
    let d12 : drop 12 page ≡ four_bytes f.name_length ++ (after_4 f ++ s) = next_part page (four_bytes f.parent) (four_bytes f.name_length) (after_4 f) s 8 4 (length-four_bytes f.parent) d8 in
    let d16 : drop 16 page ≡ eight_bytes f.file_length ++ (after_5 f ++ s) = next_part page (four_bytes f.name_length) (eight_bytes f.file_length) (after_5 f) s 12 4 (length-four_bytes f.name_length) d12 in
    let d24 : drop 24 page ≡ four_bytes f.map_count ++ (after_6 f ++ s) = next_part page (eight_bytes f.file_length) (four_bytes f.map_count) (after_6 f) s 16 8 (length-eight_bytes f.file_length) d16 in
    let d28 : drop 28 page ≡ f.gap ++ (after_7 f ++ s) = next_part page (four_bytes f.map_count) f.gap (after_7 f) s 24 4 (length-four_bytes f.map_count) d24 in
    let d32 : drop 32 page ≡ f.name ++ (after_8 f ++ s) = next_part page f.gap f.name (after_8 f) s 28 4 fits.gap d28 in
    let d288 : drop 288 page ≡ f.maps ++ ([] ++ s) = next_part page f.name f.maps [] s 32 256 fits.name d32 in
    fields_same (fields_in page) f
    (number4_is page _ 0 f.slot fits.slot d0)
    (number4_is page _ 4 f.kind fits.kind d4)
    (number4_is page _ 8 f.parent fits.parent d8)
    (number4_is page _ 12 f.name_length fits.name_length d12)
    (number8_is page _ 16 f.file_length fits.file_length d16)
    (number4_is page _ 24 f.map_count fits.map_count d24)
    (part_is page f.gap _ 28 4 fits.gap d28)
    (part_is page f.name _ 32 256 fits.name d32)
    (part_is page f.maps _ 288 3776 fits.maps d288)

-- a page that holds fields has these
pub fields_in-held : (page : List ℕ) (f : Fields) → Holds page f → fields_in page ≡ f
unfolding sealed_part
fields_in-held page f holds =
    fields_in-bytes f page (drop 4064 page) holds.fits (sym (take-append-drop 4064 page) ∙ ap (λ (b : List ℕ). b ++ drop 4064 page) holds.spelled)

-- ---- references

ref_in-bytes : (r : Ref) (rest : List ℕ) → r.place < 2 ^ 32 → length r.digest ≡ 32 → ref_in (ref_bytes r ++ rest) ≡ r
ref_in-bytes r rest fits long =
    let is : ref_bytes r ++ rest ≡ four_bytes r.place ++ (r.digest ++ rest) = append_assoc (four_bytes r.place) r.digest rest in
    let after : drop 4 (ref_bytes r ++ rest) ≡ r.digest ++ rest = ap (drop 4) is ∙ drop_at (four_bytes r.place) (r.digest ++ rest) 4 (length-four_bytes r.place) in
    ref_same (ref_in (ref_bytes r ++ rest)) r (ap (little_number 4) is ∙ four_again r.place (r.digest ++ rest) fits) (ap (take 32) after ∙ take_at r.digest rest 32 long)

refs_in-bytes : (refs : List Ref) (rest : List ℕ) → AreRefs refs → refs_in (length refs) (flat_map ref_bytes refs ++ rest) ≡ refs
refs_in-bytes [] rest are = refl
refs_in-bytes (r ∷ refs) rest are =
    let one = are 0 r (omega arith) in
    let tail : AreRefs refs = λ k d lt. are (suc k) d (omega arith) in
    let is : flat_map ref_bytes (r ∷ refs) ++ rest ≡ ref_bytes r ++ (flat_map ref_bytes refs ++ rest) = append_assoc (ref_bytes r) (flat_map ref_bytes refs) rest in
    let long : length (ref_bytes r) ≡ 36 = omega (arith, length-append (four_bytes r.place) r.digest, length-four_bytes r.place, one.1) in
    let after : drop 36 (ref_bytes r ++ (flat_map ref_bytes refs ++ rest)) ≡ flat_map ref_bytes refs ++ rest = drop_at (ref_bytes r) (flat_map ref_bytes refs ++ rest) 36 long in
    ap (refs_in (suc (length refs))) is
    ∙ ap (λ (x : Ref). x ∷ refs_in (length refs) (drop 36 (ref_bytes r ++ (flat_map ref_bytes refs ++ rest)))) (ref_in-bytes r (flat_map ref_bytes refs ++ rest) one.0 one.1)
    ∙ ap (λ (b : List ℕ). r ∷ refs_in (length refs) b) after
    ∙ ap (λ (x : List Ref). r ∷ x) (refs_in-bytes refs rest tail)

pub refs_in-read : (count : ℕ) (bytes : List ℕ) (refs : List Ref) → AreRefsIn count bytes refs → refs_in count bytes ≡ refs
refs_in-read count bytes refs read =
    ap (λ (n : ℕ). refs_in n bytes) (sym read.counted) ∙ ap (refs_in (length refs)) read.spelled ∙ refs_in-bytes refs (drop (36 * count) bytes) read.are_refs

-- ---- nodes

-- the node that was made of fields is the one that they say
node_from-made : (kind : NodeKind) (f : Fields) (node : Node) → IsMadeOf kind f node → node_from kind f ≡ node
node_from-made kind f node m =
    nodes_same (node_from kind f) node (sym m.slot) (sym m.is_kind) (sym m.parent) (sym m.name) (sym m.file_length) (refs_in-read f.map_count f.maps node.maps m.maps)

-- the node that its own fields say
node_from-fields_from : (node : Node) → AreRefs node.maps → node_from node.kind (fields_from node) ≡ node
node_from-fields_from node are =
    nodes_same (node_from node.kind (fields_from node)) node refl refl refl (take-padded 256 (length node.name) node.name refl) refl (refs_in-bytes node.maps (replicate (3776 - length (flat_map ref_bytes node.maps)) 0) are)

sealed_read : (nodes : ℕ) (page : List ℕ) (f : Fields) → Holds page f → node_read nodes page ≡ node_by (checked nodes f) f
unfolding node_read
sealed_read nodes page f holds =
    let sealed : bytes_eq (seal_of page) (sha256 (sealed_part page)) ≡ true = (bytes_eq-Decides (seal_of page) (sha256 (sealed_part page))).1 holds.is_sealed in
    ap (λ (b : Bool). cond b (node_by (checked nodes (fields_in page)) (fields_in page)) (Err (Unsealed (seal_of page) (sha256 (sealed_part page))))) sealed
    ∙ ap (λ (g : Fields). node_by (checked nodes g) g) (fields_in-held page f holds)

-- the answer to a sealed page is what it reads as
pub sealed_is_read : (nodes : ℕ) (page : List ℕ) (f : Fields) (result : Result Node NodeError) → Holds page f → Answers nodes f result → IsNodeRead (node_read nodes page) result
sealed_is_read nodes page f result holds answers =
    by_checks (checked nodes f) result (sealed_read nodes page f holds) answers where
      by_checks : (o : Result NodeKind Why) (r : Result Node NodeError) → node_read nodes page ≡ node_by o f → AnswersBy f o r → IsNodeRead (node_read nodes page) r
      by_checks (Err why) r e wrong = subst (IsNodeRead (node_read nodes page)) (sym wrong) e
      by_checks (Ok kind) (Ok node) e made = e ∙ ap Ok (node_from-made kind f node made)
      by_checks (Ok kind) (Err fault) e memory = subst (λ (x : NodeError). IsNodeRead (node_read nodes page) (Err x)) (sym memory) tt

-- the first check that a sealed page fails is the one that it reads as
pub sealed_fault : (nodes : ℕ) (page : List ℕ) (f : Fields) → Holds page f → result_err (node_read nodes page) ≡ option_map Wrong (result_err (checked nodes f))
sealed_fault nodes page f holds = ap result_err (sealed_read nodes page f holds) ∙ by_checks (checked nodes f) where
  by_checks : (o : Result NodeKind Why) → result_err (node_by o f) ≡ option_map Wrong (result_err o)
  by_checks (Ok kind) = refl
  by_checks (Err why) = refl

-- a page that isn't sealed reads as both seals
pub unsealed_read : (nodes : ℕ) (page : List ℕ) → (IsSealed page → ⊥) → node_read nodes page ≡ Err (Unsealed (seal_of page) (sha256 (sealed_part page)))
unfolding node_read
unsealed_read nodes page unsealed = by_test (bytes_eq (seal_of page) (sha256 (sealed_part page))) refl where
  other : Result Node NodeError
  other = Err (Unsealed (seal_of page) (sha256 (sealed_part page)))

  by_test : (b : Bool) → bytes_eq (seal_of page) (sha256 (sealed_part page)) ≡ b → cond b (node_by (checked nodes (fields_in page)) (fields_in page)) (Err (Unsealed (seal_of page) (sha256 (sealed_part page)))) ≡ Err (Unsealed (seal_of page) (sha256 (sealed_part page)))
  by_test true e = absurd (unsealed ((bytes_eq-Decides (seal_of page) (sha256 (sealed_part page))).0 e))
  by_test false e = refl

-- ---- what was written is what is read

pub node_page_read : (nodes : ℕ) (node : Node) → nodes ≤ 2 ^ 32 → IsNodeOf nodes node → node_read nodes (node_page node) ≡ Ok node
node_page_read nodes node few h =
    sealed_read nodes (node_page node) (fields_from node) (Holds-node_page nodes (node_page node) node few h refl)
    ∙ ap (λ (o : Result NodeKind Why). node_by o (fields_from node)) (checked-Passes nodes (fields_from node) node.kind (Passes-fields_from nodes node h))
    ∙ ap Ok (node_from-fields_from node h.refs)

map_read-zeros : (count : ℕ) (page : List ℕ) → are_zeros (drop (36 * count) page) ≡ true → map_read count page ≡ Ok (refs_in count page)
unfolding map_read
map_read-zeros count page zeros = ap (λ (b : Bool). cond b (Ok (refs_in count page)) (Err (WrongMap Rest))) zeros

pub map_read-rest : (count : ℕ) (page : List ℕ) → are_zeros (drop (36 * count) page) ≡ false → map_read count page ≡ Err (WrongMap Rest)
unfolding map_read
map_read-rest count page more = ap (λ (b : Bool). cond b (Ok (refs_in count page)) (Err (WrongMap Rest))) more

pub map_read-read : (count : ℕ) (page bytes : List ℕ) (refs : List Ref) → bytes ≡ page → AreRefsIn count bytes refs → are_zeros (drop (36 * count) page) ≡ true → map_read count page ≡ Ok refs
map_read-read count page bytes refs same read zeros =
    map_read-zeros count page zeros ∙ ap (λ (b : List ℕ). Ok (refs_in count b)) (sym same) ∙ ap Ok (refs_in-read count bytes refs read)

pub map_page_read : (refs : List Ref) → AreRefs refs → map_read (length refs) (map_page refs) ≡ Ok refs
unfolding map_page
map_page_read refs are =
    map_read-zeros (length refs) (map_page refs) (map_page-zeros (length refs) (map_page refs) refs refl are refl)
    ∙ ap Ok (refs_in-bytes refs (replicate (4096 - length (flat_map ref_bytes refs)) 0) are)

pub ruleset pages_read = (node_page_same, map_page_same, node_page_read, map_page_read)
