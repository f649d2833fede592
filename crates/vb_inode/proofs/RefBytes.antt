-- References in bytes: how many bytes they take, and that the bytes tell them apart.
use Rattle.std.proofs.Common.{◌≡◌, ℕ, suc, ◌-◌, ◌*◌, ◌<◌, ◌^◌, List, [], ◌∷◌, ◌++◌, true, length, take, drop, replicate, refl, sym, ap, ◌∙◌, append_assoc, arith}
use Rattle.std.specs.List.{flat_map}
use Rattle.std.proofs.lemmas.List.{length-append, take_at}
use Rattle.vb_block.specs.declared.digest.Ref.{Ref}
use Rattle.vb_block.specs.Numbers.{four_bytes}
use Rattle.vb_inode.specs.Layout.{ref_bytes, map_page, padded, AreRefs}
use Rattle.vb_inode.specs.Checks.{are_zeros}
use Rattle.vb_inode.specs.Reading.{AreRefsIn}
use Rattle.vb_inode.proofs.Zeros.{are_zeros-padded, padded-from_zeros}
use Rattle.vb_block.proofs.Numbers.{length-four_bytes, fronts_same, four_bytes_same}

abbrev made : ℕ → List ℕ → Ref
made place digest = record { place = place; digest = digest }

pub ref_same : (a b : Ref) → a.place ≡ b.place → a.digest ≡ b.digest → a ≡ b
ref_same a b p d = ap (λ (x : ℕ). made x a.digest) p ∙ ap (λ (x : List ℕ). made b.place x) d

tail : (r : Ref) (refs : List Ref) → AreRefs (r ∷ refs) → AreRefs refs
tail r refs h = λ k d lt. h (suc k) d (omega arith)

head : (r : Ref) (refs : List Ref) → AreRefs (r ∷ refs) → (r.place < 2 ^ 32) × (length r.digest ≡ 32)
head r refs h = h 0 r (omega arith)

pub length-refs : (refs : List Ref) → AreRefs refs → length (flat_map ref_bytes refs) ≡ 36 * length refs
length-refs [] h = refl
length-refs (r ∷ refs) h =
    let rest = length-refs refs (tail r refs h) in
    let first = head r refs h in
    omega (arith, rest, first.1, length-append (ref_bytes r) (flat_map ref_bytes refs), length-append (four_bytes r.place) r.digest, length-four_bytes r.place)

regroup : (r : Ref) (refs : List Ref) (xs : List ℕ) → flat_map ref_bytes (r ∷ refs) ++ xs ≡ four_bytes r.place ++ (r.digest ++ (flat_map ref_bytes refs ++ xs))
regroup r refs xs =
    append_assoc (four_bytes r.place ++ r.digest) (flat_map ref_bytes refs) xs ∙ append_assoc (four_bytes r.place) r.digest (flat_map ref_bytes refs ++ xs)

-- the same bytes begin with the same references, where there are as many
pub refs_same : (a b : List Ref) (xs ys : List ℕ) → AreRefs a → AreRefs b → length a ≡ length b → flat_map ref_bytes a ++ xs ≡ flat_map ref_bytes b ++ ys → (a ≡ b) × (xs ≡ ys)
refs_same [] [] xs ys ha hb len e = (refl, e)
refs_same [] (s ∷ b) xs ys ha hb len e = absurd (omega arith)
refs_same (r ∷ a) [] xs ys ha hb len e = absurd (omega arith)
refs_same (r ∷ a) (s ∷ b) xs ys ha hb len e =
    let hr = head r a ha in
    let hs = head s b hb in
    let places = four_bytes_same r.place s.place (r.digest ++ (flat_map ref_bytes a ++ xs)) (s.digest ++ (flat_map ref_bytes b ++ ys)) hr.0 hs.0 (sym (regroup r a xs) ∙ e ∙ regroup s b ys) in
    let digests = fronts_same r.digest s.digest (flat_map ref_bytes a ++ xs) (flat_map ref_bytes b ++ ys) (hr.1 ∙ sym hs.1) places.1 in
    let rest = refs_same a b xs ys (tail r a ha) (tail s b hb) (omega arith) digests.1 in (
      ap (λ (x : Ref). x ∷ a) (ref_same r s places.0 digests.0) ∙ ap (λ (x : List Ref). s ∷ x) rest.0,
      rest.1,
    )

abbrev zeros_after : List Ref → List ℕ
zeros_after refs = replicate (4096 - length (flat_map ref_bytes refs)) 0

-- a map page tells its references, where their number is known
pub map_page_same : (a b : List Ref) → AreRefs a → AreRefs b → length a ≡ length b → map_page a ≡ map_page b → a ≡ b
unfolding map_page
map_page_same a b ha hb len e = (refs_same a b (zeros_after a) (zeros_after b) ha hb len e).0

-- past the references of a map page stand zeros
pub map_page-zeros : (count : ℕ) (page : List ℕ) (refs : List Ref) → length refs ≡ count → AreRefs refs → page ≡ map_page refs → are_zeros (drop (36 * count) page) ≡ true
unfolding map_page
map_page-zeros count page refs len h e =
    let k = 36 * count in
    let long : length (flat_map ref_bytes refs) ≡ k = omega (arith, length-refs refs h) in
    ap (λ (p : List ℕ). are_zeros (drop k p)) e ∙ are_zeros-padded 4096 k (flat_map ref_bytes refs) long

-- a page is the map page of the references that were read from it, where only zeros follow them
pub map_page-read : (count : ℕ) (page bytes : List ℕ) (refs : List Ref) → length page ≡ 4096 → bytes ≡ page → AreRefsIn count bytes refs → are_zeros (drop (36 * count) page) ≡ true → page ≡ map_page refs
unfolding map_page
map_page-read count page bytes refs is_page same read zeros =
    let k = 36 * count in
    let front = flat_map ref_bytes refs in
    let long : length front ≡ k = omega (arith, length-refs refs read.are_refs, read.counted) in
    let taken : take k page ≡ front = ap (take k) (sym same ∙ read.spelled) ∙ take_at front (drop k bytes) k long in
    sym (ap (padded 4096) (sym taken) ∙ padded-from_zeros 4096 k page is_page zeros)
