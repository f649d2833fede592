-- A page that reads as a node, or as references, is their one spelling; and a node's page is sealed and has its slot.
use Rattle.std.proofs.Common.{◌≡◌, ℕ, zero, suc, ◌+◌, ◌-◌, ◌*◌, ◌<◌, ◌≤◌, ◌^◌, Bool, true, false, cond, List, [], ◌∷◌, ◌++◌, length, take, drop, get_or, Result, Ok, Err, refl, sym, ap, subst, ◌∙◌, inl, inr, append_assoc, arith}
use Rattle.std.proofs.lemmas.Bool.{cases_lt}
use Rattle.std.proofs.lemmas.List.{drop-drop, get_or-drop, get_or-take, length-drop, length-take-le, take-append-drop}
use Rattle.std.proofs.lemmas.List.Elements.{All-cons, All-nil}
use Rattle.std.proofs.lemmas.Nat.{le_bytes_4, le_bytes_8}
use Rattle.std.proofs.lemmas.Slice.Eq.{bytes_eq-Decides}
use Rattle.std.specs.Int.{w32, w64, from_le_bytes}
use Rattle.std.specs.List.{flat_map}
use Rattle.std.specs.Str.{bytes_eq}
use Rattle.byteorder.specs.Endian.{little_number}
use Rattle.sha2.specs.Sha256.{sha256}
use Rattle.vb_block.specs.declared.digest.Ref.{Ref}
use Rattle.vb_block.specs.declared.why.Why.{Why}
use Rattle.vb_block.specs.declared.why.Why.TheVariants.{Rest}
use Rattle.vb_block.specs.Numbers.{four_bytes, eight_bytes}
use Rattle.vb_block.specs.Pages.{IsSealed, seal_of, sealed_part}
use Rattle.vb_block.proofs.Numbers.{parts_whole}
use Rattle.vb_inode.specs.declared.errors.MapError.TheVariants.{Wrong as WrongMap}
use Rattle.vb_inode.specs.declared.errors.NodeError.TheVariants.{Wrong}
use Rattle.vb_inode.specs.declared.node.Node.{Node}
use Rattle.vb_inode.specs.declared.node.NodeKind.{NodeKind}
use Rattle.vb_inode.specs.Checks.{are_zeros, checked}
use Rattle.vb_inode.specs.Layout.{AreRefs, Fields, FitsBlock, fields_from, fields_in, map_page, node_page, number4_at, ref_bytes, ref_in, refs_in, sealed_bytes}
use Rattle.vb_inode.specs.Reading.{Answers, AnswersBy, AreRefsIn, Holds, IsDueTo, IsMadeOf, IsNodeOf, map_read, node_from, node_read}
use Rattle.vb_inode.specs.Spellings.{AreBytes, IsBytePage}
use Rattle.vb_inode.proofs.Decoded.{Holds-node_page, answer_is_due, maps-within}
use Rattle.vb_inode.proofs.FieldBytes.{sealed_bytes-split}
use Rattle.vb_inode.proofs.PagesRead.{fields_in-held, sealed_is_read, unsealed_read}
use Rattle.vb_inode.proofs.RefBytes.{map_page-read}

-- ---- numbers

-- each number of a list is a byte, past its end too
abbrev pub HoldsBytes : List ℕ → Type 0
HoldsBytes bs = (i : ℕ) → get_or bs i 0 < 256

past_end : (bs : List ℕ) (i : ℕ) → length bs ≤ i → get_or bs i 0 ≡ 0
past_end [] i past = refl
past_end (b ∷ bs) zero past = absurd (omega arith)
past_end (b ∷ bs) (suc i) past = past_end bs i (omega arith)

holds_bytes : (bs : List ℕ) → AreBytes bs → HoldsBytes bs
holds_bytes bs are i = elim (cases_lt i (length bs)) [
  | inl within ↦ are i 0 within
  | inr past ↦ omega (arith, past_end bs i past)
]

dropped_bytes : (n : ℕ) (bs : List ℕ) → HoldsBytes bs → HoldsBytes (drop n bs)
dropped_bytes n bs are i = omega (arith, get_or-drop n bs i 0, are (n + i))

taken_bytes : (n : ℕ) (bs : List ℕ) → HoldsBytes bs → HoldsBytes (take n bs)
taken_bytes n bs are i = elim (cases_lt i n) [
  | inl within ↦ omega (arith, get_or-take n bs i 0 within, are i)
  | inr past ↦ omega (arith, past_end (take n bs) i (omega (arith, length-take-most n bs)))
] where
  length-take-most : (n : ℕ) (bs : List ℕ) → length (take n bs) ≤ n
  length-take-most zero bs = omega arith
  length-take-most (suc n) [] = omega arith
  length-take-most (suc n) (b ∷ bs) = omega (arith, length-take-most n bs)

-- a number is the one in its own four bytes
front_4 : (bs : List ℕ) → little_number 4 bs ≡ from_le_bytes w32 (take 4 bs)
front_4 bs =
    let a = get_or-take 4 bs 0 0 (omega arith) in
    let b = get_or-take 4 bs 1 0 (omega arith) in
    let c = get_or-take 4 bs 2 0 (omega arith) in
    let d = get_or-take 4 bs 3 0 (omega arith) in
    omega arith

front_8 : (bs : List ℕ) → little_number 8 bs ≡ from_le_bytes w64 (take 8 bs)
front_8 bs =
    let a = get_or-take 8 bs 0 0 (omega arith) in
    let b = get_or-take 8 bs 1 0 (omega arith) in
    let c = get_or-take 8 bs 2 0 (omega arith) in
    let d = get_or-take 8 bs 3 0 (omega arith) in
    let e = get_or-take 8 bs 4 0 (omega arith) in
    let f = get_or-take 8 bs 5 0 (omega arith) in
    let g = get_or-take 8 bs 6 0 (omega arith) in
    let h = get_or-take 8 bs 7 0 (omega arith) in
    omega arith

four_split : (bs : List ℕ) → 4 ≤ length bs → HoldsBytes bs → bs ≡ four_bytes (little_number 4 bs) ++ drop 4 bs
unfolding four_bytes
four_split bs long are =
    parts_whole 4 bs (four_bytes (little_number 4 bs)) (drop 4 bs)
    (le_bytes_4 (take 4 bs) (little_number 4 bs) (length-take-le 4 bs long) (taken_bytes 4 bs are) (front_4 bs)) refl

eight_split : (bs : List ℕ) → 8 ≤ length bs → HoldsBytes bs → bs ≡ eight_bytes (little_number 8 bs) ++ drop 8 bs
unfolding eight_bytes
eight_split bs long are =
    parts_whole 8 bs (eight_bytes (little_number 8 bs)) (drop 8 bs)
    (le_bytes_8 (take 8 bs) (little_number 8 bs) (length-take-le 8 bs long) (taken_bytes 8 bs are) (front_8 bs)) refl

four_low : (bs : List ℕ) → HoldsBytes bs → little_number 4 bs < 2 ^ 32
four_low bs are = omega (arith, are 0, are 1, are 2, are 3)

eight_low : (bs : List ℕ) → HoldsBytes bs → little_number 8 bs < 2 ^ 64
eight_low bs are = omega (arith, are 0, are 1, are 2, are 3, are 4, are 5, are 6, are 7)

-- ---- the fields of a page

-- the fields in bytes that were split behind each of them
fields_at : (b r1 r2 r3 r4 r5 r6 r7 : List ℕ) → Fields
fields_at b r1 r2 r3 r4 r5 r6 r7 = record {
  slot = little_number 4 b;
  kind = little_number 4 r1;
  parent = little_number 4 r2;
  name_length = little_number 4 r3;
  file_length = little_number 8 r4;
  map_count = little_number 4 r5;
  gap = take 4 r6;
  name = take 256 r7;
  maps = drop 256 r7;
}

-- these bytes are the fields of a block
record AreFields (b : List ℕ) (f : Fields) : Type 0 where
  fits : FitsBlock f
  spelled : b ≡ sealed_bytes f
  maps : HoldsBytes f.maps

left : (n : ℕ) (bs rest : List ℕ) → rest ≡ drop n bs → HoldsBytes bs → HoldsBytes rest
left n bs rest is are = subst HoldsBytes (sym is) (dropped_bytes n bs are)

length-left : (n : ℕ) (bs rest : List ℕ) → rest ≡ drop n bs → length rest ≡ length bs - n
length-left n bs rest is = ap length is ∙ length-drop n bs

four_off : (bs rest : List ℕ) → rest ≡ drop 4 bs → 4 ≤ length bs → HoldsBytes bs → bs ≡ four_bytes (little_number 4 bs) ++ rest
four_off bs rest is long are = four_split bs long are ∙ ap (λ (r : List ℕ). four_bytes (little_number 4 bs) ++ r) (sym is)

eight_off : (bs rest : List ℕ) → rest ≡ drop 8 bs → 8 ≤ length bs → HoldsBytes bs → bs ≡ eight_bytes (little_number 8 bs) ++ rest
eight_off bs rest is long are = eight_split bs long are ∙ ap (λ (r : List ℕ). eight_bytes (little_number 8 bs) ++ r) (sym is)

fields_split : (b r1 r2 r3 r4 r5 r6 r7 : List ℕ) → length b ≡ 4064 → HoldsBytes b → r1 ≡ drop 4 b → r2 ≡ drop 4 r1 → r3 ≡ drop 4 r2 → r4 ≡ drop 4 r3 → r5 ≡ drop 8 r4 → r6 ≡ drop 4 r5 → r7 ≡ drop 4 r6 → AreFields b (fields_at b r1 r2 r3 r4 r5 r6 r7)
unfolding fields_at
fields_split b r1 r2 r3 r4 r5 r6 r7 long h e1 e2 e3 e4 e5 e6 e7 =
    let h1 = left 4 b r1 e1 h in
    let h2 = left 4 r1 r2 e2 h1 in
    let h3 = left 4 r2 r3 e3 h2 in
    let h4 = left 4 r3 r4 e4 h3 in
    let h5 = left 8 r4 r5 e5 h4 in
    let h6 = left 4 r5 r6 e6 h5 in
    let h7 = left 4 r6 r7 e7 h6 in
    let l1 : length r1 ≡ 4060 = omega (arith, length-left 4 b r1 e1) in
    let l2 : length r2 ≡ 4056 = omega (arith, length-left 4 r1 r2 e2) in
    let l3 : length r3 ≡ 4052 = omega (arith, length-left 4 r2 r3 e3) in
    let l4 : length r4 ≡ 4048 = omega (arith, length-left 4 r3 r4 e4) in
    let l5 : length r5 ≡ 4040 = omega (arith, length-left 8 r4 r5 e5) in
    let l6 : length r6 ≡ 4036 = omega (arith, length-left 4 r5 r6 e6) in
    let l7 : length r7 ≡ 4032 = omega (arith, length-left 4 r6 r7 e7) in
    record {
      fits = record {
        slot = four_low b h;
        kind = four_low r1 h1;
        parent = four_low r2 h2;
        name_length = four_low r3 h3;
        file_length = eight_low r4 h4;
        map_count = four_low r5 h5;
        gap = length-take-le 4 r6 (omega arith);
        name = length-take-le 256 r7 (omega arith);
        maps = omega (arith, length-drop 256 r7);
      };
      spelled = sealed_bytes-split (fields_at b r1 r2 r3 r4 r5 r6 r7) b r1 r2 r3 r4 r5 r6 r7
          (four_off b r1 e1 (omega arith) h)
          (four_off r1 r2 e2 (omega arith) h1)
          (four_off r2 r3 e3 (omega arith) h2)
          (four_off r3 r4 e4 (omega arith) h3)
          (eight_off r4 r5 e5 (omega arith) h4)
          (four_off r5 r6 e6 (omega arith) h5)
          (sym (take-append-drop 4 r6) ∙ ap (λ (r : List ℕ). take 4 r6 ++ r) (sym e7))
          (sym (take-append-drop 256 r7));
      maps = dropped_bytes 256 r7 h7;
    }

-- the fields that a sealed page holds
record IsHeld (page : List ℕ) (f : Fields) : Type 0 where
  holds : Holds page f
  maps : HoldsBytes f.maps

held_in : (page : List ℕ) → IsBytePage page → IsSealed page → (f : Fields) × IsHeld page f
unfolding sealed_part
held_in page is sealed =
    let b = take 4064 page in
    let r1 = drop 4 b in
    let r2 = drop 4 r1 in
    let r3 = drop 4 r2 in
    let r4 = drop 4 r3 in
    let r5 = drop 8 r4 in
    let r6 = drop 4 r5 in
    let r7 = drop 4 r6 in
    let long : length b ≡ 4064 = length-take-le 4064 page (omega (arith, is.is_page)) in
    let are = fields_split b r1 r2 r3 r4 r5 r6 r7 long (taken_bytes 4064 page (holds_bytes page is.are_bytes)) refl refl refl refl refl refl refl in
    (fields_at b r1 r2 r3 r4 r5 r6 r7, record { holds = record { is_sealed = sealed; fits = are.fits; spelled = are.spelled }; maps = are.maps })

-- ---- references

one_ref : (bs : List ℕ) → 36 ≤ length bs → HoldsBytes bs → bs ≡ ref_bytes (ref_in bs) ++ drop 36 bs
one_ref bs long are =
    let behind : drop 4 bs ≡ take 32 (drop 4 bs) ++ drop 36 bs = sym (take-append-drop 32 (drop 4 bs)) ∙ ap (λ (r : List ℕ). take 32 (drop 4 bs) ++ r) (drop-drop 32 4 bs) in
    four_split bs (omega arith) are
    ∙ ap (λ (r : List ℕ). four_bytes (little_number 4 bs) ++ r) behind
    ∙ sym (append_assoc (four_bytes (little_number 4 bs)) (take 32 (drop 4 bs)) (drop 36 bs))

-- bytes begin with the references that are read from them
pub refs_spelled : (n : ℕ) (bs : List ℕ) → 36 * n ≤ length bs → HoldsBytes bs → AreRefsIn n bs (refs_in n bs)
refs_spelled zero bs long are = record { counted = refl; are_refs = All-nil (λ (r : Ref). (r.place < 2 ^ 32) × (length r.digest ≡ 32)); spelled = refl }
refs_spelled (suc n) bs long are =
    let fits : 36 ≤ length bs = omega arith in
    let rest = refs_spelled n (drop 36 bs) (omega (arith, length-drop 36 bs)) (dropped_bytes 36 bs are) in
    let further : drop (36 * n) (drop 36 bs) ≡ drop (36 * suc n) bs = drop-drop (36 * n) 36 bs ∙ (let same : 36 + 36 * n ≡ 36 * suc n = omega arith in ap (λ (m : ℕ). drop m bs) same) in
    let long_digest : length (take 32 (drop 4 bs)) ≡ 32 = length-take-le 32 (drop 4 bs) (omega (arith, length-drop 4 bs)) in
    record {
      counted = ap suc rest.counted;
      are_refs = All-cons (λ (r : Ref). (r.place < 2 ^ 32) × (length r.digest ≡ 32)) (ref_in bs) (refs_in n (drop 36 bs)) (four_low bs are, long_digest) rest.are_refs;
      spelled = one_ref bs fits are
          ∙ ap (λ (r : List ℕ). ref_bytes (ref_in bs) ++ r) (rest.spelled ∙ ap (λ (r : List ℕ). flat_map ref_bytes (refs_in n (drop 36 bs)) ++ r) further)
          ∙ sym (append_assoc (ref_bytes (ref_in bs)) (flat_map ref_bytes (refs_in n (drop 36 bs))) (drop (36 * suc n) bs));
    }

-- ---- the laws

-- the node that the fields of a sealed page give
spelled_by : (nodes : ℕ) (page : List ℕ) (node : Node) (f : Fields) (o : Result NodeKind Why) → IsHeld page f → checked nodes f ≡ o → node_read nodes page ≡ Ok node → IsDueTo nodes page (Ok node)
spelled_by nodes page node f (Err why) held is read =
    let answers : Answers nodes f (Err (Wrong why)) = subst (λ (o : Result NodeKind Why). AnswersBy f o (Err (Wrong why))) (sym is) refl in
    let refused : node_read nodes page ≡ Err (Wrong why) = sealed_is_read nodes page f (Err (Wrong why)) held.holds answers in
    absurd cc
spelled_by nodes page node f (Ok kind) held is read =
    let within = maps-within nodes f kind held.holds.fits is in
    let made : IsMadeOf kind f (node_from kind f) = record { slot = refl; is_kind = refl; parent = refl; name = refl; file_length = refl; maps = refs_spelled f.map_count f.maps within held.maps } in
    let answers : Answers nodes f (Ok (node_from kind f)) = subst (λ (o : Result NodeKind Why). AnswersBy f o (Ok (node_from kind f))) (sym is) made in
    let found : node_read nodes page ≡ Ok (node_from kind f) = sealed_is_read nodes page f (Ok (node_from kind f)) held.holds answers in
    let equal : node_from kind f ≡ node = cc in
    subst (λ (n : Node). IsDueTo nodes page (Ok n)) equal (answer_is_due nodes page f (Ok (node_from kind f)) held.holds answers)

pub node_spelled : (nodes : ℕ) (page : List ℕ) (node : Node) → IsBytePage page → node_read nodes page ≡ Ok node → IsNodeOf nodes node × (page ≡ node_page node)
node_spelled nodes page node is read = by_test (bytes_eq (seal_of page) (sha256 (sealed_part page))) refl where
  by_test : (b : Bool) → bytes_eq (seal_of page) (sha256 (sealed_part page)) ≡ b → IsNodeOf nodes node × (page ≡ node_page node)
  by_test true e =
      let held = held_in page is ((bytes_eq-Decides (seal_of page) (sha256 (sealed_part page))).0 e) in
      spelled_by nodes page node held.0 (checked nodes held.0) held.1 refl read
  by_test false e =
      let open_page : IsSealed page → ⊥ = λ sealed. (let test = (bytes_eq-Decides (seal_of page) (sha256 (sealed_part page))).1 sealed in cc) in
      let refused = unsealed_read nodes page open_page in
      absurd cc

pub map_spelled : (count : ℕ) (page : List ℕ) (refs : List Ref) → 36 * count ≤ 4096 → IsBytePage page → map_read count page ≡ Ok refs → (length refs ≡ count) × AreRefs refs × (page ≡ map_page refs)
unfolding map_read
map_spelled count page refs few is read = by_test (are_zeros (drop (36 * count) page)) refl read where
  by_test : (b : Bool) → are_zeros (drop (36 * count) page) ≡ b → cond b (Ok (refs_in count page)) (Err (WrongMap Rest)) ≡ Ok refs → (length refs ≡ count) × AreRefs refs × (page ≡ map_page refs)
  by_test true zeros same =
      let found = refs_spelled count page (omega (arith, is.is_page)) (holds_bytes page is.are_bytes) in
      let equal : refs_in count page ≡ refs = cc same in
      let made : AreRefsIn count page refs = subst (AreRefsIn count page) equal found in
      (made.counted, made.are_refs, map_page-read count page page refs is.is_page refl made zeros)
  by_test false more same = absurd (cc same)

pub node_page_sealed : (nodes : ℕ) (node : Node) → nodes ≤ 2 ^ 32 → IsNodeOf nodes node → IsSealed (node_page node)
node_page_sealed nodes node few is = (Holds-node_page nodes (node_page node) node few is refl).is_sealed

pub node_page_slot : (nodes : ℕ) (node : Node) → nodes ≤ 2 ^ 32 → IsNodeOf nodes node → number4_at 0 (node_page node) ≡ node.slot
unfolding fields_in
node_page_slot nodes node few is = ap (λ (f : Fields). f.slot) (fields_in-held (node_page node) (fields_from node) (Holds-node_page nodes (node_page node) node few is refl))
