-- The bytes of a node block's fields: how many there are, and that they tell the fields apart.
use Rattle.std.proofs.Common.{◌≡◌, ℕ, List, [], ◌++◌, length, refl, sym, ap, ◌∙◌, arith}
use Rattle.std.proofs.lemmas.List.{append-nil, append_assoc, length-append}
use Rattle.vb_block.specs.Numbers.{four_bytes, eight_bytes}
use Rattle.vb_inode.specs.Layout.{Fields, FitsBlock, sealed_bytes}
use Rattle.vb_block.proofs.Numbers.{length-four_bytes, length-eight_bytes, fronts_same, four_bytes_same, eight_bytes_same}

-- what follows each field
abbrev pub after_8 : Fields → List ℕ
after_8 f = f.maps ++ []

abbrev pub after_7 : Fields → List ℕ
after_7 f = f.name ++ after_8 f

abbrev pub after_6 : Fields → List ℕ
after_6 f = f.gap ++ after_7 f

abbrev pub after_5 : Fields → List ℕ
after_5 f = four_bytes f.map_count ++ after_6 f

abbrev pub after_4 : Fields → List ℕ
after_4 f = eight_bytes f.file_length ++ after_5 f

abbrev pub after_3 : Fields → List ℕ
after_3 f = four_bytes f.name_length ++ after_4 f

abbrev pub after_2 : Fields → List ℕ
after_2 f = four_bytes f.parent ++ after_3 f

abbrev pub after_1 : Fields → List ℕ
after_1 f = four_bytes f.kind ++ after_2 f

pub sealed_bytes-parts : (f : Fields) → sealed_bytes f ≡ four_bytes f.slot ++ after_1 f
unfolding sealed_bytes
sealed_bytes-parts f = refl

-- bytes that were split field by field are those of the fields
pub sealed_bytes-split : (f : Fields) (b r1 r2 r3 r4 r5 r6 r7 : List ℕ) → b ≡ four_bytes f.slot ++ r1 → r1 ≡ four_bytes f.kind ++ r2 → r2 ≡ four_bytes f.parent ++ r3 → r3 ≡ four_bytes f.name_length ++ r4 → r4 ≡ eight_bytes f.file_length ++ r5 → r5 ≡ four_bytes f.map_count ++ r6 → r6 ≡ f.gap ++ r7 → r7 ≡ f.name ++ f.maps → b ≡ sealed_bytes f
sealed_bytes-split f b r1 r2 r3 r4 r5 r6 r7 e0 e1 e2 e3 e4 e5 e6 e7 =
    let s7 : r7 ≡ after_7 f = e7 ∙ ap (λ (r : List ℕ). f.name ++ r) (sym (append-nil f.maps)) in
    let s6 : r6 ≡ after_6 f = e6 ∙ ap (λ (r : List ℕ). f.gap ++ r) s7 in
    let s5 : r5 ≡ after_5 f = e5 ∙ ap (λ (r : List ℕ). four_bytes f.map_count ++ r) s6 in
    let s4 : r4 ≡ after_4 f = e4 ∙ ap (λ (r : List ℕ). eight_bytes f.file_length ++ r) s5 in
    let s3 : r3 ≡ after_3 f = e3 ∙ ap (λ (r : List ℕ). four_bytes f.name_length ++ r) s4 in
    let s2 : r2 ≡ after_2 f = e2 ∙ ap (λ (r : List ℕ). four_bytes f.parent ++ r) s3 in
    let s1 : r1 ≡ after_1 f = e1 ∙ ap (λ (r : List ℕ). four_bytes f.kind ++ r) s2 in
    e0 ∙ ap (λ (r : List ℕ). four_bytes f.slot ++ r) s1 ∙ sym (sealed_bytes-parts f)

step : (w v x t : List ℕ) → w ≡ v ++ x → w ++ t ≡ v ++ (x ++ t)
step w v x t e = ap (λ (y : List ℕ). y ++ t) e ∙ append_assoc v x t

-- bytes to which one field was added after the other are those of the fields
pub sealed_bytes-joined : (f : Fields) (w0 w1 w2 w3 w4 w5 w6 w7 w8 w9 w10 w11 name name_zeros refs refs_zeros : List ℕ) → w0 ≡ [] → w1 ≡ w0 ++ four_bytes f.slot → w2 ≡ w1 ++ four_bytes f.kind → w3 ≡ w2 ++ four_bytes f.parent → w4 ≡ w3 ++ four_bytes f.name_length → w5 ≡ w4 ++ eight_bytes f.file_length → w6 ≡ w5 ++ four_bytes f.map_count → w7 ≡ w6 ++ f.gap → w8 ≡ w7 ++ name → w9 ≡ w8 ++ name_zeros → f.name ≡ name ++ name_zeros → w10 ≡ w9 ++ refs → w11 ≡ w10 ++ refs_zeros → f.maps ≡ refs ++ refs_zeros → w11 ≡ sealed_bytes f
sealed_bytes-joined f w0 w1 w2 w3 w4 w5 w6 w7 w8 w9 w10 w11 name name_zeros refs refs_zeros e0 e1 e2 e3 e4 e5 e6 e7 e8 e9 en e10 e11 em =
    let named : w9 ≡ w7 ++ f.name = e9 ∙ step w8 w7 name name_zeros e8 ∙ ap (λ (x : List ℕ). w7 ++ x) (sym en) in
    let mapped : w11 ≡ w9 ++ f.maps = e11 ∙ step w10 w9 refs refs_zeros e10 ∙ ap (λ (x : List ℕ). w9 ++ x) (sym em) in
    let begun : w0 ++ (four_bytes f.slot ++ after_1 f) ≡ four_bytes f.slot ++ after_1 f = ap (λ (x : List ℕ). x ++ (four_bytes f.slot ++ after_1 f)) e0 in
    mapped
    ∙ ap (λ (x : List ℕ). w9 ++ x) (sym (append-nil f.maps))
    ∙ step w9 w7 f.name (after_8 f) named
    ∙ step w7 w6 f.gap (after_7 f) e7
    ∙ step w6 w5 (four_bytes f.map_count) (after_6 f) e6
    ∙ step w5 w4 (eight_bytes f.file_length) (after_5 f) e5
    ∙ step w4 w3 (four_bytes f.name_length) (after_4 f) e4
    ∙ step w3 w2 (four_bytes f.parent) (after_3 f) e3
    ∙ step w2 w1 (four_bytes f.kind) (after_2 f) e2
    ∙ step w1 w0 (four_bytes f.slot) (after_1 f) e1
    ∙ begun
    ∙ sym (sealed_bytes-parts f)

pub length-sealed_bytes : (f : Fields) → FitsBlock f → length (sealed_bytes f) ≡ 4064
length-sealed_bytes f h =
    let l8 : length (after_8 f) ≡ 3776 = ap length (append-nil f.maps) ∙ h.maps in
    let l7 : length (after_7 f) ≡ 4032 = omega (arith, length-append f.name (after_8 f), h.name) in
    let l6 : length (after_6 f) ≡ 4036 = omega (arith, length-append f.gap (after_7 f), h.gap) in
    let l5 : length (after_5 f) ≡ 4040 = omega (arith, length-append (four_bytes f.map_count) (after_6 f), length-four_bytes f.map_count) in
    let l4 : length (after_4 f) ≡ 4048 = omega (arith, length-append (eight_bytes f.file_length) (after_5 f), length-eight_bytes f.file_length) in
    let l3 : length (after_3 f) ≡ 4052 = omega (arith, length-append (four_bytes f.name_length) (after_4 f), length-four_bytes f.name_length) in
    let l2 : length (after_2 f) ≡ 4056 = omega (arith, length-append (four_bytes f.parent) (after_3 f), length-four_bytes f.parent) in
    let l1 : length (after_1 f) ≡ 4060 = omega (arith, length-append (four_bytes f.kind) (after_2 f), length-four_bytes f.kind) in
    let l0 : length (four_bytes f.slot ++ after_1 f) ≡ 4064 = omega (arith, length-append (four_bytes f.slot) (after_1 f), length-four_bytes f.slot) in
    ap length (sealed_bytes-parts f) ∙ l0

abbrev made : ℕ → ℕ → ℕ → ℕ → ℕ → ℕ → List ℕ → List ℕ → List ℕ → Fields
made slot kind parent name_length file_length map_count gap name maps = record {
  slot = slot;
  kind = kind;
  parent = parent;
  name_length = name_length;
  file_length = file_length;
  map_count = map_count;
  gap = gap;
  name = name;
  maps = maps;
}

-- fields that agree one by one are one
pub fields_same : (f g : Fields) → f.slot ≡ g.slot → f.kind ≡ g.kind → f.parent ≡ g.parent → f.name_length ≡ g.name_length → f.file_length ≡ g.file_length → f.map_count ≡ g.map_count → f.gap ≡ g.gap → f.name ≡ g.name → f.maps ≡ g.maps → f ≡ g
fields_same f g e0 e1 e2 e3 e4 e5 e6 e7 e8 =
    ap (λ (x : ℕ). made x f.kind f.parent f.name_length f.file_length f.map_count f.gap f.name f.maps) e0
    ∙ ap (λ (x : ℕ). made g.slot x f.parent f.name_length f.file_length f.map_count f.gap f.name f.maps) e1
    ∙ ap (λ (x : ℕ). made g.slot g.kind x f.name_length f.file_length f.map_count f.gap f.name f.maps) e2
    ∙ ap (λ (x : ℕ). made g.slot g.kind g.parent x f.file_length f.map_count f.gap f.name f.maps) e3
    ∙ ap (λ (x : ℕ). made g.slot g.kind g.parent g.name_length x f.map_count f.gap f.name f.maps) e4
    ∙ ap (λ (x : ℕ). made g.slot g.kind g.parent g.name_length g.file_length x f.gap f.name f.maps) e5
    ∙ ap (λ (x : List ℕ). made g.slot g.kind g.parent g.name_length g.file_length g.map_count x f.name f.maps) e6
    ∙ ap (λ (x : List ℕ). made g.slot g.kind g.parent g.name_length g.file_length g.map_count g.gap x f.maps) e7
    ∙ ap (λ (x : List ℕ). made g.slot g.kind g.parent g.name_length g.file_length g.map_count g.gap g.name x) e8

-- the same bytes have the same fields
pub sealed_bytes-same : (f g : Fields) → FitsBlock f → FitsBlock g → sealed_bytes f ≡ sealed_bytes g → f ≡ g
sealed_bytes-same f g hf hg e =
    let p0 = four_bytes_same f.slot g.slot (after_1 f) (after_1 g) hf.slot hg.slot (sym (sealed_bytes-parts f) ∙ e ∙ sealed_bytes-parts g) in
    let p1 = four_bytes_same f.kind g.kind (after_2 f) (after_2 g) hf.kind hg.kind p0.1 in
    let p2 = four_bytes_same f.parent g.parent (after_3 f) (after_3 g) hf.parent hg.parent p1.1 in
    let p3 = four_bytes_same f.name_length g.name_length (after_4 f) (after_4 g) hf.name_length hg.name_length p2.1 in
    let p4 = eight_bytes_same f.file_length g.file_length (after_5 f) (after_5 g) hf.file_length hg.file_length p3.1 in
    let p5 = four_bytes_same f.map_count g.map_count (after_6 f) (after_6 g) hf.map_count hg.map_count p4.1 in
    let p6 = fronts_same f.gap g.gap (after_7 f) (after_7 g) (hf.gap ∙ sym hg.gap) p5.1 in
    let p7 = fronts_same f.name g.name (after_8 f) (after_8 g) (hf.name ∙ sym hg.name) p6.1 in
    let p8 = fronts_same f.maps g.maps [] [] (hf.maps ∙ sym hg.maps) p7.1 in
    fields_same f g p0.0 p1.0 p2.0 p3.0 p4.0 p5.0 p6.0 p7.0 p8.0
