-- A head is read from the page that it is written as, and from no other.
use Rattle.std.proofs.Common.{◌≡◌, ℕ, zero, suc, ◌+◌, ◌*◌, ◌^◌, ◌<◌, ◌≤◌, Bool, true, false, not, cond, eqb, leb, ltb, List, [], ◌∷◌, ◌++◌, length, take, drop, replicate, Option, Some, None, refl, sym, ap, subst, ◌∙◌, arith}
use Rattle.std.specs.Str.{bytes_eq}
use Rattle.std.proofs.lemmas.Bool.{and_parts, eqb-true, le-ltb, leb-false, lt-leb, ltb-false, ne_eqb, not-false, not_from_true, or_from, or_parts}
use Rattle.std.proofs.lemmas.List.{drop_at, length-append, length-drop, length-replicate, length-take, take_at, take-append-drop}
use Rattle.std.proofs.lemmas.Slice.Eq.{bytes_eq-Decides}
use Rattle.byteorder.specs.Endian.{little_bytes, little_number}
use Rattle.sha2.specs.Sha256.{sha256}
use Rattle.vb_block.specs.declared.why.Why.{Why}
use Rattle.vb_block.specs.declared.why.Why.TheVariants.{Blocks, Nodes, Space, Id, Sequence, Epoch, State as StateWhy, Count, Rest}
use Rattle.vb_block.specs.Pages.{IsPage, seal_of, sealed_part}
use Rattle.vb_head.specs.declared.head.Head.{Head}
use Rattle.vb_head.specs.declared.head.HeadRead.{HeadRead}
use Rattle.vb_head.specs.declared.head.HeadRead.TheVariants.{Good, Alien, Unsealed, Blank}
use Rattle.vb_head.specs.declared.head.State.{State}
use Rattle.vb_head.specs.declared.head.State.TheVariants.{Closed, Opened, Rebuilding}
use Rattle.vb_head.specs.Layout.{Fields, are_zeros, fields_of, in_order, no_rest, number4_at, number8_at, signature, spelled}
use Rattle.vb_head.specs.Heads.{IsHead, count_of, fault_of, fields_from, head_from, head_page, head_read, is_marked, is_miscounted, is_off, is_off_nodes, judged, last_sequence, number_of, refuse, state_from}
use Rattle.vb_head.proofs.Parts.{IsBytes, after_part, in_order-from_right, number4_again, number8_again, piece, piece4, piece8}

-- ---- the fields of a page, and the page of these fields

-- fields that have a spelling
pub record AreFields (f : Fields) : Type 0 where
  pub signature : length f.signature ≡ 8
  pub version : f.version < 2 ^ 32
  pub id : length f.id ≡ 16
  pub blocks : f.blocks < 2 ^ 32
  pub nodes : f.nodes < 2 ^ 32
  pub sequence : f.sequence < 2 ^ 64
  pub epoch : f.epoch < 2 ^ 64
  pub state : f.state < 2 ^ 32
  pub count : f.count < 2 ^ 32
  pub rest : length f.rest ≡ 4004

-- the fields of these values
abbrev made : List ℕ → ℕ → List ℕ → ℕ → ℕ → ℕ → ℕ → ℕ → ℕ → List ℕ → Fields
made a b c d e f g h i j = record { signature = a; version = b; id = c; blocks = d; nodes = e; sequence = f; epoch = g; state = h; count = i; rest = j }

same_made : (a a' : List ℕ) (b b' : ℕ) (c c' : List ℕ) (d d' e e' f f' g g' h h' i i' : ℕ) (j j' : List ℕ) → a ≡ a' → b ≡ b' → c ≡ c' → d ≡ d' → e ≡ e' → f ≡ f' → g ≡ g' → h ≡ h' → i ≡ i' → j ≡ j' → made a b c d e f g h i j ≡ made a' b' c' d' e' f' g' h' i' j'
same_made a a' b b' c c' d d' e e' f f' g g' h h' i i' j j' p q r s t u v w x y = cc

-- equal field by field
same_fields : (f g : Fields) → f.signature ≡ g.signature → f.version ≡ g.version → f.id ≡ g.id → f.blocks ≡ g.blocks → f.nodes ≡ g.nodes → f.sequence ≡ g.sequence → f.epoch ≡ g.epoch → f.state ≡ g.state → f.count ≡ g.count → f.rest ≡ g.rest → f ≡ g
same_fields f g a b c d e h i j k l = same_made f.signature g.signature f.version g.version f.id g.id f.blocks g.blocks f.nodes g.nodes f.sequence g.sequence f.epoch g.epoch f.state g.state f.count g.count f.rest g.rest a b c d e h i j k l

-- the fields of a page that begins with a spelling
pub fields_of-spelled : (f : Fields) (page s : List ℕ) → AreFields f → page ≡ spelled f ++ s → fields_of page ≡ f
unfolding spelled fields_of
fields_of-spelled f page s are is =
    let r9 : List ℕ = f.rest ++ s in
    let r8 : List ℕ = little_bytes 4 f.count ++ r9 in
    let r7 : List ℕ = little_bytes 4 f.state ++ r8 in
    let r6 : List ℕ = little_bytes 8 f.epoch ++ r7 in
    let r5 : List ℕ = little_bytes 8 f.sequence ++ r6 in
    let r4 : List ℕ = little_bytes 4 f.nodes ++ r5 in
    let r3 : List ℕ = little_bytes 4 f.blocks ++ r4 in
    let r2 : List ℕ = f.id ++ r3 in
    let r1 : List ℕ = little_bytes 4 f.version ++ r2 in
    let whole : page ≡ f.signature ++ r1 = is ∙ in_order-from_right f.signature (little_bytes 4 f.version) f.id (little_bytes 4 f.blocks) (little_bytes 4 f.nodes) (little_bytes 8 f.sequence) (little_bytes 8 f.epoch) (little_bytes 4 f.state) (little_bytes 4 f.count) f.rest s in
    let d8 : drop 8 page ≡ r1 = ap (drop 8) whole ∙ drop_at f.signature r1 8 are.signature in
    let d12 : drop 12 page ≡ r2 = after_part page (little_bytes 4 f.version) r2 8 4 refl d8 in
    let d28 : drop 28 page ≡ r3 = after_part page f.id r3 12 16 are.id d12 in
    let d32 : drop 32 page ≡ r4 = after_part page (little_bytes 4 f.blocks) r4 28 4 refl d28 in
    let d36 : drop 36 page ≡ r5 = after_part page (little_bytes 4 f.nodes) r5 32 4 refl d32 in
    let d44 : drop 44 page ≡ r6 = after_part page (little_bytes 8 f.sequence) r6 36 8 refl d36 in
    let d52 : drop 52 page ≡ r7 = after_part page (little_bytes 8 f.epoch) r7 44 8 refl d44 in
    let d56 : drop 56 page ≡ r8 = after_part page (little_bytes 4 f.state) r8 52 4 refl d52 in
    let d60 : drop 60 page ≡ r9 = after_part page (little_bytes 4 f.count) r9 56 4 refl d56 in
    same_fields (fields_of page) f
    (ap (take 8) whole ∙ take_at f.signature r1 8 are.signature)
    (ap (little_number 4) d8 ∙ number4_again f.version r2 are.version)
    (ap (take 16) d12 ∙ take_at f.id r3 16 are.id)
    (ap (little_number 4) d28 ∙ number4_again f.blocks r4 are.blocks)
    (ap (little_number 4) d32 ∙ number4_again f.nodes r5 are.nodes)
    (ap (little_number 8) d36 ∙ number8_again f.sequence r6 are.sequence)
    (ap (little_number 8) d44 ∙ number8_again f.epoch r7 are.epoch)
    (ap (little_number 4) d52 ∙ number4_again f.state r8 are.state)
    (ap (little_number 4) d56 ∙ number4_again f.count r9 are.count)
    (ap (take 4004) d60 ∙ take_at f.rest s 4004 are.rest)

-- a part, and then what the rest is
then : (x y z w : List ℕ) → x ≡ y ++ z → z ≡ w → x ≡ y ++ w
then x y z w is rest = is ∙ ap (λ (t : List ℕ). y ++ t) rest

-- what a seal covers is the spelling of the page's fields
pub spelled-fields_of : (page : List ℕ) → IsPage page → IsBytes page → page ≡ spelled (fields_of page) ++ drop 4064 page
unfolding spelled fields_of
spelled-fields_of page long are =
    let d56 = then (drop 56 page) (little_bytes 4 (number4_at 56 page)) (drop 60 page) _ (piece4 page 56 (omega arith) are) (piece page 60 4004) in
    let d52 = then (drop 52 page) (little_bytes 4 (number4_at 52 page)) (drop 56 page) _ (piece4 page 52 (omega arith) are) d56 in
    let d44 = then (drop 44 page) (little_bytes 8 (number8_at 44 page)) (drop 52 page) _ (piece8 page 44 (omega arith) are) d52 in
    let d36 = then (drop 36 page) (little_bytes 8 (number8_at 36 page)) (drop 44 page) _ (piece8 page 36 (omega arith) are) d44 in
    let d32 = then (drop 32 page) (little_bytes 4 (number4_at 32 page)) (drop 36 page) _ (piece4 page 32 (omega arith) are) d36 in
    let d28 = then (drop 28 page) (little_bytes 4 (number4_at 28 page)) (drop 32 page) _ (piece4 page 28 (omega arith) are) d32 in
    let d12 = then (drop 12 page) (take 16 (drop 12 page)) (drop 28 page) _ (piece page 12 16) d28 in
    let d8 = then (drop 8 page) (little_bytes 4 (number4_at 8 page)) (drop 12 page) _ (piece4 page 8 (omega arith) are) d12 in
    then page (take 8 page) (drop 8 page) _ (sym (take-append-drop 8 page)) d8
    ∙ sym (in_order-from_right (take 8 page) (little_bytes 4 (number4_at 8 page)) (take 16 (drop 12 page)) (little_bytes 4 (number4_at 28 page)) (little_bytes 4 (number4_at 32 page)) (little_bytes 8 (number8_at 36 page)) (little_bytes 8 (number8_at 44 page)) (little_bytes 4 (number4_at 52 page)) (little_bytes 4 (number4_at 56 page)) (take 4004 (drop 60 page)) (drop 4064 page))

length-in_order : (a b c d e f g h i j : List ℕ) → length (in_order a b c d e f g h i j) ≡ length a + length b + length c + length d + length e + length f + length g + length h + length i + length j
length-in_order a b c d e f g h i j = simp length-append

length-spelled : (f : Fields) → AreFields f → length (spelled f) ≡ 4064
unfolding spelled
length-spelled f are =
    let sum = length-in_order f.signature (little_bytes 4 f.version) f.id (little_bytes 4 f.blocks) (little_bytes 4 f.nodes) (little_bytes 8 f.sequence) (little_bytes 8 f.epoch) (little_bytes 4 f.state) (little_bytes 4 f.count) f.rest in
    sum ∙ omega (arith, are.signature, are.id, are.rest)

-- ---- states and zeros

are_zeros-replicate : (n : ℕ) → are_zeros (replicate n 0) ≡ true
are_zeros-replicate zero = refl
are_zeros-replicate (suc n) = are_zeros-replicate n

replicate-from_zeros : (bytes : List ℕ) → are_zeros bytes ≡ true → bytes ≡ replicate (length bytes) 0
replicate-from_zeros [] all = refl
replicate-from_zeros (b ∷ bytes) all =
    let parts = and_parts (eqb b 0) (are_zeros bytes) all in
    let here : b ≡ 0 = eqb-true b 0 parts.0 in
    ap (λ (x : ℕ). x ∷ bytes) here ∙ ap (λ (l : List ℕ). 0 ∷ l) (replicate-from_zeros bytes parts.1)

are_zeros-no_rest : are_zeros no_rest ≡ true
unfolding no_rest
are_zeros-no_rest = are_zeros-replicate 4004

length-no_rest : length no_rest ≡ 4004
unfolding no_rest
length-no_rest = length-replicate {A = ℕ} 4004 0

no_rest-from_zeros : (bytes : List ℕ) → length bytes ≡ 4004 → are_zeros bytes ≡ true → no_rest ≡ bytes
unfolding no_rest
no_rest-from_zeros bytes long all = sym (replicate-from_zeros bytes all ∙ ap (λ (n : ℕ). replicate n 0) long)

-- a state is that of its number and count
state_again : (s : State) → state_from (number_of s) (count_of s) ≡ s
state_again Closed = refl
state_again (Opened count) = refl
state_again Rebuilding = refl

-- the number and the count are those of their state, and the sequence is in its range
record IsStateOf (number count nodes sequence : ℕ) : Type 0 where
  number_is : number_of (state_from number count) ≡ number
  count_is : count_of (state_from number count) ≡ count
  within : count_of (state_from number count) ≤ nodes
  low : 0 < sequence
  high : sequence ≤ last_sequence (state_from number count)

positive : (n : ℕ) → eqb n 0 ≡ false → 0 < n
positive zero is = absurd (cc is)
positive (suc n) is = omega arith

state_of : (number count nodes sequence : ℕ) → ltb 2 number ≡ false → is_miscounted count nodes (eqb number 1) ≡ false → is_off sequence (eqb number 1) ≡ false → IsStateOf number count nodes sequence
state_of zero count nodes sequence known counted on =
    let none : count ≡ 0 = eqb-true count 0 (not-false _ counted) in
    let parts = or_parts (eqb sequence 0) (ltb 9223372036854775809 sequence) on in
    record { number_is = refl; count_is = sym none; within = omega arith; low = positive sequence parts.0; high = ltb-false 9223372036854775809 sequence parts.1 }
state_of (suc zero) count nodes sequence known counted on =
    let parts = or_parts (eqb sequence 0) (ltb 9223372036854775808 sequence) on in
    record { number_is = refl; count_is = refl; within = ltb-false nodes count counted; low = positive sequence parts.0; high = ltb-false 9223372036854775808 sequence parts.1 }
state_of (suc (suc zero)) count nodes sequence known counted on =
    let none : count ≡ 0 = eqb-true count 0 (not-false _ counted) in
    let parts = or_parts (eqb sequence 0) (ltb 9223372036854775809 sequence) on in
    record { number_is = refl; count_is = sym none; within = omega arith; low = positive sequence parts.0; high = ltb-false 9223372036854775809 sequence parts.1 }
state_of (suc (suc (suc n))) count nodes sequence known counted on = absurd (omega (arith, ltb-false 2 (suc (suc (suc n))) known))

-- ---- checks that fields pass

passed : (test : Bool) (why : Why) (next : Option Why) → refuse test why next ≡ None → (test ≡ false) × (next ≡ None)
passed true why next none = absurd (cc none)
passed false why next none = (refl, none)

passes : (test : Bool) (why : Why) (next : Option Why) → test ≡ false → next ≡ None → refuse test why next ≡ None
passes true why next is none = absurd (cc is)
passes false why next is none = none

-- fields that pass each check are those of the head that is read
pub record IsReadAs (f : Fields) : Type 0 where
  pub fields : fields_from (head_from f) ≡ f
  pub head : IsHead (head_from f)

pub head_from_passed : (f : Fields) → length f.id ≡ 16 → length f.rest ≡ 4004 → is_marked f ≡ true → fault_of f ≡ None → IsReadAs f
head_from_passed f id_long rest_long marked none =
    let marks = and_parts (bytes_eq f.signature signature) (eqb f.version 1) marked in
    let signature_is : f.signature ≡ signature = (bytes_eq-Decides f.signature signature).0 marks.0 in
    let version_is : f.version ≡ 1 = eqb-true f.version 1 marks.1 in
    let p1 = passed (ltb 262144 f.blocks) Blocks _ none in
    let p2 = passed (is_off_nodes f.nodes) Nodes _ p1.1 in
    let p3 = passed (ltb f.blocks (2 + 2 * f.nodes + 4)) Space _ p2.1 in
    let p4 = passed (are_zeros f.id) Id _ p3.1 in
    let p5 = passed (is_off f.sequence (eqb f.state 1)) Sequence _ p4.1 in
    let p6 = passed (leb 9223372036854775808 f.epoch) Epoch _ p5.1 in
    let p7 = passed (ltb 2 f.state) StateWhy _ p6.1 in
    let p8 = passed (is_miscounted f.count f.nodes (eqb f.state 1)) Count _ p7.1 in
    let p9 = passed (not (are_zeros f.rest)) Rest None p8.1 in
    let nodes_are = or_parts (ltb f.nodes 16) (ltb 65536 f.nodes) p2.0 in
    let state = state_of f.state f.count f.nodes f.sequence p7.0 p8.0 p5.0 in
    record {
      fields = same_fields (fields_from (head_from f)) f (sym signature_is) (sym version_is) refl refl refl refl refl state.number_is state.count_is (no_rest-from_zeros f.rest rest_long (not-false _ p9.0));
      head = record {
        range = record {
          blocks = ltb-false 262144 f.blocks p1.0;
          nodes_low = ltb-false f.nodes 16 nodes_are.0;
          nodes_high = ltb-false 65536 f.nodes nodes_are.1;
          space = ltb-false f.blocks (2 + 2 * f.nodes + 4) p3.0;
          id = p4.0;
          sequence_low = state.low;
          sequence_high = state.high;
          epoch = leb-false 9223372036854775808 f.epoch p6.0;
          count = state.within;
        };
        id_length = id_long;
      };
    }

state_passes : (s : State) → ltb 2 (number_of s) ≡ false
state_passes Closed = refl
state_passes (Opened count) = refl
state_passes Rebuilding = refl

sequence_passes : (s : State) (sequence : ℕ) → 0 < sequence → sequence ≤ last_sequence s → is_off sequence (eqb (number_of s) 1) ≡ false
sequence_passes Closed sequence low high = or_from (eqb sequence 0) (ltb 9223372036854775809 sequence) (ne_eqb sequence 0 (λ is. omega arith)) (le-ltb 9223372036854775809 sequence high)
sequence_passes (Opened count) sequence low high = or_from (eqb sequence 0) (ltb 9223372036854775808 sequence) (ne_eqb sequence 0 (λ is. omega arith)) (le-ltb 9223372036854775808 sequence high)
sequence_passes Rebuilding sequence low high = or_from (eqb sequence 0) (ltb 9223372036854775809 sequence) (ne_eqb sequence 0 (λ is. omega arith)) (le-ltb 9223372036854775809 sequence high)

count_passes : (s : State) (nodes : ℕ) → count_of s ≤ nodes → is_miscounted (count_of s) nodes (eqb (number_of s) 1) ≡ false
count_passes Closed nodes within = refl
count_passes (Opened count) nodes within = le-ltb nodes count within
count_passes Rebuilding nodes within = refl

pub fault_of-head : (h : Head) → IsHead h → fault_of (fields_from h) ≡ None
fault_of-head h is =
    let r = is.range in
    passes (ltb 262144 h.blocks) Blocks _ (le-ltb 262144 h.blocks r.blocks)
    (passes (is_off_nodes h.nodes) Nodes _ (or_from (ltb h.nodes 16) (ltb 65536 h.nodes) (le-ltb h.nodes 16 r.nodes_low) (le-ltb 65536 h.nodes r.nodes_high))
    (passes (ltb h.blocks (2 + 2 * h.nodes + 4)) Space _ (le-ltb h.blocks (2 + 2 * h.nodes + 4) r.space)
    (passes (are_zeros h.id) Id _ r.id
    (passes (is_off h.sequence (eqb (number_of h.state) 1)) Sequence _ (sequence_passes h.state h.sequence r.sequence_low r.sequence_high)
    (passes (leb 9223372036854775808 h.epoch) Epoch _ (lt-leb 9223372036854775808 h.epoch r.epoch)
    (passes (ltb 2 (number_of h.state)) StateWhy _ (state_passes h.state)
    (passes (is_miscounted (count_of h.state) h.nodes (eqb (number_of h.state) 1)) Count _ (count_passes h.state h.nodes r.count)
    (passes (not (are_zeros no_rest)) Rest None (not_from_true _ are_zeros-no_rest) refl))))))))

number_fits : (s : State) → number_of s < 2 ^ 32
number_fits Closed = omega arith
number_fits (Opened count) = omega arith
number_fits Rebuilding = omega arith

sequence_fits : (s : State) → last_sequence s ≤ 2 ^ 63 + 1
sequence_fits Closed = omega arith
sequence_fits (Opened count) = omega arith
sequence_fits Rebuilding = omega arith

pub AreFields-head : (h : Head) → IsHead h → AreFields (fields_from h)
AreFields-head h is =
    let r = is.range in
    let s = sequence_fits h.state in
    record {
      signature = refl;
      version = omega arith;
      id = is.id_length;
      blocks = omega (arith, r.blocks);
      nodes = omega (arith, r.nodes_high);
      sequence = omega (arith, r.sequence_high);
      epoch = omega (arith, r.epoch);
      state = number_fits h.state;
      count = omega (arith, r.count, r.nodes_high);
      rest = length-no_rest;
    }

head_again : (h : Head) → head_from (fields_from h) ≡ h
head_again h = ap (λ (s : State). let g : Head = record h { state = s } in g) (state_again h.state)

-- ---- the answer

good_answer : (z s m : Bool) (u j : HeadRead) → z ≡ false → s ≡ true → m ≡ true → cond z Blank (cond (not s) u (cond m j Alien)) ≡ j
good_answer true s m u j a b c = absurd (cc a)
good_answer false false m u j a b c = absurd (cc b)
good_answer false true false u j a b c = absurd (cc c)
good_answer false true true u j a b c = refl

answer_is_good : (z s m : Bool) (kept found : List ℕ) (j : HeadRead) (h : Head) → cond z Blank (cond (not s) (Unsealed kept found) (cond m j Alien)) ≡ Good h → (s ≡ true) × (m ≡ true) × (j ≡ Good h)
answer_is_good true s m kept found j h is = absurd (cc is)
answer_is_good false false m kept found j h is = absurd (cc is)
answer_is_good false true false kept found j h is = absurd (cc is)
answer_is_good false true true kept found j h is = (refl, refl, is)

judged_good : (o : Option Why) (g h : Head) → judged o g ≡ Good h → (o ≡ None) × (g ≡ h)
judged_good None g h is = (refl, cc is)
judged_good (Some why) g h is = absurd (cc is)

starts_unlike_zeros : (h : Head) → are_zeros (head_page h) ≡ false
unfolding head_page spelled
starts_unlike_zeros h = refl

-- a head is read from its page
pub head_read-head_page : (h : Head) → IsHead h → head_read (head_page h) ≡ Good h
unfolding head_page sealed_part seal_of
head_read-head_page h is =
    let front = spelled (fields_from h) in
    let are = AreFields-head h is in
    let long = length-spelled (fields_from h) are in
    let fields : fields_of (head_page h) ≡ fields_from h = fields_of-spelled (fields_from h) (head_page h) (sha256 front) are refl in
    let covered : sealed_part (head_page h) ≡ front = take_at front (sha256 front) 4064 long in
    let kept : seal_of (head_page h) ≡ sha256 front = drop_at front (sha256 front) 4064 long in
    let sealed : bytes_eq (seal_of (head_page h)) (sha256 (sealed_part (head_page h))) ≡ true = (bytes_eq-Decides (seal_of (head_page h)) (sha256 (sealed_part (head_page h)))).1 (kept ∙ ap sha256 (sym covered)) in
    let marked : is_marked (fields_of (head_page h)) ≡ true = ap is_marked fields ∙ refl in
    good_answer (are_zeros (head_page h)) (bytes_eq (seal_of (head_page h)) (sha256 (sealed_part (head_page h)))) (is_marked (fields_of (head_page h))) (Unsealed (seal_of (head_page h)) (sha256 (sealed_part (head_page h)))) (judged (fault_of (fields_of (head_page h))) (head_from (fields_of (head_page h)))) (starts_unlike_zeros h) sealed marked
    ∙ ap (λ (f : Fields). judged (fault_of f) (head_from f)) fields ∙ ap (λ (o : Option Why). judged o (head_from (fields_from h))) (fault_of-head h is) ∙ ap Good (head_again h)

-- and from no other page
pub head_page-from_read : (page : List ℕ) (h : Head) → IsPage page → IsBytes page → head_read page ≡ Good h → (page ≡ head_page h) × IsHead h
unfolding head_page sealed_part seal_of fields_of
head_page-from_read page h long are is =
    let parts = answer_is_good (are_zeros page) (bytes_eq (seal_of page) (sha256 (sealed_part page))) (is_marked (fields_of page)) (seal_of page) (sha256 (sealed_part page)) (judged (fault_of (fields_of page)) (head_from (fields_of page))) h is in
    let good = judged_good (fault_of (fields_of page)) (head_from (fields_of page)) h parts.2 in
    let id_long : length (take 16 (drop 12 page)) ≡ 16 = omega (arith, length-take 16 (drop 12 page), length-drop 12 page) in
    let rest_long : length (take 4004 (drop 60 page)) ≡ 4004 = omega (arith, length-take 4004 (drop 60 page), length-drop 60 page) in
    let read = head_from_passed (fields_of page) id_long rest_long parts.1 good.0 in
    let sealed : drop 4064 page ≡ sha256 (take 4064 page) = (bytes_eq-Decides (seal_of page) (sha256 (sealed_part page))).0 parts.0 in
    let whole = spelled-fields_of page long are in
    let front_long : length (spelled (fields_of page)) ≡ 4064 = omega (arith, ap length whole, length-append (spelled (fields_of page)) (drop 4064 page), length-drop 4064 page) in
    let covered : take 4064 page ≡ spelled (fields_of page) = ap (take 4064) whole ∙ take_at (spelled (fields_of page)) (drop 4064 page) 4064 front_long in
    let of_fields : page ≡ spelled (fields_of page) ++ sha256 (spelled (fields_of page)) = whole ∙ ap (λ (l : List ℕ). spelled (fields_of page) ++ l) (sealed ∙ ap sha256 covered) in (
      of_fields ∙ ap (λ (f : Fields). spelled f ++ sha256 (spelled f)) (sym read.fields) ∙ ap head_page good.1,
      subst IsHead good.1 read.head,
    )
