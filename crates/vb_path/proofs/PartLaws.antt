-- The parts of a path are parts.
use Rattle.std.proofs.Common.{◌≡◌, ℕ, zero, suc, ◌+◌, ◌-◌, ◌<◌, ◌≤◌, Bool, true, false, cond, not, ◌&&◌, ◌==◌, List, [], ◌∷◌, ◌++◌, length, get_or, take, drop, position, MatchOption, Option, Some, None, Result, Ok, refl, sym, ap, subst, ◌∙◌, arith, inl, inr}
use Rattle.std.specs.Prelude.{is_none, nat_lt}
use Rattle.std.specs.List.{flat_map, position_or_len, AllByRecursion}
use Rattle.std.specs.Str.{IsUtf8, is_utf8, IsAscii}
use Rattle.std.specs.Str.Lossy.{utf8_valid_len, valid_len_up_to}
use Rattle.std.proofs.lemmas.Bool.{false≢true, eqb-true, ltb-false, le-ltb}
use Rattle.std.proofs.lemmas.List.{length-append, length-drop, length-take, get_or-append_right, get_or-take, get_or-drop, take_all, append-nil}
use Rattle.std.proofs.lemmas.List.Quantifiers.{position-Some}
use Rattle.std.proofs.lemmas.Str.{IsUtf8-from_is_utf8, IsUtf8-take, IsUtf8-drop, IsUtf8-nil, IsCharBoundary-before_ascii, IsCharBoundary-after_ascii, IsUtf8-append, IsUtf8-from_ascii}
use Rattle.vb_path.specs.declared.path.PathError.{PathError}
use Rattle.vb_path.specs.declared.path.PathError.TheVariants.{Empty, NotAbsolute, LongPath, NotUtf8, BadByte, TrailingSlash, Deep, EmptyPart, DotPart, LongPart}
use Rattle.vb_path.specs.Paths.{path_of, pieces_of, with_byte, bad_utf8_in, zero_byte_in, part_fault_of, parts_fault_of, first_fault, fault_of, fault_if, fault_at, fault_after_slash, parts_after_slash, parts_unless, text_of_path, IsPath, is_dots}
use Rattle.vb_path.specs.Parts.{is_part, slash_place_in, IsPart, MakePath}
use Rattle.std.proofs.lemmas.Bool.Decides.{eqb_tells}
use Rattle.vb_path.proofs.PartBounds.{length-part}
use Rattle.vb_path.proofs.Pieces.{pieces-position}
use Rattle.vb_path.proofs.ReadText.{fault_if-none, no_bad_utf8}

-- no byte is this one
abbrev Lacks : ℕ → List ℕ → Type 0
Lacks byte bytes = (k : ℕ) → k < length bytes → (get_or bytes k 0 == byte) ≡ false

lacks_more : (byte b : ℕ) (bytes : List ℕ) → (b == byte) ≡ false → Lacks byte bytes → Lacks byte (b ∷ bytes)
lacks_more byte b bytes e h zero lt = e
lacks_more byte b bytes e h (suc k) lt = h k (omega arith)

lacks_to_end : (byte : ℕ) (bytes : List ℕ) → length bytes ≤ position_or_len (λ b. b == byte) bytes → Lacks byte bytes
lacks_to_end byte [] h = λ k lt. absurd (omega arith)
lacks_to_end byte (b ∷ bytes) h = by_test (λ le. lacks_to_end byte bytes le) (b == byte) refl h where
  by_test : (length bytes ≤ position_or_len (λ x. x == byte) bytes → Lacks byte bytes) → (v : Bool) → (b == byte) ≡ v → length (b ∷ bytes) ≤ cond (not v) (1 + position_or_len (λ x. x == byte) bytes) 0 → Lacks byte (b ∷ bytes)
  by_test rest true e le = absurd (omega arith)
  by_test rest false e le = lacks_more byte b bytes e (rest (omega arith))

test_of_none : (t : Bool) (n : ℕ) → cond t (Some n) None ≡ None → t ≡ false
test_of_none true n e = absurd cc
test_of_none false n e = refl

lacks_from_none : (byte : ℕ) (bytes : List ℕ) → position (λ b. b == byte) bytes ≡ None → Lacks byte bytes
lacks_from_none byte bytes e =
    let n = position_or_len (λ b. b == byte) bytes in
    lacks_to_end byte bytes (ltb-false n (length bytes) (test_of_none (nat_lt n (length bytes)) n e))

none_from_lacks : (byte : ℕ) (bytes : List ℕ) → Lacks byte bytes → position (λ b. b == byte) bytes ≡ None
none_from_lacks byte bytes h = by_place (position (λ b. b == byte) bytes) refl where
  by_place : (o : Option ℕ) → position (λ b. b == byte) bytes ≡ o → o ≡ None
  by_place None e = refl
  by_place (Some i) e =
      let at = position-Some (λ b. b == byte) bytes i 0 e in
      absurd (false≢true (sym (h i at.0) ∙ at.1))

lacks_take : (byte i : ℕ) (bytes : List ℕ) → Lacks byte bytes → Lacks byte (take i bytes)
lacks_take byte i bytes h k lt =
    let below : k < i = omega (arith, length-take i bytes) in
    let within : k < length bytes = omega (arith, length-take i bytes) in
    ap (λ b. b == byte) (get_or-take i bytes k 0 below) ∙ h k within

lacks_drop : (byte i : ℕ) (bytes : List ℕ) → Lacks byte bytes → Lacks byte (drop i bytes)
lacks_drop byte i bytes h k lt =
    let within : i + k < length bytes = omega (arith, length-drop i bytes) in
    ap (λ b. b == byte) (get_or-drop i bytes k 0) ∙ h (i + k) within

-- a piece of a path's text, whatever its form
abbrev IsPiece : List ℕ → Type 0
IsPiece bytes = IsUtf8 bytes × Lacks 0 bytes × Lacks 47 bytes

none_lacking : (byte : ℕ) → Lacks byte []
none_lacking byte k lt = absurd (omega arith)

pieces_within : (n : ℕ) (text : List ℕ) → length text ≤ n → IsUtf8 text → Lacks 0 text → AllByRecursion IsPiece (pieces_of text)
pieces_within zero [] le utf8 clean = ((IsUtf8-nil, none_lacking 0, none_lacking 47), tt)
pieces_within zero (b ∷ bytes) le utf8 clean = absurd (omega arith)
pieces_within (suc n) text le utf8 clean =
    by_place (λ t short u c. pieces_within n t short u c) (position (λ b. b == 47) text) refl (pieces-position text) where
      by_place : ((t : List ℕ) → length t ≤ n → IsUtf8 t → Lacks 0 t → AllByRecursion IsPiece (pieces_of t)) → (o : Option ℕ) → position (λ b. b == 47) text ≡ o → MatchOption o (pieces_of text ≡ text ∷ []) (λ i. (i < length text) × (pieces_of text ≡ take i text ∷ pieces_of (drop (i + 1) text))) → AllByRecursion IsPiece (pieces_of text)
      by_place again None e one = subst (AllByRecursion IsPiece) (sym one) ((utf8, clean, lacks_from_none 47 text e), tt)
      by_place again (Some i) e parts =
          let at = position-Some (λ b. b == 47) text i 0 e in
          let slash : get_or text i 0 ≡ 47 = eqb-true (get_or text i 0) 47 at.1 in
          let before : Lacks 47 (take i text) = λ k lt. (let below : k < i = omega (arith, length-take i text) in ap (λ b. b == 47) (get_or-take i text k 0 below) ∙ at.2 k below) in
          let first : IsPiece (take i text) = (IsUtf8-take text i utf8 (IsCharBoundary-before_ascii text i at.0 (omega arith)), lacks_take 0 i text clean, before) in
          let rest = again (drop (i + 1) text) (omega (arith, length-drop (i + 1) text)) (IsUtf8-drop text (i + 1) utf8 (IsCharBoundary-after_ascii text i utf8 at.0 (omega arith))) (lacks_drop 0 (i + 1) text clean) in
          subst (AllByRecursion IsPiece) (sym parts.1) (first, rest)

-- a piece of good form is a part
part_from_piece : (bytes : List ℕ) → IsPiece bytes → part_fault_of bytes ≡ None → IsPart bytes
unfolding is_part
part_from_piece bytes piece form =
    let all : Bool → Bool → Bool → Bool → Bool = λ a b c d. a && b && c && d in
    ap (λ o. all (is_none o) (is_none (bad_utf8_in bytes)) (is_none (zero_byte_in bytes)) (is_none (slash_place_in bytes))) form
    ∙ ap (λ o. all true (is_none o) (is_none (zero_byte_in bytes)) (is_none (slash_place_in bytes))) (no_bad_utf8 bytes piece.0)
    ∙ ap (λ o. all true true (is_none o) (is_none (slash_place_in bytes))) (none_from_lacks 0 bytes piece.1)
    ∙ ap (λ o. all true true true (is_none o)) (none_from_lacks 47 bytes piece.2)

first_none : (a b : Option PathError) → first_fault a b ≡ None → (a ≡ None) × (b ≡ None)
first_none None b e = (refl, e)
first_none (Some fault) b e = absurd cc

parts_from_pieces : (pieces : List (List ℕ)) → AllByRecursion IsPiece pieces → parts_fault_of pieces ≡ None → AllByRecursion IsPart pieces
parts_from_pieces [] h e = tt
parts_from_pieces (piece ∷ pieces) h e =
    let forms = first_none (part_fault_of piece) (parts_fault_of pieces) e in
    (part_from_piece piece h.0 forms.0, parts_from_pieces pieces h.1 forms.1)

-- a text that is UTF-8 up to its end is UTF-8
front_is_utf8 : (bytes : List ℕ) (n : ℕ) → IsUtf8 (take (valid_len_up_to bytes n) bytes)
front_is_utf8 bytes zero = IsUtf8-nil
front_is_utf8 bytes (suc n) = by_test (front_is_utf8 bytes n) (is_utf8 (take (suc n) bytes)) refl where
  by_test : IsUtf8 (take (valid_len_up_to bytes n) bytes) → (t : Bool) → is_utf8 (take (suc n) bytes) ≡ t → IsUtf8 (take (cond t (suc n) (valid_len_up_to bytes n)) bytes)
  by_test rest true e = IsUtf8-from_is_utf8 (take (suc n) bytes) e
  by_test rest false e = rest

test_of_no_place : (t : Bool) (n : ℕ) → cond t None (Some n) ≡ None → t ≡ true
test_of_no_place true n e = refl
test_of_no_place false n e = absurd cc

IsUtf8-from_none : (bytes : List ℕ) → bad_utf8_in bytes ≡ None → IsUtf8 bytes
unfolding utf8_valid_len
IsUtf8-from_none bytes e =
    let n = valid_len_up_to bytes (length bytes) in
    let whole : n ≡ length bytes = eqb-true n (length bytes) (test_of_no_place (n == length bytes) n e) in
    subst IsUtf8 (take_all n bytes (omega arith)) (front_is_utf8 bytes (length bytes))

fault_at-none : (o : Option ℕ) (fault : ℕ → PathError) (next : Option PathError) → fault_at o fault next ≡ None → (o ≡ None) × (next ≡ None)
fault_at-none None fault next e = (refl, e)
fault_at-none (Some at) fault next e = absurd cc

abbrev ok_parts : List (List ℕ) → Result (List (List ℕ)) PathError
ok_parts parts = Ok parts

same_parts : (a b : List (List ℕ)) → ok_parts a ≡ ok_parts b → a ≡ b
same_parts a b e = cc

unless_ok : (fault : Option PathError) (given parts : List (List ℕ)) → parts_unless fault given ≡ Ok parts → (fault ≡ None) × (given ≡ parts)
unless_ok None given parts e = (refl, same_parts given parts e)
unless_ok (Some fault) given parts e = absurd cc

-- what follows the first slash of a text without a fault: UTF-8, with no zero byte
abbrev slash_faults : List ℕ → Option PathError
slash_faults text = fault_after_slash (drop 1 text)

abbrev zero_faults : List ℕ → Option PathError
zero_faults text = fault_at (zero_byte_in text) BadByte (slash_faults text)

abbrev utf8_faults : List ℕ → Option PathError
utf8_faults text = fault_at (bad_utf8_in text) NotUtf8 (zero_faults text)

abbrev length_faults : List ℕ → Option PathError
length_faults text = fault_if (nat_lt 1024 (length text)) (LongPath (length text)) (utf8_faults text)

abbrev start_faults : List ℕ → Option PathError
start_faults text = fault_if (not (get_or text 0 0 == 47)) NotAbsolute (length_faults text)

true_from_not : (t : Bool) → not t ≡ false → t ≡ true
true_from_not true e = refl
true_from_not false e = absurd (false≢true (sym e))

pieces_of_rest : (text : List ℕ) → fault_of text ≡ None → AllByRecursion IsPiece (pieces_of (drop 1 text)) × (fault_after_slash (drop 1 text) ≡ None)
pieces_of_rest text e =
    let some = fault_if-none (length text == 0) Empty (start_faults text) e in
    let start = fault_if-none (not (get_or text 0 0 == 47)) NotAbsolute (length_faults text) some.1 in
    let short = fault_if-none (nat_lt 1024 (length text)) (LongPath (length text)) (utf8_faults text) start.1 in
    let utf8 = fault_at-none (bad_utf8_in text) NotUtf8 (zero_faults text) short.1 in
    let clean = fault_at-none (zero_byte_in text) BadByte (slash_faults text) utf8.1 in
    let whole = IsUtf8-from_none text utf8.0 in
    let slash : get_or text 0 0 ≡ 47 = eqb-true (get_or text 0 0) 47 (true_from_not (get_or text 0 0 == 47) start.0) in
    let longer : 0 < length text = some_bytes text slash in
    let rest = IsUtf8-drop text 1 whole (IsCharBoundary-after_ascii text 0 whole longer (omega arith)) in
    (pieces_within (length text) (drop 1 text) (omega (arith, length-drop 1 text)) rest (lacks_drop 0 1 text (lacks_from_none 0 text clean.0)), clean.1) where
      some_bytes : (bytes : List ℕ) → get_or bytes 0 0 ≡ 47 → 0 < length bytes
      some_bytes [] h = absurd (omega arith)
      some_bytes (b ∷ bytes) h = omega arith

abbrev deep_faults : List ℕ → Option PathError
deep_faults text = fault_if (nat_lt 32 (length (pieces_of text))) (Deep (length (pieces_of text))) (parts_fault_of (pieces_of text))

parts_of_rest : (rest : List ℕ) → AllByRecursion IsPiece (pieces_of rest) → fault_after_slash rest ≡ None → AllByRecursion IsPart (parts_after_slash rest)
parts_of_rest rest pieces =
    elim (length rest == 0) as (λ (t : Bool). cond t None (fault_if (get_or rest (length rest - 1) 0 == 47) TrailingSlash (deep_faults rest)) ≡ None → AllByRecursion IsPart (cond t [] (pieces_of rest))) [
      | true ↦ λ e. tt
      | false ↦ λ e.
          let slash = fault_if-none (get_or rest (length rest - 1) 0 == 47) TrailingSlash (deep_faults rest) e in
          let deep = fault_if-none (nat_lt 32 (length (pieces_of rest))) (Deep (length (pieces_of rest))) (parts_fault_of (pieces_of rest)) slash.1 in
          parts_from_pieces (pieces_of rest) pieces deep.1
    ]

-- the parts of a path are parts
pub parts_are_parts : (parts : List (List ℕ)) → IsPath parts → AllByRecursion IsPart parts
parts_are_parts parts e =
    let text = text_of_path parts in
    let read = unless_ok (fault_of text) (parts_after_slash (drop 1 text)) parts e in
    let rest = pieces_of_rest text read.0 in
    subst (AllByRecursion IsPart) read.1 (parts_of_rest (drop 1 text) rest.0 rest.1)

none_at : (o : Option ℕ) → is_none o ≡ true → o ≡ None
none_at None e = refl
none_at (Some n) e = absurd (false≢true e)

no_fault : (o : Option PathError) → is_none o ≡ true → o ≡ None
no_fault None e = refl
no_fault (Some fault) e = absurd (false≢true e)

both : (a b : Bool) → (a && b) ≡ true → (a ≡ true) × (b ≡ true)
both true b e = (refl, e)
both false b e = absurd (false≢true e)

-- what a part is
record PartFacts (bytes : List ℕ) : Type 0 where
  form : part_fault_of bytes ≡ None
  utf8 : IsUtf8 bytes
  clean : Lacks 0 bytes
  whole : slash_place_in bytes ≡ None

facts_of_part : (bytes : List ℕ) → IsPart bytes → PartFacts bytes
unfolding is_part
facts_of_part bytes e =
    let form = is_none (part_fault_of bytes) in
    let utf8 = is_none (bad_utf8_in bytes) in
    let zeros = is_none (zero_byte_in bytes) in
    let d = both (form && utf8 && zeros) (is_none (slash_place_in bytes)) e in
    let c = both (form && utf8) zeros d.0 in
    let b = both form utf8 c.0 in
    record {
      form = no_fault (part_fault_of bytes) b.0;
      utf8 = IsUtf8-from_none bytes (none_at (bad_utf8_in bytes) b.1);
      clean = lacks_from_none 0 bytes (none_at (zero_byte_in bytes) c.1);
      whole = none_at (slash_place_in bytes) d.1;
    }

no_fault_if : (t : Bool) (fault : PathError) (next : Option PathError) → t ≡ false → fault_if t fault next ≡ next
no_fault_if false fault next e = refl
no_fault_if true fault next e = absurd (false≢true (sym e))

no_fault_at : (o : Option ℕ) (fault : ℕ → PathError) (next : Option PathError) → o ≡ None → fault_at o fault next ≡ next
no_fault_at None fault next e = refl
no_fault_at (Some at) fault next e = absurd cc

-- a part has no slash, and so is one piece
one_piece : (part : List ℕ) → slash_place_in part ≡ None → pieces_of part ≡ part ∷ []
one_piece part e =
    subst (λ (o : Option ℕ). MatchOption o (pieces_of part ≡ part ∷ []) (λ i. (i < length part) × (pieces_of part ≡ take i part ∷ pieces_of (drop (i + 1) part)))) e (pieces-position part)

test_is_false : (a b : ℕ) → (a ≡ b → ⊥) → (a == b) ≡ false
test_is_false a b apart = elim (eqb_tells a b) [ inl w ↦ absurd (apart w.1) | inr w ↦ w.0 ]

-- the parts, each behind a slash
abbrev slashed : List (List ℕ) → List ℕ
slashed parts = flat_map (λ p. 47 ∷ p) parts

-- what follows the first slash of a path's text
abbrev after_first : List ℕ → List (List ℕ) → List ℕ
after_first part rest = part ++ slashed rest

lacks_rest : (byte b : ℕ) (bytes : List ℕ) → Lacks byte (b ∷ bytes) → Lacks byte bytes
lacks_rest byte b bytes h k lt = h (suc k) (omega arith)

lacks_append : (byte : ℕ) (xs ys : List ℕ) → Lacks byte xs → Lacks byte ys → Lacks byte (xs ++ ys)
lacks_append byte [] ys h h' = h'
lacks_append byte (x ∷ xs) ys h h' = lacks_more byte x (xs ++ ys) (h zero (omega arith)) (lacks_append byte xs ys (lacks_rest byte x xs h) h')

-- a part ends at the slash behind it
piece_before : (part more : List ℕ) → Lacks 47 part → pieces_of (part ++ 47 ∷ more) ≡ part ∷ pieces_of more
piece_before [] more h = refl
piece_before (b ∷ bytes) more h =
    ap (λ (t : Bool). cond t ([] ∷ pieces_of (bytes ++ 47 ∷ more)) (with_byte b (pieces_of (bytes ++ 47 ∷ more)))) (h zero (omega arith))
    ∙ ap (with_byte b) (piece_before bytes more (lacks_rest 47 b bytes h))

-- the pieces of parts behind slashes are the parts
pieces_again : (part : List ℕ) (rest : List (List ℕ)) → PartFacts part → AllByRecursion PartFacts rest → pieces_of (after_first part rest) ≡ part ∷ rest
pieces_again part [] facts all = ap pieces_of (append-nil part) ∙ one_piece part facts.whole
pieces_again part (next ∷ rest) facts all =
    piece_before part (after_first next rest) (lacks_from_none 47 part facts.whole)
    ∙ ap (λ (ps : List (List ℕ)). part ∷ ps) (pieces_again next rest all.0 all.1)

clean_again : (part : List ℕ) (rest : List (List ℕ)) → PartFacts part → AllByRecursion PartFacts rest → Lacks 0 (47 ∷ after_first part rest)
clean_again part [] facts all = subst (λ (bytes : List ℕ). Lacks 0 (47 ∷ bytes)) (sym (append-nil part)) (lacks_more 0 47 part refl facts.clean)
clean_again part (next ∷ rest) facts all =
    lacks_more 0 47 (part ++ slashed (next ∷ rest)) refl (lacks_append 0 part (slashed (next ∷ rest)) facts.clean (clean_again next rest all.0 all.1))

slash_is_ascii : IsAscii (47 ∷ [])
slash_is_ascii zero = omega arith
slash_is_ascii (suc k) = omega arith

utf8_again : (parts : List (List ℕ)) → AllByRecursion PartFacts parts → IsUtf8 (slashed parts)
utf8_again [] all = IsUtf8-nil
utf8_again (part ∷ rest) all =
    IsUtf8-append (47 ∷ part) (slashed rest) (IsUtf8-append (47 ∷ []) part (IsUtf8-from_ascii (47 ∷ []) slash_is_ascii) all.0.utf8) (utf8_again rest all.1)

-- a part has bytes
some_bytes : (part : List ℕ) → PartFacts part → 0 < length part
some_bytes part facts =
    let form = (fault_if-none (length part == 0) EmptyPart (fault_if (is_dots part) DotPart (fault_if (nat_lt 255 (length part)) (LongPart (length part)) None)) facts.form).0 in
    counted part form where
      counted : (bytes : List ℕ) → (length bytes == 0) ≡ false → 0 < length bytes
      counted [] h = absurd (false≢true (sym h))
      counted (b ∷ bytes) h = omega arith

last_behind : (xs ys : List ℕ) → 0 < length ys → get_or (xs ++ ys) (length (xs ++ ys) - 1) 0 ≡ get_or ys (length ys - 1) 0
last_behind xs ys h =
    let at : length (xs ++ ys) - 1 - length xs ≡ length ys - 1 = omega (arith, length-append xs ys) in
    get_or-append_right xs ys (length xs) (length (xs ++ ys) - 1) 0 refl (omega (arith, length-append xs ys))
    ∙ ap (λ (n : ℕ). get_or ys n 0) at

-- the text of parts doesn't end with a slash
no_last_slash : (part : List ℕ) (rest : List (List ℕ)) → PartFacts part → AllByRecursion PartFacts rest → (get_or (after_first part rest) (length (after_first part rest) - 1) 0 == 47) ≡ false
no_last_slash part [] facts all =
    subst (λ (bytes : List ℕ). (get_or bytes (length bytes - 1) 0 == 47) ≡ false) (sym (append-nil part)) (lacks_from_none 47 part facts.whole (length part - 1) (omega (arith, some_bytes part facts)))
no_last_slash part (next ∷ rest) facts all =
    let more = after_first next rest in
    let some : 0 < length more = omega (arith, length-append next (slashed rest), some_bytes next all.0) in
    ap (λ (b : ℕ). b == 47) (last_behind part (47 ∷ more) (omega arith) ∙ last_behind (47 ∷ []) more some)
    ∙ no_last_slash next rest all.0 all.1

good_forms : (parts : List (List ℕ)) → AllByRecursion PartFacts parts → parts_fault_of parts ≡ None
good_forms [] all = refl
good_forms (part ∷ parts) all =
    ap (λ (o : Option PathError). first_fault o (parts_fault_of parts)) all.0.form ∙ good_forms parts all.1

facts_of_parts : (parts : List (List ℕ)) → AllByRecursion IsPart parts → AllByRecursion PartFacts parts
facts_of_parts [] all = tt
facts_of_parts (part ∷ parts) all = (facts_of_part part all.0, facts_of_parts parts all.1)

-- parts behind slashes read as themselves
read_again : (part : List ℕ) (rest : List (List ℕ)) → PartFacts part → AllByRecursion PartFacts rest → length (part ∷ rest) ≤ 32 → length (47 ∷ after_first part rest) ≤ 1024 → path_of (47 ∷ after_first part rest) ≡ Ok (part ∷ rest)
read_again part rest facts all few short =
    let after = after_first part rest in
    let text = 47 ∷ after in
    let some : (length after == 0) ≡ false = test_is_false (length after) 0 (λ h. omega (arith, h, length-append part (slashed rest), some_bytes part facts)) in
    let pieces = pieces_again part rest facts all in
    let shallow : nat_lt 32 (length (pieces_of after)) ≡ false = ap (λ (ps : List (List ℕ)). nat_lt 32 (length ps)) pieces ∙ le-ltb 32 (length (part ∷ rest)) few in
    let parts_fault : parts_fault_of (pieces_of after) ≡ None = ap parts_fault_of pieces ∙ good_forms (part ∷ rest) (facts, all) in
    let after_fault : fault_after_slash after ≡ None = ap (λ (t : Bool). cond t None (fault_if (get_or after (length after - 1) 0 == 47) TrailingSlash (deep_faults after))) some
    ∙ no_fault_if (get_or after (length after - 1) 0 == 47) TrailingSlash (deep_faults after) (no_last_slash part rest facts all)
    ∙ no_fault_if (nat_lt 32 (length (pieces_of after))) (Deep (length (pieces_of after))) (parts_fault_of (pieces_of after)) shallow
    ∙ parts_fault in
    let none : fault_of text ≡ None = no_fault_if (length text == 0) Empty (start_faults text) (test_is_false (length text) 0 (λ h. omega (arith, h)))
    ∙ no_fault_if (nat_lt 1024 (length text)) (LongPath (length text)) (utf8_faults text) (le-ltb 1024 (length text) short)
    ∙ no_fault_at (bad_utf8_in text) NotUtf8 (zero_faults text) (no_bad_utf8 text (utf8_again (part ∷ rest) (facts, all)))
    ∙ no_fault_at (zero_byte_in text) BadByte (slash_faults text) (none_from_lacks 0 text (clean_again part rest facts all))
    ∙ after_fault in
    ap (λ (o : Option PathError). parts_unless o (parts_after_slash after)) none
    ∙ ap (λ (t : Bool). ok_parts (cond t [] (pieces_of after))) some ∙ ap ok_parts pieces

-- the root is a path
root_reads : path_of (47 ∷ []) ≡ Ok []
root_reads =
    let text : List ℕ = 47 ∷ [] in
    let none : fault_of text ≡ None = no_fault_at (bad_utf8_in text) NotUtf8 (zero_faults text) (no_bad_utf8 text (IsUtf8-from_ascii (47 ∷ []) slash_is_ascii)) in
    ap (λ (o : Option PathError). parts_unless o []) none

-- parts that may be those of a path are
pub parts_make_path : (parts : List (List ℕ)) → MakePath parts → IsPath parts
parts_make_path [] m = root_reads
parts_make_path (part ∷ rest) m =
    read_again part rest (facts_of_part part m.valid.0) (facts_of_parts rest m.valid.1) m.few m.short

-- a part alone is a path
pub part_alone : (part : List ℕ) → IsPart part → IsPath (part ∷ [])
part_alone part e =
    let bounds = length-part part e in
    parts_make_path (part ∷ []) (record { valid = (e, tt); few = omega arith; short = omega (arith, ap length (append-nil part), bounds) })

few_after : (text : List ℕ) → fault_after_slash text ≡ None → length (parts_after_slash text) ≤ 32
few_after text =
    elim (length text == 0) as (λ (t : Bool). cond t None (fault_if (get_or text (length text - 1) 0 == 47) TrailingSlash (deep_faults text)) ≡ None → length (cond t [] (pieces_of text)) ≤ 32) [
      | true ↦ λ e. omega arith
      | false ↦ λ e.
          let slash = fault_if-none (get_or text (length text - 1) 0 == 47) TrailingSlash (deep_faults text) e in
          ltb-false 32 (length (pieces_of text)) (fault_if-none (nat_lt 32 (length (pieces_of text))) (Deep (length (pieces_of text))) (parts_fault_of (pieces_of text)) slash.1).0
    ]

-- the parts of a path are at most 32, and its text has at most 1,024 bytes
pub path_makes_parts : (parts : List (List ℕ)) → IsPath parts → MakePath parts
path_makes_parts parts e =
    let text = text_of_path parts in
    let read = unless_ok (fault_of text) (parts_after_slash (drop 1 text)) parts e in
    let some = fault_if-none (length text == 0) Empty (start_faults text) read.0 in
    let start = fault_if-none (not (get_or text 0 0 == 47)) NotAbsolute (length_faults text) some.1 in
    let short = fault_if-none (nat_lt 1024 (length text)) (LongPath (length text)) (utf8_faults text) start.1 in
    record {
      valid = parts_are_parts parts e;
      few = subst (λ (ps : List (List ℕ)). length ps ≤ 32) read.1 (few_after (drop 1 text) (pieces_of_rest text read.0).1);
      short = ltb-false 1024 (length text) short.0;
    }

pub ruleset part_laws = (parts_are_parts, part_alone, parts_make_path, path_makes_parts)
