-- Paths: their text, which texts are paths, and their order.
use Rattle.std.specs.Prelude.{◌≡◌, ℕ, ◌-◌, Bool, true, false, not, ◌||◌, nat_lt, nat_eq, ◌==◌, if◌then◌else◌, List, [], ◌∷◌, length, drop, Option, Some, None, Result, Ok, Err, get_or}
use Rattle.std.specs.List.{flat_map, position}
use Rattle.std.specs.Str.Lossy.{utf8_valid_len}
use Rattle.std.specs.Ordering.{nat_cmp}
use Rattle.std.specs.declared.cmp.Ordering.{Ordering}
use Rattle.std.specs.Cmp.Lexicographic.{pointwise, slice_cmp}
use Rattle.vb_path.specs.declared.path.PathError.{PathError}
use Rattle.vb_path.specs.declared.path.PathError.TheVariants.{Empty, NotAbsolute, LongPath, NotUtf8, BadByte, TrailingSlash, Deep, EmptyPart, DotPart, LongPart, Memory}

-- the text of the parts: a slash before each, and a lone slash where there are none
abbrev pub text_of_path : List (List ℕ) → List ℕ
text_of_path [] = 47 ∷ []
text_of_path (part ∷ parts) = flat_map (λ p. 47 ∷ p) (part ∷ parts)

-- the pieces, the first of them with this byte in front
abbrev pub with_byte : ℕ → List (List ℕ) → List (List ℕ)
with_byte b [] = (b ∷ []) ∷ []
with_byte b (piece ∷ pieces) = (b ∷ piece) ∷ pieces

-- the pieces between the slashes of a text
abbrev pub pieces_of : List ℕ → List (List ℕ)
pieces_of [] = [] ∷ []
pieces_of (b ∷ bs) = if b == 47 then [] ∷ pieces_of bs else with_byte b (pieces_of bs)

-- the fault where the test holds, and else what comes next
abbrev pub fault_if : Bool → PathError → Option PathError → Option PathError
fault_if true fault next = Some fault
fault_if false fault next = next

-- the fault made of the place that was found, and else what comes next
abbrev pub fault_at : Option ℕ → (ℕ → PathError) → Option PathError → Option PathError
fault_at None fault next = next
fault_at (Some at) fault next = Some (fault at)

-- the first of two faults
abbrev pub first_fault : Option PathError → Option PathError → Option PathError
first_fault None next = next
first_fault (Some fault) next = Some fault

-- the place of the first byte that is zero
abbrev pub zero_byte_in : List ℕ → Option ℕ
zero_byte_in text = position (λ b. b == 0) text

-- the place from which on a text is no UTF-8
abbrev pub bad_utf8_in : List ℕ → Option ℕ
bad_utf8_in text = if utf8_valid_len text == length text then None else Some (utf8_valid_len text)

-- whether a part is `.` or `..`
abbrev pub is_dots : List ℕ → Bool
is_dots part = pointwise nat_eq part (46 ∷ []) || pointwise nat_eq part (46 ∷ 46 ∷ [])

-- what is wrong with a part
abbrev pub part_fault_of : List ℕ → Option PathError
part_fault_of part =
    fault_if (length part == 0) EmptyPart
    (fault_if (is_dots part) DotPart
    (fault_if (nat_lt 255 (length part)) (LongPart (length part)) None))

-- what is wrong with the first wrong part of these
abbrev pub parts_fault_of : List (List ℕ) → Option PathError
parts_fault_of [] = None
parts_fault_of (part ∷ parts) = first_fault (part_fault_of part) (parts_fault_of parts)

-- what is wrong with what follows a path's first slash; nothing follows it in the root
abbrev pub fault_after_slash : List ℕ → Option PathError
fault_after_slash text = if length text == 0 then None else
    fault_if (get_or text (length text - 1) 0 == 47) TrailingSlash
    (fault_if (nat_lt 32 (length (pieces_of text))) (Deep (length (pieces_of text)))
    (parts_fault_of (pieces_of text)))

-- why a text is no path: the first reason in this order
abbrev pub fault_of : List ℕ → Option PathError
fault_of text =
    fault_if (length text == 0) Empty
    (fault_if (not (get_or text 0 0 == 47)) NotAbsolute
    (fault_if (nat_lt 1024 (length text)) (LongPath (length text))
    (fault_at (bad_utf8_in text) NotUtf8
    (fault_at (zero_byte_in text) BadByte
    (fault_after_slash (drop 1 text))))))

-- the parts of what follows a path's first slash; nothing follows it in the root
abbrev pub parts_after_slash : List ℕ → List (List ℕ)
parts_after_slash text = if length text == 0 then [] else pieces_of text

-- the parts where there is no fault
abbrev pub parts_unless : Option PathError → List (List ℕ) → Result (List (List ℕ)) PathError
parts_unless None parts = Ok parts
parts_unless (Some fault) parts = Err fault

-- the parts of a text that is a path, and else the first reason why it is none
abbrev pub path_of : List ℕ → Result (List (List ℕ)) PathError
path_of text = parts_unless (fault_of text) (parts_after_slash (drop 1 text))

-- the parts are those of a path: their text reads as them
abbrev pub IsPath : List (List ℕ) → Type 0
IsPath parts = path_of (text_of_path parts) ≡ Ok parts

-- the result is the path of the text or its refusal, unless memory ran out
abbrev pub IsDueFrom : List ℕ → Result (List (List ℕ)) PathError → Type 0
IsDueFrom text (Ok parts) = path_of text ≡ Ok parts
IsDueFrom text (Err Memory) = Unit {0}
IsDueFrom text (Err reason) = path_of text ≡ Err reason

-- whether two paths are one
abbrev pub same_path : List (List ℕ) → List (List ℕ) → Bool
same_path p q = pointwise (pointwise nat_eq) p q

-- the order of paths: by their parts, and parts by their bytes
abbrev pub path_cmp : List (List ℕ) → List (List ℕ) → Ordering
path_cmp p q = slice_cmp (slice_cmp nat_cmp) p q
