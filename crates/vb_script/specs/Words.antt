-- Words: the pieces of a text, and what a word stands for.
use Rattle.std.specs.Prelude.{ℕ, ◌+◌, ◌*◌, ◌^◌, Bool, not, ◌&&◌, ◌||◌, nat_lt, nat_le, ◌==◌, if◌then◌else◌, List, [], ◌∷◌, length, get_or, Option, Some, None, Result, Ok, Err}
use Rattle.std.specs.List.{slice_split, list_all}
use Rattle.std.specs.Result.{result_ok}
use Rattle.std.specs.Char.{is_ascii_digit}
use Rattle.std.specs.Str.Parse.{digits_value}
use Rattle.hex.specs.Hex.{decode_of, hex_digit_value}
use Rattle.vb_path.specs.Paths.{path_of}
use Rattle.vb_script.specs.declared.error.LineKind.TheVariants as kind
use Rattle.vb_script.specs.Steps.{Fault, Wrong, ◌>>=◌, or_wrong}

-- the lines of a script, between its line ends. What follows the last line end is a line, too: where nothing does, it is empty
abbrev pub lines_of : List ℕ → List (List ℕ)
lines_of bytes = slice_split (λ b. b == 10) bytes

-- the words of a line, between its spaces
abbrev pub words_of : List ℕ → List (List ℕ)
words_of line = slice_split (λ b. b == 32) line

-- the words after a line's first, of what follows that word's space
abbrev pub words_in : Option (List ℕ) → List (List ℕ)
words_in None = []
words_in (Some rest) = words_of rest

-- the next of the words, which is there and isn't empty, and the words after it
abbrev pub next_word : List (List ℕ) → Result (List ℕ × List (List ℕ)) Fault
next_word [] = Err (Wrong kind.Words)
next_word ([] ∷ words) = Err (Wrong kind.Words)
next_word ((b ∷ bs) ∷ words) = Ok (b ∷ bs, words)

-- no words are left
abbrev pub no_word : List (List ℕ) → Result Unit Fault
no_word [] = Ok tt
no_word (word ∷ words) = Err (Wrong kind.Words)

-- exactly one word
unfoldable pub one_word : List (List ℕ) → Result (List ℕ) Fault
one_word words = do
  first ← next_word words
  end ← no_word first.1
  Ok first.0

-- exactly two words
unfoldable pub two_words : List (List ℕ) → Result (List ℕ × List ℕ) Fault
two_words words = do
  first ← next_word words
  second ← next_word first.1
  end ← no_word second.1
  Ok (first.0, second.0)

-- exactly three words
unfoldable pub three_words : List (List ℕ) → Result (List ℕ × List ℕ × List ℕ) Fault
three_words words = do
  first ← next_word words
  second ← next_word first.1
  third ← next_word second.1
  end ← no_word third.1
  Ok (first.0, second.0, third.0)

-- whether a word has one to twenty decimal digits and nothing else, and no zero before others
abbrev pub is_numeral : List ℕ → Bool
is_numeral word =
    nat_le 1 (length word) && nat_le (length word) 20 && list_all is_ascii_digit word
    && (length word == 1 || not (get_or word 0 0 == 48))

-- the number that a word stands for, below 2^64
unfoldable pub number_of : List ℕ → Option ℕ
number_of word = if is_numeral word && nat_lt (digits_value 10 word) (2 ^ 64) then Some (digits_value 10 word) else None

-- NUMBER
abbrev pub a_number : List ℕ → Result ℕ Fault
a_number word = or_wrong kind.Number (number_of word)

-- the bytes that a word of hexadecimal digits stands for, two digits of either case a byte
unfoldable pub bytes_of : List ℕ → Option (List ℕ)
bytes_of word = result_ok (decode_of word)

-- HEX
abbrev pub some_bytes : List ℕ → Result (List ℕ) Fault
some_bytes word = or_wrong kind.Hex (bytes_of word)

-- the byte of two hexadecimal digits of either case
abbrev pub byte_of_digits : Option ℕ → Option ℕ → Option ℕ
byte_of_digits (Some high) (Some low) = Some (16 * high + low)
byte_of_digits high low = None

-- the byte that stands at the front of three bytes: `%` and two hexadecimal digits are one
abbrev pub escape_of : ℕ → ℕ → ℕ → Option ℕ
escape_of first high low = if first == 37 then byte_of_digits (hex_digit_value high) (hex_digit_value low) else None

-- a byte that stands before the rest, which is another where there was an escape
abbrev pub byte_before : Option ℕ → ℕ → List ℕ → List ℕ → List ℕ
byte_before (Some byte) first after_escape after_first = byte ∷ after_escape
byte_before None first after_escape after_first = first ∷ after_first

-- the bytes that a word stands for: `%` and two hexadecimal digits stand for a byte, and every other byte stands for itself
abbrev pub unescaped : List ℕ → List ℕ
unescaped [] = []
unescaped (a ∷ []) = a ∷ []
unescaped (a ∷ b ∷ []) = a ∷ b ∷ []
unescaped (a ∷ b ∷ c ∷ rest) = byte_before (escape_of a b c) a (unescaped rest) (unescaped (b ∷ c ∷ rest))

-- the path that a word stands for
unfoldable pub path_in : List ℕ → Option (List (List ℕ))
path_in word = result_ok (path_of (unescaped word))

-- PATH
abbrev pub a_path : List ℕ → Result (List (List ℕ)) Fault
a_path word = or_wrong kind.Path (path_in word)
