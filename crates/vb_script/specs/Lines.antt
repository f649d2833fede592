-- Lines of a writer's section: what each says, or what is wrong with it.
use Rattle.std.specs.Prelude.{ℕ, ◌-◌, ◌^◌, ◌&&◌, nat_lt, nat_le, List, length, Result, Ok}
use Rattle.vb_tree.specs.declared.operation.Op.{Op}
use Rattle.vb_tree.specs.declared.operation.Op.TheVariants as op
use Rattle.vb_hist.specs.declared.script.Line.{Line}
use Rattle.vb_hist.specs.declared.script.Line.TheVariants as lines
use Rattle.vb_script.specs.declared.error.LineKind.TheVariants as kind
use Rattle.vb_script.specs.Steps.{Fault, ◌>>=◌, provided}
use Rattle.vb_script.specs.Verbs.{Verb}
use Rattle.vb_script.specs.Verbs as verbs
use Rattle.vb_script.specs.Words.{one_word, two_words, three_words, no_word, a_number, some_bytes, a_path}

-- `P`, the one word of a line
unfoldable pub one_path : List (List ℕ) → Result (List (List ℕ)) Fault
one_path words = do
  word ← one_word words
  a_path word

-- a line that performs an operation
abbrev pub performs : Op → Result Line Fault
performs operation = Ok (lines.Perform operation)

-- `write P OFFSET HEX`: an offset below 2^63 - 65,536, and 1 to 65,536 bytes
unfoldable pub write_line : List (List ℕ) → Result Line Fault
write_line words = do
  three ← three_words words
  path ← a_path three.0
  offset ← a_number three.1
  bytes ← some_bytes three.2
  provided kind.Range (nat_lt offset (2 ^ 63 - 65536) && nat_le 1 (length bytes) && nat_le (length bytes) 65536) (performs (op.Write path offset bytes))

-- `truncate P LENGTH`: a length below 2^63
unfoldable pub truncate_line : List (List ℕ) → Result Line Fault
truncate_line words = do
  two ← two_words words
  path ← a_path two.0
  len ← a_number two.1
  provided kind.Range (nat_lt len (2 ^ 63)) (performs (op.Truncate path len))

-- `read P OFFSET LENGTH`: an offset below 2^63, and a length of at most 65,536
unfoldable pub read_line : List (List ℕ) → Result Line Fault
read_line words = do
  three ← three_words words
  path ← a_path three.0
  offset ← a_number three.1
  len ← a_number three.2
  provided kind.Range (nat_lt offset (2 ^ 63) && nat_le len 65536) (performs (op.Read path offset len))

-- `rename P Q`
unfoldable pub rename_line : List (List ℕ) → Result Line Fault
rename_line words = do
  two ← two_words words
  source ← a_path two.0
  target ← a_path two.1
  performs (op.Rename source target)

-- `freeze`
unfoldable pub freeze_line : List (List ℕ) → Result Line Fault
freeze_line words = do
  nothing ← no_word words
  Ok lines.Freeze

-- `create P`, `mkdir P`, `rm P`, `rmdir P`, `ls P`, `stat P`: an operation on one path
abbrev pub path_line : (List (List ℕ) → Op) → List (List ℕ) → Result Line Fault
path_line operation words = do
  path ← one_path words
  performs (operation path)

-- the line that a verb and the words after it make
abbrev pub line_of : Verb → List (List ℕ) → Result Line Fault
line_of verbs.Create words = path_line op.Create words
line_of verbs.MakeDir words = path_line op.MakeDir words
line_of verbs.Write words = write_line words
line_of verbs.Truncate words = truncate_line words
line_of verbs.Rename words = rename_line words
line_of verbs.Remove words = path_line op.Remove words
line_of verbs.RemoveDir words = path_line op.RemoveDir words
line_of verbs.Read words = read_line words
line_of verbs.List words = path_line op.List words
line_of verbs.Stat words = path_line op.Stat words
line_of verbs.Freeze words = freeze_line words
