-- Messages, made of plain values. A value that no message may name has another in its place, and an entry whose path is none
-- has Seal: the plan of a tree, at an epoch below 2^63, never has one.
use Rattle.std.specs.Prelude.{◌≡◌, ℕ, ◌^◌, Bool, true, false, nat_lt, nat_le, List, [], ◌∷◌, length, Option, Some, None, Result, Ok, Err}
use Rattle.std.proofs.Common.{refl, ap}
use Rattle.std.proofs.lemmas.Bool.{ltb-true, leb-true, false≢true}
use Rattle.vb_path.specs.Paths.{same_path, path_of, text_of_path}
use Rattle.vb_path.proofs.PathLaws.{same_path-Decides}
use Rattle.vb_path.specs.declared.path.PathError.{PathError}
use Rattle.vb_tree.specs.Trees.{is_root}
use Rattle.vb_tree.specs.declared.tree.Kind.{Kind}
use Rattle.vb_msg.specs.declared.message.Msg.{Msg}
use Rattle.vb_msg.specs.declared.message.Msg.TheVariants.{Seal, Enter, Keep}
use Rattle.vb_msg.specs.declared.ranges.Epoch.{Epoch}
use Rattle.vb_msg.specs.declared.ranges.EntryPath.{EntryPath}
use Rattle.vb_msg.specs.declared.ranges.PartBytes.{PartBytes}

-- this epoch where the test holds, and else 0
abbrev pub epoch_if : (n : ℕ) (t : Bool) → nat_lt n (2 ^ 63) ≡ t → Epoch
epoch_if n true h = record { number = n; small = ltb-true n (2 ^ 63) h }
epoch_if n false h = record { number = 0; small = ltb-true 0 (2 ^ 63) refl }

-- the epoch of a number; 0 stands for one from 2^63 on
unfoldable pub epoch_named : ℕ → Epoch
epoch_named n = epoch_if n (nat_lt n (2 ^ 63)) refl

-- this part where both tests hold, and else a zero byte
abbrev pub part_if : (bytes : List ℕ) (some few : Bool) → nat_le 1 (length bytes) ≡ some → nat_le (length bytes) 4096 ≡ few → PartBytes
part_if bytes true true some few = record { bytes = bytes; some = leb-true 1 (length bytes) some; few = leb-true (length bytes) 4096 few }
part_if bytes some few h g = record { bytes = 0 ∷ []; some = leb-true 1 1 refl; few = leb-true 1 4096 refl }

-- the part of these bytes; a zero byte stands for none and for more than 4,096
unfoldable pub part_named : List ℕ → PartBytes
part_named bytes = part_if bytes (nat_le 1 (length bytes)) (nat_le (length bytes) 4096) refl refl

-- whether what a text reads as is this path
abbrev pub reads_as : List (List ℕ) → Result (List (List ℕ)) PathError → Bool
reads_as path (Ok parts) = same_path parts path
reads_as path (Err fault) = false

pub reads_as-true : (path : List (List ℕ)) (read : Result (List (List ℕ)) PathError) → reads_as path read ≡ true → read ≡ Ok path
reads_as-true path (Ok parts) h = ap (λ (p : List (List ℕ)). Ok p) ((same_path-Decides parts path).0 h)
reads_as-true path (Err fault) h = absurd (false≢true h)

-- this path where it is one and not the root
abbrev pub path_if : (path : List (List ℕ)) (is root : Bool) → reads_as path (path_of (text_of_path path)) ≡ is → is_root path ≡ root → Option EntryPath
path_if path true false is root = Some (record { path = path; valid = reads_as-true path (path_of (text_of_path path)) is; below = root })
path_if path is root h g = None

-- the path of an entry, where it is one and not the root
unfoldable pub path_named : List (List ℕ) → Option EntryPath
path_named path = path_if path (reads_as path (path_of (text_of_path path))) (is_root path) refl refl

-- the message by which an entry enters; Seal where it is None
abbrev pub enter_named : Option EntryPath → Kind → Msg
enter_named None kind = Seal
enter_named (Some path) kind = Enter path kind

-- the message by which a file is kept; Seal where one of the paths is None
abbrev pub keep_named : Option EntryPath → Option EntryPath → Msg
keep_named (Some path) (Some origin) = Keep path origin
keep_named path origin = Seal
