-- Contents: what a write, a truncate and a read make of a file's bytes, and their pages.
use Rattle.std.specs.Prelude.{ℕ, ◌+◌, ◌-◌, ◌*◌, max, ◌==◌, if◌then◌else◌, List, ◌++◌, length, take, drop, replicate, map}
use Rattle.std.specs.List.{flat_map, range_with_len}
use Rattle.vb_tree.specs.Trees.{data_pages_of}

-- the bytes after a write at an offset: a gap past the end is filled with zeros, and a write of no bytes changes nothing
abbrev pub written_over : ℕ → List ℕ → List ℕ → List ℕ
written_over offset bytes old = if length bytes == 0 then old else
    take offset old ++ replicate (offset - length old) 0 ++ bytes ++ drop (offset + length bytes) old

-- a file's length after a write of so many bytes at an offset
abbrev pub new_length : ℕ → ℕ → ℕ → ℕ
new_length offset count old = if count == 0 then old else max old (offset + count)

-- the bytes cut to a length, or extended to it by zeros
abbrev pub truncated_to : ℕ → List ℕ → List ℕ
truncated_to len old = take len old ++ replicate (len - length old) 0

-- the bytes from an offset on, at most so many
abbrev pub part_of : ℕ → ℕ → List ℕ → List ℕ
part_of offset most bytes = take most (drop offset bytes)

-- the k-th page of the bytes, counted from 0, filled up with zeros past their end
abbrev pub page_of : List ℕ → ℕ → List ℕ
page_of bytes k = truncated_to 4096 (drop (4096 * k) bytes)

-- the pages of the bytes, in order: as many as their length takes
abbrev pub pages_of : List ℕ → List (List ℕ)
pages_of bytes = map (page_of bytes) (range_with_len 0 (data_pages_of (length bytes)))

-- the bytes that pages hold, where a file has so many of them
abbrev pub bytes_held : ℕ → List (List ℕ) → List ℕ
bytes_held len pages = take len (flat_map (λ page. page) pages)
