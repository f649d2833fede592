-- The pages that a run holds.
use Rattle.std.specs.Prelude.{◌≡◌, ◌⊎◌, ℕ, List}
use Rattle.std.specs.List.{Contains, flat_map}
use mathlib.Core.List.{IsPrefix}
use Rattle.vb_tree.specs.declared.tree.TreeEntry.{TreeEntry}
use Rattle.vb_tree.specs.Contents.{pages_of}
use Rattle.vb_hist.specs.declared.entry.Entry.{Entry}
use Rattle.vb_hist.specs.Legal.{Opening, folder_of}

-- all pages of a tree's files, in path and page order
abbrev pub pages_in : List TreeEntry → List (List ℕ)
pages_in tree = flat_map (λ entry. pages_of entry.bytes) tree

-- a run holds a page: of the tree that the cloud showed at its opening, or of the folder after a front of its history
abbrev pub IsPageHeld : Opening → List Entry → List ℕ → Type 0
IsPageHeld o history page =
    Contains (pages_in o.published_tree) page ⊎ ((front : List Entry) × IsPrefix front history × Contains (pages_in (folder_of o front)) page)

-- different pages that a run holds have different digests: those with one digest are one page
abbrev pub ArePagesApart : (List ℕ → List ℕ) → Opening → List Entry → Type 0
ArePagesApart digest o history =
    (one other : List ℕ) → IsPageHeld o history one → IsPageHeld o history other → digest one ≡ digest other → one ≡ other
