-- What is found in the entries of a published view: the first page of a digest, and the first file of some contents.
use Rattle.std.specs.Prelude.{◌≡◌, ℕ, ◌+◌, ◌==◌, Bool, true, false, ◌&&◌, List, [], ◌∷◌, Option, Some, None, option_and_then, slice_get}
use Rattle.std.specs.Option.{option_map, option_or}
use Rattle.std.specs.List.{position_from}
use Rattle.std.specs.Str.{bytes_eq}
use Rattle.std.specs.Cmp.Lexicographic.{pointwise}
use Rattle.vb_tree.specs.declared.tree.Kind.{Kind}
use Rattle.vb_tree.specs.declared.tree.Kind.TheVariants.{Folder, File}
use Rattle.vb_link.specs.declared.view.ViewEntry.{ViewEntry}
use Rattle.vb_sync.specs.declared.published_page.PublishedPage.{PublishedPage}
use Rattle.vb_sync.specs.declared.published_page.FileKey.{FileKey}

-- ---- pages

-- the place of a page of the entry at a place
abbrev pub page_of : ℕ → ℕ → PublishedPage
page_of i number = record { entry = i; page = number }

-- the place of the first of these digests that is the given one, as a page of the entry at a place
abbrev pub place_in : ℕ → List ℕ → List (List ℕ) → Option PublishedPage
place_in i digest digests = option_map (page_of i) (position_from (bytes_eq digest) 0 digests)

-- the place of the first page of a digest, where the first of the entries stands at this place
abbrev pub first_page_from : ℕ → List ℕ → List ViewEntry → Option PublishedPage
first_page_from i digest [] = None
first_page_from i digest (e ∷ es) = option_or (place_in i digest e.digests) (first_page_from (i + 1) digest es)

-- the place of the first page of a digest, by entries in path order and then by pages
abbrev pub first_page : List ℕ → List ViewEntry → Option PublishedPage
first_page digest entries = first_page_from 0 digest entries

-- the digest of a page of the entry at a place
abbrev pub digest_at : ℕ → ℕ → List ViewEntry → Option (List ℕ)
digest_at i number entries = option_and_then (λ e. slice_get e.digests number) (slice_get entries i)

-- a digest is that of a page of these entries
abbrev pub IsPublished : List ℕ → List ViewEntry → Type 0
IsPublished digest entries = (i number : ℕ) × (digest_at i number entries ≡ Some digest)

-- ---- files

-- whether it is a file
abbrev pub is_file_kind : Kind → Bool
is_file_kind Folder = false
is_file_kind File = true

-- whether two lists of digests are equal
abbrev pub same_digests : List (List ℕ) → List (List ℕ) → Bool
same_digests a b = pointwise bytes_eq a b

-- whether an entry is a file of these digests
abbrev pub has_digests : List (List ℕ) → ViewEntry → Bool
has_digests digests e = is_file_kind e.kind && same_digests digests e.digests

-- whether an entry is a file of this length and these digests
abbrev pub has_contents : ℕ → List (List ℕ) → ViewEntry → Bool
has_contents length digests e = has_digests digests e && length == e.length

-- the place of the first file of these digests
abbrev pub first_with_digests : List (List ℕ) → List ViewEntry → Option ℕ
first_with_digests digests entries = position_from (has_digests digests) 0 entries

-- the place of the first file of this length and these digests, in path order
abbrev pub first_file : ℕ → List (List ℕ) → List ViewEntry → Option ℕ
first_file length digests entries = position_from (has_contents length digests) 0 entries

-- whether two keys are equal
abbrev pub same_key : FileKey → FileKey → Bool
same_key a b = a.first == b.first && a.length == b.length
