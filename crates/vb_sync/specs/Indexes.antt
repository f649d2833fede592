-- What a listing keeps beside its entries.
use Rattle.std.specs.Prelude.{◌≡◌, ℕ, ◌≤◌, List, length, Some, None, if◌then◌else◌}
use Rattle.std.specs.Option.{option_or}
use Rattle.std.specs.Map.{lookup}
use Rattle.std.specs.Str.{bytes_eq}
use Rattle.std.specs.Global.{Vec}
use Rattle.vb_block.specs.declared.digest.Digest.{Digest}
use Rattle.vb_link.specs.declared.view.ViewEntry.{ViewEntry}
use Rattle.vb_link.specs.Views.{IsLinkView, info_of}
use Rattle.vb_link.specs.declared.view.ViewInfo.{ViewInfo}
use Rattle.vb_sync.specs.declared.published_page.PublishedPage.{PublishedPage}
use Rattle.vb_sync.specs.declared.published_page.FileKey.{FileKey}
use Rattle.vb_sync.specs.Published.{first_page, first_with_digests, first_file, place_in, same_digests, same_key}

-- the entries of the three maps
abbrev pub Pages : Type 0
Pages = List (List ℕ × PublishedPage)

abbrev pub Contents : Type 0
Contents = List (Vec Digest × ℕ)

abbrev pub Files : Type 0
Files = List (FileKey × ℕ)

-- the key of the files of the same digests as the one at a place, and of a length
abbrev pub file_key : ℕ → ℕ → FileKey
file_key first length = record { first = first; length = length }

-- the maps of a listing: each digest has its first page, each list of digests its first file, and each key of files that
-- are there its first file. No key names a file that isn't there.
pub record IsIndex (entries : List ViewEntry) (pages : Pages) (contents : Contents) (files : Files) : Type 0 where
  pub pages_found : (digest : List ℕ) → lookup (bytes_eq digest) pages ≡ first_page digest entries
  pub contents_found : (digests : List (List ℕ)) → lookup (λ key. same_digests digests key.items) contents ≡ first_with_digests digests entries
  pub files_found : (digests : List (List ℕ)) (first size : ℕ) → first_with_digests digests entries ≡ Some first
      → lookup (same_key (file_key first size)) files ≡ first_file size digests entries
  pub fresh : (first size : ℕ) → length entries ≤ first → lookup (same_key (file_key first size)) files ≡ None

-- the pages of an entry with these digests were noted, each digest that had no page yet with its first one
abbrev pub NotesPages : Pages → Pages → ℕ → List (List ℕ) → Type 0
NotesPages old new i digests = (digest : List ℕ) → lookup (bytes_eq digest) new ≡ option_or (lookup (bytes_eq digest) old) (place_in i digest digests)

-- a file of these digests was noted, where none had them yet
abbrev pub NotesContents : Contents → Contents → ℕ → List (List ℕ) → Type 0
NotesContents old new i digests = (other : List (List ℕ)) → lookup (λ key. same_digests other key.items) new
    ≡ option_or (lookup (λ key. same_digests other key.items) old) (if same_digests other digests then Some i else None)

-- a file of this key was noted, where none had it yet
abbrev pub NotesFile : Files → Files → ℕ → FileKey → Type 0
NotesFile old new i key = (other : FileKey) → lookup (same_key other) new ≡ option_or (lookup (same_key other) old) (if same_key other key then Some i else None)

-- what a table keeps: the info is that of its view, a link can show the view, and the maps are those of its entries
pub record IsTable (info : ViewInfo) (entries : List ViewEntry) (pages : Pages) (contents : Contents) (files : Files) : Type 0 where
  pub told : info_of (record { id = info.id; epoch = info.epoch; entries = entries }) ≡ info
  pub valid : IsLinkView (record { id = info.id; epoch = info.epoch; entries = entries })
  pub index : IsIndex entries pages contents files
