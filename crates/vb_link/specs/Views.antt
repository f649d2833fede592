-- What a link shows of a cloud.
use Rattle.std.specs.Prelude.{◌≡◌, ℕ, ◌<◌, ◌≤◌, nat_lt, if◌then◌else◌, List, [], ◌∷◌, length, map, replicate, slice_get, Option, Some, None, option_and_then}
use Rattle.vb_tree.specs.declared.tree.TreeEntry.{TreeEntry}
use Rattle.vb_tree.specs.Trees.{IsTree, data_pages_of}
use Rattle.vb_cloud.specs.Machine.{CloudState}
use Rattle.vb_cloud.specs.Pages.{page_at, digests_of}
use Rattle.vb_link.specs.declared.view.ViewEntry.{ViewEntry}
use Rattle.vb_link.specs.declared.view.ViewInfo.{ViewInfo}

-- a view as a link shows it: the cloud's id, the view's epoch, and what is told of its entries
pub record LinkView : Type 0 where
  pub id : List ℕ
  pub epoch : ℕ
  pub entries : List ViewEntry

-- what is told of an entry of a tree
abbrev pub told_entry : TreeEntry → ViewEntry
told_entry e = record { path = e.path; kind = e.kind; length = length e.bytes; digests = digests_of e.bytes }

-- what a link shows of a cloud
abbrev pub view_of : CloudState → LinkView
view_of k = record { id = k.id; epoch = k.epoch; entries = map told_entry k.tree }

-- what is told of a whole view
abbrev pub info_of : LinkView → ViewInfo
info_of v = record { id = v.id; epoch = v.epoch; entries = length v.entries }

-- the entry of a view at a place
abbrev pub entry_in : ℕ → LinkView → Option ViewEntry
entry_in i v = slice_get v.entries i

-- the digest of a page of the entry at a place
abbrev pub digest_in : ℕ → ℕ → LinkView → Option (List ℕ)
digest_in i number v = option_and_then (λ e. slice_get e.digests number) (slice_get v.entries i)

-- the page of some bytes with this number, where they have so many
abbrev pub page_among : ℕ → List ℕ → Option (List ℕ)
page_among number bytes = if nat_lt number (data_pages_of (length bytes)) then Some (page_at number bytes) else None

-- the page of the entry at a place of what a cloud shows
abbrev pub page_in : ℕ → ℕ → CloudState → Option (List ℕ)
page_in i number k = option_and_then (λ e. page_among number e.bytes) (slice_get k.tree i)

-- an entry with as many zeros as it is long
abbrev pub outline : ViewEntry → TreeEntry
outline e = record { path = e.path; kind = e.kind; bytes = replicate e.length 0 }

-- each of these entries has a digest for each of its pages
abbrev pub AllHaveDigests : List ViewEntry → Type 0
AllHaveDigests [] = Unit {0}
AllHaveDigests (e ∷ es) = (length e.digests ≡ data_pages_of e.length) × AllHaveDigests es

-- a view that a link can show: an id of 16 bytes, an epoch below 2^63, and at most 65,535 entries. With zeros for their
-- bytes they are those of a tree: strictly in path order, none the root, each in a listed folder, no file longer than
-- 44,433,408 bytes, and a folder of no bytes. Each has a digest for each page.
pub record IsLinkView (v : LinkView) : Type 0 where
  pub id_whole : length v.id ≡ 16
  pub small_epoch : v.epoch < 9223372036854775808
  pub few : length v.entries ≤ 65535
  pub listed : IsTree (map outline v.entries)
  pub digests : AllHaveDigests v.entries
