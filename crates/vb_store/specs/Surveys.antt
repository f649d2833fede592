-- Trees, before their map pages are read.
use Rattle.std.specs.Prelude.{◌≡◌, ℕ, List, length, Result, Ok, Err}
use Rattle.std.specs.List.{All}
use Rattle.vb_head.specs.declared.head.Head.{Head}
use Rattle.vb_index.specs.Indexes.{IndexState}
use Rattle.vb_journal.specs.declared.recover_error.RecoverError.{RecoverError}
use Rattle.vb_inode.specs.declared.node.Node.{Node}
use Rattle.vb_store.specs.declared.mount_parts.Homes.{Homes}
use Rattle.vb_store.specs.declared.surveys.Survey.{Survey}
use Rattle.vb_store.specs.MountStages.{home_of}
use Rattle.vb_store.specs.Maps.{IsMapPage, IsOfFile}
use Rattle.vb_store.specs.Metadata.{maps_in, no_claims, node_checked}
use Rattle.vb_store.specs.Mounting.{IsDue}
use Rattle.vb_store.specs.Namings.{AreBlanksNamed, AreNamedOnce, IsIndexOf}

-- a tree, none of whose data places was named, and its map pages
pub record IsSurvey (head : Head) (due : Result IndexState RecoverError) (s : Survey) : Type 0 where
  pub index : due ≡ Ok s.index
  pub claims : s.claims ≡ no_claims head
  pub maps : s.maps.items ≡ maps_in s.index.nodes
  pub each : All IsMapPage s.maps.items
  pub files : All (IsOfFile s.index.nodes) s.maps.items
  pub of_head : IsIndexOf head s.index
  pub once : AreNamedOnce s.index.nodes s.claims s.maps.items
  pub blanks : AreBlanksNamed s.index.nodes s.maps.items

-- the answer is such a tree, or the refusal that is due, or memory ran out
abbrev pub IsSurveyed : Head → Result IndexState RecoverError → Result Survey RecoverError → Type 0
IsSurveyed head due (Ok s) = IsSurvey head due s
IsSurveyed head due (Err error) = IsDue due (Err error)

-- the home that is due reads as this node
abbrev pub IsHomeRead : (ℕ → List ℕ) → Homes → Node → Type 0
IsHomeRead reads h node = node_checked h.head.nodes (length h.nodes) (home_of reads h.slots.items h.head.nodes (length h.nodes)) ≡ Ok node
