-- The plan of a frozen view: its pages are those that the view keeps in memory, and the next nodes have the view's pages.
use Rattle.std.proofs.Common.{◌≡◌, ℕ, zero, suc, ◌+◌, ◌<◌, ◌==◌, true, false, List, [], ◌∷◌, ◌++◌, length, map, slice_get, unwrap_or, cond, Bool, All, Option, None, Some, IsSome, is_some, refl, sym, ap, ◌∙◌, arith, subst}
use Rattle.std.specs.Prelude.{Contains}
use Rattle.std.specs.Option.{option_and_then, option_map}
use Rattle.std.proofs.lemmas.Bool.{eqb-true, false≢true}
use Rattle.std.proofs.lemmas.List.Elements.{All-append, All-contains, All-cons, All-nil}
use Rattle.std.proofs.lemmas.Option.{slice_get_within}
use Rattle.sha2.specs.Sha256.{sha256}
use Rattle.vb_block.specs.declared.digest.Ref.{Ref}
use Rattle.vb_inode.specs.declared.next_view.NextNode.{NextNode}
use Rattle.vb_inode.specs.declared.next_view.PageSource.{PageSource}
use Rattle.vb_inode.specs.declared.next_view.PageSource.TheVariants.{Kept, Fresh}
use Rattle.vb_inode.specs.declared.node.Node.{Node}
use Rattle.vb_inode.specs.declared.node.NodeKind.{NodeKind}
use Rattle.vb_inode.specs.declared.node.NodeKind.TheVariants.{Free, Folder, File}
use Rattle.vb_inode.specs.Nodes.{is_free, may_have_length}
use Rattle.vb_tree.specs.Trees.{data_pages_of}
use Rattle.vb_index.specs.declared.held.Held.{Held}
use Rattle.vb_index.specs.Nodes.{held_at, is_file_node, refs_of}
use Rattle.vb_pages.specs.declared.kept.KeptPage.{KeptPage}
use Rattle.vb_pages.specs.declared.kept.PageKey.{PageKey}
use Rattle.vb_pages.specs.Tables.{kept_page}
use Rattle.vb_active.specs.Views.{ref_at}
use Rattle.vb_frozen.specs.declared.entry.FrozenEntry.{FrozenEntry}
use Rattle.vb_frozen.specs.Orders.{entry_in}
use Rattle.vb_frozen.specs.Sources.{next_node, next_of, next_root, source_of, sources_from}
use Rattle.vb_plan.specs.Conditions.{IsNextNode}
use Rattle.vb_plan.specs.Laws.{slots_next}
use Rattle.vb_plan.specs.Plans.{Basis, all_pages, data_page, data_refs, map_image, maps_due, plan_of, taken_by, taken_by_data, pages_next}
use Rattle.vb_plan.specs.Sources.{page_written, pages_written, taken_after}
use Rattle.vb_plan.specs.Standing.{HasReference, StandsNext}
use Rattle.vb_plan.proofs.Listed.{found-in, found-passes}
use Rattle.vb_plan.proofs.Stood.{node-stands}
use Rattle.vb_store.specs.Views.{HasNoneBegun, IsView, ViewState}
use Rattle.vb_store.proofs.NextPlanned.{basis_at, can_plan, can_view_next}
use Rattle.vb_local.specs.Ties.{ref_in, FrozenState, IsFrozenOver, IsFrozenUnder, IsKeptIn}
use Rattle.vb_local.proofs.FewEntries.{over-few}

-- ---- the pages that are planned

-- those of a file
data-kept : (pages : List (PageKey × KeptPage)) (slot : ℕ) (free : List ℕ) (taken number : ℕ) (refs : List Ref) → All (IsKeptIn pages) (pages_written (data_page slot) free taken number (sources_from pages slot number refs))
data-kept pages slot free taken number [] = All-nil (IsKeptIn pages)
data-kept pages slot free taken number (r ∷ refs) = by (λ t. data-kept pages slot free t (number + 1) refs) (kept_page pages slot number) refl where
  by : ((t : ℕ) → All (IsKeptIn pages) (pages_written (data_page slot) free t (number + 1) (sources_from pages slot (number + 1) refs))) → (o : Option (List ℕ)) → kept_page pages slot number ≡ o → All (IsKeptIn pages) (page_written (data_page slot number) free taken (source_of o r) ++ pages_written (data_page slot) free (taken_after taken (source_of o r)) (number + 1) (sources_from pages slot (number + 1) refs))
  by rest None e = rest taken
  by rest (Some bytes) e =
      All-cons (IsKeptIn pages) _ (pages_written (data_page slot) free (taken + 1) (number + 1) (sources_from pages slot (number + 1) refs))
      (ap (option_map sha256) e)
      (rest (taken + 1))

-- map pages are others
maps-kept : (pages : List (PageKey × KeptPage)) (all : List Ref) (free : List ℕ) (taken number : ℕ) (sources : List PageSource) → All (IsKeptIn pages) (pages_written (map_image all) free taken number sources)
maps-kept pages all free taken number [] = All-nil (IsKeptIn pages)
maps-kept pages all free taken number (Kept r ∷ sources) = maps-kept pages all free taken (number + 1) sources
maps-kept pages all free taken number (Fresh digest ∷ sources) =
    All-cons (IsKeptIn pages) _ (pages_written (map_image all) free (taken + 1) (number + 1) sources) tt (maps-kept pages all free (taken + 1) (number + 1) sources)

-- the pages of a node have the sources of some references
record IsSourced (pages : List (PageKey × KeptPage)) (x : NextNode) : Type 0 where
  refs : List Ref
  are : x.pages ≡ sources_from pages x.node.slot 0 refs

entries-sourced : (pages : List (PageKey × KeptPage)) (order : List FrozenEntry) → All (IsSourced pages) (map (next_node pages) order)
entries-sourced pages [] = All-nil (IsSourced pages)
entries-sourced pages (e ∷ order) = All-cons (IsSourced pages) (next_node pages e) (map (next_node pages) order) (record { refs = e.refs; are = refl }) (entries-sourced pages order)

next-sourced : (pages : List (PageKey × KeptPage)) (order : List FrozenEntry) → All (IsSourced pages) (next_of order pages)
next-sourced pages order = All-cons (IsSourced pages) next_root (map (next_node pages) order) (record { refs = []; are = refl }) (entries-sourced pages order)

node-kept : (pages : List (PageKey × KeptPage)) (basis : Basis) (taken : ℕ) (x : NextNode) → IsSourced pages x → All (IsKeptIn pages) (pages_next basis taken x)
node-kept pages basis taken x is =
    All-append (IsKeptIn pages) (pages_written (data_page x.node.slot) basis.free taken 0 x.pages) (pages_written (map_image (data_refs basis taken x)) basis.free (taken_by_data taken x) 0 (maps_due basis taken x))
    (subst (λ (ss : List PageSource). All (IsKeptIn pages) (pages_written (data_page x.node.slot) basis.free taken 0 ss)) (sym is.are) (data-kept pages x.node.slot basis.free taken 0 is.refs))
    (maps-kept pages (data_refs basis taken x) basis.free (taken_by_data taken x) 0 (maps_due basis taken x))

all-kept : (pages : List (PageKey × KeptPage)) (basis : Basis) (taken : ℕ) (next : List NextNode) → All (IsSourced pages) next → All (IsKeptIn pages) (all_pages basis taken next)
all-kept pages basis taken [] are = All-nil (IsKeptIn pages)
all-kept pages basis taken (x ∷ next) are =
    All-append (IsKeptIn pages) (pages_next basis taken x) (all_pages basis (taken_by basis taken x) next)
    (node-kept pages basis taken x (are 0 x (omega arith)))
    (all-kept pages basis (taken_by basis taken x) next (λ k d within. are (suc k) d (omega (arith, within))))

-- ---- the next nodes

-- the reference of a page in the next nodes
record HasNext (v : ViewState) (frozen : FrozenState) (slot page : ℕ) (old : Ref) : Type 0 where
  reference : Ref
  at : ref_at (slots_next (basis_at v) (next_of frozen.order frozen.pages)) slot page ≡ Some reference
  is : HasReference (plan_of (basis_at v) (next_of frozen.order frozen.pages)).pages (data_page slot page) (source_of (kept_page frozen.pages slot page) old) reference

map-in : {X Y : Type 0} (f : X → Y) (xs : List X) (x : X) → Contains xs x → Contains (map f xs) (f x)
map-in f [] x has = absurd (omega (arith, has.1))
map-in f (y ∷ xs) x (zero, within, is) = (0, omega arith, ap f is)
map-in f (y ∷ xs) x (suc k, within, is) =
    let later = map-in f xs x (k, omega arith, is) in
    (suc later.0, omega (arith, later.1), later.2)

source-at : (table : List (PageKey × KeptPage)) (slot first k : ℕ) (refs : List Ref) (r : Ref) → slice_get refs k ≡ Some r → slice_get (sources_from table slot first refs) k ≡ Some (source_of (kept_page table slot (first + k)) r)
source-at table slot first k [] r e = absurd (cc)
source-at table slot first zero (x ∷ refs) r e =
    let same : x ≡ r = cc in
    let at : first ≡ first + 0 = omega arith in
    ap (λ (y : Ref). Some (source_of (kept_page table slot first) y)) same ∙ ap (λ (n : ℕ). Some (source_of (kept_page table slot n) r)) at
source-at table slot first (suc k) (x ∷ refs) r e =
    let at : first + 1 + k ≡ first + suc k = omega arith in
    source-at table slot (first + 1) k refs r e ∙ ap (λ (n : ℕ). Some (source_of (kept_page table slot n) r)) at

-- the entry of a slot that has a page
record IsEntryOf (order : List FrozenEntry) (slot page : ℕ) (old : Ref) : Type 0 where
  entry : FrozenEntry
  among : Contains order entry
  own : entry.slot ≡ slot
  at : slice_get entry.refs page ≡ Some old

entry-of : (order : List FrozenEntry) (slot page : ℕ) (old : Ref) → ref_in order slot page ≡ Some old → IsEntryOf order slot page old
entry-of order slot page old e = by (entry_in order slot) refl e where
  by : (o : Option FrozenEntry) → entry_in order slot ≡ o → slice_get (unwrap_or (option_map (λ (x : FrozenEntry). x.refs) o) []) page ≡ Some old → IsEntryOf order slot page old
  by None found at = absurd (cc at)
  by (Some entry) found at = record {
    entry = entry;
    among = found-in (λ (x : FrozenEntry). x.slot == slot) order entry found;
    own = eqb-true entry.slot slot (found-passes (λ (x : FrozenEntry). x.slot == slot) order entry found);
    at = at;
  }

-- a node with a page is a file
file-kind : (kind : NodeKind) (len k : ℕ) → is_free kind ≡ false → may_have_length kind len ≡ true → k < data_pages_of len → is_file_node kind ≡ true
file-kind Free len k used may within = absurd (false≢true (sym used))
file-kind Folder len k used may within = absurd (
    let none : len ≡ 0 = eqb-true len 0 may in
    omega (arith, within, ap data_pages_of none))
file-kind File len k used may within = refl

-- the references of a file
file-ref : (held : Held) (k : ℕ) → is_file_node held.node.kind ≡ true → slice_get (unwrap_or (refs_of held) []) k ≡ slice_get held.refs k
file-ref held k file = ap (λ (b : Bool). slice_get (unwrap_or (cond b (Some held.refs) None) []) k) file

slice_some : {X : Type 0} (xs : List X) (k : ℕ) → k < length xs → (x : X) × (slice_get xs k ≡ Some x)
slice_some [] k below = absurd (omega (arith, below))
slice_some (x ∷ xs) zero below = (x, refl)
slice_some (x ∷ xs) (suc k) below = slice_some xs k (omega (arith, below))

next-ref : (v : ViewState) (frozen : FrozenState) (slot page : ℕ) (old : Ref) → IsView v → HasNoneBegun v → IsFrozenOver v.index frozen → ref_in frozen.order slot page ≡ Some old → HasNext v frozen slot page old
next-ref v frozen slot page old is none over at =
    let next = next_of frozen.order frozen.pages in
    let basis = basis_at v in
    let can = can_plan v next is none over.can in
    let found = entry-of frozen.order slot page old at in
    let x : NextNode = next_node frozen.pages found.entry in
    let in_order = map-in (next_node frozen.pages) frozen.order found.entry found.among in
    let among : Contains next x = (suc in_order.0, omega (arith, in_order.1), in_order.2) in
    let stands = node-stands basis next x can among in
    let held : Held = stands.0 in
    let one : StandsNext basis next x held = stands.1 in
    let node = All-contains (IsNextNode (length basis.nodes)) next x can.nodes among in
    let from : 0 + page ≡ page = omega arith in
    let source : slice_get x.pages page ≡ Some (source_of (kept_page frozen.pages found.entry.slot page) old) =
    source-at frozen.pages found.entry.slot 0 page found.entry.refs old found.at ∙ ap (λ (n : ℕ). Some (source_of (kept_page frozen.pages found.entry.slot n) old)) from in
    let view = can_view_next v next is none over.can in
    let there : held_at (slots_next basis next) found.entry.slot ≡ Some held = one.there in
    let length_is : x.node.length ≡ held.node.length = ap (λ (n : Node). n.length) one.node in
    let kind_is : x.node.kind ≡ held.node.kind = ap (λ (n : Node). n.kind) one.node in
    let many : length held.refs ≡ data_pages_of held.node.length = view.refs found.entry.slot held there in
    let within : page < data_pages_of held.node.length = omega (arith, slice_get_within x.pages page _ source, node.each_page, ap data_pages_of length_is) in
    let got = slice_some held.refs page (omega (arith, within, many)) in
    let file : is_file_node held.node.kind ≡ true = file-kind held.node.kind held.node.length page
    (sym (ap is_free kind_is) ∙ node.used) (sym (ap (λ (n : Node). may_have_length n.kind n.length) one.node) ∙ node.measured) within in
    record {
      reference = got.0;
      at = ap (λ (s : ℕ). ref_at (slots_next basis next) s page) (sym found.own)
          ∙ ap (λ (o : Option Held). slice_get (unwrap_or (option_and_then refs_of o) []) page) there
          ∙ file-ref held page file ∙ got.1;
      is = subst (λ (s : ℕ). HasReference (plan_of basis next).pages (data_page s page) (source_of (kept_page frozen.pages s page) old) got.0) found.own
          (one.pages page (source_of (kept_page frozen.pages found.entry.slot page) old) got.0 source got.1);
    }

some_of : {X : Type 0} (o : Option X) → IsSome o → (x : X) × (o ≡ Some x)
some_of None some = absurd (false≢true some)
some_of (Some x) some = (x, refl)

pub plan-under : (v : ViewState) (frozen : FrozenState) → IsView v → HasNoneBegun v → IsFrozenOver v.index frozen → IsFrozenUnder (slots_next (basis_at v) (next_of frozen.order frozen.pages)) (plan_of (basis_at v) (next_of frozen.order frozen.pages)).pages frozen
plan-under v frozen is none over = record {
  entries = over.entries;
  relies = λ slot page reference out. (
      let has = next-ref v frozen slot page reference is none over out.at in
      let same : has.reference ≡ reference = subst (λ (o : Option (List ℕ)). HasReference (plan_of (basis_at v) (next_of frozen.order frozen.pages)).pages (data_page slot page) (source_of o reference) has.reference) out.apart has.is in
      has.at ∙ ap (λ (r : Ref). Some r) same);
  digests = λ slot page bytes kept. (
      let some = some_of (ref_in frozen.order slot page) (over.entries slot page (ap is_some kept)) in
      let has = next-ref v frozen slot page some.0 is none over some.1 in
      let due = subst (λ (o : Option (List ℕ)). HasReference (plan_of (basis_at v) (next_of frozen.order frozen.pages)).pages (data_page slot page) (source_of o some.0) has.reference) kept has.is in
      ap (option_map (λ (r : Ref). r.digest)) has.at ∙ ap Some due.0);
  kept = all-kept frozen.pages (basis_at v) 0 (next_of frozen.order frozen.pages) (next-sourced frozen.pages frozen.order);
  few = over-few v frozen is over;
}

-- a page that it keeps in memory is among the pages to write, at its reference
pub page-written : (v : ViewState) (frozen : FrozenState) (slot page : ℕ) (bytes : List ℕ) (reference : Ref) → IsView v → HasNoneBegun v → IsFrozenOver v.index frozen → kept_page frozen.pages slot page ≡ Some bytes → ref_at (slots_next (basis_at v) (next_of frozen.order frozen.pages)) slot page ≡ Some reference → Contains (plan_of (basis_at v) (next_of frozen.order frozen.pages)).pages (data_page slot page reference)
page-written v frozen slot page bytes reference is none over kept at =
    let some = some_of (ref_in frozen.order slot page) (over.entries slot page (ap is_some kept)) in
    let has = next-ref v frozen slot page some.0 is none over some.1 in
    let due = subst (λ (o : Option (List ℕ)). HasReference (plan_of (basis_at v) (next_of frozen.order frozen.pages)).pages (data_page slot page) (source_of o some.0) has.reference) kept has.is in
    let both : Some has.reference ≡ Some reference = sym has.at ∙ at in
    let same : has.reference ≡ reference = cc both in
    subst (λ (r : Ref). Contains (plan_of (basis_at v) (next_of frozen.order frozen.pages)).pages (data_page slot page r)) same due.1
