-- The trees of the live and the frozen view, over a disk on which a commit goes on: each page that they have out of memory
-- stays at its place.
use Rattle.std.proofs.Common.{◌≡◌, ℕ, zero, suc, ◌+◌, ◌<◌, ◌==◌, List, [], ◌∷◌, length, map, slice_get, unwrap_or, All, Option, Some, None, refl, sym, ap, subst, ◌∙◌, arith}
use Rattle.std.specs.Prelude.{Contains}
use Rattle.std.specs.Option.{option_map}
use Rattle.std.proofs.lemmas.Bool.{eqb-true}
use Rattle.std.proofs.lemmas.List.Elements.{All-cons, All-head, All-nil, All-tail}
use Rattle.vb_block.specs.declared.digest.Ref.{Ref}
use Rattle.vb_disk.specs.Cells.{candidates}
use Rattle.vb_disk.specs.States.{DiskState}
use Rattle.vb_tree.specs.declared.tree.TreeEntry.{TreeEntry}
use Rattle.vb_inode.specs.declared.next_view.NextNode.{NextNode}
use Rattle.vb_inode.specs.declared.next_view.PageSource.TheVariants.{Kept}
use Rattle.vb_pages.specs.declared.kept.KeptPage.{KeptPage}
use Rattle.vb_pages.specs.declared.kept.PageKey.{PageKey}
use Rattle.vb_pages.specs.Disks.{first_at}
use Rattle.vb_pages.specs.Tables.{kept_page}
use Rattle.vb_active.specs.Performs.{HasTreeOn}
use Rattle.vb_active.specs.Views.{ActiveState, due_page, ref_at}
use Rattle.vb_frozen.specs.declared.entry.FrozenEntry.{FrozenEntry}
use Rattle.vb_frozen.specs.Orders.{entry_in}
use Rattle.vb_frozen.specs.Sources.{next_node, next_of, source_of, sources_from}
use Rattle.vb_frozen.specs.Views.{frozen_page, AreEntriesOf, HasFrozenTree}
use Rattle.vb_plan.proofs.Listed.{found-in, found-passes}
use Rattle.vb_during.specs.During.{HoldsKept, ViewCommit}
use Rattle.vb_local.specs.Ties.{ref_in, FrozenState, IsFrozenOut, LiveFollows}

-- ---- pages that stay

-- two disks have the same first candidates where a frozen view has a page out of memory
abbrev pub HaveSameOut : FrozenState → DiskState → DiskState → Type 0
HaveSameOut frozen d next = (slot page : ℕ) (r : Ref) → IsFrozenOut frozen slot page r → (next.cells r.place).first ≡ (d.cells r.place).first

-- the frozen tree: entry by entry
abbrev pub SamePages : List (PageKey × KeptPage) → DiskState → DiskState → FrozenEntry → Type 0
SamePages pages d next e = (k : ℕ) → frozen_page pages next e k ≡ frozen_page pages d e k

entries-stay : (pages : List (PageKey × KeptPage)) (d next : DiskState) (order : List FrozenEntry) (tree : List TreeEntry) → All (SamePages pages d next) order → AreEntriesOf pages d order tree → AreEntriesOf pages next order tree
entries-stay pages d next [] [] same are = tt
entries-stay pages d next [] (e ∷ tree) same are = are
entries-stay pages d next (x ∷ order) [] same are = are
entries-stay pages d next (x ∷ order) (e ∷ tree) same are = (
  record {
    path = are.0.path;
    kind = are.0.kind;
    len = are.0.len;
    contents = λ k within. All-head (SamePages pages d next) x order same k ∙ are.0.contents k within;
  },
  entries-stay pages d next order tree (All-tail (SamePages pages d next) x order same) are.1,
)

-- two disks have the same first candidates where an entry has a page out of memory
abbrev pub HasSameRefs : List (PageKey × KeptPage) → DiskState → DiskState → FrozenEntry → Type 0
HasSameRefs pages d next e = (k : ℕ) (r : Ref) → kept_page pages e.slot k ≡ None → slice_get e.refs k ≡ Some r → (next.cells r.place).first ≡ (d.cells r.place).first

same-pages : (pages : List (PageKey × KeptPage)) (d next : DiskState) (e : FrozenEntry) → HasSameRefs pages d next e → SamePages pages d next e
same-pages pages d next e same k = by (kept_page pages e.slot k) refl where
  at : (o : Option Ref) → slice_get e.refs k ≡ o → kept_page pages e.slot k ≡ None → first_at next o ≡ first_at d o
  at None is apart = refl
  at (Some r) is apart = same k r apart is

  by : (o : Option (List ℕ)) → kept_page pages e.slot k ≡ o → unwrap_or o (first_at next (slice_get e.refs k)) ≡ unwrap_or o (first_at d (slice_get e.refs k))
  by None apart = at (slice_get e.refs k) refl apart
  by (Some bytes) kept = refl

each-same : (pages : List (PageKey × KeptPage)) (d next : DiskState) (order : List FrozenEntry) → ((e : FrozenEntry) → Contains order e → HasSameRefs pages d next e) → All (SamePages pages d next) order
each-same pages d next [] same = All-nil (SamePages pages d next)
each-same pages d next (e ∷ order) same =
    All-cons (SamePages pages d next) e order (same-pages pages d next e (same e (0, omega arith, refl)))
    (each-same pages d next order (λ x has. same x (suc has.0, omega (arith, has.1), has.2)))

pub frozen-stays : (order : List FrozenEntry) (pages : List (PageKey × KeptPage)) (d next : DiskState) (tree : List TreeEntry) → ((e : FrozenEntry) → Contains order e → HasSameRefs pages d next e) → HasFrozenTree order pages d tree → HasFrozenTree order pages next tree
frozen-stays order pages d next tree same is = record {
  is_tree = is.is_tree;
  apart = is.apart;
  entries = entries-stay pages d next order tree (each-same pages d next order same) is.entries;
}

-- the live tree
pub live-stays : (frozen : FrozenState) (live : ActiveState) (d next : DiskState) (tree : List TreeEntry) → LiveFollows frozen live → HaveSameOut frozen d next → HasTreeOn d live tree → HasTreeOn next live tree
unfolding due_page
live-stays frozen live d next tree follows same has = record {
  is_tree = has.is_tree;
  shape = has.shape;
  contents = λ path slot leads k within. page slot k ∙ has.contents path slot leads k within;
} where
  page : (slot k : ℕ) → due_page live next slot k ≡ due_page live d slot k
  page slot k = by (kept_page live.pages slot k) refl where
    at : (o : Option Ref) → ref_at live.index.nodes slot k ≡ o → kept_page live.pages slot k ≡ None → first_at next o ≡ first_at d o
    at None is apart = refl
    at (Some r) is apart = same slot k r (follows slot k r (record { at = is; apart = apart }))

    by : (o : Option (List ℕ)) → kept_page live.pages slot k ≡ o → unwrap_or o (first_at next (ref_at live.index.nodes slot k)) ≡ unwrap_or o (first_at d (ref_at live.index.nodes slot k))
    by None apart = at (ref_at live.index.nodes slot k) refl apart
    by (Some bytes) kept = refl

-- ---- pages that the next view keeps

sources-out : (pages : List (PageKey × KeptPage)) (slot from : ℕ) (refs : List Ref) (k : ℕ) (r : Ref) → kept_page pages slot (from + k) ≡ None → slice_get refs k ≡ Some r → slice_get (sources_from pages slot from refs) k ≡ Some (Kept r)
sources-out pages slot from [] k r apart at = absurd (cc at)
sources-out pages slot from (x ∷ refs) zero r apart at =
    let same : x ≡ r = cc at in
    ap (λ (o : Option (List ℕ)). Some (source_of o x)) (ap (kept_page pages slot) (let e : from ≡ from + 0 = omega arith in e) ∙ apart) ∙ ap (λ (y : Ref). Some (Kept y)) same
sources-out pages slot from (x ∷ refs) (suc k) r apart at =
    sources-out pages slot (from + 1) refs k r (ap (kept_page pages slot) (let e : from + 1 + k ≡ from + suc k = omega arith in e) ∙ apart) at

node-listed : (pages : List (PageKey × KeptPage)) (order : List FrozenEntry) (e : FrozenEntry) → Contains order e → Contains (map (next_node pages) order) (next_node pages e)
node-listed pages [] e has = absurd (omega (arith, has.1))
node-listed pages (x ∷ order) e (zero, within, is) = (0, omega arith, ap (next_node pages) is)
node-listed pages (x ∷ order) e (suc k, within, is) =
    let later = node-listed pages order e (k, omega (arith, within), is) in
    (suc later.0, omega (arith, later.1), later.2)

-- a disk that holds what the next view keeps has the source of each page that an entry has out of memory
pub entry-first : (v : ViewCommit) (order : List FrozenEntry) (pages : List (PageKey × KeptPage)) (d : DiskState) (e : FrozenEntry) (k : ℕ) (r : Ref) → v.nodes ≡ next_of order pages → HoldsKept v d → Contains order e → kept_page pages e.slot k ≡ None → slice_get e.refs k ≡ Some r → (d.cells r.place).first ≡ v.source e.slot k
entry-first v order pages d e k r nodes holds has apart at =
    let listed = node-listed pages order e has in
    let among : Contains v.nodes (next_node pages e) = subst (λ (ns : List NextNode). Contains ns (next_node pages e)) (sym nodes) (suc listed.0, omega (arith, listed.1), listed.2) in
    let all : All (λ page. page ≡ v.source e.slot k) (candidates (d.cells r.place)) = holds (next_node pages e) k r among (sources-out pages e.slot 0 e.refs k r (ap (kept_page pages e.slot) (let n : 0 + k ≡ k = omega arith in n) ∙ apart) at) in
    all 0 [] (omega arith)

pub entries-same : (v : ViewCommit) (order : List FrozenEntry) (pages : List (PageKey × KeptPage)) (d next : DiskState) → v.nodes ≡ next_of order pages → HoldsKept v d → HoldsKept v next → (e : FrozenEntry) → Contains order e → HasSameRefs pages d next e
entries-same v order pages d next nodes holds after e has k r apart at =
    entry-first v order pages next e k r nodes after has apart at ∙ sym (entry-first v order pages d e k r nodes holds has apart at)

-- so it is of each page that the frozen view has out of memory
pub out-same : (v : ViewCommit) (frozen : FrozenState) (d next : DiskState) → v.nodes ≡ next_of frozen.order frozen.pages → HoldsKept v d → HoldsKept v next → HaveSameOut frozen d next
out-same v frozen d next nodes holds after slot page r out = by (entry_in frozen.order slot) refl out.at where
  by : (o : Option FrozenEntry) → entry_in frozen.order slot ≡ o → slice_get (unwrap_or (option_map (λ (x : FrozenEntry). x.refs) o) []) page ≡ Some r → (next.cells r.place).first ≡ (d.cells r.place).first
  by None found at = absurd (cc at)
  by (Some e) found at =
      let own : e.slot ≡ slot = eqb-true e.slot slot (found-passes (λ (x : FrozenEntry). x.slot == slot) frozen.order e found) in
      entries-same v frozen.order frozen.pages d next nodes holds after e (found-in (λ (x : FrozenEntry). x.slot == slot) frozen.order e found) page r
      (ap (λ (s : ℕ). kept_page frozen.pages s page) own ∙ out.apart) at
