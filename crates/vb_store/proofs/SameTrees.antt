-- The same store with the same pages recovers to the same tree.
use Rattle.std.proofs.Common.{◌≡◌, ℕ, ◌-◌, Bool, true, false, not, ◌==◌, cond, List, [], ◌∷◌, ◌++◌, take, Option, Some, None, Result, Ok, refl, sym, ap, ◌∙◌}
use Rattle.std.specs.List.{All}
use Rattle.std.specs.Ordering.{is_lt}
use Rattle.std.proofs.lemmas.List.Elements.{All-cons, All-head, All-nil, All-tail}
use Rattle.vb_block.specs.declared.digest.Ref.{Ref}
use Rattle.vb_index.specs.declared.held.Held.{Held}
use Rattle.vb_index.specs.Nodes.{kind_of}
use Rattle.vb_path.specs.Paths.{path_cmp}
use Rattle.vb_tree.specs.declared.tree.TreeEntry.{TreeEntry}
use Rattle.vb_store.specs.Metadata.{Metadata, and_then, metadata_of, refuse}
use Rattle.vb_store.specs.Recovered.{Placed, bytes_read, entries_read, insert_placed, is_page_of, path_of, placed_by, placed_in, recovered, recovered_at, recovered_from}
use Rattle.vb_store.specs.Sameness.{HasSamePages, IsSameStore}
use Rattle.vb_store.proofs.SameStores.{metadata-same}

-- the pages of a placed node read the same
abbrev IsSame : (ℕ → List ℕ) → (ℕ → List ℕ) → Placed → Type 0
IsSame old new p = All (λ r. new r.place ≡ old r.place) p.held.refs

bytes-same : (old new : ℕ → List ℕ) (left : ℕ) (refs : List Ref) → All (λ r. new r.place ≡ old r.place) refs → bytes_read new left refs ≡ bytes_read old left refs
bytes-same old new left [] same = refl
bytes-same old new left (r ∷ rs) same =
    let Same : Ref → Type 0 = λ x. new x.place ≡ old x.place in
    ap (λ (page : List ℕ). refuse (not (is_page_of left r page)) r.place (and_then (bytes_read new (left - 4096) rs) (λ more. Ok (take left page ++ more)))) (All-head Same r rs same)
    ∙ ap (λ (more : Result (List ℕ) ℕ). refuse (not (is_page_of left r (old r.place))) r.place (and_then more (λ m. Ok (take left (old r.place) ++ m)))) (bytes-same old new (left - 4096) rs (All-tail Same r rs same))

entries-same : (old new : ℕ → List ℕ) (ps : List Placed) → All (IsSame old new) ps → entries_read new ps ≡ entries_read old ps
entries-same old new [] same = refl
entries-same old new (p ∷ ps) same =
    let entry : List ℕ → TreeEntry = λ bytes. record { path = p.path; kind = kind_of p.held.node; bytes = bytes } in
    ap (λ (b : Result (List ℕ) ℕ). and_then b (λ bytes. and_then (entries_read new ps) (λ more. Ok (entry bytes ∷ more)))) (bytes-same old new p.held.node.length p.held.refs (All-head (IsSame old new) p ps same))
    ∙ ap (λ (e : Result (List TreeEntry) ℕ). and_then (bytes_read old p.held.node.length p.held.refs) (λ bytes. and_then e (λ more. Ok (entry bytes ∷ more)))) (entries-same old new ps (All-tail (IsSame old new) p ps same))

either_way : (P : Placed → Type 0) (b : Bool) (x y : List Placed) → All P x → All P y → All P (cond b x y)
either_way P true x y first second = first
either_way P false x y first second = second

all_inserted : (P : Placed → Type 0) (new : Placed) (ps : List Placed) → P new → All P ps → All P (insert_placed new ps)
all_inserted P new [] here all = All-cons P new [] here (All-nil P)
all_inserted P new (p ∷ ps) here all =
    either_way P (is_lt (path_cmp new.path p.path)) (new ∷ p ∷ ps) (p ∷ insert_placed new ps) (All-cons P new (p ∷ ps) here all)
    (All-cons P p (insert_placed new ps) (All-head P p ps all) (all_inserted P new ps here (All-tail P p ps all)))

placed-same : (old new : ℕ → List ℕ) (table slots : List (Option Held)) → All (HasSamePages old new) slots → All (IsSame old new) (placed_by table slots)
placed-same old new table [] same = All-nil (IsSame old new)
placed-same old new table (None ∷ slots) same = placed-same old new table slots (All-tail (HasSamePages old new) None slots same)
placed-same old new table (Some held ∷ slots) same =
    let p : Placed = record { path = path_of table held.node.slot; held = held } in
    let rest = placed-same old new table slots (All-tail (HasSamePages old new) (Some held) slots same) in
    either_way (IsSame old new) (held.node.slot == 0) (placed_by table slots) (insert_placed p (placed_by table slots)) rest
    (all_inserted (IsSame old new) p (placed_by table slots) (All-head (HasSamePages old new) (Some held) slots same) rest)

-- the entries of a table whose pages read the same
pub entries_of_held : (old new : ℕ → List ℕ) (held : List (Option Held)) → All (HasSamePages old new) held → entries_read new (placed_in held) ≡ entries_read old (placed_in held)
entries_of_held old new held pages = entries-same old new (placed_in held) (placed-same old new held held pages)

pub recovered-same : (size : ℕ) (m : Metadata) (old new : ℕ → List ℕ) → metadata_of size old ≡ Ok m → IsSameStore size m old new → All (HasSamePages old new) m.held → recovered size new ≡ recovered size old
unfolding recovered
recovered-same size m old new is store pages =
    ap (recovered_from new) (metadata-same size m old new is store)
    ∙ ap (recovered_at m.head.epoch) (entries-same old new (placed_in m.held) (placed-same old new m.held m.held pages))
    ∙ sym (ap (recovered_from old) is)
