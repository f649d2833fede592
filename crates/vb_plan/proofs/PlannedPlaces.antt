-- The places of the pages to write.
use Rattle.std.proofs.Common.{◌≡◌, ℕ, suc, ◌+◌, ◌<◌, ◌≤◌, List, [], ◌∷◌, ◌++◌, length, get_or, drop, take, map, refl, sym, ap, ◌∙◌, arith, length-append}
use Rattle.std.proofs.Math.Seq.{take-add}
use Rattle.std.proofs.lemmas.List.{drop-drop, drop_more, map-append}
use Rattle.vb_block.specs.declared.digest.Ref.{Ref}
use Rattle.vb_inode.specs.declared.next_view.NextNode.{NextNode}
use Rattle.vb_inode.specs.declared.next_view.PageSource.{PageSource}
use Rattle.vb_inode.specs.declared.next_view.PageSource.TheVariants.{Kept, Fresh}
use Rattle.vb_plan.specs.declared.plan_page.PlanPage.{PlanPage}
use Rattle.vb_plan.specs.Laws.{place_of}
use Rattle.vb_plan.specs.Sources.{fresh_count, pages_written}
use Rattle.vb_plan.specs.Plans.{Basis, all_pages, data_page, data_refs, map_image, maps_due, pages_next, taken_by, taken_by_data}
use Rattle.vb_plan.proofs.Placing.{fresh-cons}
use Rattle.vb_plan.proofs.Planning.{length-pages_next}

-- the first so many places after those that are taken
abbrev pub front : List ℕ → ℕ → ℕ → List ℕ
front free taken count = take count (drop taken free)

-- the first of some places, and the others
front_more : (xs : List ℕ) (taken count : ℕ) → taken < length xs → front xs taken (count + 1) ≡ get_or xs taken 0 ∷ front xs (taken + 1) count
front_more xs taken count within =
    let next : count + 1 ≡ suc count = omega arith in
    ap (λ (n : ℕ). take n (drop taken xs)) next ∙ ap (take (suc count)) (drop_more xs taken 0 within)

-- two runs of places, one after the other
pub front-add : (free : List ℕ) (taken a b : ℕ) → front free taken (a + b) ≡ front free taken a ++ front free (taken + a) b
front-add free taken a b = take-add a b (drop taken free) ∙ ap (λ (rest : List ℕ). take a (drop taken free) ++ take b rest) (drop-drop a taken free)

-- each page of a file goes to the next free place
pub places_written : (page : ℕ → Ref → PlanPage) → ((n : ℕ) (r : Ref) → place_of (page n r) ≡ r.place) → (free : List ℕ) (taken number : ℕ) (sources : List PageSource) → taken + fresh_count sources ≤ length free → map place_of (pages_written page free taken number sources) ≡ front free taken (fresh_count sources)
places_written page at free taken number [] room = refl
places_written page at free taken number (Kept r ∷ sources) room =
    let same : fresh_count (Kept r ∷ sources) ≡ fresh_count sources = omega (arith, fresh-cons taken (Kept r) sources) in
    places_written page at free taken (number + 1) sources (omega (arith, room, same)) ∙ ap (front free taken) (sym same)
places_written page at free taken number (Fresh digest ∷ sources) room =
    let more : fresh_count (Fresh digest ∷ sources) ≡ fresh_count sources + 1 = omega (arith, fresh-cons taken (Fresh digest) sources) in
    let r : Ref = record { place = get_or free taken 0; digest = digest } in
    ap (λ (p : ℕ). p ∷ map place_of (pages_written page free (taken + 1) (number + 1) sources)) (at number r)
    ∙ ap (λ (ps : List ℕ). get_or free taken 0 ∷ ps) (places_written page at free (taken + 1) (number + 1) sources (omega (arith, room, more)))
    ∙ sym (front_more free taken (fresh_count sources) (omega (arith, room, more)))
    ∙ ap (front free taken) (sym more)

-- so do those of a node
pub places_of_node : (basis : Basis) (taken : ℕ) (x : NextNode) → taken_by basis taken x ≤ length basis.free → map place_of (pages_next basis taken x) ≡ front basis.free taken (length (pages_next basis taken x))
places_of_node basis taken x room =
    let pages = pages_written (data_page x.node.slot) basis.free taken 0 x.pages in
    let maps = pages_written (map_image (data_refs basis taken x)) basis.free (taken_by_data taken x) 0 (maps_due basis taken x) in
    let count : length (pages_next basis taken x) ≡ fresh_count x.pages + fresh_count (maps_due basis taken x) = omega (arith, length-pages_next basis taken x) in
    map-append place_of pages maps
    ∙ ap (λ (ps : List ℕ). ps ++ map place_of maps) (places_written (data_page x.node.slot) (λ n r. refl) basis.free taken 0 x.pages (omega arith))
    ∙ ap (λ (ps : List ℕ). front basis.free taken (fresh_count x.pages) ++ ps) (places_written (map_image (data_refs basis taken x)) (λ n r. refl) basis.free (taken_by_data taken x) 0 (maps_due basis taken x) room)
    ∙ sym (front-add basis.free taken (fresh_count x.pages) (fresh_count (maps_due basis taken x)))
    ∙ ap (front basis.free taken) (sym count)

-- so do all
pub places_of_all : (basis : Basis) (taken : ℕ) (next : List NextNode) → taken + length (all_pages basis taken next) ≤ length basis.free → map place_of (all_pages basis taken next) ≡ front basis.free taken (length (all_pages basis taken next))
places_of_all basis taken [] room = refl
places_of_all basis taken (x ∷ next) room =
    let mine = pages_next basis taken x in
    let others = all_pages basis (taken_by basis taken x) next in
    let count : length (mine ++ others) ≡ length mine + length others = length-append mine others in
    let after : taken_by basis taken x ≡ taken + length mine = sym (length-pages_next basis taken x) in
    map-append place_of mine others
    ∙ ap (λ (ps : List ℕ). ps ++ map place_of others) (places_of_node basis taken x (omega (arith, room, count, after)))
    ∙ ap (λ (ps : List ℕ). front basis.free taken (length mine) ++ ps) (places_of_all basis (taken_by basis taken x) next (omega (arith, room, count, after)))
    ∙ ap (λ (n : ℕ). front basis.free taken (length mine) ++ front basis.free n (length others)) after
    ∙ sym (front-add basis.free taken (length mine) (length others))
    ∙ ap (front basis.free taken) (sym count)

-- all go to the first free places
pub places_of_plan : (basis : Basis) (next : List NextNode) → length (all_pages basis 0 next) ≤ length basis.free → map place_of (all_pages basis 0 next) ≡ take (length (all_pages basis 0 next)) basis.free
places_of_plan basis next room = places_of_all basis 0 next (omega arith)
