-- The most reads that may be left of a mount fall with each read.
use Rattle.std.proofs.Common.{◌≡◌, ◌∙◌, ℕ, suc, ◌+◌, ◌-◌, ◌*◌, ◌<◌, ◌≤◌, Bool, true, false, cond, ltb, List, [], ◌∷◌, ◌++◌, length, drop, get_or, Option, Some, None, Result, Ok, Err, OnOk, refl, sym, ap, arith}
use Rattle.std.proofs.lemmas.Bool.{le-ltb, lt-ltb, ltb-false}
use Rattle.std.proofs.lemmas.List.{length-append, length_push}
use Rattle.std.proofs.lemmas.List.Sums.{sum_by-cons}
use Rattle.vb_block.specs.declared.digest.Ref.{Ref}
use Rattle.vb_head.specs.declared.head.Head.{Head}
use Rattle.vb_index.specs.declared.held.Held.{Held}
use Rattle.vb_index.specs.Indexes.{IndexState}
use Rattle.vb_index.specs.Nodes.{held_at, pages_in, pages_of_slot}
use Rattle.vb_inode.specs.declared.node.Node.{Node}
use Rattle.vb_journal.specs.declared.recover_error.RecoverError.{RecoverError}
use Rattle.vb_nodes.specs.Claiming.{ClaimsState, claim_answer}
use Rattle.vb_tree.specs.Trees.{data_pages_of, map_pages_of}
use Rattle.std.specs.List.{flat_map}
use Rattle.vb_store.specs.declared.map_page.MapPage.{MapPage}
use Rattle.vb_store.specs.declared.mount_parts.Claimed.{Claimed}
use Rattle.vb_store.specs.declared.mount_parts.Homes.{Homes}
use Rattle.vb_store.specs.declared.mount_stage.MountStage.{MountStage}
use Rattle.vb_store.specs.declared.mount_stage.MountStage.TheVariants.{ReadHome, ReadMap, Finish, Refused}
use Rattle.vb_store.specs.Metadata.{maps_from, maps_in, maps_of, maps_of_node}
use Rattle.vb_store.specs.MountFalls.{FallsTo, LeavesMaps, most_maps}
use Rattle.vb_store.specs.Namings.{IsIndexOf}
use Rattle.vb_store.proofs.MountRests.{drop-next}

-- ---- there are no more map pages than may be

length-maps_from : (slot first left : ℕ) (refs : List Ref) → length (maps_from slot first left refs) ≡ length refs
length-maps_from slot first left [] = refl
length-maps_from slot first left (r ∷ rs) = ap suc (length-maps_from slot (first + 113) (left - 113) rs)

slot_few : (o : Option Held) → ((held : Held) → o ≡ Some held → length held.node.maps ≡ map_pages_of held.node.length) → length (maps_of o) ≤ pages_of_slot o
slot_few None each = omega arith
slot_few (Some held) each =
    let made : length (maps_of_node held.node) ≡ length held.node.maps = length-maps_from held.node.slot 0 (data_pages_of held.node.length) held.node.maps in
    let mapped : length held.node.maps ≡ map_pages_of held.node.length = each held refl in
    omega (arith, made, mapped)

all_few : (slots : List (Option Held)) → ((slot : ℕ) (held : Held) → held_at slots slot ≡ Some held → length held.node.maps ≡ map_pages_of held.node.length) → length (flat_map maps_of slots) ≤ pages_in slots
all_few [] each = omega arith
all_few (x ∷ xs) each =
    let here : length (maps_of x) ≤ pages_of_slot x = slot_few x (λ held is. each 0 held is) in
    let there : length (flat_map maps_of xs) ≤ pages_in xs = all_few xs (λ slot held is. each (suc slot) held is) in
    let both : length (flat_map maps_of (x ∷ xs)) ≡ length (maps_of x) + length (flat_map maps_of xs) = length-append (maps_of x) (flat_map maps_of xs) in
    let pages : pages_in (x ∷ xs) ≡ pages_of_slot x + pages_in xs = sum_by-cons pages_of_slot x xs in
    omega (arith, here, there, both, pages)

pub few-maps : (head : Head) (index : IndexState) (maps : List MapPage) → IsIndexOf head index → maps ≡ maps_in index.nodes → length maps ≤ most_maps head
unfolding maps_in
few-maps head index maps is same =
    let few : length (flat_map maps_of index.nodes) ≤ pages_in index.nodes = all_few index.nodes is.maps in
    let pages : pages_in index.nodes ≤ index.limits.pages = is.pages in
    let limits : index.limits.pages ≡ most_maps head = ap (λ l. l.pages) is.limits in
    let long : length maps ≡ length (flat_map maps_of index.nodes) = ap length same in
    omega (arith, few, pages, limits, long)

-- ---- places

outside_by : (claims : ClaimsState) (place : ℕ) (b : Bool) → ltb place claims.first ≡ b → claim_answer claims place ≡ Ok tt → claims.first ≤ place
outside_by claims place true below is = absurd (cc (below, is))
outside_by claims place false below is = ltb-false place claims.first below

-- a place that was claimed is one of data
pub claimed-above : (claims : ClaimsState) (place : ℕ) → claim_answer claims place ≡ Ok tt → claims.first ≤ place
claimed-above claims place is = outside_by claims place (ltb place claims.first) refl is

-- ---- the reads that are left

-- the next map page is to be read
pub maps-one : (maps : List MapPage) (n : ℕ) (m : MapPage) → n < length maps → m ≡ get_or maps n m → 1 + length (drop (n + 1) maps) ≡ length (drop n maps)
maps-one maps n m within is = let next = ap length (drop-next maps n m within is) in omega (arith, next)

-- after a map page
finish_at : (n place nodes : ℕ) (more : ℕ) → 2 + 2 * nodes ≤ place → n ≡ 0 → 1 + cond (ltb place (2 + nodes)) more 0 ≡ 1 + n
finish_at n place nodes more above none =
    let far : ltb place (2 + nodes) ≡ false = le-ltb place (2 + nodes) (omega (arith, above)) in
    let last : cond (ltb place (2 + nodes)) more 0 ≡ 0 = ap (λ (b : Bool). cond b more 0) far in
    omega (arith, last, none)

pub maps-fall : (claimed : Claimed) (after : MountStage) → LeavesMaps (length (drop claimed.tree.next claimed.tree.maps.items)) claimed.tree.head claimed.map.reference.place after → FallsTo (ReadMap claimed) after
maps-fall claimed (ReadHome h) left = absurd left
maps-fall claimed (ReadMap m) left = omega (arith, left)
maps-fall claimed (Finish w) left =
    let count = length (drop claimed.tree.next claimed.tree.maps.items) in
    ap (λ (p : ℕ). 1 + cond (ltb p (2 + w.head.nodes)) (most_maps w.head) 0) left.2
    ∙ ap (λ (h : Head). 1 + cond (ltb claimed.map.reference.place (2 + h.nodes)) (most_maps h) 0) left.1
    ∙ finish_at count claimed.map.reference.place claimed.tree.head.nodes (most_maps claimed.tree.head) claimed.above left.0
maps-fall claimed (Refused r) left = absurd left

-- after a home
pub home-falls : (h : Homes) (nodes : List Node) (node : Node) → nodes ≡ h.nodes ++ node ∷ [] → (h.head.nodes - length nodes) + most_maps h.head < (h.head.nodes - length h.nodes) + most_maps h.head
home-falls h nodes node is =
    let more : length nodes ≡ length h.nodes + 1 = ap length is ∙ length_push h.nodes node in
    let left = h.left in
    omega (arith, more, left)

-- after the last one
last_at : (n count : ℕ) (more : ℕ) → n ≡ count + 1 → 1 + cond (ltb (1 + n) (2 + n)) more 0 ≡ (n - count) + more
last_at n count more last =
    let near : ltb (1 + n) (2 + n) ≡ true = lt-ltb (1 + n) (2 + n) (omega arith) in
    let home : cond (ltb (1 + n) (2 + n)) more 0 ≡ more = ap (λ (b : Bool). cond b more 0) near in
    omega (arith, home, last)

pub last-falls : (h : Homes) (count : ℕ) (after : MountStage) → length h.nodes + 1 ≡ h.head.nodes → count ≤ most_maps h.head → LeavesMaps count h.head (1 + h.head.nodes) after → FallsTo (ReadHome h) after
last-falls h count (ReadHome k) last few left = absurd left
last-falls h count (ReadMap m) last few left = omega (arith, last, few, left)
last-falls h count (Finish w) last few left =
    ap (λ (p : ℕ). 1 + cond (ltb p (2 + w.head.nodes)) (most_maps w.head) 0) left.2
    ∙ ap (λ (x : Head). 1 + cond (ltb (1 + h.head.nodes) (2 + x.nodes)) (most_maps x) 0) left.1
    ∙ last_at h.head.nodes (length h.nodes) (most_maps h.head) (sym last)
last-falls h count (Refused r) last few left = absurd left

pub on-falls : (h : Homes) (count : ℕ) (after : MountStage) (r : Result (Unit {0}) RecoverError) → length h.nodes + 1 ≡ h.head.nodes → count ≤ most_maps h.head → OnOk r (LeavesMaps count h.head (1 + h.head.nodes) after) → OnOk r (FallsTo (ReadHome h) after)
on-falls h count after (Ok x) last few left = last-falls h count after last few left
on-falls h count after (Err e) last few left = tt

pub on-maps : (claimed : Claimed) (after : MountStage) (r : Result (Unit {0}) RecoverError) → OnOk r (LeavesMaps (length (drop claimed.tree.next claimed.tree.maps.items)) claimed.tree.head claimed.map.reference.place after) → OnOk r (FallsTo (ReadMap claimed) after)
on-maps claimed after (Ok x) left = maps-fall claimed after left
on-maps claimed after (Err e) left = tt
