-- Map pages that are those of their references set each reference of an index.
use Rattle.std.proofs.Common.{◌≡◌, ℕ, zero, suc, ◌+◌, ◌-◌, ◌*◌, ◌<◌, ◌≤◌, min, not, List, [], ◌∷◌, ◌++◌, length, get_or, take, drop, slice_set, replicate, map, Option, Some, None, Result, Ok, Err, refl, sym, ap, subst, ◌∙◌, append_assoc, length-append, length-drop, arith}
use Rattle.std.proofs.lemmas.List.{length-take, replicate-append-replicate, take-append-drop}
use Rattle.std.proofs.lemmas.Slice.Eq.{bytes_eq-Decides}
use Rattle.std.specs.List.{flat_map}
use Rattle.std.specs.Option.{option_map}
use Rattle.std.specs.Str.{bytes_eq}
use Rattle.sha2.specs.Sha256.{sha256}
use Rattle.vb_block.specs.declared.digest.Ref.{Ref}
use Rattle.vb_index.specs.declared.held.Held.{Held}
use Rattle.vb_index.specs.Changes.{blank_ref, with_ref}
use Rattle.vb_index.specs.Nodes.{held_at}
use Rattle.vb_inode.specs.Reading.{map_read}
use Rattle.vb_journal.specs.declared.recover_error.RecoverError.{RecoverError}
use Rattle.vb_journal.specs.declared.recover_error.RecoverError.TheVariants.{Damaged}
use Rattle.vb_nodes.specs.Claiming.{ClaimsState, claim_answer, with_claim}
use Rattle.vb_store.specs.declared.map_page.MapPage.{MapPage}
use Rattle.vb_store.specs.Metadata.{Mapped, after_claim, after_page, all_claimed_by, and_then, map_checked, maps_from, maps_left, maps_of, maps_of_node, refs_or_refusal, with_ref_at, with_refs_at}
use Rattle.vb_store.specs.Views.{places_of}
use Rattle.vb_store.proofs.Chains.{refuse-passed}
use Rattle.vb_tree.specs.Trees.{data_pages_of, map_pages_of}
use Rattle.vb_views.proofs.ClaimedPlaces.{CanClaim, can-first, can-rest, claimed, claimed-append, claimed-one, claimed-refs}

-- ---- items at a seam

pub at_seam : {X : Type 0} (before after : List X) (x d : X) → get_or (before ++ x ∷ after) (length before) d ≡ x
at_seam [] after x d = refl
at_seam (b ∷ bs) after x d = at_seam bs after x d

pub set_seam : {X : Type 0} (before after : List X) (x y : X) → slice_set (before ++ x ∷ after) (length before) y ≡ before ++ y ∷ after
set_seam [] after x y = refl
set_seam (b ∷ bs) after x y = ap (λ l. b ∷ l) (set_seam bs after x y)

-- what is held, with other references
abbrev pub with_refs : Held → List Ref → Held
with_refs held refs = record held { refs = refs }

-- references of a file that are set one after the other
pub refs_set : (before after : List (Option Held)) (h : Held) (front olds news back : List Ref) (first : ℕ) → h.refs ≡ front ++ (olds ++ back) → length olds ≡ length news → first ≡ length front → with_refs_at (before ++ Some h ∷ after) (length before) first news ≡ before ++ Some (with_refs h (front ++ (news ++ back))) ∷ after
refs_set before after h front [] [] back first is same at = ap (λ (l : List Ref). before ++ Some (with_refs h l) ∷ after) is
refs_set before after h front [] (n ∷ news) back first is same at = absurd (omega (arith, same))
refs_set before after h front (o ∷ olds) [] back first is same at = absurd (omega (arith, same))
refs_set before after h front (o ∷ olds) (n ∷ news) back first is same at =
    let set : Held = with_ref first n h in
    let step : with_ref_at (before ++ Some h ∷ after) (length before) first n ≡ before ++ Some set ∷ after =
    ap (λ (x : Option Held). slice_set (before ++ Some h ∷ after) (length before) (option_map (with_ref first n) x)) (at_seam before after (Some h) None) ∙ set_seam before after (Some h) (Some set) in
    let refs : set.refs ≡ (front ++ n ∷ []) ++ (olds ++ back) =
    ap (λ (l : List Ref). slice_set l first n) is ∙ ap (λ (k : ℕ). slice_set (front ++ o ∷ (olds ++ back)) k n) at
    ∙ set_seam front (olds ++ back) o n ∙ sym (append_assoc front (n ∷ []) (olds ++ back)) in
    ap (λ (s : List (Option Held)). with_refs_at s (length before) (first + 1) news) step
    ∙ refs_set before after set (front ++ n ∷ []) olds news back (first + 1) refs (omega (arith, same)) (omega (arith, at, length-append front (n ∷ [])))
    ∙ ap (λ (l : List Ref). before ++ Some (with_refs h l) ∷ after) (append_assoc front (n ∷ []) (news ++ back))

-- ---- one map page

claim_taken : (block : ℕ) (m : MapPage) (slots : List (Option Held)) (claims : ClaimsState) → claim_answer claims m.reference.place ≡ Ok tt → after_claim block m (record { slots = slots; claims = claims }) ≡ Ok (record { slots = slots; claims = with_claim claims m.reference.place })
claim_taken block m slots claims can =
    ap (λ (c : Result ClaimsState RecoverError). and_then c (λ all. let r : Result Mapped RecoverError = Ok (record { slots = slots; claims = all }) in r)) (claimed-one block claims m.reference.place can)

map_is : (m : MapPage) (page : List ℕ) (refs : List Ref) → m.count ≡ length refs → map_read (length refs) page ≡ Ok refs → sha256 page ≡ m.reference.digest → map_checked m page ≡ Ok refs
map_is m page refs count is due =
    let read : map_read m.count page ≡ Ok refs = ap (λ (n : ℕ). map_read n page) count ∙ is in
    refuse-passed (not (bytes_eq m.reference.digest (sha256 page))) (Damaged m.reference.place m.reference.digest (sha256 page)) (refs_or_refusal m.reference.place (map_read m.count page)) refs
    (ap not ((bytes_eq-Decides m.reference.digest (sha256 page)).1 (sym due)))
    (ap (refs_or_refusal m.reference.place) read)

page_taken : (m : MapPage) (page : List ℕ) (slots : List (Option Held)) (claims : ClaimsState) (refs : List Ref) → map_checked m page ≡ Ok refs → CanClaim claims (places_of refs) → after_page m page (record { slots = slots; claims = claims }) ≡ Ok (record { slots = with_refs_at slots m.slot m.first refs; claims = claimed claims (places_of refs) })
page_taken m page slots claims refs is can =
    let last : List Ref → ClaimsState → Result Mapped RecoverError = λ rs all. Ok (record { slots = with_refs_at slots m.slot m.first rs; claims = all }) in
    ap (λ (c : Result (List Ref) RecoverError). and_then c (λ rs. and_then (all_claimed_by m.reference.place claims rs) (last rs))) is
    ∙ ap (λ (c : Result ClaimsState RecoverError). and_then c (last refs)) (claimed-refs m.reference.place claims refs can)

-- ---- one file

-- the places of a file in the order in which they are claimed: that of each map page, and then those of its references
abbrev pub order_from : List Ref → List Ref → List ℕ
order_from [] refs = []
order_from (r ∷ rs) refs = r.place ∷ (places_of (take 113 refs) ++ order_from rs (drop 113 refs))

-- reads give its map pages, each of them with its digest and of its references
abbrev pub GivesGroups : (ℕ → List ℕ) → List Ref → List Ref → Type 0
GivesGroups reads [] refs = Unit {0}
GivesGroups reads (r ∷ rs) refs = (sha256 (reads r.place) ≡ r.digest) × (map_read (length (take 113 refs)) (reads r.place) ≡ Ok (take 113 refs)) × GivesGroups reads rs (drop 113 refs)

blanks_split : (n m : ℕ) → replicate {A = Ref} (n + m) blank_ref ≡ replicate n blank_ref ++ replicate m blank_ref
blanks_split n m = sym (replicate-append-replicate n m blank_ref)

parts : (refs : List Ref) → length refs ≡ length (take 113 refs) + length (drop 113 refs)
parts refs = ap length (sym (take-append-drop 113 refs)) ∙ length-append (take 113 refs) (drop 113 refs)

-- what is known after a file whose first references stand already
file_taken : (reads : ℕ → List ℕ) (places : ℕ → ℕ) (before after : List (Option Held)) (h : Held) (slot first : ℕ) (front refs maps : List Ref) (claims : ClaimsState) → slot ≡ length before → (0 < length maps → first ≡ length front) → length refs ≤ 113 * length maps → 113 * length maps < length refs + 113 → GivesGroups reads maps refs → h.refs ≡ front ++ replicate (length refs) blank_ref → CanClaim claims (order_from maps refs) → maps_left reads places (maps_from slot first (length refs) maps) (record { slots = before ++ Some h ∷ after; claims = claims }) ≡ Ok (record { slots = before ++ Some (with_refs h (front ++ refs)) ∷ after; claims = claimed claims (order_from maps refs) })
file_taken reads places before after h slot first front [] [] claims own at few many gives is can =
    ap (λ (l : List Ref). let r : Result Mapped RecoverError = Ok (record { slots = before ++ Some (with_refs h l) ∷ after; claims = claims }) in r) is
file_taken reads places before after h slot first front (x ∷ xs) [] claims own at few many gives is can = absurd (omega (arith, few))
file_taken reads places before after h slot first front refs (r ∷ rs) claims own at few many gives is can =
    let group = take 113 refs in
    let rest = drop 113 refs in
    let m : MapPage = record { slot = slot; first = first; count = min (length refs) 113; reference = r } in
    let one : ClaimsState = with_claim claims r.place in
    let all : ClaimsState = claimed one (places_of group) in
    let now : List (Option Held) = before ++ Some h ∷ after in
    let counted : m.count ≡ length group = omega (arith, length-take 113 refs) in
    let left : length refs - 113 ≡ length rest = sym (length-drop 113 refs) in
    let then : Held = with_refs h (front ++ (group ++ replicate (length rest) blank_ref)) in
    let olds : h.refs ≡ front ++ (replicate (length group) blank_ref ++ replicate (length rest) blank_ref) =
    is ∙ ap (λ (n : ℕ). front ++ replicate n blank_ref) (parts refs) ∙ ap (λ (l : List Ref). front ++ l) (blanks_split (length group) (length rest)) in
    let set : with_refs_at now slot first group ≡ before ++ Some then ∷ after =
    ap (λ (s : ℕ). with_refs_at now s first group) own
    ∙ refs_set before after h front (replicate (length group) blank_ref) group (replicate (length rest) blank_ref) first olds (length-blanks (length group)) (at (omega arith)) in
    let read : map_checked m (reads r.place) ≡ Ok group = map_is m (reads r.place) group counted gives.1 gives.0 in
    let page : after_page m (reads r.place) (record { slots = now; claims = one }) ≡ Ok (record { slots = before ++ Some then ∷ after; claims = all }) =
    page_taken m (reads r.place) now one group read (can-first one (places_of group) (order_from rs rest) can.1)
    ∙ ap (λ (s : List (Option Held)). let k : Result Mapped RecoverError = Ok (record { slots = s; claims = all }) in k) set in
    let next = file_taken reads places before after then slot (first + 113) (front ++ group) rest rs all own
    (λ more. omega (arith, more, at (omega arith), many, length-take 113 refs, length-append front group))
    (omega (arith, few, left)) (omega (arith, many, left)) gives.2
    (sym (append_assoc front group (replicate (length rest) blank_ref)))
    (can-rest one (places_of group) (order_from rs rest) can.1) in
    ap (λ (k : Result Mapped RecoverError). and_then k (λ claimed. and_then (after_page m (reads r.place) claimed) (maps_left reads places (maps_from slot (first + 113) (length refs - 113) rs)))) (claim_taken (places slot) m now claims can.0)
    ∙ ap (λ (k : Result Mapped RecoverError). and_then k (maps_left reads places (maps_from slot (first + 113) (length refs - 113) rs))) page
    ∙ ap (λ (n : ℕ). maps_left reads places (maps_from slot (first + 113) n rs) (record { slots = before ++ Some then ∷ after; claims = all })) left
    ∙ next
    ∙ ap (λ (l : List Ref). let k : Result Mapped RecoverError = Ok (record { slots = before ++ Some (with_refs h l) ∷ after; claims = claimed all (order_from rs rest) }) in k) (append_assoc front group rest ∙ ap (λ (l : List Ref). front ++ l) (take-append-drop 113 refs))
    ∙ ap (λ (c : ClaimsState). let k : Result Mapped RecoverError = Ok (record { slots = before ++ Some (with_refs h (front ++ refs)) ∷ after; claims = c }) in k) (sym (claimed-append one (places_of group) (order_from rs rest)))
  where
    length-blanks : (n : ℕ) → length (replicate n blank_ref) ≡ n
    length-blanks zero = refl
    length-blanks (suc n) = ap suc (length-blanks n)

-- ---- all files

-- what is held of a node before its references are set
abbrev pub blank_held : Held → Held
blank_held held = with_refs held (replicate (data_pages_of held.node.length) blank_ref)

-- so for all slots
abbrev pub blanked : List (Option Held) → List (Option Held)
blanked nodes = map (option_map blank_held) nodes

-- the places of a slot in the order in which they are claimed
abbrev pub order_of : Option Held → List ℕ
order_of None = []
order_of (Some held) = order_from held.node.maps held.refs

-- reads give the map pages of what this slot holds
pub record IsTakable (reads : ℕ → List ℕ) (slot : ℕ) (held : Held) : Type 0 where
  pub own : held.node.slot ≡ slot
  pub refs : length held.refs ≡ data_pages_of held.node.length
  pub maps : length held.node.maps ≡ map_pages_of held.node.length
  pub gives : GivesGroups reads held.node.maps held.refs

pub left_append : (reads : ℕ → List ℕ) (places : ℕ → ℕ) (xs ys : List MapPage) (known : Mapped) → maps_left reads places (xs ++ ys) known ≡ and_then (maps_left reads places xs known) (maps_left reads places ys)
left_append reads places [] ys known = refl
left_append reads places (m ∷ ms) ys known = by (left_append reads places ms ys) (after_claim (places m.slot) m known) where
  then_by : ((k : Mapped) → maps_left reads places (ms ++ ys) k ≡ and_then (maps_left reads places ms k) (maps_left reads places ys)) → (r : Result Mapped RecoverError) → and_then r (maps_left reads places (ms ++ ys)) ≡ and_then (and_then r (maps_left reads places ms)) (maps_left reads places ys)
  then_by again (Ok k) = again k
  then_by again (Err e) = refl

  by : ((k : Mapped) → maps_left reads places (ms ++ ys) k ≡ and_then (maps_left reads places ms k) (maps_left reads places ys)) → (r : Result Mapped RecoverError) → and_then r (λ claimed. and_then (after_page m (reads m.reference.place) claimed) (maps_left reads places (ms ++ ys))) ≡ and_then (and_then r (λ claimed. and_then (after_page m (reads m.reference.place) claimed) (maps_left reads places ms))) (maps_left reads places ys)
  by again (Ok k) = then_by again (after_page m (reads m.reference.place) k)
  by again (Err e) = refl

slot_taken : (reads : ℕ → List ℕ) (places : ℕ → ℕ) (before after : List (Option Held)) (held : Held) (claims : ClaimsState) → IsTakable reads (length before) held → CanClaim claims (order_of (Some held)) → maps_left reads places (maps_of_node held.node) (record { slots = before ++ Some (blank_held held) ∷ after; claims = claims }) ≡ Ok (record { slots = before ++ Some held ∷ after; claims = claimed claims (order_of (Some held)) })
slot_taken reads places before after held claims is can =
    ap (λ (n : ℕ). maps_left reads places (maps_from held.node.slot 0 n held.node.maps) (record { slots = before ++ Some (blank_held held) ∷ after; claims = claims })) (sym is.refs)
    ∙ file_taken reads places before after (blank_held held) held.node.slot 0 [] held.refs held.node.maps claims is.own (λ some. refl)
    (omega (arith, is.refs, is.maps)) (omega (arith, is.refs, is.maps)) is.gives
    (ap (λ (n : ℕ). replicate n blank_ref) (sym is.refs)) can

-- where each is given and its places can be claimed, all references are set
pub slots_taken : (reads : ℕ → List ℕ) (places : ℕ → ℕ) (before rest : List (Option Held)) (claims : ClaimsState) → ((k : ℕ) (held : Held) → held_at rest k ≡ Some held → IsTakable reads (length before + k) held) → CanClaim claims (flat_map order_of rest) → maps_left reads places (flat_map maps_of (blanked rest)) (record { slots = before ++ blanked rest; claims = claims }) ≡ Ok (record { slots = before ++ rest; claims = claimed claims (flat_map order_of rest) })
slots_taken reads places before [] claims each can = refl
slots_taken reads places before (None ∷ rest) claims each can =
    let longer : length (before ++ None ∷ []) ≡ suc (length before) = omega (arith, length-append before (let l : List (Option Held) = None ∷ [] in l)) in
    ap (λ (l : List (Option Held)). maps_left reads places (flat_map maps_of (blanked rest)) (record { slots = l; claims = claims })) (sym (append_assoc before (None ∷ []) (blanked rest)))
    ∙ slots_taken reads places (before ++ None ∷ []) rest claims (λ k held is. subst (λ (n : ℕ). IsTakable reads n held) (let e : length before + suc k ≡ length (before ++ None ∷ []) + k = omega (arith, longer) in e) (each (suc k) held is)) can
    ∙ ap (λ (l : List (Option Held)). let r : Result Mapped RecoverError = Ok (record { slots = l; claims = claimed claims (flat_map order_of rest) }) in r) (append_assoc before (None ∷ []) rest)
slots_taken reads places before (Some held ∷ rest) claims each can =
    let own = order_of (Some held) in
    let front : List (Option Held) = before ++ Some held ∷ [] in
    let longer : length front ≡ suc (length before) = omega (arith, length-append before (let l : List (Option Held) = Some held ∷ [] in l)) in
    let here : IsTakable reads (length before) held = subst (λ (n : ℕ). IsTakable reads n held) (let e : length before + 0 ≡ length before = omega arith in e) (each 0 held refl) in
    left_append reads places (maps_of_node held.node) (flat_map maps_of (blanked rest)) (record { slots = before ++ Some (blank_held held) ∷ blanked rest; claims = claims })
    ∙ ap (λ (r : Result Mapped RecoverError). and_then r (maps_left reads places (flat_map maps_of (blanked rest)))) (slot_taken reads places before (blanked rest) held claims here (can-first claims own (flat_map order_of rest) can))
    ∙ ap (λ (l : List (Option Held)). maps_left reads places (flat_map maps_of (blanked rest)) (record { slots = l; claims = claimed claims own })) (sym (append_assoc before (Some held ∷ []) (blanked rest)))
    ∙ slots_taken reads places front rest (claimed claims own) (λ k h is. subst (λ (n : ℕ). IsTakable reads n h) (let e : length before + suc k ≡ length front + k = omega (arith, longer) in e) (each (suc k) h is)) (can-rest claims own (flat_map order_of rest) can)
    ∙ ap (λ (l : List (Option Held)). let r : Result Mapped RecoverError = Ok (record { slots = l; claims = claimed (claimed claims own) (flat_map order_of rest) }) in r) (append_assoc before (Some held ∷ []) rest)
    ∙ ap (λ (c : ClaimsState). let r : Result Mapped RecoverError = Ok (record { slots = before ++ Some held ∷ rest; claims = c }) in r) (sym (claimed-append claims own (flat_map order_of rest)))
