-- What map pages that were read say of the references that they set.
use Rattle.std.proofs.Common.{◌≡◌, ◌⊎◌, ℕ, zero, suc, ◌+◌, ◌-◌, ◌*◌, ◌<◌, ◌≤◌, min, Bool, true, false, not, cond, List, [], ◌∷◌, ◌++◌, length, take, drop, Option, Some, None, Result, Ok, Err, refl, sym, ap, subst, ◌∙◌, inl, inr, append-nil, append_assoc, length-append, length-drop, arith}
use Rattle.std.proofs.lemmas.Bool.{cases_lt}
use Rattle.std.proofs.lemmas.List.{drop_at, drop_all, length-take, take-append-drop, take_all, take_at}
use Rattle.std.proofs.lemmas.Slice.Eq.{bytes_eq-Decides}
use Rattle.std.specs.List.{flat_map}
use Rattle.std.specs.Str.{bytes_eq}
use Rattle.sha2.specs.Sha256.{sha256}
use Rattle.vb_block.specs.declared.digest.Ref.{Ref}
use Rattle.vb_block.specs.declared.why.Why.TheVariants.{Rest}
use Rattle.vb_index.specs.declared.held.Held.{Held}
use Rattle.vb_index.specs.Nodes.{held_at}
use Rattle.vb_inode.specs.declared.errors.MapError.{MapError}
use Rattle.vb_inode.specs.declared.errors.MapError.TheVariants.{Wrong, Memory}
use Rattle.vb_inode.specs.Checks.{are_zeros}
use Rattle.vb_inode.specs.Layout.{refs_in}
use Rattle.vb_inode.specs.Reading.{map_read}
use Rattle.vb_journal.specs.declared.recover_error.RecoverError.{RecoverError}
use Rattle.vb_journal.specs.declared.recover_error.RecoverError.TheVariants.{Damaged}
use Rattle.vb_nodes.specs.Claiming.{ClaimsState}
use Rattle.vb_store.specs.declared.map_page.MapPage.{MapPage}
use Rattle.vb_store.specs.Metadata.{Mapped, after_claim, after_page, all_claimed_by, and_then, claimed_by, map_checked, maps_from, maps_left, maps_of, maps_of_node, refs_or_refusal, with_refs_at}
use Rattle.vb_store.proofs.Chains.{and_then-ok, refuse-ok}
use Rattle.vb_store.proofs.ReferencesSet.{length-refs_in}
use Rattle.vb_store.proofs.SameJournals.{not_false}
use Rattle.vb_tree.specs.Trees.{data_pages_of, map_pages_of}
use Rattle.vb_views.proofs.MapsTaken.{GivesGroups, left_append, refs_set, with_refs}

-- ---- one map page

claim_was : (block : ℕ) (m : MapPage) (known end : Mapped) → after_claim block m known ≡ Ok end → (claims : ClaimsState) × (end ≡ record { slots = known.slots; claims = claims })
claim_was block m known end is =
    let one = and_then-ok (claimed_by block known.claims m.reference.place) (λ claims. Ok (record known { claims = claims })) end is in
    let same : (let next : Mapped = record known { claims = one.value } in next ≡ end) = cc one.then in
    (one.value, sym same)

counted : (zeros : Bool) (count : ℕ) (page : List ℕ) (refs : List Ref) → cond zeros (Ok (refs_in count page)) (Err (Wrong Rest)) ≡ Ok refs → length refs ≡ count
counted true count page refs is = let same : refs_in count page ≡ refs = cc is in ap length (sym same) ∙ length-refs_in count page
counted false count page refs is = absurd (cc is)

pub read-count : (count : ℕ) (page : List ℕ) (refs : List Ref) → map_read count page ≡ Ok refs → length refs ≡ count
unfolding map_read
read-count count page refs is = counted (are_zeros (drop (36 * count) page)) count page refs is

unrefused : (place : ℕ) (r : Result (List Ref) MapError) (refs : List Ref) → refs_or_refusal place r ≡ Ok refs → r ≡ Ok refs
unrefused place (Ok l) refs is = cc is
unrefused place (Err (Wrong why)) refs is = absurd (cc is)
unrefused place (Err Memory) refs is = absurd (cc is)

-- what a map page was read as
pub record IsPageRead (m : MapPage) (page : List ℕ) (known end : Mapped) : Type 0 where
  pub refs : List Ref
  pub claims : ClaimsState
  pub due : sha256 page ≡ m.reference.digest
  pub read : map_read m.count page ≡ Ok refs
  pub is : end ≡ record { slots = with_refs_at known.slots m.slot m.first refs; claims = claims }

page_was : (m : MapPage) (page : List ℕ) (known end : Mapped) → after_page m page known ≡ Ok end → IsPageRead m page known end
page_was m page known end is =
    let last : List Ref → ClaimsState → Result Mapped RecoverError = λ refs all. Ok (record { slots = with_refs_at known.slots m.slot m.first refs; claims = all }) in
    let one = and_then-ok (map_checked m page) (λ refs. and_then (all_claimed_by m.reference.place known.claims refs) (last refs)) end is in
    let two = and_then-ok (all_claimed_by m.reference.place known.claims one.value) (last one.value) end one.then in
    let passed = refuse-ok (not (bytes_eq m.reference.digest (sha256 page))) (Damaged m.reference.place m.reference.digest (sha256 page)) (refs_or_refusal m.reference.place (map_read m.count page)) one.value one.is in
    let same : (let next : Mapped = record { slots = with_refs_at known.slots m.slot m.first one.value; claims = two.value } in next ≡ end) = cc two.then in
    record {
      refs = one.value;
      claims = two.value;
      due = sym ((bytes_eq-Decides m.reference.digest (sha256 page)).0 (not_false (bytes_eq m.reference.digest (sha256 page)) passed.test_is));
      read = unrefused m.reference.place (map_read m.count page) one.value passed.then;
      is = sym same;
    }

-- ---- one file

-- the first group of some references, and the rest
first_group : (group rest : List Ref) (n : ℕ) → (length group ≡ n) ⊎ ((length group ≤ n) × (rest ≡ [])) → (take n (group ++ rest) ≡ group) × (drop n (group ++ rest) ≡ rest)
first_group group rest n (inl full) = (take_at group rest n full, drop_at group rest n full)
first_group group rest n (inr few) =
    let all : group ++ rest ≡ group = ap (λ (l : List Ref). group ++ l) few.1 ∙ append-nil group in
    (ap (take n) all ∙ take_all n group few.0, ap (drop n) all ∙ drop_all n group few.0 ∙ sym few.1)

nothing : (refs : List Ref) → length refs ≡ 0 → refs ≡ []
nothing [] none = refl
nothing (r ∷ rs) none = absurd (omega (arith, none))

-- the references that the map pages of a file set
pub record IsFileRead (reads : ℕ → List ℕ) (before after : List (Option Held)) (h : Held) (front maps : List Ref) (count : ℕ) (end : Mapped) : Type 0 where
  pub refs : List Ref
  pub claims : ClaimsState
  pub long : length refs ≡ count
  pub is : end ≡ record { slots = before ++ Some (with_refs h (front ++ refs)) ∷ after; claims = claims }
  pub gives : GivesGroups reads maps refs

file_read : (reads : ℕ → List ℕ) (places : ℕ → ℕ) (before after : List (Option Held)) (h : Held) (slot first : ℕ) (front olds maps : List Ref) (claims : ClaimsState) (end : Mapped) → slot ≡ length before → (0 < length maps → first ≡ length front) → length olds ≤ 113 * length maps → 113 * length maps < length olds + 113 → h.refs ≡ front ++ olds → maps_left reads places (maps_from slot first (length olds) maps) (record { slots = before ++ Some h ∷ after; claims = claims }) ≡ Ok end → IsFileRead reads before after h front maps (length olds) end
file_read reads places before after h slot first front [] [] claims end own at few many is left =
    let same : (let known : Mapped = record { slots = before ++ Some h ∷ after; claims = claims } in known ≡ end) = cc left in
    record {
      refs = [];
      claims = claims;
      long = refl;
      is = sym same ∙ ap (λ (l : List Ref). let known : Mapped = record { slots = before ++ Some (with_refs h l) ∷ after; claims = claims } in known) is;
      gives = tt;
    }
file_read reads places before after h slot first front (x ∷ xs) [] claims end own at few many is left = absurd (omega (arith, few))
file_read reads places before after h slot first front olds (r ∷ rs) claims end own at few many is left =
    let m : MapPage = record { slot = slot; first = first; count = min (length olds) 113; reference = r } in
    let rest : List Ref = drop 113 olds in
    let now : Mapped = record { slots = before ++ Some h ∷ after; claims = claims } in
    let one = and_then-ok (after_claim (places slot) m now) (λ claimed. and_then (after_page m (reads r.place) claimed) (maps_left reads places (maps_from slot (first + 113) (length olds - 113) rs))) end left in
    let two = and_then-ok (after_page m (reads r.place) one.value) (maps_left reads places (maps_from slot (first + 113) (length olds - 113) rs)) end one.then in
    let claim = claim_was (places slot) m now one.value one.is in
    let page = page_was m (reads r.place) one.value two.value two.is in
    let group : List Ref = page.refs in
    let long : length group ≡ min (length olds) 113 = read-count m.count (reads r.place) group page.read in
    let first_olds : length (take 113 olds) ≡ length group = omega (arith, long, length-take 113 olds) in
    let then : Held = with_refs h (front ++ (group ++ rest)) in
    let split : h.refs ≡ front ++ (take 113 olds ++ rest) = is ∙ ap (λ (l : List Ref). front ++ l) (sym (take-append-drop 113 olds)) in
    let set : with_refs_at one.value.slots slot first group ≡ before ++ Some then ∷ after =
    ap (λ (k : Mapped). with_refs_at k.slots slot first group) claim.1 ∙ ap (λ (s : ℕ). with_refs_at now.slots s first group) own
    ∙ refs_set before after h front (take 113 olds) group rest first split first_olds (at (omega arith)) in
    let value : two.value ≡ record { slots = before ++ Some then ∷ after; claims = page.claims } =
    page.is ∙ ap (λ (s : List (Option Held)). let k : Mapped = record { slots = s; claims = page.claims } in k) set in
    let count : length olds - 113 ≡ length rest = sym (length-drop 113 olds) in
    let later : maps_left reads places (maps_from slot (first + 113) (length rest) rs) (record { slots = before ++ Some then ∷ after; claims = page.claims }) ≡ Ok end =
    ap (λ (n : ℕ). maps_left reads places (maps_from slot (first + 113) n rs) (record { slots = before ++ Some then ∷ after; claims = page.claims })) (sym count)
    ∙ ap (maps_left reads places (maps_from slot (first + 113) (length olds - 113) rs)) (sym value) ∙ two.then in
    let more = file_read reads places before after then slot (first + 113) (front ++ group) rest rs page.claims end own
    (λ some. omega (arith, some, at (omega arith), many, long, length-append front group))
    (omega (arith, few, count)) (omega (arith, many, count)) (sym (append_assoc front group rest)) later in
    let either : (length group ≡ 113) ⊎ ((length group ≤ 113) × (more.refs ≡ [])) = elim (cases_lt (length olds) 113) [
      | inl short ↦ inr (omega (arith, long), nothing more.refs (omega (arith, more.long, count, short)))
      | inr full ↦ inl (omega (arith, long, full))
    ] in
    let parts = first_group group more.refs 113 either in
    let Reads : List Ref → Type 0 = λ l. map_read (length l) (reads r.place) ≡ Ok l in
    let read : Reads group = ap (λ (n : ℕ). map_read n (reads r.place)) long ∙ page.read in
    record {
      refs = group ++ more.refs;
      claims = more.claims;
      long = omega (arith, long, more.long, count, length-append group more.refs);
      is = more.is ∙ ap (λ (l : List Ref). let k : Mapped = record { slots = before ++ Some (with_refs h l) ∷ after; claims = more.claims } in k) (append_assoc front group more.refs);
      gives = (page.due, subst Reads (sym parts.0) read, subst (GivesGroups reads rs) (sym parts.1) more.gives);
    }

-- ---- all files

-- a slot holds what it held, with the references that reads give
abbrev pub IsReadOf : (ℕ → List ℕ) → Option Held → Option Held → Type 0
IsReadOf reads None None = Unit {0}
IsReadOf reads None (Some b) = ⊥
IsReadOf reads (Some a) None = ⊥
IsReadOf reads (Some a) (Some b) = (b.node ≡ a.node) × (length b.refs ≡ length a.refs) × GivesGroups reads a.node.maps b.refs

-- so does each
abbrev pub AllReadOf : (ℕ → List ℕ) → List (Option Held) → List (Option Held) → Type 0
AllReadOf reads [] [] = Unit {0}
AllReadOf reads [] (b ∷ bs) = ⊥
AllReadOf reads (a ∷ as_) [] = ⊥
AllReadOf reads (a ∷ as_) (b ∷ bs) = IsReadOf reads a b × AllReadOf reads as_ bs

pub at-read : (reads : ℕ → List ℕ) (olds news : List (Option Held)) (k : ℕ) → AllReadOf reads olds news → IsReadOf reads (held_at olds k) (held_at news k)
at-read reads [] [] k all = tt
at-read reads [] (b ∷ bs) k all = absurd all
at-read reads (a ∷ olds) [] k all = absurd all
at-read reads (a ∷ olds) (b ∷ news) zero all = all.0
at-read reads (a ∷ olds) (b ∷ news) (suc k) all = at-read reads olds news k all.1

-- what a slot holds has as many references as pages, and stands there
pub record IsReadable (slot : ℕ) (held : Held) : Type 0 where
  pub own : held.node.slot ≡ slot
  pub refs : length held.refs ≡ data_pages_of held.node.length
  pub maps : length held.node.maps ≡ map_pages_of held.node.length

pub record AreSlotsRead (reads : ℕ → List ℕ) (before rest : List (Option Held)) (end : Mapped) : Type 0 where
  pub final : List (Option Held)
  pub slots : end.slots ≡ before ++ final
  pub like : AllReadOf reads rest final

pub slots-read : (reads : ℕ → List ℕ) (places : ℕ → ℕ) (before rest : List (Option Held)) (claims : ClaimsState) (end : Mapped) → ((k : ℕ) (held : Held) → held_at rest k ≡ Some held → IsReadable (length before + k) held) → maps_left reads places (flat_map maps_of rest) (record { slots = before ++ rest; claims = claims }) ≡ Ok end → AreSlotsRead reads before rest end
slots-read reads places before [] claims end each is =
    let same : (let known : Mapped = record { slots = before ++ []; claims = claims } in known ≡ end) = cc is in
    record { final = []; slots = ap (λ (k : Mapped). k.slots) (sym same); like = tt }
slots-read reads places before (None ∷ rest) claims end each is =
    let longer : length (before ++ None ∷ []) ≡ suc (length before) = omega (arith, length-append before (let l : List (Option Held) = None ∷ [] in l)) in
    let more = slots-read reads places (before ++ None ∷ []) rest claims end
    (λ k held there. subst (λ (n : ℕ). IsReadable n held) (let e : length before + suc k ≡ length (before ++ None ∷ []) + k = omega (arith, longer) in e) (each (suc k) held there))
    (ap (λ (l : List (Option Held)). maps_left reads places (flat_map maps_of rest) (record { slots = l; claims = claims })) (append_assoc before (None ∷ []) rest) ∙ is) in
    record { final = None ∷ more.final; slots = more.slots ∙ append_assoc before (None ∷ []) more.final; like = (tt, more.like) }
slots-read reads places before (Some held ∷ rest) claims end each is =
    let here : IsReadable (length before) held = subst (λ (n : ℕ). IsReadable n held) (let e : length before + 0 ≡ length before = omega arith in e) (each 0 held refl) in
    let now : Mapped = record { slots = before ++ Some held ∷ rest; claims = claims } in
    let both = and_then-ok (maps_left reads places (maps_of_node held.node) now) (maps_left reads places (flat_map maps_of rest)) end (sym (left_append reads places (maps_of_node held.node) (flat_map maps_of rest) now) ∙ is) in
    let file = file_read reads places before rest held held.node.slot 0 [] held.refs held.node.maps claims both.value here.own (λ some. refl)
    (omega (arith, here.refs, here.maps)) (omega (arith, here.refs, here.maps)) refl
    (ap (λ (n : ℕ). maps_left reads places (maps_from held.node.slot 0 n held.node.maps) now) here.refs ∙ both.is) in
    let new : Held = with_refs held file.refs in
    let front : List (Option Held) = before ++ Some new ∷ [] in
    let longer : length front ≡ suc (length before) = omega (arith, length-append before (let l : List (Option Held) = Some new ∷ [] in l)) in
    let more = slots-read reads places front rest file.claims end
    (λ k h there. subst (λ (n : ℕ). IsReadable n h) (let e : length before + suc k ≡ length front + k = omega (arith, longer) in e) (each (suc k) h there))
    (ap (λ (l : List (Option Held)). maps_left reads places (flat_map maps_of rest) (record { slots = l; claims = file.claims })) (append_assoc before (Some new ∷ []) rest)
    ∙ ap (maps_left reads places (flat_map maps_of rest)) (sym file.is) ∙ both.then) in
    record {
      final = Some new ∷ more.final;
      slots = more.slots ∙ append_assoc before (Some new ∷ []) more.final;
      like = ((refl, file.long, file.gives), more.like);
    }
