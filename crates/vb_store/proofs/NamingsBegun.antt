-- How often places are named by a tree, none of whose map pages was read.
use Rattle.std.proofs.Common.{◌≡◌, ℕ, zero, suc, ◌+◌, ◌-◌, ◌/◌, ◌<◌, ◌≤◌, min, Bool, true, false, cond, ◌&&◌, nat_lt, eqb, ltb, leb, List, [], ◌∷◌, ◌++◌, length, get_or, map, replicate, Option, Some, None, unwrap_or, Result, Ok, Err, refl, sym, ap, subst, ◌∙◌, inl, inr, arith}
use Rattle.std.specs.List.{All, list_any}
use Rattle.std.specs.Option.{option_and_then}
use Rattle.std.proofs.lemmas.Bool.{and_from, cases_lt, eq-eqb, eqb-false, le-leb, lt-ltb, ltb-false, ne_eqb, or_left, or_right}
use Rattle.std.proofs.lemmas.List.{get_or-map, get_or_past, length-map, length-replicate}
use Rattle.std.proofs.lemmas.List.Elements.{All-get_or, All-head, All-tail, All-weaker}
use Rattle.std.proofs.lemmas.List.Folds.{list_any-append}
use Rattle.std.proofs.lemmas.List.Sums.{sum_by-cons}
use Rattle.vb_block.specs.declared.digest.Ref.{Ref}
use Rattle.vb_head.specs.declared.head.Head.{Head}
use Rattle.vb_index.specs.declared.held.Held.{Held}
use Rattle.vb_index.specs.Changes.{blank_ref}
use Rattle.vb_index.specs.Indexes.{IndexState}
use Rattle.vb_index.specs.Nodes.{held_at, is_file_node, pages_in, pages_of_slot, refs_of}
use Rattle.vb_inode.specs.declared.node.Node.{Node}
use Rattle.vb_inode.specs.Layout.{AreRefs}
use Rattle.vb_inode.specs.Nodes.{is_free}
use Rattle.vb_inode.specs.Reading.{IsNodeOf}
use Rattle.vb_nodes.specs.declared.errors.TableError.{TableError}
use Rattle.vb_nodes.specs.declared.errors.TableError.TheVariants.{Wrong as WrongNode, TooManyPages, Memory as NoMemoryForIndex}
use Rattle.vb_nodes.specs.Faults.{Fault, table_fault}
use Rattle.vb_nodes.specs.Holdings.{held_from, held_of, index_from, pages_of_nodes, refuse_fault}
use Rattle.vb_nodes.specs.Paths.{free_node}
use Rattle.vb_tree.specs.declared.tree.Limits.{Limits}
use Rattle.vb_tree.specs.Trees.{data_pages_of, map_pages_of, pages_of_length}
use Rattle.vb_store.specs.declared.map_page.MapPage.{MapPage}
use Rattle.vb_store.specs.Metadata.{index_or_refusal, maps_from, maps_in, maps_of, no_claims}
use Rattle.vb_store.specs.Namings.{AreBlanksNamed, AreNamedOnce, IsIndexOf, count_of, is_blank_at, names_page, namings_in, namings_of_slot, places_of_maps}
use Rattle.vb_store.specs.NodesRead.{AreRead}
use Rattle.vb_store.specs.Views.{limits_of, places_of}
use Rattle.vb_store.proofs.Namings.{count-cons}

-- ---- the index that nodes make

-- the index under limits that nodes make, and that they take no more pages
record IsMadeOf (limits : Limits) (nodes : List Node) (index : IndexState) : Type 0 where
  under : index.limits ≡ limits
  held : index.nodes ≡ held_of nodes
  few : pages_of_nodes nodes ≤ limits.pages

made_by : (fault : Option Fault) (many : Bool) (limits : Limits) (nodes : List Node) (index : IndexState) → nat_lt limits.pages (pages_of_nodes nodes) ≡ many
    → refuse_fault fault (cond many (Err TooManyPages) (Ok (record { limits = limits; nodes = held_of nodes }))) ≡ Ok index → IsMadeOf limits nodes index
made_by (Some fault) many limits nodes index less is = absurd (cc is)
made_by None true limits nodes index less is = absurd (cc is)
made_by None false limits nodes index less is =
    let same : (let made : IndexState = record { limits = limits; nodes = held_of nodes } in made ≡ index) = cc is in
    record {
      under = ap (λ (i : IndexState). i.limits) (sym same);
      held = ap (λ (i : IndexState). i.nodes) (sym same);
      few = ltb-false limits.pages (pages_of_nodes nodes) less;
    }

unrefused : (place : ℕ) (places : ℕ → ℕ) (r : Result IndexState TableError) (index : IndexState) → index_or_refusal place places r ≡ Ok index → r ≡ Ok index
unrefused place places (Ok i) index is = cc is
unrefused place places (Err (WrongNode slot why)) index is = absurd (cc is)
unrefused place places (Err TooManyPages) index is = absurd (cc is)
unrefused place places (Err NoMemoryForIndex) index is = absurd (cc is)

index_made : (place : ℕ) (places : ℕ → ℕ) (limits : Limits) (nodes : List Node) (index : IndexState) → index_or_refusal place places (index_from limits nodes) ≡ Ok index → IsMadeOf limits nodes index
index_made place places limits nodes index is = made_by (table_fault nodes) (nat_lt limits.pages (pages_of_nodes nodes)) limits nodes index refl (unrefused place places (index_from limits nodes) index is)

-- ---- what it holds

-- what an index holds of a node that isn't free
abbrev fresh : Node → Held
fresh node = record { node = node; refs = replicate (data_pages_of node.length) blank_ref }

fresh_by : (P : Held → Type 0) (free : Bool) (node : Node) (held : Held) → P (fresh node) → cond free None (Some (fresh node)) ≡ Some held → P held
fresh_by P true node held fits is = absurd (cc is)
fresh_by P false node held fits is = let same : fresh node ≡ held = cc is in subst P same fits

each_held : (P : Held → Type 0) (nodes : List Node) → All (λ node. P (fresh node)) nodes → (slot : ℕ) (held : Held) → held_at (held_of nodes) slot ≡ Some held → P held
each_held P [] all slot held is = absurd (cc is)
each_held P (node ∷ nodes) all zero held is = fresh_by P (is_free node.kind) node held (All-head (λ n. P (fresh n)) node nodes all) is
each_held P (node ∷ nodes) all (suc slot) held is = each_held P nodes (All-tail (λ n. P (fresh n)) node nodes all) slot held is

pages_by : (free : Bool) (node : Node) → pages_of_slot (cond free None (Some (fresh node))) ≤ pages_of_length node.length
pages_by true node = omega arith
pages_by false node = omega arith

pages_held : (nodes : List Node) → pages_in (held_of nodes) ≤ pages_of_nodes nodes
pages_held [] = omega arith
pages_held (node ∷ nodes) = omega (arith, pages_held nodes, pages_by (is_free node.kind) node, sum_by-cons pages_of_slot (held_from node) (held_of nodes), sum_by-cons (λ (n : Node). pages_of_length n.length) node nodes)

pub IsIndexOf-made : (head : Head) (place : ℕ) (places : ℕ → ℕ) (nodes : List Node) (index : IndexState) → length nodes ≡ head.nodes → AreRead head.nodes nodes → index_or_refusal place places (index_from (limits_of head) nodes) ≡ Ok index → IsIndexOf head index
IsIndexOf-made head place places nodes index all read is =
    let made = index_made place places (limits_of head) nodes index is in
    let Of : Node → Type 0 = λ n. IsNodeOf head.nodes n in
    let Fits : List (Option Held) → (Held → Type 0) → Type 0 = λ slots P. (slot : ℕ) (held : Held) → held_at slots slot ≡ Some held → P held in
    let Referred : Held → Type 0 = λ h. length h.refs ≡ data_pages_of h.node.length in
    let Mapped : Held → Type 0 = λ h. length h.node.maps ≡ map_pages_of h.node.length in
    let Named : Held → Type 0 = λ h. AreRefs h.node.maps in
    record {
      slots = ap length made.held ∙ length-map nodes held_from ∙ all;
      limits = made.under;
      pages = omega (arith, ap pages_in made.held, ap (λ (l : Limits). l.pages) made.under, pages_held nodes, made.few);
      refs = subst (λ slots. Fits slots Referred) (sym made.held) (each_held Referred nodes (All-weaker Of (λ n. Referred (fresh n)) (λ n of. length-replicate (data_pages_of n.length) blank_ref) nodes read.of_store));
      maps = subst (λ slots. Fits slots Mapped) (sym made.held) (each_held Mapped nodes (All-weaker Of (λ n. Mapped (fresh n)) (λ n of. of.in_range.mapped) nodes read.of_store));
      map_refs = subst (λ slots. Fits slots Named) (sym made.held) (each_held Named nodes (All-weaker Of (λ n. Named (fresh n)) (λ n of. of.refs) nodes read.of_store));
    }

-- ---- places

places_from : (slot first left : ℕ) (maps : List Ref) → places_of_maps (maps_from slot first left maps) ≡ places_of maps
places_from slot first left [] = refl
places_from slot first left (r ∷ rs) = ap (λ (l : List ℕ). r.place ∷ l) (places_from slot (first + 113) (left - 113) rs)

-- blank references name no place but 0
count_blank : (place many : ℕ) → eqb place 0 ≡ false → count_of place (places_of (replicate many blank_ref)) ≡ 0
count_blank place zero some = refl
count_blank place (suc many) some =
    let apart : eqb 0 place ≡ false = ne_eqb 0 place (λ same. eqb-false place 0 some (sym same)) in
    omega (arith, count-cons place 0 (places_of (replicate many blank_ref)), count_blank place many some, ap {B = ℕ} (λ (b : Bool). cond b 1 0) apart)

blank_refs : (file none : Bool) (place many : ℕ) → eqb place 0 ≡ none → cond none 0 (count_of place (places_of (unwrap_or (cond file (Some (replicate many blank_ref)) None) []))) ≡ 0
blank_refs file true place many is = refl
blank_refs true false place many is = count_blank place many is
blank_refs false false place many is = refl

namings_fresh : (free : Bool) (place : ℕ) (node : Node) → namings_of_slot place (cond free None (Some (fresh node))) ≤ count_of place (places_of_maps (maps_of (cond free None (Some (fresh node)))))
namings_fresh true place node = omega arith
namings_fresh false place node =
    omega (arith, blank_refs (is_file_node node.kind) (eqb place 0) place (data_pages_of node.length) refl, ap (count_of place) (places_from node.slot 0 (data_pages_of node.length) node.maps))

count_maps : (place : ℕ) (first rest : List MapPage) → count_of place (places_of_maps (first ++ rest)) ≡ count_of place (places_of_maps first) + count_of place (places_of_maps rest)
count_maps place [] rest = omega arith
count_maps place (m ∷ ms) rest =
    omega (arith, count_maps place ms rest, count-cons place m.reference.place (places_of_maps (ms ++ rest)), count-cons place m.reference.place (places_of_maps ms))

namings_held : (place : ℕ) (nodes : List Node) → namings_in place (held_of nodes) ≤ count_of place (places_of_maps (maps_in (held_of nodes)))
unfolding maps_in
namings_held place [] = omega arith
namings_held place (node ∷ nodes) =
    omega (
      arith,
      namings_held place nodes,
      namings_fresh (is_free node.kind) place node,
      sum_by-cons (namings_of_slot place) (held_from node) (held_of nodes),
      count_maps place (maps_of (held_from node)) (maps_in (held_of nodes)),
    )

-- no place is named but by the map pages
pub AreNamedOnce-made : (head : Head) (place : ℕ) (places : ℕ → ℕ) (nodes : List Node) (index : IndexState) → index_or_refusal place places (index_from (limits_of head) nodes) ≡ Ok index → AreNamedOnce index.nodes (no_claims head) (maps_in index.nodes)
AreNamedOnce-made head place places nodes index is =
    let made = index_made place places (limits_of head) nodes index is in
    subst (λ slots. AreNamedOnce slots (no_claims head) (maps_in slots)) (sym made.held) (record { once = λ p. omega (arith, namings_held p nodes) })

-- ---- blank references

min_either : (a b n : ℕ) → n < a → n < b → n < min a b
min_either a b n first second = omega (arith, first, second)

-- the map pages of a file name each of its pages
named_from : (slot first left page : ℕ) (maps : List Ref) → length maps ≡ (left + 112) / 113 → first ≤ page → page < first + left → list_any (names_page slot page) (maps_from slot first left maps) ≡ true
named_from slot first left page [] many from below = absurd (omega (arith, many, from, below))
named_from slot first left page (r ∷ rs) many from below =
    let m : MapPage = record { slot = slot; first = first; count = min left 113; reference = r } in
    let rest : List MapPage = maps_from slot (first + 113) (left - 113) rs in
    elim (cases_lt page (first + 113)) [
      | inl here ↦ or_left (names_page slot page m) (list_any (names_page slot page) rest)
          (and_from (eqb slot slot) (leb first page && ltb page (first + min left 113)) (eq-eqb slot slot refl)
          (and_from (leb first page) (ltb page (first + min left 113)) (le-leb first page from) (lt-ltb page (first + min left 113) (omega (arith, here, below)))))
      | inr after ↦ or_right (names_page slot page m) (list_any (names_page slot page) rest)
          (named_from slot (first + 113) (left - 113) page rs (omega (arith, many, from, below, after)) after (omega (arith, below, after)))
    ]

any_of : (test : MapPage → Bool) (slots : List (Option Held)) (slot : ℕ) → list_any test (maps_of (get_or slots slot None)) ≡ true → list_any test (maps_in slots) ≡ true
unfolding maps_in
any_of test [] slot is = absurd (cc is)
any_of test (s ∷ slots) zero is = list_any-append test (maps_of s) (maps_in slots) ∙ or_left (list_any test (maps_of s)) (list_any test (maps_in slots)) is
any_of test (s ∷ slots) (suc slot) is = list_any-append test (maps_of s) (maps_in slots) ∙ or_right (list_any test (maps_of s)) (list_any test (maps_in slots)) (any_of test slots slot is)

-- a page of which something is true is there
page_there : (refs : List Ref) (page : ℕ) → get_or (map (λ (r : Ref). eqb r.place 0) refs) page false ≡ true → page < length refs
page_there [] page is = absurd (cc is)
page_there (r ∷ rs) zero is = omega arith
page_there (r ∷ rs) (suc page) is = omega (arith, page_there rs page is)

page_by : (file : Bool) (refs : List Ref) (page : ℕ) → get_or (map (λ (r : Ref). eqb r.place 0) (unwrap_or (cond file (Some refs) None) [])) page false ≡ true → page < length refs
page_by true refs page is = page_there refs page is
page_by false refs page is = absurd (cc is)

named_fresh : (free : Bool) (node : Node) (slot page : ℕ) → node.slot ≡ slot → length node.maps ≡ map_pages_of node.length
    → get_or (map (λ (r : Ref). eqb r.place 0) (unwrap_or (option_and_then refs_of (cond free None (Some (fresh node)))) [])) page false ≡ true
    → list_any (names_page slot page) (maps_of (cond free None (Some (fresh node)))) ≡ true
named_fresh true node slot page at mapped is = absurd (cc is)
named_fresh false node slot page at mapped is =
    let within : page < data_pages_of node.length = omega (arith, page_by (is_file_node node.kind) (replicate (data_pages_of node.length) blank_ref) page is, length-replicate (data_pages_of node.length) blank_ref) in
    subst (λ (s : ℕ). list_any (names_page s page) (maps_of (Some (fresh node))) ≡ true) at (named_from node.slot 0 (data_pages_of node.length) page node.maps mapped (omega arith) (omega (arith, within)))

blank_held : (nodes : ℕ) (found : List Node) (slot page : ℕ) → AreRead nodes found → is_blank_at (held_of found) slot page ≡ true → list_any (names_page slot page) (maps_in (held_of found)) ≡ true
blank_held nodes found slot page read is = elim (cases_lt slot (length found)) [
  | inl within ↦ (
      let node : Node = get_or found slot free_node in
      let there : get_or (held_of found) slot None ≡ held_from node = get_or-map held_from found slot free_node None within in
      let Blank : Option Held → Type 0 = λ o. get_or (map (λ (r : Ref). eqb r.place 0) (unwrap_or (option_and_then refs_of o) [])) page false ≡ true in
      let of : IsNodeOf nodes node = All-get_or (λ n. IsNodeOf nodes n) found slot free_node within read.of_store in
      let named : list_any (names_page slot page) (maps_of (held_from node)) ≡ true = named_fresh (is_free node.kind) node slot page (read.own_slots slot within) of.in_range.mapped (subst Blank there is) in
      any_of (names_page slot page) (held_of found) slot (subst (λ (o : Option Held). list_any (names_page slot page) (maps_of o) ≡ true) (sym there) named))
  | inr past ↦ absurd (
      let none : get_or (held_of found) slot None ≡ None = get_or_past (held_of found) slot None (omega (arith, past, length-map found held_from)) in
      let Blank : Option Held → Type 0 = λ o. get_or (map (λ (r : Ref). eqb r.place 0) (unwrap_or (option_and_then refs_of o) [])) page false ≡ true in
      let no : Blank None = subst Blank none is in cc no)
]

pub AreBlanksNamed-made : (head : Head) (place : ℕ) (places : ℕ → ℕ) (nodes : List Node) (index : IndexState) → AreRead head.nodes nodes → index_or_refusal place places (index_from (limits_of head) nodes) ≡ Ok index → AreBlanksNamed index.nodes (maps_in index.nodes)
AreBlanksNamed-made head place places nodes index read is =
    let made = index_made place places (limits_of head) nodes index is in
    subst (λ slots. AreBlanksNamed slots (maps_in slots)) (sym made.held) (record { each = λ slot page blank. blank_held head.nodes nodes slot page read blank })
