-- The map pages of nodes are those of the index that they make, and each is of its file.
use Rattle.std.proofs.Common.{◌≡◌, ℕ, zero, suc, ◌+◌, ◌-◌, ◌/◌, ◌<◌, ◌≤◌, min, nat_lt, Bool, true, false, cond, List, [], ◌∷◌, ◌++◌, length, get_or, replicate, unwrap_or, Option, Some, None, Result, Ok, Err, IfSome, IfNone, refl, sym, ap, subst, ◌∙◌, inl, inr, arith}
use Rattle.std.proofs.lemmas.Bool.{cases_lt, eqb-true}
use Rattle.std.proofs.lemmas.List.{get_or_append_left, get_or-map, get_or_push, length-replicate, length_push, nil_from_length}
use Rattle.std.specs.List.{All, flat_map}
use Rattle.std.specs.Option.{option_and_then, option_map, option_or}
use Rattle.vb_block.specs.declared.why.Why.{Why}
use Rattle.std.proofs.lemmas.List.Elements.{All-append, All-cons, All-from_get_or, All-get_or, All-head, All-nil, All-push, All-tail, All-weaker}
use Rattle.vb_block.specs.declared.digest.Ref.{Ref}
use Rattle.vb_index.specs.declared.held.Held.{Held}
use Rattle.vb_head.specs.declared.head.Head.{Head}
use Rattle.vb_head.specs.Heads.{IsHead}
use Rattle.vb_index.specs.Indexes.{IndexState}
use Rattle.vb_index.specs.Nodes.{refs_at, refs_of}
use Rattle.vb_inode.specs.declared.node.Node.{Node}
use Rattle.vb_inode.specs.declared.node.NodeKind.{NodeKind}
use Rattle.vb_inode.specs.declared.node.NodeKind.TheVariants.{Free, Folder, File}
use Rattle.vb_inode.specs.Nodes.{is_free, may_have_length}
use Rattle.vb_inode.specs.Reading.{IsNodeOf}
use Rattle.vb_inode.proofs.Checked.{map_pages-few}
use Rattle.vb_nodes.specs.declared.errors.TableError.{TableError}
use Rattle.vb_nodes.specs.declared.errors.TableError.TheVariants.{Wrong as WrongNode, TooManyPages, Memory as NoMemoryForIndex}
use Rattle.vb_nodes.specs.Faults.{Fault, fault_below, fault_of_slot, table_fault}
use Rattle.vb_index.specs.Changes.{blank_ref}
use Rattle.vb_nodes.specs.Holdings.{held_from, held_of, index_from, pages_of_nodes, refuse_fault}
use Rattle.vb_nodes.specs.Paths.{AreBySlot, free_node}
use Rattle.vb_tree.specs.declared.tree.Limits.{Limits}
use Rattle.vb_tree.specs.Trees.{AreInLimits, data_pages_of, map_pages_of}
use Rattle.vb_store.specs.Views.{limits_of}
use Rattle.vb_store.specs.declared.map_page.MapPage.{MapPage}
use Rattle.vb_store.specs.Maps.{HasMaps, IsOfFile, maps_of_nodes}
use Rattle.vb_store.specs.Metadata.{index_or_refusal, maps_from, maps_in, maps_of, maps_of_node}
use Rattle.vb_store.specs.NodesRead.{AreRead}

-- a free node has no bytes, and so no map pages
free_bytes : (kind : NodeKind) (len : ℕ) → is_free kind ≡ true → may_have_length kind len ≡ true → len ≡ 0
free_bytes Free len free fits = eqb-true len 0 fits
free_bytes Folder len free fits = absurd (cc free)
free_bytes File len free fits = absurd (cc free)

no_maps : (node : Node) → node.length ≡ 0 → length node.maps ≡ map_pages_of node.length → node.maps ≡ []
no_maps node empty mapped = nil_from_length node.maps (mapped ∙ ap map_pages_of empty)

maps_by : (free : Bool) (nodes : ℕ) (node : Node) → IsNodeOf nodes node → is_free node.kind ≡ free → maps_of (cond free None (Some (record { node = node; refs = replicate (data_pages_of node.length) blank_ref }))) ≡ maps_of_node node
maps_by true nodes node of free =
    let empty = free_bytes node.kind node.length free of.in_range.measured in
    sym (ap (maps_from node.slot 0 (data_pages_of node.length)) (no_maps node empty of.in_range.mapped))
maps_by false nodes node of free = refl

-- the map pages of nodes are those of what an index holds of them
pub maps_in-held_of : (nodes : ℕ) (found : List Node) → All (λ node. IsNodeOf nodes node) found → maps_in (held_of found) ≡ maps_of_nodes found
unfolding maps_in maps_of_nodes
maps_in-held_of nodes [] all = refl
maps_in-held_of nodes (node ∷ rest) all =
    let Of : Node → Type 0 = λ n. IsNodeOf nodes n in
    ap (λ (l : List MapPage). l ++ flat_map maps_of (held_of rest)) (maps_by (is_free node.kind) nodes node (All-head Of node rest all) refl)
    ∙ ap (λ (l : List MapPage). maps_of_node node ++ l) (maps_in-held_of nodes rest (All-tail Of node rest all))

-- ---- each map page is of its file

-- a map page of this slot, of a file of so many pages
pub record IsPart (slot total : ℕ) (m : MapPage) : Type 0 where
  pub slot_is : m.slot ≡ slot
  pub within : m.first + m.count ≤ total

parts : (slot first left total : ℕ) (maps : List Ref) → length maps ≡ (left + 112) / 113 → (0 < left → first + left ≤ total) → All (IsPart slot total) (maps_from slot first left maps)
parts slot first left total [] many fits = All-nil (IsPart slot total)
parts slot first left total (r ∷ rs) many fits =
    All-cons (IsPart slot total) (record { slot = slot; first = first; count = min left 113; reference = r }) (maps_from slot (first + 113) (left - 113) rs)
    (record { slot_is = refl; within = omega (arith, fits (omega (arith, many))) })
    (parts slot (first + 113) (left - 113) total rs (omega (arith, many)) (λ some. omega (arith, fits (omega arith), some)))

-- how many references an index has for a node of this kind: one for each page
many_by_kind : (kind : NodeKind) (node : Node) → may_have_length kind node.length ≡ true → length (unwrap_or (option_and_then refs_of (held_from (record node { kind = kind }))) []) ≡ data_pages_of node.length
many_by_kind Free node fits = sym (ap data_pages_of (eqb-true node.length 0 fits))
many_by_kind Folder node fits = sym (ap data_pages_of (eqb-true node.length 0 fits))
many_by_kind File node fits = length-replicate (data_pages_of node.length) blank_ref

many_held : (node : Node) → may_have_length node.kind node.length ≡ true → length (unwrap_or (option_and_then refs_of (held_from node)) []) ≡ data_pages_of node.length
many_held node fits = many_by_kind node.kind node fits

-- where this holds of the map pages of each node, it holds of all
all_maps : (P : MapPage → Type 0) (nodes : List Node) → All (λ node. All P (maps_of_node node)) nodes → All P (maps_of_nodes nodes)
unfolding maps_of_nodes
all_maps P [] all = All-nil P
all_maps P (node ∷ rest) all =
    let Q : Node → Type 0 = λ n. All P (maps_of_node n) in
    All-append P (maps_of_node node) (maps_of_nodes rest) (All-head Q node rest all) (all_maps P rest (All-tail Q node rest all))

-- each map page is of a file of the index
pub files_of_nodes : (nodes : ℕ) (found : List Node) → AreRead nodes found → All (IsOfFile (held_of found)) (maps_of_nodes found)
files_of_nodes nodes found read =
    let Of : Node → Type 0 = λ n. IsNodeOf nodes n in
    all_maps (IsOfFile (held_of found)) found (All-from_get_or (λ n. All (IsOfFile (held_of found)) (maps_of_node n)) found free_node (λ i within.
    let node : Node = get_or found i free_node in
    let of : IsNodeOf nodes node = All-get_or Of found i free_node within read.of_store in
    let total : ℕ = data_pages_of node.length in
    let many : length (unwrap_or (refs_at (held_of found) i) []) ≡ total =
    ap (λ (o : Option Held). length (unwrap_or (option_and_then refs_of o) [])) (get_or-map held_from found i free_node None within) ∙ many_held node of.in_range.measured in
    All-weaker (IsPart node.slot total) (IsOfFile (held_of found)) (λ m part.
    subst (λ (slot : ℕ). m.first + m.count ≤ length (unwrap_or (refs_at (held_of found) slot) [])) (sym (part.slot_is ∙ read.own_slots i within)) (subst (λ (n : ℕ). m.first + m.count ≤ n) (sym many) part.within))
    (maps_of_node node) (parts node.slot 0 total total node.maps of.in_range.mapped (λ some. omega arith))))

-- each has as many map references as its length takes
pub maps_of_read : (nodes : ℕ) (found : List Node) → nodes ≤ 65536 → length found ≤ nodes → AreRead nodes found → All HasMaps found
maps_of_read nodes found few within read =
    let Of : Node → Type 0 = λ n. IsNodeOf nodes n in
    All-from_get_or HasMaps found free_node (λ i below.
    let of : IsNodeOf nodes (get_or found i free_node) = All-get_or Of found i free_node below read.of_store in
    record {
      slot = omega (arith, read.own_slots i below);
      short = (map_pages-few (get_or found i free_node).kind (get_or found i free_node).length of.in_range.measured).0;
      mapped = of.in_range.mapped;
    })

-- all of them are the nodes of a store
pub by_slot : (nodes : ℕ) (found : List Node) → length found ≡ nodes → AreRead nodes found → AreBySlot found
by_slot nodes found all read = record { own_slots = read.own_slots; of_store = subst (λ (n : ℕ). All (λ node. IsNodeOf n node) found) (sym all) read.of_store }

-- none is read at the beginning, and one more is
pub read-none : (nodes : ℕ) → AreRead nodes []
read-none nodes = record { own_slots = λ slot below. absurd (omega arith); of_store = All-nil (λ node. IsNodeOf nodes node) }

pub read-one : (nodes : ℕ) (found : List Node) (node : Node) → AreRead nodes found → IsNodeOf nodes node → node.slot ≡ length found → AreRead nodes (found ++ node ∷ [])
read-one nodes found node read of slot = record {
  own_slots = λ k below. elim (cases_lt k (length found)) [
    | inl before ↦ ap (λ (n : Node). n.slot) (get_or_append_left found (node ∷ []) free_node k before) ∙ read.own_slots k before
    | inr from ↦ (let last : length found ≡ k = omega (arith, below, from, length_push found node) in ap (λ (n : Node). n.slot) (get_or_push found node free_node k last) ∙ slot ∙ last)
  ];
  of_store = All-push (λ n. IsNodeOf nodes n) found node read.of_store of;
}

-- what the nodes make is what an index holds of them
index_by : (fault : Option Fault) (many : Bool) (limits : Limits) (nodes : List Node) (index : IndexState) → refuse_fault fault (cond many (Err TooManyPages) (Ok (record { limits = limits; nodes = held_of nodes }))) ≡ Ok index → held_of nodes ≡ index.nodes
index_by (Some fault) many limits nodes index is = absurd (cc is)
index_by None true limits nodes index is = absurd (cc is)
index_by None false limits nodes index is =
    let same : (let made : IndexState = record { limits = limits; nodes = held_of nodes } in made ≡ index) = cc is in
    ap (λ (i : IndexState). i.nodes) same

pub index-nodes : (place : ℕ) (places : ℕ → ℕ) (limits : Limits) (nodes : List Node) (index : IndexState) → index_or_refusal place places (index_from limits nodes) ≡ Ok index → held_of nodes ≡ index.nodes
index-nodes place places limits nodes index is = index_by (table_fault nodes) (nat_lt limits.pages (pages_of_nodes nodes)) limits nodes index (unrefused place places (index_from limits nodes) index is) where
  unrefused : (place : ℕ) (places : ℕ → ℕ) (r : Result IndexState TableError) (index : IndexState) → index_or_refusal place places r ≡ Ok index → r ≡ Ok index
  unrefused place places (Ok i) index is = cc is
  unrefused place places (Err (WrongNode slot why)) index is = absurd (cc is)
  unrefused place places (Err TooManyPages) index is = absurd (cc is)
  unrefused place places (Err NoMemoryForIndex) index is = absurd (cc is)

-- limits of a head are those that a store may have
pub limits-allowed : (h : Head) → IsHead h → AreInLimits (limits_of h)
limits-allowed h is = record { least_nodes = is.range.nodes_low; most_nodes = is.range.nodes_high; least_pages = omega (arith, is.range.space); most_pages = omega (arith, is.range.blocks) }

-- a fault is that of a slot that there is
fault_within : (nodes : List Node) (n : ℕ) (f : Fault) → fault_below nodes n ≡ Some f → f.slot < n
fault_within nodes zero f is = absurd (cc is)
fault_within nodes (suc n) f is = within_by (fault_below nodes n) (fault_of_slot nodes n) (fault_within nodes n) is where
  within_by : (first : Option Fault) (own : Option Why) → ((g : Fault) → first ≡ Some g → g.slot < n) → option_or first (option_map (λ (why : Why). let g : Fault = record { slot = n; why = why } in g) own) ≡ Some f → f.slot < suc n
  within_by (Some g) own before found = let same : g ≡ f = cc found in omega (arith, before f (ap (λ (x : Fault). let o : Option Fault = Some x in o) same))
  within_by None None before found = absurd (cc found)
  within_by None (Some why) before found = let same : (let g : Fault = record { slot = n; why = why } in g ≡ f) = cc found in omega (arith, ap (λ (x : Fault). x.slot) same)

wrong_within : (fault : Option Fault) (many : Bool) (limits : Limits) (nodes : List Node) (slot : ℕ) (why : Why) → table_fault nodes ≡ fault → refuse_fault fault (cond many (Err TooManyPages) (Ok (record { limits = limits; nodes = held_of nodes }))) ≡ Err (WrongNode slot why) → slot < length nodes
wrong_within (Some f) many limits nodes slot why fault is =
    let same : f.slot ≡ slot = cc is in omega (arith, fault_within nodes (length nodes) f fault, same)
wrong_within None true limits nodes slot why fault is = absurd (cc is)
wrong_within None false limits nodes slot why fault is = absurd (cc is)

pub index-wrong : (limits : Limits) (nodes : List Node) (slot : ℕ) (why : Why) → index_from limits nodes ≡ Err (WrongNode slot why) → slot < length nodes
index-wrong limits nodes slot why is = wrong_within (table_fault nodes) (nat_lt limits.pages (pages_of_nodes nodes)) limits nodes slot why refl is

-- the first of some nodes that were read
pub read-front : (nodes : ℕ) (front : List Node) (node : Node) → AreRead nodes (front ++ node ∷ []) → AreRead nodes front
read-front nodes front node read = record {
  own_slots = λ k below. ap (λ (n : Node). n.slot) (sym (get_or_append_left front (node ∷ []) free_node k below)) ∙ read.own_slots k (omega (arith, below, length_push front node));
  of_store = All-from_get_or (λ n. IsNodeOf nodes n) front free_node (λ k below.
      subst (λ (n : Node). IsNodeOf nodes n) (get_or_append_left front (node ∷ []) free_node k below)
      (All-get_or (λ n. IsNodeOf nodes n) (front ++ node ∷ []) k free_node (omega (arith, below, length_push front node)) read.of_store));
}

-- nodes without their last one
pub record IsFront (nodes : ℕ) (new : List Node) : Type 0 where
  pub left : length new < nodes
  pub read : AreRead nodes new

pub front_of : (nodes : ℕ) (r : Option Node) (old new : List Node) → length old ≡ nodes → 16 ≤ nodes → AreRead nodes old → IfSome r (λ item. old ≡ new ++ item ∷ []) → IfNone r ((old ≡ []) × (new ≡ [])) → IsFront nodes new
front_of nodes None old new all many read some none = absurd (omega (arith, ap length none.0, all, many))
front_of nodes (Some item) old new all many read some none = record {
  left = omega (arith, ap length some, length_push new item, all);
  read = read-front nodes new item (subst (AreRead nodes) some read);
}
