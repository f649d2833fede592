-- Map pages, in the order in which they are found.
use Rattle.std.proofs.Common.{◌≡◌, ℕ, ◌+◌, ◌-◌, ◌<◌, ◌≤◌, min, append_assoc, append-nil, sym, subst, List, [], ◌∷◌, ◌++◌, length, get_or, drop, refl, ap, ◌∙◌}
use Rattle.std.proofs.lemmas.List.{at_drop_all, at_drop_more}
use Rattle.vb_block.specs.declared.digest.Ref.{Ref}
use Rattle.vb_inode.specs.declared.node.Node.{Node}
use Rattle.vb_store.specs.declared.map_page.MapPage.{MapPage}
use Rattle.vb_store.specs.Maps.{maps_of_nodes}
use Rattle.vb_store.specs.Metadata.{maps_from, maps_of_node}

-- the next map page of a file
pub maps_from-drop : (slot first left : ℕ) (maps : List Ref) (i : ℕ) (d : Ref) → i < length maps → maps_from slot first left (drop i maps) ≡ record { slot = slot; first = first; count = min left 113; reference = get_or maps i d } ∷ maps_from slot (first + 113) (left - 113) (drop (i + 1) maps)
maps_from-drop slot first left maps i d within = at_drop_more (maps_from slot first left) maps i d within

-- those of the next node
pub maps_of_nodes-drop : (nodes : List Node) (i : ℕ) (d : Node) → i < length nodes → maps_of_nodes (drop i nodes) ≡ maps_of_node (get_or nodes i d) ++ maps_of_nodes (drop (i + 1) nodes)
unfolding maps_of_nodes
maps_of_nodes-drop nodes i d within = at_drop_more maps_of_nodes nodes i d within

pub maps_of_nodes-none : maps_of_nodes [] ≡ []
unfolding maps_of_nodes
maps_of_nodes-none = refl

-- one map page more of a file
pub add_step : (olds news : List MapPage) (slot first left after count : ℕ) (maps items : List Ref) (i : ℕ) (r : Ref) (whole : List MapPage) → items ≡ maps → i < length items → r ≡ get_or items i r → after ≡ left - 113 → count ≡ min left 113
    → news ≡ olds ++ record { slot = slot; first = first; count = count; reference = r } ∷ [] → olds ++ maps_from slot first left (drop i maps) ≡ whole
    → news ++ maps_from slot (first + 113) after (drop (i + 1) maps) ≡ whole
add_step olds news slot first left after count maps items i r whole same within is less counted pushed before =
    let m : Ref → MapPage = λ x. record { slot = slot; first = first; count = min left 113; reference = x } in
    let there : i < length maps = subst (λ (l : List Ref). i < length l) same within in
    let item : r ≡ get_or maps i r = is ∙ ap (λ (l : List Ref). get_or l i r) same in
    let rest : List MapPage = maps_from slot (first + 113) (left - 113) (drop (i + 1) maps) in
    let step : maps_from slot first left (drop i maps) ≡ m (get_or maps i r) ∷ rest = maps_from-drop slot first left maps i r there in
    ap (λ (n : ℕ). news ++ maps_from slot (first + 113) n (drop (i + 1) maps)) less
    ∙ ap (λ (l : List MapPage). l ++ rest) pushed
    ∙ ap (λ (n : ℕ). (let one : MapPage = record { slot = slot; first = first; count = n; reference = r } in olds ++ one ∷ []) ++ rest) counted
    ∙ append_assoc olds (m r ∷ []) rest
    ∙ ap (λ (x : Ref). olds ++ m x ∷ rest) item
    ∙ ap (λ (l : List MapPage). olds ++ l) (sym step)
    ∙ before

-- those of one node more
pub node_step : (olds news : List MapPage) (nodes : List Node) (i : ℕ) (node : Node) (whole : List MapPage) → i < length nodes → node ≡ get_or nodes i node → news ≡ olds ++ maps_of_node node → olds ++ maps_of_nodes (drop i nodes) ≡ whole → news ++ maps_of_nodes (drop (i + 1) nodes) ≡ whole
node_step olds news nodes i node whole within is added before =
    ap (λ (l : List MapPage). l ++ maps_of_nodes (drop (i + 1) nodes)) added
    ∙ append_assoc olds (maps_of_node node) (maps_of_nodes (drop (i + 1) nodes))
    ∙ ap (λ (n : Node). olds ++ (maps_of_node n ++ maps_of_nodes (drop (i + 1) nodes))) is
    ∙ ap (λ (l : List MapPage). olds ++ l) (sym (maps_of_nodes-drop nodes i node within))
    ∙ before

-- where none is left, all are there
pub nodes_end : (all : List MapPage) (nodes : List Node) (i : ℕ) → length nodes ≤ i → all ++ maps_of_nodes (drop i nodes) ≡ maps_of_nodes nodes → all ≡ maps_of_nodes nodes
nodes_end all nodes i end is =
    sym (append-nil all) ∙ ap (λ (l : List MapPage). all ++ l) (sym (at_drop_all maps_of_nodes nodes i end ∙ maps_of_nodes-none)) ∙ is
