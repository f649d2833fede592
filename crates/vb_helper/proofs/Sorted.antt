-- The entries of a tree, as a view has them, stand strictly in path order.
use Rattle.std.proofs.Common.{◌≡◌, ℕ, zero, suc, ◌<◌, List, [], ◌∷◌, length, get_or, Option, arith}
use Rattle.std.specs.declared.cmp.Ordering.TheVariants.{Less}
use Rattle.vb_path.specs.Paths.{path_cmp}
use Rattle.vb_tree.specs.declared.tree.TreeEntry.{TreeEntry}
use Rattle.vb_tree.specs.Trees.{AllAfter, AreInOrder}
use Rattle.vb_index.specs.declared.held.Held.{Held}
use Rattle.vb_frozen.specs.declared.entry.FrozenEntry.{FrozenEntry}
use Rattle.vb_frozen.specs.Orders.{order_of}

all_after_at : (nodes : List (Option Held)) (path : List (List ℕ)) (tree : List TreeEntry) → AllAfter path tree → (j : ℕ) (d : FrozenEntry) → j < length (order_of nodes tree) → path_cmp path (get_or (order_of nodes tree) j d).path ≡ Less
all_after_at nodes path [] all j d within = absurd (omega (arith, within))
all_after_at nodes path (e ∷ es) all zero d within = all.0
all_after_at nodes path (e ∷ es) all (suc j) d within = all_after_at nodes path es all.1 j d (omega (arith, within))

pub sorted_at : (nodes : List (Option Held)) (tree : List TreeEntry) → AreInOrder tree → (i j : ℕ) (d : FrozenEntry) → i < j → j < length (order_of nodes tree) → path_cmp (get_or (order_of nodes tree) i d).path (get_or (order_of nodes tree) j d).path ≡ Less
sorted_at nodes [] ordered i j d less within = absurd (omega (arith, within))
sorted_at nodes (e ∷ es) ordered zero zero d less within = absurd (omega (arith, less))
sorted_at nodes (e ∷ es) ordered zero (suc j) d less within = all_after_at nodes e.path es ordered.0 j d (omega (arith, within))
sorted_at nodes (e ∷ es) ordered (suc i) zero d less within = absurd (omega (arith, less))
sorted_at nodes (e ∷ es) ordered (suc i) (suc j) d less within = sorted_at nodes es ordered.1 i j d (omega (arith, less)) (omega (arith, within))
