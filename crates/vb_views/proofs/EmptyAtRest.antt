-- A store that was just made is at rest for the empty view.
use Rattle.std.proofs.Common.{◌≡◌, ℕ, zero, suc, ◌+◌, ◌-◌, ◌≤◌, Bool, cond, List, [], ◌∷◌, length, replicate, Option, Some, None, refl, sym, ap, subst, ◌∙◌, arith}
use Rattle.std.proofs.lemmas.Bool.{ne_eqb}
use Rattle.std.proofs.lemmas.List.Elements.{All-nil}
use Rattle.std.specs.Option.{option_map}
use Rattle.vb_disk.specs.States.{DiskState}
use Rattle.vb_index.specs.declared.held.Held.{Held}
use Rattle.vb_index.specs.Nodes.{held_at, root_held}
use Rattle.vb_index.proofs.Beginnings.{fresh-len, fresh-table, none_at}
use Rattle.vb_index.proofs.Heights.{rooted-fresh}
use Rattle.vb_inode.specs.declared.node.Node.{Node}
use Rattle.vb_inode.specs.declared.node.NodeKind.TheVariants.{Folder, Free}
use Rattle.vb_inode.specs.Layout.{node_page, AreRefs}
use Rattle.vb_tree.specs.Trees.{map_pages_of}
use Rattle.vb_plan.specs.Plans.{node_at, node_in}
use Rattle.vb_store.specs.Clear.{last_candidates}
use Rattle.vb_store.specs.EmptyStores.{IsMadeEmpty, empty_home}
use Rattle.vb_store.specs.Formats.{CanFormat, empty_node, made_head}
use Rattle.vb_store.specs.Views.{empty_index}
use Rattle.vb_store.proofs.EmptyStores.{IsAtRest-empty}
use Rattle.vb_store.proofs.EmptyViews.{CanView-empty}
use Rattle.vb_views.specs.AtRest.{HoldsPagesOf, IsAtRestFor, IsBlockOf, IsViewOf}
use Rattle.vb_views.proofs.NodesListed.{AreMapped, block-read}

-- the slots of an empty store
abbrev empty_slots : ℕ → List (Option Held)
empty_slots nodes = Some root_held ∷ replicate (nodes - 1) None

-- what they hold is the root
only_root : (n slot : ℕ) (held : Held) → held_at (Some root_held ∷ replicate n None) slot ≡ Some held → held ≡ root_held
only_root n zero held is = let same : root_held ≡ held = cc is in sym same
only_root n (suc slot) held is = absurd (let none : None ≡ Some held = sym (none_at n slot) ∙ is in cc none)

many_slots : (nodes : ℕ) → 16 ≤ nodes → length (empty_slots nodes) ≡ nodes
many_slots nodes low = omega (arith, low, fresh-len (nodes - 1))

pub empty-view : (id : List ℕ) (blocks nodes : ℕ) → CanFormat id blocks nodes → IsViewOf (made_head id blocks nodes) (empty_index (made_head id blocks nodes))
empty-view id blocks nodes can = record {
  can = CanView-empty id blocks nodes can;
  slots = many_slots nodes can.nodes_low;
  table = fresh-table (nodes - 1) (let high = can.nodes_high in let low = can.nodes_low in omega (arith, high, low));
  rooted = rooted-fresh (nodes - 1) (let high = can.nodes_high in let low = can.nodes_low in omega (arith, high, low));
}

mapped : (nodes : ℕ) → AreMapped (empty_slots nodes)
mapped nodes = record {
  refs = λ slot held there. subst (λ (h : Held). AreRefs h.node.maps) (sym (only_root (nodes - 1) slot held there)) (All-nil _);
  maps = λ slot held there. ap (λ (h : Held). length h.node.maps) (only_root (nodes - 1) slot held there) ∙ ap (λ (h : Held). map_pages_of h.node.length) (sym (only_root (nodes - 1) slot held there));
}

-- the node of a slot
empty_at : (n slot : ℕ) → node_in slot (node_at (Some root_held ∷ replicate n None) slot) ≡ empty_node slot
empty_at n zero = refl
empty_at n (suc slot) =
    ap (λ (o : Option Held). node_in (suc slot) (option_map (λ (h : Held). h.node) o)) (none_at n slot)
    ∙ ap (λ (b : Bool). let node : Node = record { slot = suc slot; kind = cond b Folder Free; parent = 0; name = []; length = 0; maps = [] } in node) (sym (ne_eqb (suc slot) 0 (λ same. omega (arith, same))))

pub empty-rests : (id : List ℕ) (blocks nodes : ℕ) (old new : DiskState) → CanFormat id blocks nodes → length id ≡ 16 → IsMadeEmpty id blocks nodes old new → IsAtRestFor (made_head id blocks nodes) (empty_index (made_head id blocks nodes)) new
empty-rests id blocks nodes old new can long made =
    let view = empty-view id blocks nodes can in
    record {
      homes = empty_home;
      journal = λ i. last_candidates old (2 + nodes + i);
      rests = IsAtRest-empty id blocks nodes old new can long made;
      blocks = λ slot within. subst (IsBlockOf (empty_slots nodes) slot) (ap node_page (empty_at (nodes - 1) slot)) (block-read (empty_slots nodes) slot view.table view.rooted (mapped nodes) within);
      holds = λ slot held there. subst (λ (h : Held). HoldsPagesOf h new) (sym (only_root (nodes - 1) slot held there)) (record { pages = All-nil _; maps = All-nil _; spelled = λ k r at. absurd (cc at) });
    }
