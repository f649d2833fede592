use Rattle.std.proofs.Common.{◌≡◌, ◌==◌, ℕ, ◌≤◌, List, length, map, suc, count_by, Bool, Option, refl, arith, subst}
use Rattle.std.specs.List.{flat_map}
use Rattle.std.proofs.lemmas.List.Elements.{All-cons}
use Rattle.vb_block.specs.declared.digest.Ref.{Ref}
use Rattle.vb_tree.specs.declared.tree.TreeEntry.{TreeEntry}
use Rattle.vb_inode.specs.declared.next_view.NextNode.{NextNode}
use Rattle.vb_index.specs.declared.held.Held.{Held}
use Rattle.vb_index.specs.Indexes.{IndexState}
use Rattle.vb_nodes.proofs.Rooted.{held-no_fault}
use Rattle.vb_pages.specs.declared.kept.KeptPage.{KeptPage}
use Rattle.vb_pages.specs.declared.kept.PageKey.{PageKey}
use Rattle.vb_frozen.specs.Orders.{order_of}
use Rattle.vb_frozen.specs.Sources.{next_node, next_of, next_root}
use Rattle.vb_frozen.proofs.Built.{order-apart}
use Rattle.vb_plan.specs.Conditions.{refs_held, IsNextNode}
use Rattle.vb_plan.specs.Following.{nodes_by_slot, IsNextTree}
use Rattle.vb_plan.proofs.Listed.{count-cons}
use Rattle.vb_plan.proofs.PlacesNext.{parts-times, refs-times}
use Rattle.vb_plan.proofs.Weighed.{some-weigh}
use Rattle.vb_next.specs.Frozen.{IsViewOver}
use Rattle.vb_next.proofs.ByFind.{next-own, stand-for-all}
use Rattle.vb_next.proofs.KeptOnes.{all-counted, all-kept, next-pages, slots-count}
use Rattle.vb_next.proofs.Standing.{all-stand, can-stand, root-stands}
use Rattle.vb_next.proofs.laws.a_next_view_can_follow.Goals as goal

-- the next view is a tree
next-tree : (nodes : List (Option Held)) (tree : List TreeEntry) (pages : List (PageKey × KeptPage)) (committed : IndexState) → IsViewOver committed nodes tree pages → IsNextTree (length nodes) (next_of (order_of nodes tree) pages)
next-tree nodes tree pages committed is =
    let order = order_of nodes tree in
    let below = all-stand nodes pages tree is.table is.is_tree is.shape in
    record {
      nodes = All-cons (IsNextNode (length nodes)) next_root (map (next_node pages) order) (can-stand nodes next_root is.table is.rooted (root-stands nodes is.table is.rooted)) (λ k d within. can-stand nodes _ is.table is.rooted (below k d within).stands);
      root = refl;
      own_slot = next-own nodes pages order (order-apart nodes tree is.table is.is_tree is.shape) below;
      no_fault = held-no_fault (nodes_by_slot (length nodes) (next_of order pages)) nodes is.table is.rooted (stand-for-all nodes pages tree is.table is.rooted is.is_tree is.shape);
    }

pub returns : goal.returns
returns c committed nodes tree pages is once =
    let order = order_of nodes tree in
    let entries = map (next_node pages) order in
    let slots : length nodes ≡ length committed.nodes = is.slots in
    let next = next-tree nodes tree pages committed is in
    record {
      tree = subst (λ (n : ℕ). IsNextTree n (next_of order pages)) slots next;
      pages = omega (arith, next-pages nodes pages tree, is.shape.as_large, is.few);
      kept = all-kept committed.nodes nodes pages tree is.references;
      kept_once = λ place. (
          let p : Ref → Bool = λ r. r.place == place in
          let own : (slot : ℕ) → count_by (λ x. x.node.slot == slot) entries ≤ 1 = λ slot. (let all = next.own_slot slot in omega (arith, all, count-cons (λ (x : NextNode). x.node.slot == slot) next_root entries)) in
          let weighed = some-weigh (λ (x : NextNode). x.node.slot) (λ o. count_by p (refs_held o)) refl committed.nodes entries own (λ k d within. (let s = (next.nodes (suc k) d (omega arith)).slot in omega (arith, s, slots))) in
          omega (arith, all-counted p committed.nodes nodes pages tree is.references, weighed, slots-count p committed.nodes, refs-times place (flat_map refs_held committed.nodes), parts-times place committed.nodes, once place));
    }
