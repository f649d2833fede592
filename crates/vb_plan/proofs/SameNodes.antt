-- What the tests of references and nodes tell.
use Rattle.std.proofs.Common.{◌≡◌, ℕ, ◌==◌, Bool, List, refl, ap, ◌∙◌, Option, None, Some}
use Rattle.std.specs.Bool.{Decides}
use Rattle.std.proofs.lemmas.Bool.Decides.{Decides-and, Decides-eqb}
use Rattle.std.proofs.lemmas.Slice.Eq.{bytes_eq-Decides, slice_eq-Decides}
use Rattle.std.specs.Str.{bytes_eq}
use Rattle.vb_block.specs.declared.digest.Ref.{Ref}
use Rattle.vb_inode.specs.declared.node.Node.{Node}
use Rattle.vb_inode.specs.declared.node.NodeKind.{NodeKind}
use Rattle.vb_inode.specs.declared.node.NodeKind.TheVariants.{Free, Folder, File}
use Rattle.vb_inode.specs.Layout.{kind_number}
use Rattle.vb_inode.proofs.Decoded.{nodes_same}
use Rattle.vb_plan.specs.Maps.{same_ref, same_refs}
use Rattle.vb_plan.specs.Plans.{same_in_slot, same_node}

decides_as : {P Q : Type 0} (r : Bool) → Decides r P → (P → Q) → (Q → P) → Decides r Q
decides_as r h to from = (λ e. to (h.0 e), λ q. h.1 (from q))

made : ℕ → List ℕ → Ref
made place digest = record { place = place; digest = digest }

refs_same : (a b : Ref) → (a.place ≡ b.place) × (a.digest ≡ b.digest) → a ≡ b
unfolding made
refs_same a b e = ap (λ (p : ℕ). made p a.digest) e.0 ∙ ap (λ (d : List ℕ). made b.place d) e.1

pub same_ref-Decides : (a b : Ref) → Decides (same_ref a b) (a ≡ b)
same_ref-Decides a b =
    decides_as (same_ref a b) (Decides-and (a.place == b.place) (bytes_eq a.digest b.digest) (Decides-eqb a.place b.place) (bytes_eq-Decides a.digest b.digest)) (refs_same a b)
    (λ e. (ap (λ (r : Ref). r.place) e, ap (λ (r : Ref). r.digest) e))

pub same_refs-Decides : (a b : List Ref) → Decides (same_refs a b) (a ≡ b)
same_refs-Decides a b = slice_eq-Decides same_ref-Decides a b (same_refs a b) refl

kinds_same : (a b : NodeKind) → kind_number a ≡ kind_number b → a ≡ b
kinds_same Free Free e = refl
kinds_same Free Folder e = cc
kinds_same Free File e = cc
kinds_same Folder Free e = cc
kinds_same Folder Folder e = refl
kinds_same Folder File e = cc
kinds_same File Free e = cc
kinds_same File Folder e = cc
kinds_same File File e = refl

pub same_node-Decides : (a b : Node) → Decides (same_node a b) (a ≡ b)
same_node-Decides a b =
    let slot = Decides-eqb a.slot b.slot in
    let kind = Decides-eqb (kind_number a.kind) (kind_number b.kind) in
    let parent = Decides-eqb a.parent b.parent in
    let name = bytes_eq-Decides a.name b.name in
    let long = Decides-eqb a.length b.length in
    let maps = same_refs-Decides a.maps b.maps in
    decides_as (same_node a b)
    (Decides-and _ _ (Decides-and _ _ (Decides-and _ _ (Decides-and _ _ (Decides-and (a.slot == b.slot) (kind_number a.kind == kind_number b.kind) slot kind) parent) name) long) maps)
    (λ h. nodes_same a b h.0.0.0.0.0 (kinds_same a.kind b.kind h.0.0.0.0.1) h.0.0.0.1 h.0.0.1 h.0.1 h.1)
    (λ e. (((((ap (λ (n : Node). n.slot) e, ap (λ (n : Node). kind_number n.kind) e), ap (λ (n : Node). n.parent) e), ap (λ (n : Node). n.name) e), ap (λ (n : Node). n.length) e), ap (λ (n : Node). n.maps) e))

-- a slot is the same exactly where it has the same node, or none
pub same_in_slot-Decides : (a b : Option Node) → Decides (same_in_slot a b) (a ≡ b)
same_in_slot-Decides None None = (λ e. refl, λ e. refl)
same_in_slot-Decides None (Some b) = (λ e. absurd (cc), λ e. absurd (cc))
same_in_slot-Decides (Some a) None = (λ e. absurd (cc), λ e. absurd (cc))
same_in_slot-Decides (Some a) (Some b) =
    decides_as (same_node a b) (same_node-Decides a b) (λ e. ap (λ (n : Node). Some n) e) (λ e. cc)
