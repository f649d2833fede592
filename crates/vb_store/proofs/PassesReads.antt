-- What a page passes that was taken in.
use Rattle.std.proofs.Common.{◌≡◌, ℕ, List, length, Result, Ok, Err, IsOk, OnOk, subst}
use Rattle.vb_block.specs.declared.digest.Ref.{Ref}
use Rattle.vb_inode.specs.declared.node.Node.{Node}
use Rattle.vb_journal.specs.declared.recover_error.RecoverError.{RecoverError}
use Rattle.vb_store.specs.declared.mount_parts.Claimed.{Claimed}
use Rattle.vb_store.specs.declared.mount_parts.Homes.{Homes}
use Rattle.vb_store.specs.declared.mount_stage.MountStage.TheVariants.{ReadHome, ReadMap}
use Rattle.vb_store.specs.Metadata.{block_place, map_checked, node_checked}
use Rattle.vb_store.specs.Settled.{PassesRead}

on_ok : {T E P : Type 0} (r : Result T E) → P → OnOk r P
on_ok (Ok x) p = p
on_ok (Err e) p = tt

is_ok : {A : Type 0} (r : Result A RecoverError) (x : A) → r ≡ Ok x → IsOk r
is_ok (Ok y) x is = cc
is_ok (Err e) x is = absurd (cc is)

pub passes-home : {T : Type 0} (h : Homes) (page : List ℕ) (node : Node) (named : List ℕ) (slot : ℕ) (r : Result T RecoverError) → named ≡ h.slots.items → slot ≡ length h.nodes → node_checked h.head.nodes slot (record { place = block_place named h.head.nodes slot; page = page }) ≡ Ok node → OnOk r (PassesRead page (ReadHome h))
passes-home h page node named slot r named_is slot_is is =
    let at : node_checked h.head.nodes (length h.nodes) (record { place = block_place h.slots.items h.head.nodes (length h.nodes); page = page }) ≡ Ok node =
    subst (λ (n : ℕ). node_checked h.head.nodes n (record { place = block_place h.slots.items h.head.nodes n; page = page }) ≡ Ok node) slot_is
    (subst (λ (l : List ℕ). node_checked h.head.nodes slot (record { place = block_place l h.head.nodes slot; page = page }) ≡ Ok node) named_is is) in
    on_ok r (is_ok (node_checked h.head.nodes (length h.nodes) (record { place = block_place h.slots.items h.head.nodes (length h.nodes); page = page })) node at)

pub passes-map : {T : Type 0} (c : Claimed) (page : List ℕ) (refs : List Ref) (r : Result T RecoverError) → map_checked c.map page ≡ Ok refs → OnOk r (PassesRead page (ReadMap c))
passes-map c page refs r is = on_ok r (is_ok (map_checked c.map page) refs is)
