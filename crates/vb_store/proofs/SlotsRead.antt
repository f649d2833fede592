-- The slot of a node that is read is the one that its block names.
use Rattle.std.proofs.Common.{◌≡◌, ℕ, Bool, true, false, cond, List, Result, Ok, Err, refl, sym, ap, ◌∙◌}
use Rattle.std.specs.Str.{bytes_eq}
use Rattle.sha2.specs.Sha256.{sha256}
use Rattle.vb_block.specs.Pages.{seal_of, sealed_part}
use Rattle.vb_block.specs.declared.why.Why.{Why}
use Rattle.vb_inode.specs.declared.node.Node.{Node}
use Rattle.vb_inode.specs.declared.node.NodeKind.{NodeKind}
use Rattle.vb_inode.specs.declared.errors.NodeError.{NodeError}
use Rattle.vb_inode.specs.declared.errors.NodeError.TheVariants.{Unsealed}
use Rattle.vb_inode.specs.Checks.{checked}
use Rattle.vb_inode.specs.Layout.{Fields, fields_in}
use Rattle.vb_inode.specs.Reading.{node_by, node_from, node_read}
use Rattle.vb_journal.specs.Images.{slot_of}

slot_by : (sealed : Bool) (r : Result NodeKind Why) (f : Fields) (e : NodeError) (node : Node) → cond sealed (node_by r f) (Err e) ≡ Ok node → node.slot ≡ f.slot
slot_by true (Ok kind) f e node is = let same : node_from kind f ≡ node = cc is in ap (λ (n : Node). n.slot) (sym same)
slot_by true (Err why) f e node is = absurd (cc is)
slot_by false r f e node is = absurd (cc is)

slot_in_fields : (page : List ℕ) → (fields_in page).slot ≡ slot_of page
unfolding fields_in slot_of
slot_in_fields page = refl

pub slot_read : (nodes : ℕ) (page : List ℕ) (node : Node) → node_read nodes page ≡ Ok node → node.slot ≡ slot_of page
unfolding node_read
slot_read nodes page node is =
    slot_by (bytes_eq (seal_of page) (sha256 (sealed_part page))) (checked nodes (fields_in page)) (fields_in page) (Unsealed (seal_of page) (sha256 (sealed_part page))) node is ∙ slot_in_fields page
