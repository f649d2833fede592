-- The nodes of an empty store are nodes.
use Rattle.std.proofs.Common.{rules, ℕ, Bool, true, false, ◌||◌, eqb, cond, [], refl}
use Rattle.std.specs.Bool.{IsTrue}
use Rattle.vb_inode.specs.declared.node.NodeKind.TheVariants.{Free, Folder}
use Rattle.vb_inode.specs.Nodes.{IsInRange, is_free, may_be_named, may_have_length, may_have_parent}
use Rattle.vb_path.specs.Parts.{is_part}
use Rattle.vb_store.specs.Formats.{empty_node}

unnamed : (b : Bool) → IsTrue (cond (b || is_free (cond b Folder Free)) true (is_part []))
unnamed true = search rules
unnamed false = search rules

parented : (b : Bool) → IsTrue (may_have_parent (cond b Folder Free) 0)
parented true = search rules
parented false = search rules

measured : (b : Bool) → IsTrue (may_have_length (cond b Folder Free) 0)
measured true = search rules
measured false = search rules

pub IsInRange-empty_node : (slot : ℕ) → IsInRange (empty_node slot)
unfolding may_be_named
IsInRange-empty_node slot = record {
  named = unnamed (eqb slot 0);
  parented = parented (eqb slot 0);
  measured = measured (eqb slot 0);
  mapped = refl;
}
