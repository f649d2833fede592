-- The checks of a node block's fields, in their order.
use Rattle.std.specs.Prelude.{ℕ, zero, suc, ◌*◌, Bool, true, false, not, ◌&&◌, ◌==◌, nat_le, List, take, drop, Option, Some, None, Result, Ok, Err}
use Rattle.std.specs.List.{list_all}
use Rattle.vb_block.specs.declared.why.Why.{Why}
use Rattle.vb_block.specs.declared.why.Why.TheVariants.{Kind, Name, Parent, Length, Maps, Rest}
use Rattle.vb_inode.specs.declared.node.NodeKind.{NodeKind}
use Rattle.vb_inode.specs.declared.node.NodeKind.TheVariants.{Free, Folder, File}
use Rattle.vb_inode.specs.Nodes.{may_be_named, may_have_length, may_have_parent}
use Rattle.vb_tree.specs.Trees.{map_pages_of}
use Rattle.vb_inode.specs.Layout.{Fields}

-- whether each byte is zero
abbrev pub are_zeros : List ℕ → Bool
are_zeros bytes = list_all (λ b. b == 0) bytes

-- the kind that a number stands for
abbrev pub kind_of : ℕ → Option NodeKind
kind_of zero = Some Free
kind_of (suc zero) = Some Folder
kind_of (suc (suc zero)) = Some File
kind_of (suc (suc (suc n))) = None

-- the name: as many bytes as its length says, of those that are there
abbrev pub name_in : Fields → List ℕ
name_in f = take f.name_length f.name

-- whether the bytes are zero that have to be: between the numbers and the name, after the name, after
-- the references, and in a free node the parent too
unfoldable pub is_zero_elsewhere : NodeKind → Fields → Bool
is_zero_elsewhere kind f =
    are_zeros f.gap && are_zeros (drop f.name_length f.name)
    && are_zeros (drop (36 * f.map_count) f.maps) && may_have_parent kind f.parent

-- the refusal where the test holds, and else what comes next
abbrev pub refuse : Bool → Why → Result NodeKind Why → Result NodeKind Why
refuse true why next = Err why
refuse false why next = next

-- the kind, or the first check that fails once it is known
unfoldable pub checked_as : Option NodeKind → ℕ → Fields → Result NodeKind Why
checked_as None nodes f = Err Kind
checked_as (Some kind) nodes f =
    refuse (not (may_be_named f.slot kind (name_in f))) Name
    (refuse (nat_le nodes f.parent) Parent
    (refuse (not (may_have_length kind f.file_length)) Length
    (refuse (not (f.map_count == map_pages_of f.file_length)) Maps
    (refuse (not (is_zero_elsewhere kind f)) Rest (Ok kind)))))

-- the kind of the node in these fields, in a store of so many nodes, or the first check that fails
abbrev pub checked : ℕ → Fields → Result NodeKind Why
checked nodes f = checked_as (kind_of f.kind) nodes f
