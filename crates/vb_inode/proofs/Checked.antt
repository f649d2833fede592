-- What fields that pass the checks are, and that the fields of a node in range pass them.
use Rattle.std.proofs.Common.{◌≡◌, ℕ, zero, suc, ◌<◌, ◌≤◌, Bool, true, false, not, cond, ◌||◌, ◌==◌, List, length, Option, Some, None, Result, Ok, refl, sym, ap, subst, ◌∙◌, arith}
use Rattle.std.specs.Prelude.{nat_le}
use Rattle.std.proofs.lemmas.Bool.{false≢true, eqb-true, leb-true, leb-false, lt-leb}
use Rattle.std.proofs.lemmas.Option.{same_Some}
use Rattle.vb_block.specs.declared.why.Why.{Why}
use Rattle.vb_block.specs.declared.why.Why.TheVariants.{Name, Parent, Length, Maps, Rest}
use Rattle.vb_path.specs.Parts.{is_part}
use Rattle.vb_path.proofs.PartBounds.{length-part}
use Rattle.vb_inode.specs.declared.node.NodeKind.{NodeKind}
use Rattle.vb_inode.specs.declared.node.NodeKind.TheVariants.{Free, Folder, File}
use Rattle.vb_inode.specs.Nodes.{is_free, may_be_named, may_have_length}
use Rattle.vb_tree.specs.Trees.{map_pages_of}
use Rattle.vb_inode.specs.Layout.{Fields, kind_number}
use Rattle.vb_inode.specs.Checks.{checked, checked_as, is_zero_elsewhere, kind_of, name_in, refuse}

-- fields that passed every check, as those of a node of this kind
pub record Passes (nodes : ℕ) (kind : NodeKind) (f : Fields) : Type 0 where
  pub kind_is : kind_of f.kind ≡ Some kind
  pub named : may_be_named f.slot kind (name_in f) ≡ true
  pub parented : f.parent < nodes
  pub measured : may_have_length kind f.file_length ≡ true
  pub mapped : (f.map_count == map_pages_of f.file_length) ≡ true
  pub zeros : is_zero_elsewhere kind f ≡ true

abbrev rest_check : NodeKind → Fields → Result NodeKind Why
rest_check kind f = refuse (not (is_zero_elsewhere kind f)) Rest (Ok kind)

abbrev maps_check : NodeKind → Fields → Result NodeKind Why
maps_check kind f = refuse (not (f.map_count == map_pages_of f.file_length)) Maps (rest_check kind f)

abbrev length_check : NodeKind → Fields → Result NodeKind Why
length_check kind f = refuse (not (may_have_length kind f.file_length)) Length (maps_check kind f)

abbrev parent_check : ℕ → NodeKind → Fields → Result NodeKind Why
parent_check nodes kind f = refuse (nat_le nodes f.parent) Parent (length_check kind f)

refuse_ok : (t : Bool) (why : Why) (next : Result NodeKind Why) (kind : NodeKind) → refuse t why next ≡ Ok kind → (t ≡ false) × (next ≡ Ok kind)
refuse_ok true why next kind e = absurd cc
refuse_ok false why next kind e = (refl, e)

refuse_not : (t : Bool) (why : Why) (next : Result NodeKind Why) → t ≡ true → refuse (not t) why next ≡ next
refuse_not true why next e = refl
refuse_not false why next e = absurd (false≢true e)

refuse_false : (t : Bool) (why : Why) (next : Result NodeKind Why) → t ≡ false → refuse t why next ≡ next
refuse_false false why next e = refl
refuse_false true why next e = absurd (false≢true (sym e))

true_from_not : (b : Bool) → not b ≡ false → b ≡ true
true_from_not true e = refl
true_from_not false e = absurd (false≢true (sym e))

abbrev ok_kind : NodeKind → Result NodeKind Why
ok_kind kind = Ok kind

same_kind : (a b : NodeKind) → ok_kind a ≡ ok_kind b → a ≡ b
same_kind a b e = cc

passes_as : (o : Option NodeKind) (nodes : ℕ) (f : Fields) (kind : NodeKind) → kind_of f.kind ≡ o → checked_as o nodes f ≡ Ok kind → Passes nodes kind f
unfolding checked_as
passes_as None nodes f kind k e = absurd cc
passes_as (Some found) nodes f kind k e =
    let name = refuse_ok (not (may_be_named f.slot found (name_in f))) Name (parent_check nodes found f) kind e in
    let parent = refuse_ok (nat_le nodes f.parent) Parent (length_check found f) kind name.1 in
    let length = refuse_ok (not (may_have_length found f.file_length)) Length (maps_check found f) kind parent.1 in
    let maps = refuse_ok (not (f.map_count == map_pages_of f.file_length)) Maps (rest_check found f) kind length.1 in
    let rest = refuse_ok (not (is_zero_elsewhere found f)) Rest (Ok found) kind maps.1 in
    let all : Passes nodes found f = record {
      kind_is = k;
      named = true_from_not _ name.0;
      parented = leb-false nodes f.parent parent.0;
      measured = true_from_not _ length.0;
      mapped = true_from_not _ maps.0;
      zeros = true_from_not _ rest.0;
    } in
    subst (λ (x : NodeKind). Passes nodes x f) (same_kind found kind rest.1) all

pub Passes-from_checked : (nodes : ℕ) (f : Fields) (kind : NodeKind) → checked nodes f ≡ Ok kind → Passes nodes kind f
Passes-from_checked nodes f kind e = passes_as (kind_of f.kind) nodes f kind refl e

pub checked-Passes : (nodes : ℕ) (f : Fields) (kind : NodeKind) → Passes nodes kind f → checked nodes f ≡ Ok kind
unfolding checked_as
checked-Passes nodes f kind p =
    let known : checked nodes f ≡ checked_as (Some kind) nodes f = ap (λ (o : Option NodeKind). checked_as o nodes f) p.kind_is in
    known
    ∙ refuse_not (may_be_named f.slot kind (name_in f)) Name (parent_check nodes kind f) p.named
    ∙ refuse_false (nat_le nodes f.parent) Parent (length_check kind f) (lt-leb nodes f.parent p.parented)
    ∙ refuse_not (may_have_length kind f.file_length) Length (maps_check kind f) p.measured
    ∙ refuse_not (f.map_count == map_pages_of f.file_length) Maps (rest_check kind f) p.mapped
    ∙ refuse_not (is_zero_elsewhere kind f) Rest (Ok kind) p.zeros

-- a name that a node may have has at most 255 bytes
pub length-name : (slot : ℕ) (kind : NodeKind) (name : List ℕ) → may_be_named slot kind name ≡ true → length name ≤ 255
unfolding may_be_named
length-name slot kind name =
    elim (slot == 0 || is_free kind) as (λ (b : Bool). cond b (length name == 0) (is_part name) ≡ true → length name ≤ 255) [
      | true ↦ λ e. let none = eqb-true (length name) 0 e in omega arith
      | false ↦ λ e. length-part name e
    ]

pub kind_number-from_kind : (n : ℕ) (kind : NodeKind) → kind_of n ≡ Some kind → kind_number kind ≡ n
kind_number-from_kind zero kind e = sym (ap kind_number (same_Some Free kind e))
kind_number-from_kind (suc zero) kind e = sym (ap kind_number (same_Some Folder kind e))
kind_number-from_kind (suc (suc zero)) kind e = sym (ap kind_number (same_Some File kind e))
kind_number-from_kind (suc (suc (suc n))) kind e = absurd cc

pub kind_of-number : (kind : NodeKind) → kind_of (kind_number kind) ≡ Some kind
kind_of-number Free = refl
kind_of-number Folder = refl
kind_of-number File = refl

pub kind_number-below : (kind : NodeKind) → kind_number kind < 3
kind_number-below Free = omega arith
kind_number-below Folder = omega arith
kind_number-below File = omega arith

-- a length that a node may have takes at most 96 map pages
pub map_pages-few : (kind : NodeKind) (len : ℕ) → may_have_length kind len ≡ true → (len ≤ 44433408) × (map_pages_of len ≤ 96)
map_pages-few kind len e =
    let short : len ≤ 44433408 = below kind e in (short, omega arith) where
      below : (k : NodeKind) → may_have_length k len ≡ true → len ≤ 44433408
      below Free h = let none = eqb-true len 0 h in omega arith
      below Folder h = let none = eqb-true len 0 h in omega arith
      below File h = leb-true len 44433408 h
