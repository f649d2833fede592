-- From the fields of a block to its node, and back.
use Rattle.std.proofs.Common.{◌≡◌, ℕ, ◌-◌, ◌*◌, ◌≤◌, ◌^◌, Bool, true, ◌&&◌, List, ◌++◌, length, take, drop, replicate, Result, Ok, Err, eq-eqb, refl, sym, ap, subst, ◌∙◌, arith}
use Rattle.std.specs.List.{flat_map}
use Rattle.std.proofs.lemmas.Bool.{eqb-true}
use Rattle.std.proofs.lemmas.List.{length-take, take_at, drop_at, take-append-drop}
use Rattle.std.proofs.lemmas.Option.{same_Some}
use Rattle.sha2.specs.Sha256.{sha256}
use Rattle.vb_block.specs.Pages.{IsSealed, seal_of, sealed_part}
use Rattle.vb_block.specs.declared.digest.Ref.{Ref}
use Rattle.vb_block.specs.declared.why.Why.{Why}
use Rattle.vb_inode.specs.declared.node.Node.{Node}
use Rattle.vb_inode.specs.declared.node.NodeKind.{NodeKind}
use Rattle.vb_inode.specs.declared.errors.NodeError.{NodeError}
use Rattle.vb_inode.specs.declared.errors.NodeError.TheVariants.{Wrong, Memory}
use Rattle.vb_inode.specs.Nodes.{may_be_named, may_have_parent}
use Rattle.vb_tree.specs.Trees.{map_pages_of}
use Rattle.vb_inode.specs.Layout.{Fields, FitsBlock, AreRefs, fields_from, kind_number, node_page, padded, ref_bytes, sealed_bytes}
use Rattle.vb_inode.specs.Checks.{are_zeros, checked, is_zero_elsewhere, kind_of, name_in}
use Rattle.vb_inode.specs.Reading.{Answers, AnswersBy, Holds, IsDueTo, IsMadeOf, IsNodeOf, IsReadAs}
use Rattle.vb_inode.proofs.Zeros.{and_parts, are_zeros-padded, are_zeros-replicate, length-padded, padded-from_zeros, replicate-from_zeros, take-padded}
use Rattle.vb_inode.proofs.RefBytes.{length-refs, refs_same}
use Rattle.vb_inode.proofs.FieldBytes.{fields_same, length-sealed_bytes, sealed_bytes-same}
use Rattle.vb_inode.proofs.Checked.{Passes, Passes-from_checked, checked-Passes, kind_number-below, kind_number-from_kind, kind_of-number, length-name, map_pages-few}

abbrev made : ℕ → NodeKind → ℕ → List ℕ → ℕ → List Ref → Node
made slot kind parent name len maps = record {
  slot = slot;
  kind = kind;
  parent = parent;
  name = name;
  length = len;
  maps = maps;
}

pub nodes_same : (a b : Node) → a.slot ≡ b.slot → a.kind ≡ b.kind → a.parent ≡ b.parent → a.name ≡ b.name → a.length ≡ b.length → a.maps ≡ b.maps → a ≡ b
nodes_same a b e0 e1 e2 e3 e4 e5 =
    ap (λ (x : ℕ). made x a.kind a.parent a.name a.length a.maps) e0
    ∙ ap (λ (x : NodeKind). made b.slot x a.parent a.name a.length a.maps) e1
    ∙ ap (λ (x : ℕ). made b.slot b.kind x a.name a.length a.maps) e2
    ∙ ap (λ (x : List ℕ). made b.slot b.kind b.parent x a.length a.maps) e3
    ∙ ap (λ (x : ℕ). made b.slot b.kind b.parent b.name x a.maps) e4
    ∙ ap (λ (x : List Ref). made b.slot b.kind b.parent b.name b.length x) e5

both_true : (a b : Bool) → a ≡ true → b ≡ true → (a && b) ≡ true
both_true a b ha hb = ap (λ (x : Bool). x && b) ha ∙ hb

-- what the zeros of a block are
record AreClear (kind : NodeKind) (f : Fields) : Type 0 where
  gap : are_zeros f.gap ≡ true
  name : are_zeros (drop f.name_length f.name) ≡ true
  maps : are_zeros (drop (36 * f.map_count) f.maps) ≡ true
  parent : may_have_parent kind f.parent ≡ true

clear_from_test : (kind : NodeKind) (f : Fields) → is_zero_elsewhere kind f ≡ true → AreClear kind f
unfolding is_zero_elsewhere
clear_from_test kind f e =
    let z3 = and_parts (are_zeros f.gap && are_zeros (drop f.name_length f.name) && are_zeros (drop (36 * f.map_count) f.maps)) (may_have_parent kind f.parent) e in
    let z2 = and_parts (are_zeros f.gap && are_zeros (drop f.name_length f.name)) (are_zeros (drop (36 * f.map_count) f.maps)) z3.0 in
    let z1 = and_parts (are_zeros f.gap) (are_zeros (drop f.name_length f.name)) z2.0 in
    record { gap = z1.0; name = z1.1; maps = z2.1; parent = z3.1 }

test_from_clear : (kind : NodeKind) (f : Fields) → AreClear kind f → is_zero_elsewhere kind f ≡ true
unfolding is_zero_elsewhere
test_from_clear kind f h =
    both_true (are_zeros f.gap && are_zeros (drop f.name_length f.name) && are_zeros (drop (36 * f.map_count) f.maps)) (may_have_parent kind f.parent)
    (both_true (are_zeros f.gap && are_zeros (drop f.name_length f.name)) (are_zeros (drop (36 * f.map_count) f.maps))
    (both_true (are_zeros f.gap) (are_zeros (drop f.name_length f.name)) h.gap h.name) h.maps) h.parent

-- the references of a node lie within its block
pub maps-within : (nodes : ℕ) (f : Fields) (kind : NodeKind) → FitsBlock f → checked nodes f ≡ Ok kind → 36 * f.map_count ≤ length f.maps
maps-within nodes f kind fits e =
    let p = Passes-from_checked nodes f kind e in
    let few = map_pages-few kind f.file_length p.measured in
    let counted = eqb-true f.map_count (map_pages_of f.file_length) p.mapped in
    omega (arith, fits.maps, few.1)

-- the node that was made of fields has these fields
pub fields_from-made : (nodes : ℕ) (kind : NodeKind) (f : Fields) (node : Node) → FitsBlock f → Passes nodes kind f → IsMadeOf kind f node → fields_from node ≡ f
fields_from-made nodes kind f node fits p m =
    let clear = clear_from_test kind f p.zeros in
    let short = length-name f.slot kind (name_in f) p.named in
    let k = 36 * f.map_count in
    let refs = flat_map ref_bytes node.maps in
    let long : length refs ≡ k = omega (arith, length-refs node.maps m.maps.are_refs, m.maps.counted) in
    let taken : length (name_in f) ≡ f.name_length = omega (arith, short, fits.name, length-take f.name_length f.name) in
    let name_length : length node.name ≡ f.name_length = ap length m.name ∙ taken in
    let gap : replicate 4 0 ≡ f.gap = sym (replicate-from_zeros f.gap clear.gap ∙ ap (λ (n : ℕ). replicate n 0) fits.gap) in
    let name : padded 256 node.name ≡ f.name = ap (padded 256) m.name ∙ padded-from_zeros 256 f.name_length f.name fits.name clear.name in
    let front : refs ≡ take k f.maps = sym (ap (take k) m.maps.spelled ∙ take_at refs (drop k f.maps) k long) in
    let maps : padded 3776 refs ≡ f.maps = ap (padded 3776) front ∙ padded-from_zeros 3776 k f.maps fits.maps clear.maps in
    fields_same (fields_from node) f m.slot (ap kind_number m.is_kind ∙ kind_number-from_kind f.kind kind p.kind_is) m.parent name_length m.file_length m.maps.counted gap name maps

-- the node that was made of fields which pass the checks is one of the store
pub IsNodeOf-made : (nodes : ℕ) (kind : NodeKind) (f : Fields) (node : Node) → FitsBlock f → Passes nodes kind f → IsMadeOf kind f node → IsNodeOf nodes node
IsNodeOf-made nodes kind f node fits p m =
    let clear = clear_from_test kind f p.zeros in
    let plain = made f.slot kind f.parent (name_in f) f.file_length node.maps in
    let same : node ≡ plain = nodes_same node plain m.slot m.is_kind m.parent m.name m.file_length refl in
    let all : IsNodeOf nodes plain = record {
      slot = fits.slot;
      parent = p.parented;
      in_range = record {
        named = p.named;
        parented = clear.parent;
        measured = p.measured;
        mapped = m.maps.counted ∙ eqb-true _ _ p.mapped;
      };
      refs = m.maps.are_refs;
    } in
    subst (IsNodeOf nodes) (sym same) all

-- the fields of a node fit its block
pub FitsBlock-fields_from : (nodes : ℕ) (node : Node) → nodes ≤ 2 ^ 32 → IsNodeOf nodes node → FitsBlock (fields_from node)
FitsBlock-fields_from nodes node few h =
    let short = length-name node.slot node.kind node.name h.in_range.named in
    let measured = map_pages-few node.kind node.length h.in_range.measured in
    let below = kind_number-below node.kind in
    let long = length-refs node.maps h.refs in
    let counted = h.in_range.mapped in record {
      slot = h.slot;
      kind = omega arith;
      parent = omega (arith, h.parent);
      name_length = omega arith;
      file_length = omega (arith, measured.0);
      map_count = omega (arith, measured.1);
      gap = refl;
      name = length-padded 256 node.name (omega arith);
      maps = length-padded 3776 (flat_map ref_bytes node.maps) (omega (arith, measured.1));
    }

-- the fields of a node pass the checks
pub Passes-fields_from : (nodes : ℕ) (node : Node) → IsNodeOf nodes node → Passes nodes node.kind (fields_from node)
Passes-fields_from nodes node h =
    let name : take (length node.name) (padded 256 node.name) ≡ node.name = take-padded 256 (length node.name) node.name refl in
    let refs = flat_map ref_bytes node.maps in
    let clear : AreClear node.kind (fields_from node) = record {
      gap = are_zeros-replicate 4;
      name = are_zeros-padded 256 (length node.name) node.name refl;
      maps = are_zeros-padded 3776 (36 * length node.maps) refs (length-refs node.maps h.refs);
      parent = h.in_range.parented;
    } in record {
      kind_is = kind_of-number node.kind;
      named = ap (may_be_named node.slot node.kind) name ∙ h.in_range.named;
      parented = h.parent;
      measured = h.in_range.measured;
      mapped = eq-eqb _ _ h.in_range.mapped;
      zeros = test_from_clear node.kind (fields_from node) clear;
    }

-- what a seal covers in the block of a node
pub sealed_part-node_page : (node : Node) → FitsBlock (fields_from node) → sealed_part (node_page node) ≡ sealed_bytes (fields_from node)
unfolding sealed_part node_page
sealed_part-node_page node fits =
    take_at (sealed_bytes (fields_from node)) (sha256 (sealed_bytes (fields_from node))) 4064 (length-sealed_bytes (fields_from node) fits)

pub seal_of-node_page : (node : Node) → FitsBlock (fields_from node) → seal_of (node_page node) ≡ sha256 (sealed_bytes (fields_from node))
unfolding seal_of node_page
seal_of-node_page node fits =
    drop_at (sealed_bytes (fields_from node)) (sha256 (sealed_bytes (fields_from node))) 4064 (length-sealed_bytes (fields_from node) fits)

-- the block of a node holds its fields
pub Holds-node_page : (nodes : ℕ) (page : List ℕ) (node : Node) → nodes ≤ 2 ^ 32 → IsNodeOf nodes node → page ≡ node_page node → Holds page (fields_from node)
Holds-node_page nodes page node few h e =
    let fits = FitsBlock-fields_from nodes node few h in
    let covered = sealed_part-node_page node fits in
    let all : Holds (node_page node) (fields_from node) = record {
      is_sealed = seal_of-node_page node fits ∙ ap sha256 (sym covered);
      fits = fits;
      spelled = covered;
    } in
    subst (λ (p : List ℕ). Holds p (fields_from node)) (sym e) all

-- a page holds the fields of one node alone
Holds-same : (page : List ℕ) (f g : Fields) → Holds page f → Holds page g → f ≡ g
Holds-same page f g hf hg = sealed_bytes-same f g hf.fits hg.fits (sym hf.spelled ∙ hg.spelled)

-- a page that holds the fields of a node is its block
page-from_fields : (page : List ℕ) (f : Fields) (node : Node) → Holds page f → fields_from node ≡ f → page ≡ node_page node
unfolding node_page sealed_part seal_of
page-from_fields page f node h e =
    sym (take-append-drop 4064 page)
    ∙ ap (λ (b : List ℕ). take 4064 page ++ b) h.is_sealed
    ∙ ap (λ (b : List ℕ). b ++ sha256 b) (h.spelled ∙ ap sealed_bytes (sym e))

kinds_same : (a b : NodeKind) → kind_number a ≡ kind_number b → a ≡ b
kinds_same a b e = same_Some a b (sym (kind_of-number a) ∙ ap kind_of e ∙ kind_of-number b)

abbrev zeros_after : Node → List ℕ
zeros_after node = replicate (3776 - length (flat_map ref_bytes node.maps)) 0

-- nodes with the same fields are one
pub nodes-from_fields : (a b : Node) → AreRefs a.maps → AreRefs b.maps → fields_from a ≡ fields_from b → a ≡ b
nodes-from_fields a b ha hb e =
    let long : length a.name ≡ length b.name = ap (λ (f : Fields). f.name_length) e in
    let names : padded 256 a.name ≡ padded 256 b.name = ap (λ (f : Fields). f.name) e in
    let name : a.name ≡ b.name = sym (take-padded 256 (length a.name) a.name refl) ∙ ap (take (length a.name)) names ∙ take-padded 256 (length a.name) b.name (sym long) in
    let counts : length a.maps ≡ length b.maps = ap (λ (f : Fields). f.map_count) e in
    let maps = refs_same a.maps b.maps (zeros_after a) (zeros_after b) ha hb counts (ap (λ (f : Fields). f.maps) e) in
    nodes_same a b (ap (λ (f : Fields). f.slot) e) (kinds_same a.kind b.kind (ap (λ (f : Fields). f.kind) e)) (ap (λ (f : Fields). f.parent) e) name (ap (λ (f : Fields). f.file_length) e) maps.0

-- the block of a node tells the node
pub node_page_same : (nodes : ℕ) (a b : Node) → nodes ≤ 2 ^ 32 → IsNodeOf nodes a → IsNodeOf nodes b → node_page a ≡ node_page b → a ≡ b
node_page_same nodes a b few ha hb e =
    let held = Holds-node_page nodes (node_page a) a few ha refl in
    let other = Holds-node_page nodes (node_page a) b few hb e in
    nodes-from_fields a b ha.refs hb.refs (Holds-same (node_page a) (fields_from a) (fields_from b) held other)

-- ---- the answer to a sealed page

pub answer_is_due : (nodes : ℕ) (page : List ℕ) (f : Fields) (result : Result Node NodeError) → Holds page f → Answers nodes f result → IsDueTo nodes page result
answer_is_due nodes page f result holds answers =
    by_checks (checked nodes f) refl answers where
      by_node : (kind : NodeKind) (r : Result Node NodeError) → checked nodes f ≡ Ok kind → AnswersBy f (Ok kind) r → IsDueTo nodes page r
      by_node kind (Ok node) e made =
          let p = Passes-from_checked nodes f kind e in
          (IsNodeOf-made nodes kind f node holds.fits p made, page-from_fields page f node holds (fields_from-made nodes kind f node holds.fits p made))
      by_node kind (Err fault) e memory = subst (λ (x : NodeError). IsDueTo nodes page (Err x)) (sym memory) tt

      by_checks : (o : Result NodeKind Why) → checked nodes f ≡ o → AnswersBy f o result → IsDueTo nodes page result
      by_checks (Err why) e wrong = subst (IsDueTo nodes page) (sym wrong) (f, holds, e)
      by_checks (Ok kind) e given = by_node kind result e given

pub answer_is_wrong : (nodes : ℕ) (page : List ℕ) (f g : Fields) (why : Why) (result : Result Node NodeError) → Holds page f → Answers nodes f result → Holds page g → checked nodes g ≡ Err why → result ≡ Err (Wrong why)
answer_is_wrong nodes page f g why result hf answers hg e =
    let fault : checked nodes f ≡ Err why = ap (checked nodes) (Holds-same page f g hf hg) ∙ e in
    subst (λ (o : Result NodeKind Why). AnswersBy f o result) fault answers

pub answer_is_node : (nodes : ℕ) (page : List ℕ) (f : Fields) (node : Node) (result : Result Node NodeError) → nodes ≤ 2 ^ 32 → Holds page f → Answers nodes f result → IsNodeOf nodes node → page ≡ node_page node → IsReadAs node Memory result
answer_is_node nodes page f node result few holds answers h e =
    let same = Holds-same page f (fields_from node) holds (Holds-node_page nodes page node few h e) in
    let passed = Passes-fields_from nodes node h in
    let good : checked nodes f ≡ Ok node.kind = ap (checked nodes) same ∙ checked-Passes nodes (fields_from node) node.kind passed in
    read result (subst (λ (o : Result NodeKind Why). AnswersBy f o result) good answers) where
      read : (r : Result Node NodeError) → AnswersBy f (Ok node.kind) r → IsReadAs node Memory r
      read (Ok found) m =
          let good : checked nodes f ≡ Ok node.kind = ap (checked nodes) (Holds-same page f (fields_from node) holds (Holds-node_page nodes page node few h e)) ∙ checked-Passes nodes (fields_from node) node.kind (Passes-fields_from nodes node h) in
          let again = fields_from-made nodes node.kind f found holds.fits (Passes-from_checked nodes f node.kind good) m in
          nodes-from_fields found node m.maps.are_refs h.refs (again ∙ Holds-same page f (fields_from node) holds (Holds-node_page nodes page node few h e))
      read (Err fault) m = m

-- a page that is sealed holds the fields that were split from it
pub held : (page bytes front : List ℕ) (f : Fields) → IsSealed page → FitsBlock f → bytes ≡ page → front ≡ take 4064 bytes → front ≡ sealed_bytes f → Holds page f
unfolding sealed_part
held page bytes front f sealed fits same taken spelled = record {
  is_sealed = sealed;
  fits = fits;
  spelled = ap (take 4064) (sym same) ∙ sym taken ∙ spelled;
}
