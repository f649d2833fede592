-- Damage is found by two digests that differ.
use Rattle.std.proofs.Common.{◌≡◌, ◌≢◌, ℕ, ◌+◌, Bool, true, false, cond, not, ◌==◌, List, Result, Ok, Err, refl, sym, ap, subst, ◌∙◌}
use Rattle.std.specs.Str.{bytes_eq}
use Rattle.std.proofs.lemmas.Slice.Eq.{bytes_eq-Decides}
use Rattle.sha2.specs.Sha256.{sha256}
use Rattle.vb_block.specs.Pages.{seal_of, sealed_part}
use Rattle.vb_block.specs.declared.digest.Ref.{Ref}
use Rattle.vb_block.specs.declared.why.Why.TheVariants.{Slot}
use Rattle.vb_disk.specs.Misses.{is_sealed}
use Rattle.vb_index.specs.Indexes.{IndexState}
use Rattle.vb_inode.specs.declared.node.Node.{Node}
use Rattle.vb_inode.specs.declared.node.NodeKind.{NodeKind}
use Rattle.vb_inode.specs.declared.errors.NodeError.{NodeError}
use Rattle.vb_inode.specs.declared.errors.NodeError.TheVariants.{Unsealed}
use Rattle.vb_inode.specs.declared.errors.MapError.{MapError}
use Rattle.vb_inode.specs.declared.errors.MapError.TheVariants.{Wrong as WrongMap, Memory as NoMemoryForMap}
use Rattle.vb_inode.specs.Checks.{checked}
use Rattle.vb_inode.specs.Layout.{Fields, fields_in}
use Rattle.vb_inode.specs.Reading.{map_read, node_by, node_read}
use Rattle.vb_block.specs.declared.why.Why.{Why}
use Rattle.vb_journal.specs.Images.{slot_of}
use Rattle.vb_journal.specs.declared.recover_error.RecoverError.{RecoverError}
use Rattle.vb_journal.specs.declared.recover_error.RecoverError.TheVariants.{NotAStore, Damaged, Unfit, Rebuilding, DiskFault, Memory}
use Rattle.vb_nodes.specs.declared.errors.TableError.{TableError}
use Rattle.vb_nodes.specs.declared.errors.TableError.TheVariants.{Wrong as WrongNode, TooManyPages, Memory as NoMemoryForIndex}
use Rattle.vb_store.specs.declared.map_page.MapPage.{MapPage}
use Rattle.vb_store.specs.Metadata.{Standing, index_or_refusal, map_checked, node_checked, node_or_refusal, refs_or_refusal, refuse}
use Rattle.vb_store.specs.Mounting.{IsDue}

-- damage in an answer has two digests that differ
abbrev pub Differs : {T : Type 0} → Result T RecoverError → Type 0
Differs due = (place : ℕ) (kept found : List ℕ) → due ≡ Err (Damaged place kept found) → kept ≢ found

-- two digests that the test tells apart
apart : (a b kept found : List ℕ) → bytes_eq a b ≡ false → kept ≡ a → found ≡ b → kept ≢ found
apart a b kept found is one two same =
    let equal : bytes_eq a b ≡ true = (bytes_eq-Decides a b).1 (sym one ∙ same ∙ two) in
    let clash : true ≡ false = sym equal ∙ is in
    absurd (cc clash)

refused-differs : {T : Type 0} (test : Bool) (place : ℕ) (a b : List ℕ) (next : Result T RecoverError) → (not test ≡ true → bytes_eq a b ≡ false) → (test ≡ true → Differs next) → Differs (refuse (not test) (Damaged place a b) next)
refused-differs {T = T} true place a b next is rest at kept found same = rest refl at kept found same
refused-differs {T = T} false place a b next is rest at kept found same =
    let one : (let l : Result T RecoverError = Err (Damaged place a b) in l ≡ Err (Damaged at kept found)) = same in
    apart a b kept found (is refl) (cc one) (cc one)

not-true : (b : Bool) → not b ≡ true → b ≡ false
not-true true is = absurd (cc is)
not-true false is = refl

unsealed_only : (place : ℕ) (kind : Result NodeKind Why) (f : Fields) → Differs (node_or_refusal place (node_by kind f))
unsealed_only place (Ok kind) f at kept found is = absurd (cc is)
unsealed_only place (Err why) f at kept found is = absurd (cc is)

-- a sealed block isn't damaged
sealed-differs : (place nodes : ℕ) (page : List ℕ) → is_sealed page ≡ true → Differs (node_or_refusal place (node_read nodes page))
unfolding node_read
sealed-differs place nodes page is =
    let read : Bool → Result Node NodeError = λ b. cond b (node_by (checked nodes (fields_in page)) (fields_in page)) (Err (Unsealed (seal_of page) (sha256 (sealed_part page)))) in
    subst (λ (b : Bool). Differs (node_or_refusal place (read b))) (sym is) (unsealed_only place (checked nodes (fields_in page)) (fields_in page))

off_slot-differs : {T : Type 0} (test : Bool) (place : ℕ) (next : Result T RecoverError) → Differs next → Differs (refuse test (Unfit place Slot) next)
off_slot-differs true place next rest at kept found is = absurd (cc is)
off_slot-differs false place next rest at kept found is = rest at kept found is

-- a damaged home
pub node-differs : (nodes slot : ℕ) (block : Standing) → Differs (node_checked nodes slot block)
node-differs nodes slot block =
    refused-differs (is_sealed block.page) (2 + slot) (seal_of block.page) (sha256 (sealed_part block.page))
    (refuse (not (slot_of block.page == slot)) (Unfit block.place Slot) (node_or_refusal block.place (node_read nodes block.page)))
    (not-true (is_sealed block.page))
    (λ is. off_slot-differs (not (slot_of block.page == slot)) block.place (node_or_refusal block.place (node_read nodes block.page)) (sealed-differs block.place nodes block.page is))

refs-differ : (place : ℕ) (r : Result (List Ref) MapError) → Differs (refs_or_refusal place r)
refs-differ place (Ok refs) at kept found is = absurd (cc is)
refs-differ place (Err (WrongMap why)) at kept found is = absurd (cc is)
refs-differ place (Err NoMemoryForMap) at kept found is = absurd (cc is)

-- a damaged map page
pub map-differs : (m : MapPage) (page : List ℕ) → Differs (map_checked m page)
map-differs m page =
    refused-differs (bytes_eq m.reference.digest (sha256 page)) m.reference.place m.reference.digest (sha256 page)
    (refs_or_refusal m.reference.place (map_read m.count page)) (not-true (bytes_eq m.reference.digest (sha256 page))) (λ is. refs-differ m.reference.place (map_read m.count page))

-- nodes that make no tree aren't damaged
pub table-differs : (place : ℕ) (places : ℕ → ℕ) (r : Result IndexState TableError) → Differs (index_or_refusal place places r)
table-differs place places (Ok index) at kept found is = absurd (cc is)
table-differs place places (Err (WrongNode slot why)) at kept found is = absurd (cc is)
table-differs place places (Err TooManyPages) at kept found is = absurd (cc is)
table-differs place places (Err NoMemoryForIndex) at kept found is = absurd (cc is)

-- a damage that is due has two digests that differ
pub due-differs : {T : Type 0} (due : Result T RecoverError) (error : RecoverError) → Differs due → IsDue due (Err error) → (place : ℕ) (kept found : List ℕ) → error ≡ Damaged place kept found → kept ≢ found
due-differs due (NotAStore at) differs is place kept found same = absurd (cc same)
due-differs due (Damaged at k f) differs is place kept found same =
    differs place kept found (is ∙ ap (λ (e : RecoverError). Err e) same)
due-differs due (Unfit at why) differs is place kept found same = absurd (cc same)
due-differs due Rebuilding differs is place kept found same = absurd (cc same)
due-differs due DiskFault differs is place kept found same = absurd (cc same)
due-differs due Memory differs is place kept found same = absurd (cc same)
