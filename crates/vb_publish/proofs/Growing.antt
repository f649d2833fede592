-- The draft while the content of a file is sent.
use Rattle.std.proofs.Common.{◌≡◌, ℕ, suc, ◌+◌, ◌*◌, ◌≤◌, List, [], ◌∷◌, ◌++◌, length, map, take, Ok, ap, ◌∙◌, arith, append_assoc}
use Rattle.std.specs.List.{flat_map, range_with_len}
use Rattle.std.proofs.Math.Seq.{take-append-add}
use Rattle.std.proofs.lemmas.Grind.{flat_map-append}
use Rattle.std.proofs.lemmas.List.{take-append-le}
use Rattle.std.proofs.lemmas.List.FromFn.{take-map-range_with_len}
use Rattle.vb_tree.specs.declared.tree.Kind.TheVariants.{File}
use Rattle.vb_tree.specs.declared.tree.TreeEntry.{TreeEntry}
use Rattle.vb_tree.specs.Trees.{data_pages_of}
use Rattle.vb_msg.specs.declared.message.Msg.{Msg}
use Rattle.vb_msg.specs.declared.message.Msg.TheVariants.{Begin, Object, Seal, Publish}
use Rattle.vb_cloud.specs.Machine.{CloudState}
use Rattle.vb_publish.specs.Clouds.{cloud_through, drafting, growing, sealed, MayUpload}
use Rattle.vb_publish.specs.Messages.{enter_named, epoch_named, path_named}
use Rattle.vb_publish.specs.Plans.{part_at, parts_of, entry_messages, counts_of_tree, total_of, upload_plan}
use Rattle.vb_publish.specs.Worked.{entry_with}
use Rattle.vb_publish.proofs.Lengths.{length-entries, length-parts}
use Rattle.vb_publish.proofs.Taken.{belongs-here, content-taken, front-taken, parts-taken, through-both, went}

-- a plan, split at a file
plan-split : (epoch : ℕ) (published front : List TreeEntry) (path : List (List ℕ)) (bytes : List ℕ) (back : List TreeEntry) → upload_plan epoch (front ++ entry_with path File bytes ∷ back) published ≡ (Begin (epoch_named epoch) ∷ flat_map (entry_messages published) front) ++ (Object ∷ (parts_of bytes ++ (Seal ∷ enter_named (path_named path) File ∷ (flat_map (entry_messages published) back ++ (Publish (epoch_named epoch) ∷ [])))))
plan-split epoch published front path bytes back =
    let f = entry_messages published in
    let last = Publish (epoch_named epoch) ∷ [] in
    let tail = Seal ∷ enter_named (path_named path) File ∷ [] in
    ap (λ ms. Begin (epoch_named epoch) ∷ (ms ++ last)) (flat_map-append f front (entry_with path File bytes ∷ back))
    ∙ ap (λ ms. Begin (epoch_named epoch) ∷ ms) (append_assoc (flat_map f front) ((Object ∷ (parts_of bytes ++ tail)) ++ flat_map f back) last)
    ∙ ap (λ ms. Begin (epoch_named epoch) ∷ (flat_map f front ++ (Object ∷ (ms ++ last)))) (append_assoc (parts_of bytes) tail (flat_map f back))
    ∙ ap (λ ms. Begin (epoch_named epoch) ∷ (flat_map f front ++ (Object ∷ ms))) (append_assoc (parts_of bytes) (tail ++ flat_map f back) last)

-- a front of a plan that ends within a file
plan-within : (epoch : ℕ) (published front : List TreeEntry) (path : List (List ℕ)) (bytes : List ℕ) (back : List TreeEntry) (n place : ℕ) → place ≡ 1 + total_of (counts_of_tree front) + suc n → take place (upload_plan epoch (front ++ entry_with path File bytes ∷ back) published) ≡ (Begin (epoch_named epoch) ∷ flat_map (entry_messages published) front) ++ (Object ∷ take n (parts_of bytes ++ (Seal ∷ enter_named (path_named path) File ∷ (flat_map (entry_messages published) back ++ (Publish (epoch_named epoch) ∷ [])))))
plan-within epoch published front path bytes back n place is =
    let first : List Msg = Begin (epoch_named epoch) ∷ flat_map (entry_messages published) front in
    let rest : List Msg = Object ∷ (parts_of bytes ++ (Seal ∷ enter_named (path_named path) File ∷ (flat_map (entry_messages published) back ++ (Publish (epoch_named epoch) ∷ [])))) in
    let count = length-entries published front in
    let at : place ≡ length first + suc n = omega arith in
    ap (take place) (plan-split epoch published front path bytes back) ∙ ap (λ (m : ℕ). take m (first ++ rest)) at ∙ take-append-add first rest (suc n)

pub grows : (k : CloudState) (epoch j : ℕ) (published front : List TreeEntry) (path : List (List ℕ)) (bytes : List ℕ) (back : List TreeEntry) → MayUpload k epoch (front ++ entry_with path File bytes ∷ back) → j ≤ data_pages_of (length bytes) → cloud_through k (take (2 + total_of (counts_of_tree front) + j) (upload_plan epoch (front ++ entry_with path File bytes ∷ back) published)) ≡ Ok (growing k epoch front (take (4096 * j) bytes))
grows k epoch j published front path bytes back may within =
    let first : List Msg = Begin (epoch_named epoch) ∷ flat_map (entry_messages published) front in
    let tail : List Msg = Seal ∷ enter_named (path_named path) File ∷ (flat_map (entry_messages published) back ++ (Publish (epoch_named epoch) ∷ [])) in
    let count = length-parts bytes in
    let here = belongs-here (front ++ entry_with path File bytes ∷ back) front (entry_with path File bytes) back may.is_tree.all_belong in
    let parts : take j (parts_of bytes ++ tail) ≡ map (part_at bytes) (range_with_len 0 j) = take-append-le j (parts_of bytes) tail (omega arith) ∙ take-map-range_with_len (part_at bytes) 0 (data_pages_of (length bytes)) j within in
    ap (cloud_through k) (plan-within epoch published front path bytes back j (2 + total_of (counts_of_tree front) + j) (omega arith))
    ∙ through-both first (Object ∷ take j (parts_of bytes ++ tail)) k (drafting k epoch front) (front-taken k epoch published front (entry_with path File bytes ∷ back) may)
    ∙ ap (λ ms. cloud_through (growing k epoch front []) ms) parts
    ∙ parts-taken k front epoch bytes j 0 here.bytes_few (omega arith)
    ∙ ap (λ (i : ℕ). went (growing k epoch front (take (4096 * i) bytes))) (omega arith)

pub is-sealed : (k : CloudState) (epoch : ℕ) (published front : List TreeEntry) (path : List (List ℕ)) (bytes : List ℕ) (back : List TreeEntry) → MayUpload k epoch (front ++ entry_with path File bytes ∷ back) → cloud_through k (take (3 + total_of (counts_of_tree front) + data_pages_of (length bytes)) (upload_plan epoch (front ++ entry_with path File bytes ∷ back) published)) ≡ Ok (sealed k epoch front bytes)
is-sealed k epoch published front path bytes back may =
    let first : List Msg = Begin (epoch_named epoch) ∷ flat_map (entry_messages published) front in
    let tail : List Msg = Seal ∷ enter_named (path_named path) File ∷ (flat_map (entry_messages published) back ++ (Publish (epoch_named epoch) ∷ [])) in
    let count = length-parts bytes in
    let here = belongs-here (front ++ entry_with path File bytes ∷ back) front (entry_with path File bytes) back may.is_tree.all_belong in
    let pages = data_pages_of (length bytes) in
    let more : pages + 1 ≡ length (parts_of bytes) + 1 = omega arith in
    let parts : take (pages + 1) (parts_of bytes ++ tail) ≡ parts_of bytes ++ (Seal ∷ []) = ap (λ (n : ℕ). take n (parts_of bytes ++ tail)) more ∙ take-append-add (parts_of bytes) tail 1 in
    ap (cloud_through k) (plan-within epoch published front path bytes back (pages + 1) (3 + total_of (counts_of_tree front) + pages) (omega arith))
    ∙ through-both first (Object ∷ take (pages + 1) (parts_of bytes ++ tail)) k (drafting k epoch front) (front-taken k epoch published front (entry_with path File bytes ∷ back) may)
    ∙ ap (λ ms. cloud_through (growing k epoch front []) ms) parts
    ∙ through-both (parts_of bytes) (Seal ∷ []) (growing k epoch front []) (growing k epoch front bytes) (content-taken k front epoch bytes here.bytes_few)

pub ruleset drafts = (grows, is-sealed)
