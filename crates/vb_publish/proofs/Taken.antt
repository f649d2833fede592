-- A cloud takes the messages of a plan, one after the other.
use Rattle.std.proofs.Common.{◌≡◌, ℕ, zero, suc, ◌+◌, ◌*◌, ◌<◌, ◌≤◌, false, cond, not, ◌==◌, List, [], ◌∷◌, ◌++◌, length, map, take, drop, Option, Some, None, Result, Ok, Err, refl, sym, ap, subst, ◌∙◌, arith, length-append, append_assoc, append-nil, slice_get, is_some, min, ◌-◌}
use Rattle.std.specs.Prelude.{nat_lt, IsOk}
use Rattle.std.specs.List.{flat_map, range_with_len}
use Rattle.std.specs.Ordering.{is_lt, is_eq, ordering_reverse, ordering_then}
use Rattle.std.specs.Option.{option_map}
use Rattle.std.specs.declared.cmp.Ordering.TheVariants.{Less}
use Rattle.std.proofs.Math.Seq.{take-append_seam}
use Rattle.std.proofs.lemmas.Grind.{flat_map-append}
use Rattle.std.proofs.lemmas.Bool.{false≢true, lt-ltb}
use Rattle.std.proofs.lemmas.Bool.Decides.{nat_tests, Decides-eqb}
use Rattle.std.proofs.lemmas.List.{drop-take, take-append-drop, length-take, length-drop, take_all, take-map}
use Rattle.vb_path.specs.Paths.{same_path, path_cmp}
use Rattle.vb_path.proofs.PathLaws.{path_cmp-total, same_path-Decides, same_path-ties}
use Rattle.vb_tree.specs.declared.tree.Kind.{Kind}
use Rattle.vb_tree.specs.declared.tree.Kind.TheVariants.{Folder, File}
use Rattle.vb_tree.specs.declared.tree.TreeEntry.{TreeEntry}
use Rattle.vb_tree.specs.Trees.{entry_at, kind_at, is_root, is_folder, parent_of, insert_entry, data_pages_of, AllAfter, AreInOrder, AllBelongIn, BelongsIn, IsTree}
use Rattle.vb_tree.specs.Contents.{part_of}
use Rattle.std.specs.Cmp.Lexicographic.{nat_list_cmp_total}
use Rattle.std.proofs.lemmas.Cmp.{tied_itself}
use Rattle.vb_msg.specs.declared.message.Msg.{Msg}
use Rattle.vb_msg.specs.declared.message.Msg.TheVariants.{Begin, Seal, Publish}
use Rattle.vb_msg.specs.declared.ranges.EntryPath.{EntryPath}
use Rattle.vb_cloud.specs.declared.refusal.CloudRefusal.{CloudRefusal}
use Rattle.vb_cloud.specs.declared.refusal.CloudRefusal.TheVariants.{BadParent, Twice, TooMany, TooLarge, NotLater, NoDraft}
use Rattle.vb_cloud.specs.Machine.{Absent, CloudState, DraftState, Growing, ObjectState, Sealed, add_entry, begin, cloud_step, publish, refuse_if, refuse_place, with_draft}
use Rattle.vb_publish.specs.Clouds.{and_next, cloud_through, drafting, showing, MayUpload}
use Rattle.vb_publish.specs.Messages.{enter_named, epoch_named, path_named}
use Rattle.vb_publish.specs.Plans.{part_at, parts_of, messages_by, entry_messages, messages_for, counts_of_tree, total_of, upload_plan}
use Rattle.vb_publish.proofs.Lengths.{length-entries}
use Rattle.vb_publish.proofs.Names.{epoch-here, part-here, path-here}

-- ---- runs

then-next : (r : Result CloudState CloudRefusal) (xs ys : List Msg) → ((k : CloudState) → cloud_through k (xs ++ ys) ≡ and_next (cloud_through k xs) (λ a. cloud_through a ys)) → and_next r (λ a. cloud_through a (xs ++ ys)) ≡ and_next (and_next r (λ a. cloud_through a xs)) (λ a. cloud_through a ys)
then-next (Ok k) xs ys goes = goes k
then-next (Err refusal) xs ys goes = refl

-- some messages and then others
through-append : (xs ys : List Msg) (k : CloudState) → cloud_through k (xs ++ ys) ≡ and_next (cloud_through k xs) (λ a. cloud_through a ys)
through-append [] ys k = refl
through-append (x ∷ xs) ys k = then-next (cloud_step k x) xs ys (through-append xs ys)

-- where the first ones lead somewhere, the others go on from there
pub through-both : (xs ys : List Msg) (k now : CloudState) → cloud_through k xs ≡ Ok now → cloud_through k (xs ++ ys) ≡ cloud_through now ys
through-both xs ys k now goes = through-append xs ys k ∙ ap (λ r. and_next r (λ a. cloud_through a ys)) goes

abbrev pub went : CloudState → Result CloudState CloudRefusal
went k = Ok k

-- one message
through-one : (m : Msg) (k now : CloudState) → cloud_step k m ≡ Ok now → (ms : List Msg) → cloud_through k (m ∷ ms) ≡ cloud_through now ms
through-one m k now goes ms = ap (λ r. and_next r (λ a. cloud_through a ms)) goes

-- ---- a new entry at the end

not_before : (p : List (List ℕ)) → path_cmp p p ≡ Less → ⊥
not_before p h = false≢true (sym (same_path-ties p p ∙ ap is_eq h) ∙ (same_path-Decides p p).1 refl)

apart : (p q : List (List ℕ)) → path_cmp p q ≡ Less → same_path p q ≡ false
apart p q less = same_path-ties p q ∙ ap is_eq less

apart-back : (p q : List (List ℕ)) → path_cmp p q ≡ Less → same_path q p ≡ false
apart-back p q less = same_path-ties q p ∙ ap is_eq (path_cmp-total.antisymm q p) ∙ ap (λ o. is_eq (ordering_reverse o)) less

-- each of these entries comes before a path
abbrev AllBefore : List (List ℕ) → List TreeEntry → Type 0
AllBefore path [] = Unit {0}
AllBefore path (x ∷ xs) = (path_cmp x.path path ≡ Less) × AllBefore path xs

after-member : (p : List (List ℕ)) (front : List TreeEntry) (e : TreeEntry) (back : List TreeEntry) → AllAfter p (front ++ e ∷ back) → path_cmp p e.path ≡ Less
after-member p [] e back all = all.0
after-member p (x ∷ xs) e back all = after-member p xs e back all.1

before : (front : List TreeEntry) (e : TreeEntry) (back : List TreeEntry) → AreInOrder (front ++ e ∷ back) → AllBefore e.path front
before [] e back order = tt
before (x ∷ xs) e back order = (after-member x.path xs e back order.0, before xs e back order.1)

insert-last : (e : TreeEntry) (front : List TreeEntry) → AllBefore e.path front → insert_entry e front ≡ front ++ e ∷ []
insert-last e [] all = refl
insert-last e (x ∷ xs) all =
    let later : is_lt (path_cmp e.path x.path) ≡ false = ap is_lt (path_cmp-total.antisymm e.path x.path) ∙ ap (λ o. is_lt (ordering_reverse o)) all.0 in
    ap (λ b. cond b (e ∷ x ∷ xs) (x ∷ insert_entry e xs)) later ∙ ap (λ es. x ∷ es) (insert-last e xs all.1)

nothing-there : (p : List (List ℕ)) (front : List TreeEntry) → AllBefore p front → entry_at p front ≡ None
nothing-there p [] all = refl
nothing-there p (x ∷ xs) all = ap (λ b. cond b (Some x) (entry_at p xs)) (apart-back x.path p all.0) ∙ nothing-there p xs all.1

-- ---- the folder of an entry stands before it

nothing-behind : (p : List (List ℕ)) (es : List TreeEntry) → AllAfter p es → entry_at p es ≡ None
nothing-behind p [] all = refl
nothing-behind p (e ∷ es) all = ap (λ b. cond b (Some e) (entry_at p es)) (apart p e.path all.0) ∙ nothing-behind p es all.1

front-alone : (p : List (List ℕ)) (front back : List TreeEntry) → AllAfter p back → entry_at p (front ++ back) ≡ entry_at p front
front-alone p [] back all = nothing-behind p back all
front-alone p (x ∷ xs) back all = ap (λ o. cond (same_path p x.path) (Some x) o) (front-alone p xs back all)

all-later : (p q : List (List ℕ)) (es : List TreeEntry) → path_cmp p q ≡ Less → AllAfter q es → AllAfter p es
all-later p q [] less all = tt
all-later p q (e ∷ es) less all = (path_cmp-total.trans p q e.path less all.0, all-later p q es less all.1)

after-here : (front : List TreeEntry) (e : TreeEntry) (back : List TreeEntry) → AreInOrder (front ++ e ∷ back) → AllAfter e.path back
after-here [] e back order = order.0
after-here (x ∷ xs) e back order = after-here xs e back order.1

pub belongs-here : (tree front : List TreeEntry) (e : TreeEntry) (back : List TreeEntry) → AllBelongIn tree (front ++ e ∷ back) → BelongsIn tree e
belongs-here tree [] e back all = all.0
belongs-here tree (x ∷ xs) e back all = belongs-here tree xs e back all.1

folder-first : (p : List (List ℕ)) (x : List ℕ) → path_cmp (take (length p) (x ∷ p)) (x ∷ p) ≡ Less
folder-first [] x = refl
folder-first (y ∷ ys) x = ap (λ o. ordering_then o (path_cmp (take (length ys) (y ∷ ys)) (y ∷ ys))) (tied_itself nat_list_cmp_total x) ∙ folder-first ys y

-- a folder comes before what is in it
parent-before : (p : List (List ℕ)) → is_root p ≡ false → path_cmp (parent_of p) p ≡ Less
parent-before [] below = absurd (false≢true (sym below))
parent-before (x ∷ xs) below =
    let last : length (x ∷ xs) - 1 ≡ length xs = omega arith in
    ap (λ (n : ℕ). path_cmp (take n (x ∷ xs)) (x ∷ xs)) last ∙ folder-first xs x

-- among the entries before an entry stands its folder
folder-there : (front : List TreeEntry) (e : TreeEntry) (back : List TreeEntry) → AreInOrder (front ++ e ∷ back) → BelongsIn (front ++ e ∷ back) e → kind_at (parent_of e.path) front ≡ Some Folder
folder-there front e back order is =
    let p = parent_of e.path in
    let less : path_cmp p e.path ≡ Less = parent-before e.path is.below_root in
    let behind : AllAfter p (e ∷ back) = (less, all-later p e.path back less (after-here front e back order)) in
    sym (ap (λ o. cond (is_root p) (Some Folder) (option_map (λ (x : TreeEntry). x.kind) o)) (front-alone p front (e ∷ back) behind)) ∙ is.parent_there

-- ---- an entry enters

abbrev held : DraftState → Result DraftState CloudRefusal
held d = Ok d

placed : (path : List (List ℕ)) (tree : List TreeEntry) (next : Result DraftState CloudRefusal) → kind_at (parent_of path) tree ≡ Some Folder → entry_at path tree ≡ None → (length tree == 65535) ≡ false → refuse_place path tree next ≡ next
placed path tree next folder none few =
    ap (λ o. refuse_if (not (is_folder o)) BadParent (refuse_if (is_some (entry_at path tree)) Twice (refuse_if (length tree == 65535) TooMany next))) folder
    ∙ ap (λ o. refuse_if (is_some o) Twice (refuse_if (length tree == 65535) TooMany next)) none
    ∙ ap (λ b. refuse_if b TooMany next) few

-- a draft of an epoch with some entries and an object
abbrev with_object : CloudState → ℕ → List TreeEntry → ObjectState → CloudState
with_object k epoch tree object = record k { draft = Some (record { epoch = epoch; tree = tree; object = object }) }

abbrev draft_with : ℕ → List TreeEntry → ObjectState → DraftState
draft_with epoch tree object = record { epoch = epoch; tree = tree; object = object }

few-before : (front : List TreeEntry) (e : TreeEntry) (back : List TreeEntry) → length (front ++ e ∷ back) ≤ 65535 → (length front == 65535) ≡ false
few-before front e back few =
    let both = length-append front (e ∷ back) in
    not_equal (length front) (omega arith) where
      not_equal : (n : ℕ) → n < 65535 → (n == 65535) ≡ false
      not_equal n less = grind (arith, nat_tests)

entered : (front : List TreeEntry) (e : TreeEntry) (back : List TreeEntry) (epoch : ℕ) (object : ObjectState) → IsTree (front ++ e ∷ back) → length (front ++ e ∷ back) ≤ 65535 → add_entry e (draft_with epoch front object) ≡ Ok (draft_with epoch (front ++ e ∷ []) Absent)
entered front e back epoch object is few =
    let earlier = before front e back is.in_order in
    placed e.path front (Ok (draft_with epoch (insert_entry e front) Absent)) (folder-there front e back is.in_order (belongs-here (front ++ e ∷ back) front e back is.all_belong)) (nothing-there e.path front earlier) (few-before front e back few)
    ∙ ap (λ (t : List TreeEntry). held (draft_with epoch t Absent)) (insert-last e front earlier)

-- the entry of a path, a kind and bytes
abbrev entry_with : List (List ℕ) → Kind → List ℕ → TreeEntry
entry_with path kind bytes = record { path = path; kind = kind; bytes = bytes }

enter-folder : (k : CloudState) (front : List TreeEntry) (path : List (List ℕ)) (bytes : List ℕ) (back : List TreeEntry) (epoch : ℕ) → IsTree (front ++ entry_with path Folder bytes ∷ back) → length (front ++ entry_with path Folder bytes ∷ back) ≤ 65535 → cloud_step (drafting k epoch front) (enter_named (path_named path) Folder) ≡ Ok (drafting k epoch (front ++ entry_with path Folder bytes ∷ []))
enter-folder k front path bytes back epoch is few =
    let e = entry_with path Folder bytes in
    let here = belongs-here (front ++ e ∷ back) front e back is.all_belong in
    let named = path-here path here.path_valid here.below_root in
    ap (λ (o : Option EntryPath). cloud_step (drafting k epoch front) (enter_named o Folder)) named.1
    ∙ ap (λ (p : List (List ℕ)). with_draft (drafting k epoch front) (add_entry (entry_with p Folder []) (draft_with epoch front Absent))) named.2
    ∙ ap (λ (b : List ℕ). with_draft (drafting k epoch front) (add_entry (entry_with path Folder b) (draft_with epoch front Absent))) (sym (here.folder_empty refl))
    ∙ ap (with_draft (drafting k epoch front)) (entered front e back epoch Absent is few)

enter-file : (k : CloudState) (front : List TreeEntry) (path : List (List ℕ)) (bytes : List ℕ) (back : List TreeEntry) (epoch : ℕ) → IsTree (front ++ entry_with path File bytes ∷ back) → length (front ++ entry_with path File bytes ∷ back) ≤ 65535 → cloud_step (with_object k epoch front (Sealed bytes)) (enter_named (path_named path) File) ≡ Ok (drafting k epoch (front ++ entry_with path File bytes ∷ []))
enter-file k front path bytes back epoch is few =
    let e = entry_with path File bytes in
    let here = belongs-here (front ++ e ∷ back) front e back is.all_belong in
    let named = path-here path here.path_valid here.below_root in
    ap (λ (o : Option EntryPath). cloud_step (with_object k epoch front (Sealed bytes)) (enter_named o File)) named.1
    ∙ ap (λ (p : List (List ℕ)). with_draft (with_object k epoch front (Sealed bytes)) (add_entry (entry_with p File bytes) (draft_with epoch front (Sealed bytes)))) named.2
    ∙ ap (with_draft (with_object k epoch front (Sealed bytes))) (entered front e back epoch (Sealed bytes) is few)

-- ---- the content of a file

pub page-before : (len k : ℕ) → k < data_pages_of len → 4096 * k < len
page-before len k within = omega arith

pages-cover : (len : ℕ) → len ≤ 4096 * data_pages_of len
pages-cover len = omega arith

pub length-part : (bytes : List ℕ) (k : ℕ) → length (part_of (4096 * k) 4096 bytes) ≡ min 4096 (length bytes - 4096 * k)
length-part bytes k = length-take 4096 (drop (4096 * k) bytes) ∙ ap (min 4096) (length-drop (4096 * k) bytes)

pub part-some : (bytes : List ℕ) (k : ℕ) → k < data_pages_of (length bytes) → (1 ≤ length (part_of (4096 * k) 4096 bytes)) × (length (part_of (4096 * k) 4096 bytes) ≤ 4096)
part-some bytes k within =
    let less = page-before (length bytes) k within in
    let len = length-part bytes k in
    (omega arith, omega arith)

take-take : (n m : ℕ) (xs : List ℕ) → n ≤ m → take n (take m xs) ≡ take n xs
take-take zero m xs le = refl
take-take (suc n) zero xs le = absurd (omega arith)
take-take (suc n) (suc m) [] le = refl
take-take (suc n) (suc m) (x ∷ xs) le = ap (λ ys. x ∷ ys) (take-take n m xs (omega arith))

-- the bytes before a page and the page's part are the bytes before the next page
one-more : (bytes : List ℕ) (k : ℕ) → take (4096 * k) bytes ++ part_of (4096 * k) 4096 bytes ≡ take (4096 * (k + 1)) bytes
one-more bytes k =
    ap (λ xs. take (4096 * k) bytes ++ xs) (sym (drop-take (4096 * k) 4096 bytes))
    ∙ ap (λ xs. xs ++ drop (4096 * k) (take (4096 * k + 4096) bytes)) (sym (take-take (4096 * k) (4096 * k + 4096) bytes (omega arith)))
    ∙ take-append-drop (4096 * k) (take (4096 * k + 4096) bytes)
    ∙ ap (λ n. take n bytes) (omega arith)

fits : (bytes : List ℕ) (k : ℕ) → length bytes ≤ 44433408 → nat_lt 44433408 (length (take (4096 * k) bytes) + length (part_of (4096 * k) 4096 bytes)) ≡ false
fits bytes k few =
    let both = ap length (one-more bytes k) in
    let sum = length-append (take (4096 * k) bytes) (part_of (4096 * k) 4096 bytes) in
    let whole = length-take (4096 * (k + 1)) bytes in
    not_less (length (take (4096 * k) bytes) + length (part_of (4096 * k) 4096 bytes)) (omega arith) where
      not_less : (n : ℕ) → n ≤ 44433408 → nat_lt 44433408 n ≡ false
      not_less n le = grind (arith, nat_tests)

part-taken : (k : CloudState) (front : List TreeEntry) (epoch : ℕ) (bytes : List ℕ) (j : ℕ) → length bytes ≤ 44433408 → j < data_pages_of (length bytes) → cloud_step (with_object k epoch front (Growing (take (4096 * j) bytes))) (part_at bytes j) ≡ Ok (with_object k epoch front (Growing (take (4096 * (j + 1)) bytes)))
part-taken k front epoch bytes j few within =
    let some = part-some bytes j within in
    let so_far = take (4096 * j) bytes in
    let part = part_of (4096 * j) 4096 bytes in
    ap (λ (p : List ℕ). with_draft (with_object k epoch front (Growing so_far)) (refuse_if (nat_lt 44433408 (length so_far + length p)) (TooLarge (length so_far + length p)) (held (draft_with epoch front (Growing (so_far ++ p)))))) (part-here part some.0 some.1)
    ∙ ap (λ b. with_draft (with_object k epoch front (Growing so_far)) (refuse_if b (TooLarge (length so_far + length part)) (held (draft_with epoch front (Growing (so_far ++ part)))))) (fits bytes j few)
    ∙ ap (λ (bs : List ℕ). with_draft (with_object k epoch front (Growing so_far)) (held (draft_with epoch front (Growing bs)))) (one-more bytes j)

pub parts-taken : (k : CloudState) (front : List TreeEntry) (epoch : ℕ) (bytes : List ℕ) (n j : ℕ) → length bytes ≤ 44433408 → j + n ≤ data_pages_of (length bytes) → cloud_through (with_object k epoch front (Growing (take (4096 * j) bytes))) (map (part_at bytes) (range_with_len j n)) ≡ Ok (with_object k epoch front (Growing (take (4096 * (j + n)) bytes)))
parts-taken k front epoch bytes zero j few within = ap (λ (i : ℕ). went (with_object k epoch front (Growing (take (4096 * i) bytes)))) (omega arith)
parts-taken k front epoch bytes (suc n) j few within =
    through-one (part_at bytes j) (with_object k epoch front (Growing (take (4096 * j) bytes))) (with_object k epoch front (Growing (take (4096 * (j + 1)) bytes))) (part-taken k front epoch bytes j few (omega arith)) (map (part_at bytes) (range_with_len (j + 1) n))
    ∙ parts-taken k front epoch bytes n (j + 1) few (omega arith)
    ∙ ap (λ (i : ℕ). went (with_object k epoch front (Growing (take (4096 * i) bytes)))) (omega arith)

-- the messages of a file's content
pub content-taken : (k : CloudState) (front : List TreeEntry) (epoch : ℕ) (bytes : List ℕ) → length bytes ≤ 44433408 → cloud_through (with_object k epoch front (Growing [])) (parts_of bytes) ≡ Ok (with_object k epoch front (Growing bytes))
content-taken k front epoch bytes few =
    let cover = pages-cover (length bytes) in
    parts-taken k front epoch bytes (data_pages_of (length bytes)) 0 few (omega arith)
    ∙ ap (λ (bs : List ℕ). went (with_object k epoch front (Growing bs))) (take_all (4096 * (0 + data_pages_of (length bytes))) bytes (omega arith))

-- ---- the messages of entries

by-kind : (k : CloudState) (front : List TreeEntry) (kind : Kind) (path : List (List ℕ)) (bytes : List ℕ) (back published : List TreeEntry) (epoch : ℕ) → IsTree (front ++ entry_with path kind bytes ∷ back) → length (front ++ entry_with path kind bytes ∷ back) ≤ 65535 → cloud_through (drafting k epoch front) (messages_by kind published (entry_with path kind bytes)) ≡ Ok (drafting k epoch (front ++ entry_with path kind bytes ∷ []))
by-kind k front Folder path bytes back published epoch is few =
    through-one (enter_named (path_named path) Folder) (drafting k epoch front) (drafting k epoch (front ++ entry_with path Folder bytes ∷ [])) (enter-folder k front path bytes back epoch is few) []
by-kind k front File path bytes back published epoch is few =
    let here = belongs-here (front ++ entry_with path File bytes ∷ back) front (entry_with path File bytes) back is.all_belong in
    through-both (parts_of bytes) (Seal ∷ enter_named (path_named path) File ∷ []) (with_object k epoch front (Growing [])) (with_object k epoch front (Growing bytes)) (content-taken k front epoch bytes here.bytes_few)
    ∙ through-one (enter_named (path_named path) File) (with_object k epoch front (Sealed bytes)) (drafting k epoch (front ++ entry_with path File bytes ∷ [])) (enter-file k front path bytes back epoch is few) []

entries-taken : (k : CloudState) (epoch : ℕ) (published front es back : List TreeEntry) → IsTree (front ++ (es ++ back)) → length (front ++ (es ++ back)) ≤ 65535 → cloud_through (drafting k epoch front) (flat_map (entry_messages published) es) ≡ Ok (drafting k epoch (front ++ es))
entries-taken k epoch published front [] back is few = ap (λ (t : List TreeEntry). went (drafting k epoch t)) (sym (append-nil front))
entries-taken k epoch published front (e ∷ es) back is few =
    let later = front ++ e ∷ [] in
    let same : front ++ (e ∷ (es ++ back)) ≡ later ++ (es ++ back) = sym (append_assoc front (e ∷ []) (es ++ back)) in
    through-both (entry_messages published e) (flat_map (entry_messages published) es) (drafting k epoch front) (drafting k epoch later) (by-kind k front e.kind e.path e.bytes (es ++ back) published epoch is few)
    ∙ entries-taken k epoch published later es back (subst IsTree same is) (subst (λ (t : List TreeEntry). length t ≤ 65535) same few)
    ∙ ap (λ (t : List TreeEntry). went (drafting k epoch t)) (append_assoc front (e ∷ []) es)

-- ---- a plan

pub begun : (k : CloudState) (epoch : ℕ) (tree : List TreeEntry) → MayUpload k epoch tree → cloud_step k (Begin (epoch_named epoch)) ≡ Ok (drafting k epoch [])
begun k epoch tree may =
    ap (λ (n : ℕ). begin n k) (epoch-here epoch may.small)
    ∙ ap (λ b. refuse_if (not b) (NotLater k.epoch epoch) (went (drafting k epoch []))) (lt-ltb k.epoch epoch may.later)

published-last : (k : CloudState) (epoch : ℕ) (tree : List TreeEntry) → MayUpload k epoch tree → cloud_step (drafting k epoch tree) (Publish (epoch_named epoch)) ≡ Ok (showing k epoch tree)
published-last k epoch tree may =
    ap (λ (n : ℕ). publish n (drafting k epoch tree)) (epoch-here epoch may.small)
    ∙ ap (λ b. refuse_if (not b) NoDraft (went (showing k epoch tree))) ((Decides-eqb epoch epoch).1 refl)

-- behind the messages of the first entries the draft has these
pub front-taken : (k : CloudState) (epoch : ℕ) (published front back : List TreeEntry) → MayUpload k epoch (front ++ back) → cloud_through k (Begin (epoch_named epoch) ∷ flat_map (entry_messages published) front) ≡ Ok (drafting k epoch front)
front-taken k epoch published front back may =
    through-one (Begin (epoch_named epoch)) k (drafting k epoch []) (begun k epoch (front ++ back) may) (flat_map (entry_messages published) front)
    ∙ entries-taken k epoch published [] front back may.is_tree may.few

pub plan-taken : (k : CloudState) (epoch : ℕ) (tree published : List TreeEntry) → MayUpload k epoch tree → cloud_through k (upload_plan epoch tree published) ≡ Ok (showing k epoch tree)
plan-taken k epoch tree published may =
    through-both (Begin (epoch_named epoch) ∷ flat_map (entry_messages published) tree) (Publish (epoch_named epoch) ∷ []) k (drafting k epoch tree) (front-taken k epoch published tree [] (subst (MayUpload k epoch) (sym (append-nil tree)) may))
    ∙ through-one (Publish (epoch_named epoch)) (drafting k epoch tree) (showing k epoch tree) (published-last k epoch tree may) []

counts-front : (tree : List TreeEntry) (i : ℕ) → take i (counts_of_tree tree) ≡ counts_of_tree (take i tree)
counts-front tree i = take-map (λ (e : TreeEntry). messages_for e.kind (length e.bytes)) i tree

plan-front : (epoch : ℕ) (published front back : List TreeEntry) → take (1 + total_of (counts_of_tree front)) (upload_plan epoch (front ++ back) published) ≡ Begin (epoch_named epoch) ∷ flat_map (entry_messages published) front
plan-front epoch published front back =
    let f = entry_messages published in
    let rest = flat_map f back ++ Publish (epoch_named epoch) ∷ [] in
    let count = length-entries published front in
    let more : 1 + total_of (counts_of_tree front) ≡ suc (total_of (counts_of_tree front)) = omega arith in
    ap (λ (n : ℕ). take n (upload_plan epoch (front ++ back) published)) more
    ∙ ap (λ ms. Begin (epoch_named epoch) ∷ take (total_of (counts_of_tree front)) (ms ++ Publish (epoch_named epoch) ∷ [])) (flat_map-append f front back)
    ∙ ap (λ ms. Begin (epoch_named epoch) ∷ take (total_of (counts_of_tree front)) ms) (append_assoc (flat_map f front) (flat_map f back) (Publish (epoch_named epoch) ∷ []))
    ∙ ap (λ n. Begin (epoch_named epoch) ∷ take n (flat_map f front ++ rest)) (sym count)
    ∙ ap (λ ms. Begin (epoch_named epoch) ∷ ms) (take-append_seam (flat_map f front) rest)

pub drafted-front : (k : CloudState) (epoch : ℕ) (tree published : List TreeEntry) (i : ℕ) → MayUpload k epoch tree → i ≤ length tree → cloud_through k (take (1 + total_of (take i (counts_of_tree tree))) (upload_plan epoch tree published)) ≡ Ok (drafting k epoch (take i tree))
drafted-front k epoch tree published i may within =
    let front = take i tree in
    let back = drop i tree in
    ap (λ (cs : List ℕ). cloud_through k (take (1 + total_of cs) (upload_plan epoch tree published))) (counts-front tree i)
    ∙ ap (λ (t : List TreeEntry). cloud_through k (take (1 + total_of (counts_of_tree front)) (upload_plan epoch t published))) (sym (take-append-drop i tree))
    ∙ ap (cloud_through k) (plan-front epoch published front back)
    ∙ front-taken k epoch published front back (subst (MayUpload k epoch) (sym (take-append-drop i tree)) may)

-- ---- what comes next

take-next : {X : Type 0} (xs : List X) (n : ℕ) (x : X) → slice_get xs n ≡ Some x → take (n + 1) xs ≡ take n xs ++ x ∷ []
take-next [] n x h = absurd (cc h)
take-next {X = X} (y ∷ ys) zero x h = (let same : y ≡ x = cc h in ap (λ (z : X). z ∷ []) same)
take-next (y ∷ ys) (suc n) x h =
    let shift : suc n + 1 ≡ suc (n + 1) = omega arith in
    ap (λ (k : ℕ). take k (y ∷ ys)) shift ∙ ap (λ zs. y ∷ zs) (take-next ys n x h)

first-part-ok : (r : Result CloudState CloudRefusal) (ms : List Msg) (a : CloudState) → and_next r (λ s. cloud_through s ms) ≡ Ok a → IsOk r
first-part-ok (Ok k) ms a h = refl
first-part-ok (Err refusal) ms a h = absurd (cc h)

ok-as : (r : Result CloudState CloudRefusal) → and_next r went ≡ r
ok-as (Ok k) = refl
ok-as (Err refusal) = refl

pub next-taken : (k now : CloudState) (epoch place : ℕ) (tree published : List TreeEntry) (m : Msg) → MayUpload k epoch tree → cloud_through k (take place (upload_plan epoch tree published)) ≡ Ok now → slice_get (upload_plan epoch tree published) place ≡ Some m → (cloud_step now m ≡ cloud_through k (take (place + 1) (upload_plan epoch tree published))) × IsOk (cloud_step now m)
next-taken k now epoch place tree published m may reached there =
    let plan = upload_plan epoch tree published in
    let more : take (place + 1) plan ≡ take place plan ++ m ∷ [] = take-next plan place m there in
    let goes : cloud_through k (take (place + 1) plan) ≡ and_next (cloud_step now m) went = ap (cloud_through k) more ∙ through-both (take place plan) (m ∷ []) k now reached in
    let whole : cloud_through k plan ≡ Ok (showing k epoch tree) = plan-taken k epoch tree published may in
    let split : cloud_through k plan ≡ and_next (cloud_through k (take (place + 1) plan)) (λ a. cloud_through a (drop (place + 1) plan)) = ap (cloud_through k) (sym (take-append-drop (place + 1) plan)) ∙ through-append (take (place + 1) plan) (drop (place + 1) plan) k in
    let step : cloud_through k (take (place + 1) plan) ≡ cloud_step now m = goes ∙ ok-as (cloud_step now m) in
    (sym step, subst IsOk step (first-part-ok (cloud_through k (take (place + 1) plan)) (drop (place + 1) plan) (showing k epoch tree) (sym split ∙ whole)))

pub ruleset taken = (plan-taken, drafted-front)
