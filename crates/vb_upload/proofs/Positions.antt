-- The message at a cursor is that of the plan at the number of messages sent.
use Rattle.std.proofs.Common.{◌≡◌, ℕ, zero, suc, ◌+◌, ◌<◌, ◌≤◌, false, cond, List, [], ◌∷◌, ◌++◌, length, map, take, Option, Some, None, Result, Ok, Err, IfOk, inl, inr, refl, sym, ap, subst, ◌∙◌, arith, slice_get}
use Rattle.std.specs.Prelude.{nat_lt}
use Rattle.std.specs.List.{flat_map, range_with_len}
use Rattle.std.proofs.lemmas.Bool.{cases_Bool, lt-ltb, ltb-true}
use Rattle.std.proofs.lemmas.Bool.Decides.{nat_tests}
use Rattle.std.proofs.lemmas.List.{length-map, take_all}
use Rattle.vb_disk.specs.States.{DiskState}
use Rattle.vb_tree.specs.declared.tree.Kind.{Kind}
use Rattle.vb_tree.specs.declared.tree.Kind.TheVariants.{Folder, File}
use Rattle.vb_tree.specs.declared.tree.TreeEntry.{TreeEntry}
use Rattle.vb_tree.specs.Trees.{data_pages_of}
use Rattle.vb_pages.specs.declared.kept.KeptPage.{KeptPage}
use Rattle.vb_pages.specs.declared.kept.PageKey.{PageKey}
use Rattle.vb_frozen.specs.declared.entry.FrozenEntry.{FrozenEntry}
use Rattle.vb_frozen.specs.Views.{AreEntriesOf, HasFrozenTree, IsEntryOf}
use Rattle.vb_msg.specs.declared.message.Msg.{Msg}
use Rattle.vb_msg.specs.declared.message.Msg.TheVariants.{Begin, Seal, Publish}
use Rattle.vb_upload.specs.declared.answer.UploadError.{UploadError}
use Rattle.vb_upload.specs.declared.cursor.Cursor.{Cursor}
use Rattle.vb_upload.specs.declared.cursor.Cursor.TheVariants as at
use Rattle.vb_upload.specs.Cursors.{counts_of, first_message, message_of_entry, sent_at, IsFileWith, IsPageMessage, IsUploadOf, StandsIn}
use Rattle.vb_publish.specs.Messages.{enter_named, epoch_named, path_named}
use Rattle.vb_publish.specs.Plans.{part_at, parts_of, messages_by, entry_messages, messages_for, counts_of_tree, total_of, upload_plan}
use Rattle.vb_upload.specs.Steps.{IsPlanned}
use Rattle.vb_upload.proofs.Behind.{count-by, some-entry, total-more}
use Rattle.vb_publish.proofs.Lengths.{length-by, length-entries, length-parts}

-- ---- places in lists

get-left : {X : Type 0} (xs ys : List X) (j : ℕ) (x : X) → slice_get xs j ≡ Some x → slice_get (xs ++ ys) j ≡ Some x
get-left [] ys j x h = absurd (cc h)
get-left (y ∷ xs) ys zero x h = h
get-left (y ∷ xs) ys (suc j) x h = get-left xs ys j x h

get-right : {X : Type 0} (xs ys : List X) (j n : ℕ) → n ≡ length xs + j → slice_get (xs ++ ys) n ≡ slice_get ys j
get-right [] ys j n is = ap (slice_get ys) (omega arith)
get-right (x ∷ xs) ys j zero is = absurd (omega arith)
get-right (x ∷ xs) ys j (suc n) is = get-right xs ys j n (omega arith)

get-mapped : {X : Type 0} (f : ℕ → X) (a n j : ℕ) → j < n → slice_get (map f (range_with_len a n)) j ≡ Some (f (a + j))
get-mapped f a zero j less = absurd (omega arith)
get-mapped {X = X} f a (suc n) zero less = ap (λ (i : ℕ). there (f i)) (omega arith) where
  there : X → Option X
  there x = Some x
get-mapped {X = X} f a (suc n) (suc j) less = get-mapped f (a + 1) n j (omega arith) ∙ ap (λ (i : ℕ). there (f i)) (omega arith) where
  there : X → Option X
  there x = Some x

-- ---- an order and its tree

pub counts-same : (pages : List (PageKey × KeptPage)) (d : DiskState) (order : List FrozenEntry) (tree : List TreeEntry) → AreEntriesOf pages d order tree → counts_of order ≡ counts_of_tree tree
counts-same pages d [] [] all = refl
counts-same pages d [] (e ∷ es) all = absurd all
counts-same pages d (x ∷ xs) [] all = absurd all
counts-same pages d (x ∷ xs) (e ∷ es) all =
    ap (λ (kind : Kind). messages_for kind x.len ∷ counts_of xs) all.0.kind
    ∙ ap (λ (len : ℕ). messages_for e.kind len ∷ counts_of xs) all.0.len
    ∙ ap (λ cs. messages_for e.kind (length e.bytes) ∷ cs) (counts-same pages d xs es all.1)

pub entry-of : (pages : List (PageKey × KeptPage)) (d : DiskState) (order : List FrozenEntry) (tree : List TreeEntry) (i : ℕ) (f : FrozenEntry) → AreEntriesOf pages d order tree → slice_get order i ≡ Some f → (e : TreeEntry) × (slice_get tree i ≡ Some e) × IsEntryOf pages d f e
entry-of pages d [] [] i f all here = absurd (cc here)
entry-of pages d [] (e ∷ es) i f all here = absurd all
entry-of pages d (x ∷ xs) [] i f all here = absurd all
entry-of pages d (x ∷ xs) (e ∷ es) zero f all here = (e, refl, (let same : x ≡ f = cc here in subst (λ (g : FrozenEntry). IsEntryOf pages d g e) same all.0))
entry-of pages d (x ∷ xs) (e ∷ es) (suc i) f all here = entry-of pages d xs es i f all.1 here

pub length-of : (pages : List (PageKey × KeptPage)) (d : DiskState) (order : List FrozenEntry) (tree : List TreeEntry) (i : ℕ) (f : FrozenEntry) (e : TreeEntry) → AreEntriesOf pages d order tree → slice_get order i ≡ Some f → slice_get tree i ≡ Some e → f.len ≡ length e.bytes
length-of pages d order tree i f e all here there =
    let found = entry-of pages d order tree i f all here in
    let same : found.0 ≡ e = cc (sym found.1 ∙ there) in
    found.2.len ∙ ap (λ (x : TreeEntry). length x.bytes) same

-- ---- places in plans

in-entries : (published tree : List TreeEntry) (i j n : ℕ) (e : TreeEntry) (m : Msg) → slice_get tree i ≡ Some e → slice_get (entry_messages published e) j ≡ Some m → n ≡ total_of (take i (counts_of_tree tree)) + j → slice_get (flat_map (entry_messages published) tree) n ≡ Some m
in-entries published [] i j n e m here there is = absurd (cc here)
in-entries published (x ∷ xs) zero j n e m here there is =
    let same : e ≡ x = cc (sym here) in
    get-left (entry_messages published x) (flat_map (entry_messages published) xs) n m (subst (λ (k : ℕ). slice_get (entry_messages published x) k ≡ Some m) (omega arith) (subst (λ (y : TreeEntry). slice_get (entry_messages published y) j ≡ Some m) same there))
in-entries published (x ∷ xs) (suc i) j n e m here there is =
    let count = length-by x.kind published x in
    let k = total_of (take i (counts_of_tree xs)) + j in
    get-right (entry_messages published x) (flat_map (entry_messages published) xs) k n (omega arith)
    ∙ in-entries published xs i j k e m here there refl

in-plan : (epoch : ℕ) (published tree : List TreeEntry) (i j n : ℕ) (e : TreeEntry) (m : Msg) → slice_get tree i ≡ Some e → slice_get (entry_messages published e) j ≡ Some m → n ≡ total_of (take i (counts_of_tree tree)) + j + 1 → slice_get (upload_plan epoch tree published) n ≡ Some m
in-plan epoch published tree i j zero e m here there is = absurd (omega arith)
in-plan epoch published tree i j (suc n) e m here there is =
    get-left (flat_map (entry_messages published) tree) (Publish (epoch_named epoch) ∷ []) n m (in-entries published tree i j n e m here there (omega arith))

last-in-plan : (epoch : ℕ) (published tree : List TreeEntry) (n : ℕ) → n ≡ total_of (counts_of_tree tree) + 1 → slice_get (upload_plan epoch tree published) n ≡ Some (Publish (epoch_named epoch))
last-in-plan epoch published tree zero is = absurd (omega arith)
last-in-plan epoch published tree (suc n) is =
    let count = length-entries published tree in
    get-right (flat_map (entry_messages published) tree) (Publish (epoch_named epoch) ∷ []) 0 n (omega arith)

-- ---- the messages of an entry

first-of : (published : List TreeEntry) (kind : Kind) (e : TreeEntry) → slice_get (messages_by kind published e) 0 ≡ Some (first_message e.path kind)
first-of published Folder e = refl
first-of published File e = refl

page-of : (published : List TreeEntry) (e : TreeEntry) (page n : ℕ) (m : Msg) → page ≤ data_pages_of (length e.bytes) → IsPageMessage e.bytes page m → n ≡ page + 1 → slice_get (messages_by File published e) n ≡ Some m
page-of published e page zero m within is at = absurd (omega arith)
page-of published e page (suc n) m within is at = elim (cases_Bool (nat_lt page (data_pages_of (length e.bytes)))) [
  | inl less ↦
      let same : m ≡ part_at e.bytes page = is ∙ ap (λ b. cond b (part_at e.bytes page) Seal) less in
      get-left (parts_of e.bytes) (Seal ∷ enter_named (path_named e.path) File ∷ []) n m
      (subst (λ (k : ℕ). slice_get (parts_of e.bytes) k ≡ Some m) (omega arith)
      (get-mapped (part_at e.bytes) 0 (data_pages_of (length e.bytes)) page (ltb-true page (data_pages_of (length e.bytes)) less) ∙ ap (λ (x : Msg). some_message x) (ap (λ (k : ℕ). part_at e.bytes k) (omega arith) ∙ sym same)))
  | inr past ↦
      let same : m ≡ Seal = is ∙ ap (λ b. cond b (part_at e.bytes page) Seal) past in
      let count = length-parts e.bytes in
      let over : data_pages_of (length e.bytes) ≤ page = not_less page (data_pages_of (length e.bytes)) past in
      get-right (parts_of e.bytes) (Seal ∷ enter_named (path_named e.path) File ∷ []) 0 n (omega arith) ∙ ap (λ (x : Msg). some_message x) (sym same)
] where
  some_message : Msg → Option Msg
  some_message x = Some x

  not_less : (a b : ℕ) → nat_lt a b ≡ false → b ≤ a
  not_less a b h = grind (arith, nat_tests)

enter-of : (published : List TreeEntry) (e : TreeEntry) (n : ℕ) → n ≡ data_pages_of (length e.bytes) + 2 → slice_get (messages_by File published e) n ≡ Some (enter_named (path_named e.path) File)
enter-of published e zero at = absurd (omega arith)
enter-of published e (suc n) at =
    let count = length-parts e.bytes in
    get-right (parts_of e.bytes) (Seal ∷ enter_named (path_named e.path) File ∷ []) 1 n (omega arith)

-- ---- the message at a cursor

none-past : (order : List FrozenEntry) (i : ℕ) → slice_get order i ≡ None → length order ≤ i
none-past [] i h = omega arith
none-past (e ∷ es) zero h = absurd (cc h)
none-past (e ∷ es) (suc i) h = (let rest = none-past es i h in omega arith)

total-same : (pages : List (PageKey × KeptPage)) (d : DiskState) (order : List FrozenEntry) (tree : List TreeEntry) (i : ℕ) → AreEntriesOf pages d order tree → total_of (take i (counts_of order)) ≡ total_of (take i (counts_of_tree tree))
total-same pages d order tree i all = ap (λ (cs : List ℕ). total_of (take i cs)) (counts-same pages d order tree all)

pub planned-entry : (order : List FrozenEntry) (pages : List (PageKey × KeptPage)) (d : DiskState) (tree : List TreeEntry) (epoch i : ℕ) (m : Msg) → HasFrozenTree order pages d tree → i ≤ length order → m ≡ message_of_entry epoch (slice_get order i) → IsPlanned epoch tree (sent_at (counts_of order) (at.Entry i)) m
planned-entry order pages d tree epoch i m has within is published = by (slice_get order i) refl where
  by : (o : Option FrozenEntry) → slice_get order i ≡ o → slice_get (upload_plan epoch tree published) (sent_at (counts_of order) (at.Entry i)) ≡ Some m
  by None none =
      let past : length order ≤ i = none-past order i none in
      let all : take i (counts_of order) ≡ counts_of order = take_all i (counts_of order) (let count = length-map order (λ (x : FrozenEntry). messages_for x.kind x.len) in omega arith) in
      let whole = ap total_of (all ∙ counts-same pages d order tree has.entries) in
      last-in-plan epoch published tree (sent_at (counts_of order) (at.Entry i)) (omega arith) ∙ ap (λ (x : Msg). some_message x) (sym (is ∙ ap (message_of_entry epoch) none)) where
        some_message : Msg → Option Msg
        some_message x = Some x
  by (Some f) here =
      let e = entry-of pages d order tree i f has.entries here in
      let entry = e.2 in
      let before : total_of (take i (counts_of order)) ≡ total_of (take i (counts_of_tree tree)) = total-same pages d order tree i has.entries in
      let same : m ≡ first_message e.0.path e.0.kind = is ∙ ap (message_of_entry epoch) here ∙ ap (λ (p : List (List ℕ)). first_message p f.kind) entry.path ∙ ap (first_message e.0.path) entry.kind in
      in-plan epoch published tree i 0 (sent_at (counts_of order) (at.Entry i)) e.0 m e.1 (first-of published e.0.kind e.0 ∙ ap (λ (x : Msg). some_message x) (sym same)) (omega arith) where
        some_message : Msg → Option Msg
        some_message x = Some x

pub planned-page : (order : List FrozenEntry) (pages : List (PageKey × KeptPage)) (d : DiskState) (tree : List TreeEntry) (epoch i page : ℕ) (m : Msg) → HasFrozenTree order pages d tree → IsFileWith order i page → ((e : TreeEntry) → slice_get tree i ≡ Some e → IsPageMessage e.bytes page m) → IsPlanned epoch tree (sent_at (counts_of order) (at.Page i page)) m
planned-page order pages d tree epoch i page m has stands is published =
    let f = some-entry order i stands.there in
    let e = entry-of pages d order tree i f.0 has.entries f.1 in
    let entry = e.2 in
    let kind : File ≡ e.0.kind = sym (stands.file f.0 f.1) ∙ entry.kind in
    let enough : page ≤ data_pages_of (length e.0.bytes) = subst (λ (len : ℕ). page ≤ data_pages_of len) entry.len (stands.enough f.0 f.1) in
    let total = total-same pages d order tree i has.entries in
    in-plan epoch published tree i (page + 1) (sent_at (counts_of order) (at.Page i page)) e.0 m e.1
    (subst (λ (k : Kind). slice_get (messages_by k published e.0) (page + 1) ≡ Some m) kind (page-of published e.0 page (page + 1) m enough (is e.0 e.1) refl)) (omega arith)

pub planned-sealed : (order : List FrozenEntry) (pages : List (PageKey × KeptPage)) (d : DiskState) (tree : List TreeEntry) (epoch i : ℕ) (f : FrozenEntry) (m : Msg) → HasFrozenTree order pages d tree → IsFileWith order i 0 → slice_get order i ≡ Some f → m ≡ enter_named (path_named f.path) File → IsPlanned epoch tree (sent_at (counts_of order) (at.Sealed i)) m
planned-sealed order pages d tree epoch i f m has stands here is published =
    let e = entry-of pages d order tree i f has.entries here in
    let entry = e.2 in
    let kind : File ≡ e.0.kind = sym (stands.file f here) ∙ entry.kind in
    let same : m ≡ enter_named (path_named e.0.path) File = is ∙ ap (λ (p : List (List ℕ)). enter_named (path_named p) File) entry.path in
    let total = total-same pages d order tree i has.entries in
    let more = total-more (counts_of order) i (messages_for File f.len) (count-by order i f File here (stands.file f here)) in
    let len : data_pages_of f.len ≡ data_pages_of (length e.0.bytes) = ap data_pages_of entry.len in
    in-plan epoch published tree i (data_pages_of (length e.0.bytes) + 2) (sent_at (counts_of order) (at.Sealed i)) e.0 m e.1
    (subst (λ (k : Kind). slice_get (messages_by k published e.0) (data_pages_of (length e.0.bytes) + 2) ≡ Some m) kind (enter-of published e.0 (data_pages_of (length e.0.bytes) + 2) refl ∙ ap (λ (x : Msg). some_message x) (sym same))) (omega arith) where
      some_message : Msg → Option Msg
      some_message x = Some x

-- ---- the message of a page

pub page-part : (pages : List (PageKey × KeptPage)) (d : DiskState) (order : List FrozenEntry) (tree : List TreeEntry) (i k : ℕ) (f : FrozenEntry) (e : TreeEntry) (m : Msg) → AreEntriesOf pages d order tree → slice_get order i ≡ Some f → slice_get tree i ≡ Some e → k < data_pages_of f.len → m ≡ part_at e.bytes k → IsPageMessage e.bytes k m
page-part pages d order tree i k f e m all here there less is =
    let len : f.len ≡ length e.bytes = (length-of pages d order tree i f e all here there) in
    let within : k < data_pages_of (length e.bytes) = subst (λ (n : ℕ). k < data_pages_of n) len less in
    is ∙ ap (λ b. cond b (part_at e.bytes k) Seal) (sym (lt-ltb k (data_pages_of (length e.bytes)) within))

pub page-seal : (pages : List (PageKey × KeptPage)) (d : DiskState) (order : List FrozenEntry) (tree : List TreeEntry) (i k : ℕ) (f : FrozenEntry) (e : TreeEntry) (m : Msg) → AreEntriesOf pages d order tree → slice_get order i ≡ Some f → slice_get tree i ≡ Some e → data_pages_of f.len ≤ k → m ≡ Seal → IsPageMessage e.bytes k m
page-seal pages d order tree i k f e m all here there past is =
    let len : f.len ≡ length e.bytes = (length-of pages d order tree i f e all here there) in
    let over : data_pages_of (length e.bytes) ≤ k = subst (λ (n : ℕ). data_pages_of n ≤ k) len past in
    is ∙ ap (λ b. cond b (part_at e.bytes k) Seal) (sym (not-less k (data_pages_of (length e.bytes)) over)) where
      not-less : (a b : ℕ) → b ≤ a → nat_lt a b ≡ false
      not-less a b h = grind (arith, nat_tests)

-- ---- the message that comes next

pub next-begin : (order : List FrozenEntry) (tree : List TreeEntry) (epoch : ℕ) (cursor : Cursor) (m : Msg) → cursor ≡ at.Begin → m ≡ Begin (epoch_named epoch) → IsPlanned epoch tree (sent_at (counts_of order) cursor) m
next-begin order tree epoch cursor m is same published =
    ap (λ (c : Cursor). slice_get (upload_plan epoch tree published) (sent_at (counts_of order) c)) is ∙ ap (λ (x : Msg). some_message x) (sym same) where
      some_message : Msg → Option Msg
      some_message x = Some x

pub next-entry : (order : List FrozenEntry) (pages : List (PageKey × KeptPage)) (d : DiskState) (tree : List TreeEntry) (epoch : ℕ) (cursor : Cursor) (i : ℕ) (m : Msg) → cursor ≡ at.Entry i → IsUploadOf order pages d cursor tree → StandsIn order cursor → m ≡ message_of_entry epoch (slice_get order i) → IsPlanned epoch tree (sent_at (counts_of order) cursor) m
next-entry order pages d tree epoch cursor i m is view stands same =
    subst (λ (c : Cursor). IsPlanned epoch tree (sent_at (counts_of order) c) m) (sym is) (planned-entry order pages d tree epoch i m view.has (subst (StandsIn order) is stands) same)

pub next-page : (order : List FrozenEntry) (pages : List (PageKey × KeptPage)) (d : DiskState) (tree : List TreeEntry) (epoch : ℕ) (cursor : Cursor) (i page : ℕ) (result : Result Msg UploadError) → cursor ≡ at.Page i page → IsUploadOf order pages d cursor tree → StandsIn order cursor → ((e : TreeEntry) → IsUploadOf order pages d (at.Page i page) tree → slice_get tree i ≡ Some e → IfOk result (IsPageMessage e.bytes page)) → IfOk result (IsPlanned epoch tree (sent_at (counts_of order) cursor))
next-page order pages d tree epoch cursor i page (Err error) is view stands comes = tt
next-page order pages d tree epoch cursor i page (Ok m) is view stands comes =
    subst (λ (c : Cursor). IsPlanned epoch tree (sent_at (counts_of order) c) m) (sym is) (planned-page order pages d tree epoch i page m view.has (subst (StandsIn order) is stands) (λ e there. comes e (subst (λ (c : Cursor). IsUploadOf order pages d c tree) is view) there))

pub next-sealed : (order : List FrozenEntry) (pages : List (PageKey × KeptPage)) (d : DiskState) (tree : List TreeEntry) (epoch : ℕ) (cursor : Cursor) (i : ℕ) (f : FrozenEntry) (m : Msg) → cursor ≡ at.Sealed i → IsUploadOf order pages d cursor tree → StandsIn order cursor → slice_get order i ≡ Some f → m ≡ enter_named (path_named f.path) File → IsPlanned epoch tree (sent_at (counts_of order) cursor) m
next-sealed order pages d tree epoch cursor i f m is view stands here same =
    subst (λ (c : Cursor). IsPlanned epoch tree (sent_at (counts_of order) c) m) (sym is) (planned-sealed order pages d tree epoch i f m view.has (subst (StandsIn order) is stands) here same)
