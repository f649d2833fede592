-- The message of a frame is found in it.
use Rattle.std.proofs.Common.{◌≡◌, ℕ, ◌<◌, ◌^◌, ◌-◌, Bool, true, false, nat_lt, cond, List, [], ◌∷◌, ◌++◌, length, drop, take, Option, Some, None, Result, Ok, Err, refl, sym, ap, ◌∙◌, arith, append_assoc, append-nil}
use Rattle.std.specs.Option.{option_map, option_and_then}
use Rattle.std.proofs.Props.{props}
use Rattle.std.proofs.lemmas.Bool.{eq-eqb, le-leb, lt-ltb}
use Rattle.std.proofs.lemmas.List.{drop_at, take_at}
use Rattle.std.specs.Str.{bytes_eq}
use Rattle.std.proofs.lemmas.Slice.Eq.{bytes_eq-Decides}
use Rattle.byteorder.specs.Endian.{little_number}
use Rattle.byteorder.specs.Numbers.{little_number-reads_back}
use Rattle.sha2.specs.Sha256.{sha256}
use Rattle.vb_path.specs.declared.path.PathError.{PathError}
use Rattle.vb_path.specs.Paths.{path_of, text_of_path}
use Rattle.vb_tree.specs.declared.tree.Kind.{Kind}
use Rattle.vb_tree.specs.declared.tree.Kind.TheVariants.{Folder, File}
use Rattle.vb_tree.specs.Trees.{is_root}
use Rattle.vb_msg.specs.declared.message.Msg.{Msg}
use Rattle.vb_msg.specs.declared.message.Msg.TheVariants.{Claim, Begin, Object, Part, Seal, Enter, Keep, Publish}
use Rattle.vb_msg.specs.declared.ranges.CloudId.{CloudId}
use Rattle.vb_msg.specs.declared.ranges.EntryPath.{EntryPath}
use Rattle.vb_msg.specs.declared.ranges.Epoch.{Epoch}
use Rattle.vb_msg.specs.declared.ranges.PartBytes.{PartBytes}
use Rattle.vb_msg.specs.Bodies.{kind_from}
use Rattle.vb_block.specs.Numbers.{eight_bytes, four_bytes, two_bytes}
use Rattle.vb_msg.specs.Frames.{body_of, covered, frame, number_in, number_of, number_of_kind, path_bytes}
use Rattle.vb_msg.proofs.MessagesSame.{entries_same, messages_same}
use Rattle.vb_msg.proofs.PathTexts.{text-short}
use Rattle.vb_msg.proofs.WholeFrames.{length-frame, number_in-frame}
use Rattle.vb_cloudlog.specs.Messages.{where_true, where_false, epoch_in, id_in, part_in, entry_read, entry_in, after_entry, message_of, where_framed, message_in}

-- ---- tests

where_true-at : {A : Type 0} (test : Bool) (make : test ≡ true → Option A) (holds : test ≡ true) → where_true test make ≡ make holds
where_true-at true make holds = let once : IsProp (◌≡◌ {A = Bool} true true) = hlevel props in ap make (once refl holds)
where_true-at false make holds = absurd (cc holds)

where_false-at : {A : Type 0} (test : Bool) (make : test ≡ false → Option A) (fails : test ≡ false) → where_false test make ≡ make fails
where_false-at false make fails = let once : IsProp (◌≡◌ {A = Bool} false false) = hlevel props in ap make (once refl fails)
where_false-at true make fails = absurd (cc fails)

-- ---- the fields

eight-again : (n : ℕ) → n < 2 ^ 64 → little_number 8 (eight_bytes n) ≡ n
unfolding eight_bytes
eight-again n small = little_number-reads_back 8 n [] small

two-again : (n : ℕ) (xs : List ℕ) → n < 2 ^ 16 → little_number 2 (two_bytes n ++ xs) ≡ n
unfolding two_bytes
two-again n xs small = little_number-reads_back 2 n xs small

two-dropped : (n : ℕ) (xs : List ℕ) → drop 2 (two_bytes n ++ xs) ≡ xs
unfolding two_bytes
two-dropped n xs = refl

epoch-small : (e : Epoch) → nat_lt (little_number 8 (eight_bytes e.number)) (2 ^ 63) ≡ true
epoch-small e =
    let small = e.small in
    lt-ltb (little_number 8 (eight_bytes e.number)) (2 ^ 63) (omega (arith, eight-again e.number (omega arith)))

begin-found : (e : Epoch) → option_map Begin (epoch_in (eight_bytes e.number)) ≡ Some (Begin e)
begin-found e =
    let small = e.small in
    ap (option_map Begin) (where_true-at (nat_lt (little_number 8 (eight_bytes e.number)) (2 ^ 63)) _ (epoch-small e))
    ∙ ap (λ (m : Msg). Some m) (messages_same _ (Begin e) refl (ap eight_bytes (eight-again e.number (omega arith))))

publish-found : (e : Epoch) → option_map Publish (epoch_in (eight_bytes e.number)) ≡ Some (Publish e)
publish-found e =
    let small = e.small in
    ap (option_map Publish) (where_true-at (nat_lt (little_number 8 (eight_bytes e.number)) (2 ^ 63)) _ (epoch-small e))
    ∙ ap (λ (m : Msg). Some m) (messages_same _ (Publish e) refl (ap eight_bytes (eight-again e.number (omega arith))))

claim-found : (id : CloudId) → option_map Claim (id_in id.id) ≡ Some (Claim id)
claim-found id =
    ap (option_map Claim) (where_true-at _ _ (eq-eqb (length id.id) 16 id.whole) ∙ where_false-at _ _ id.named)
    ∙ ap (λ (m : Msg). Some m) (messages_same _ (Claim id) refl refl)

part-found : (p : PartBytes) → option_map Part (part_in p.bytes) ≡ Some (Part p)
part-found p =
    ap (option_map Part) (where_true-at _ _ (le-leb 1 (length p.bytes) p.some) ∙ where_true-at _ _ (le-leb (length p.bytes) 4096 p.few))
    ∙ ap (λ (m : Msg). Some m) (messages_same _ (Part p) refl refl)

-- ---- paths

abbrev read_parts : List (List ℕ) → Result (List (List ℕ)) PathError
read_parts parts = Ok parts

read_same : (a b : List (List ℕ)) → read_parts a ≡ read_parts b → a ≡ b
read_same a b e = cc

entry_read-found : (text : List ℕ) (read : Result (List (List ℕ)) PathError) (is : path_of text ≡ read) (entry : EntryPath) → text ≡ text_of_path entry.path → entry_read text read is ≡ Some entry
entry_read-found text (Err error) is entry same = absurd (cc (sym is ∙ ap path_of same ∙ entry.valid))
entry_read-found text (Ok parts) is entry same =
    let parts_are : parts ≡ entry.path = read_same parts entry.path (sym is ∙ ap path_of same ∙ entry.valid) in
    where_false-at (is_root parts) _ (ap is_root parts_are ∙ entry.below)
    ∙ ap (λ (e : EntryPath). Some e) (entries_same _ entry parts_are)

-- the text of a path that begins some bytes
text-taken : (entry : EntryPath) (rest : List ℕ) → take (little_number 2 (path_bytes entry.path ++ rest)) (drop 2 (path_bytes entry.path ++ rest)) ≡ text_of_path entry.path
unfolding path_bytes
text-taken entry rest =
    let text = text_of_path entry.path in
    let short = text-short text entry.path entry.valid in
    let parts = append_assoc (two_bytes (length text)) text rest in
    ap (λ (bs : List ℕ). take (little_number 2 bs) (drop 2 bs)) parts
    ∙ ap (λ (n : ℕ). take n (drop 2 (two_bytes (length text) ++ (text ++ rest)))) (two-again (length text) (text ++ rest) (omega arith))
    ∙ ap (take (length text)) (two-dropped (length text) (text ++ rest))
    ∙ take_at text rest (length text) refl

after-dropped : (entry : EntryPath) (rest : List ℕ) → after_entry (path_bytes entry.path ++ rest) ≡ rest
unfolding path_bytes
after-dropped entry rest =
    let text = text_of_path entry.path in
    let short = text-short text entry.path entry.valid in
    let parts = append_assoc (two_bytes (length text)) text rest in
    ap after_entry parts
    ∙ ap (λ (n : ℕ). drop n (drop 2 (two_bytes (length text) ++ (text ++ rest)))) (two-again (length text) (text ++ rest) (omega arith))
    ∙ ap (drop (length text)) (two-dropped (length text) (text ++ rest))
    ∙ drop_at text rest (length text) refl

entry-found : (entry : EntryPath) (rest : List ℕ) → entry_in (path_bytes entry.path ++ rest) ≡ Some entry
entry-found entry rest = entry_read-found _ _ refl entry (text-taken entry rest)

entry-alone : (entry : EntryPath) → entry_in (path_bytes entry.path) ≡ Some entry
entry-alone entry = ap entry_in (sym (append-nil (path_bytes entry.path))) ∙ entry-found entry []

abbrev with_kind : EntryPath → Option Kind → Option Msg
with_kind entry kind = option_and_then (λ k. option_map (λ path. Enter path k) (Some entry)) kind

kind-found : (kind : Kind) → kind_from (number_of_kind kind) ≡ Some kind
kind-found Folder = refl
kind-found File = refl

enter-found : (entry : EntryPath) (kind : Kind) → option_and_then (λ k. option_map (λ path. Enter path k) (entry_in (path_bytes entry.path))) (kind_from (number_of_kind kind)) ≡ Some (Enter entry kind)
enter-found entry kind =
    ap (λ (o : Option Kind). option_and_then (λ k. option_map (λ path. Enter path k) (entry_in (path_bytes entry.path))) o) (kind-found kind)
    ∙ ap (option_map (λ path. Enter path kind)) (entry-alone entry)

keep-found : (path origin : EntryPath) → option_and_then (λ p. option_map (λ o. Keep p o) (entry_in (after_entry (path_bytes path.path ++ path_bytes origin.path)))) (entry_in (path_bytes path.path ++ path_bytes origin.path)) ≡ Some (Keep path origin)
keep-found path origin =
    let bytes = path_bytes path.path ++ path_bytes origin.path in
    ap (λ (o : Option EntryPath). option_and_then (λ p. option_map (λ o. Keep p o) (entry_in (after_entry bytes))) o) (entry-found path (path_bytes origin.path))
    ∙ ap (λ (bs : List ℕ). option_map (λ o. Keep path o) (entry_in bs)) (after-dropped path (path_bytes origin.path))
    ∙ ap (option_map (λ o. Keep path o)) (entry-alone origin)

-- ---- messages

pub message-found : (m : Msg) → message_of (number_of m) (body_of m) ≡ Some m
message-found (Claim id) = claim-found id
message-found (Begin epoch) = begin-found epoch
message-found Object = refl
message-found (Part bytes) = part-found bytes
message-found Seal = refl
message-found (Enter path kind) = enter-found path kind
message-found (Keep path origin) = keep-found path origin
message-found (Publish epoch) = publish-found epoch

-- the body of a frame
five-dropped : (n number : ℕ) (xs : List ℕ) → drop 5 (four_bytes n ++ number ∷ xs) ≡ xs
unfolding four_bytes
five-dropped n number xs = refl

body-taken : (m : Msg) → take (length (frame m) - 37) (drop 5 (frame m)) ≡ body_of m
body-taken m =
    let body = body_of m in
    let digest = sha256 (covered (number_of m) body) in
    let long = length-frame m in
    let count : length (frame m) - 37 ≡ length body = omega (arith, long) in
    ap (λ (n : ℕ). take n (drop 5 (frame m))) count
    ∙ ap (λ (bs : List ℕ). take (length body) (drop 5 bs)) (append_assoc (four_bytes (length body)) (number_of m ∷ body) digest)
    ∙ ap (take (length body)) (five-dropped (length body) (number_of m) (body ++ digest))
    ∙ take_at body digest (length body) refl

-- the message of a frame
pub message_in-frame : (m : Msg) → message_in (frame m) ≡ Some m
message_in-frame m =
    let number = ap number_in (sym (append-nil (frame m))) ∙ number_in-frame m [] in
    ap (option_and_then (where_framed (frame m)))
    (ap (λ (n : ℕ). message_of n (take (length (frame m) - 37) (drop 5 (frame m)))) number ∙ ap (message_of (number_of m)) (body-taken m) ∙ message-found m)
    ∙ ap (λ (b : Bool). cond b (Some m) None) ((bytes_eq-Decides (frame m) (frame m)).1 refl)

-- bytes in which a message is found are its frame
framed : (bytes : List ℕ) (found : Option Msg) (m : Msg) → option_and_then (where_framed bytes) found ≡ Some m → bytes ≡ frame m
framed bytes None m is = absurd (cc is)
framed bytes (Some found) m is = by_test (bytes_eq bytes (frame found)) (bytes_eq-Decides bytes (frame found)).0 is
  where
    by_test : (test : Bool) → (test ≡ true → bytes ≡ frame found) → cond test (Some found) None ≡ Some m → bytes ≡ frame m
    by_test true same is = same refl ∙ ap frame (found_same found m is)
      where
        found_same : (a b : Msg) → ◌≡◌ {A = Option Msg} (Some a) (Some b) → a ≡ b
        found_same a b e = cc
    by_test false same is = absurd (cc is)

pub message_in-is : (bytes : List ℕ) (m : Msg) → message_in bytes ≡ Some m → bytes ≡ frame m
message_in-is bytes m is = framed bytes _ m is
