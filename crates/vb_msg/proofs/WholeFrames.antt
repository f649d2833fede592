-- Frames of messages: how long they are, what their front is, and that no two are alike.
use Rattle.std.proofs.Common.{◌≡◌, ℕ, ◌<◌, ◌≤◌, ◌^◌, ◌+◌, Bool, true, false, ◌==◌, ◌&&◌, nat_lt, nat_le, List, [], ◌∷◌, ◌++◌, length, drop, take, get_or, Result, Ok, Err, refl, sym, ap, ◌∙◌, arith, append_assoc, subst}
use Rattle.std.proofs.lemmas.Bool.{and_parts, le-leb, leb-true}
use Rattle.std.proofs.lemmas.List.{drop_at, length-append, length-drop, length-take, take_at, take-append-drop}
use Rattle.sha2.specs.Sha256.{sha256}
use Rattle.sha2.proofs.Facts256.{length-sha256}
use Rattle.vb_tree.specs.Trees.{is_root}
use Rattle.vb_path.specs.declared.path.PathError.{PathError}
use Rattle.vb_path.specs.Paths.{IsPath, path_of, parts_after_slash, text_of_path}
use Rattle.vb_path.proofs.ReadText.{path_of-read}
use Rattle.vb_msg.specs.declared.frame_error.FrameError.{FrameError}
use Rattle.vb_msg.specs.declared.frame_error.FrameError.TheVariants.{BadFrame, Short, Memory}
use Rattle.vb_msg.specs.declared.message.Msg.{Msg}
use Rattle.vb_msg.specs.declared.message.Msg.TheVariants.{Claim, Begin, Object, Part, Seal, Enter, Keep, Publish}
use Rattle.vb_msg.specs.declared.ranges.EntryPath.{EntryPath}
use Rattle.vb_block.specs.Numbers.{eight_bytes, four_bytes}
use Rattle.vb_msg.specs.Frames.{body_length, body_of, covered, frame, front_of, has_length, number_in, number_of, number_of_kind, path_bytes}
use Rattle.vb_msg.proofs.FrameFronts.{IsWholeFront, front-whole, whole-front}
use Rattle.vb_msg.proofs.MessagesSame.{messages_same}
use Rattle.vb_block.proofs.Numbers.{fronts_same, length-eight_bytes, length-four_bytes}
use Rattle.vb_msg.proofs.BodyLengths.{body_length-again}
use Rattle.vb_msg.proofs.PathTexts.{length-path_bytes, no_fault, text-short}

-- a text of one byte is no path but the root
text-some : (text : List ℕ) (parts : List (List ℕ)) → path_of text ≡ Ok parts → is_root parts ≡ false → 2 ≤ length text
text-some [] parts is below = absurd cc
text-some (b ∷ []) parts is below =
    let none = no_fault (b ∷ []) parts is in
    absurd (cc (path_of-read (b ∷ []) none))
text-some (b ∷ c ∷ bs) parts is below = omega arith

pub length-entry : (entry : EntryPath) → (4 ≤ length (path_bytes entry.path)) × (length (path_bytes entry.path) ≤ 1026)
length-entry entry =
    let long = length-path_bytes entry.path in
    let low = text-some (text_of_path entry.path) entry.path entry.valid entry.below in
    let high = text-short (text_of_path entry.path) entry.path entry.valid in
    (omega arith, omega arith)

within : (low high n : ℕ) → low ≤ n → n ≤ high → (nat_le low n && nat_le n high) ≡ true
within low high n l h = rw (le-leb low n l, le-leb n high h) refl

-- the body of a message has a length of its kind
pub has_length-body : (m : Msg) → has_length (number_of m) (length (body_of m)) ≡ true
has_length-body (Claim id) = ap (λ (n : ℕ). n == 16) id.whole
has_length-body (Begin epoch) = ap (λ (n : ℕ). n == 8) (length-eight_bytes epoch.number)
has_length-body Object = refl
has_length-body (Part bytes) = within 1 4096 (length bytes.bytes) bytes.some bytes.few
has_length-body Seal = refl
has_length-body (Enter path kind) = let long = length-entry path in within 5 1027 (length (body_of (Enter path kind))) (omega arith) (omega arith)
has_length-body (Keep path origin) =
    let first = length-entry path in
    let second = length-entry origin in
    let sum = length-append (path_bytes path.path) (path_bytes origin.path) in
    within 8 2052 (length (body_of (Keep path origin))) (omega arith) (omega arith)
has_length-body (Publish epoch) = ap (λ (n : ℕ). n == 8) (length-eight_bytes epoch.number)

pub body-few : (m : Msg) → length (body_of m) ≤ 4096
body-few (Claim id) = omega (arith, id.whole)
body-few (Begin epoch) = omega (arith, length-eight_bytes epoch.number)
body-few Object = omega arith
body-few (Part bytes) = bytes.few
body-few Seal = omega arith
body-few (Enter path kind) = omega (arith, (length-entry path).1)
body-few (Keep path origin) = omega (arith, (length-entry path).1, (length-entry origin).1, length-append (path_bytes path.path) (path_bytes origin.path))
body-few (Publish epoch) = omega (arith, length-eight_bytes epoch.number)

pub length-covered : (number : ℕ) (body : List ℕ) → length (covered number body) ≡ length body + 5
length-covered number body = omega (arith, length-append (four_bytes (length body)) (number ∷ body), length-four_bytes (length body))

pub length-frame : (m : Msg) → length (frame m) ≡ length (body_of m) + 37
length-frame m =
    let c = covered (number_of m) (body_of m) in
    omega (arith, length-append c (sha256 c), length-covered (number_of m) (body_of m), length-sha256 c)

-- the number stands behind the four bytes of the length
number-again : (n number : ℕ) (xs : List ℕ) → get_or (four_bytes n ++ number ∷ xs) 4 0 ≡ number
unfolding four_bytes
number-again n number xs = refl

-- a frame and more, from the left as from the right
frame-parts : (m : Msg) (more : List ℕ) → frame m ++ more ≡ four_bytes (length (body_of m)) ++ (number_of m ∷ (body_of m ++ (sha256 (covered (number_of m) (body_of m)) ++ more)))
frame-parts m more =
    let c = covered (number_of m) (body_of m) in
    append_assoc c (sha256 c) more ∙ append_assoc (four_bytes (length (body_of m))) (number_of m ∷ body_of m) (sha256 c ++ more)

pub body_length-frame : (m : Msg) (more : List ℕ) → body_length (frame m ++ more) ≡ length (body_of m)
body_length-frame m more = let few = body-few m in ap body_length (frame-parts m more) ∙ body_length-again (length (body_of m)) _ (omega arith)

pub number_in-frame : (m : Msg) (more : List ℕ) → number_in (frame m ++ more) ≡ number_of m
number_in-frame m more = ap (λ (bs : List ℕ). get_or bs 4 0) (frame-parts m more) ∙ number-again (length (body_of m)) (number_of m) _

-- bytes that begin with a frame have the front of a whole one
pub front-frame : (m : Msg) (more : List ℕ) → front_of (frame m ++ more) ≡ Ok (length (body_of m))
front-frame m more =
    let len = body_length-frame m more in
    let few = body-few m in
    let kind = ap (λ (n : ℕ). has_length n (body_length (frame m ++ more))) (number_in-frame m more) ∙ ap (has_length (number_of m)) len ∙ has_length-body m in
    front-whole (frame m ++ more) (omega arith) kind (omega (arith, len, length-frame m, length-append (frame m) more)) ∙ ap (λ (n : ℕ). Ok n) len

-- the front of a whole frame
abbrev whole : ℕ → Result ℕ FrameError
whole n = Ok n

ok_lengths : (a b : ℕ) → whole a ≡ whole b → a ≡ b
ok_lengths a b e = cc

-- the same bytes begin with the frame of one message
pub frames_same : (a b : Msg) (xs ys : List ℕ) → frame a ++ xs ≡ frame b ++ ys → (a ≡ b) × (xs ≡ ys)
frames_same a b xs ys e =
    let lens = ok_lengths (length (body_of a)) (length (body_of b)) (sym (front-frame a xs) ∙ ap front_of e ∙ front-frame b ys) in
    let both = fronts_same (frame a) (frame b) xs ys (length-frame a ∙ ap (λ (n : ℕ). n + 37) lens ∙ sym (length-frame b)) e in
    let numbers = sym (number_in-frame a xs) ∙ ap number_in e ∙ number_in-frame b ys in
    let ca = covered (number_of a) (body_of a) in
    let cb = covered (number_of b) (body_of b) in
    let cover = fronts_same ca cb (sha256 ca) (sha256 cb) (length-covered (number_of a) (body_of a) ∙ ap (λ (n : ℕ). n + 5) lens ∙ sym (length-covered (number_of b) (body_of b))) both.0 in
    let inner = fronts_same (four_bytes (length (body_of a))) (four_bytes (length (body_of b))) (number_of a ∷ body_of a) (number_of b ∷ body_of b) (length-four_bytes (length (body_of a)) ∙ sym (length-four_bytes (length (body_of b)))) cover.0 in
    (messages_same a b numbers (ap (drop 1) inner.1), both.1)

-- what a body takes
pub ruleset body_lengths = (body-few)
