-- Paths in messages: their texts are short, and tell them apart.
use Rattle.std.proofs.Common.{◌≡◌, ℕ, ◌<◌, ◌≤◌, ◌^◌, ◌+◌, Bool, true, false, not, ◌==◌, nat_lt, List, [], ◌∷◌, ◌++◌, length, drop, get_or, Option, Some, None, Result, Ok, Err, refl, sym, ap, ◌∙◌, subst, arith, append_assoc, take, drop}
use Rattle.std.proofs.lemmas.Bool.{ltb-false}
use Rattle.std.proofs.lemmas.List.{drop_at, length-append, length-take, take_at, take-append-drop}
use Rattle.vb_path.specs.declared.path.PathError.{PathError}
use Rattle.vb_path.specs.Paths.{text_of_path, fault_if, fault_of, parts_after_slash, parts_unless, path_of, IsPath}
use Rattle.vb_path.proofs.ReadText.{fault_if-none, text-read, path_of-read}
use Rattle.vb_msg.specs.declared.ranges.EntryPath.{EntryPath}
use Rattle.vb_msg.specs.declared.frame_error.FrameError.{FrameError}
use Rattle.vb_msg.specs.declared.frame_error.FrameError.TheVariants.{BadFrame, Short, Memory}
use Rattle.vb_msg.specs.Bodies.{ReadsPath, TakesPath}
use Rattle.vb_block.specs.Numbers.{two_bytes}
use Rattle.vb_msg.specs.Frames.{path_bytes}
use Rattle.vb_block.proofs.Numbers.{fronts_same, length-two_bytes, two_bytes_same}

-- what reads as a path has no fault
pub no_fault : (text : List ℕ) (parts : List (List ℕ)) → path_of text ≡ Ok parts → fault_of text ≡ None
no_fault text parts is = without (fault_of text) (parts_after_slash (drop 1 text)) parts is
  where
    without : (fault : Option PathError) (read parts : List (List ℕ)) → parts_unless fault read ≡ Ok parts → fault ≡ None
    without None read parts is = refl
    without (Some fault) read parts is = absurd cc

-- a path that was read
abbrev done : List (List ℕ) → Result (List (List ℕ)) PathError
done parts = Ok parts

ok_same : (a b : List (List ℕ)) → done a ≡ done b → a ≡ b
ok_same a b e = cc

-- what reads as a path is its text
pub text-again : (text : List ℕ) (parts : List (List ℕ)) → path_of text ≡ Ok parts → text_of_path parts ≡ text
text-again text parts is =
    let none = no_fault text parts is in
    ap text_of_path (ok_same parts (parts_after_slash (drop 1 text)) (sym is ∙ path_of-read text none)) ∙ sym (text-read text none)

-- a text that is a path's has at most 1,024 bytes
pub text-short : (text : List ℕ) (parts : List (List ℕ)) → path_of text ≡ Ok parts → length text ≤ 1024
text-short text parts is =
    let first = fault_if-none (length text == 0) _ _ (no_fault text parts is) in
    let second = fault_if-none (not (get_or text 0 0 == 47)) _ _ first.1 in
    let third = fault_if-none (nat_lt 1024 (length text)) _ _ second.1 in
    ltb-false 1024 (length text) third.0

-- equal texts are of one path
pub texts_same : (p q : List (List ℕ)) → IsPath p → IsPath q → text_of_path p ≡ text_of_path q → p ≡ q
texts_same p q is_p is_q e = ok_same p q (sym is_p ∙ ap path_of e ∙ is_q)

-- the same bytes begin with one path
pub path_bytes_same : (p q : List (List ℕ)) (xs ys : List ℕ) → IsPath p → IsPath q → path_bytes p ++ xs ≡ path_bytes q ++ ys → (p ≡ q) × (xs ≡ ys)
unfolding path_bytes
path_bytes_same p q xs ys is_p is_q e =
    let short_p = text-short (text_of_path p) p is_p in
    let short_q = text-short (text_of_path q) q is_q in
    let parts = two_bytes_same (length (text_of_path p)) (length (text_of_path q)) (text_of_path p ++ xs) (text_of_path q ++ ys) (omega arith) (omega arith)
    (sym (append_assoc (two_bytes (length (text_of_path p))) (text_of_path p) xs) ∙ e ∙ append_assoc (two_bytes (length (text_of_path q))) (text_of_path q) ys) in
    let texts = fronts_same (text_of_path p) (text_of_path q) xs ys parts.0 parts.1 in
    (texts_same p q is_p is_q texts.0, texts.1)

-- a path's bytes: two of the text's length, and the text
path_bytes-parts : (p : List (List ℕ)) (rest : List ℕ) → path_bytes p ++ rest ≡ two_bytes (length (text_of_path p)) ++ (text_of_path p ++ rest)
unfolding path_bytes
path_bytes-parts p rest = append_assoc (two_bytes (length (text_of_path p))) (text_of_path p) rest

pub length-path_bytes : (p : List (List ℕ)) → length (path_bytes p) ≡ 2 + length (text_of_path p)
unfolding path_bytes
length-path_bytes p = omega (arith, length-append (two_bytes (length (text_of_path p))) (text_of_path p), length-two_bytes (length (text_of_path p)))

-- what begins with a path has its length and its text in front
begins : (entry : EntryPath) (bytes left rest : List ℕ) (len : ℕ) → len < 2 ^ 16 → bytes ≡ two_bytes len ++ left → bytes ≡ path_bytes entry.path ++ rest → (len ≡ length (text_of_path entry.path)) × (left ≡ text_of_path entry.path ++ rest)
begins entry bytes left rest len fits is e =
    let short = text-short (text_of_path entry.path) entry.path entry.valid in
    two_bytes_same len (length (text_of_path entry.path)) left (text_of_path entry.path ++ rest) fits (omega arith) (sym is ∙ e ∙ path_bytes-parts entry.path rest)

-- fewer than two bytes begin with no path
pub too_few : (bytes : List ℕ) → length bytes < 2 → (entry : EntryPath) (rest : List ℕ) → bytes ≡ path_bytes entry.path ++ rest → ⊥
too_few bytes few entry rest e =
    omega (arith, few, ap (λ (t : List ℕ). length t) e, length-append (path_bytes entry.path) rest, length-path_bytes entry.path)

-- nor do bytes that end before the text
pub cut_off : (bytes left : List ℕ) (len : ℕ) → len < 2 ^ 16 → bytes ≡ two_bytes len ++ left → length left < len → (entry : EntryPath) (rest : List ℕ) → bytes ≡ path_bytes entry.path ++ rest → ⊥
cut_off bytes left len fits is short entry rest e =
    let both = begins entry bytes left rest len fits is e in
    omega (arith, short, both.0, ap (λ (t : List ℕ). length t) both.1, length-append (text_of_path entry.path) rest)

-- the path of the text, and what follows it
pub taken : (entry : EntryPath) (bytes left text after : List ℕ) (len : ℕ) → bytes ≡ two_bytes len ++ left → len ≤ length left → text ≡ take len left → after ≡ drop len left → text_of_path entry.path ≡ text → bytes ≡ path_bytes entry.path ++ after
unfolding path_bytes
taken entry bytes left text after len is fits front back read =
    let text_is : text_of_path entry.path ≡ take len left = read ∙ front in
    let long : length (text_of_path entry.path) ≡ len = omega (arith, ap (λ (t : List ℕ). length t) text_is, length-take len left) in
    let whole : left ≡ text_of_path entry.path ++ after = sym (take-append-drop len left) ∙ ap (λ (t : List ℕ). t ++ drop len left) (sym text_is) ∙ ap (λ (t : List ℕ). text_of_path entry.path ++ t) (sym back) in
    is ∙ ap (λ (t : List ℕ). two_bytes len ++ t) whole ∙ ap (λ (n : ℕ). two_bytes n ++ (text_of_path entry.path ++ after)) (sym long)
    ∙ sym (append_assoc (two_bytes (length (text_of_path entry.path))) (text_of_path entry.path) after)

-- where the text is no path's, the bytes begin with none
pub not_taken : {R : Type 0} (of : R → List ℕ) (bytes left text : List ℕ) (len : ℕ) (error : FrameError) → len < 2 ^ 16 → bytes ≡ two_bytes len ++ left → text ≡ take len left → ReadsPath text (Err error) → TakesPath of bytes (Err error)
not_taken of bytes left text len BadFrame fits is front no_path = λ entry rest e.
    let both = begins entry bytes left rest len fits is e in
    no_path entry (sym (front ∙ ap (take len) both.1 ∙ take_at (text_of_path entry.path) rest len (sym both.0)))
not_taken of bytes left text len Short fits is front none = none
not_taken of bytes left text len Memory fits is front free = tt
