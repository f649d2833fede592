-- What a text that reads as a path is: the text of its parts.
use Rattle.std.proofs.Common.{◌≡◌, ℕ, Bool, true, false, not, ◌==◌, List, [], ◌∷◌, length, drop, Option, None, Ok, refl, sym, ap, ◌∙◌, subst, inl, inr, if◌then◌else◌, arith}
use Rattle.std.proofs.lemmas.Bool.{false≢true}
use Rattle.std.specs.Str.{IsUtf8}
use Rattle.std.proofs.lemmas.Str.{utf8_valid_len-IsUtf8}
use Rattle.std.proofs.lemmas.Bool.Decides.{nat_tests, eqb_tells}
use Rattle.vb_path.specs.declared.path.PathError.{PathError}
use Rattle.vb_path.specs.Paths.{pieces_of, text_of_path, fault_if, bad_utf8_in, fault_of, parts_after_slash, parts_unless, path_of, IsPath}
use Rattle.vb_path.proofs.Pieces.{text_of_path-pieces_of}

-- no fault means that no test held
pub fault_if-none : (test : Bool) (fault : PathError) (next : Option PathError) → fault_if test fault next ≡ None → (test ≡ false) × (next ≡ None)
fault_if-none true fault next h = absurd cc
fault_if-none false fault next h = (refl, h)

-- a text without a fault begins with a slash
starts : (b : ℕ) (bs : List ℕ) → fault_of (b ∷ bs) ≡ None → b ≡ 47
starts b bs h =
    let first = fault_if-none (length (b ∷ bs) == 0) _ _ h in
    let second = fault_if-none (not (b == 47)) _ _ first.1 in
    elim (eqb_tells b 47) [
      | inl w ↦ w.1
      | inr w ↦ absurd (false≢true (sym second.0 ∙ ap not w.0))
    ]

not_empty : (b : ℕ) (bs : List ℕ) → (length (b ∷ bs) == 0) ≡ false
not_empty b bs = elim (eqb_tells (length (b ∷ bs)) 0) [ inl w ↦ absurd (omega (arith, w.1)) | inr w ↦ w.0 ]

text_after : (b : ℕ) (bs : List ℕ) → b ≡ 47 → b ∷ bs ≡ text_of_path (parts_after_slash bs)
text_after b [] e = ap (λ x. x ∷ []) e
text_after b (c ∷ cs) e =
    ap (λ x. x ∷ c ∷ cs) e ∙ sym (text_of_path-pieces_of (c ∷ cs))
    ∙ ap (λ t. text_of_path (if t then [] else pieces_of (c ∷ cs))) (sym (not_empty c cs))

-- a text that is a path is the text of its parts
pub text-read : (text : List ℕ) → fault_of text ≡ None → text ≡ text_of_path (parts_after_slash (drop 1 text))
text-read [] h = absurd cc
text-read (b ∷ bs) h = text_after b bs (starts b bs h)

-- what a text without a fault reads as
pub path_of-read : (text : List ℕ) → fault_of text ≡ None → path_of text ≡ Ok (parts_after_slash (drop 1 text))
path_of-read text h = ap (λ f. parts_unless f (parts_after_slash (drop 1 text))) h

-- the parts of a text that is a path are those of a path
pub IsPath-read : (text : List ℕ) → fault_of text ≡ None → IsPath (parts_after_slash (drop 1 text))
IsPath-read text h =
    subst (λ t. path_of t ≡ Ok (parts_after_slash (drop 1 text))) (text-read text h) (path_of-read text h)

-- UTF-8 has no place from which on it is none
pub no_bad_utf8 : (text : List ℕ) → IsUtf8 text → bad_utf8_in text ≡ None
no_bad_utf8 text h = let e = utf8_valid_len-IsUtf8 text h in grind (arith, nat_tests)

pub ruleset read_paths = (text-read, path_of-read, IsPath-read)
