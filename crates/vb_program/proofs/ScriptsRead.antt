-- A script that is read is short.
use Rattle.std.proofs.Common.{◌≡◌, ℕ, ◌<◌, ◌≤◌, Bool, true, false, cond, List, [], length, take, drop, Option, Some, Result, Ok, Err, ltb, refl, ap, ◌∙◌, arith}
use Rattle.std.proofs.lemmas.List.{length-take, take-append-drop, drop_all}
use Rattle.std.proofs.lemmas.Bool.{ltb-false}
use Rattle.vb_stream.specs.Streams.{TakesAtMost}
use Rattle.vb_script.specs.declared.script.Form.{Form}
use Rattle.vb_script.specs.declared.script.Script.{Script}
use Rattle.vb_script.specs.declared.error.ScriptError.{ScriptError}
use Rattle.vb_script.specs.Scripts.{script_of, most_bytes}

-- a script that has a value has no more bytes than it may
pub short-script : (form : Form) (bytes : List ℕ) (script : Script) → script_of form bytes ≡ Ok script → length bytes ≤ 16777216
unfolding script_of
short-script form bytes script h = at (ltb most_bytes (length bytes)) _ _ refl h
  where
    at : (b : Bool) (e : ScriptError) (r : Result Script ScriptError) → ltb most_bytes (length bytes) ≡ b → cond b (Err e) r ≡ Ok script → length bytes ≤ 16777216
    at true e r is h = cc
    at false e r is h = ltb-false most_bytes (length bytes) is

-- where less was got than was asked for, nothing is left
pub nothing-left : (most : ℕ) (input got : List ℕ) (left : Option (List ℕ)) → got ≡ take most input → left ≡ Some (drop most input) → length got < most → left ≡ Some []
nothing-left most input got left is h short =
    let all : length input ≤ most = omega (arith, length-take most input, ap length is) in
    h ∙ ap (λ l. Some l) (drop_all most input all)

-- what was got is at most as much as was asked for
pub taken-at-most : (most : ℕ) (input : List ℕ) (left : Option (List ℕ)) → left ≡ Some (drop most input) → TakesAtMost most input left
taken-at-most most input left h =
    (take most input, omega (arith, length-take most input), ((drop most input, take-append-drop most input), h))
