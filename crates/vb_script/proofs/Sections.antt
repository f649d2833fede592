-- What holds of the sections so far holds of them all, one after another.
use Rattle.std.proofs.Common.{◌≡◌, ℕ, ◌+◌, ◌≤◌, ◌==◌, true, false, ◌||◌, List, [], ◌∷◌, ◌++◌, length, Option, Some, None, Bool, refl, ◌∙◌, arith, append-nil}
use Rattle.std.specs.List.{AllByRecursion}
use Rattle.std.specs.Option.{option_to_list}
use Rattle.std.proofs.lemmas.List.Folds.{list_any-append}
use Rattle.std.proofs.lemmas.List.Sums.{sum_by_push}
use Rattle.std.proofs.lemmas.Bool.Decides.{nat_tests}
use Rattle.vb_hist.specs.declared.script.Line.{Line}
use Rattle.vb_hist.specs.declared.script.WriterScript.{WriterScript}
use Rattle.vb_hist.specs.Quiet.{IsLineInRange, AreInRange, line_count}
use Rattle.vb_script.specs.Scripts.{Draft, has_writer, sections_of, AreWriters}
use Rattle.vb_script.specs.Sound.{IsSound, IsSoundSection, section_lines, lines_in}

-- one more element of which P holds
AllByRecursion-push : {X : Type 0} (P : X → Type 0) (xs : List X) (x : X) → AllByRecursion P xs → P x → AllByRecursion P (xs ++ x ∷ [])
AllByRecursion-push P [] x all here = (here, tt)
AllByRecursion-push P (y ∷ ys) x all here = (all.0, AllByRecursion-push P ys x all.1 here)

or_false : (a b : Bool) → (a || b) ≡ false → (a ≡ false) × (b ≡ false)
or_false true b h = cc
or_false false b h = (refl, h)

eqb_swap : (a b : ℕ) → (a == b) ≡ false → (b == a) ≡ false
eqb_swap a b h = grind (arith, nat_tests)

-- one more writer, whose number is allowed and new
AreWriters-push : (scripts : List WriterScript) (last : WriterScript) → AreWriters scripts → 1 ≤ last.writer → last.writer ≤ 64 → has_writer last.writer scripts ≡ false → AreWriters (scripts ++ last ∷ [])
AreWriters-push [] last all least most new = (least, most, refl, tt)
AreWriters-push (script ∷ scripts) last all least most new =
    let parts = or_false (script.writer == last.writer) (has_writer last.writer scripts) new in
    let other : (last.writer == script.writer) ≡ false = eqb_swap script.writer last.writer parts.0 in
    (all.0, all.1, list_any-append (λ s. s.writer == script.writer) scripts (last ∷ []) ∙ rw all.2 (rw other), AreWriters-push scripts last all.3 least most parts.1)

writers_all : (ended : List WriterScript) (section : Option WriterScript) → AreWriters ended → IsSoundSection ended section → AreWriters (ended ++ option_to_list section)
writers_all ended None all sound = rw append-nil all
writers_all ended (Some last) all sound = AreWriters-push ended last all sound.0 sound.1 sound.2

in_range_all : (ended : List WriterScript) (section : Option WriterScript) → AreInRange ended → IsSoundSection ended section → AreInRange (ended ++ option_to_list section)
in_range_all ended None all sound = rw append-nil all
in_range_all ended (Some last) all sound = AllByRecursion-push (λ s. AllByRecursion IsLineInRange s.lines) ended last all sound.3

lines_all : (ended : List WriterScript) (section : Option WriterScript) → line_count (ended ++ option_to_list section) ≡ line_count ended + section_lines section
lines_all ended None = rw append-nil (omega arith)
lines_all ended (Some last) = sum_by_push (λ s. length s.lines) ended last

-- the writers of a sound draft
pub AreWriters-sections : (draft : Draft) → IsSound draft → AreWriters (sections_of draft)
AreWriters-sections draft sound = writers_all draft.ended draft.section sound.writers_allowed sound.section_sound

-- the lines of a sound draft are in their ranges
pub AreInRange-sections : (draft : Draft) → IsSound draft → AreInRange (sections_of draft)
AreInRange-sections draft sound = in_range_all draft.ended draft.section sound.lines_in_range sound.section_sound

-- how many lines a draft has
pub line_count-sections : (draft : Draft) → line_count (sections_of draft) ≡ lines_in draft
line_count-sections draft = lines_all draft.ended draft.section

-- one more line in its range
pub in_range-push : (lines : List Line) (line : Line) → AllByRecursion IsLineInRange lines → IsLineInRange line → AllByRecursion IsLineInRange (lines ++ line ∷ [])
in_range-push lines line all here = AllByRecursion-push IsLineInRange lines line all here

-- a test of the sections is one of those that ended, or of the one that lines go into
pub has_writer-sections : (writer : ℕ) (ended : List WriterScript) (section : Option WriterScript) → has_writer writer (ended ++ option_to_list section) ≡ (has_writer writer ended || has_writer writer (option_to_list section))
has_writer-sections writer ended section = list_any-append (λ s. s.writer == writer) ended (option_to_list section)

pub ruleset section_laws = (AreWriters-sections, AreInRange-sections, line_count-sections, in_range-push, has_writer-sections)
