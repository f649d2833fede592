-- What a rehearsal comes to, as what is due from these words and bytes.
use Rattle.std.proofs.Common.{◌≡◌, ◌≢◌, inl, inr, ⊎_elim, ℕ, true, List, [], ◌++◌, take, Ok, Err, sym, ap, ◌∙◌, subst}
use Rattle.vb_hist.specs.declared.entry.Entry.{Entry}
use Rattle.vb_script.specs.declared.script.Script.{Script}
use Rattle.vb_script.specs.declared.script.Form.TheVariants.{Rehearse}
use Rattle.vb_script.specs.declared.error.ScriptError.{ScriptError}
use Rattle.vb_script.specs.declared.error.ScriptError.TheVariants as script
use Rattle.vb_script.specs.Scripts.{script_of, IsScriptOf}
use Rattle.vb_program.specs.declared.ending.Ending.{Ending}
use Rattle.vb_program.specs.declared.ending.Ending.TheVariants.{Whole, Words, Source, Wrong, NotYet, Memory}
use Rattle.vb_report.specs.Reports.{ReportView, with_text, with_shortage}
use Rattle.vb_program.specs.Run.{are_words, most_read, Reports, TellsHistory, TellsRefusal, ending_at, refusal_text, history_of_run}

-- a script that is played
pub played-reports : (words : List (List ℕ)) (input bytes : List ℕ) (read : Script) (ending : Ending) (lines : List ℕ) → are_words words ≡ true → bytes ≡ take most_read input → script_of Rehearse bytes ≡ Ok read → TellsHistory (history_of_run read) ending lines → Reports words input ending lines
played-reports words input bytes read Whole lines ok is exact told = (ok, read, ap (script_of Rehearse) (sym is) ∙ exact, told)
played-reports words input bytes read Memory lines ok is exact told =
    (ok, inr (read, told.0, ap (script_of Rehearse) (sym is) ∙ exact, told.1, told.2))
played-reports words input bytes read Words lines ok is exact told = absurd told
played-reports words input bytes read Source lines ok is exact told = absurd told
played-reports words input bytes read (Wrong line kind) lines ok is exact told = absurd told
played-reports words input bytes read (NotYet line) lines ok is exact told = absurd told

-- it is whole, or memory ran out
pub played-ending : (history : List Entry) (ending : Ending) (lines : List ℕ) → TellsHistory history ending lines → (ending ≢ Words) × (ending ≢ Source)
played-ending history Whole lines told = (λ h. cc, λ h. cc)
played-ending history Memory lines told = (λ h. cc, λ h. cc)
played-ending history Words lines told = absurd told
played-ending history Source lines told = absurd told
played-ending history (Wrong line kind) lines told = absurd told
played-ending history (NotYet line) lines told = absurd told

-- a script that isn't read
pub refused-reports : (words : List (List ℕ)) (input bytes : List ℕ) (error : ScriptError) (before : ReportView) (ending : Ending) (after : ReportView) → are_words words ≡ true → bytes ≡ take most_read input → IsScriptOf Rehearse bytes (Err error) → before.text ≡ [] → TellsRefusal error before ending after → Reports words input ending after.text
refused-reports words input bytes error before ending after ok is exact none told = ⊎_elim (named error exact) unnamed told
  where
    P : Ending → Type 0
    P e = Reports words input e after.text

    lines : (e : ScriptError) → after ≡ with_text before (refusal_text e) → after.text ≡ refusal_text e
    lines e h = ap (λ r. r.text) h ∙ ap (λ t. t ++ refusal_text e) none

    unnamed : (ending ≡ Memory) × (after ≡ with_shortage before) → Reports words input ending after.text
    unnamed h = subst P (sym h.0) (ok, inl (ap (λ r. r.text) h.1 ∙ none))

    named : (e : ScriptError) → IsScriptOf Rehearse bytes (Err e) → (ending ≡ ending_at e) × (after ≡ with_text before (refusal_text e)) → Reports words input ending after.text
    named (script.Wrong line kind) due h = subst P (sym h.0) (ok, ap (script_of Rehearse) (sym is) ∙ due, lines (script.Wrong line kind) h.1)
    named (script.NotYet line) due h = subst P (sym h.0) (ok, ap (script_of Rehearse) (sym is) ∙ due, lines (script.NotYet line) h.1)
    named script.Memory due h = subst P (sym h.0) (ok, inl (lines script.Memory h.1))

-- it isn't whole, and no other cause is named
pub refused-ending : (error : ScriptError) (before : ReportView) (ending : Ending) (after : ReportView) → TellsRefusal error before ending after → (ending ≢ Whole) × (ending ≢ Words) × (ending ≢ Source)
refused-ending error before ending after told = ⊎_elim (λ h. named error h.0) (λ h. (λ e. cc, λ e. cc, λ e. cc)) told
  where
    named : (e : ScriptError) → ending ≡ ending_at e → (ending ≢ Whole) × (ending ≢ Words) × (ending ≢ Source)
    named (script.Wrong line kind) h = (λ e. cc, λ e. cc, λ e. cc)
    named (script.NotYet line) h = (λ e. cc, λ e. cc, λ e. cc)
    named script.Memory h = (λ e. cc, λ e. cc, λ e. cc)
