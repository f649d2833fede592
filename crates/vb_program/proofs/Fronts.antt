-- Histories of quiet runs only grow.
use Rattle.std.proofs.Common.{◌≡◌, ℕ, ◌+◌, Bool, true, false, cond, if◌then◌else◌, List, [], ◌∷◌, ◌++◌, refl, sym, ap, ◌∙◌, subst, append_assoc}
use Rattle.std.proofs.lemmas.List.{append-nil}
use Rattle.std.specs.List.{fold}
use Rattle.vb_tree.specs.declared.tree.Limits.{Limits}
use Rattle.vb_tree.specs.Operations.{reply_of}
use Rattle.vb_hist.specs.declared.entry.Entry.{Entry}
use Rattle.vb_hist.specs.declared.entry.Entry.TheVariants.{Call, End}
use Rattle.vb_hist.specs.declared.script.Line.{Line}
use Rattle.vb_hist.specs.declared.script.Line.TheVariants as lines
use Rattle.vb_hist.specs.declared.script.WriterScript.{WriterScript}
use Rattle.vb_hist.specs.Histories.{folder_after}
use Rattle.vb_hist.specs.Quiet.{last_epoch_of, is_unfrozen, published_freeze, after_quiet_freeze, after_line, after_writer, with_last_freeze, quiet_history}
use mathlib.Core.List.{IsPrefix}

pub front-same : (a : List Entry) → IsPrefix a a
front-same a = ([], append-nil a)

pub front-trans : (a b c : List Entry) → IsPrefix a b → IsPrefix b c → IsPrefix a c
front-trans a b c p q = (p.0 ++ q.0, sym (append_assoc a p.0 q.0) ∙ ap (λ k. k ++ q.0) p.1 ∙ q.1)

pub front-line : (limits : Limits) (writer : ℕ) (history : List Entry) (line : Line) → IsPrefix history (after_line limits writer history line)
front-line limits writer history (lines.Perform op) = (Call writer op (reply_of limits (folder_after [] history) op) ∷ [], refl)
front-line limits writer history lines.Freeze = (published_freeze writer (last_epoch_of history + 1), refl)

pub front-lines : (limits : Limits) (writer : ℕ) (history : List Entry) (ls : List Line) → IsPrefix history (fold (after_line limits writer) history ls)
front-lines limits writer history [] = front-same history
front-lines limits writer history (l ∷ ls) =
    front-trans history (after_line limits writer history l) (fold (after_line limits writer) (after_line limits writer history l) ls)
    (front-line limits writer history l) (front-lines limits writer (after_line limits writer history l) ls)

-- a writer's history goes on from that of its lines
pub front-end : (limits : Limits) (history : List Entry) (script : WriterScript) → IsPrefix (fold (after_line limits script.writer) history script.lines) (after_writer limits history script)
front-end limits history script = (End script.writer ∷ [], refl)

pub front-writer : (limits : Limits) (history : List Entry) (script : WriterScript) → IsPrefix history (after_writer limits history script)
front-writer limits history script =
    front-trans history (fold (after_line limits script.writer) history script.lines) (after_writer limits history script)
    (front-lines limits script.writer history script.lines) (front-end limits history script)

pub front-scripts : (limits : Limits) (history : List Entry) (scripts : List WriterScript) → IsPrefix history (fold (after_writer limits) history scripts)
front-scripts limits history [] = front-same history
front-scripts limits history (s ∷ ss) =
    front-trans history (after_writer limits history s) (fold (after_writer limits) (after_writer limits history s) ss)
    (front-writer limits history s) (front-scripts limits (after_writer limits history s) ss)

-- the run's history goes on from that of all writers
pub front-last : (history : List Entry) → IsPrefix history (with_last_freeze history)
front-last history = at (is_unfrozen history)
  where
    at : (b : Bool) → IsPrefix history (cond b (after_quiet_freeze 0 history) history)
    at true = (published_freeze 0 (last_epoch_of history + 1), refl)
    at false = front-same history

-- what goes on to a line goes on to the whole script
pub front-through_lines : (limits : Limits) (start history now : List Entry) (script : WriterScript) (line : Line) (items left : List Line) → IsPrefix now (after_line limits script.writer history line) → items ≡ line ∷ left → fold (after_line limits script.writer) history items ≡ fold (after_line limits script.writer) start script.lines → IsPrefix now (after_writer limits start script)
front-through_lines limits start history now script line items left h is same =
    let f = after_line limits script.writer in
    let P : List Entry → Type 0 = λ k. IsPrefix now k in
    let through : IsPrefix now (fold f history items) =
    subst P (ap (fold f history) (sym is)) (front-trans now (f history line) (fold f (f history line) left) h (front-lines limits script.writer (f history line) left)) in
    front-trans now (fold f start script.lines) (after_writer limits start script) (subst P same through) (front-end limits start script)

-- what goes on to a writer goes on to the whole run
pub front-through_writers : (limits : Limits) (history now : List Entry) (script : WriterScript) (scripts items left : List WriterScript) → IsPrefix now (after_writer limits history script) → items ≡ script ∷ left → fold (after_writer limits) history items ≡ fold (after_writer limits) [] scripts → IsPrefix now (quiet_history limits scripts)
front-through_writers limits history now script scripts items left h is same =
    let f = after_writer limits in
    let P : List Entry → Type 0 = λ k. IsPrefix now k in
    let through : IsPrefix now (fold f history items) =
    subst P (ap (fold f history) (sym is)) (front-trans now (f history script) (fold f (f history script) left) h (front-scripts limits (f history script) left)) in
    front-trans now (fold f [] scripts) (quiet_history limits scripts) (subst P same through) (front-last (fold f [] scripts))

-- ---- the last freeze

-- the program freezes once more where something was done
pub frozen-last : (history : List Entry) → is_unfrozen history ≡ true → with_last_freeze history ≡ after_quiet_freeze 0 history
frozen-last history is = ap (λ (b : Bool). if b then after_quiet_freeze 0 history else history) is

-- and else its history stays
pub unfrozen-last : (history : List Entry) → is_unfrozen history ≡ false → with_last_freeze history ≡ history
unfrozen-last history is = ap (λ (b : Bool). if b then after_quiet_freeze 0 history else history) is
