-- What survives of a history in which nothing was cut is all of it.
use Rattle.std.proofs.Common.{◌≡◌, ℕ, List, [], ◌∷◌, ◌++◌, false, refl, sym, ap, ◌∙◌, append_assoc, append-nil}
use Rattle.std.specs.List.{fold}
use Rattle.vb_hist.specs.declared.entry.Entry.{Entry}
use Rattle.vb_hist.specs.declared.entry.Entry.TheVariants.{Call, Freeze, FreezeBusy, Commit, Rest, Publish, Doubt, Dropped, End, Cut}
use Rattle.vb_hist.specs.Histories.{HasNoCut, is_cut, survivors_after, surviving}

-- an entry that is no cut goes to the end
pub survivors-push : (start : ℕ) (line : List Entry) (entry : Entry) → is_cut entry ≡ false → survivors_after start line entry ≡ line ++ entry ∷ []
survivors-push start line (Call writer op reply) h = refl
survivors-push start line (Freeze by epoch) h = refl
survivors-push start line (FreezeBusy writer epoch) h = refl
survivors-push start line (Commit epoch) h = refl
survivors-push start line (Rest epoch) h = refl
survivors-push start line (Publish epoch) h = refl
survivors-push start line (Doubt epoch) h = refl
survivors-push start line (Dropped epoch) h = refl
survivors-push start line (End writer) h = refl
survivors-push start line (Cut epoch limits) h = cc

-- entries among which there is no cut go to the end, in order
pub survivors-append : (start : ℕ) (line history : List Entry) → HasNoCut history → fold (survivors_after start) line history ≡ line ++ history
survivors-append start line [] h = sym (append-nil line)
survivors-append start line (entry ∷ entries) h =
    ap (λ l. fold (survivors_after start) l entries) (survivors-push start line entry h.0)
    ∙ survivors-append start (line ++ entry ∷ []) entries h.1
    ∙ append_assoc line (entry ∷ []) entries

-- a history in which nothing was cut survives
pub surviving-whole : (start : ℕ) (history : List Entry) → HasNoCut history → surviving start history ≡ history
surviving-whole start history h = survivors-append start [] history h
