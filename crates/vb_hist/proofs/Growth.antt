-- A legal history grows by an entry that may follow it, and is legal up to there.
use Rattle.std.proofs.Common.{◌≡◌, ℕ, false, List, [], ◌∷◌, ◌++◌}
use Rattle.std.specs.List.{fold}
use Rattle.vb_hist.specs.declared.entry.Entry.{Entry}
use Rattle.vb_hist.specs.declared.entry.Entry.TheVariants.{Cut}
use Rattle.vb_hist.specs.Histories.{is_cut, survivors_after, folder_after}
use Rattle.vb_hist.specs.Legal.{Opening, AreLegalAfter, GoesBackToFreeze, MayFollow, marks_after, marks_at_start}

-- the entry may follow what survives of these entries after those
abbrev pub FollowsAll : Opening → List Entry → List Entry → Entry → Type 0
FollowsAll o line entries entry =
    MayFollow (fold marks_after (marks_at_start o) (fold (survivors_after o.start) line entries))
    (folder_after o.base (fold (survivors_after o.start) line entries)) entry

-- and where it is a cut, it goes back to a freeze that is there
abbrev pub GoesBackAfter : Opening → List Entry → List Entry → Entry → Type 0
GoesBackAfter o line entries entry = GoesBackToFreeze o.start (fold (survivors_after o.start) line entries) entry

-- an entry that is no cut goes back to nothing
pub no_cut-goes_back : (start : ℕ) (line : List Entry) (entry : Entry) → is_cut entry ≡ false → GoesBackToFreeze start line entry
no_cut-goes_back start line (Cut epoch limits) h = cc
no_cut-goes_back start line other h = tt

pub legal-push : (o : Opening) (line entries : List Entry) (entry : Entry) → AreLegalAfter o line entries → FollowsAll o line entries entry → GoesBackAfter o line entries entry → AreLegalAfter o line (entries ++ entry ∷ [])
legal-push o line [] entry legal follows back = (follows, back, tt)
legal-push o line (first ∷ entries) entry legal follows back =
    (legal.0, legal.1, legal-push o (survivors_after o.start line first) entries entry legal.2 follows back)

pub legal-front : (o : Opening) (line entries : List Entry) (entry : Entry) → AreLegalAfter o line (entries ++ entry ∷ []) → AreLegalAfter o line entries
legal-front o line [] entry legal = tt
legal-front o line (first ∷ entries) entry legal =
    (legal.0, legal.1, legal-front o (survivors_after o.start line first) entries entry legal.2)

pub legal-last : (o : Opening) (line entries : List Entry) (entry : Entry) → AreLegalAfter o line (entries ++ entry ∷ []) → FollowsAll o line entries entry
legal-last o line [] entry legal = legal.0
legal-last o line (first ∷ entries) entry legal = legal-last o (survivors_after o.start line first) entries entry legal.2

pub legal-back : (o : Opening) (line entries : List Entry) (entry : Entry) → AreLegalAfter o line (entries ++ entry ∷ []) → GoesBackAfter o line entries entry
legal-back o line [] entry legal = legal.1
legal-back o line (first ∷ entries) entry legal = legal-back o (survivors_after o.start line first) entries entry legal.2
