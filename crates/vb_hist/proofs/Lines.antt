-- The lines of a writer are all of its entries.
use Rattle.std.proofs.Common.{◌≡◌, ℕ, ◌<◌, Bool, true, false, ◌==◌, if◌then◌else◌, List, [], ◌∷◌, refl, ap, ◌∙◌, arith}
use Rattle.std.specs.List.{filter}
use Rattle.std.proofs.lemmas.Bool.Decides.{nat_tests}
use Rattle.vb_hist.specs.declared.entry.Entry.{Entry}
use Rattle.vb_hist.specs.declared.entry.Entry.TheVariants.{Call, Freeze, FreezeBusy, End}
use Rattle.vb_hist.specs.Makers.{entries_of}
use Rattle.vb_hist.specs.Merges.{is_writers, lines_of}

-- a writer's entry is kept where its number is the one
keeps : (b : Bool) (entry : Entry) (rest : List Entry) → is_writers entry ≡ true → filter is_writers rest ≡ rest → filter is_writers (if b then entry ∷ rest else rest) ≡ (if b then entry ∷ rest else rest)
keeps false entry rest is same = same
keeps true entry rest is same =
    ap (λ b. if b then entry ∷ filter is_writers rest else filter is_writers rest) is ∙ ap (λ l. entry ∷ l) same

-- an entry of nobody isn't there
skips : (number : ℕ) (entry : Entry) (rest : List Entry) → 0 < number → filter is_writers rest ≡ rest → filter is_writers (if 0 == number then entry ∷ rest else rest) ≡ (if 0 == number then entry ∷ rest else rest)
skips number entry rest above same = let other : (0 == number) ≡ false = grind (arith, nat_tests) in rw other same

pub lines-all : (number : ℕ) (history : List Entry) → 0 < number → lines_of number history ≡ entries_of number history
lines-all number [] above = refl
lines-all number (Call writer op reply ∷ xs) above = keeps (writer == number) (Call writer op reply) (entries_of number xs) refl (lines-all number xs above)
lines-all number (Freeze by epoch ∷ xs) above = keeps (by == number) (Freeze by epoch) (entries_of number xs) refl (lines-all number xs above)
lines-all number (FreezeBusy writer epoch ∷ xs) above = keeps (writer == number) (FreezeBusy writer epoch) (entries_of number xs) refl (lines-all number xs above)
lines-all number (End writer ∷ xs) above = keeps (writer == number) (End writer) (entries_of number xs) refl (lines-all number xs above)
lines-all number (other ∷ xs) above = skips number other (entries_of number xs) above (lines-all number xs above)
