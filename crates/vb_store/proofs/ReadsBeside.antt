-- What was read of a disk at several moments is read of one choice of it.
use Rattle.std.proofs.Common.{◌≡◌, ◌≢◌, ℕ, zero, suc, ◌<◌, ◌≤◌, Bool, eqb, List, [], Option, Some, None, unwrap_or, Result, Err, refl, sym, ap, subst, ◌∙◌, inl, inr, arith}
use Rattle.std.proofs.lemmas.Bool.{cond-true, cond-false, eq-eqb, ne_eqb}
use Rattle.std.proofs.lemmas.List.Elements.{All-cons, All-head, All-nil}
use Rattle.sha2.specs.Sha256.{sha256}
use Rattle.vb_block.specs.Pages.{IsPage}
use Rattle.vb_disk.specs.declared.cell.Cell.{Cell}
use Rattle.vb_disk.specs.Cells.{hurt_cell, read_of}
use Rattle.vb_disk.specs.Crashes.{damaged}
use Rattle.vb_disk.specs.Misses.{IsMiss}
use Rattle.vb_disk.specs.States.{DiskState, IsDiskState, read_at}
use Rattle.vb_journal.specs.declared.recover_error.RecoverError.{RecoverError}
use Rattle.vb_journal.specs.declared.recover_error.RecoverError.TheVariants.{NotAStore, Damaged, Unfit, Rebuilding, DiskFault, Memory}
use Rattle.vb_journal.specs.Choices.{IsChoiceOf}
use Rattle.vb_journal.specs.Outcomes.{IsHurt, reads_of}
use Rattle.vb_journal.proofs.ChoicesOf.{IsChoiceOf-hurt}
use Rattle.vb_journal.proofs.Settled.{read_of-alone}
use Rattle.vb_store.specs.Beside.{HasReason, WasRead}
use Rattle.vb_store.specs.Clear.{first_candidates}
use Rattle.vb_store.specs.EmptyStores.{whole_cell}
use Rattle.vb_store.specs.Metadata.{Metadata}
use Rattle.vb_store.specs.OneOf.{ShowsOrRefuses, TreeView}
use Rattle.vb_store.specs.RecoveredStores.{metadata_on}

-- ---- the choice of the first candidates, with nothing hurt

pub firsts_of : DiskState → DiskState
firsts_of d = record d { cells = λ q. whole_cell (first_candidates d q) }

pub firsts-size : (d : DiskState) → (firsts_of d).size ≡ d.size
unfolding firsts_of
firsts-size d = refl

pub firsts-cell : (d : DiskState) (q : ℕ) → (firsts_of d).cells q ≡ whole_cell (first_candidates d q)
unfolding firsts_of
firsts-cell d q = refl

pub firsts-read : (d : DiskState) (q : ℕ) → read_at (firsts_of d) q ≡ first_candidates d q
firsts-read d q = ap read_of (firsts-cell d q) ∙ read_of-alone (whole_cell (first_candidates d q)) refl

pub firsts-reads : (d : DiskState) → reads_of (firsts_of d) ≡ first_candidates d
firsts-reads d = λ i q. firsts-read d q i

pub firsts-unhurt : (d : DiskState) (q : ℕ) → ((firsts_of d).cells q).hurt ≡ None
firsts-unhurt d q = ap (λ (c : Cell). c.hurt) (firsts-cell d q)

pub firsts-first : (d : DiskState) → first_candidates (firsts_of d) ≡ first_candidates d
unfolding firsts_of
firsts-first d = refl

pub first-page : (d : DiskState) (q : ℕ) → IsDiskState d → IsPage (first_candidates d q)
first-page d q disk = All-head IsPage (d.cells q).first (d.cells q).later (disk.candidates_are_pages q)

IsDiskState-firsts : (d : DiskState) → IsDiskState d → IsDiskState (firsts_of d)
unfolding firsts_of
IsDiskState-firsts d disk = record {
  blank_past_size = λ q past. ap (λ (c : Cell). whole_cell c.first) (disk.blank_past_size q past);
  hurt_are_misses = λ q bytes hurt. absurd (cc hurt);
  candidates_are_pages = λ q. All-cons IsPage (first_candidates d q) [] (first-page d q disk) (All-nil IsPage);
  hurt_are_pages = λ q bytes hurt. absurd (cc hurt);
  counted = record { covers = disk.counted.covers; settled = λ all q. refl };
}

pub IsChoiceOf-firsts : (d : DiskState) → IsDiskState d → IsChoiceOf (firsts_of d) d
unfolding firsts_of
IsChoiceOf-firsts d disk = record {
  disk = IsDiskState-firsts d disk;
  size = refl;
  each = λ q. record { picked = (0, omega arith, refl); alone = refl };
}

-- ---- a place that reads as it was read

-- a choice in which this place reads as this page, and the others as in another one
pub record ReadsSo (d old : DiskState) (place : ℕ) (page : List ℕ) : Type 0 where
  pub f : DiskState
  pub is : IsChoiceOf f d
  pub here : read_at f place ≡ page
  pub stands : (q : ℕ) → q ≢ place → f.cells q ≡ old.cells q
  pub hurt : IsHurt f place → IsHurt d place

damaged-here : (d : DiskState) (place : ℕ) (page : List ℕ) → (damaged d place page).cells place ≡ hurt_cell (d.cells place) page
damaged-here d place page = cond-true (eqb place place) (hurt_cell (d.cells place) page) (d.cells place) (eq-eqb place place refl)

damaged-else : (d : DiskState) (place q : ℕ) (page : List ℕ) → q ≢ place → (damaged d place page).cells q ≡ d.cells q
damaged-else d place q page apart = cond-false (eqb q place) (hurt_cell (d.cells q) page) (d.cells q) (ne_eqb q place apart)

pub reads-so : (d old : DiskState) (place : ℕ) (page : List ℕ) → IsChoiceOf old d → place < d.size → old.cells place ≡ whole_cell (first_candidates d place) → WasRead d place page → ReadsSo d old place page
reads-so d old place page is within at (inl same) = record {
  f = old;
  is = is;
  here = ap read_of at ∙ read_of-alone (whole_cell (first_candidates d place)) refl ∙ sym same;
  stands = λ q apart. refl;
  hurt = λ hurt. absurd (let none : (old.cells place).hurt ≡ None = ap (λ (c : Cell). c.hurt) at in let some = hurt.1 in cc (none, some));
}
reads-so d old place page is within at (inr was) = record {
  f = damaged old place page;
  is = IsChoiceOf-hurt old d place page is (let size = is.size in omega (arith, size, within)) was.1 (subst (λ (c : Cell). IsMiss c page) (sym at) was.2);
  here = ap read_of (damaged-here old place page);
  stands = λ q apart. damaged-else old place q page apart;
  hurt = λ hurt. was.0;
}

-- what is read now
pub read-now : (d : DiskState) (place : ℕ) → IsDiskState d → (d.cells place).later ≡ [] → WasRead d place (read_at d place)
read-now d place disk alone = by_hurt (d.cells place).hurt refl
  where
    by_hurt : (hurt : Option (List ℕ)) → (d.cells place).hurt ≡ hurt → WasRead d place (read_at d place)
    by_hurt None none = inl (read_of-alone (d.cells place) alone ∙ ap (λ (o : Option (List ℕ)). unwrap_or o (d.cells place).first) none)
    by_hurt (Some bytes) hurt =
        let read : read_at d place ≡ bytes = read_of-alone (d.cells place) alone ∙ ap (λ (o : Option (List ℕ)). unwrap_or o (d.cells place).first) hurt in
        let miss = disk.hurt_are_misses place bytes hurt in
        let P : List ℕ → Type 0 = λ candidate. sha256 candidate ≢ sha256 bytes in
        let only : IsMiss (whole_cell (d.cells place).first) bytes = record {
          unsealed = miss.unsealed;
          unlike = All-cons P (d.cells place).first [] (All-head P (d.cells place).first (d.cells place).later miss.unlike) (All-nil P);
        } in
        inr ((bytes, hurt), subst IsPage (sym read) (disk.hurt_are_pages place bytes hurt), subst (IsMiss (whole_cell (d.cells place).first)) (sym read) only)

-- ---- two places

-- a choice in which both heads read so, and nothing else is hurt
pub record ReadsHeads (d : DiskState) (first second : List ℕ) : Type 0 where
  pub f : DiskState
  pub is : IsChoiceOf f d
  pub first_is : read_at f 0 ≡ first
  pub second_is : read_at f 1 ≡ second
  pub hurt : (place : ℕ) → IsHurt f place → IsHurt d place

hurt_moved : (a b : DiskState) (q : ℕ) → b.cells q ≡ a.cells q → IsHurt b q → IsHurt a q
hurt_moved a b q same hurt = (hurt.0, sym (ap (λ (c : Cell). c.hurt) same) ∙ hurt.1)

pub reads-heads : (d : DiskState) (first second : List ℕ) → IsDiskState d → 2 ≤ d.size → WasRead d 0 first → WasRead d 1 second → ReadsHeads d first second
reads-heads d first second disk large was was_second =
    let one = reads-so d (firsts_of d) 0 first (IsChoiceOf-firsts d disk) (omega (arith, large)) (firsts-cell d 0) was in
    let two = reads-so d one.f 1 second one.is (omega (arith, large)) (one.stands 1 (λ same. absurd (omega (arith, same))) ∙ firsts-cell d 1) was_second in
    let zero_stands : two.f.cells 0 ≡ one.f.cells 0 = two.stands 0 (λ same. absurd (omega (arith, same))) in
    record {
      f = two.f;
      is = two.is;
      first_is = ap read_of zero_stands ∙ one.here;
      second_is = two.here;
      hurt = each one.f two.f zero_stands one.hurt two.hurt (λ q past. two.stands q (λ same. absurd (omega (arith, past, same))) ∙ one.stands q (λ same. absurd (omega (arith, past, same))));
    }
  where
    each : (one two : DiskState) → two.cells 0 ≡ one.cells 0 → (IsHurt one 0 → IsHurt d 0) → (IsHurt two 1 → IsHurt d 1) → ((q : ℕ) → 2 ≤ q → two.cells q ≡ (firsts_of d).cells q) → (q : ℕ) → IsHurt two q → IsHurt d q
    each one two moved first_hurt second_hurt stands zero hurt = first_hurt (hurt_moved one two 0 moved hurt)
    each one two moved first_hurt second_hurt stands (suc zero) hurt = second_hurt hurt
    each one two moved first_hurt second_hurt stands (suc (suc n)) hurt =
        let at = hurt_moved (firsts_of d) two (suc (suc n)) (stands (suc (suc n)) (omega arith)) hurt in
        absurd (let none = firsts-unhurt d (suc (suc n)) in let some = at.1 in cc (none, some))

-- ---- reasons

abbrev refused_so : RecoverError → Result Metadata RecoverError
refused_so e = Err e

-- a choice that is refused has a reason
pub reason-from : (views : List TreeView) (made : Bool) (f : DiskState) (e : RecoverError) → ShowsOrRefuses views made f → metadata_on f ≡ Err e → HasReason made e f
reason-from views made f e (inl shows) is = absurd (let ok = shows.metadata in cc (ok, is))
reason-from views made f e (inr (inl damaged)) is =
    let both : refused_so (Damaged damaged.place damaged.kept damaged.found) ≡ refused_so e = sym damaged.is ∙ is in
    let same : Damaged damaged.place damaged.kept damaged.found ≡ e = cc both in
    subst (λ (x : RecoverError). HasReason made x f) same damaged.hurt
reason-from views made f e (inr (inr (inl blank))) is =
    let both : refused_so (NotAStore 0) ≡ refused_so e = sym blank.is ∙ is in
    let same : NotAStore 0 ≡ e = cc both in
    subst (λ (x : RecoverError). HasReason made x f) same (blank.first, blank.second)
reason-from views made f e (inr (inr (inr anew))) is =
    let both : refused_so Rebuilding ≡ refused_so e = sym anew.is ∙ is in
    let same : Rebuilding ≡ e = cc both in
    subst (λ (x : RecoverError). HasReason made x f) same anew.allows

-- it is one of the disk too, where no more is hurt in the choice
pub reason-more : (made : Bool) (e : RecoverError) (f d : DiskState) → ((place : ℕ) → IsHurt f place → IsHurt d place) → HasReason made e f → HasReason made e d
reason-more made (NotAStore place) f d more is = (more 0 is.0, more 1 is.1)
reason-more made (Damaged place kept found) f d more is = more place is
reason-more made (Unfit place why) f d more is = is
reason-more made Rebuilding f d more is = is
reason-more made DiskFault f d more is = is
reason-more made Memory f d more is = is
