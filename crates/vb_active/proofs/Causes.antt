-- Causes of errors over several calls.
use Rattle.std.proofs.Common.{◌≡◌, ℕ, ◌≤◌, Option, IsSome, Result, refl, ◌∙◌, arith}
use Rattle.std.specs.Prelude.{IsErrOf}
use Rattle.vb_cause.specs.Causes.{HasCause, UsesFailures, left_of}
use Rattle.vb_disk.specs.States.{DiskState}
use Rattle.vb_cause.specs.Faults.{HasRisen}
use Rattle.vb_pages.specs.declared.page_error.PageError.{PageError}
use Rattle.vb_pages.specs.declared.page_error.PageError.TheVariants.{DiskFault}

-- failures that are left: where they were told they still are, and no more than before
pub record Spares (before after : Option ℕ) : Type 0 where
  pub told : IsSome before → IsSome after
  pub kept : IsSome before → left_of after ≤ left_of before

pub Spares-none : (left : Option ℕ) → Spares left left
Spares-none left = record { told = λ some. some; kept = λ some. omega arith }

-- what a call that answered, and then another one, give together
pub then-cause : {T U : Type 0} (r : Result T PageError) (s : Result U PageError) (first middle last : ℕ) → first ≤ middle → HasCause DiskFault middle last r → (IsErrOf s DiskFault → IsErrOf r DiskFault) → HasCause DiskFault first last s
then-cause r s first middle last low cause same =
    record {
      kept = omega (arith, low, cause.kept);
      failed = λ is. let risen = cause.failed (same is) in risen-from first middle last low risen;
    } where
      risen-from : (a b c : ℕ) → a ≤ b → HasRisen b c → HasRisen a c
      risen-from a b c low risen = omega arith

pub then-left : {T U : Type 0} (r : Result T PageError) (s : Result U PageError) (first middle last : Option ℕ) → Spares first middle → UsesFailures DiskFault middle last r → (IsErrOf s DiskFault → IsErrOf r DiskFault) → UsesFailures DiskFault first last s
then-left r s first middle last spares uses same =
    record {
      told = λ some. uses.told (spares.told some);
      kept = λ some. let low = spares.kept some in let more = uses.kept (spares.told some) in omega (arith, low, more);
      used = λ some is. let low = spares.kept some in let more = uses.used (spares.told some) (same is) in omega (arith, low, more);
    }

pub then-spares : {T : Type 0} (r : Result T PageError) (first middle last : Option ℕ) → Spares first middle → UsesFailures DiskFault middle last r → Spares first last
then-spares r first middle last spares uses =
    record {
      told = λ some. uses.told (spares.told some);
      kept = λ some. let low = spares.kept some in let more = uses.kept (spares.told some) in omega (arith, low, more);
    }

-- what was spared holds of any answer that is no fault
pub spared-cause : {T : Type 0} (r : Result T PageError) (first last : ℕ) → first ≤ last → (IsErrOf r DiskFault → ⊥) → HasCause DiskFault first last r
spared-cause r first last low none = record { kept = low; failed = λ is. absurd (none is) }

pub spared-left : {T : Type 0} (r : Result T PageError) (first last : Option ℕ) → Spares first last → (IsErrOf r DiskFault → ⊥) → UsesFailures DiskFault first last r
spared-left r first last spares none = record { told = spares.told; kept = spares.kept; used = λ some is. absurd (none is) }

-- between two moments a disk was only looked at, and no call of it failed
pub record Looked (told later : Option DiskState) (seen after first last : ℕ) (before left : Option ℕ) : Type 0 where
  pub told_same : later ≡ told
  pub seen_same : after ≡ seen
  pub risen : first ≤ last
  pub spares : Spares before left

pub looked-none : (told : Option DiskState) (seen first : ℕ) (left : Option ℕ) → Looked told told seen seen first first left left
looked-none told seen first left = record { told_same = refl; seen_same = refl; risen = omega arith; spares = Spares-none left }

-- and one more look
pub looked-on : {T : Type 0} (r : Result T PageError) (told later last_told : Option DiskState) (seen after last_seen first middle last : ℕ) (before between left : Option ℕ) → Looked told later seen after first middle before between → last_told ≡ later → last_seen ≡ after → HasCause DiskFault middle last r → UsesFailures DiskFault between left r → Looked told last_told seen last_seen first last before left
looked-on r told later last_told seen after last_seen first middle last before between left looked same_told same_seen cause uses =
    record {
      told_same = same_told ∙ looked.told_same;
      seen_same = same_seen ∙ looked.seen_same;
      risen = let low = looked.risen in let more = cause.kept in omega (arith, low, more);
      spares = then-spares r before between left looked.spares uses;
    }
