-- Steps in which no call of the disk failed.
use Rattle.std.proofs.Common.{◌≡◌, ◌≤◌, ℕ, Option, Result, Ok, Err, IfErr, subst}
use Rattle.vb_cause.specs.Causes.{HasCause, UsesFailures}
use Rattle.vb_disk.specs.declared.disk_error.DiskError.{DiskError}
use Rattle.vb_disk.specs.declared.disk_error.DiskError.TheVariants.{Failed}
use Rattle.vb_journal.specs.declared.recover_error.RecoverError.{RecoverError}
use Rattle.vb_journal.specs.declared.recover_error.RecoverError.TheVariants.{DiskFault}
use Rattle.vb_store.specs.MountStages.{IsNoFault}

-- no fault needs no cause
pub no_cause_of : {T : Type 0} (r : Result T RecoverError) (before after : ℕ) → before ≤ after → IfErr r IsNoFault → HasCause DiskFault before after r
no_cause_of (Ok done) before after kept none = record { kept = kept; failed = λ is. absurd (cc is) }
no_cause_of (Err error) before after kept none = record { kept = kept; failed = λ is. (let same : error ≡ DiskFault = cc is in absurd (subst IsNoFault same none)) }

-- no fault uses no failure
pub no_use_of : {S T : Type 0} (read : Result S DiskError) (r : Result T RecoverError) (before after : Option ℕ) → UsesFailures Failed before after read → IfErr r IsNoFault → UsesFailures DiskFault before after r
no_use_of read (Ok done) before after uses none = record { told = uses.told; kept = uses.kept; used = λ some is. absurd (cc is) }
no_use_of read (Err error) before after uses none = record { told = uses.told; kept = uses.kept; used = λ some is. (let same : error ≡ DiskFault = cc is in absurd (subst IsNoFault same none)) }
