-- What a step of a mount answers, by what is known after it.
use Rattle.std.proofs.Common.{◌≡◌, Result, Ok, Err, IfOk, IfErr, refl, ap, ◌∙◌}
use Rattle.vb_disk.specs.States.{DiskState}
use Rattle.vb_journal.specs.declared.recover.Ahead.{Ahead}
use Rattle.vb_journal.specs.declared.recover.Ahead.TheVariants.{More, Ready as AllDone}
use Rattle.vb_journal.specs.declared.recover_error.RecoverError.{RecoverError}
use Rattle.vb_journal.specs.declared.recover_error.RecoverError.TheVariants.{NotAStore, Damaged, Unfit, Rebuilding, DiskFault, Memory}
use Rattle.vb_store.specs.declared.mount_phase.MountPhase.{MountPhase}
use Rattle.vb_store.specs.declared.mount_phase.MountPhase.TheVariants.{Recovering, Reading, Ready}
use Rattle.vb_store.specs.declared.mount_stage.MountStage.TheVariants.{ReadHome, ReadMap, Finish, Refused}
use Rattle.vb_store.specs.Metadata.{Metadata}
use Rattle.vb_store.specs.Mounts.{AnswersMount, HasMountEnded, IsAheadOfMount, IsMounting, MountStandsAfter, ShowsMetadata, ready_view}
use Rattle.vb_store.specs.RecoveredStores.{metadata_on}
use Rattle.std.specs.Prelude.{IsSome}

-- a mount that has ended has the refusal of the metadata
ended_answer : (phase : MountPhase) (begun next : DiskState) (e : RecoverError) → IsMounting phase begun next → HasMountEnded phase e → metadata_on begun ≡ Err e
ended_answer (Recovering j) begun next e known ended = absurd ended
ended_answer (Reading (ReadHome h)) begun next e known ended = absurd ended
ended_answer (Reading (ReadMap m)) begun next e known ended = absurd ended
ended_answer (Reading (Finish w)) begun next e known ended = absurd ended
ended_answer (Reading (Refused r)) begun next e known ended = known.rest ∙ ap (λ (x : RecoverError). let y : Result Metadata RecoverError = Err x in y) ended
ended_answer (Ready ready) begun next e known ended = absurd ended

-- one that is at its end shows the metadata
ready_answer : (phase : MountPhase) (begun next : DiskState) → IsMounting phase begun next → IsSome (ready_view phase) → ShowsMetadata phase begun
ready_answer (Recovering j) begun next known some = absurd (cc some)
ready_answer (Reading stage) begun next known some = absurd (cc some)
ready_answer (Ready ready) begun next known some = record { view = ready.view; ready = refl; metadata = known.metadata }

pub mount-answers : (old phase : MountPhase) (begun next : DiskState) (result : Result Ahead RecoverError) → IsMounting phase begun next → IfOk result (λ a. IsAheadOfMount a phase) → IfErr result (MountStandsAfter old phase) → AnswersMount begun phase result
mount-answers old phase begun next (Ok More) known ahead stands = tt
mount-answers old phase begun next (Ok AllDone) known ahead stands = ready_answer phase begun next known ahead
mount-answers old phase begun next (Err (NotAStore place)) known ahead stands = ended_answer phase begun next (NotAStore place) known stands
mount-answers old phase begun next (Err (Damaged place kept found)) known ahead stands = ended_answer phase begun next (Damaged place kept found) known stands
mount-answers old phase begun next (Err (Unfit place why)) known ahead stands = ended_answer phase begun next (Unfit place why) known stands
mount-answers old phase begun next (Err Rebuilding) known ahead stands = ended_answer phase begun next Rebuilding known stands
mount-answers old phase begun next (Err DiskFault) known ahead stands = tt
mount-answers old phase begun next (Err Memory) known ahead stands = tt
