-- Reads of homes and map pages, and what comes at their end.
use Rattle.std.specs.Prelude.{◌≡◌, ℕ, ◌+◌, List, length, Result, Ok, Err}
use Rattle.vb_journal.specs.declared.recover.Ahead.{Ahead}
use Rattle.vb_journal.specs.declared.recover.Ahead.TheVariants.{More, Ready as AllDone}
use Rattle.vb_journal.specs.declared.recover_error.RecoverError.{RecoverError}
use Rattle.vb_journal.specs.declared.recover_error.RecoverError.TheVariants.{Memory}
use Rattle.vb_store.specs.declared.mount_parts.Whole.{Whole}
use Rattle.vb_store.specs.declared.mount_phase.MountPhase.{MountPhase}
use Rattle.vb_store.specs.declared.mount_phase.MountPhase.TheVariants.{Recovering, Reading, Ready}
use Rattle.vb_store.specs.declared.mount_stage.MountStage.{MountStage}
use Rattle.vb_store.specs.declared.mount_stage.MountStage.TheVariants.{ReadHome, ReadMap, Finish, Refused}
use Rattle.vb_store.specs.MountLists.{ComesAfter, ReadsFirst}

-- a step made the read that was due, the first of those that were left; after a refusal none is left, and it stands
abbrev pub ReadsOn : (ℕ → List ℕ) → MountStage → MountStage → Result (Unit {0}) RecoverError → Type 0
ReadsOn reads (ReadHome h) after answer = ReadsFirst reads (2 + length h.nodes) (ReadHome h) after answer
ReadsOn reads (ReadMap m) after answer = ReadsFirst reads m.map.reference.place (ReadMap m) after answer
ReadsOn reads (Finish w) after answer = ReadsFirst reads w.place (Finish w) after answer
ReadsOn reads (Refused r) after answer = after ≡ Refused r

-- the stage comes after that read
abbrev pub FollowsRead : MountStage → MountStage → Type 0
FollowsRead (ReadHome h) after = ComesAfter (2 + length h.nodes) after
FollowsRead (ReadMap m) after = ComesAfter m.map.reference.place after
FollowsRead (Finish w) after = ComesAfter w.place after
FollowsRead (Refused r) after = ⊥

-- the same head, index and place
abbrev pub IsLikeWhole : Whole → MountStage → Type 0
IsLikeWhole w (ReadHome h) = ⊥
IsLikeWhole w (ReadMap m) = ⊥
IsLikeWhole w (Finish v) = (v.head ≡ w.head) × (v.index ≡ w.index) × (v.place ≡ w.place)
IsLikeWhole w (Refused r) = ⊥

-- the store is mounted with its head and its index, unless there was no memory for its view
abbrev pub IsClosed : Whole → MountPhase → Result Ahead RecoverError → Type 0
IsClosed w (Recovering j) result = ⊥
IsClosed w (Reading stage) result = IsLikeWhole w stage × (result ≡ Err Memory)
IsClosed w (Ready ready) result = (ready.view.head ≡ w.head) × (ready.view.index ≡ w.index) × (result ≡ Ok AllDone)

-- after a read that answered Ok the stage goes on, but at its end
abbrev pub ClosesAfter : MountStage → MountPhase → Result Ahead RecoverError → Type 0
ClosesAfter (ReadHome h) phase result = (phase ≡ Reading (ReadHome h)) × (result ≡ Ok More)
ClosesAfter (ReadMap m) phase result = (phase ≡ Reading (ReadMap m)) × (result ≡ Ok More)
ClosesAfter (Finish w) phase result = IsClosed w phase result
ClosesAfter (Refused r) phase result = (phase ≡ Reading (Refused r)) × (result ≡ Err r.error)

-- so after each answer of a read
abbrev pub Closes : MountStage → Result (Unit {0}) RecoverError → MountPhase → Result Ahead RecoverError → Type 0
Closes stage (Ok done) phase result = ClosesAfter stage phase result
Closes stage (Err error) phase result = (phase ≡ Reading stage) × (result ≡ Err error)
