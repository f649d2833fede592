-- What the reads of homes and map pages leave, and what comes at their end.
use Rattle.std.proofs.Common.{◌≡◌, ℕ, ◌+◌, List, [], ◌∷◌, length, Option, Some, None, Result, Ok, Err, OnOk, IfErr, refl, sym, ap, subst, ◌∙◌}
use Rattle.std.specs.Option.{option_map}
use Rattle.vb_disk.specs.States.{DiskState, read_at}
use Rattle.vb_journal.specs.declared.recover.Ahead.{Ahead}
use Rattle.vb_journal.specs.declared.recover.Ahead.TheVariants.{More, Ready as AllDone}
use Rattle.vb_journal.specs.declared.recover_error.RecoverError.{RecoverError}
use Rattle.vb_journal.specs.declared.recover_error.RecoverError.TheVariants.{NotAStore, Damaged, Unfit, Rebuilding, DiskFault, Memory}
use Rattle.vb_journal.specs.Recovering.{MakesCall, ReadPlace, RecoverCall}
use Rattle.vb_store.specs.declared.mount_parts.Whole.{Whole}
use Rattle.vb_store.specs.declared.mount_phase.MountPhase.{MountPhase}
use Rattle.vb_store.specs.declared.mount_phase.MountPhase.TheVariants.{Recovering, Reading, Ready}
use Rattle.vb_store.specs.declared.mount_stage.MountStage.{MountStage}
use Rattle.vb_store.specs.declared.mount_stage.MountStage.TheVariants.{ReadHome, ReadMap, Finish, Refused}
use Rattle.vb_store.specs.MountLists.{ComesAfter, ReadsFirst, places_due}
use Rattle.vb_store.specs.MountStages.{StandsAfter, due_place}
use Rattle.vb_store.specs.Mounts.{MakesNext, MountStandsAfter, due_of_mount, mount_calls_left, place_reads}
use Rattle.vb_store.specs.Readings.{Closes, FollowsRead, IsClosed, IsLikeWhole, ReadsOn}

-- ---- the call

-- a read leaves the disk
pub reading-calls : {T : Type 0} (stage : MountStage) (old new : Option DiskState) (result : Result T RecoverError) → new ≡ old → MakesCall (option_map ReadPlace (due_place stage)) old new result
reading-calls (ReadHome h) old new result same = same
reading-calls (ReadMap m) old new result same = same
reading-calls (Finish w) old new result same = same
reading-calls (Refused r) old new result same = same

-- no refusal follows a read
pub no_refusal : {A : Type 0} (stage : MountStage) (after : MountStage) → ((place : ℕ) → ComesAfter place after → A) → FollowsRead stage after → A
no_refusal (ReadHome h) after use_it follows = use_it (2 + length h.nodes) follows
no_refusal (ReadMap m) after use_it follows = use_it m.map.reference.place follows
no_refusal (Finish w) after use_it follows = use_it w.place follows
no_refusal (Refused r) after use_it follows = absurd follows

-- ---- errors

-- where an error leaves the mount
stands-reading : (stage after : MountStage) (e : RecoverError) → StandsAfter stage after e → MountStandsAfter (Reading stage) (Reading after) e
stands-reading stage after (NotAStore place) is = is
stands-reading stage after (Damaged place kept found) is = is
stands-reading stage after (Unfit place why) is = is
stands-reading stage after Rebuilding is = is
stands-reading stage after DiskFault is = ap (option_map ReadPlace) is
stands-reading stage after Memory is = ap (option_map ReadPlace) is

error-at : (stage : MountStage) (phase at : MountPhase) (result : Result Ahead RecoverError) (e : RecoverError) → phase ≡ at → result ≡ Err e → MountStandsAfter (Reading stage) at e → IfErr result (MountStandsAfter (Reading stage) phase)
error-at stage phase at result e is err holds =
    subst (λ (r : Result Ahead RecoverError). IfErr r (MountStandsAfter (Reading stage) phase)) (sym err) (subst (λ (p : MountPhase). MountStandsAfter (Reading stage) p e) (sym is) holds)

ok-error : (stage : MountStage) (phase : MountPhase) (result : Result Ahead RecoverError) (x : Ahead) → result ≡ Ok x → IfErr result (MountStandsAfter (Reading stage) phase)
ok-error stage phase result x ok = subst (λ (r : Result Ahead RecoverError). IfErr r (MountStandsAfter (Reading stage) phase)) (sym ok) tt

-- the same read is due again
due-again : (stage after : MountStage) (w : Whole) → IsLikeWhole w after → FollowsRead stage (Finish w) → due_of_mount (Reading after) ≡ due_of_mount (Reading stage)
due-again stage (ReadHome h) w like follows = absurd like
due-again stage (ReadMap m) w like follows = absurd like
due-again (ReadHome h) (Finish v) w like follows = ap (λ (p : ℕ). Some (ReadPlace p)) (like.2 ∙ follows)
due-again (ReadMap m) (Finish v) w like follows = ap (λ (p : ℕ). Some (ReadPlace p)) (like.2 ∙ follows)
due-again (Finish x) (Finish v) w like follows = ap (λ (p : ℕ). Some (ReadPlace p)) (like.2 ∙ follows)
due-again (Refused r) (Finish v) w like follows = absurd follows
due-again stage (Refused r) w like follows = absurd like

closed-error : (stage : MountStage) (w : Whole) (phase : MountPhase) (result : Result Ahead RecoverError) → IsClosed w phase result → FollowsRead stage (Finish w) → IfErr result (MountStandsAfter (Reading stage) phase)
closed-error stage w (Recovering j) result is follows = absurd is
closed-error stage w (Reading after) result is follows = error-at stage (Reading after) (Reading after) result Memory refl is.1 (due-again stage after w is.0 follows)
closed-error stage w (Ready ready) result is follows = ok-error stage (Ready ready) result AllDone is.2

pub reading-error : (stage after : MountStage) (answer : Result (Unit {0}) RecoverError) (phase : MountPhase) (result : Result Ahead RecoverError) → Closes after answer phase result → OnOk answer (FollowsRead stage after) → IfErr answer (StandsAfter stage after) → IfErr result (MountStandsAfter (Reading stage) phase)
reading-error stage (ReadHome h) (Ok done) phase result is follows stands = ok-error stage phase result More is.1
reading-error stage (ReadMap m) (Ok done) phase result is follows stands = ok-error stage phase result More is.1
reading-error stage (Finish w) (Ok done) phase result is follows stands = closed-error stage w phase result is follows
reading-error stage (Refused r) (Ok done) phase result is follows stands = no_refusal stage (Refused r) (λ place none. absurd none) follows
reading-error stage after (Err e) phase result is follows stands = error-at stage phase (Reading after) result e is.0 is.1 (stands-reading stage after e stands)

-- ---- the list

-- what makes the next call by the phase after it
next-at : (due : Option RecoverCall) (old : List RecoverCall) (begun d : DiskState) (phase at : MountPhase) (result is_result : Result Ahead RecoverError) → phase ≡ at → result ≡ is_result → MakesNext due old (mount_calls_left at begun d) is_result → MakesNext due old (mount_calls_left phase begun d) result
next-at due old begun d phase at result is_result is same holds =
    subst (λ (r : Result Ahead RecoverError). MakesNext due old (mount_calls_left phase begun d) r) (sym same) (subst (λ (p : MountPhase). MakesNext due old (mount_calls_left p begun d) is_result) (sym is) holds)

-- the first of some places was read
abbrev reads_of_disk : DiskState → ℕ → List ℕ
reads_of_disk d = λ place. read_at d place

first-read : (d : DiskState) (place : ℕ) (stage after : MountStage) → due_place stage ≡ Some place → places_due (reads_of_disk d) stage ≡ place ∷ places_due (reads_of_disk d) after → place_reads (places_due (reads_of_disk d) stage) ≡ ReadPlace place ∷ place_reads (places_due (reads_of_disk d) after)
first-read d place stage after due is = ap place_reads is

-- an error that is retried leaves all, and any other ends the mount
err-next : (d : DiskState) (place : ℕ) (due : Option RecoverCall) (stage after : MountStage) (e : RecoverError) → ReadsFirst {T = Unit {0}} (reads_of_disk d) place stage after (Err e) → MakesNext {T = Ahead} due (place_reads (places_due (reads_of_disk d) stage)) (place_reads (places_due (reads_of_disk d) after)) (Err e)
err-next d place due stage after (NotAStore at) is = tt
err-next d place due stage after (Damaged at kept found) is = tt
err-next d place due stage after (Unfit at why) is = tt
err-next d place due stage after Rebuilding is = tt
err-next d place due stage after DiskFault is = ap place_reads is
err-next d place due stage after Memory is = ap place_reads is

like-places : (d : DiskState) (w : Whole) (after : MountStage) → IsLikeWhole w after → places_due (reads_of_disk d) after ≡ w.place ∷ []
like-places d w (ReadHome h) like = absurd like
like-places d w (ReadMap m) like = absurd like
like-places d w (Finish v) like = ap (λ (p : ℕ). p ∷ []) like.2
like-places d w (Refused r) like = absurd like

closed-next : (begun d : DiskState) (place : ℕ) (old : List ℕ) (w : Whole) (phase : MountPhase) (result : Result Ahead RecoverError) → old ≡ place ∷ [] → w.place ≡ place → IsClosed w phase result → MakesNext (Some (ReadPlace place)) (place_reads old) (mount_calls_left phase begun d) result
closed-next begun d place old w (Recovering j) result last at is = absurd is
closed-next begun d place old w (Reading after) result last at is =
    next-at (Some (ReadPlace place)) (place_reads old) begun d (Reading after) (Reading after) result (Err Memory) refl is.1
    (ap place_reads (like-places d w after is.0 ∙ ap (λ (p : ℕ). p ∷ []) at ∙ sym last))
closed-next begun d place old w (Ready ready) result last at is =
    next-at (Some (ReadPlace place)) (place_reads old) begun d (Ready ready) (Ready ready) result (Ok AllDone) refl is.2 (ap place_reads last)

next-of : (begun d : DiskState) (place : ℕ) (stage after : MountStage) (answer : Result (Unit {0}) RecoverError) (phase : MountPhase) (result : Result Ahead RecoverError) → Closes after answer phase result → OnOk answer (ComesAfter place after) → ReadsFirst (reads_of_disk d) place stage after answer
    → MakesNext (Some (ReadPlace place)) (place_reads (places_due (reads_of_disk d) stage)) (mount_calls_left phase begun d) result
next-of begun d place stage (ReadHome h) (Ok done) phase result is follows first =
    next-at (Some (ReadPlace place)) (place_reads (places_due (reads_of_disk d) stage)) begun d phase (Reading (ReadHome h)) result (Ok More) is.0 is.1 (ap place_reads first)
next-of begun d place stage (ReadMap m) (Ok done) phase result is follows first =
    next-at (Some (ReadPlace place)) (place_reads (places_due (reads_of_disk d) stage)) begun d phase (Reading (ReadMap m)) result (Ok More) is.0 is.1 (ap place_reads first)
next-of begun d place stage (Finish w) (Ok done) phase result is follows first =
    closed-next begun d place (places_due (reads_of_disk d) stage) w phase result first follows is
next-of begun d place stage (Refused r) (Ok done) phase result is follows first = absurd follows
next-of begun d place stage after (Err e) phase result is follows first =
    next-at (Some (ReadPlace place)) (place_reads (places_due (reads_of_disk d) stage)) begun d phase (Reading after) result (Err e) is.0 is.1 (err-next d place (Some (ReadPlace place)) stage after e first)

-- where nothing is due, nothing is left
refused-next : (begun d : DiskState) (r after : MountStage) (e : RecoverError) (phase : MountPhase) (result : Result Ahead RecoverError) → phase ≡ Reading after → result ≡ Err e → after ≡ r → MakesNext {T = Ahead} None (place_reads (places_due (reads_of_disk d) r)) (place_reads (places_due (reads_of_disk d) r)) (Err e) → MakesNext None (place_reads (places_due (reads_of_disk d) r)) (mount_calls_left phase begun d) result
refused-next begun d r after e phase result is err same holds =
    next-at None (place_reads (places_due (reads_of_disk d) r)) begun d phase (Reading r) result (Err e) (is ∙ ap (λ (s : MountStage). Reading s) same) err holds

none-next : (calls : List RecoverCall) (e : RecoverError) → MakesNext {T = Ahead} None calls calls (Err e)
none-next calls (NotAStore at) = tt
none-next calls (Damaged at kept found) = tt
none-next calls (Unfit at why) = tt
none-next calls Rebuilding = tt
none-next calls DiskFault = refl
none-next calls Memory = refl

refused-list : (begun d : DiskState) (r after : MountStage) (answer : Result (Unit {0}) RecoverError) (phase : MountPhase) (result : Result Ahead RecoverError) → Closes after answer phase result → OnOk answer ⊥ → after ≡ r → MakesNext None (place_reads (places_due (reads_of_disk d) r)) (mount_calls_left phase begun d) result
refused-list begun d r after (Ok done) phase result is follows same = absurd follows
refused-list begun d r after (Err e) phase result is follows same = refused-next begun d r after e phase result is.0 is.1 same (none-next (place_reads (places_due (reads_of_disk d) r)) e)

pub reading-list : (begun d : DiskState) (stage after : MountStage) (answer : Result (Unit {0}) RecoverError) (phase : MountPhase) (result : Result Ahead RecoverError) → Closes after answer phase result → OnOk answer (FollowsRead stage after) → ReadsOn (reads_of_disk d) stage after answer
    → MakesNext (option_map ReadPlace (due_place stage)) (mount_calls_left (Reading stage) begun d) (mount_calls_left phase begun d) result
reading-list begun d (ReadHome h) after answer phase result is follows first = next-of begun d (2 + length h.nodes) (ReadHome h) after answer phase result is follows first
reading-list begun d (ReadMap m) after answer phase result is follows first = next-of begun d m.map.reference.place (ReadMap m) after answer phase result is follows first
reading-list begun d (Finish w) after answer phase result is follows first = next-of begun d w.place (Finish w) after answer phase result is follows first
reading-list begun d (Refused r) after answer phase result is follows first = refused-list begun d (Refused r) after answer phase result is follows first
