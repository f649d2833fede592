-- What is loaded of a log, and what its bytes mean.
use Rattle.std.specs.Prelude.{◌≡◌, ◌⊎◌, ℕ, ◌+◌, ◌-◌, ◌<◌, ◌≤◌, min, Bool, true, false, List, [], length, take, drop, Option, Some, None, unwrap_or, Result, Ok, Err}
use Rattle.std.specs.Coded.{Coded, Coded-set, coded_option}
use Rattle.std.proofs.Props.{props}
use Rattle.vb_cause.specs.Faults.{counted, greatest_count, HasRisen}
use Rattle.vb_cloud.specs.Machine.{CloudState}
use Rattle.vb_link.specs.Views.{LinkView, view_of}
use Rattle.vb_link.specs.declared.link_error.LinkError.{LinkError}
use Rattle.vb_link.specs.declared.link_error.LinkError.TheVariants as link
use Rattle.vb_cloudlog.specs.declared.log_refusal.LogRefusal.{LogRefusal}
use Rattle.vb_cloudlog.specs.declared.log_refusal.LogRefusal.TheVariants.{BadFrame, OutOfOrder, LogFault, Memory}
use Rattle.vb_cloudlog.specs.declared.stop.Stop.{Stop}
use Rattle.vb_cloudlog.specs.declared.stop.Stop.TheVariants as stop
use Rattle.vb_cloudlog.specs.Replays.{ReplayState, replay_of, fed}

-- the refusal of a log at which its reader stops
abbrev pub refusal_of : Stop → LogRefusal
refusal_of (stop.BadFrame at) = BadFrame at
refusal_of (stop.OutOfOrder at refusal) = OutOfOrder at refusal

-- a cloud, and none where the reader stopped
abbrev pub cloud_unless : Option Stop → CloudState → Option CloudState
cloud_unless None k = Some k
cloud_unless (Some stop) k = None

-- the cloud after the frames of a log, where all of them are taken
abbrev pub cloud_in : List ℕ → Option CloudState
cloud_in bytes = cloud_unless (replay_of bytes).stop (replay_of bytes).cloud

-- the frames of a log, without less than a frame at its end
abbrev pub frames_part : List ℕ → List ℕ
frames_part bytes = take (length bytes - length (replay_of bytes).rest) bytes

-- the cloud that a log tells: that after its frames, where it tells its bytes and all are taken
abbrev pub told_by : Option (List ℕ) → Option CloudState
told_by None = None
told_by (Some bytes) = cloud_in bytes

-- the view that is shown: none while the load is due, else that of the told cloud, or of the loaded one
abbrev pub shown_by : Bool → Option CloudState → CloudState → Option LinkView
shown_by false told k = None
shown_by true told k = Some (view_of (unwrap_or told k))

-- the faults of a log and further ones, added up, at most the greatest count
abbrev pub added_faults : ℕ → ℕ → ℕ
added_faults log own = min (log + own) greatest_count

-- the loaded cloud is the one after the frames of the log, behind which nothing stands
abbrev pub IsHeld : Option (List ℕ) → Bool → CloudState → Type 0
IsHeld told loaded k = (all : List ℕ) → told ≡ Some all → loaded ≡ true → (cloud_in all ≡ Some k) × ((replay_of all).rest ≡ [])

-- a log was read to its end, or up to the first frame that is wrong or refused
abbrev pub ReadsTo : List ℕ → Result ReplayState LogRefusal → Type 0
ReadsTo all (Ok replay) = (replay ≡ replay_of all) × (length all ≤ greatest_count)
ReadsTo all (Err (BadFrame at)) = (replay_of all).stop ≡ Some (stop.BadFrame at)
ReadsTo all (Err (OutOfOrder at refusal)) = (replay_of all).stop ≡ Some (stop.OutOfOrder at refusal)
ReadsTo all (Err LogFault) = Unit {0}
ReadsTo all (Err Memory) = Unit {0}

-- a piece of a log was read from a place on and fed to a reader; some bytes where there are any
abbrev pub ReadsPiece : List ℕ → ℕ → ReplayState → ReplayState → Result ℕ LogRefusal → Type 0
ReadsPiece all at before after (Ok n) = (after ≡ fed before (take n (drop at all))) × (at < length all → 0 < n)
ReadsPiece all at before after (Err (BadFrame place)) = (fed before (drop at all)).stop ≡ Some (stop.BadFrame place)
ReadsPiece all at before after (Err (OutOfOrder place refusal)) = (fed before (drop at all)).stop ≡ Some (stop.OutOfOrder place refusal)
ReadsPiece all at before after (Err LogFault) = Unit {0}
ReadsPiece all at before after (Err Memory) = Unit {0}

-- what stands behind the frames of a log that was read is cut away, or nothing stood there; or the log stays, and it failed
-- or found no memory
abbrev pub CutsRest : ReplayState → List ℕ → Option (List ℕ) → Result (Unit {0}) LogRefusal → Type 0
CutsRest replay all told (Ok done) = (told ≡ Some (take replay.place all)) ⊎ ((replay.rest ≡ []) × (told ≡ Some all))
CutsRest replay all told (Err LogFault) = told ≡ Some all
CutsRest replay all told (Err Memory) = told ≡ Some all
CutsRest replay all told (Err refusal) = ⊥

-- the cloud after the frames of a log is loaded, and the rest behind them is cut away; or the log stays, and the refusal
-- names the first frame that is wrong or refused
abbrev pub LoadsFrom : List ℕ → Option (List ℕ) → Result CloudState LogRefusal → Type 0
LoadsFrom all told (Ok k) = (cloud_in all ≡ Some k) × (told ≡ Some (frames_part all)) × (cloud_in (frames_part all) ≡ Some k) × ((replay_of (frames_part all)).rest ≡ [])
LoadsFrom all told (Err (BadFrame at)) = ((replay_of all).stop ≡ Some (stop.BadFrame at)) × (told ≡ Some all)
LoadsFrom all told (Err (OutOfOrder at refusal)) = ((replay_of all).stop ≡ Some (stop.OutOfOrder at refusal)) × (told ≡ Some all)
LoadsFrom all told (Err LogFault) = told ≡ Some all
LoadsFrom all told (Err Memory) = told ≡ Some all

-- the same of a log and the cloud that is held
abbrev pub LoadsLog : List ℕ → Option (List ℕ) → CloudState → Result (Unit {0}) LogRefusal → Type 0
LoadsLog all told k (Ok done) = LoadsFrom all told (Ok k)
LoadsLog all told k (Err refusal) = LoadsFrom all told (Err refusal)

-- whether a cloud is loaded after a load: a fault and a refusal make the next call load anew, and want of memory leaves it
abbrev pub is_loaded_after : {T : Type 0} → Result T LogRefusal → Bool → Bool
is_loaded_after (Ok x) loaded = true
is_loaded_after (Err (BadFrame at)) loaded = false
is_loaded_after (Err (OutOfOrder at refusal)) loaded = false
is_loaded_after (Err LogFault) loaded = false
is_loaded_after (Err Memory) loaded = loaded

-- the own faults after a load: one more where the log has a frame that is wrong or refused
abbrev pub own_after : {T : Type 0} → Result T LogRefusal → ℕ → ℕ
own_after (Ok x) n = n
own_after (Err (BadFrame at)) n = counted n
own_after (Err (OutOfOrder at refusal)) n = counted n
own_after (Err LogFault) n = n
own_after (Err Memory) n = n

-- the own faults after a call: one more where it was refused; where it failed, the log failed, or they are one more
abbrev pub CountsOwn : {T : Type 0} → Result T LinkError → ℕ → ℕ → ℕ → ℕ → Type 0
CountsOwn (Ok x) log log' own own' = own' ≡ own
CountsOwn (Err (link.Refused refusal)) log log' own own' = own' ≡ counted own
CountsOwn (Err link.Failed) log log' own own' = (own' ≡ counted own) ⊎ (HasRisen log log' × (own' ≡ own))
CountsOwn (Err link.Memory) log log' own own' = own' ≡ own

-- the facts of a loaded cloud have at most one proof
pub IsHeld-prop : (told : Option (List ℕ)) (loaded : Bool) (k : CloudState) → Coded CloudState → IsProp (IsHeld told loaded k)
IsHeld-prop told loaded k code x y = λ i all is on.
    let over : IsProp ((replay_of all).rest ≡ []) = hlevel props in
    (Coded-set (coded_option code) (cloud_in all) (Some k) (x all is on).0 (y all is on).0 i, over (x all is on).1 (y all is on).1 i)
