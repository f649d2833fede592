-- The cloud after the frames of a log, which is fed to a reader in pieces.
use Rattle.std.specs.Prelude.{◌≡◌, ℕ, zero, suc, ◌+◌, min, List, [], ◌++◌, length, drop, Option, Some, None, Result, Ok, Err}
use Rattle.vb_cause.specs.Faults.{greatest_count}
use Rattle.vb_msg.specs.Frames.{frame}
use Rattle.vb_cloud.specs.declared.refusal.CloudRefusal.{CloudRefusal}
use Rattle.vb_cloud.specs.Machine.{CloudState, new_cloud, cloud_step}
use Rattle.vb_cloud.specs.Valid.{IsCloudState}
use Rattle.vb_cloudlog.specs.declared.stop.Stop.{Stop}
use Rattle.vb_cloudlog.specs.declared.stop.Stop.TheVariants.{BadFrame, OutOfOrder}
use Rattle.vb_cloudlog.specs.Messages.{Opening, Whole, Partial, Wrong, opening_of}

-- a reader of a log: the cloud after the frames that were taken, how many bytes those have, at most 2^64 - 1, the bytes
-- behind them that are less than a frame, and why no more is taken, if anything
pub record ReplayState : Type 0 where
  pub cloud : CloudState
  pub place : ℕ
  pub rest : List ℕ
  pub stop : Option Stop

-- a reader that was fed nothing
abbrev pub new_replay : ReplayState
new_replay = record { cloud = new_cloud; place = 0; rest = []; stop = None }

-- a place, so many bytes further on
abbrev pub moved : ℕ → ℕ → ℕ
moved place n = min (place + n) greatest_count

-- a reader that stops at its place
abbrev pub stopped_at : CloudState → ℕ → Stop → ReplayState
stopped_at k place stop = record { cloud = k; place = place; rest = []; stop = Some stop }

-- a message is taken, and what comes next comes, or it is refused
abbrev pub step_taken : (CloudState → ReplayState) → CloudState → ℕ → Result CloudState CloudRefusal → ReplayState
step_taken next k place (Ok after) = next after
step_taken next k place (Err refusal) = stopped_at k place (OutOfOrder place refusal)

-- what begins the bytes is taken, and what comes next behind it comes; or it is kept for later; or it stops the reader
abbrev pub opening_taken : (ℕ → CloudState → ReplayState) → CloudState → ℕ → List ℕ → Opening → ReplayState
opening_taken next k place bytes (Whole m) = step_taken (next (length (frame m))) k place (cloud_step k m)
opening_taken next k place bytes Partial = record { cloud = k; place = place; rest = bytes; stop = None }
opening_taken next k place bytes Wrong = stopped_at k place (BadFrame place)

-- from a cloud at a place, so many frames of some bytes at most: each message is taken in order, and the first frame that
-- is wrong or refused ends the reading there
abbrev pub frames_taken : ℕ → CloudState → ℕ → List ℕ → ReplayState
frames_taken zero k place bytes = record { cloud = k; place = place; rest = bytes; stop = None }
frames_taken (suc n) k place bytes =
    opening_taken (λ len after. frames_taken n after (moved place len) (drop len bytes)) k place bytes (opening_of bytes)

-- from a cloud at a place, all frames of some bytes: there are at most as many as bytes
unfoldable pub all_taken : CloudState → ℕ → List ℕ → ReplayState
all_taken k place bytes = frames_taken (length bytes) k place bytes

-- a reader after more bytes; one that stopped stays
abbrev pub fed_to : ReplayState → Option Stop → List ℕ → ReplayState
fed_to r None bytes = all_taken r.cloud r.place (r.rest ++ bytes)
fed_to r (Some stop) bytes = r

-- a reader after more bytes
abbrev pub fed : ReplayState → List ℕ → ReplayState
fed r bytes = fed_to r r.stop bytes

-- what is kept of a reader: a cloud that messages can leave, and less than a frame
pub record IsReplay (k : CloudState) (rest : List ℕ) : Type 0 where
  pub sound : IsCloudState k
  pub partial : opening_of rest ≡ Partial

-- a reader after the bytes of a whole log
abbrev pub replay_of : List ℕ → ReplayState
replay_of bytes = fed new_replay bytes
