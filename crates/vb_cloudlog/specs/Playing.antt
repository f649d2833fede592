-- What comes of the first frame of some bytes.
use Rattle.std.specs.Prelude.{◌≡◌, ℕ, ◌≤◌, List, length, drop, ◌++◌, Ok}
use Rattle.vb_msg.specs.declared.message.Msg.{Msg}
use Rattle.vb_msg.specs.Frames.{frame}
use Rattle.vb_cloud.specs.Machine.{CloudState, cloud_step}
use Rattle.vb_cloudlog.specs.declared.play.Played.{Played}
use Rattle.vb_cloudlog.specs.declared.play.Played.TheVariants.{Taken, Kept, Stopped, NoMemory}
use Rattle.vb_cloudlog.specs.Messages.{Partial, opening_of}
use Rattle.vb_cloudlog.specs.Replays.{all_taken, stopped_at}

-- from a cloud at a place, some bytes and what was played of them: the frame of a message that the cloud took; less than a
-- frame; what stops a reader; or nothing, for want of memory
abbrev pub Plays : CloudState → ℕ → List ℕ → CloudState → Played → Type 0
Plays k place bytes after (Taken len) = (m : Msg) × (len ≡ length (frame m)) × (len ≤ length bytes) × (bytes ≡ frame m ++ drop len bytes) × (cloud_step k m ≡ Ok after)
Plays k place bytes after Kept = (opening_of bytes ≡ Partial) × (after ≡ k)
Plays k place bytes after (Stopped stop) = (all_taken k place bytes ≡ stopped_at k place stop) × (after ≡ k)
Plays k place bytes after NoMemory = after ≡ k
