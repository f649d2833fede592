-- What the readers of a frame's parts answer.
use Rattle.std.specs.Prelude.{◌≡◌, ◌≢◌, ℕ, List, ◌++◌, ◌==◌, if◌then◌else◌, Option, Some, None, Result, Ok, Err}
use Rattle.vb_path.specs.Paths.{text_of_path}
use Rattle.vb_tree.specs.declared.tree.Kind.{Kind}
use Rattle.vb_tree.specs.declared.tree.Kind.TheVariants.{Folder, File}
use Rattle.vb_msg.specs.declared.message.Msg.{Msg}
use Rattle.vb_msg.specs.declared.ranges.Epoch.{Epoch}
use Rattle.vb_msg.specs.declared.ranges.EntryPath.{EntryPath}
use Rattle.vb_msg.specs.declared.frame_error.FrameError.{FrameError}
use Rattle.vb_msg.specs.declared.frame_error.FrameError.TheVariants.{BadFrame, Short, Memory}
use Rattle.vb_block.specs.Numbers.{eight_bytes}
use Rattle.vb_msg.specs.Frames.{body_of, number_of, path_bytes}

-- the answer is the message of this number and body; BadFrame where there is none
abbrev pub Understands : ℕ → List ℕ → Result Msg FrameError → Type 0
Understands number body (Ok m) = (number_of m ≡ number) × (body_of m ≡ body)
Understands number body (Err BadFrame) = (m : Msg) → number_of m ≡ number → body_of m ≢ body
Understands number body (Err Short) = ⊥
Understands number body (Err Memory) = Unit {0}

-- the answer is the epoch that these bytes spell, where there is one
abbrev pub IsEpochOf : List ℕ → Option Epoch → Type 0
IsEpochOf body (Some epoch) = eight_bytes epoch.number ≡ body
IsEpochOf body None = (epoch : Epoch) → eight_bytes epoch.number ≢ body

-- the kind of this number
abbrev pub kind_from : ℕ → Option Kind
kind_from number = if number == 1 then Some Folder else (if number == 2 then Some File else None)

-- the answer is the path of this text, where it is one other than the root's; BadFrame where it isn't
abbrev pub ReadsPath : List ℕ → Result EntryPath FrameError → Type 0
ReadsPath text (Ok entry) = text_of_path entry.path ≡ text
ReadsPath text (Err BadFrame) = (entry : EntryPath) → text_of_path entry.path ≢ text
ReadsPath text (Err Short) = ⊥
ReadsPath text (Err Memory) = Unit {0}

-- the answer is the path that begins these bytes, and what follows it; BadFrame where none does
abbrev pub TakesPath : {R : Type 0} → (R → List ℕ) → List ℕ → Result (EntryPath × R) FrameError → Type 0
TakesPath bytes_of bytes (Ok taken) = bytes ≡ path_bytes taken.0.path ++ bytes_of taken.1
TakesPath bytes_of bytes (Err BadFrame) = (entry : EntryPath) (rest : List ℕ) → bytes ≢ path_bytes entry.path ++ rest
TakesPath bytes_of bytes (Err Short) = ⊥
TakesPath bytes_of bytes (Err Memory) = Unit {0}
