-- Frames: the one spelling of each message in bytes, and what the front of some bytes is.
use Rattle.std.specs.Prelude.{◌≡◌, ◌≢◌, ℕ, ◌+◌, ◌⊎◌, Bool, false, not, ◌&&◌, ◌||◌, ◌==◌, nat_lt, nat_le, if◌then◌else◌, List, [], ◌∷◌, ◌++◌, length, take, get_or, Result, Ok, Err}
use Rattle.std.specs.List.{flat_map}
use Rattle.byteorder.specs.Endian.{little_number}
use Rattle.sha2.specs.Sha256.{sha256}
use Rattle.vb_block.specs.Numbers.{two_bytes, four_bytes, eight_bytes}
use Rattle.vb_path.specs.Paths.{text_of_path}
use Rattle.vb_tree.specs.declared.tree.Kind.{Kind}
use Rattle.vb_tree.specs.declared.tree.Kind.TheVariants.{Folder, File}
use Rattle.vb_msg.specs.declared.message.Msg.{Msg}
use Rattle.vb_msg.specs.declared.message.Msg.TheVariants.{Claim, Begin, Object, Part, Seal, Enter, Keep, Publish}
use Rattle.vb_msg.specs.declared.frame_error.FrameError.{FrameError}
use Rattle.vb_msg.specs.declared.frame_error.FrameError.TheVariants.{BadFrame, Short, Memory}

-- ---- writing

-- the number of a kind of entry
abbrev pub number_of_kind : Kind → ℕ
number_of_kind Folder = 1
number_of_kind File = 2

-- a path: the length of its text, and the text
unfoldable pub path_bytes : List (List ℕ) → List ℕ
path_bytes path = two_bytes (length (text_of_path path)) ++ text_of_path path

-- the number of a message
abbrev pub number_of : Msg → ℕ
number_of (Claim id) = 0
number_of (Begin epoch) = 1
number_of Object = 2
number_of (Part bytes) = 3
number_of Seal = 4
number_of (Enter path kind) = 5
number_of (Keep path origin) = 6
number_of (Publish epoch) = 7

-- the body of a message
abbrev pub body_of : Msg → List ℕ
body_of (Claim id) = id.id
body_of (Begin epoch) = eight_bytes epoch.number
body_of Object = []
body_of (Part bytes) = bytes.bytes
body_of Seal = []
body_of (Enter path kind) = number_of_kind kind ∷ path_bytes path.path
body_of (Keep path origin) = path_bytes path.path ++ path_bytes origin.path
body_of (Publish epoch) = eight_bytes epoch.number

-- what a frame's digest covers: the length of the body, the number and the body
abbrev pub covered : ℕ → List ℕ → List ℕ
covered number body = four_bytes (length body) ++ number ∷ body

-- the frame of a number and a body: these, and their SHA-256
abbrev pub frame_in : ℕ → List ℕ → List ℕ
frame_in number body = covered number body ++ sha256 (covered number body)

-- the one frame of a message
abbrev pub frame : Msg → List ℕ
frame m = frame_in (number_of m) (body_of m)

-- ---- reading

-- whether a body of this number may have this length
abbrev pub has_length : ℕ → ℕ → Bool
has_length number len =
    if number == 0 then len == 16 else
    (if number == 1 then len == 8 else
    (if number == 2 then len == 0 else
    (if number == 3 then nat_le 1 len && nat_le len 4096 else
    (if number == 4 then len == 0 else
    (if number == 5 then nat_le 5 len && nat_le len 1027 else
    (if number == 6 then nat_le 8 len && nat_le len 2052 else
    (if number == 7 then len == 8 else false)))))))

-- the length of the body, in the first four bytes
unfoldable pub body_length : List ℕ → ℕ
body_length bytes = little_number 4 bytes

-- the number of the message, in the fifth byte
abbrev pub number_in : List ℕ → ℕ
number_in bytes = get_or bytes 4 0

-- the length of the body of the frame that begins some bytes, by their first five bytes and how many follow: BadFrame
-- where no frame begins so, Short where more bytes are wanted
abbrev pub front_of : List ℕ → Result ℕ FrameError
front_of bytes =
    if nat_lt (length bytes) 4 then Err Short else
    (if nat_lt 4096 (body_length bytes) then Err BadFrame else
    (if nat_lt (length bytes) 5 then Err Short else
    (if not (has_length (number_in bytes) (body_length bytes)) then Err BadFrame else
    (if nat_lt (length bytes) (body_length bytes + 37) then Err Short else Ok (body_length bytes)))))

-- the answer is the message whose frame the bytes begin with, and the frame's length; Short where more bytes are
-- wanted; BadFrame where no frame begins so, or all its bytes are there and they are the frame of no message
abbrev pub DecodesTo : List ℕ → Result (Msg × ℕ) FrameError → Type 0
DecodesTo bytes (Ok found) = (found.1 ≡ length (frame found.0)) × (take found.1 bytes ≡ frame found.0)
DecodesTo bytes (Err BadFrame) =
    (front_of bytes ≡ Err BadFrame) ⊎ ((len : ℕ) × (front_of bytes ≡ Ok len) × ((m : Msg) → take (len + 37) bytes ≢ frame m))
DecodesTo bytes (Err Short) = front_of bytes ≡ Err Short
DecodesTo bytes (Err Memory) = Unit {0}

-- the answer is what is due, unless memory ran out
abbrev pub IsUnlessMemory : {A : Type 0} → Result A FrameError → Result A FrameError → Type 0
IsUnlessMemory due (Ok found) = due ≡ Ok found
IsUnlessMemory due (Err BadFrame) = due ≡ Err BadFrame
IsUnlessMemory due (Err Short) = due ≡ Err Short
IsUnlessMemory due (Err Memory) = Unit {0}

-- ---- streams of frames

-- the frames of messages, one after the other
abbrev pub frames_of : List Msg → List ℕ
frames_of messages = flat_map frame messages

-- some bytes are the frames of these messages, and then a rest that begins with no frame
pub record AreFrames (bytes : List ℕ) (messages : List Msg) (rest : List ℕ) : Type 0 where
  pub whole : bytes ≡ frames_of messages ++ rest
  pub no_more : (m : Msg) (more : List ℕ) → rest ≢ frame m ++ more

-- what follows the whole frames of some bytes: nothing, less than a frame, or what is no frame
pub data Ending : Type 0 where
  Over : Ending
  Cut : Ending
  Wrong : Ending

-- what a front means where no frame begins so
abbrev pub ending_at : Result ℕ FrameError → Ending
ending_at (Err Short) = Cut
ending_at (Err BadFrame) = Wrong
ending_at (Err Memory) = Wrong
ending_at (Ok len) = Wrong

-- what a rest is that begins with no frame
abbrev pub ending_of : List ℕ → Ending
ending_of [] = Over
ending_of (b ∷ bs) = ending_at (front_of (b ∷ bs))
