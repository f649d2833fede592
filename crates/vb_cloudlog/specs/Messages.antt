-- The message whose frame begins some bytes, as a function: what a log that tells its bytes means.
use Rattle.std.specs.Prelude.{◌≡◌, ℕ, ◌+◌, ◌-◌, ◌^◌, Bool, true, false, ◌==◌, nat_lt, nat_le, if◌then◌else◌, List, length, take, drop, get_or, Option, Some, None, option_map, option_and_then, Result, Ok, Err}
use Rattle.std.proofs.Common.{refl, ap, ◌∙◌}
use Rattle.std.proofs.lemmas.Bool.{eqb-true, leb-true, ltb-true}
use Rattle.std.specs.Str.{bytes_eq}
use Rattle.byteorder.specs.Endian.{little_number}
use Rattle.vb_path.specs.declared.path.PathError.{PathError}
use Rattle.vb_path.specs.Paths.{IsPath, path_of}
use Rattle.vb_tree.specs.Trees.{is_root}
use Rattle.vb_msg.specs.declared.frame_error.FrameError.{FrameError}
use Rattle.vb_msg.specs.declared.frame_error.FrameError.TheVariants.{BadFrame, Short, Memory}
use Rattle.vb_msg.specs.declared.message.Msg.{Msg}
use Rattle.vb_msg.specs.declared.message.Msg.TheVariants.{Claim, Begin, Object, Part, Seal, Enter, Keep, Publish}
use Rattle.vb_msg.specs.declared.ranges.CloudId.{CloudId}
use Rattle.vb_msg.specs.declared.ranges.EntryPath.{EntryPath}
use Rattle.vb_msg.specs.declared.ranges.Epoch.{Epoch}
use Rattle.vb_msg.specs.declared.ranges.PartBytes.{PartBytes}
use Rattle.vb_msg.specs.Bodies.{kind_from}
use Rattle.vb_msg.specs.Frames.{frame, front_of, number_in}
use Rattle.vb_msg.specs.Ranges.{are_zeros}
use Rattle.vb_msg.proofs.PathTexts.{text-again}

-- ---- the fields of a message, from their bytes

-- what is made where the test holds, by that it holds
abbrev pub where_true : {A : Type 0} (test : Bool) → (test ≡ true → Option A) → Option A
where_true true make = make refl
where_true false make = None

-- what is made where the test fails, by that it fails
abbrev pub where_false : {A : Type 0} (test : Bool) → (test ≡ false → Option A) → Option A
where_false true make = None
where_false false make = make refl

-- the epoch that these bytes spell, below 2^63
abbrev pub epoch_in : List ℕ → Option Epoch
epoch_in body = where_true (nat_lt (little_number 8 body) (2 ^ 63))
    (λ small. Some (record { number = little_number 8 body; small = ltb-true (little_number 8 body) (2 ^ 63) small }))

-- the id of 16 bytes, not all zeros
abbrev pub id_in : List ℕ → Option CloudId
id_in body = where_true (length body == 16) (λ whole. where_false (are_zeros body)
    (λ named. Some (record { id = body; whole = eqb-true (length body) 16 whole; named = named })))

-- the part of 1 to 4,096 bytes
abbrev pub part_in : List ℕ → Option PartBytes
part_in body = where_true (nat_le 1 (length body)) (λ some. where_true (nat_le (length body) 4096)
    (λ few. Some (record { bytes = body; some = leb-true 1 (length body) some; few = leb-true (length body) 4096 few })))

-- a text that reads as these parts is that of a path
pub is_path_read : (text : List ℕ) (parts : List (List ℕ)) → path_of text ≡ Ok parts → IsPath parts
is_path_read text parts is = ap path_of (text-again text parts is) ∙ is

-- the path that a text reads as, other than the root
abbrev pub entry_read : (text : List ℕ) (read : Result (List (List ℕ)) PathError) → path_of text ≡ read → Option EntryPath
entry_read text (Err error) is = None
entry_read text (Ok parts) is = where_false (is_root parts)
    (λ below. Some (record { path = parts; valid = is_path_read text parts is; below = below }))

-- the path whose length and text begin these bytes
abbrev pub entry_in : List ℕ → Option EntryPath
entry_in bytes = entry_read (take (little_number 2 bytes) (drop 2 bytes)) (path_of (take (little_number 2 bytes) (drop 2 bytes))) refl

-- what follows such a path
abbrev pub after_entry : List ℕ → List ℕ
after_entry bytes = drop (little_number 2 bytes) (drop 2 bytes)

-- ---- messages

-- the message of a number and a body, where the body is a message's
abbrev pub message_of : ℕ → List ℕ → Option Msg
message_of number body =
    if number == 0 then option_map Claim (id_in body) else
    (if number == 1 then option_map Begin (epoch_in body) else
    (if number == 2 then Some Object else
    (if number == 3 then option_map Part (part_in body) else
    (if number == 4 then Some Seal else
    (if number == 5 then option_and_then (λ kind. option_map (λ path. Enter path kind) (entry_in (drop 1 body))) (kind_from (get_or body 0 0)) else
    (if number == 6 then option_and_then (λ path. option_map (λ origin. Keep path origin) (entry_in (after_entry body))) (entry_in body) else
    (option_map Publish (epoch_in body))))))))

-- a message where its frame is just these bytes
abbrev pub where_framed : List ℕ → Msg → Option Msg
where_framed bytes m = if bytes_eq bytes (frame m) then Some m else None

-- the message whose frame these bytes are
abbrev pub message_in : List ℕ → Option Msg
message_in bytes = option_and_then (where_framed bytes) (message_of (number_in bytes) (take (length bytes - 37) (drop 5 bytes)))

-- what begins some bytes: the frame of a message, less than a frame, or what is no frame
pub data Opening : Type 0 where
  Whole : (m : Msg) → Opening
  Partial : Opening
  Wrong : Opening

-- a whole frame where it is a message's
abbrev pub opening_with : Option Msg → Opening
opening_with None = Wrong
opening_with (Some m) = Whole m

-- what begins some bytes, by their front
abbrev pub opening_by : Result ℕ FrameError → List ℕ → Opening
opening_by (Ok len) bytes = opening_with (message_in (take (len + 37) bytes))
opening_by (Err Short) bytes = Partial
opening_by (Err BadFrame) bytes = Wrong
opening_by (Err Memory) bytes = Wrong

-- what begins some bytes
unfoldable pub opening_of : List ℕ → Opening
opening_of bytes = opening_by (front_of bytes) bytes
