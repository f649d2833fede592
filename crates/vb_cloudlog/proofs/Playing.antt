-- What comes of a message that was decoded.
use Rattle.std.proofs.Common.{◌≡◌, ◌≢◌, ℕ, ◌≤◌, List, length, Ok, Err, refl, ap, arith}
use Rattle.std.proofs.lemmas.List.{length-take}
use Rattle.vb_msg.specs.declared.message.Msg.{Msg}
use Rattle.vb_msg.specs.Frames.{DecodesTo}
use Rattle.vb_cloud.specs.declared.refusal.CloudRefusal.{CloudRefusal}
use Rattle.vb_cloud.specs.declared.refusal.CloudRefusal.TheVariants.{Claimed, NoDraft, ObjectOpen, NoObject, TooLarge, BadParent, Twice, TooMany, NotLater, NoSuchEntry, Memory}
use Rattle.vb_cloud.specs.Machine.{CloudState, cloud_step, Takes}
use Rattle.vb_cloudlog.specs.declared.stop.Stop.TheVariants.{OutOfOrder}
use Rattle.vb_cloudlog.specs.declared.play.Played.TheVariants.{Taken, Stopped}
use Rattle.vb_cloudlog.specs.Playing.{Plays}
use Rattle.vb_cloudlog.proofs.Openings.{decoded-whole}
use Rattle.vb_cloudlog.proofs.Feeding.{refused-there}

-- a refusal other than want of memory is the machine's
pub takes-refused : (k after : CloudState) (m : Msg) (refusal : CloudRefusal) → refusal ≢ Memory → Takes (cloud_step k m) k after (Err refusal) → (cloud_step k m ≡ Err refusal) × (after ≡ k)
takes-refused k after m Claimed other takes = takes
takes-refused k after m NoDraft other takes = takes
takes-refused k after m ObjectOpen other takes = takes
takes-refused k after m NoObject other takes = takes
takes-refused k after m (TooLarge n) other takes = takes
takes-refused k after m BadParent other takes = takes
takes-refused k after m Twice other takes = takes
takes-refused k after m TooMany other takes = takes
takes-refused k after m (NotLater a b) other takes = takes
takes-refused k after m NoSuchEntry other takes = takes
takes-refused k after m Memory other takes = absurd (other refl)

pub refused-by : (k after : CloudState) (p : ℕ) (bytes : List ℕ) (m : Msg) (n : ℕ) (refusal : CloudRefusal) → DecodesTo bytes (Ok (m, n)) → refusal ≢ Memory
    → Takes (cloud_step k m) k after (Err refusal) → Plays k p bytes after (Stopped (OutOfOrder p refusal))
refused-by k after p bytes m n refusal decoded other takes =
    let both = takes-refused k after m refusal other takes in
    (refused-there k p bytes m n refusal (decoded-whole bytes m n decoded) both.0, both.1)

pub taken-by : (k after : CloudState) (p : ℕ) (bytes : List ℕ) (m : Msg) (n : ℕ) → DecodesTo bytes (Ok (m, n)) → cloud_step k m ≡ Ok after → Plays k p bytes after (Taken n)
taken-by k after p bytes m n decoded step =
    let long : n ≤ length bytes = omega (arith, decoded.0, ap (λ (xs : List ℕ). length xs) decoded.1, length-take n bytes) in
    (m, decoded.0, long, decoded-whole bytes m n decoded, step)

pub ruleset playing = (refused-by, taken-by)
