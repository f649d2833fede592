-- A log of the frames of messages, and something behind them.
use Rattle.std.proofs.Common.{◌≡◌, ℕ, ◌+◌, ◌≤◌, List, [], ◌∷◌, ◌++◌, length, Some, Result, Ok, Err, refl, sym, ap, ◌∙◌, arith, append_assoc}
use Rattle.std.proofs.lemmas.List.{drop_at, length-append}
use Rattle.vb_cause.specs.Faults.{greatest_count}
use Rattle.vb_msg.specs.declared.message.Msg.{Msg}
use Rattle.vb_msg.specs.Frames.{frame, frames_of}
use Rattle.vb_cloud.specs.declared.refusal.CloudRefusal.{CloudRefusal}
use Rattle.vb_cloud.specs.Machine.{CloudState, new_cloud, cloud_step}
use Rattle.vb_cloudlog.specs.declared.stop.Stop.TheVariants.{BadFrame, OutOfOrder}
use Rattle.vb_cloudlog.specs.Messages.{Partial, Wrong, opening_of}
use Rattle.vb_cloudlog.specs.Replays.{ReplayState, moved, all_taken, fed, replay_of}
use Rattle.vb_cloudlog.specs.Loads.{cloud_unless, cloud_in}
use Rattle.vb_cloudlog.specs.Streams.{through_step, through}
use Rattle.vb_cloudlog.proofs.Feeding.{taken-in_two, taken-there, kept-there, wrong-there, refused-there}

oks : (a b : CloudState) → ◌≡◌ {A = Result CloudState CloudRefusal} (Ok a) (Ok b) → a ≡ b
oks a b e = cc

moved-twice : (p a b : ℕ) → moved (moved p a) b ≡ moved p (a + b)
moved-twice p a b = omega arith

-- the frames of messages that are taken, and what follows them
frames-first : (ms : List Msg) (k after : CloudState) (p : ℕ) (rest : List ℕ) → p ≤ greatest_count → through k ms ≡ Ok after → all_taken k p (frames_of ms ++ rest) ≡ all_taken after (moved p (length (frames_of ms))) rest
frames-first [] k after p rest few is =
    let place : p ≡ moved p 0 = omega (arith, few) in
    ap (λ (q : ℕ). all_taken k q rest) place ∙ ap (λ (j : CloudState). all_taken j (moved p 0) rest) (oks k after is)
frames-first (m ∷ ms) k after p rest few is = by (λ j q few is. frames-first ms j after q rest few is) (cloud_step k m) refl is
  where
    by : ((j : CloudState) (q : ℕ) → q ≤ greatest_count → through j ms ≡ Ok after → all_taken j q (frames_of ms ++ rest) ≡ all_taken after (moved q (length (frames_of ms))) rest)
        → (step : Result CloudState CloudRefusal) → cloud_step k m ≡ step → through_step step (λ j. through j ms) ≡ Ok after
        → all_taken k p ((frame m ++ frames_of ms) ++ rest) ≡ all_taken after (moved p (length (frame m ++ frames_of ms))) rest
    by again (Err refusal) step is = absurd (cc is)
    by again (Ok j) step is =
        let long = length-append (frame m) (frames_of ms) in
        ap (all_taken k p) (append_assoc (frame m) (frames_of ms) rest)
        ∙ taken-in_two k p (frame m) (frames_of ms ++ rest)
        ∙ ap (λ (r : ReplayState). fed r (frames_of ms ++ rest)) (taken-there k p (frame m) m j refl step)
        ∙ again j (moved p (length (frame m))) (omega arith) is
        ∙ ap (λ (q : ℕ). all_taken after q rest) (moved-twice p (length (frame m)) (length (frames_of ms)) ∙ ap (moved p) (sym long))

-- the three ways in which a log ends
pub log-taken : (bytes rest : List ℕ) (ms : List Msg) (k : CloudState) → bytes ≡ frames_of ms ++ rest → through new_cloud ms ≡ Ok k → opening_of rest ≡ Partial → cloud_in bytes ≡ Some k
log-taken bytes rest ms k is taken partial =
    let place : 0 ≤ greatest_count = omega arith in
    ap (λ (r : ReplayState). cloud_unless r.stop r.cloud)
    (ap replay_of is ∙ frames-first ms new_cloud k 0 rest place taken ∙ kept-there k (moved 0 (length (frames_of ms))) rest partial)

pub log-wrong : (bytes rest : List ℕ) (ms : List Msg) (k : CloudState) → bytes ≡ frames_of ms ++ rest → through new_cloud ms ≡ Ok k → opening_of rest ≡ Wrong → (replay_of bytes).stop ≡ Some (BadFrame (moved 0 (length (frames_of ms))))
log-wrong bytes rest ms k is taken wrong =
    let place : 0 ≤ greatest_count = omega arith in
    ap (λ (r : ReplayState). r.stop)
    (ap replay_of is ∙ frames-first ms new_cloud k 0 rest place taken ∙ wrong-there k (moved 0 (length (frames_of ms))) rest wrong)

pub log-refused : (bytes more : List ℕ) (ms : List Msg) (m : Msg) (k : CloudState) (refusal : CloudRefusal) → bytes ≡ frames_of ms ++ (frame m ++ more) → through new_cloud ms ≡ Ok k → cloud_step k m ≡ Err refusal
    → (replay_of bytes).stop ≡ Some (OutOfOrder (moved 0 (length (frames_of ms))) refusal)
log-refused bytes more ms m k refusal is taken step =
    let place : 0 ≤ greatest_count = omega arith in
    ap (λ (r : ReplayState). r.stop)
    (ap replay_of is ∙ frames-first ms new_cloud k 0 (frame m ++ more) place taken
    ∙ refused-there k (moved 0 (length (frames_of ms))) (frame m ++ more) m (length (frame m)) refusal (ap (λ (xs : List ℕ). frame m ++ xs) (sym (drop_at (frame m) more (length (frame m)) refl))) step)

pub ruleset whole_logs = (log-taken, log-wrong, log-refused)
