-- The laws of the link of a cloud that is kept as a log.
use Rattle.std.proofs.Common.{◌≡◌, ℕ, zero, suc, Bool, true, false, List, length, drop, Option, Some, None, unwrap_or, Result, Ok, Err, refl, sym, ap, ◌∙◌, subst}
use Rattle.vb_msg.specs.declared.message.Msg.{Msg}
use Rattle.vb_msg.specs.Frames.{frame}
use Rattle.vb_cloud.specs.declared.refusal.CloudRefusal.{CloudRefusal}
use Rattle.vb_cloud.specs.Machine.{CloudState, new_cloud, cloud_step}
use Rattle.vb_cloud.specs.Valid.{IsCloudState}
use Rattle.vb_cloud.proofs.Keeps.{IsCloudState-step}
use Rattle.vb_cloud.proofs.Rises.{new_is_valid}
use Rattle.vb_link.specs.Views.{LinkView, IsLinkView, view_of}
use Rattle.vb_link.specs.Valid.{valid_of}
use Rattle.vb_cloudlog.specs.declared.stop.Stop.{Stop}
use Rattle.vb_cloudlog.specs.Messages.{Opening, Whole, Partial, Wrong, opening_of}
use Rattle.vb_cloudlog.specs.Replays.{ReplayState, moved, frames_taken, opening_taken, step_taken, all_taken, replay_of}
use Rattle.vb_cloudlog.specs.Loads.{cloud_unless, told_by, shown_by}

abbrev next_of : ℕ → ℕ → List ℕ → ℕ → CloudState → ReplayState
next_of n p bytes len after = frames_taken n after (moved p len) (drop len bytes)

-- ---- the laws

taken-valid : (n : ℕ) (k : CloudState) (p : ℕ) (bytes : List ℕ) → IsCloudState k → IsCloudState (frames_taken n k p bytes).cloud
taken-valid zero k p bytes is = is
taken-valid (suc n) k p bytes is = by (λ k p bs is. taken-valid n k p bs is) (opening_of bytes)
  where
    by_step : ((k : CloudState) (p : ℕ) (bs : List ℕ) → IsCloudState k → IsCloudState (frames_taken n k p bs).cloud) → (m : Msg) (step : Result CloudState CloudRefusal) → cloud_step k m ≡ step → IsCloudState (step_taken (next_of n p bytes (length (frame m))) k p step).cloud
    by_step again m (Ok after) step = again after (moved p (length (frame m))) (drop (length (frame m)) bytes) (IsCloudState-step k m after step is)
    by_step again m (Err refusal) step = is

    by : ((k : CloudState) (p : ℕ) (bs : List ℕ) → IsCloudState k → IsCloudState (frames_taken n k p bs).cloud) → (opening : Opening) → IsCloudState (opening_taken (next_of n p bytes) k p bytes opening).cloud
    by again (Whole m) = by_step again m (cloud_step k m) refl
    by again Partial = is
    by again Wrong = is

replayed-valid : (all : List ℕ) → IsCloudState (replay_of all).cloud
unfolding all_taken
replayed-valid all = taken-valid (length all) new_cloud 0 all new_is_valid

told-cloud : (stop : Option Stop) (a k : CloudState) → cloud_unless stop a ≡ Some k → a ≡ k
told-cloud None a k is = somes a k is
  where
    somes : (a b : CloudState) → ◌≡◌ {A = Option CloudState} (Some a) (Some b) → a ≡ b
    somes a b e = cc
told-cloud (Some stop) a k is = absurd (cc is)

-- a told cloud is one that messages can leave
pub reached_by : (told : Option (List ℕ)) (k : CloudState) → told_by told ≡ Some k → IsCloudState k
reached_by None k is = absurd (cc is)
reached_by (Some all) k is = subst IsCloudState (told-cloud (replay_of all).stop (replay_of all).cloud k is) (replayed-valid all)

-- a view that is shown is one that a link can show
pub valid_by : (loaded : Bool) (told : Option (List ℕ)) (k : CloudState) (v : LinkView) → IsCloudState k → shown_by loaded (told_by told) k ≡ Some v → IsLinkView v
valid_by false told k v is shown = absurd (cc shown)
valid_by true told k v is shown = by (told_by told) refl shown
  where
    by : (o : Option CloudState) → told_by told ≡ o → shown_by true o k ≡ Some v → IsLinkView v
    by None told_is shown = valid_of k v is shown
    by (Some j) told_is shown = valid_of j v (reached_by told j told_is) shown

-- a view that is shown is that of the told cloud
pub agree_by : (loaded : Bool) (told : Option CloudState) (k j : CloudState) (v : LinkView) → told ≡ Some j → shown_by loaded told k ≡ Some v → v ≡ view_of j
agree_by false told k j v is shown = absurd (cc shown)
agree_by true told k j v is shown = views v (view_of j) (sym shown ∙ ap (λ (o : Option CloudState). Some (view_of (unwrap_or o k))) is)
  where
    views : (a b : LinkView) → ◌≡◌ {A = Option LinkView} (Some a) (Some b) → a ≡ b
    views a b e = cc
