-- Over every list of messages a cloud's state is valid, and what it shows goes on.
use Rattle.std.proofs.Common.{◌≡◌, ℕ, List, [], ◌∷◌, Result, Ok, Err, refl, ◌∙◌, arith}
use Rattle.std.proofs.lemmas.List.{length-replicate}
use Rattle.vb_msg.specs.declared.message.Msg.{Msg}
use Rattle.vb_tree.specs.Trees.{IsTree}
use Rattle.vb_cloud.specs.declared.refusal.CloudRefusal.{CloudRefusal}
use Rattle.vb_cloud.specs.Machine.{CloudState, new_cloud, cloud_step, taken_or, cloud_after}
use Rattle.vb_cloud.specs.Rising.{RisesTo}
use Rattle.vb_cloud.specs.Valid.{IsView, IsCloudState}
use Rattle.vb_cloud.proofs.Keeps.{kept-step, IsCloudState-step}

rises-itself : (k : CloudState) → RisesTo k k
rises-itself k = record { never_falls = omega arith; same_view = λ e. refl }

rises-trans : (a b c : CloudState) → RisesTo a b → RisesTo b c → RisesTo a c
rises-trans a b c ab bc = record {
  never_falls = omega (arith, ab.never_falls, bc.never_falls);
  same_view = λ e.
      let first : b.epoch ≡ a.epoch = omega (arith, ab.never_falls, bc.never_falls, e) in
      let second : c.epoch ≡ b.epoch = omega (arith, ab.never_falls, bc.never_falls, e) in
      bc.same_view second ∙ ab.same_view first;
}

pub new_is_valid : IsCloudState new_cloud
new_is_valid =
    let tree : IsTree [] = record { in_order = tt; all_belong = tt } in
    let view : IsView 0 [] = record { small_epoch = omega arith; ordered = tree; few = omega arith } in
    record { views = record { id_whole = length-replicate {A = ℕ} 16 0; shown = view; draft = tt }; shown_fits = tt; draft_fits = tt }

one_message : (k : CloudState) (m : Msg) (r : Result CloudState CloudRefusal) → cloud_step k m ≡ r → IsCloudState k → IsCloudState (taken_or k r) × RisesTo k (taken_or k r)
one_message k m (Ok after) h is = (IsCloudState-step k m after h is, (kept-step k m after h is.views).rises)
one_message k m (Err refusal) h is = (is, rises-itself k)

pub all_messages : (k : CloudState) (ms : List Msg) → IsCloudState k → IsCloudState (cloud_after k ms) × RisesTo k (cloud_after k ms)
all_messages k [] is = (is, rises-itself k)
all_messages k (m ∷ ms) is =
    let next = taken_or k (cloud_step k m) in
    let first = one_message k m (cloud_step k m) refl is in
    let rest = all_messages next ms first.0 in
    (rest.0, rises-trans k next (cloud_after next ms) first.1 rest.1)

pub valid_after : (k : CloudState) (ms : List Msg) → IsCloudState k → IsCloudState (cloud_after k ms)
valid_after k ms is = let all = all_messages k ms is in all.0

pub rises_after : (k : CloudState) (ms : List Msg) → IsCloudState k → RisesTo k (cloud_after k ms)
rises_after k ms is = let all = all_messages k ms is in all.1

pub ruleset rising = (new_is_valid, valid_after, rises_after)
