-- A cloud that has taken the first messages of a plan takes the next one.
use Rattle.std.proofs.Common.{◌≡◌, ℕ, ◌+◌, ◌<◌, inl, inr, List, [], ◌∷◌, take, Some, None, Ok, refl, sym, ap, subst, ◌∙◌, arith, slice_get}
use Rattle.std.specs.Prelude.{IsOk}
use Rattle.vb_tree.specs.declared.tree.TreeEntry.{TreeEntry}
use Rattle.vb_msg.specs.declared.message.Msg.{Msg}
use Rattle.vb_msg.specs.declared.message.Msg.TheVariants.{Begin}
use Rattle.vb_cloud.specs.Machine.{CloudState, cloud_step}
use Rattle.vb_publish.specs.Clouds.{and_next, cloud_through, drafting, showing, undrafted, HasTaken, MayUpload}
use Rattle.vb_publish.specs.Messages.{epoch_named}
use Rattle.vb_publish.specs.Plans.{counts_of_tree, plan_length, upload_plan}
use Rattle.vb_publish.proofs.Shown.{front-shows, last-taken, ok_same}
use Rattle.vb_publish.proofs.Taken.{begun, next-taken, went}

may-undrafted : (k : CloudState) (epoch : ℕ) (tree : List TreeEntry) → MayUpload k epoch tree → MayUpload (undrafted k) epoch tree
may-undrafted k epoch tree may = record { later = may.later; small = may.small; is_tree = may.is_tree; few = may.few }

first-of : (k : CloudState) (epoch : ℕ) (tree : List TreeEntry) (m : Msg) → slice_get (upload_plan epoch tree k.tree) 0 ≡ Some m → Begin (epoch_named epoch) ≡ m
first-of k epoch tree m h = cc h

-- the first message leaves what the plan's first message makes of the cloud without a draft
first-step : (k : CloudState) (epoch : ℕ) (tree : List TreeEntry) (m : Msg) → MayUpload k epoch tree → slice_get (upload_plan epoch tree k.tree) 0 ≡ Some m → cloud_step k m ≡ Ok (drafting k epoch [])
first-step k epoch tree m may there = ap (cloud_step k) (sym (first-of k epoch tree m there)) ∙ begun k epoch tree may

next-step : (k : CloudState) (epoch n : ℕ) (tree : List TreeEntry) (m : Msg) → MayUpload k epoch tree → HasTaken n epoch tree k → slice_get (upload_plan epoch tree k.tree) n ≡ Some m → (cloud_step k m ≡ cloud_through (undrafted k) (take (n + 1) (upload_plan epoch tree k.tree))) × IsOk (cloud_step k m)
next-step k epoch n tree m may (inl none) there =
    let first : slice_get (upload_plan epoch tree k.tree) 0 ≡ Some m = subst (λ (i : ℕ). slice_get (upload_plan epoch tree k.tree) i ≡ Some m) none there in
    let step : cloud_step k m ≡ Ok (drafting k epoch []) = first-step k epoch tree m may first in
    let one : cloud_through (undrafted k) (take 1 (upload_plan epoch tree k.tree)) ≡ Ok (drafting k epoch []) = one-message in
    let same : n + 1 ≡ 1 = omega arith in
    (step ∙ sym one ∙ ap (λ (i : ℕ). cloud_through (undrafted k) (take i (upload_plan epoch tree k.tree))) (sym same), subst IsOk (sym step) refl) where
      one-message : cloud_through (undrafted k) (take 1 (upload_plan epoch tree k.tree)) ≡ Ok (drafting k epoch [])
      one-message = ap (λ r. and_next r went) (begun (undrafted k) epoch tree (may-undrafted k epoch tree may))
next-step k epoch n tree m may (inr taken) there = next-taken (undrafted k) k epoch n tree k.tree m (may-undrafted k epoch tree may) taken there

pub takes-next : (k : CloudState) (epoch n : ℕ) (tree : List TreeEntry) (m : Msg) → MayUpload k epoch tree → HasTaken n epoch tree k → slice_get (upload_plan epoch tree k.tree) n ≡ Some m → IsOk (cloud_step k m)
takes-next k epoch n tree m may taken there = (next-step k epoch n tree m may taken there).1

same-undrafted : (k after : CloudState) → after.id ≡ k.id → after.epoch ≡ k.epoch → after.tree ≡ k.tree → undrafted after ≡ undrafted k
same-undrafted k after id epoch tree =
    ap (λ (x : List ℕ). cloud_with x after.epoch after.tree) id ∙ ap (λ (x : ℕ). cloud_with k.id x after.tree) epoch ∙ ap (λ (x : List TreeEntry). cloud_with k.id k.epoch x) tree where
      cloud_with : List ℕ → ℕ → List TreeEntry → CloudState
      cloud_with id epoch tree = record { id = id; epoch = epoch; tree = tree; draft = None }

pub goes-on : (k after : CloudState) (epoch n : ℕ) (tree : List TreeEntry) (m : Msg) → MayUpload k epoch tree → HasTaken n epoch tree k → slice_get (upload_plan epoch tree k.tree) n ≡ Some m → cloud_step k m ≡ Ok after → n + 1 < plan_length (counts_of_tree tree) → HasTaken (n + 1) epoch tree after × (after.id ≡ k.id) × (after.epoch ≡ k.epoch) × (after.tree ≡ k.tree)
goes-on k after epoch n tree m may taken there is less =
    let plan = upload_plan epoch tree k.tree in
    let reached : cloud_through (undrafted k) (take (n + 1) plan) ≡ Ok after = sym (next-step k epoch n tree m may taken there).0 ∙ is in
    let shows = front-shows (undrafted k) after epoch (n + 1) tree k.tree less reached in
    let same : undrafted after ≡ undrafted k = same-undrafted k after shows.0 shows.1 shows.2 in
    let from : cloud_through (undrafted after) (take (n + 1) plan) ≡ Ok after = ap (λ (x : CloudState). cloud_through x (take (n + 1) plan)) same ∙ reached in
    (inr (ap (λ (t : List TreeEntry). cloud_through (undrafted after) (take (n + 1) (upload_plan epoch tree t))) shows.2 ∙ from), shows.0, shows.1, shows.2)

pub shows-last : (k after : CloudState) (epoch n : ℕ) (tree : List TreeEntry) (m : Msg) → MayUpload k epoch tree → HasTaken n epoch tree k → slice_get (upload_plan epoch tree k.tree) n ≡ Some m → cloud_step k m ≡ Ok after → n + 1 ≡ plan_length (counts_of_tree tree) → after ≡ showing k epoch tree
shows-last k after epoch n tree m may (inl none) there is last = absurd (omega arith)
shows-last k after epoch n tree m may (inr taken) there is last =
    ok_same after (showing k epoch tree) (sym is ∙ last-taken (undrafted k) k epoch n tree k.tree m (may-undrafted k epoch tree may) taken there last)
