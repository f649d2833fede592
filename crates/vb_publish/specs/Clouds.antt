-- What a cloud makes of a plan.
use Rattle.std.specs.Prelude.{◌≡◌, ℕ, ◌<◌, ◌≤◌, List, [], ◌∷◌, length, Some, None, Result, Ok, Err, ◌⊎◌, take}
use Rattle.vb_tree.specs.declared.tree.TreeEntry.{TreeEntry}
use Rattle.vb_tree.specs.Trees.{IsTree}
use Rattle.vb_msg.specs.declared.message.Msg.{Msg}
use Rattle.vb_cloud.specs.declared.refusal.CloudRefusal.{CloudRefusal}
use Rattle.vb_cloud.specs.Machine.{Absent, CloudState, Growing, Sealed, cloud_step}
use Rattle.vb_publish.specs.Plans.{upload_plan}

-- what comes next for the state that a step leaves; refused where the step is
abbrev pub and_next : Result CloudState CloudRefusal → (CloudState → Result CloudState CloudRefusal) → Result CloudState CloudRefusal
and_next (Ok k) next = next k
and_next (Err refusal) next = Err refusal

-- a cloud after some messages, each of which it takes; refused at the first that it refuses
abbrev pub cloud_through : CloudState → List Msg → Result CloudState CloudRefusal
cloud_through k [] = Ok k
cloud_through k (m ∷ ms) = and_next (cloud_step k m) (λ after. cloud_through after ms)

-- a tree that may be uploaded to a cloud at an epoch: a later one than it shows, below 2^63, and at most 65,535 entries
pub record MayUpload (k : CloudState) (epoch : ℕ) (tree : List TreeEntry) : Type 0 where
  pub later : k.epoch < epoch
  pub small : epoch < 9223372036854775808
  pub is_tree : IsTree tree
  pub few : length tree ≤ 65535

-- a cloud with a draft of an epoch that has these entries, and no object
abbrev pub drafting : CloudState → ℕ → List TreeEntry → CloudState
drafting k epoch tree = record k { draft = Some (record { epoch = epoch; tree = tree; object = Absent }) }

-- a cloud with a draft of an epoch that has these entries, and an object of these bytes that grows
abbrev pub growing : CloudState → ℕ → List TreeEntry → List ℕ → CloudState
growing k epoch tree bytes = record k { draft = Some (record { epoch = epoch; tree = tree; object = Growing bytes }) }

-- a cloud with a draft of an epoch that has these entries, and an object of these bytes that is whole
abbrev pub sealed : CloudState → ℕ → List TreeEntry → List ℕ → CloudState
sealed k epoch tree bytes = record k { draft = Some (record { epoch = epoch; tree = tree; object = Sealed bytes }) }

-- a cloud that shows a tree at an epoch, and has no draft
abbrev pub showing : CloudState → ℕ → List TreeEntry → CloudState
showing k epoch tree = record k { epoch = epoch; tree = tree; draft = None }

-- a cloud without its draft
abbrev pub undrafted : CloudState → CloudState
undrafted k = record k { draft = None }

-- a cloud has taken the first so many messages of the plan of an epoch and a tree, over the tree that it shows: none yet, or
-- it is what they make of it without a draft
abbrev pub HasTaken : ℕ → ℕ → List TreeEntry → CloudState → Type 0
HasTaken n epoch tree k = (n ≡ 0) ⊎ (cloud_through (undrafted k) (take n (upload_plan epoch tree k.tree)) ≡ Ok k)
