-- The cloud as a machine: its states, and what each message leaves of one, or why it is refused.
use Rattle.std.specs.Prelude.{◌≡◌, ℕ, ◌+◌, nat_lt, ◌==◌, Bool, true, false, not, List, [], ◌∷◌, ◌++◌, length, replicate, Option, Some, None, is_some, Result, Ok, Err}
use Rattle.vb_tree.specs.declared.tree.Kind.{Kind}
use Rattle.vb_tree.specs.declared.tree.Kind.TheVariants.{Folder, File}
use Rattle.vb_tree.specs.declared.tree.TreeEntry.{TreeEntry}
use Rattle.vb_tree.specs.Trees.{entry_at, kind_at, bytes_in, is_folder, is_file, parent_of, insert_entry}
use Rattle.vb_msg.specs.Ranges.{are_zeros}
use Rattle.vb_msg.specs.declared.message.Msg.{Msg}
use Rattle.vb_msg.specs.declared.message.Msg.TheVariants.{Claim, Begin, Object, Part, Seal, Enter, Keep, Publish}
use Rattle.vb_cloud.specs.declared.refusal.CloudRefusal.{CloudRefusal}
use Rattle.vb_cloud.specs.declared.refusal.CloudRefusal.TheVariants.{Claimed, NoDraft, ObjectOpen, NoObject, TooLarge, BadParent, Twice, TooMany, NotLater, NoSuchEntry, Memory}

-- the content that a file is to get: none, one that grows, or one that is whole
pub data ObjectState : Type 0 where
  Absent : ObjectState
  Growing : (bytes : List ℕ) → ObjectState
  Sealed : (bytes : List ℕ) → ObjectState

-- a view that is being made: its epoch, its entries so far, and the next file's content
pub record DraftState : Type 0 where
  pub epoch : ℕ
  pub tree : List TreeEntry
  pub object : ObjectState

-- a cloud: its id, the view that it shows, and at most one draft
pub record CloudState : Type 0 where
  pub id : List ℕ
  pub epoch : ℕ
  pub tree : List TreeEntry
  pub draft : Option DraftState

-- a new cloud: no id, and the empty tree at epoch 0
abbrev pub new_cloud : CloudState
new_cloud = record { id = replicate 16 0; epoch = 0; tree = []; draft = None }

-- ---- refusals

-- the refusal where the test holds, and else what comes next
abbrev pub refuse_if : {S : Type 0} → Bool → CloudRefusal → Result S CloudRefusal → Result S CloudRefusal
refuse_if true refusal next = Err refusal
refuse_if false refusal next = next

-- what comes next for the draft; refused where there is none
abbrev pub of_draft : {S : Type 0} → Option DraftState → (DraftState → Result S CloudRefusal) → Result S CloudRefusal
of_draft None next = Err NoDraft
of_draft (Some d) next = next d

-- whether there is an object
abbrev pub has_object : ObjectState → Bool
has_object Absent = false
has_object (Growing bytes) = true
has_object (Sealed bytes) = true

-- what comes next; refused where there is an object
abbrev pub to_absent : {S : Type 0} → ObjectState → Result S CloudRefusal → Result S CloudRefusal
to_absent object next = refuse_if (has_object object) ObjectOpen next

-- what comes next for the bytes that grow; refused where no object grows
abbrev pub to_growing : {S : Type 0} → ObjectState → (List ℕ → Result S CloudRefusal) → Result S CloudRefusal
to_growing Absent next = Err NoObject
to_growing (Growing bytes) next = next bytes
to_growing (Sealed bytes) next = Err NoObject

-- what comes next for the bytes of a sealed object; refused where one grows, and then where there is none
abbrev pub of_sealed : {S : Type 0} → ObjectState → (List ℕ → Result S CloudRefusal) → Result S CloudRefusal
of_sealed Absent next = Err NoObject
of_sealed (Growing bytes) next = Err ObjectOpen
of_sealed (Sealed bytes) next = next bytes

-- what comes next for the bytes of a file that is shown; refused where there is none at the path
abbrev pub of_file : {S : Type 0} → List (List ℕ) → List TreeEntry → (List ℕ → Result S CloudRefusal) → Result S CloudRefusal
of_file origin tree next = refuse_if (not (is_file (kind_at origin tree))) NoSuchEntry (next (bytes_in (entry_at origin tree)))

-- what comes next; refused where no new entry may stand at the path
abbrev pub refuse_place : {S : Type 0} → List (List ℕ) → List TreeEntry → Result S CloudRefusal → Result S CloudRefusal
refuse_place path tree next =
    refuse_if (not (is_folder (kind_at (parent_of path) tree))) BadParent
    (refuse_if (is_some (entry_at path tree)) Twice
    (refuse_if (length tree == 65535) TooMany next))

-- ---- what a message does to a draft

-- a new entry, and no object any more
abbrev pub add_entry : TreeEntry → DraftState → Result DraftState CloudRefusal
add_entry entry d = refuse_place entry.path d.tree (Ok (record d { tree = insert_entry entry d.tree; object = Absent }))

-- an object begins
abbrev pub start_object : DraftState → Result DraftState CloudRefusal
start_object d = to_absent d.object (Ok (record d { object = Growing [] }))

-- the object gets more bytes, 44,433,408 in all at most
abbrev pub add_part : List ℕ → DraftState → Result DraftState CloudRefusal
add_part part d = to_growing d.object (λ bytes.
    refuse_if (nat_lt 44433408 (length bytes + length part)) (TooLarge (length bytes + length part))
    (Ok (record d { object = Growing (bytes ++ part) })))

-- the object is whole
abbrev pub seal_object : DraftState → Result DraftState CloudRefusal
seal_object d = to_growing d.object (λ bytes. Ok (record d { object = Sealed bytes }))

-- a folder enters, or a file with the object's bytes
abbrev pub enter : List (List ℕ) → Kind → DraftState → Result DraftState CloudRefusal
enter path Folder d = to_absent d.object (add_entry (record { path = path; kind = Folder; bytes = [] }) d)
enter path File d = of_sealed d.object (λ bytes. add_entry (record { path = path; kind = File; bytes = bytes }) d)

-- a file enters with the bytes of one that is shown
abbrev pub keep : List TreeEntry → List (List ℕ) → List (List ℕ) → DraftState → Result DraftState CloudRefusal
keep shown path origin d = to_absent d.object (of_file origin shown (λ bytes. add_entry (record { path = path; kind = File; bytes = bytes }) d))

-- ---- what a message does to a cloud

-- the cloud with the draft that a change leaves
abbrev pub with_draft : CloudState → Result DraftState CloudRefusal → Result CloudState CloudRefusal
with_draft k (Ok d) = Ok (record k { draft = Some d })
with_draft k (Err refusal) = Err refusal

-- a change of the draft; refused where there is none
abbrev pub change_draft : CloudState → (DraftState → Result DraftState CloudRefusal) → Result CloudState CloudRefusal
change_draft k change = of_draft k.draft (λ d. with_draft k (change d))

-- a cloud without an id gets one
abbrev pub claim : List ℕ → CloudState → Result CloudState CloudRefusal
claim id k = refuse_if (not (are_zeros k.id)) Claimed (Ok (record k { id = id }))

-- an empty draft begins, of a later epoch than the one that is shown
abbrev pub begin : ℕ → CloudState → Result CloudState CloudRefusal
begin epoch k =
    refuse_if (not (nat_lt k.epoch epoch)) (NotLater k.epoch epoch)
    (Ok (record k { draft = Some (record { epoch = epoch; tree = []; object = Absent }) }))

-- the draft of this epoch is shown
abbrev pub publish : ℕ → CloudState → Result CloudState CloudRefusal
publish epoch k = of_draft k.draft (λ d.
    refuse_if (not (d.epoch == epoch)) NoDraft
    (to_absent d.object (Ok (record k { epoch = d.epoch; tree = d.tree; draft = None }))))

-- what a message leaves of a cloud, or the first reason why it is refused
abbrev pub cloud_step : CloudState → Msg → Result CloudState CloudRefusal
cloud_step k (Claim id) = claim id.id k
cloud_step k (Begin epoch) = begin epoch.number k
cloud_step k Object = change_draft k start_object
cloud_step k (Part bytes) = change_draft k (add_part bytes.bytes)
cloud_step k Seal = change_draft k seal_object
cloud_step k (Enter path kind) = change_draft k (enter path.path kind)
cloud_step k (Keep path origin) = change_draft k (keep k.tree path.path origin.path)
cloud_step k (Publish epoch) = publish epoch.number k

-- the state that a message leaves, and the one before where it is refused
abbrev pub taken_or : CloudState → Result CloudState CloudRefusal → CloudState
taken_or k (Ok after) = after
taken_or k (Err refusal) = k

-- the cloud after some messages, each applied where it is taken
abbrev pub cloud_after : CloudState → List Msg → CloudState
cloud_after k [] = k
cloud_after k (m ∷ ms) = cloud_after (taken_or k (cloud_step k m)) ms

-- ---- what a call that takes a message leaves and answers

-- where the call answers Ok it left what the step does; where it refuses, the step does, and nothing changed;
-- for want of memory nothing changed
abbrev pub Takes : {S : Type 0} → Result S CloudRefusal → S → S → Result (Unit {0}) CloudRefusal → Type 0
Takes step before after (Ok done) = step ≡ Ok after
Takes step before after (Err Memory) = after ≡ before
Takes step before after (Err refusal) = (step ≡ Err refusal) × (after ≡ before)

-- whether a new entry may stand at a path: whatever comes next comes, or else this refusal
abbrev pub RefusesPlace : List (List ℕ) → List TreeEntry → Result (Unit {0}) CloudRefusal → Type 0
RefusesPlace path tree (Ok done) = (next : Result DraftState CloudRefusal) → refuse_place path tree next ≡ next
RefusesPlace path tree (Err refusal) = (next : Result DraftState CloudRefusal) → refuse_place path tree next ≡ Err refusal
