-- What a cloud shows while it takes a plan, and its first and last message.
use Rattle.std.proofs.Common.{◌≡◌, ℕ, zero, suc, ◌+◌, ◌<◌, Bool, true, false, not, List, [], ◌∷◌, ◌++◌, length, map, take, Option, Some, None, Result, Ok, Err, refl, sym, ap, subst, ◌∙◌, arith, slice_get}
use Rattle.std.specs.Prelude.{nat_lt}
use Rattle.std.specs.List.{flat_map, range_with_len}
use Rattle.std.proofs.lemmas.List.{take-append-le, take_all}
use Rattle.vb_tree.specs.declared.tree.Kind.{Kind}
use Rattle.vb_tree.specs.declared.tree.Kind.TheVariants.{Folder, File}
use Rattle.vb_tree.specs.declared.tree.TreeEntry.{TreeEntry}
use Rattle.vb_tree.specs.Trees.{data_pages_of}
use Rattle.vb_msg.specs.declared.message.Msg.{Msg}
use Rattle.vb_msg.specs.declared.message.Msg.TheVariants.{Claim, Begin, Object, Part, Seal, Enter, Keep, Publish}
use Rattle.vb_msg.specs.declared.ranges.EntryPath.{EntryPath}
use Rattle.vb_cloud.specs.declared.refusal.CloudRefusal.{CloudRefusal}
use Rattle.vb_cloud.specs.declared.refusal.CloudRefusal.TheVariants.{NotLater}
use Rattle.vb_cloud.specs.Machine.{CloudState, DraftState, add_part, cloud_step, enter, keep, of_draft, refuse_if, seal_object, start_object, with_draft}
use Rattle.vb_publish.specs.Clouds.{and_next, cloud_through, drafting, showing, MayUpload}
use Rattle.vb_publish.specs.Messages.{enter_named, epoch_named, path_named}
use Rattle.vb_publish.specs.Plans.{part_at, parts_of, messages_by, entry_messages, counts_of_tree, plan_length, upload_plan}
use Rattle.vb_publish.proofs.Lengths.{length-entries, length-plan}
use Rattle.vb_publish.proofs.Taken.{begun, next-taken, plan-taken, went}

pub ok_same : (a b : CloudState) → went a ≡ went b → a ≡ b
ok_same a b h = ap (λ r. ok_or a r) h where
  ok_or : CloudState → Result CloudState CloudRefusal → CloudState
  ok_or d (Ok x) = x
  ok_or d (Err refusal) = d

-- ---- the first and the last message, and what is shown meanwhile

pub begin-taken : (k : CloudState) (epoch : ℕ) (tree : List TreeEntry) → MayUpload k epoch tree → cloud_step k (Begin (epoch_named epoch)) ≡ Ok (drafting k epoch [])
begin-taken k epoch tree may = begun k epoch tree may

pub last-taken : (k now : CloudState) (epoch place : ℕ) (tree published : List TreeEntry) (m : Msg) → MayUpload k epoch tree → cloud_through k (take place (upload_plan epoch tree published)) ≡ Ok now → slice_get (upload_plan epoch tree published) place ≡ Some m → place + 1 ≡ plan_length (counts_of_tree tree) → cloud_step now m ≡ Ok (showing k epoch tree)
last-taken k now epoch place tree published m may reached there last =
    let plan = upload_plan epoch tree published in
    let len = length-plan epoch tree published in
    let whole : take (place + 1) plan ≡ plan = take_all (place + 1) plan (omega arith) in
    (next-taken k now epoch place tree published m may reached there).0 ∙ ap (cloud_through k) whole ∙ plan-taken k epoch tree published may

-- these clouds have one id and show one view
abbrev ShowsAs : CloudState → CloudState → Type 0
ShowsAs k now = (now.id ≡ k.id) × (now.epoch ≡ k.epoch) × (now.tree ≡ k.tree)

-- a message that neither claims nor publishes
abbrev IsOfDraft : Msg → Type 0
IsOfDraft (Claim id) = ⊥
IsOfDraft (Publish epoch) = ⊥
IsOfDraft m = Unit {0}

abbrev AllOfDraft : List Msg → Type 0
AllOfDraft [] = Unit {0}
AllOfDraft (m ∷ ms) = IsOfDraft m × AllOfDraft ms

with-draft-shows : (k after : CloudState) (r : Result DraftState CloudRefusal) → with_draft k r ≡ Ok after → ShowsAs k after
with-draft-shows k after (Ok d) h =
    let same : record k { draft = Some d } ≡ after = ok_same (record k { draft = Some d }) after h in
    subst (ShowsAs k) same (refl, refl, refl)
with-draft-shows k after (Err refusal) h = absurd (cc h)

changed-shows : (k after : CloudState) (o : Option DraftState) (change : DraftState → Result DraftState CloudRefusal) → of_draft o (λ d. with_draft k (change d)) ≡ Ok after → ShowsAs k after
changed-shows k after None change h = absurd (cc h)
changed-shows k after (Some d) change h = with-draft-shows k after (change d) h

begin-shows : (k after : CloudState) (epoch : ℕ) (t : Bool) → refuse_if t (NotLater k.epoch epoch) (went (drafting k epoch [])) ≡ Ok after → ShowsAs k after
begin-shows k after epoch true h = absurd (cc h)
begin-shows k after epoch false h = subst (ShowsAs k) (ok_same (drafting k epoch []) after h) (refl, refl, refl)

step-shows : (k after : CloudState) (m : Msg) → IsOfDraft m → cloud_step k m ≡ Ok after → ShowsAs k after
step-shows k after (Claim id) of h = absurd of
step-shows k after (Begin epoch) of h = begin-shows k after epoch.number (not (nat_lt k.epoch epoch.number)) h
step-shows k after Object of h = changed-shows k after k.draft start_object h
step-shows k after (Part bytes) of h = changed-shows k after k.draft (add_part bytes.bytes) h
step-shows k after Seal of h = changed-shows k after k.draft seal_object h
step-shows k after (Enter path kind) of h = changed-shows k after k.draft (enter path.path kind) h
step-shows k after (Keep path origin) of h = changed-shows k after k.draft (keep k.tree path.path origin.path) h
step-shows k after (Publish epoch) of h = absurd of

then-shows : (k after : CloudState) (r : Result CloudState CloudRefusal) (ms : List Msg) → ((a : CloudState) → r ≡ Ok a → ShowsAs k a) → ((a : CloudState) → cloud_through a ms ≡ Ok after → ShowsAs a after) → and_next r (λ a. cloud_through a ms) ≡ Ok after → ShowsAs k after
then-shows k after (Ok a) ms first rest h =
    let one = first a refl in
    let two = rest a h in
    (two.0 ∙ one.0, two.1 ∙ one.1, two.2 ∙ one.2)
then-shows k after (Err refusal) ms first rest h = absurd (cc h)

through-shows : (k after : CloudState) (ms : List Msg) → AllOfDraft ms → cloud_through k ms ≡ Ok after → ShowsAs k after
through-shows k after [] all h = subst (ShowsAs k) (ok_same k after h) (refl, refl, refl)
through-shows k after (m ∷ ms) all h = then-shows k after (cloud_step k m) ms (λ a is. step-shows k a m all.0 is) (λ a is. through-shows a after ms all.1 is) h

all-append : (xs ys : List Msg) → AllOfDraft xs → AllOfDraft ys → AllOfDraft (xs ++ ys)
all-append [] ys of_xs of_ys = of_ys
all-append (x ∷ xs) ys of_xs of_ys = (of_xs.0, all-append xs ys of_xs.1 of_ys)

all-take : (n : ℕ) (xs : List Msg) → AllOfDraft xs → AllOfDraft (take n xs)
all-take zero xs all = tt
all-take (suc n) [] all = tt
all-take (suc n) (x ∷ xs) all = (all.0, all-take n xs all.1)

all-parts : (bytes : List ℕ) (n j : ℕ) → AllOfDraft (map (part_at bytes) (range_with_len j n))
all-parts bytes zero j = tt
all-parts bytes (suc n) j = (tt, all-parts bytes n (j + 1))

enter-of-draft : (o : Option EntryPath) (kind : Kind) → IsOfDraft (enter_named o kind)
enter-of-draft None kind = tt
enter-of-draft (Some path) kind = tt

all-by : (kind : Kind) (published : List TreeEntry) (e : TreeEntry) → AllOfDraft (messages_by kind published e)
all-by Folder published e = (enter-of-draft (path_named e.path) Folder, tt)
all-by File published e = (tt, all-append (parts_of e.bytes) (Seal ∷ enter_named (path_named e.path) File ∷ []) (all-parts e.bytes (data_pages_of (length e.bytes)) 0) (tt, (enter-of-draft (path_named e.path) File, tt)))

all-entries : (published tree : List TreeEntry) → AllOfDraft (flat_map (entry_messages published) tree)
all-entries published [] = tt
all-entries published (e ∷ es) = all-append (entry_messages published e) (flat_map (entry_messages published) es) (all-by e.kind published e) (all-entries published es)

-- while not all of a plan was taken, the cloud shows what it showed
pub front-shows : (k now : CloudState) (epoch place : ℕ) (tree published : List TreeEntry) → place < plan_length (counts_of_tree tree) → cloud_through k (take place (upload_plan epoch tree published)) ≡ Ok now → (now.id ≡ k.id) × (now.epoch ≡ k.epoch) × (now.tree ≡ k.tree)
front-shows k now epoch place tree published less h =
    let front : List Msg = Begin (epoch_named epoch) ∷ flat_map (entry_messages published) tree in
    let count = length-entries published tree in
    let same : take place (upload_plan epoch tree published) ≡ take place front = take-append-le place front (Publish (epoch_named epoch) ∷ []) (omega arith) in
    through-shows k now (take place front) (all-take place front (tt, all-entries published tree)) (sym (ap (cloud_through k) same) ∙ h)

pub ruleset shown = (begin-taken, last-taken, front-shows)
