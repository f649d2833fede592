-- A message leaves a state that a cloud can have.
use Rattle.std.proofs.Common.{◌≡◌, ℕ, ◌+◌, ◌<◌, ◌≤◌, Bool, true, false, cond, not, ◌==◌, List, [], ◌∷◌, ◌++◌, length, Option, Some, None, is_some, Result, Ok, Err, refl, sym, ap, subst, arith, length-append}
use Rattle.std.specs.Prelude.{nat_lt}
use Rattle.std.proofs.lemmas.Bool.Decides.{nat_tests}
use Rattle.vb_path.specs.Paths.{same_path, IsPath}
use Rattle.vb_tree.specs.declared.tree.Kind.{Kind}
use Rattle.vb_tree.specs.declared.tree.Kind.TheVariants.{Folder, File}
use Rattle.vb_tree.specs.declared.tree.TreeEntry.{TreeEntry}
use Rattle.vb_tree.specs.Trees.{entry_at, kind_at, bytes_in, is_root, is_folder, is_file, parent_of, insert_entry, BelongsIn, AllBelongIn, IsTree}
use Rattle.vb_tree.proofs.TreeLaws.{IsTree-insert}
use Rattle.vb_tree.proofs.Lookups.{length-insert_entry}
use Rattle.vb_msg.specs.Ranges.{are_zeros}
use Rattle.vb_msg.specs.declared.message.Msg.{Msg}
use Rattle.vb_msg.specs.declared.message.Msg.TheVariants.{Claim, Begin, Object, Part, Seal, Enter, Keep, Publish}
use Rattle.vb_cloud.specs.declared.refusal.CloudRefusal.{CloudRefusal}
use Rattle.vb_cloud.specs.declared.refusal.CloudRefusal.TheVariants.{Claimed, NoDraft, ObjectOpen, NoObject, TooLarge, BadParent, Twice, TooMany, NotLater, NoSuchEntry, Memory}
use Rattle.vb_cloud.specs.Machine.{ObjectState, Absent, Growing, Sealed, DraftState, CloudState, refuse_if, of_draft, to_growing, of_sealed, has_object, add_entry, start_object, add_part, seal_object, enter, keep, with_draft, change_draft, cloud_step, Takes}
use Rattle.vb_cloud.specs.Rising.{RisesTo}
use Rattle.vb_cloud.specs.Valid.{AllFit, object_bytes, IsDraft, IsDraftIfAny, HasViews, DraftFits, IsCloudState}

-- ---- what was taken wasn't refused

passed : {S : Type 0} (t : Bool) (refusal : CloudRefusal) (next : Result S CloudRefusal) (a : S) → refuse_if t refusal next ≡ Ok a → (t ≡ false) × (next ≡ Ok a)
passed true refusal next a h = absurd cc
passed false refusal next a h = (refl, h)

of_the_draft : {S : Type 0} (o : Option DraftState) (next : DraftState → Result S CloudRefusal) (a : S) → of_draft o next ≡ Ok a → (d : DraftState) × (o ≡ Some d) × (next d ≡ Ok a)
of_the_draft None next a h = absurd cc
of_the_draft (Some d) next a h = (d, refl, h)

of_the_growing : {S : Type 0} (o : ObjectState) (next : List ℕ → Result S CloudRefusal) (a : S) → to_growing o next ≡ Ok a → (bytes : List ℕ) × (o ≡ Growing bytes) × (next bytes ≡ Ok a)
of_the_growing Absent next a h = absurd cc
of_the_growing (Growing bytes) next a h = (bytes, refl, h)
of_the_growing (Sealed bytes) next a h = absurd cc

of_the_sealed : {S : Type 0} (o : ObjectState) (next : List ℕ → Result S CloudRefusal) (a : S) → of_sealed o next ≡ Ok a → (bytes : List ℕ) × (o ≡ Sealed bytes) × (next bytes ≡ Ok a)
of_the_sealed Absent next a h = absurd cc
of_the_sealed (Growing bytes) next a h = absurd cc
of_the_sealed (Sealed bytes) next a h = (bytes, refl, h)

abbrev taken : {S : Type 0} → S → Result S CloudRefusal
taken a = Ok a

ok_same : {S : Type 0} (a b : S) → taken a ≡ taken b → a ≡ b
ok_same {S = S} a b h = ap (λ r. ok_or a r) h where
  ok_or : S → Result S CloudRefusal → S
  ok_or d (Ok x) = x
  ok_or d (Err refusal) = d

of_the_changed : (k : CloudState) (r : Result DraftState CloudRefusal) (a : CloudState) → with_draft k r ≡ Ok a → (d : DraftState) × (r ≡ Ok d) × (record k { draft = Some d } ≡ a)
of_the_changed k (Ok d) a h = (d, refl, ok_same (record k { draft = Some d }) a h)
of_the_changed k (Err refusal) a h = absurd cc

-- ---- files that fit

-- no file of a tree is longer than it may be
fits_at : (path : List (List ℕ)) (tree es : List TreeEntry) → AllBelongIn tree es → length (bytes_in (entry_at path es)) ≤ 44433408
fits_at path tree [] all = omega arith
fits_at path tree (e ∷ es) all =
    elim (same_path path e.path) as (λ v. length (bytes_in (cond v (Some e) (entry_at path es))) ≤ 44433408) [
      | true ↦ all.0.bytes_few
      | false ↦ fits_at path tree es all.1
    ]

all_fit : (tree es : List TreeEntry) → AllBelongIn tree es → AllFit es
all_fit tree [] all = tt
all_fit tree (e ∷ es) all = (all.0.bytes_few, all_fit tree es all.1)

draft_fits : (shown : ℕ) (o : Option DraftState) → IsDraftIfAny shown o → DraftFits o
draft_fits shown None is = tt
draft_fits shown (Some d) is = all_fit d.tree d.tree is.view.ordered.all_belong

-- so a cloud with views is one that messages can leave
pub IsCloudState-from-views : (k : CloudState) → HasViews k → IsCloudState k
IsCloudState-from-views k is = record {
  views = is;
  shown_fits = all_fit k.tree k.tree is.shown.ordered.all_belong;
  draft_fits = draft_fits k.epoch k.draft is.draft;
}

-- ---- changes of a draft

folder_there : (o : Option Kind) → not (is_folder o) ≡ false → o ≡ Some Folder
folder_there None h = absurd cc
folder_there (Some Folder) h = refl
folder_there (Some File) h = absurd cc

nothing_there : (o : Option TreeEntry) → is_some o ≡ false → o ≡ None
nothing_there None h = refl
nothing_there (Some e) h = absurd cc

few_more : (n : ℕ) → (n == 65535) ≡ false → n ≤ 65535 → n + 1 ≤ 65535
few_more n h le = grind (arith, nat_tests)

-- a draft stays one that a cloud can have
kept-add_entry : (shown : ℕ) (entry : TreeEntry) (d after : DraftState) → IsPath entry.path → is_root entry.path ≡ false → (entry.kind ≡ Folder → entry.bytes ≡ []) → length entry.bytes ≤ 44433408 → add_entry entry d ≡ Ok after → IsDraft shown d → IsDraft shown after
kept-add_entry shown entry d after valid below empty few_bytes h is =
    let first = passed (not (is_folder (kind_at (parent_of entry.path) d.tree))) BadParent _ after h in
    let second = passed (is_some (entry_at entry.path d.tree)) Twice _ after first.1 in
    let third = passed (length d.tree == 65535) TooMany _ after second.1 in
    let new : DraftState = record d { tree = insert_entry entry d.tree; object = Absent } in
    let there : kind_at (parent_of entry.path) d.tree ≡ Some Folder = folder_there (kind_at (parent_of entry.path) d.tree) first.0 in
    let belongs : BelongsIn d.tree entry = record { path_valid = valid; below_root = below; parent_there = there; folder_empty = empty; bytes_few = few_bytes } in
    let tree = IsTree-insert entry d.tree (nothing_there (entry_at entry.path d.tree) second.0) belongs is.view.ordered in
    let few = few_more (length d.tree) third.0 is.view.few in
    let count = length-insert_entry entry d.tree in
    subst (IsDraft shown) (ok_same new after third.1) (record {
      later = is.later;
      view = record { small_epoch = is.view.small_epoch; ordered = tree; few = omega arith };
      object_fits = omega arith;
    })

-- the object alone becomes another
kept-object : (shown : ℕ) (d : DraftState) (object : ObjectState) → length (object_bytes object) ≤ 44433408 → IsDraft shown d → IsDraft shown (record d { object = object })
kept-object shown d object h is = record { later = is.later; view = is.view; object_fits = h }

kept-start_object : (shown : ℕ) (d after : DraftState) → start_object d ≡ Ok after → IsDraft shown d → IsDraft shown after
kept-start_object shown d after h is =
    let went = passed (has_object d.object) ObjectOpen _ after h in
    subst (IsDraft shown) (ok_same (record d { object = Growing [] }) after went.1) (kept-object shown d (Growing []) (omega arith) is)

small_sum : (n : ℕ) → nat_lt 44433408 n ≡ false → n ≤ 44433408
small_sum n h = grind (arith, nat_tests)

kept-add_part : (shown : ℕ) (part : List ℕ) (d after : DraftState) → add_part part d ≡ Ok after → IsDraft shown d → IsDraft shown after
kept-add_part shown part d after h is =
    let grows = of_the_growing d.object _ after h in
    let bytes = grows.0 in
    let went = passed (nat_lt 44433408 (length bytes + length part)) _ _ after grows.2 in
    let small = small_sum (length bytes + length part) went.0 in
    subst (IsDraft shown) (ok_same (record d { object = Growing (bytes ++ part) }) after went.1)
    (kept-object shown d (Growing (bytes ++ part)) (omega (arith, length-append bytes part)) is)

kept-seal_object : (shown : ℕ) (d after : DraftState) → seal_object d ≡ Ok after → IsDraft shown d → IsDraft shown after
kept-seal_object shown d after h is =
    let grows = of_the_growing d.object _ after h in
    let fits : length grows.0 ≤ 44433408 = subst (λ o. length (object_bytes o) ≤ 44433408) grows.1 is.object_fits in
    subst (IsDraft shown) (ok_same (record d { object = Sealed grows.0 }) after grows.2) (kept-object shown d (Sealed grows.0) fits is)

file_is_no_folder : File ≡ Folder → ⊥
file_is_no_folder h = cc

kept-enter : (shown : ℕ) (path : List (List ℕ)) (kind : Kind) (d after : DraftState) → IsPath path → is_root path ≡ false → enter path kind d ≡ Ok after → IsDraft shown d → IsDraft shown after
kept-enter shown path Folder d after valid below h is =
    let went = passed (has_object d.object) ObjectOpen _ after h in
    kept-add_entry shown (record { path = path; kind = Folder; bytes = [] }) d after valid below (λ folder. refl) (omega arith) went.1 is
kept-enter shown path File d after valid below h is =
    let sealed = of_the_sealed d.object _ after h in
    let fits : length sealed.0 ≤ 44433408 = subst (λ o. length (object_bytes o) ≤ 44433408) sealed.1 is.object_fits in
    kept-add_entry shown (record { path = path; kind = File; bytes = sealed.0 }) d after valid below (λ folder. absurd (file_is_no_folder folder)) fits sealed.2 is

kept-keep : (shown : ℕ) (files : List TreeEntry) (path origin : List (List ℕ)) (d after : DraftState) → IsTree files → IsPath path → is_root path ≡ false → keep files path origin d ≡ Ok after → IsDraft shown d → IsDraft shown after
kept-keep shown files path origin d after tree valid below h is =
    let went = passed (has_object d.object) ObjectOpen _ after h in
    let found = passed (not (is_file (kind_at origin files))) NoSuchEntry _ after went.1 in
    kept-add_entry shown (record { path = path; kind = File; bytes = bytes_in (entry_at origin files) }) d after valid below (λ folder. absurd (file_is_no_folder folder)) (fits_at origin files files tree.all_belong) found.1 is

-- ---- messages

-- a cloud stays one with views, and what it shows goes on
pub record KeptCloud (k after : CloudState) : Type 0 where
  pub views : HasViews after
  pub rises : RisesTo k after

-- a message that leaves what is shown
same_shown : (k after : CloudState) → after.epoch ≡ k.epoch → after.tree ≡ k.tree → RisesTo k after
same_shown k after epoch tree = record { never_falls = omega (arith, epoch); same_view = λ e. tree }

kept-change : (k after : CloudState) (change : DraftState → Result DraftState CloudRefusal) → ((d new : DraftState) → change d ≡ Ok new → IsDraft k.epoch d → IsDraft k.epoch new) → change_draft k change ≡ Ok after → HasViews k → KeptCloud k after
kept-change k after change keeps h is =
    let drafted = of_the_draft k.draft _ after h in
    let changed = of_the_changed k (change drafted.0) after drafted.2 in
    let draft : IsDraft k.epoch drafted.0 = subst (IsDraftIfAny k.epoch) drafted.1 is.draft in
    subst (KeptCloud k) changed.2 (record {
      views = record { id_whole = is.id_whole; shown = is.shown; draft = keeps drafted.0 changed.0 changed.1 draft };
      rises = same_shown k (record k { draft = Some changed.0 }) refl refl;
    })

later_epoch : (shown epoch : ℕ) → not (nat_lt shown epoch) ≡ false → shown < epoch
later_epoch shown epoch h = grind (arith, nat_tests)

-- a message that is taken keeps a cloud one with views
pub kept-step : (k : CloudState) (m : Msg) (after : CloudState) → cloud_step k m ≡ Ok after → HasViews k → KeptCloud k after
kept-step k (Claim id) after h is =
    let went = passed (not (are_zeros k.id)) Claimed _ after h in
    subst (KeptCloud k) (ok_same (record k { id = id.id }) after went.1) (record {
      views = record { id_whole = id.whole; shown = is.shown; draft = is.draft };
      rises = same_shown k (record k { id = id.id }) refl refl;
    })
kept-step k (Begin epoch) after h is =
    let went = passed (not (nat_lt k.epoch epoch.number)) (NotLater k.epoch epoch.number) _ after h in
    let empty : DraftState = record { epoch = epoch.number; tree = []; object = Absent } in
    let tree : IsTree [] = record { in_order = tt; all_belong = tt } in
    subst (KeptCloud k) (ok_same (record k { draft = Some empty }) after went.1) (record {
      views = record {
        id_whole = is.id_whole;
        shown = is.shown;
        draft = record {
          later = later_epoch k.epoch epoch.number went.0;
          view = record { small_epoch = epoch.small; ordered = tree; few = omega arith };
          object_fits = omega arith;
        };
      };
      rises = same_shown k (record k { draft = Some empty }) refl refl;
    })
kept-step k Object after h is = kept-change k after start_object (λ d new. kept-start_object k.epoch d new) h is
kept-step k (Part bytes) after h is = kept-change k after (add_part bytes.bytes) (λ d new. kept-add_part k.epoch bytes.bytes d new) h is
kept-step k Seal after h is = kept-change k after seal_object (λ d new. kept-seal_object k.epoch d new) h is
kept-step k (Enter path kind) after h is = kept-change k after (enter path.path kind) (λ d new. kept-enter k.epoch path.path kind d new path.valid path.below) h is
kept-step k (Keep path origin) after h is = kept-change k after (keep k.tree path.path origin.path) (λ d new. kept-keep k.epoch k.tree path.path origin.path d new is.shown.ordered path.valid path.below) h is
kept-step k (Publish epoch) after h is =
    let drafted = of_the_draft k.draft _ after h in
    let same = passed (not (drafted.0.epoch == epoch.number)) NoDraft _ after drafted.2 in
    let went = passed (has_object drafted.0.object) ObjectOpen _ after same.1 in
    let draft : IsDraft k.epoch drafted.0 = subst (IsDraftIfAny k.epoch) drafted.1 is.draft in
    subst (KeptCloud k) (ok_same (record k { epoch = drafted.0.epoch; tree = drafted.0.tree; draft = None }) after went.1) (record {
      views = record { id_whole = is.id_whole; shown = draft.view; draft = tt };
      rises = record { never_falls = omega (arith, draft.later); same_view = λ e. absurd (omega (arith, draft.later, e)) };
    })

pub HasViews-step : (k : CloudState) (m : Msg) (after : CloudState) → cloud_step k m ≡ Ok after → HasViews k → HasViews after
HasViews-step k m after h is = (kept-step k m after h is).views

pub IsCloudState-step : (k : CloudState) (m : Msg) (after : CloudState) → cloud_step k m ≡ Ok after → IsCloudState k → IsCloudState after
IsCloudState-step k m after h is = IsCloudState-from-views after (HasViews-step k m after h is.views)

-- a call that refuses a message, or finds no memory, changes nothing
pub unchanged : {S : Type 0} (step : Result S CloudRefusal) (before after : S) (refusal : CloudRefusal) → Takes step before after (Err refusal) → after ≡ before
unchanged step before after Memory h = h
unchanged step before after Claimed h = h.1
unchanged step before after NoDraft h = h.1
unchanged step before after ObjectOpen h = h.1
unchanged step before after NoObject h = h.1
unchanged step before after (TooLarge length) h = h.1
unchanged step before after BadParent h = h.1
unchanged step before after Twice h = h.1
unchanged step before after TooMany h = h.1
unchanged step before after (NotLater published asked) h = h.1
unchanged step before after NoSuchEntry h = h.1

-- a call that takes a message keeps a cloud one with views, and one that messages leave such a one
pub HasViews-taken : (k : CloudState) (m : Msg) (after : CloudState) (result : Result (Unit {0}) CloudRefusal) → Takes (cloud_step k m) k after result → HasViews k → HasViews after
HasViews-taken k m after (Ok done) h is = HasViews-step k m after h is
HasViews-taken k m after (Err refusal) h is = subst HasViews (sym (unchanged (cloud_step k m) k after refusal h)) is

pub IsCloudState-taken : (k : CloudState) (m : Msg) (after : CloudState) (result : Result (Unit {0}) CloudRefusal) → Takes (cloud_step k m) k after result → IsCloudState k → IsCloudState after
IsCloudState-taken k m after (Ok done) h is = IsCloudState-step k m after h is
IsCloudState-taken k m after (Err refusal) h is = subst IsCloudState (sym (unchanged (cloud_step k m) k after refusal h)) is

pub ruleset keeping = (HasViews-taken, IsCloudState-taken)
