-- An operation on the live view is an event of the folder.
use Rattle.std.proofs.Common.{◌≡◌, ℕ, List, [], ◌∷◌, ◌++◌, Option, Some, Ok, refl, sym, subst, ap, ◌∙◌, arith, inl, inr}
use Rattle.vb_disk.specs.States.{DiskState}
use Rattle.vb_event.specs.Answers.{faults_of, MayAnswer}
use Rattle.vb_event.specs.Core.{Core}
use Rattle.vb_event.specs.declared.answer.FaultKind.{FaultKind}
use Rattle.vb_event.specs.declared.answer.FaultKind.TheVariants.{Damaged, Disk, Memory}
use Rattle.std.specs.List.{Contains}
use Rattle.vb_pages.specs.declared.page_error.PageError.{PageError}
use Rattle.vb_pages.specs.declared.page_error.PageError.TheVariants as pages
use Rattle.vb_event.specs.declared.answer.FolderAnswer.TheVariants as answers
use Rattle.vb_event.specs.declared.event.FolderEvent.TheVariants as events
use Rattle.vb_hist.specs.Histories.{Recorded}
use Rattle.vb_hist.specs.declared.entry.Entry.{Entry}
use Rattle.vb_hist.specs.declared.entry.Entry.TheVariants.{Call, End}
use Rattle.vb_active.specs.Views.{ActiveState}
use Rattle.vb_local.specs.Events.{Calls, PlaysOn}
use Rattle.vb_local.specs.Shown.{LocalTrees, ShowsOn}
use Rattle.vb_local.specs.States.{LocalState}
use Rattle.vb_tree.specs.Operations.{tree_after_reply}
use Rattle.vb_tree.specs.declared.operation.Op.{Op}
use Rattle.vb_tree.specs.declared.reply.Reply.{Reply}
use Rattle.vb_tree.specs.declared.reply.Reply.TheVariants.{Done, Bytes, Names, Info, Refused}
use Rattle.vb_tree.specs.declared.tree.Limits.{Limits}
use Rattle.vb_tree.specs.declared.tree.TreeEntry.{TreeEntry}
use Rattle.vb_folder.specs.Events.{page_fault, Makes}
use Rattle.vb_folder.specs.Ledgers.{IsKept, LedgerState, core_of}
use Rattle.vb_folder.proofs.Given.{some_given, some-is-given, still-makes, unnoted}

-- the folder with another live view and another history
abbrev pub with_live : LedgerState → ActiveState → Recorded → LedgerState
with_live s live history = record s { local = record s.local { live = live }; history = history }

-- its parts hang together as before
pub live-kept : (s : LedgerState) (live : ActiveState) (history : Recorded) → IsKept s → IsKept (with_live s live history)
live-kept s live history kept = record {
  left = kept.left;
  on = kept.on;
  frozen = kept.frozen;
  committed = kept.committed;
  view = kept.view;
  past = kept.past;
  doubt = kept.doubt;
  small = kept.small;
  sends = λ frozen at some. record { can = (kept.sends frozen at some).can; apart = (kept.sends frozen at some).apart; stands = (kept.sends frozen at some).stands; epoch = (kept.sends frozen at some).epoch };
  now = λ other. record { stands = (kept.now other).stands; committed = (kept.now other).committed; sure = (kept.now other).sure };
}

-- ---- an answer

-- the folder of which these are the limits, the live tree and the history
abbrev told_as : Core → Limits → List TreeEntry → List Entry → Core
told_as core limits active history = record core { limits = limits; active = active; history = history }

-- another live view with the same limits, and another history
live-core : (s : LedgerState) (local : LocalState) (history : Recorded) (t : LocalTrees) (active : List TreeEntry) (entries : List Entry) → local ≡ record s.local { live = local.live } → local.live.index.limits ≡ s.local.live.index.limits → history.entries ≡ entries → core_of (record s { local = local; history = history }) (record t { active = active }) ≡ told_as (core_of s t) s.local.live.index.limits active entries
live-core s local history t active entries others limits noted =
    ap (λ (x : LocalState). core_of (record s { local = x; history = history }) (record t { active = active })) others
    ∙ ap (λ (l : Limits). told_as (core_of s t) l active history.entries) limits
    ∙ ap (told_as (core_of s t) s.local.live.index.limits active) noted

-- what the plain tree answers is noted, and its tree is the live one
reply-shows : (op : Op) (reply : Reply) (s : LedgerState) (local : LocalState) (d : DiskState) (t : LocalTrees) → PlaysOn d s.local local op t reply → ShowsOn d local (record t { active = tree_after_reply t.active op reply })
reply-shows op reply s local d t plays =
    subst (λ (r : Reply). ShowsOn d local (record t { active = tree_after_reply t.active op r })) (sym plays.said) plays.shows

pub called-makes : (writer : ℕ) (op : Op) (reply : Reply) (s : LedgerState) (local : LocalState) (history : Recorded) (before after : Option DiskState) → Calls s.local local op before (Ok reply) → after ≡ before → history.entries ≡ s.history.entries ++ Call writer op reply ∷ [] → Makes (events.Call writer op) (answers.Called reply) s (record s { local = local; history = history }) before after
called-makes writer op reply s local history before after calls same noted = record {
  given = some_given;
  is_given = some-is-given;
  pushed = λ t. noted;
  shown = λ d t told shows. record {
    next = d;
    told = same ∙ told;
    shows = reply-shows op reply s local d t (calls.plays d t told shows);
    may = inl (ap answers.Called (calls.plays d t told shows).said);
    core = live-core s local history t (tree_after_reply t.active op reply) _ calls.others calls.performs.limits noted;
  };
}

-- ---- a fault

-- an operation may fail by each of these
may-fail : (writer : ℕ) (op : Op) (core : Core) (kind : FaultKind) → Contains (faults_of core (events.Call writer op)) kind → MayAnswer some_given core (events.Call writer op) (answers.Fault kind)
may-fail writer op core kind may = inr (kind, refl, may)

pub damaged-may : Contains (Damaged ∷ Disk ∷ Memory ∷ []) Damaged
damaged-may = (0, omega arith, refl)

pub disk-may : Contains (Damaged ∷ Disk ∷ Memory ∷ []) Disk
disk-may = (1, omega arith, refl)

pub memory-may : Contains (Damaged ∷ Disk ∷ Memory ∷ []) Memory
memory-may = (2, omega arith, refl)

-- each error of a page is one of these
pub page-may : (error : PageError) → Contains (Damaged ∷ Disk ∷ Memory ∷ []) (page_fault error)
page-may (pages.Damaged place kept found) = damaged-may
page-may pages.DiskFault = disk-may
page-may pages.Memory = memory-may

-- nothing is noted, and the views stay or show the same
pub fault-makes : (writer : ℕ) (op : Op) (kind : FaultKind) (s : LedgerState) (local : LocalState) (history : Recorded) (before after : Option DiskState) → Contains (Damaged ∷ Disk ∷ Memory ∷ []) kind → local ≡ record s.local { live = local.live } → local.live.index.limits ≡ s.local.live.index.limits → ((d : DiskState) (t : LocalTrees) → before ≡ Some d → ShowsOn d s.local t → ShowsOn d local t) → after ≡ before → history.entries ≡ s.history.entries → Makes (events.Call writer op) (answers.Fault kind) s (record s { local = local; history = history }) before after
fault-makes writer op kind s local history before after may others limits stays same noted = record {
  given = some_given;
  is_given = some-is-given;
  pushed = λ t. unnoted s history noted;
  shown = λ d t told shows. record {
    next = d;
    told = same ∙ told;
    shows = stays d t told shows;
    may = may-fail writer op (core_of s t) kind may;
    core = live-core s local history t t.active _ others limits (unnoted s history noted);
  };
}

-- an operation that failed leaves equal views
pub failed-makes : (writer : ℕ) (op : Op) (kind : FaultKind) (s : LedgerState) (local : LocalState) (history : Recorded) (before after : Option DiskState) → Contains (Damaged ∷ Disk ∷ Memory ∷ []) kind → local ≡ s.local → after ≡ before → history.entries ≡ s.history.entries → Makes (events.Call writer op) (answers.Fault kind) s (record s { local = local; history = history }) before after
failed-makes writer op kind s local history before after may stays same noted =
    fault-makes writer op kind s local history before after may (stays ∙ ap (λ (x : LocalState). record s.local { live = x.live }) (sym stays)) (ap (λ (x : LocalState). x.live.index.limits) stays)
    (λ d t told shows. subst (λ (x : LocalState). ShowsOn d x t) (sym stays) shows) same noted

-- ---- an operation that was answered, and whose reply wasn't copied

-- a reply that isn't Done leaves the tree
left-tree : (tree : List TreeEntry) (op : Op) (reply : Reply) → (reply ≡ Done → ⊥) → tree_after_reply tree op reply ≡ tree
left-tree tree op Done other = absurd (other refl)
left-tree tree op (Bytes bytes) other = refl
left-tree tree op (Names names) other = refl
left-tree tree op (Info kind length) other = refl
left-tree tree op (Refused reason) other = refl

-- the views show the same then
pub unnoted-makes : (writer : ℕ) (op : Op) (reply : Reply) (s : LedgerState) (local : LocalState) (history : Recorded) (before after : Option DiskState) → (reply ≡ Done → ⊥) → Calls s.local local op before (Ok reply) → after ≡ before → history.entries ≡ s.history.entries → Makes (events.Call writer op) (answers.Fault Memory) s (record s { local = local; history = history }) before after
unnoted-makes writer op reply s local history before after other calls same noted =
    fault-makes writer op Memory s local history before after memory-may calls.others calls.performs.limits
    (λ d t told shows. subst (λ (tree : List TreeEntry). ShowsOn d local (record t { active = tree })) (left-tree t.active op reply other) (reply-shows op reply s local d t (calls.plays d t told shows)))
    same noted

-- ---- the end of a writer

pub ended-makes : (writer : ℕ) (s : LedgerState) (history : Recorded) (told : Option DiskState) → history.entries ≡ s.history.entries ++ End writer ∷ [] → Makes (events.End writer) answers.Ended s (record s { history = history }) told told
ended-makes writer s history told noted =
    still-makes (events.End writer) answers.Ended s history (End writer ∷ []) told (record { trees = λ t. refl; pushed = λ t. refl; core = λ t. refl }) (λ t. inl refl) noted
