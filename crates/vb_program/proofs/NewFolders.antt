-- A new folder is quiet.
use Rattle.std.proofs.Common.{◌≡◌, ◌≢◌, ◌⊎◌, inl, inr, ⊎_elim, ℕ, ◌+◌, ◌*◌, ◌<◌, ◌≤◌, ◌==◌, Bool, true, false, List, [], length, Option, Some, None, Result, Ok, Err, IfOk, IfSome, refl, sym, ap, subst, ◌∙◌, arith}
use Rattle.std.specs.Prelude.{if◌then◌else◌, nat_lt}
use Rattle.std.specs.Option.{is_some}
use Rattle.std.proofs.lemmas.Bool.Decides.{nat_tests}
use Rattle.vb_cause.specs.Causes.{left_of}
use Rattle.vb_cloud.specs.Machine.{CloudState, new_cloud}
use Rattle.vb_core.specs.Folders.{disk_in, ledger_in, link_in}
use Rattle.vb_core.specs.Greetings.{link_seen, AnswersShown, Decides, Greets, LinkSeen}
use Rattle.vb_core.specs.Opened.{opening_of, Begins, IsOpened, IsSoundOver}
use Rattle.vb_core.specs.declared.start_error.StartError.{StartError}
use Rattle.vb_core.specs.declared.start_error.StartError.TheVariants as starts
use Rattle.vb_disk.specs.Memory.{failures_left_of, failures_of, state_of}
use Rattle.vb_disk.specs.declared.memory_disk.MemoryDisk.{MemoryDisk}
use Rattle.vb_during.specs.TornPages.{IsAllWhole}
use Rattle.vb_folder.specs.Ledgers.{core_of, LedgerState}
use Rattle.vb_folder.specs.Uploads.{IsSoundWith}
use Rattle.vb_fresh.specs.Fresh.{IsNewStore}
use Rattle.vb_geometry.specs.Layout.{page_limit, IsStoreSize, StoreSize}
use Rattle.vb_head.specs.declared.head.Head.{Head}
use Rattle.vb_event.specs.Core.{sequences_left}
use Rattle.vb_hist.specs.Histories.{folder_after, Recorded}
use Rattle.vb_hist.specs.Legal.{folder_at, Opening}
use Rattle.vb_hist.specs.Quiet.{last_epoch_of}
use Rattle.vb_index.specs.Indexes.{IndexState}
use Rattle.vb_link.specs.Links.{KeepsFailures}
use Rattle.vb_link.specs.Memory.{cloud_of, link_failures_left_of}
use Rattle.vb_link.specs.Views.{info_of, view_of}
use Rattle.vb_link.specs.declared.view.ViewInfo.{ViewInfo}
use Rattle.vb_local.specs.Events.{one_tree, standing_of}
use Rattle.vb_msg.specs.Ranges.{are_zeros}
use Rattle.vb_store.specs.Formats.{made_head, CanFormat}
use Rattle.vb_store.specs.Views.{empty_index, ViewState}
use Rattle.vb_store.specs.declared.view.Mounted.{Mounted}
use Rattle.vb_tree.specs.declared.tree.Limits.{Limits}
use Rattle.vb_tree.specs.declared.tree.TreeEntry.{TreeEntry}
use Rattle.vb_program.specs.Playing.{cloud_in, disk_of, history_in, last_epoch_in, limits_in, rehearsal_opening, HasWholeDevices, IsQuiet, IsRehearsed, MemoryFolder}
use Rattle.vb_program.specs.Run.{limits_of_disk}
use Rattle.vb_program.proofs.Sendings.{link-none}

-- a disk of a script can be formatted
pub can-format : (id : List ℕ) (blocks nodes : ℕ) → are_zeros id ≡ false → IsStoreSize blocks nodes → CanFormat id blocks nodes
can-format id blocks nodes named size = record {
  named = named;
  at_most = size.most_blocks;
  nodes_low = size.least_nodes;
  nodes_high = size.most_nodes;
  space = (let pages = size.least_pages in omega (arith, pages));
}

-- a new cloud behind a link that lists no failure
abbrev pub IsNewCloud : LinkSeen → Type 0
IsNewCloud seen = (seen.cloud ≡ Some new_cloud) × (seen.left ≡ Some 0)

-- a start over it answers its epoch, or finds no memory
pub started-epoch : (head : Head) (before after : LinkSeen) (answer : Result ℕ StartError) → IsNewCloud before → Greets head before after answer → IfOk answer (λ published. published ≡ 0)
started-epoch head before after (Ok published) new greets = by greets.shown (greets.of_cloud new_cloud new.0) greets.decides where
  by : (shown : Option ViewInfo) → IfSome shown (λ info. info ≡ info_of (view_of new_cloud)) → Decides head shown (Ok published) → published ≡ 0
  by None is decides = absurd decides
  by (Some info) is decides = decides.1 ∙ ap (λ (i : ViewInfo). i.epoch) is
started-epoch head before after (Err why) new greets = tt

pub started-refused : (head : Head) (before after : LinkSeen) (why : StartError) → IsNewCloud before → Greets head before after (Err why) → why ≡ starts.Memory
started-refused head before after (starts.Foreign local cloud) new greets = absurd (by greets.shown (greets.of_cloud new_cloud new.0) greets.decides) where
  by : (shown : Option ViewInfo) → IfSome shown (λ info. info ≡ info_of (view_of new_cloud)) → Decides head shown (Err (starts.Foreign local cloud)) → ⊥
  by None is decides = decides
  by (Some info) is decides =
      let named = decides.0.named in
      let none : are_zeros info.id ≡ true = ap (λ (i : ViewInfo). are_zeros i.id) is in
      cc
started-refused head before after (starts.Behind local published) new greets = absurd (by greets.shown (greets.of_cloud new_cloud new.0) greets.decides) where
  by : (shown : Option ViewInfo) → IfSome shown (λ info. info ≡ info_of (view_of new_cloud)) → Decides head shown (Err (starts.Behind local published)) → ⊥
  by None is decides = decides
  by (Some info) is decides =
      let later = decides.1 in
      let none : info.epoch ≡ 0 = ap (λ (i : ViewInfo). i.epoch) is in
      omega arith
started-refused head before after starts.LinkFault new greets =
    let less = greets.used new_cloud new.0 (ap is_some new.1) refl in
    let zero : left_of before.left ≡ 0 = ap left_of new.1 in
    absurd (omega arith)
started-refused head before after starts.Memory new greets = refl

-- ---- the folder

-- what a start gives of a folder over a new store
pub record Started (id : List ℕ) (blocks nodes : ℕ) (m : Mounted MemoryDisk) (before : LinkSeen) (folder : MemoryFolder) : Type 0 where
  pub store : IsNewStore id blocks nodes m
  pub cloud : IsNewCloud before
  pub after : LinkSeen
  pub after_left : after.left ≡ link_failures_left_of (link_in folder)
  pub greets : Greets m.view.head before after (Ok (ledger_in folder).published)
  pub disk : disk_in folder ≡ m.disk
  pub begins : Begins m.view (ledger_in folder)
  pub opened : IsOpened m.view (ledger_in folder) (Some (state_of m.disk)) before.cloud (Some (cloud_in folder))

pub started-quiet : (id : List ℕ) (blocks nodes : ℕ) (m : Mounted MemoryDisk) (before : LinkSeen) (folder : MemoryFolder) → Started id blocks nodes m before folder → IsQuiet folder
started-quiet id blocks nodes m before folder started = record {
  trees = one_tree [];
  rehearsed = record { sound = sound; devices = devices; pace = pace };
  none_stands = started.begins.local.standing ∙ ap (λ b. if b then Some m.view.head.epoch else None) not_behind;
  rested = started.begins.stage;
  sure = started.begins.unsure;
  last = epoch ∙ sym (ap last_epoch_of entries);
  published = published ∙ sym epoch;
  active = sym (ap (folder_after []) entries);
  shown_epoch = shown ∙ sym epoch;
  shown = λ unfrozen. tree;
} where
  s : LedgerState
  s = ledger_in folder

  published : s.published ≡ 0
  published = started-epoch m.view.head before started.after (Ok s.published) started.cloud started.greets

  head : m.view.head ≡ made_head id blocks nodes
  head = started.store.head

  epoch : s.epoch ≡ 0
  epoch = started.begins.epoch ∙ ap (λ (h : Head). h.epoch) head

  not_behind : nat_lt s.published m.view.head.epoch ≡ false
  not_behind = (let e = ap (λ (h : Head). h.epoch) head in grind (arith, nat_tests, e, published))

  entries : history_in folder ≡ []
  entries = ap (λ (r : Recorded). r.entries) started.begins.history

  limits : limits_in folder ≡ m.view.index.limits
  limits = ap (λ live. live.index.limits) started.begins.local.live

  over : IsSoundOver (opening_of m.view [] new_cloud 0 0) s (Some (state_of m.disk)) (state_of m.disk) [] (Some (cloud_in folder))
  over = started.opened (state_of m.disk) [] new_cloud 0 0 refl started.store.rests started.store.tree started.cloud.0

  opening : opening_of m.view [] new_cloud 0 0 ≡ rehearsal_opening (limits_in folder)
  opening =
      ap (λ (l : Limits). record { limits = l; base = []; start = m.view.head.epoch; published = 0; published_tree = []; disk_faults = 0; link_faults = 0 }) (sym limits)
      ∙ ap (λ (n : ℕ). record { limits = limits_in folder; base = []; start = n; published = 0; published_tree = []; disk_faults = 0; link_faults = 0 }) (ap (λ (h : Head). h.epoch) head)

  next : over.next ≡ cloud_in folder
  next = (let told = sym over.with.cloud_told in cc told)

  sound : IsSoundWith (rehearsal_opening (limits_in folder)) s (Some (disk_of folder)) (Some (cloud_in folder)) (one_tree []) (cloud_in folder)
  sound = subst (λ (o : Opening). IsSoundWith o s (Some (disk_of folder)) (Some (cloud_in folder)) (one_tree []) (cloud_in folder)) opening
      (subst (λ (k : CloudState). IsSoundWith (opening_of m.view [] new_cloud 0 0) s (Some (disk_of folder)) (Some (cloud_in folder)) (one_tree []) k) next
      (subst (λ (d : MemoryDisk). IsSoundWith (opening_of m.view [] new_cloud 0 0) s (Some (state_of d)) (Some (cloud_in folder)) (one_tree []) over.next) (sym started.disk) over.with))

  view : s.local.view ≡ m.view
  view = started.begins.local.view

  devices : HasWholeDevices folder
  devices = record {
    whole = subst (λ (d : MemoryDisk). IsAllWhole (state_of d)) (sym started.disk) started.store.whole;
    disk = ap failures_left_of started.disk ∙ ap (λ fs. Some (length fs)) started.store.failures;
    link = link-none 0 (length (link_in folder).fails) (subst (λ left. KeepsFailures (Some 0) left) started.after_left (subst (λ left. KeepsFailures left started.after.left) started.cloud.1 started.greets.left)) refl;
    places = (
        let had : s.local.view.head.blocks ≡ blocks = ap (λ (v : ViewState). v.head.blocks) view ∙ ap (λ (h : Head). h.blocks) head in
        let size : (disk_of folder).size ≡ blocks = ap (λ (d : MemoryDisk). (state_of d).size) started.disk ∙ started.store.seen in
        omega (arith, had, size)
        );
  }

  pace : s.local.view.head.sequence + sequences_left s.stage ≤ 2 * s.epoch + 2
  pace =
      let taken : s.local.view.head.sequence ≡ 2 = ap (λ (v : ViewState). v.head.sequence) view ∙ ap (λ (h : Head). h.sequence) head in
      let none : sequences_left s.stage ≡ 0 = ap sequences_left started.begins.stage in
      omega (arith, taken, none)

  shown : (cloud_in folder).epoch ≡ 0
  shown = ⊎_elim (λ is. is ∙ published) (λ doubt. absurd (let none = started.begins.unsure in cc)) sound.cloud_sound.epoch

  tree : (cloud_in folder).tree ≡ []
  tree = sound.cloud_sound.tree ∙ ap (λ n. if n == 0 then [] else folder_at (rehearsal_opening (limits_in folder)) (history_in folder) n) shown
