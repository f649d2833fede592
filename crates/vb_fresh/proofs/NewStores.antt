-- The end of a mount of a disk in memory that was just made an empty store: a new store.
use Rattle.std.proofs.Common.{◌≡◌, ℕ, ◌+◌, ◌-◌, ◌<◌, ◌≤◌, inl, inr, false, zero, suc, List, [], ◌∷◌, length, Option, Some, None, Result, Ok, refl, sym, ap, subst, ◌∙◌, arith}
use Rattle.std.specs.List.{Contains}
use Rattle.std.proofs.lemmas.Bool.{cases_lt}
use Rattle.std.proofs.lemmas.List.Elements.{All-cons, All-contains, All-nil}
use Rattle.vb_disk.specs.declared.cell.Cell.{Cell}
use Rattle.vb_disk.specs.declared.memory_disk.MemoryDisk.{MemoryDisk}
use Rattle.vb_disk.specs.Cells.{synced_cell}
use Rattle.vb_disk.specs.Memory.{failures_of, state_of}
use Rattle.vb_disk.specs.States.{DiskState, IsDiskState, new_state}
use Rattle.vb_disk.specs.Valid.{IsDiskState-state_of}
use Rattle.vb_head.specs.declared.head.Head.{Head}
use Rattle.vb_index.specs.declared.held.Held.{Held}
use Rattle.vb_index.specs.Contents.{HasTree}
use Rattle.vb_index.specs.Indexes.{IndexState}
use Rattle.vb_index.proofs.Contents.{fresh-tree}
use Rattle.vb_journal.specs.declared.recover.Ahead.{Ahead}
use Rattle.vb_journal.specs.declared.recover_error.RecoverError.{RecoverError}
use Rattle.vb_journal.specs.Outcomes.{reads_of}
use Rattle.vb_journal.specs.Progress.{IsWholeAt}
use Rattle.vb_journal.specs.Recoveries.{journal_of}
use Rattle.vb_journal.specs.Recovering.{IsHomeOf, IsRecovered}
use Rattle.vb_store.specs.declared.mount_phase.MountPhase.{MountPhase}
use Rattle.vb_store.specs.declared.mount_phase.MountPhase.TheVariants.{Recovering, Reading, Ready}
use Rattle.vb_store.specs.declared.view.Mounted.{Mounted}
use Rattle.vb_store.specs.Clear.{first_candidates}
use Rattle.vb_store.specs.EmptyStores.{IsMadeEmpty}
use Rattle.vb_store.specs.Formats.{CanFormat, made_head}
use Rattle.vb_store.specs.Metadata.{Metadata}
use Rattle.vb_store.specs.MountSteps.{MountSteps}
use Rattle.vb_store.specs.Mounts.{IsMounted, IsMounting, ready_view}
use Rattle.vb_store.specs.MountsBeside.{IsMountedBeside, IsReadyBeside}
use Rattle.vb_store.specs.OneOf.{TreeView, empty_view}
use Rattle.vb_store.specs.Settled.{IsSettled}
use Rattle.vb_store.specs.Views.{HasNoneBegun, IsView, ViewState, empty_index, limits_of}
use Rattle.vb_tree.specs.declared.tree.Limits.{Limits}
use Rattle.vb_views.specs.AtRest.{IsAtRestFor}
use Rattle.vb_views.specs.Reads.{pages_by}
use Rattle.vb_views.proofs.EmptyAtRest.{empty-view}
use Rattle.vb_views.proofs.SettledViews.{settled-rests}
use Rattle.vb_fresh.specs.Fresh.{IsNewStore}
use Rattle.vb_fresh.proofs.NewMounts.{IsMadeEmpty-new, IsNewMount, beside-after, failures-after, known-after, made_disk, memory_view, metadata-of_new}

-- ---- what a mount knows that is ready

mounted-ready : (phase : MountPhase) (v : ViewState) (begun d : DiskState) → ready_view phase ≡ Some v → IsMounting phase begun d → IsMounted v begun d
mounted-ready (Recovering r) v begun d ready known = absurd (cc ready)
mounted-ready (Reading stage) v begun d ready known = absurd (cc ready)
mounted-ready (Ready r) v begun d ready known = subst (λ (w : ViewState). IsMounted w begun d) (cc ready) known

beside-ready : (phase : MountPhase) (v : ViewState) (views : List TreeView) (d : DiskState) → ready_view phase ≡ Some v → IsMountedBeside views false phase d → IsReadyBeside views false v d
beside-ready (Recovering r) v views d ready beside = absurd (cc ready)
beside-ready (Reading stage) v views d ready beside = absurd (cc ready)
beside-ready (Ready r) v views d ready beside = subst (λ (w : ViewState). IsReadyBeside views false w d) (cc ready) beside

-- the disk is settled for the one view
only_view : (x y : TreeView) → Contains (x ∷ []) y → y ≡ x
only_view x y among = All-contains (λ z. z ≡ x) (x ∷ []) y (All-cons (λ z. z ≡ x) x [] refl (All-nil (λ z. z ≡ x))) among

settled_new : (x : TreeView) (v : ViewState) (d : DiskState) → IsReadyBeside (x ∷ []) false v d → IsSettled x d
settled_new x v d ready = subst (λ (y : TreeView). IsSettled y d) (only_view x ready.its.view ready.its.listed) ready.its.is

-- ---- no place is hurt

hurt_of : Cell → Option (List ℕ)
hurt_of cell = cell.hurt

-- on the disk when the mount begins
behind_homes : (id : List ℕ) (blocks nodes place : ℕ) → IsMadeEmpty id blocks nodes (new_state 0) (made_disk id blocks nodes) → 2 + nodes ≤ place → IsWholeAt (made_disk id blocks nodes) place
unfolding hurt_of
behind_homes id blocks nodes place made behind = elim (cases_lt place blocks) [
  | inl within ↦ ap hurt_of (made.kept place behind within)
  | inr past ↦ ap hurt_of (made.past place past)
]

whole_home : (id : List ℕ) (blocks nodes slot : ℕ) (images : List (List ℕ)) (cell : Cell) → IsMadeEmpty id blocks nodes (new_state 0) (made_disk id blocks nodes) → slot < nodes → IsHomeOf (made_disk id blocks nodes) images slot cell → hurt_of cell ≡ None
unfolding hurt_of
whole_home id blocks nodes slot images cell made within (inl stands) = ap hurt_of stands.stands ∙ ap hurt_of (made.store.homes slot within)
whole_home id blocks nodes slot images cell made within (inr taken) = ap hurt_of taken.holds

-- a place of the homes, or behind them
whole_behind : (id : List ℕ) (blocks nodes slot : ℕ) (head : Head) (d : DiskState) → IsMadeEmpty id blocks nodes (new_state 0) (made_disk id blocks nodes) → head ≡ made_head id blocks nodes → IsRecovered (made_disk id blocks nodes) head d → IsWholeAt d (2 + slot)
unfolding hurt_of
whole_behind id blocks nodes slot head d made is recovered =
    let same : head.nodes ≡ nodes = ap (λ (h : Head). h.nodes) is in
    elim (cases_lt slot nodes) [
      | inl within ↦ whole_home id blocks nodes slot (journal_of (reads_of (made_disk id blocks nodes)) recovered.chosen) (d.cells (2 + slot)) made within (recovered.homes slot (omega (arith, same, within)))
      | inr behind ↦ ap hurt_of (recovered.others_stand (2 + slot) (omega (arith, same, behind))) ∙ behind_homes id blocks nodes (2 + slot) made (omega (arith, behind))
    ]

whole_place : (id : List ℕ) (blocks nodes place : ℕ) (head : Head) (d : DiskState) → IsMadeEmpty id blocks nodes (new_state 0) (made_disk id blocks nodes) → head ≡ made_head id blocks nodes → IsRecovered (made_disk id blocks nodes) head d → IsWholeAt d place
unfolding hurt_of
whole_place id blocks nodes zero head d made is recovered = ap hurt_of recovered.first
whole_place id blocks nodes (suc zero) head d made is recovered = ap hurt_of recovered.second
whole_place id blocks nodes (suc (suc slot)) head d made is recovered = subst (IsWholeAt d) (let same : 2 + slot ≡ suc (suc slot) = omega arith in same) (whole_behind id blocks nodes slot head d made is recovered)

-- ---- the new store

-- an index of the view of a store by its nodes
same_index : (head : Head) (x : IndexState) → x.limits ≡ limits_of head → x.nodes ≡ (empty_index head).nodes → x ≡ empty_index head
same_index head x limits nodes =
    let first : x ≡ record { limits = limits_of head; nodes = x.nodes } = ap (λ (l : Limits). record { limits = l; nodes = x.nodes }) limits in
    first ∙ ap (λ (slots : List (Option Held)). record { limits = limits_of head; nodes = slots }) nodes

IsNewStore-ready : (id : List ℕ) (blocks nodes : ℕ) (phase : MountPhase) (m : Mounted MemoryDisk) → CanFormat id blocks nodes → length id ≡ 16 → IsMounting phase (made_disk id blocks nodes) (state_of m.disk) → IsMountedBeside (empty_view id blocks nodes ∷ []) false phase (state_of m.disk) → failures_of m.disk ≡ [] → ready_view phase ≡ Some m.view → IsView m.view → HasNoneBegun m.view → IsNewStore id blocks nodes m
IsNewStore-ready id blocks nodes phase m can long known beside failures ready view none =
    let d = state_of m.disk in
    let head : Head = made_head id blocks nodes in
    let made = IsMadeEmpty-new id blocks nodes can in
    let mounted = mounted-ready phase m.view (made_disk id blocks nodes) d ready known in
    let metadata = metadata-of_new id blocks nodes _ can long mounted.metadata in
    let head_is : m.view.head ≡ head = ap (λ (x : Metadata). x.head) metadata in
    let nodes_are : m.view.index.nodes ≡ (empty_index head).nodes = ap (λ (x : Metadata). x.held) metadata in
    let index_is : m.view.index ≡ empty_index head = same_index head m.view.index (view.can.limits ∙ ap limits_of head_is) nodes_are in
    let settled = settled_new (empty_view id blocks nodes) m.view d (beside-ready phase m.view (empty_view id blocks nodes ∷ []) d ready beside) in
    let rests : IsAtRestFor head (empty_index head) d = settled-rests (empty_view id blocks nodes) head (empty_index head) d (record {
      disk = IsDiskState-state_of m.disk d refl;
      its = settled;
      metadata = refl;
      fits = empty-view id blocks nodes can;
    }) in
    record {
      head = head_is;
      index = index_is;
      none_begun = none;
      rests = subst (λ (h : Head). IsAtRestFor h m.view.index d) (sym head_is) (subst (λ (x : IndexState). IsAtRestFor head x d) (sym index_is) rests);
      tree = subst (λ (x : IndexState). HasTree x.nodes (pages_by (first_candidates d) x.nodes) []) (sym index_is) (fresh-tree (nodes - 1) (pages_by (first_candidates d) (empty_index head).nodes));
      whole = λ place. whole_place id blocks nodes place m.view.head d made head_is mounted.recovered;
      seen = mounted.recovered.size ∙ made.store.size;
      failures = failures;
    }

-- so it is after the last step, once the disk is given back
pub IsNewStore-after : (id : List ℕ) (blocks nodes : ℕ) (old new : MountPhase) (disk last : MemoryDisk) (m : Mounted MemoryDisk) (result : Result Ahead RecoverError) → CanFormat id blocks nodes → length id ≡ 16 → IsNewMount id blocks nodes old disk → MountSteps old new (memory_view disk) (memory_view last) result → m.disk ≡ last → ready_view new ≡ Some m.view → IsView m.view → HasNoneBegun m.view → IsNewStore id blocks nodes m
IsNewStore-after id blocks nodes old new disk last m result can long is steps given ready view none =
    let back = sym given in
    IsNewStore-ready id blocks nodes new m can long
    (subst (λ (d : MemoryDisk). IsMounting new (made_disk id blocks nodes) (state_of d)) back (known-after id blocks nodes old new disk last result is steps))
    (subst (λ (d : MemoryDisk). IsMountedBeside (empty_view id blocks nodes ∷ []) false new (state_of d)) back (beside-after id blocks nodes old new disk last result is steps))
    (ap failures_of given ∙ failures-after id blocks nodes old new disk last result is steps)
    ready view none
