-- Over a whole disk no page of a view that it shows is damaged.
use Rattle.std.proofs.Common.{◌≡◌, ◌≢◌, ℕ, List, length, slice_get, Option, Some, None, unwrap_or, Result, Ok, Err, refl, sym, ap, ◌∙◌, arith}
use Rattle.std.specs.Option.{option_and_then, IsSome}
use Rattle.sha2.specs.Sha256.{sha256}
use Rattle.vb_active.specs.Needs.{IsErrorOn}
use Rattle.vb_active.specs.Views.{Backs}
use Rattle.vb_block.specs.declared.digest.Ref.{Ref}
use Rattle.vb_disk.specs.Cells.{candidate_at}
use Rattle.vb_disk.specs.States.{DiskState, read_at}
use Rattle.vb_during.specs.TornPages.{IsAllWhole}
use Rattle.vb_event.specs.declared.answer.FaultKind.TheVariants as faults
use Rattle.vb_event.specs.declared.answer.FolderAnswer.TheVariants as answers
use Rattle.vb_frozen.specs.declared.entry.FrozenEntry.{FrozenEntry}
use Rattle.vb_frozen.specs.Views.{page_kept, page_ref, IsBacked, IsOnDisk}
use Rattle.vb_index.specs.Nodes.{IsTable}
use Rattle.vb_link.specs.Views.{LinkView}
use Rattle.vb_local.specs.Shown.{LocalTrees, ShowsIn}
use Rattle.vb_local.specs.States.{PhaseState, Rests, Waits, Writes, frozen_in}
use Rattle.vb_local.specs.Ties.{FrozenState}
use Rattle.vb_local.proofs.PlansShown.{ref-holds}
use Rattle.vb_pages.specs.declared.kept.KeptPage.{KeptPage}
use Rattle.vb_pages.specs.declared.kept.PageKey.{PageKey}
use Rattle.vb_pages.specs.declared.page_error.PageError.{PageError}
use Rattle.vb_pages.specs.declared.page_error.PageError.TheVariants as pages
use Rattle.vb_pages.specs.Disks.{HoldsOnly}
use Rattle.vb_publish.specs.declared.step.UploadStep.{UploadStep}
use Rattle.vb_store.specs.Views.{ViewState}
use Rattle.vb_tree.specs.declared.operation.Op.{Op}
use Rattle.vb_upload.specs.declared.answer.UploadError.{UploadError}
use Rattle.vb_upload.specs.declared.answer.UploadError.TheVariants as uploads
use Rattle.vb_upload.specs.declared.cursor.Cursor.{Cursor}
use Rattle.vb_upload.specs.Steps.{due_page, due_ref, unless_kept, IsDamageAt}
use Rattle.vb_views.specs.AtRest.{HoldsAllPages}
use Rattle.vb_folder.specs.Events.{page_fault}
use Rattle.vb_folder.specs.Ledgers.{LedgerState}
use Rattle.vb_folder.specs.Uploads.{upload_answer, TellsUpload}
use Rattle.vb_faultless.specs.Faultless.{ShowsWhole}

-- ---- the live view

-- the live view is backed by each disk that shows the folder
pub shown-backs : (d : DiskState) (s : LedgerState) (t : LocalTrees) → ShowsWhole d s t → Backs d s.local.live
shown-backs d s t shows slot page r out =
    ref-holds s.local.view.index.nodes d slot page r (is-table s.local.view s.local.phase t d shows.shows.phase) (holds-all s.local.view s.local.phase t d shows.shows.phase) (shows.tied.live.relies slot page r out)
  where
    holds-all : (v : ViewState) (phase : PhaseState) (t : LocalTrees) (d : DiskState) → ShowsIn v phase t d → HoldsAllPages v.index.nodes d
    holds-all v (Rests frozen) t d shows = shows.rests.rests.holds
    holds-all v (Waits frozen epoch) t d shows = shows.rests.rests.holds
    holds-all v (Writes frozen way) t d shows = shows.is.holds.holds

    is-table : (v : ViewState) (phase : PhaseState) (t : LocalTrees) (d : DiskState) → ShowsIn v phase t d → IsTable v.index.nodes
    is-table v (Rests frozen) t d shows = shows.rests.view.table
    is-table v (Waits frozen epoch) t d shows = shows.rests.view.table
    is-table v (Writes frozen way) t d shows = shows.is.holds.view.table

pub call-undamaged : (d : DiskState) (s : LedgerState) (t : LocalTrees) (op : Op) (error : PageError) → ShowsWhole d s t → IsErrorOn (Some d) s.local.live op error → page_fault error ≢ faults.Damaged
call-undamaged d s t op (pages.Damaged place kept found) shows is e =
    let hurt = is.damage.hurt d refl (shown-backs d s t shows) in
    let whole = shows.whole place in
    cc
call-undamaged d s t op pages.DiskFault shows is e = cc e
call-undamaged d s t op pages.Memory shows is e = cc e

-- ---- the view that is sent

-- a whole place that is backed reads as its reference says
reads-due : (d : DiskState) (r : Ref) → IsAllWhole d → HoldsOnly (d.cells r.place) r.digest → sha256 (read_at d r.place) ≡ r.digest
reads-due d r whole only =
    ap sha256 (ap (λ o. unwrap_or o (candidate_at (d.cells r.place) (length (d.cells r.place).later))) (whole r.place) ∙ only.same (length (d.cells r.place).later) (d.cells r.place).first (omega arith)) ∙ only.due

unkept : (o : Option (List ℕ)) (reference : Option Ref) (r : Ref) → unless_kept o reference ≡ Some r → (reference ≡ Some r) × (o ≡ None)
unkept None reference r e = (e, refl)
unkept (Some bytes) reference r e = absurd (cc e)

-- the page that is due and isn't kept in memory is on the disk
on-disk : (order : List FrozenEntry) (kept : List (PageKey × KeptPage)) (o : Option (ℕ × ℕ)) (i k : ℕ) (r : Ref) → o ≡ Some (i, k)
    → option_and_then (λ due. unless_kept (page_kept order kept due.0 due.1) (page_ref order due.0 due.1)) o ≡ Some r → IsOnDisk order kept i k r
on-disk order kept o i k r is e =
    let both = unkept (page_kept order kept i k) (page_ref order i k) r (sym (ap (option_and_then (λ due. unless_kept (page_kept order kept due.0 due.1) (page_ref order due.0 due.1))) is) ∙ e) in
    record { at = both.0; apart = both.1 }

sent-undamaged : (order : List FrozenEntry) (kept : List (PageKey × KeptPage)) (d : DiskState) (cursor : Cursor) (i page place : ℕ) (due found : List ℕ)
    → IsAllWhole d → ((i k : ℕ) → IsBacked order kept d i k) → IsDamageAt order kept (Some d) cursor i page place due found → ⊥
sent-undamaged order kept d cursor i page place due found whole backed is = by (due_ref order kept cursor) refl is.on_disk where
  by : (o : Option Ref) → due_ref order kept cursor ≡ o → IsSome o → ⊥
  by None e some = cc some
  by (Some r) e some =
      let of = is.damage r e in
      let reads = reads-due d r whole (backed i page r (on-disk order kept (due_page cursor) i page r is.due e)) in
      of.differ (of.due ∙ sym reads ∙ ap (λ p. sha256 (read_at d p)) (sym of.here) ∙ sym (is.read d refl))

-- the pages of the frozen view that aren't kept in memory are backed
abbrev pub BacksFrozen : DiskState → LedgerState → Type 0
BacksFrozen d s = (frozen : FrozenState) → frozen_in s.local.phase ≡ Some frozen → (i k : ℕ) → IsBacked frozen.order frozen.pages d i k

pub upload-undamaged : (d : DiskState) (s : LedgerState) (shown : Option LinkView) (result : Result UploadStep UploadError)
    → IsAllWhole d → BacksFrozen d s → TellsUpload s (Some d) shown result → upload_answer result ≢ answers.Fault faults.Damaged
upload-undamaged d s shown (Ok step) whole backed tells e = cc e
upload-undamaged d s shown (Err (uploads.Damaged i page place kept found)) whole backed tells e =
    let of = tells.damage in
    sent-undamaged of.frozen.order of.frozen.pages d s.upload.cursor i page place kept found whole (backed of.frozen of.view) (tells.page of.frozen of.sends of.view)
upload-undamaged d s shown (Err uploads.DiskFault) whole backed tells e = cc e
upload-undamaged d s shown (Err uploads.LinkFault) whole backed tells e = cc e
upload-undamaged d s shown (Err uploads.Memory) whole backed tells e = cc e
