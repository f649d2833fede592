-- A mount beside damage, from phase to phase.
use Rattle.std.proofs.Common.{◌≡◌, ℕ, zero, suc, ◌+◌, ◌<◌, Bool, List, [], ◌∷◌, ◌++◌, length, None, Result, Ok, Err, refl, sym, ap, subst, ◌∙◌, inl, inr, arith}
use Rattle.std.specs.Result.{result_err}
use Rattle.vb_disk.specs.Crashes.{MayCrashTo, damaged}
use Rattle.vb_disk.specs.States.{DiskState, IsDiskState, read_at}
use Rattle.vb_head.specs.declared.head.Head.{Head}
use Rattle.vb_head.specs.Heads.{count_of}
use Rattle.vb_index.specs.Indexes.{IndexState}
use Rattle.vb_inode.specs.declared.node.Node.{Node}
use Rattle.vb_inode.specs.declared.errors.NodeError.{NodeError}
use Rattle.vb_inode.specs.declared.errors.NodeError.TheVariants.{Unsealed, Wrong, Memory as NoMemoryForNode}
use Rattle.vb_inode.specs.Reading.{node_read}
use Rattle.vb_journal.specs.declared.recover_error.RecoverError.{RecoverError}
use Rattle.vb_journal.specs.Images.{image_at}
use Rattle.vb_journal.specs.Recoveries.{choice_of, image_refusal, journal_of, journal_place}
use Rattle.vb_journal.specs.Recovers.{recovery_stage}
use Rattle.vb_journal.specs.RecoverViews.{AtAsk, AtImage, AtReady, AtRefused, RecoverView, view_of}
use Rattle.vb_journal.proofs.ChoicesOf.{choices-crashed, choices-damaged}
use Rattle.vb_journal.proofs.JournalReads.{image_at-pages_from, length-pages_from}
use Rattle.vb_store.specs.declared.mount_parts.Homes.{Homes}
use Rattle.vb_store.specs.declared.mount_parts.Whole.{Whole}
use Rattle.vb_store.specs.declared.mount_phase.JournalPhase.{JournalPhase}
use Rattle.vb_store.specs.declared.mount_phase.MountPhase.{MountPhase}
use Rattle.vb_store.specs.declared.mount_phase.MountPhase.TheVariants.{Recovering, Reading, Ready}
use Rattle.vb_store.specs.declared.mount_phase.ReadyView.{ReadyView}
use Rattle.vb_store.specs.declared.mount_stage.MountStage.{MountStage}
use Rattle.vb_store.specs.declared.mount_stage.MountStage.TheVariants.{ReadHome, Finish}
use Rattle.vb_store.specs.Beside.{HasReason, IsBeside}
use Rattle.vb_store.specs.Clear.{first_candidates}
use Rattle.vb_store.specs.Metadata.{Metadata, image_fault, images_fault, journal_fault, node_or_refusal}
use Rattle.vb_store.specs.MountStages.{HasEnded}
use Rattle.vb_store.specs.MountsBeside.{IsMountedBeside, IsRefusedBeside}
use Rattle.vb_store.specs.OneOf.{RecoversOneOf, TreeView}
use Rattle.vb_store.specs.Settled.{IsReadBeside}
use Rattle.vb_store.proofs.CrashesOfMounts.{has_metadata, one_head}
use Rattle.vb_store.proofs.JournalBeside.{image-candidate}
use Rattle.vb_store.proofs.MountRests.{ended_rest}
use Rattle.vb_store.proofs.OneOfThem.{RecoversOneOf-fewer}
use Rattle.vb_store.proofs.ReadingsBeside.{reads-begin, reads-end, reads-kept, reads-recover, reads-refused, settled-kept}
use Rattle.vb_store.proofs.ReadsBeside.{read-now}
use Rattle.vb_store.proofs.RestsBeside.{candidates-count, candidates-show}
use Rattle.vb_store.proofs.SameJournals.{or_refusal-none}
use Rattle.vb_store.proofs.StepsBeside.{IsBeside-damaged, reason-kept}

-- ---- each phase

pub mount-begins : (views : List TreeView) (made : Bool) (journal : JournalPhase) (d : DiskState) → view_of (recovery_stage journal.recover) ≡ AtAsk → RecoversOneOf views made d → IsMountedBeside views made (Recovering journal) d
mount-begins views made journal d at recovers =
    let begun : IsBeside views made AtAsk d = record { known = tt; recovers = recovers } in
    subst (λ (v : RecoverView). IsBeside views made v d) (sym at) begun

refused-kept : (views : List TreeView) (made : Bool) (stage : MountStage) (d : DiskState) (place : ℕ) (page : List ℕ) → IsRefusedBeside views made stage d → IsRefusedBeside views made stage (damaged d place page)
refused-kept views made stage d place page is = record {
  error = is.error;
  ended = is.ended;
  reason = reason-kept made is.error d place page is.reason;
  recovers = RecoversOneOf-fewer views made (damaged d place page) d (choices-damaged d place page) is.recovers;
}

pub mount-kept : (views : List TreeView) (made : Bool) (phase : MountPhase) (d : DiskState) (place : ℕ) (page : List ℕ) → IsMountedBeside views made phase d → IsMountedBeside views made phase (damaged d place page)
mount-kept views made (Recovering r) d place page is = IsBeside-damaged views made (view_of (recovery_stage r.recover)) d place page is
mount-kept views made (Reading stage) d place page (inl is) = inl (reads-kept views made stage d place page is)
mount-kept views made (Reading stage) d place page (inr is) = inr (refused-kept views made stage d place page is)
mount-kept views made (Ready ready) d place page is = record {
  its = record { view = is.its.view; listed = is.its.listed; is = settled-kept is.its.view d place page is.its.is };
  metadata = is.metadata;
  recovers = RecoversOneOf-fewer views made (damaged d place page) d (choices-damaged d place page) is.recovers;
}

pub mount-recovers : (views : List TreeView) (made : Bool) (phase : MountPhase) (d : DiskState) → IsMountedBeside views made phase d → RecoversOneOf views made d
mount-recovers views made (Recovering r) d is = is.recovers
mount-recovers views made (Reading stage) d (inl is) = reads-recover views made stage d is
mount-recovers views made (Reading stage) d (inr is) = is.recovers
mount-recovers views made (Ready ready) d is = is.recovers

pub mount-crashed : (views : List TreeView) (made : Bool) (phase : MountPhase) (d new : DiskState) → IsMountedBeside views made phase d → MayCrashTo d new → RecoversOneOf views made new
mount-crashed views made phase d new is crash = RecoversOneOf-fewer views made new d (choices-crashed d new crash) (mount-recovers views made phase d is)

abbrev refused_with : RecoverError → Result Metadata RecoverError
refused_with e = Err e

pub mount-refused : (views : List TreeView) (made : Bool) (stage : MountStage) (d : DiskState) (error : RecoverError) → IsMountedBeside views made (Reading stage) d → HasEnded stage error → HasReason made error d
mount-refused views made stage d error (inl is) ended = reads-refused views made stage d error is ended
mount-refused views made stage d error (inr is) ended =
    let firsts : ℕ → List ℕ = first_candidates d in
    let both : refused_with is.error ≡ refused_with error = sym (ended_rest firsts stage is.error is.ended) ∙ ended_rest firsts stage error ended in
    let same : is.error ≡ error = cc both in
    subst (λ (e : RecoverError). HasReason made e d) same is.reason

-- ---- from one to the next

pub mount-homes : (views : List TreeView) (made : Bool) (d : DiskState) (homes : Homes) → IsDiskState d → IsBeside views made (AtReady homes.head) d → homes.nodes ≡ [] → IsMountedBeside views made (Reading (ReadHome homes)) d
mount-homes views made d homes disk is none = inl (reads-begin views made d homes disk is.known none)

pub mount-ended : (views : List TreeView) (made : Bool) (why : RecoverError) (stage : MountStage) (d : DiskState) → IsBeside views made (AtRefused why) d → HasEnded stage why → IsMountedBeside views made (Reading stage) d
mount-ended views made why stage d is ended = inr (record { error = why; ended = ended; reason = is.known; recovers = is.recovers })

pub mount-view : (views : List TreeView) (made : Bool) (whole : Whole) (ready : ReadyView) (d : DiskState) → IsReadBeside views made (Finish whole) d → ready.view.head ≡ whole.head → ready.view.index ≡ whole.index → IsMountedBeside views made (Ready ready) d
mount-view views made whole ready d is head index = record {
  its = is.its;
  metadata = reads-end views made whole d is
      ∙ ap (λ (h : Head). let m : Metadata = record { head = h; held = whole.index.nodes } in m) (sym head)
      ∙ ap (λ (i : IndexState). let m : Metadata = record { head = ready.view.head; held = i.nodes } in m) (sym index);
  recovers = reads-recover views made (Finish whole) d is;
}

-- ---- an image

moved_node : (place at : ℕ) (r : Result Node NodeError) → result_err (node_or_refusal place r) ≡ None → result_err (node_or_refusal at r) ≡ None
moved_node place at (Ok node) is = refl
moved_node place at (Err (Unsealed kept found)) is = absurd (cc is)
moved_node place at (Err (Wrong why)) is = absurd (cc is)
moved_node place at (Err NoMemoryForNode) is = absurd (cc is)

-- each image of a journal without a fault is a node
each_node : (nodes place : ℕ) (before images : List (List ℕ)) (i at : ℕ) → images_fault nodes place before images ≡ None → i < length images → result_err (node_or_refusal at (node_read nodes (image_at images i))) ≡ None
each_node nodes place before [] i at none within = absurd (omega (arith, within))
each_node nodes place before (image ∷ images) zero at none within =
    let both = or_refusal-none (image_fault nodes place before image) (images_fault nodes (place + 1) (before ++ image ∷ []) images) none in
    let own = or_refusal-none (image_refusal nodes place before image) (result_err (node_or_refusal place (node_read nodes image))) both.0 in
    moved_node place at (node_read nodes image) own.1
each_node nodes place before (image ∷ images) (suc i) at none within =
    let both = or_refusal-none (image_fault nodes place before image) (images_fault nodes (place + 1) (before ++ image ∷ []) images) none in
    each_node nodes (place + 1) (before ++ image ∷ []) images i at both.1 (omega (arith, within))

pub mount-image : (views : List TreeView) (made : Bool) (head : Head) (count : ℕ) (images : List (List ℕ)) (d : DiskState) (at : ℕ) → IsDiskState d → IsBeside views made (AtImage head count images) d → image_refusal head.nodes (journal_place head + length images) images (read_at d (journal_place head + length images)) ≡ None → result_err (node_or_refusal at (node_read head.nodes (read_at d (journal_place head + length images)))) ≡ None
mount-image views made head count images d at disk is taken =
    let reads : ℕ → List ℕ = first_candidates d in
    let place : ℕ = journal_place head + length images in
    let has = is.known in
    let shows = candidates-show views made head d disk has.heads is.recovers in
    let known = has_metadata d.size reads shows.view.metadata shows.metadata in
    let same : known.head ≡ head = one_head known.head head (choice_of d.size reads) known.counts (candidates-count head d has.heads) in
    let none : journal_fault reads head ≡ None = subst (λ (h : Head). journal_fault reads h ≡ None) same known.sound in
    let counted : count_of head.state ≡ count = ap count_of has.opened in
    let long : length (journal_of reads head) ≡ count_of head.state = length-pages_from reads (journal_place head) (count_of head.state) in
    let left = has.left in
    let image : image_at (journal_of reads head) (length images) ≡ reads place = image_at-pages_from reads (journal_place head) (count_of head.state) (length images) (omega (arith, counted, left)) in
    let page : read_at d place ≡ reads place = image-candidate d head.nodes place images (read_at d place) (read-now d place disk (has.heads.settled place)) taken in
    subst (λ (p : List ℕ). result_err (node_or_refusal at (node_read head.nodes p)) ≡ None) (image ∙ sym page)
    (each_node head.nodes (journal_place head) [] (journal_of reads head) (length images) at none (omega (arith, counted, long, left)))
