-- A folder that was started is sound for its opening.
use Rattle.std.proofs.Common.{◌≡◌, ◌⊎◌, ℕ, ◌≤◌, true, false, Bool, nat_lt, List, [], Option, Some, None, IfSome, Result, Ok, Err, refl, sym, subst, ap, ◌∙◌, inl, inr, arith}
use Rattle.vb_cloud.specs.Machine.{CloudState}
use Rattle.vb_disk.specs.States.{DiskState}
use Rattle.vb_event.proofs.Opened.{opened-recovers, opened-shown, opened-sound}
use Rattle.vb_event.specs.Core.{Core}
use Rattle.vb_event.specs.Sound.{HasSoundCloud, HasSoundHistory, Recovers, core_at_start}
use Rattle.vb_event.specs.Steps.{frozen_while}
use Rattle.vb_folder.specs.Ledgers.{LedgerState, core_of, sent_in}
use Rattle.vb_folder.specs.Sound.{IsSoundOn}
use Rattle.vb_folder.specs.Uploads.{IsSoundWith}
use Rattle.vb_head.specs.declared.head.Head.{Head}
use Rattle.vb_hist.specs.Legal.{Opening, waiting_view}
use Rattle.vb_hist.specs.declared.entry.Entry.{Entry}
use Rattle.vb_hist.specs.declared.entry.Stage.{Stage}
use Rattle.vb_hist.specs.declared.entry.Stage.TheVariants.{Rested}
use Rattle.vb_index.specs.Contents.{HasTree}
use Rattle.vb_journal.specs.declared.commit_stage.CommitStep.{CommitStep}
use Rattle.vb_link.specs.Views.{info_of, view_of}
use Rattle.vb_link.specs.declared.view.ViewInfo.{ViewInfo}
use Rattle.vb_local.specs.Answers.{answers_in}
use Rattle.vb_local.specs.Events.{one_tree}
use Rattle.vb_local.specs.Shown.{LocalTrees, ShowsOn}
use Rattle.vb_local.specs.States.{IsResting, PhaseState, Rests, Waits, Writes, frozen_in}
use Rattle.vb_local.specs.Ties.{FrozenState}
use Rattle.vb_msg.specs.Ranges.{are_zeros}
use Rattle.vb_store.specs.Clear.{first_candidates}
use Rattle.vb_store.specs.Views.{ViewState}
use Rattle.vb_tree.specs.declared.tree.Limits.{Limits}
use Rattle.vb_tree.specs.declared.tree.TreeEntry.{TreeEntry}
use Rattle.vb_upload.specs.Cursors.{counts_of, sent_at}
use Rattle.vb_upload.specs.Steps.{cursor_of}
use Rattle.vb_upload.specs.declared.cursor.Cursor.TheVariants.{Begin}
use Rattle.vb_upload.specs.declared.upload.Upload.{Upload}
use Rattle.vb_views.specs.AtRest.{IsAtRestFor}
use Rattle.vb_views.specs.Reads.{pages_by}
use Rattle.vb_core.specs.Greetings.{Claims, Decides, GoesWith, Greets, LinkSeen, claimed}
use Rattle.vb_core.specs.Opened.{Begins, IsOpened, IsSoundOver, opening_of}
use Rattle.vb_core.specs.declared.start_error.StartError.{StartError}

-- ---- what the cloud is then

-- something was shown, and it goes with the store
pub record WasShown (head : Head) (shown : Option ViewInfo) (published : ℕ) : Type 0 where
  pub info : ViewInfo
  pub is : shown ≡ Some info
  pub goes : GoesWith head info
  pub epoch : published ≡ info.epoch

was-shown : (head : Head) (shown : Option ViewInfo) (published : ℕ) → Decides head shown (Ok published) → WasShown head shown published
was-shown head None published decides = absurd decides
was-shown head (Some info) published decides = record { info = info; is = refl; goes = decides.0; epoch = decides.1 }

-- the published epoch isn't above the committed one
pub greeted-reached : (head : Head) (before after : LinkSeen) (published : ℕ) → Greets head before after (Ok published) → published ≤ head.epoch
greeted-reached head before after published greets =
    let was = was-shown head greets.shown published greets.decides in
    subst (λ (n : ℕ). n ≤ head.epoch) (sym was.epoch) was.goes.reached

-- a told cloud shows afterwards what it showed
pub record ShowsStill (k : CloudState) (published : ℕ) (after : Option CloudState) : Type 0 where
  pub next : CloudState
  pub told : after ≡ Some next
  pub epoch : next.epoch ≡ k.epoch
  pub tree : next.tree ≡ k.tree
  pub published_is : published ≡ k.epoch

-- it was claimed or not
still-told : (head : Head) (before after : LinkSeen) (published : ℕ) (info : ViewInfo) (k : CloudState) (greets : Greets head before after (Ok published)) → greets.shown ≡ Some info → GoesWith head info → before.cloud ≡ Some k → (zeros : Bool) → are_zeros info.id ≡ zeros → published ≡ k.epoch → ShowsStill k published after.cloud
still-told head before after published info k greets shown goes was true zeros same = record {
  next = claimed head k;
  told = greets.claims k was (subst (Claims head) (sym shown) (goes, zeros));
  epoch = refl;
  tree = refl;
  published_is = same;
}
still-told head before after published info k greets shown goes was false zeros same = record {
  next = k;
  told = greets.stays (λ claims. (let e : true ≡ false = sym (subst (Claims head) shown claims).1 ∙ zeros in absurd (cc e))) ∙ was;
  epoch = refl;
  tree = refl;
  published_is = same;
}

shows-still : (head : Head) (before after : LinkSeen) (published : ℕ) → Greets head before after (Ok published) → (k : CloudState) → before.cloud ≡ Some k → ShowsStill k published after.cloud
shows-still head before after published greets k was =
    let shown = was-shown head greets.shown published greets.decides in
    let same : shown.info ≡ info_of (view_of k) = subst (λ (o : Option ViewInfo). IfSome o (λ info. info ≡ info_of (view_of k))) shown.is (greets.of_cloud k was) in
    still-told head before after published shown.info k greets shown.is shown.goes was (are_zeros shown.info.id) refl (shown.epoch ∙ ap (λ (i : ViewInfo). i.epoch) same)

-- ---- its core

-- the folder of these numbers, whose trees are all this one
abbrev core_from : Limits → List Entry → ℕ → ℕ → ℕ → Option ℕ → Stage → List TreeEntry → List CommitStep → Option ℕ → ℕ → Core
core_from limits history epoch sequence published standing stage tree left unsure sent = record {
  limits = limits;
  history = history;
  epoch = epoch;
  sequence = sequence;
  published = published;
  standing = standing;
  stage = stage;
  active = tree;
  frozen = frozen_while standing stage (Some tree);
  left = left;
  unsure = unsure;
  sent = sent;
}

-- no answer is left at rest
none-left : (v : ViewState) (phase : PhaseState) → IsResting phase → answers_in v phase ≡ []
none-left v (Rests frozen) rests = refl
none-left v (Waits frozen epoch) rests = absurd rests
none-left v (Writes frozen way) rests = absurd rests

-- no message counts as sent at the begin
none-sent : (frozen : Option FrozenState) (upload : Upload) → cursor_of upload ≡ Begin → sent_in frozen upload ≡ 0
none-sent None upload begins = refl
none-sent (Some frozen) upload begins = ap (sent_at (counts_of frozen.order)) begins

-- a folder that begins is the one at the start of its opening
begun-core : (v : ViewState) (s : LedgerState) (tree : List TreeEntry) (k : CloudState) (disk_faults link_faults : ℕ) → Begins v s → s.published ≡ k.epoch → core_of s (one_tree tree) ≡ core_at_start (opening_of v tree k disk_faults link_faults) s.local.view.head.sequence
begun-core v s tree k disk_faults link_faults begins same =
    let l = s.local in
    let sequence = l.view.head.sequence in
    let left = answers_in l.view l.phase in
    let sent = sent_in (frozen_in l.phase) s.upload in
    let stands : l.standing ≡ waiting_view v.head.epoch k.epoch = begins.local.standing ∙ ap (waiting_view v.head.epoch) same in
    ap (λ (x : Limits). core_from x s.history.entries s.epoch sequence s.published l.standing s.stage tree left s.unsure sent) (ap (λ a. a.index.limits) begins.local.live)
    ∙ ap (λ (x : List Entry). core_from v.index.limits x s.epoch sequence s.published l.standing s.stage tree left s.unsure sent) (ap (λ h. h.entries) begins.history)
    ∙ ap (λ (x : ℕ). core_from v.index.limits [] x sequence s.published l.standing s.stage tree left s.unsure sent) begins.epoch
    ∙ ap (λ (x : ℕ). core_from v.index.limits [] v.head.epoch sequence x l.standing s.stage tree left s.unsure sent) same
    ∙ ap (λ (x : Option ℕ). core_from v.index.limits [] v.head.epoch sequence k.epoch x s.stage tree left s.unsure sent) stands
    ∙ ap (λ (x : Stage). core_from v.index.limits [] v.head.epoch sequence k.epoch (waiting_view v.head.epoch k.epoch) x tree left s.unsure sent) begins.stage
    ∙ ap (λ (x : List CommitStep). core_from v.index.limits [] v.head.epoch sequence k.epoch (waiting_view v.head.epoch k.epoch) Rested tree x s.unsure sent) (none-left l.view l.phase begins.local.resting)
    ∙ ap (λ (x : Option ℕ). core_from v.index.limits [] v.head.epoch sequence k.epoch (waiting_view v.head.epoch k.epoch) Rested tree [] x sent) begins.unsure
    ∙ ap (λ (x : ℕ). core_from v.index.limits [] v.head.epoch sequence k.epoch (waiting_view v.head.epoch k.epoch) Rested tree [] None x) (none-sent (frozen_in l.phase) s.upload begins.upload)

-- ---- it is sound

sound-over : (v : ViewState) (s : LedgerState) (disk : Option DiskState) (cloud : Option CloudState) (d : DiskState) (tree : List TreeEntry) (k : CloudState) (disk_faults link_faults : ℕ) → Begins v s → k.epoch ≤ v.head.epoch → disk ≡ Some d → IsAtRestFor v.head v.index d → HasTree v.index.nodes (pages_by (first_candidates d) v.index.nodes) tree → ShowsStill k s.published cloud → IsSoundOver (opening_of v tree k disk_faults link_faults) s disk d tree cloud
sound-over v s disk cloud d tree k disk_faults link_faults begins reached is rests has still =
    let o : Opening = opening_of v tree k disk_faults link_faults in
    let sequence = s.local.view.head.sequence in
    let core : core_of s (one_tree tree) ≡ core_at_start o sequence = begun-core v s tree k disk_faults link_faults begins still.published_is in
    let shows : ShowsOn d s.local (one_tree tree) = begins.local.shows d tree rests has in
    let history : HasSoundHistory o (core_of s (one_tree tree)) = subst (λ (c : Core). HasSoundHistory o c) (sym core) (opened-sound o sequence reached) in
    record {
      next = still.next;
      with = record {
        d = d;
        disk_told = is;
        cloud_told = still.told;
        shows = shows;
        history = history;
        cloud_sound = subst (λ (c : Core). HasSoundCloud o c still.next) (sym core) (opened-shown o sequence still.next still.epoch still.tree);
      };
      on = record {
        trees = one_tree tree;
        shows = shows;
        history = history;
        committed = λ before. subst (λ (c : Core). Recovers o c s.local.view.head.epoch tree) (sym core)
            (subst (λ (n : ℕ). Recovers o (core_at_start o sequence) n tree) (sym (ap (λ (w : ViewState). w.head.epoch) begins.local.view)) (opened-recovers o sequence));
      };
    }

pub opened : (v : ViewState) (s : LedgerState) (disk : Option DiskState) (before after : LinkSeen) → Begins v s → Greets v.head before after (Ok s.published) → IsOpened v s disk before.cloud after.cloud
opened v s disk before after begins greets = λ d tree k disk_faults link_faults is rests has was.
    let still = shows-still v.head before after s.published greets k was in
    sound-over v s disk after.cloud d tree k disk_faults link_faults begins
    (subst (λ (n : ℕ). n ≤ v.head.epoch) still.published_is (greeted-reached v.head before after s.published greets)) is rests has still
