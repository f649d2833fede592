-- The message that is due, and what the cloud makes of it.
use Rattle.std.proofs.Common.{◌≡◌, ◌+◌, ◌<◌, ◌≤◌, ◌⊎◌, inl, inr, Bool, true, false, List, Some, Ok, refl, ap, sym, ◌∙◌, subst, arith}
use Rattle.std.specs.Prelude.{nat_le, IsOk}
use Rattle.std.proofs.lemmas.Option.{slice_get_within}
use Rattle.std.proofs.lemmas.Bool.Decides.{nat_tests}
use Rattle.vb_tree.specs.declared.tree.TreeEntry.{TreeEntry}
use Rattle.vb_hist.specs.Legal.{Opening}
use Rattle.vb_msg.specs.declared.message.Msg.{Msg}
use Rattle.vb_cloud.specs.Machine.{CloudState, cloud_step}
use Rattle.vb_publish.specs.Clouds.{HasTaken}
use Rattle.vb_publish.specs.Plans.{upload_plan}
use Rattle.vb_publish.proofs.GoesOn.{goes-on, shows-last, takes-next}
use Rattle.vb_publish.proofs.Lengths.{length-plan}
use Rattle.vb_event.specs.declared.event.FolderEvent.TheVariants as events
use Rattle.vb_event.specs.declared.answer.FolderAnswer.TheVariants as answers
use Rattle.vb_event.specs.declared.answer.FaultKind.TheVariants.{Link}
use Rattle.vb_event.specs.Core.{Core, Given}
use Rattle.vb_event.specs.Answers.{is_last_due, message_answer}
use Rattle.vb_event.specs.Steps.{LeavesDoubt, LeavesPublished, MayBecome, ShowsAs, ShowsView, doubt_of, last_view, tree_in}
use Rattle.vb_event.specs.Sound.{HasSoundHistory, HasSoundCloud, IsDueMessage}

pub is-taken : (o : Opening) (core : Core) (given : Given) (k : CloudState) (tree : List TreeEntry) (m : Msg) → HasSoundHistory o core → HasSoundCloud o core k → IsDueMessage given core k tree m → IsOk (cloud_step k m)
is-taken o core given k tree m s c due = takes-next k core.epoch core.sent tree m due.may (c.draft tree due.frozen) due.there

-- what a cloud is behind a message: it shows the view where that was its last, and else what it showed, with one message more
abbrev IsBehind : Core → CloudState → CloudState → Bool → Type 0
IsBehind core k after true = ShowsView core.epoch core.frozen after
IsBehind core k after false = ShowsAs k after × HasTaken (core.sent + 1) core.epoch (tree_in core.frozen) after

-- what the cloud is once it took the message
becomes : (core : Core) (given : Given) (k after : CloudState) (tree : List TreeEntry) (m : Msg) (last : Bool) → nat_le given.messages (core.sent + 1) ≡ last → IsDueMessage given core k tree m → HasTaken core.sent core.epoch tree k → cloud_step k m ≡ Ok after
    → IsBehind core k after last
becomes core given k after tree m true is due took step =
    let len = length-plan core.epoch tree k.tree in
    let within = slice_get_within (upload_plan core.epoch tree k.tree) core.sent m due.there in
    let count = due.messages in
    let past : given.messages ≤ core.sent + 1 = grind (arith, nat_tests) in
    let shows = shows-last k after core.epoch core.sent tree m due.may took due.there step (omega arith) in
    (ap (λ (x : CloudState). x.epoch) shows, ap (λ (x : CloudState). x.tree) shows ∙ ap tree_in (sym due.frozen))
becomes core given k after tree m false is due took step =
    let count = due.messages in
    let less : core.sent + 1 < given.messages = grind (arith, nat_tests) in
    let on = goes-on k after core.epoch core.sent tree m due.may took due.there step (omega arith) in
    ((on.2, on.3), subst (λ t. HasTaken (core.sent + 1) core.epoch t after) (ap tree_in (sym due.frozen)) on.0)

pub becomes-sent : (o : Opening) (core : Core) (given : Given) (k after : CloudState) (tree : List TreeEntry) (m : Msg) → HasSoundHistory o core → HasSoundCloud o core k → IsDueMessage given core k tree m → cloud_step k m ≡ Ok after
    → MayBecome given core events.UploadStep (answers.UploadStepped (message_answer (is_last_due given core) (Some core.epoch))) k after
becomes-sent o core given k after tree m s c due step = at (is_last_due given core) (becomes core given k after tree m (is_last_due given core) refl due (c.draft tree due.frozen) step)
  where
    at : (last : Bool) → IsBehind core k after last
        → MayBecome given core events.UploadStep (answers.UploadStepped (message_answer last (Some core.epoch))) k after
    at true shows = subst (λ u. LeavesPublished u core.frozen core.epoch k after) (sym due.sure) shows
    at false shows = shows

pub becomes-failed : (o : Opening) (core : Core) (given : Given) (k after : CloudState) (tree : List TreeEntry) (m : Msg) → HasSoundHistory o core → HasSoundCloud o core k → IsDueMessage given core k tree m
    → (after ≡ k) ⊎ (cloud_step k m ≡ Ok after) → MayBecome given core events.UploadStep (answers.Fault Link) k after
becomes-failed o core given k after tree m s c due failed =
    subst (λ d. LeavesDoubt d core.frozen k after) (sym doubt) (either failed)
  where
    doubt : doubt_of given core core.unsure ≡ last_view (is_last_due given core) (Some core.epoch)
    doubt = ap (doubt_of given core) due.sure ∙ ap (last_view (is_last_due given core)) due.view

    same : (last : Bool) → ShowsAs k after → LeavesDoubt (last_view last (Some core.epoch)) core.frozen k after
    same true shows = inl shows
    same false shows = shows

    took : (last : Bool) → IsBehind core k after last → LeavesDoubt (last_view last (Some core.epoch)) core.frozen k after
    took true shows = inr shows
    took false shows = shows.0

    either : (after ≡ k) ⊎ (cloud_step k m ≡ Ok after) → LeavesDoubt (last_view (is_last_due given core) (Some core.epoch)) core.frozen k after
    either (inl is) = same (is_last_due given core) (ap (λ (x : CloudState). x.epoch) is, ap (λ (x : CloudState). x.tree) is)
    either (inr step) = took (is_last_due given core) (becomes core given k after tree m (is_last_due given core) refl due (c.draft tree due.frozen) step)
