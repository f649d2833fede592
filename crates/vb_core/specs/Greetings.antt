-- The start of a folder: what it asks of its link, and what decides.
use Rattle.std.specs.Prelude.{◌≡◌, ◌≢◌, ◌⊎◌, ℕ, ◌<◌, ◌≤◌, true, false, Option, Some, None, option_map, IfSome, IsSome, Result, Ok, Err, IfOk, IsErrOf}
use Rattle.vb_cause.specs.Causes.{HasCause, UsesFailures, left_of}
use Rattle.vb_cause.specs.Faults.{counted}
use Rattle.vb_cloud.specs.Machine.{CloudState}
use Rattle.vb_cloud.specs.declared.refusal.CloudRefusal.{CloudRefusal}
use Rattle.vb_head.specs.declared.head.Head.{Head}
use Rattle.vb_link.specs.Links.{HasLinkCause, KeepsFailures, ShowsOn}
use Rattle.vb_link.specs.Views.{LinkView, info_of, view_of}
use Rattle.vb_link.specs.declared.link_error.LinkError.{LinkError}
use Rattle.vb_link.specs.declared.link_error.LinkError.TheVariants.{Failed, Refused, Memory as NoMemory}
use Rattle.vb_link.specs.declared.view.ViewInfo.{ViewInfo}
use Rattle.vb_msg.specs.Ranges.{are_zeros}
use Rattle.vb_core.specs.declared.folder.Folder.{Folder}
use Rattle.vb_core.specs.declared.start_error.StartError.{StartError}
use Rattle.vb_core.specs.declared.start_error.StartError.TheVariants.{Foreign, Behind, LinkFault, Memory}
use Rattle.vb_core.specs.declared.start_error.StartRefused.{StartRefused}

-- ---- what a start hands back

-- the epoch that the cloud showed, or why the folder wasn't started
abbrev pub greeting_of : {D K : Type 0} → Result (Folder D K) (StartRefused D K) → Result ℕ StartError
greeting_of (Ok folder) = Ok folder.ledger.published
greeting_of (Err refused) = Err refused.why

-- the disk, in the folder or handed back
abbrev pub disk_left : {D K : Type 0} → Result (Folder D K) (StartRefused D K) → D
disk_left (Ok folder) = folder.disk
disk_left (Err refused) = refused.disk

-- the link, in the folder or handed back
abbrev pub link_left : {D K : Type 0} → Result (Folder D K) (StartRefused D K) → K
link_left (Ok folder) = folder.link
link_left (Err refused) = refused.link

-- ---- what decides

-- a link at a moment: what its cloud is told to be and what it shows, how often it failed, how many failures may still come,
-- and how many calls were made and how many messages handed over
pub record LinkSeen : Type 0 where
  pub cloud : Option CloudState
  pub shown : Option LinkView
  pub faults : ℕ
  pub left : Option ℕ
  pub calls : ℕ
  pub sends : ℕ

-- a link that tells these
abbrev pub link_seen : Option CloudState → Option LinkView → ℕ → Option ℕ → ℕ → ℕ → LinkSeen
link_seen cloud shown faults left calls sends = record { cloud = cloud; shown = shown; faults = faults; left = left; calls = calls; sends = sends }

-- the cloud has a name, and it is another one than the store's
pub record IsForeign (head : Head) (info : ViewInfo) : Type 0 where
  pub other : head.id ≢ info.id
  pub named : are_zeros info.id ≡ false

-- the cloud isn't another folder's, and shows no later epoch than the committed one
pub record GoesWith (head : Head) (info : ViewInfo) : Type 0 where
  pub own : IsForeign head info → ⊥
  pub reached : info.epoch ≤ head.epoch

-- what a start answers where this was shown: Foreign exactly where the cloud is another folder's, else Behind exactly where
-- it shows a later epoch; else it goes on, and a link fault is that of the claim
abbrev pub AnswersShown : Head → ViewInfo → Result ℕ StartError → Type 0
AnswersShown head info (Ok published) = GoesWith head info × (published ≡ info.epoch)
AnswersShown head info (Err (Foreign local cloud)) = IsForeign head info × (local ≡ head.id) × (cloud ≡ info.id)
AnswersShown head info (Err (Behind local published)) =
    (IsForeign head info → ⊥) × (head.epoch < info.epoch) × (local ≡ head.epoch) × (published ≡ info.epoch)
AnswersShown head info (Err LinkFault) = GoesWith head info × (are_zeros info.id ≡ true)
AnswersShown head info (Err Memory) = GoesWith head info

-- what it answers where the link failed, or no memory was found, before anything was shown
abbrev pub AnswersNothing : Result ℕ StartError → Type 0
AnswersNothing (Ok published) = ⊥
AnswersNothing (Err (Foreign local cloud)) = ⊥
AnswersNothing (Err (Behind local published)) = ⊥
AnswersNothing (Err LinkFault) = Unit {0}
AnswersNothing (Err Memory) = Unit {0}

-- the error is one that what was shown decides
abbrev pub IsOfShown : StartError → Type 0
IsOfShown (Foreign local cloud) = Unit {0}
IsOfShown (Behind local published) = Unit {0}
IsOfShown LinkFault = ⊥
IsOfShown Memory = ⊥

-- what the error of a link is to a start
abbrev pub start_error_of : LinkError → StartError
start_error_of Failed = LinkFault
start_error_of (Refused refusal) = LinkFault
start_error_of NoMemory = Memory

-- so in each case
abbrev pub Decides : Head → Option ViewInfo → Result ℕ StartError → Type 0
Decides head None answer = AnswersNothing answer
Decides head (Some info) answer = AnswersShown head info answer

-- the cloud is claimed: it showed that it has no name, and goes with the store
abbrev pub Claims : Head → Option ViewInfo → Type 0
Claims head None = ⊥
Claims head (Some info) = GoesWith head info × (are_zeros info.id ≡ true)

-- ---- what it leaves

-- a cloud with the name of a store
abbrev pub claimed : Head → CloudState → CloudState
claimed head k = record k { id = head.id }

-- what a cloud is told to be: it took the claim where the folder started, and took it or didn't at an error
abbrev pub LeavesClaimed : Head → CloudState → Option CloudState → Result ℕ StartError → Type 0
LeavesClaimed head k after (Ok published) = after ≡ Some (claimed head k)
LeavesClaimed head k after (Err why) = (after ≡ Some k) ⊎ (after ≡ Some (claimed head k))

-- one call asks, and where the cloud is claimed one more sends the only message
pub record AsksOnce (Claiming : Type 0) (before after : LinkSeen) : Type 0 where
  pub asked : (Claiming → ⊥) → after.calls ≡ counted before.calls
  pub unsent : (Claiming → ⊥) → after.sends ≡ before.sends
  pub claimed : Claiming → after.calls ≡ counted (counted before.calls)
  pub sent : Claiming → after.sends ≡ counted before.sends

-- ---- calls of the link

-- a question to a link: what it answers is what it shows, and nothing is sent
pub record Asks (before after : LinkSeen) (answer : Result ViewInfo LinkError) : Type 0 where
  pub info : IfOk answer (λ info. option_map info_of after.shown ≡ Some info)
  pub stays : ShowsOn before.shown after.shown answer
  pub cloud : after.cloud ≡ before.cloud
  pub agree : (k : CloudState) (v : LinkView) → after.cloud ≡ Some k → after.shown ≡ Some v → v ≡ view_of k
  pub cause : HasLinkCause before.faults after.faults answer
  pub left : UsesFailures Failed before.left after.left answer
  pub unrefused : (refusal : CloudRefusal) → IsErrOf answer (Refused refusal) → ⊥
  pub called : after.calls ≡ counted before.calls
  pub sent : after.sends ≡ before.sends

-- what a cloud without a name is told to be after a claim: it took it where the answer is Ok, and took it or didn't where the
-- link failed; it never refuses it
abbrev pub AnswersClaim : Head → CloudState → Option CloudState → Result (Unit {0}) LinkError → Type 0
AnswersClaim head k after (Ok done) = after ≡ Some (claimed head k)
AnswersClaim head k after (Err Failed) = (after ≡ Some k) ⊎ (after ≡ Some (claimed head k))
AnswersClaim head k after (Err (Refused refusal)) = ⊥
AnswersClaim head k after (Err NoMemory) = after ≡ Some k

-- a claim of a cloud
pub record SendsClaim (head : Head) (before after : LinkSeen) (answer : Result (Unit {0}) LinkError) : Type 0 where
  pub claims : (k : CloudState) → before.cloud ≡ Some k → are_zeros k.id ≡ true → AnswersClaim head k after.cloud answer
  pub untold : before.cloud ≡ None → after.cloud ≡ None
  pub cause : HasLinkCause before.faults after.faults answer
  pub left : UsesFailures Failed before.left after.left answer
  pub called : after.calls ≡ counted before.calls
  pub sent : after.sends ≡ counted before.sends

-- ---- the whole

-- a start asks its link once, and what it was shown decides: the view of the told cloud, and the one that is shown. A cloud
-- that isn't claimed stays. Where the link tells how many failures may still come, and its cloud, they become fewer at a link
-- fault.
pub record Greets (head : Head) (before after : LinkSeen) (answer : Result ℕ StartError) : Type 0 where
  pub shown : Option ViewInfo
  pub of_view : (v : LinkView) → before.shown ≡ Some v → IfSome shown (λ info. info ≡ info_of v)
  pub of_cloud : (k : CloudState) → before.cloud ≡ Some k → IfSome shown (λ info. info ≡ info_of (view_of k))
  pub decides : Decides head shown answer
  pub asks : AsksOnce (Claims head shown) before after
  pub stays : (Claims head shown → ⊥) → after.cloud ≡ before.cloud
  pub claims : (k : CloudState) → before.cloud ≡ Some k → Claims head shown → LeavesClaimed head k after.cloud answer
  pub untold : before.cloud ≡ None → after.cloud ≡ None
  pub cause : HasCause LinkFault before.faults after.faults answer
  pub left : KeepsFailures before.left after.left
  pub used : (k : CloudState) → before.cloud ≡ Some k → IsSome before.left → answer ≡ Err LinkFault → left_of after.left < left_of before.left
