-- What the calls of a link answer and leave.
use Rattle.std.specs.Prelude.{◌≡◌, ◌≢◌, ◌⊎◌, ℕ, ◌≤◌, List, Option, Some, None, IsSome, Result, Ok, Err, IsErrOf, option_and_then}
use Rattle.sha2.specs.Sha256.{sha256}
use Rattle.vb_cause.specs.Faults.{HasRisen}
use Rattle.vb_cause.specs.Causes.{left_of}
use Rattle.vb_msg.specs.declared.message.Msg.{Msg}
use Rattle.vb_cloud.specs.declared.refusal.CloudRefusal.{CloudRefusal}
use Rattle.vb_cloud.specs.declared.refusal.CloudRefusal.TheVariants.{NoSuchEntry}
use Rattle.vb_cloud.specs.Machine.{CloudState, cloud_step}
use Rattle.vb_link.specs.declared.link_error.LinkError.{LinkError}
use Rattle.vb_link.specs.declared.link_error.LinkError.TheVariants.{Failed, Refused, Memory}
use Rattle.vb_link.specs.Views.{LinkView}

-- ---- messages

-- the told state is what a step leaves; none is where the step refuses
abbrev pub IsTold : Result CloudState CloudRefusal → Option CloudState → Type 0
IsTold (Ok after) told = told ≡ Some after
IsTold (Err refusal) told = ⊥

-- what a cloud is told to be once it was sent a message: it took it where the answer is Ok; it refused it and stays
-- where the answer is Refused; it took it or stays where the answer is Failed; and it stays for want of memory
abbrev pub AnswersSend : CloudState → Msg → Option CloudState → Result (Unit {0}) LinkError → Type 0
AnswersSend k m told (Ok done) = IsTold (cloud_step k m) told
AnswersSend k m told (Err (Refused refusal)) = (cloud_step k m ≡ Err refusal) × (told ≡ Some k)
AnswersSend k m told (Err Failed) = (told ≡ Some k) ⊎ IsTold (cloud_step k m) told
AnswersSend k m told (Err Memory) = told ≡ Some k

-- ---- answers of what is shown

-- a view is shown, and nothing is found in it
abbrev pub FindsNone : {A : Type 0} → (LinkView → Option A) → Option LinkView → Type 0
FindsNone look None = ⊥
FindsNone look (Some v) = look v ≡ None

-- the answer is what is found in the view that is shown, and NoSuchEntry only where nothing is found there
abbrev pub TellsShown : {A : Type 0} → (LinkView → Option A) → Option LinkView → Result A LinkError → Type 0
TellsShown look shown (Ok x) = option_and_then look shown ≡ Some x
TellsShown look shown (Err (Refused refusal)) = (refusal ≡ NoSuchEntry) × FindsNone look shown
TellsShown look shown (Err Failed) = Unit {0}
TellsShown look shown (Err Memory) = Unit {0}

-- the page has the digest that was asked for, and that digest is found in the view that is shown; NoSuchEntry only where
-- none is found there
abbrev pub FetchesShown : (LinkView → Option (List ℕ)) → List ℕ → Option LinkView → Result (List ℕ) LinkError → Type 0
FetchesShown look digest shown (Ok page) = (sha256 page ≡ digest) × (option_and_then look shown ≡ Some digest)
FetchesShown look digest shown (Err (Refused refusal)) = (refusal ≡ NoSuchEntry) × FindsNone look shown
FetchesShown look digest shown (Err Failed) = Unit {0}
FetchesShown look digest shown (Err Memory) = Unit {0}

-- the page is the one that the cloud has there, and a refusal comes only where it has none
abbrev pub AnswersFetch : Option (List ℕ) → Result (List ℕ) LinkError → Type 0
AnswersFetch held (Ok page) = held ≡ Some page
AnswersFetch held (Err (Refused refusal)) = held ≡ None
AnswersFetch held (Err Failed) = Unit {0}
AnswersFetch held (Err Memory) = Unit {0}

-- there is a page, of another digest
abbrev pub IsAnother : List ℕ → Option (List ℕ) → Type 0
IsAnother digest None = ⊥
IsAnother digest (Some page) = sha256 page ≢ digest

-- what was shown still is, unless the call failed
abbrev pub ShowsOn : {T : Type 0} → Option LinkView → Option LinkView → Result T LinkError → Type 0
ShowsOn before after result = (v : LinkView) → before ≡ Some v → (IsErrOf result Failed → ⊥) → after ≡ Some v

-- ---- faults

-- the count of faults never falls, and Failed and each refusal come only where it rose in this call
pub record HasLinkCause {T : Type 0} (before after : ℕ) (result : Result T LinkError) : Type 0 where
  pub kept : before ≤ after
  pub failed : IsErrOf result Failed → HasRisen before after
  pub refused : (refusal : CloudRefusal) → IsErrOf result (Refused refusal) → HasRisen before after

-- where it was told how many failures may still come, it still is, and they became no more
pub record KeepsFailures (before after : Option ℕ) : Type 0 where
  pub told : IsSome before → IsSome after
  pub kept : IsSome before → left_of after ≤ left_of before
