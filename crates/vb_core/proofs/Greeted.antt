-- The start of a folder over its link: what each end of it leaves.
use Rattle.std.proofs.Common.{◌≡◌, ◌≢◌, ◌⊎◌, ℕ, ◌<◌, ◌≤◌, true, false, Option, Some, None, IfSome, IsSome, IsNone, is_some, ◌↔◌, List, Result, Ok, Err, IsErrOf, refl, sym, subst, ap, ◌∙◌, inl, inr, arith, option_map}
use Rattle.vb_cause.specs.Causes.{HasCause, UsesFailures, left_of}
use Rattle.vb_cause.specs.Faults.{HasRisen, counted, greatest_count}
use Rattle.vb_cloud.specs.Machine.{CloudState}
use Rattle.vb_cloud.specs.declared.refusal.CloudRefusal.{CloudRefusal}
use Rattle.vb_head.specs.declared.head.Head.{Head}
use Rattle.vb_link.specs.Links.{HasLinkCause, KeepsFailures, ShowsOn}
use Rattle.vb_link.specs.Views.{LinkView, info_of, view_of}
use Rattle.vb_link.specs.declared.link_error.LinkError.{LinkError}
use Rattle.vb_link.specs.declared.link_error.LinkError.TheVariants.{Failed, Refused, Memory as NoMemory}
use Rattle.vb_link.specs.declared.view.ViewInfo.{ViewInfo}
use Rattle.vb_msg.specs.Ranges.{are_zeros}
use Rattle.vb_msg.specs.declared.ranges.CloudId.{CloudId}
use Rattle.vb_core.specs.declared.start_error.StartError.{StartError}
use Rattle.vb_core.specs.declared.start_error.StartError.TheVariants.{Foreign, Behind, LinkFault, Memory}
use Rattle.vb_core.specs.Greetings.{AnswersClaim, AnswersNothing, AnswersShown, Asks, AsksOnce, Claims, Decides, GoesWith, Greets, IsForeign, IsOfShown, LeavesClaimed, LinkSeen, SendsClaim, claimed, start_error_of}

-- a start that was refused
abbrev refused : StartError → Result ℕ StartError
refused why = Err why

-- ---- faults and failures

-- a count that rose in a later call rose in both
rose-later : (before mid after : ℕ) → before ≤ mid → HasRisen mid after → HasRisen before after
rose-later before mid after kept rose = omega arith

-- the error of a link is a link fault only where the count of faults rose
fault-cause : {T : Type 0} (before mid after : ℕ) (error : LinkError) → before ≤ mid → HasLinkCause {T = T} mid after (Err error) → HasCause LinkFault before after (refused (start_error_of error))
fault-cause before mid after Failed kept cause = let more : mid ≤ after = cause.kept in record { kept = omega arith; failed = λ is. rose-later before mid after kept (cause.failed refl) }
fault-cause before mid after (Refused refusal) kept cause = let more : mid ≤ after = cause.kept in record { kept = omega arith; failed = λ is. rose-later before mid after kept (cause.refused refusal refl) }
fault-cause before mid after NoMemory kept cause = let more : mid ≤ after = cause.kept in record { kept = omega arith; failed = λ is. (let e : refused Memory ≡ refused LinkFault = is in absurd (cc e)) }

-- another answer has no cause
no-cause : (before after : ℕ) (answer : Result ℕ StartError) → before ≤ after → (answer ≡ refused LinkFault → ⊥) → HasCause LinkFault before after answer
no-cause before after answer kept other = record { kept = kept; failed = λ is. absurd (other is) }

-- an error that what was shown decides is no link fault
of-shown-other : (why : StartError) → IsOfShown why → refused why ≡ refused LinkFault → ⊥
of-shown-other (Foreign local cloud) of is = (let e : refused (Foreign local cloud) ≡ refused LinkFault = is in absurd (cc e))
of-shown-other (Behind local published) of is = (let e : refused (Behind local published) ≡ refused LinkFault = is in absurd (cc e))
of-shown-other LinkFault of is = of
of-shown-other Memory of is = of

-- failures of one call
once-left : {T : Type 0} (before after : Option ℕ) (answer : Result T LinkError) → UsesFailures Failed before after answer → KeepsFailures before after
once-left before after answer left = record { told = left.told; kept = left.kept }

-- failures of two calls
both-left : {T U : Type 0} (before mid after : Option ℕ) (first : Result T LinkError) (second : Result U LinkError) → UsesFailures Failed before mid first → UsesFailures Failed mid after second → KeepsFailures before after
both-left before mid after first second left more = record {
  told = λ some. more.told (left.told some);
  kept = λ some. (let a : left_of mid ≤ left_of before = left.kept some in let b : left_of after ≤ left_of mid = more.kept (left.told some) in omega arith);
}

-- ---- what was shown

-- the link that was asked shows a view
map-some : (shown : Option LinkView) (info : ViewInfo) → option_map info_of shown ≡ Some info → (v : LinkView) × (shown ≡ Some v) × (info ≡ info_of v)
map-some None info is = absurd (cc is)
map-some (Some v) info is = (v, refl, (let e : Some (info_of v) ≡ Some info = is in cc e))

-- it is the one that was shown before
shown-view : (before mid : LinkSeen) (info : ViewInfo) → Asks before mid (Ok info) → (v : LinkView) → before.shown ≡ Some v → info ≡ info_of v
shown-view before mid info asks v was =
    let at : mid.shown ≡ Some v = asks.stays v was (λ is. (let e : Ok info ≡ Err Failed = is in absurd (cc e))) in
    let e : Some (info_of v) ≡ Some info = ap (option_map info_of) (sym at) ∙ asks.info in
    cc e

-- and that of the told cloud
shown-cloud : (before mid : LinkSeen) (info : ViewInfo) → Asks before mid (Ok info) → (k : CloudState) → before.cloud ≡ Some k → info ≡ info_of (view_of k)
shown-cloud before mid info asks k was =
    let v = map-some mid.shown info asks.info in
    v.2 ∙ ap info_of (asks.agree k v.0 (asks.cloud ∙ was) v.1)

-- ---- the link failed before anything was shown

nothing-decides : (error : LinkError) → AnswersNothing (Err (start_error_of error))
nothing-decides Failed = tt
nothing-decides (Refused refusal) = tt
nothing-decides NoMemory = tt

asked-used : (before after : Option ℕ) (error : LinkError) → ((refusal : CloudRefusal) → error ≡ Refused refusal → ⊥) → UsesFailures {T = ViewInfo} Failed before after (Err error) → IsSome before → refused (start_error_of error) ≡ refused LinkFault → left_of after < left_of before
asked-used before after Failed never left some is = left.used some refl
asked-used before after (Refused refusal) never left some is = absurd (never refusal refl)
asked-used before after NoMemory never left some is = (let e : refused Memory ≡ refused LinkFault = is in absurd (cc e))

pub greets-failed : (head : Head) (before after : LinkSeen) (error : LinkError) → Asks before after (Err error) → Greets head before after (Err (start_error_of error))
greets-failed head before after error asks = record {
  shown = None;
  of_view = λ v was. tt;
  of_cloud = λ k was. tt;
  decides = nothing-decides error;
  asks = record { asked = λ not. asks.called; unsent = λ not. asks.sent; claimed = λ claims. absurd claims; sent = λ claims. absurd claims };
  stays = λ not. asks.cloud;
  claims = λ k was claims. absurd claims;
  untold = λ none. asks.cloud ∙ none;
  cause = (let same : before.faults ≤ before.faults = omega arith in fault-cause before.faults before.faults after.faults error same asks.cause);
  left = once-left before.left after.left (Err error) asks.left;
  used = λ k was some is. asked-used before.left after.left error (λ refusal refused. asks.unrefused refusal (ap Err refused)) asks.left some is;
}

-- ---- the cloud isn't claimed

unclaimed : (head : Head) (before mid : LinkSeen) (info : ViewInfo) (answer : Result ℕ StartError) → Asks before mid (Ok info) → AnswersShown head info answer → (Claims head (Some info) → ⊥) → (answer ≡ refused LinkFault → ⊥) → Greets head before mid answer
unclaimed head before mid info answer asks decides not other = record {
  shown = Some info;
  of_view = λ v was. shown-view before mid info asks v was;
  of_cloud = λ k was. shown-cloud before mid info asks k was;
  decides = decides;
  asks = record { asked = λ no. asks.called; unsent = λ no. asks.sent; claimed = λ claims. absurd (not claims); sent = λ claims. absurd (not claims) };
  stays = λ no. asks.cloud;
  claims = λ k was claims. absurd (not claims);
  untold = λ none. asks.cloud ∙ none;
  cause = no-cause before.faults mid.faults answer asks.cause.kept other;
  left = once-left before.left mid.left (Ok info) asks.left;
  used = λ k was some is. absurd (other is);
}

-- a cloud that is another folder's, or shows a later epoch, isn't claimed
refused-unclaimed : (head : Head) (info : ViewInfo) (why : StartError) → IsOfShown why → AnswersShown head info (Err why) → Claims head (Some info) → ⊥
refused-unclaimed head info (Foreign local cloud) of answers claims = claims.0.own answers.0
refused-unclaimed head info (Behind local published) of answers claims =
    (let a : head.epoch < info.epoch = answers.1 in let b : info.epoch ≤ head.epoch = claims.0.reached in omega arith)
refused-unclaimed head info LinkFault of answers claims = of
refused-unclaimed head info Memory of answers claims = of

pub greets-refused : (head : Head) (before mid : LinkSeen) (info : ViewInfo) (why : StartError) → Asks before mid (Ok info) → IsOfShown why → AnswersShown head info (Err why) → Greets head before mid (Err why)
greets-refused head before mid info why asks of answers =
    unclaimed head before mid info (Err why) asks answers (refused-unclaimed head info why of answers) (of-shown-other why of)

pub greets-named : (head : Head) (before mid : LinkSeen) (info : ViewInfo) → Asks before mid (Ok info) → GoesWith head info → (are_zeros info.id ≡ true → ⊥) → Greets head before mid (Ok info.epoch)
greets-named head before mid info asks goes named =
    unclaimed head before mid info (Ok info.epoch) asks (goes, refl) (λ claims. named claims.1) (λ is. (let e : Ok info.epoch ≡ refused LinkFault = is in absurd (cc e)))

-- ---- names

-- a name that there is isn't zeros
pub is-named : (named : Option CloudId) (id : List ℕ) → (IsNone named ↔ (are_zeros id ≡ true)) → is_some named ≡ true → are_zeros id ≡ true → ⊥
is-named None id either some zeros = cc some
is-named (Some name) id either some zeros = (let e : IsNone (Some name) = either.1 zeros in cc e)

-- and where there is none, it is
pub is-unnamed : (named : Option CloudId) (id : List ℕ) → (IsNone named ↔ (are_zeros id ≡ true)) → is_some named ≡ false → are_zeros id ≡ true
is-unnamed None id either none = either.0 refl
is-unnamed (Some name) id either none = absurd (cc none)

-- ---- the cloud is claimed

-- what a start answers to a claim's answer
abbrev claim_answer : ℕ → Result (Unit {0}) LinkError → Result ℕ StartError
claim_answer published (Ok done) = Ok published
claim_answer published (Err error) = Err (start_error_of error)

claim-decides : (head : Head) (info : ViewInfo) (answer : Result (Unit {0}) LinkError) → GoesWith head info → are_zeros info.id ≡ true → AnswersShown head info (claim_answer info.epoch answer)
claim-decides head info (Ok done) goes zeros = (goes, refl)
claim-decides head info (Err Failed) goes zeros = (goes, zeros)
claim-decides head info (Err (Refused refusal)) goes zeros = (goes, zeros)
claim-decides head info (Err NoMemory) goes zeros = goes

claim-leaves : (head : Head) (k : CloudState) (after : Option CloudState) (answer : Result (Unit {0}) LinkError) (published : ℕ) → AnswersClaim head k after answer → LeavesClaimed head k after (claim_answer published answer)
claim-leaves head k after (Ok done) published is = is
claim-leaves head k after (Err Failed) published is = is
claim-leaves head k after (Err (Refused refusal)) published is = absurd is
claim-leaves head k after (Err NoMemory) published is = inl is

claim-cause : (before mid after : ℕ) (answer : Result (Unit {0}) LinkError) (published : ℕ) → before ≤ mid → HasLinkCause mid after answer → HasCause LinkFault before after (claim_answer published answer)
claim-cause before mid after (Ok done) published kept cause =
    (let more : mid ≤ after = cause.kept in no-cause before after (Ok published) (omega arith) (λ is. (let e : Ok published ≡ refused LinkFault = is in absurd (cc e))))
claim-cause before mid after (Err error) published kept cause = fault-cause before mid after error kept cause

claim-used : (head : Head) (k : CloudState) (cloud : Option CloudState) (before mid after : Option ℕ) (info : ViewInfo) (answer : Result (Unit {0}) LinkError) (published : ℕ) → AnswersClaim head k cloud answer → UsesFailures Failed before mid (Ok info) → UsesFailures Failed mid after answer → IsSome before → claim_answer published answer ≡ refused LinkFault → left_of after < left_of before
claim-used head k cloud before mid after info (Ok done) published answers left more some is = (let e : Ok published ≡ refused LinkFault = is in absurd (cc e))
claim-used head k cloud before mid after info (Err Failed) published answers left more some is =
    (let a : left_of mid ≤ left_of before = left.kept some in let b : left_of after < left_of mid = more.used (left.told some) refl in omega arith)
claim-used head k cloud before mid after info (Err (Refused refusal)) published answers left more some is = absurd answers
claim-used head k cloud before mid after info (Err NoMemory) published answers left more some is = (let e : refused Memory ≡ refused LinkFault = is in absurd (cc e))

greets-claim : (head : Head) (before mid after : LinkSeen) (info : ViewInfo) (answer : Result (Unit {0}) LinkError) → Asks before mid (Ok info) → GoesWith head info → are_zeros info.id ≡ true → SendsClaim head mid after answer → Greets head before after (claim_answer info.epoch answer)
greets-claim head before mid after info answer asks goes zeros sends =
    let zeros_of : (k : CloudState) → before.cloud ≡ Some k → are_zeros k.id ≡ true =
    λ k was. subst (λ (i : ViewInfo). are_zeros i.id ≡ true) (shown-cloud before mid info asks k was) zeros in
    let takes : (k : CloudState) → before.cloud ≡ Some k → AnswersClaim head k after.cloud answer = λ k was. sends.claims k (asks.cloud ∙ was) (zeros_of k was) in
    record {
      shown = Some info;
      of_view = λ v was. shown-view before mid info asks v was;
      of_cloud = λ k was. shown-cloud before mid info asks k was;
      decides = claim-decides head info answer goes zeros;
      asks = record {
        asked = λ not. absurd (not (goes, zeros));
        unsent = λ not. absurd (not (goes, zeros));
        claimed = λ claims. sends.called ∙ ap counted asks.called;
        sent = λ claims. sends.sent ∙ ap counted asks.sent;
      };
      stays = λ not. absurd (not (goes, zeros));
      claims = λ k was claims. claim-leaves head k after.cloud answer info.epoch (takes k was);
      untold = λ none. sends.untold (asks.cloud ∙ none);
      cause = claim-cause before.faults mid.faults after.faults answer info.epoch asks.cause.kept sends.cause;
      left = both-left before.left mid.left after.left (Ok info) answer asks.left sends.left;
      used = λ k was some is. claim-used head k after.cloud before.left mid.left after.left info answer info.epoch (takes k was) asks.left sends.left some is;
    }

pub greets-claimed : (head : Head) (before mid after : LinkSeen) (info : ViewInfo) → Asks before mid (Ok info) → GoesWith head info → are_zeros info.id ≡ true → SendsClaim head mid after (Ok tt) → Greets head before after (Ok info.epoch)
greets-claimed head before mid after info asks goes zeros sends = greets-claim head before mid after info (Ok tt) asks goes zeros sends

pub greets-unclaimed : (head : Head) (before mid after : LinkSeen) (info : ViewInfo) (error : LinkError) → Asks before mid (Ok info) → GoesWith head info → are_zeros info.id ≡ true → SendsClaim head mid after (Err error) → Greets head before after (Err (start_error_of error))
greets-unclaimed head before mid after info error asks goes zeros sends = greets-claim head before mid after info (Err error) asks goes zeros sends

-- ---- no memory was found for the folder

memory-decides : (head : Head) (shown : Option ViewInfo) (published : ℕ) → Decides head shown (Ok published) → Decides head shown (Err Memory)
memory-decides head None published decides = absurd decides
memory-decides head (Some info) published decides = decides.0

pub greets-memory : (head : Head) (before after : LinkSeen) (published : ℕ) → Greets head before after (Ok published) → Greets head before after (Err Memory)
greets-memory head before after published greets = record {
  shown = greets.shown;
  of_view = greets.of_view;
  of_cloud = greets.of_cloud;
  decides = memory-decides head greets.shown published greets.decides;
  asks = record { asked = greets.asks.asked; unsent = greets.asks.unsent; claimed = greets.asks.claimed; sent = greets.asks.sent };
  stays = greets.stays;
  claims = λ k was claims. inr (greets.claims k was claims);
  untold = greets.untold;
  cause = no-cause before.faults after.faults (Err Memory) greets.cause.kept (λ is. (let e : refused Memory ≡ refused LinkFault = is in absurd (cc e)));
  left = record { told = greets.left.told; kept = greets.left.kept };
  used = λ k was some is. (let e : refused Memory ≡ refused LinkFault = is in absurd (cc e));
}
