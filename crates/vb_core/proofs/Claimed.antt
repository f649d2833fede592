-- A claim of a cloud that has no name.
use Rattle.std.proofs.Common.{◌≡◌, ◌⊎◌, ℕ, true, not, List, Option, Some, None, Result, Ok, Err, refl, sym, subst, ap, ◌∙◌, inl, inr}
use Rattle.vb_cloud.specs.Machine.{CloudState, cloud_step, refuse_if}
use Rattle.vb_cloud.specs.declared.refusal.CloudRefusal.{CloudRefusal}
use Rattle.vb_cloud.specs.declared.refusal.CloudRefusal.TheVariants as refusals
use Rattle.vb_head.specs.declared.head.Head.{Head}
use Rattle.vb_link.specs.Links.{AnswersSend, IsTold}
use Rattle.vb_link.specs.declared.link_error.LinkError.{LinkError}
use Rattle.vb_link.specs.declared.link_error.LinkError.TheVariants.{Failed, Refused, Memory}
use Rattle.vb_msg.specs.Ranges.{are_zeros}
use Rattle.vb_msg.specs.declared.ranges.CloudId.{CloudId}
use Rattle.vb_msg.specs.declared.message.Msg.TheVariants.{Claim}
use Rattle.vb_core.specs.Greetings.{AnswersClaim, claimed}

-- it takes the claim
claim-taken : (head : Head) (id : CloudId) (k : CloudState) → are_zeros k.id ≡ true → id.id ≡ head.id → cloud_step k (Claim id) ≡ Ok (claimed head k)
claim-taken head id k zeros same =
    ap (λ b. refuse_if (not b) refusals.Claimed (Ok (record k { id = id.id }))) zeros ∙ ap (λ (name : List ℕ). Ok (record k { id = name })) same

pub answers-claim : (head : Head) (id : CloudId) (k : CloudState) (told : Option CloudState) (answer : Result (Unit {0}) LinkError) → are_zeros k.id ≡ true → id.id ≡ head.id → AnswersSend k (Claim id) told answer → AnswersClaim head k told answer
answers-claim head id k told (Ok done) zeros same is = subst (λ (r : Result CloudState CloudRefusal). IsTold r told) (claim-taken head id k zeros same) is
answers-claim head id k told (Err Failed) zeros same (inl stays) = inl stays
answers-claim head id k told (Err Failed) zeros same (inr took) = inr (subst (λ (r : Result CloudState CloudRefusal). IsTold r told) (claim-taken head id k zeros same) took)
answers-claim head id k told (Err (Refused refusal)) zeros same is =
    (let e : Ok (claimed head k) ≡ Err refusal = sym (claim-taken head id k zeros same) ∙ is.0 in absurd (cc e))
answers-claim head id k told (Err Memory) zeros same is = is
