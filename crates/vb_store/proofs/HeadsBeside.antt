-- What is known of the heads once both were read.
use Rattle.std.proofs.Common.{◌≡◌, ℕ, ◌-◌, ◌≤◌, Bool, true, false, cond, ltb, List, [], ◌∷◌, Some, None, Result, Ok, Err, refl, sym, ap, subst, ◌∙◌, inl, inr, arith}
use Rattle.std.proofs.lemmas.Bool.{eqb-true, ltb-false}
use Rattle.vb_disk.specs.States.{DiskState, IsDiskState, read_at}
use Rattle.vb_head.specs.declared.head.Head.{Head}
use Rattle.vb_head.specs.declared.head.HeadRead.{HeadRead}
use Rattle.vb_head.specs.declared.head.HeadRead.TheVariants.{Good}
use Rattle.vb_head.specs.Heads.{IsHead, head_page, head_read}
use Rattle.vb_journal.specs.declared.recover_error.RecoverError.{RecoverError}
use Rattle.vb_journal.specs.declared.recover_error.RecoverError.TheVariants.{NotAStore}
use Rattle.vb_journal.specs.Interruptions.{AreSettled}
use Rattle.vb_journal.specs.Outcomes.{reads_of}
use Rattle.vb_journal.specs.Progress.{Fixed, Has}
use Rattle.vb_journal.specs.Recoveries.{are_one_head, choice_of, greater_place, head_among, head_choice}
use Rattle.vb_journal.specs.RecoverViews.{AtMend, AtRefused, AtSettle, IsSpelled, after_both, after_heads}
use Rattle.vb_journal.specs.Shown.{good_of, greater}
use Rattle.vb_journal.proofs.Choices.{IsChosen-from, StandsAt, chosen, good-from_good_of, greater-stands, one-head, refused}
use Rattle.vb_journal.proofs.Heads.{good_of-head_page, good_of-unsealed}
use Rattle.vb_store.specs.Beside.{HasFirstHead, HasOneHead, HasReason, IsKnownBeside, IsMendedBeside, MayReadAs, WasRead}
use Rattle.vb_store.specs.Clear.{first_candidates}
use Rattle.vb_store.specs.OneOf.{RecoversOneOf, TreeView}
use Rattle.vb_store.proofs.ReadsBeside.{IsChoiceOf-firsts, first-page, firsts-size, firsts-unhurt, firsts_of, read-now, reads-heads, reason-from, reason-more}
use Rattle.vb_store.proofs.RestsBeside.{both-known}
use Rattle.vb_store.proofs.SoundImages.{metadata-refused}

-- ---- the size

small-choice : (size : ℕ) (reads : ℕ → List ℕ) → ltb size 38 ≡ true → choice_of size reads ≡ refused (NotAStore 0)
small-choice size reads small =
    ap (λ (t : Bool). cond t (refused (NotAStore 0)) (head_among size (head_read (reads 0)) (head_read (reads 1)) (greater (good_of (head_read (reads 0))) (good_of (head_read (reads 1)))))) small

-- a disk from which a view may be recovered is large enough
pub large-enough : (views : List TreeView) (made : Bool) (d : DiskState) → IsDiskState d → RecoversOneOf views made d → ltb d.size 38 ≡ false
large-enough views made d disk recovers = by_test (ltb d.size 38) refl
  where
    by_test : (test : Bool) → ltb d.size 38 ≡ test → ltb d.size 38 ≡ false
    by_test false is = is
    by_test true is =
        let f : DiskState = firsts_of d in
        let small : ltb f.size 38 ≡ true = ap (λ (n : ℕ). ltb n 38) (firsts-size d) ∙ is in
        let reason = reason-from views made f (NotAStore 0) (recovers f (IsChoiceOf-firsts d disk)) (metadata-refused f.size (reads_of f) (NotAStore 0) (small-choice f.size (reads_of f) small)) in
        absurd (let none = firsts-unhurt d 0 in let some = reason.0.1 in cc (none, some))

pub size-known : (views : List TreeView) (made : Bool) (d : DiskState) (test : Bool) → ltb d.size 38 ≡ false → ltb d.size 38 ≡ test → IsKnownBeside views made (cond test (AtRefused (NotAStore 0)) (AtSettle d.size)) d
size-known views made d true large is = absurd (cc (large, is))
size-known views made d false large is = refl

-- ---- a head that was read

-- what reads as a head is the candidate, since a miss isn't sealed
head-candidate : (d : DiskState) (place : ℕ) (page : List ℕ) (head : Head) → IsHead head → WasRead d place page → page ≡ head_page head → first_candidates d place ≡ head_page head
head-candidate d place page head is (inl same) at = sym same ∙ at
head-candidate d place page head is (inr was) at =
    let none : good_of (head_read page) ≡ None = good_of-unsealed page was.2.unsealed in
    let some : good_of (head_read page) ≡ Some head = good_of-head_page head page is at in
    absurd (cc (none, some))

fixed-head : (d : DiskState) (place : ℕ) (page : List ℕ) → AreSettled d → first_candidates d place ≡ page → Has (Fixed page) (d.cells place)
fixed-head d place page settled is =
    ap (λ (l : List (List ℕ)). (d.cells place).first ∷ l) (settled place) ∙ ap (λ (p : List ℕ). p ∷ []) is

may-read : (d : DiskState) (place : ℕ) (page : List ℕ) → WasRead d place page → MayReadAs (first_candidates d place) page
may-read d place page (inl same) = inl same
may-read d place page (inr was) = inr (was.1, was.2)

-- both heads were read
record HasHeads (d : DiskState) (first second : List ℕ) : Type 0 where
  settled : AreSettled d
  first_was : WasRead d 0 first
  second_was : WasRead d 1 second
  first_spelled : IsSpelled first
  second_spelled : IsSpelled second

-- one head counts that both read as
same-heads : (d : DiskState) (first second : List ℕ) (head : Head) → HasHeads d first second → head_choice d.size (head_read first) (head_read second) ≡ chosen head → head_read first ≡ head_read second → HasOneHead head d
same-heads d first second head has is same =
    let was = IsChosen-from d.size (head_read first) (head_read second) head is in
    let goods : (head_read first ≡ Good head) × (head_read second ≡ Good head) = elim (greater-stands (good_of (head_read first)) (good_of (head_read second)) head was.greatest) [
      | inl at ↦ (let good = good-from_good_of (head_read first) head at.1 in (good, sym same ∙ good))
      | inr at ↦ (let good = good-from_good_of (head_read second) head at.1 in (same ∙ good, good))
    ] in
    let one = has.first_spelled.spelled head goods.0 in
    let two = has.second_spelled.spelled head goods.1 in
    record {
      is = one.1;
      size = sym (eqb-true head.blocks d.size was.fits);
      whole = was.made;
      first = fixed-head d 0 (head_page head) has.settled (head-candidate d 0 first head one.1 has.first_was one.0);
      second = fixed-head d 1 (head_page head) has.settled (head-candidate d 1 second head two.1 has.second_was two.0);
      settled = has.settled;
    }

-- the first one counts, and is to be written over the second
mend-second : (d : DiskState) (first second : List ℕ) (head : Head) → IsDiskState d → HasHeads d first second → head_choice d.size (head_read first) (head_read second) ≡ chosen head → good_of (head_read first) ≡ Some head → IsMendedBeside head 1 d
mend-second d first second head disk has is good =
    let one = has.first_spelled.spelled head (good-from_good_of (head_read first) head good) in
    record {
      was = first_candidates d 1;
      chosen = record {
        is = one.1;
        low = omega arith;
        whole = first-page d 1 disk;
        page = second;
        read = may-read d 1 second has.second_was;
        counts = ap (λ (p : List ℕ). head_choice d.size (head_read p) (head_read second)) (sym one.0) ∙ is;
        here = fixed-head d 0 (head_page head) has.settled (head-candidate d 0 first head one.1 has.first_was one.0);
        there = (0, ap (λ (l : List (List ℕ)). (d.cells 1).first ∷ l) (has.settled 1));
      };
      settled = λ other apart. has.settled other;
    }

-- the second one counts, and is to be written over the first
mend-first : (d : DiskState) (first second : List ℕ) (head : Head) → IsDiskState d → HasHeads d first second → head_choice d.size (head_read first) (head_read second) ≡ chosen head → good_of (head_read second) ≡ Some head → IsMendedBeside head 0 d
mend-first d first second head disk has is good =
    let two = has.second_spelled.spelled head (good-from_good_of (head_read second) head good) in
    record {
      was = first_candidates d 0;
      chosen = record {
        is = two.1;
        low = omega arith;
        whole = first-page d 0 disk;
        page = first;
        read = may-read d 0 first has.first_was;
        counts = ap (λ (p : List ℕ). head_choice d.size (head_read first) (head_read p)) (sym two.0) ∙ is;
        here = fixed-head d 1 (head_page head) has.settled (head-candidate d 1 second head two.1 has.second_was two.0);
        there = (0, ap (λ (l : List (List ℕ)). (d.cells 0).first ∷ l) (has.settled 0));
      };
      settled = λ other apart. has.settled other;
    }

mend-known : (d : DiskState) (first second : List ℕ) (head : Head) (place : ℕ) → IsDiskState d → HasHeads d first second → head_choice d.size (head_read first) (head_read second) ≡ chosen head → StandsAt (good_of (head_read first)) (good_of (head_read second)) head place → IsMendedBeside head (1 - place) d
mend-known d first second head place disk has is (inl at) = subst (λ (p : ℕ). IsMendedBeside head (1 - p) d) (sym at.0) (mend-second d first second head disk has is at.1)
mend-known d first second head place disk has is (inr at) = subst (λ (p : ℕ). IsMendedBeside head (1 - p) d) (sym at.0) (mend-first d first second head disk has is at.1)

-- ---- both heads

-- no head counts
heads-reason : (views : List TreeView) (made : Bool) (d : DiskState) (first second : List ℕ) (why : RecoverError) → IsDiskState d → HasHeads d first second → RecoversOneOf views made d → head_choice d.size (head_read first) (head_read second) ≡ refused why → HasReason made why d
heads-reason views made d first second why disk has recovers is =
    let large : 38 ≤ d.size = ltb-false d.size 38 (large-enough views made d disk recovers) in
    let so = reads-heads d first second disk (omega (arith, large)) has.first_was has.second_was in
    let choice : choice_of d.size (reads_of so.f) ≡ refused why =
    ap (λ (p : List ℕ). head_choice d.size (head_read p) (head_read (read_at so.f 1))) so.first_is
    ∙ ap (λ (p : List ℕ). head_choice d.size (head_read first) (head_read p)) so.second_is ∙ is in
    reason-more made why so.f d so.hurt
    (reason-from views made so.f why (recovers so.f so.is) (metadata-refused so.f.size (reads_of so.f) why (ap (λ (n : ℕ). choice_of n (reads_of so.f)) so.is.size ∙ choice)))

one-known : (views : List TreeView) (made : Bool) (d : DiskState) (first second : List ℕ) (head : Head) (same : Bool) → IsDiskState d → HasHeads d first second → RecoversOneOf views made d → head_choice d.size (head_read first) (head_read second) ≡ chosen head → are_one_head (head_read first) (head_read second) ≡ same
    → IsKnownBeside views made (cond same (after_both head head.state) (AtMend head (1 - greater_place (good_of (head_read first)) (good_of (head_read second))))) d
one-known views made d first second head true disk has recovers is same =
    both-known views made head d disk (same-heads d first second head has is (one-head (head_read first) (head_read second) same)) recovers
one-known views made d first second head false disk has recovers is same =
    mend-known d first second head (greater_place (good_of (head_read first)) (good_of (head_read second))) disk has is
    (greater-stands (good_of (head_read first)) (good_of (head_read second)) head (IsChosen-from d.size (head_read first) (head_read second) head is).greatest)

by-choice : (views : List TreeView) (made : Bool) (d : DiskState) (first second : List ℕ) (choice : Result Head RecoverError) → IsDiskState d → HasHeads d first second → RecoversOneOf views made d → head_choice d.size (head_read first) (head_read second) ≡ choice → IsKnownBeside views made (after_heads (head_read first) (head_read second) choice) d
by-choice views made d first second (Ok head) disk has recovers is = one-known views made d first second head (are_one_head (head_read first) (head_read second)) disk has recovers is refl
by-choice views made d first second (Err why) disk has recovers is = heads-reason views made d first second why disk has recovers is

pub heads-known : (views : List TreeView) (made : Bool) (d : DiskState) (places : ℕ) (read : HeadRead) → IsDiskState d → HasFirstHead places read d → IsSpelled (read_at d 1) → RecoversOneOf views made d
    → IsKnownBeside views made (after_heads read (head_read (read_at d 1)) (head_choice places read (head_read (read_at d 1)))) d
heads-known views made d places read disk is spelled recovers =
    let second : List ℕ = read_at d 1 in
    let P : HeadRead → Type 0 = λ r. IsKnownBeside views made (after_heads r (head_read second) (head_choice places r (head_read second))) d in
    let Q : ℕ → Type 0 = λ n. IsKnownBeside views made (after_heads (head_read is.page) (head_read second) (head_choice n (head_read is.page) (head_read second))) d in
    let has : HasHeads d is.page second = record {
      settled = is.settled;
      first_was = is.was;
      second_was = read-now d 1 disk (is.settled 1);
      first_spelled = is.spelled;
      second_spelled = spelled;
    } in
    subst P (sym is.read_is) (subst Q (sym is.size) (by-choice views made d is.page second (head_choice d.size (head_read is.page) (head_read second)) disk has recovers refl))
