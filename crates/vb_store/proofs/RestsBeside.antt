-- Where both heads' candidates are one head, the candidates are one of the views.
use Rattle.std.proofs.Common.{◌≡◌, ℕ, zero, suc, ◌+◌, ◌^◌, ◌<◌, ◌≤◌, Bool, true, false, cond, eqb, List, [], ◌∷◌, length, None, Result, Ok, refl, sym, ap, subst, ◌∙◌, arith}
use Rattle.std.specs.List.{Contains}
use Rattle.std.proofs.lemmas.Bool.{eq-eqb, eqb-true, le-ltb}
use Rattle.vb_disk.specs.declared.cell.Cell.{Cell}
use Rattle.vb_disk.specs.States.{DiskState, IsDiskState}
use Rattle.vb_head.specs.declared.head.Head.{Head}
use Rattle.vb_head.specs.declared.head.State.{State}
use Rattle.vb_head.specs.declared.head.State.TheVariants.{Closed, Opened, Rebuilding as IsBeingMade}
use Rattle.vb_head.specs.Heads.{IsHead, IsInRange, count_of, head_page, head_read, last_sequence}
use Rattle.vb_journal.specs.declared.commit_stage.Stage.TheVariants.{Homes}
use Rattle.vb_journal.specs.declared.recover_error.RecoverError.{RecoverError}
use Rattle.vb_journal.specs.Images.{AreImages, image_at}
use Rattle.vb_journal.specs.Interruptions.{AreSettled}
use Rattle.vb_journal.specs.Outcomes.{reads_of}
use Rattle.vb_journal.specs.Plans.{CanFinish, closed_head, opened_head}
use Rattle.vb_journal.specs.Progress.{Fixed, Has, IsAtRest, new_images}
use Rattle.vb_journal.specs.Recoveries.{Recovered, choice_of, images_refusal, is_rebuilding, journal_of, journal_place, journal_refusal, node_image, node_images, recovered_from, recovery_of, settled_from, settled_head}
use Rattle.vb_journal.specs.RecoverViews.{AtImage, after_both, head_before, replay_from}
use Rattle.vb_journal.specs.Shown.{good_of, image_over, pages_from}
use Rattle.vb_journal.proofs.Choices.{head_choice-chosen}
use Rattle.vb_journal.proofs.Heads.{good_of-head_page, greater-same}
use Rattle.vb_journal.proofs.JournalReads.{image_at-pages_from}
use Rattle.vb_journal.proofs.Keeping.{IsCommitting-opened}
use Rattle.vb_journal.proofs.Replays.{opened-found, opened-settles}
use Rattle.vb_journal.proofs.SameRecoveries.{recovery_of-chosen}
use Rattle.vb_store.specs.Beside.{HasOneHead, IsKnownBeside, IsReplayedBeside, RestsBeside}
use Rattle.vb_store.specs.Clear.{first_candidates}
use Rattle.vb_store.specs.Metadata.{Metadata, metadata_of}
use Rattle.vb_store.specs.OneOf.{RecoversOneOf, TreeView}
use Rattle.vb_store.specs.Recovered.{entries_read, placed_in}
use Rattle.vb_store.proofs.CrashesOfMounts.{has_metadata, one_head}
use Rattle.vb_store.proofs.HeadsMended.{shows-counting}
use Rattle.vb_store.proofs.KnownViews.{ViewOf-recovered, ViewOf-settled}
use Rattle.vb_store.proofs.ReadsBeside.{IsChoiceOf-firsts, firsts-first, firsts-reads, firsts-size, firsts-unhurt, firsts_of}

-- ---- the candidates are a view

-- a view of this list is what the candidates give
pub record ShowsByCandidates (views : List TreeView) (d : DiskState) : Type 0 where
  pub view : TreeView
  pub listed : Contains views view
  pub metadata : metadata_of d.size (first_candidates d) ≡ Ok view.metadata
  pub pages : entries_read (first_candidates d) (placed_in view.metadata.held) ≡ Ok view.tree

page_of : (page : List ℕ) (cell : Cell) → Has (Fixed page) cell → cell.first ≡ page
page_of page cell has = cc has

-- that head counts by the candidates
pub candidates-count : (head : Head) (d : DiskState) → HasOneHead head d → choice_of d.size (first_candidates d) ≡ Ok head
candidates-count head d has =
    let first : first_candidates d 0 ≡ head_page head = page_of (head_page head) (d.cells 0) has.first in
    let second : first_candidates d 1 ≡ head_page head = page_of (head_page head) (d.cells 1) has.second in
    let large : 38 ≤ d.size = (let space = has.is.range.space in let low = has.is.range.nodes_low in let same = has.size in omega (arith, space, low, same)) in
    head_choice-chosen d.size (head_read (first_candidates d 0)) (head_read (first_candidates d 1)) head (record {
      enough = le-ltb d.size 38 large;
      greatest = greater-same head (good_of (head_read (first_candidates d 0))) (good_of (head_read (first_candidates d 1)))
          (good_of-head_page head (first_candidates d 0) has.is first) (good_of-head_page head (first_candidates d 1) has.is second);
      fits = eq-eqb head.blocks d.size (sym has.size);
      made = has.whole;
    })

pub candidates-show : (views : List TreeView) (made : Bool) (head : Head) (d : DiskState) → IsDiskState d → HasOneHead head d → RecoversOneOf views made d → ShowsByCandidates views d
candidates-show views made head d disk has recovers =
    let f : DiskState = firsts_of d in
    let choice : (size : ℕ) (reads : ℕ → List ℕ) → Result Head RecoverError = choice_of in
    let counts : choice_of f.size (reads_of f) ≡ Ok head =
    ap (λ (n : ℕ). choice_of n (reads_of f)) (firsts-size d) ∙ ap (choice_of d.size) (firsts-reads d) ∙ candidates-count head d has in
    let shows = shows-counting views made f head counts (λ q past. firsts-unhurt d q) (recovers f (IsChoiceOf-firsts d disk)) in
    record {
      view = shows.view;
      listed = shows.listed;
      metadata = sym (ap (λ (n : ℕ). metadata_of n (reads_of f)) (firsts-size d) ∙ ap (metadata_of d.size) (firsts-reads d)) ∙ shows.metadata;
      pages = subst (λ (reads : ℕ → List ℕ). entries_read reads (placed_in shows.view.metadata.held) ≡ Ok shows.view.tree) (firsts-first d) shows.pages;
    }

-- its head is the one at rest
its-head : (d : DiskState) (m : Metadata) (head : Head) → metadata_of d.size (first_candidates d) ≡ Ok m → choice_of d.size (first_candidates d) ≡ Ok head → m.head ≡ settled_head head
its-head d m head is counts =
    let has = has_metadata d.size (first_candidates d) m is in
    sym (ap (λ (x : Metadata). x.head) has.made) ∙ ap settled_head (one_head has.head head (choice_of d.size (first_candidates d)) has.counts counts)

-- ---- a closed head

abbrev pub homes_in : DiskState → ℕ → List ℕ
homes_in d slot = first_candidates d (2 + slot)

abbrev pub journal_in : DiskState → Head → ℕ → List ℕ
journal_in d head i = first_candidates d (2 + head.nodes + i)

alone_has : (d : DiskState) (place : ℕ) → AreSettled d → Has (Fixed (first_candidates d place)) (d.cells place)
alone_has d place settled = ap (λ (l : List (List ℕ)). (d.cells place).first ∷ l) (settled place)

pub rests_at : (head : Head) (d : DiskState) → HasOneHead head d → IsAtRest head (homes_in d) (journal_in d head) d
rests_at head d has = record {
  id = has.is.id_length;
  size = has.size;
  first = has.first;
  second = has.second;
  each_home = λ slot within. alone_has d (2 + slot) has.settled;
  each_image = λ i within. alone_has d (2 + head.nodes + i) has.settled;
}

closed-known : (views : List TreeView) (made : Bool) (head : Head) (d : DiskState) → IsDiskState d → HasOneHead head d → head.state ≡ Closed → RecoversOneOf views made d → RestsBeside views head d
closed-known views made head d disk has closed recovers =
    let shows = candidates-show views made head d disk has recovers in
    let rests = rests_at head d has in
    record {
      is = has.is;
      closed = closed;
      homes = homes_in d;
      journal = journal_in d head;
      rests = rests;
      settled = has.settled;
      its = record {
        view = shows.view;
        listed = shows.listed;
        head_is = its-head d shows.view.metadata head shows.metadata (candidates-count head d has) ∙ ap (settled_from head) closed;
        is = ViewOf-settled head (homes_in d) (journal_in d head) d shows.view has.is.range closed rests has.settled shows.metadata shows.pages;
      };
    }

-- ---- a head that counts images in

finish-found : (head : Head) (images : List (List ℕ)) → IsHead head → head.state ≡ Opened (length images) → AreImages head.nodes images → opened_head (head_before head) head.epoch images ≡ head → CanFinish (head_before head) head.epoch images
finish-found head images is opened are same =
    let r = is.range in
    let high : head.sequence ≤ 2 ^ 63 = subst (λ (s : State). head.sequence ≤ last_sequence s) opened r.sequence_high in
    record {
      opened = subst IsInRange (sym same) r;
      closed = record {
        blocks = r.blocks;
        nodes_low = r.nodes_low;
        nodes_high = r.nodes_high;
        space = r.space;
        id = r.id;
        sequence_low = omega arith;
        sequence_high = (let low = r.sequence_low in omega (arith, high, low));
        epoch = r.epoch;
        count = omega arith;
      };
      images_are = are;
    }

pub replay-known : (views : List TreeView) (made : Bool) (head : Head) (images : List (List ℕ)) (d : DiskState) → IsDiskState d → HasOneHead head d → head.state ≡ Opened (length images) → AreImages head.nodes images → images ≡ journal_of (first_candidates d) head → images_refusal head.nodes (journal_place head) [] images ≡ None → RecoversOneOf views made d → IsReplayedBeside views (head_before head) head.epoch images (Homes 0) d
replay-known views made head images d disk has opened are all accepted recovers =
    let reads : ℕ → List ℕ = first_candidates d in
    let before : Head = head_before head in
    let shows = candidates-show views made head d disk has recovers in
    let counts = candidates-count head d has in
    let same : opened_head before head.epoch images ≡ head = opened-found head before images refl has.is.range.sequence_low opened in
    let rests : IsAtRest (opened_head before head.epoch images) (homes_in d) (journal_in d head) d =
    subst (λ (h : Head). IsAtRest h (homes_in d) (journal_in d head) d) (sym same) (rests_at head d has) in
    let few : length images ≤ head.nodes = subst (λ (s : State). count_of s ≤ head.nodes) opened has.is.range.count in
    let counted : journal_of reads head ≡ pages_from reads (journal_place head) (length images) = ap (λ (s : State). pages_from reads (journal_place head) (count_of s)) opened in
    let journal : (i : ℕ) → i < length images → journal_in d head i ≡ image_at images i = λ i within.
    sym (image_at-pages_from reads (journal_place head) (length images) i within) ∙ ap (λ (l : List (List ℕ)). image_at l i) (sym counted ∙ sym all) in
    let settles : settled_head head ≡ closed_head before head.epoch = ap settled_head (sym same) ∙ opened-settles before head.epoch images in
    let none : journal_refusal reads head ≡ None = ap (images_refusal head.nodes (journal_place head) []) (sym all) ∙ accepted in
    let over : node_image reads head ≡ new_images images (homes_in d) = ap (λ (l : List (List ℕ)). λ slot. image_over l slot (reads (2 + slot))) (sym all) in
    let recovery : recovery_of d.size reads ≡ Ok (record { head = closed_head before head.epoch; images = pages_from (new_images images (homes_in d)) 0 head.nodes }) =
    recovery_of-chosen d.size reads (Ok head) counts ∙ ap (recovered_from reads head) none
    ∙ ap (λ (h : Head). let r : Result Recovered RecoverError = Ok (record { head = h; images = node_images reads head }) in r) settles
    ∙ ap (λ (g : ℕ → List ℕ). let r : Result Recovered RecoverError = Ok (record { head = closed_head before head.epoch; images = pages_from g 0 head.nodes }) in r) over in
    record {
      can = finish-found head images has.is opened are same;
      late = refl;
      homes = homes_in d;
      journal = journal_in d head;
      known = IsCommitting-opened before head.epoch images (homes_in d) (journal_in d head) d few are rests journal;
      behind = λ place past. has.settled place;
      its = record {
        view = shows.view;
        listed = shows.listed;
        head_is = its-head d shows.view.metadata head shows.metadata counts ∙ settles;
        is = ViewOf-recovered (closed_head before head.epoch) (new_images images (homes_in d)) d shows.view has.settled recovery shows.metadata shows.pages;
      };
    }

-- ---- once both heads are one

no_images : (nodes : ℕ) → AreImages nodes []
no_images nodes = record {
  sealed = λ i within. absurd (omega (arith, within));
  slots = λ i within. absurd (omega (arith, within));
  distinct = λ i j before within. absurd (omega (arith, within));
}

opened-known : (views : List TreeView) (made : Bool) (head : Head) (count : ℕ) (none : Bool) (d : DiskState) → IsDiskState d → HasOneHead head d → head.state ≡ Opened count → eqb count 0 ≡ none → RecoversOneOf views made d → IsKnownBeside views made (cond none (replay_from head []) (AtImage head count [])) d
opened-known views made head count true d disk has opened is recovers =
    let empty : head.state ≡ Opened 0 = opened ∙ ap Opened (eqb-true count 0 is) in
    replay-known views made head [] d disk has empty (no_images head.nodes) (sym (ap (λ (s : State). pages_from (first_candidates d) (journal_place head) (count_of s)) empty)) refl recovers
opened-known views made head count false d disk has opened is recovers = record {
  heads = has;
  opened = opened;
  left = some count is;
  images_are = no_images head.nodes;
  read = refl;
  accepted = refl;
}
  where
    some : (n : ℕ) → eqb n 0 ≡ false → 0 < n
    some zero is = absurd (cc is)
    some (suc n) is = omega arith

by_state : (views : List TreeView) (made : Bool) (head : Head) (state : State) (d : DiskState) → IsDiskState d → HasOneHead head d → head.state ≡ state → RecoversOneOf views made d → IsKnownBeside views made (after_both head state) d
by_state views made head Closed d disk has is recovers = closed-known views made head d disk has is recovers
by_state views made head (Opened count) d disk has is recovers = opened-known views made head count (eqb count 0) d disk has is refl recovers
by_state views made head IsBeingMade d disk has is recovers = absurd (let made_whole = has.whole in let other : is_rebuilding head.state ≡ true = ap is_rebuilding is in cc (made_whole, other))

pub both-known : (views : List TreeView) (made : Bool) (head : Head) (d : DiskState) → IsDiskState d → HasOneHead head d → RecoversOneOf views made d → IsKnownBeside views made (after_both head head.state) d
both-known views made head d disk has recovers = by_state views made head head.state d disk has refl recovers
