-- What is known beside damage goes on with damage, with the call that is due, and with one that failed.
use Rattle.std.proofs.Common.{◌≡◌, ℕ, ◌+◌, ◌-◌, ◌*◌, Bool, true, false, cond, eqb, ltb, List, [], length, Some, refl, sym, ap, subst, ◌∙◌, inl, inr, arith}
use Rattle.std.proofs.lemmas.Bool.{eqb-true}
use Rattle.vb_disk.specs.declared.cell.Cell.{Cell}
use Rattle.vb_disk.specs.Cells.{hurt_cell}
use Rattle.vb_disk.specs.Crashes.{damaged}
use Rattle.vb_disk.specs.Misses.{IsMiss}
use Rattle.vb_disk.specs.States.{DiskState, IsDiskState, read_at, synced, written}
use Rattle.vb_head.specs.declared.head.Head.{Head}
use Rattle.vb_head.specs.Heads.{head_page, head_read}
use Rattle.vb_journal.specs.declared.recover_error.RecoverError.{RecoverError}
use Rattle.vb_journal.specs.declared.recover_error.RecoverError.TheVariants.{NotAStore, Damaged, Unfit, Rebuilding, DiskFault, Memory}
use Rattle.vb_journal.specs.Outcomes.{IsHurt}
use Rattle.vb_journal.specs.Plans.{closed_head}
use Rattle.vb_journal.specs.Progress.{Fixed, Has, Progress, Tried, Trying, new_images}
use Rattle.vb_journal.specs.Recoveries.{image_refusal, journal_place}
use Rattle.vb_journal.specs.RecoverViews.{Reads, RecoverView, AtAsk, AtSettle, AtFirst, AtSecond, AtMend, AtSettleMend, AtImage, AtReplay, AtReady, AtRefused, call_in, next}
use Rattle.vb_journal.specs.Shown.{pages_from}
use Rattle.vb_journal.proofs.Choices.{IsChosen-from}
use Rattle.vb_journal.proofs.ChoicesOf.{choices-damaged, choices-synced, hurt-candidates}
use Rattle.vb_journal.proofs.Keeping.{HasSameCandidates-damaged, IsAtRest-same, IsCommitting-same}
use Rattle.vb_journal.proofs.TriedCells.{Fixed-stays, Fixed-synced, Has-elsewhere, Has-here, Has-same, Trying-from_Tried, written-elsewhere}
use Rattle.vb_steps.specs.Calls.{MayFailTo, after, answer_of}
use Rattle.vb_store.specs.Beside.{HasItsView, HasOneHead, HasReason, IsBeside, IsKnownBeside, IsMendedBeside, RestsBeside, WasMendedBeside, WasRead, head_reads}
use Rattle.vb_store.specs.Clear.{first_candidates}
use Rattle.vb_store.specs.EmptyStores.{whole_cell}
use Rattle.vb_store.specs.OneOf.{RecoversOneOf, TreeView}
use Rattle.vb_store.specs.Views.{data_start}
use Rattle.vb_store.proofs.HeadsBeside.{heads-known, large-enough, size-known}
use Rattle.vb_store.proofs.HeadsMended.{RecoversOneOf-mended, both_heads}
use Rattle.vb_store.proofs.JournalBeside.{RecoversOneOf-replayed, image-known, replay-left, replay-next}
use Rattle.vb_store.proofs.OneOfThem.{RecoversOneOf-fewer, ViewOf-fewer, candidates-damaged}
use Rattle.vb_store.proofs.ReadsBeside.{read-now}
use Rattle.vb_store.proofs.RestsBeside.{both-known}

-- ---- damage of one place

first_kept : (here : Bool) (cell : Cell) (page : List ℕ) → (cond here (hurt_cell cell page) cell).first ≡ cell.first
first_kept true cell page = refl
first_kept false cell page = refl

later_kept : (here : Bool) (cell : Cell) (page : List ℕ) → (cond here (hurt_cell cell page) cell).later ≡ cell.later
later_kept true cell page = refl
later_kept false cell page = refl

hurt_kept : (here : Bool) (cell : Cell) (page bytes : List ℕ) → cell.hurt ≡ Some bytes → (other : List ℕ) × ((cond here (hurt_cell cell page) cell).hurt ≡ Some other)
hurt_kept true cell page bytes is = (page, refl)
hurt_kept false cell page bytes is = (bytes, is)

pub firsts-kept : (d : DiskState) (place : ℕ) (page : List ℕ) → first_candidates (damaged d place page) ≡ first_candidates d
firsts-kept d place page =
    let each : (q : ℕ) → first_candidates (damaged d place page) q ≡ first_candidates d q = λ q. first_kept (eqb q place) (d.cells q) page in
    λ i q. each q i

pub alone-kept : (d : DiskState) (place q : ℕ) (page : List ℕ) → (d.cells q).later ≡ [] → ((damaged d place page).cells q).later ≡ []
alone-kept d place q page alone = later_kept (eqb q place) (d.cells q) page ∙ alone

hurt-stays : (d : DiskState) (place q : ℕ) (page : List ℕ) → IsHurt d q → IsHurt (damaged d place page) q
hurt-stays d place q page hurt = hurt_kept (eqb q place) (d.cells q) page hurt.0 hurt.1

pub has-kept : (p : Progress) (d : DiskState) (place q : ℕ) (page : List ℕ) → Has p (d.cells q) → Has p ((damaged d place page).cells q)
has-kept p d place q page has = Has-same p (d.cells q) ((damaged d place page).cells q) (hurt-candidates (eqb q place) (d.cells q) page) has

was-kept : (d : DiskState) (place q : ℕ) (page read : List ℕ) → WasRead d q read → WasRead (damaged d place page) q read
was-kept d place q page read (inl same) = inl (same ∙ sym (first_kept (eqb q place) (d.cells q) page))
was-kept d place q page read (inr was) =
    inr (hurt-stays d place q page was.0, was.1, subst (λ (p : List ℕ). IsMiss (whole_cell p) read) (sym (first_kept (eqb q place) (d.cells q) page)) was.2)

one-kept : (head : Head) (d : DiskState) (place : ℕ) (page : List ℕ) → HasOneHead head d → HasOneHead head (damaged d place page)
one-kept head d place page has = record {
  is = has.is;
  size = has.size;
  whole = has.whole;
  first = has-kept (Fixed (head_page head)) d place 0 page has.first;
  second = has-kept (Fixed (head_page head)) d place 1 page has.second;
  settled = λ q. alone-kept d place q page (has.settled q);
}

its-kept : (views : List TreeView) (d : DiskState) (head : Head) (images : ℕ → List ℕ) (place : ℕ) (page : List ℕ) → HasItsView views d head images → HasItsView views (damaged d place page) head images
its-kept views d head images place page its = record {
  view = its.view;
  listed = its.listed;
  head_is = its.head_is;
  is = ViewOf-fewer its.view head images d (damaged d place page) (candidates-damaged (data_start its.view.metadata.head) d place page) its.is;
}

mended-kept : (head : Head) (other : ℕ) (d : DiskState) (place : ℕ) (page : List ℕ) → IsMendedBeside head other d → IsMendedBeside head other (damaged d place page)
mended-kept head other d place page is = record {
  was = is.was;
  chosen = record {
    is = is.chosen.is;
    low = is.chosen.low;
    whole = is.chosen.whole;
    page = is.chosen.page;
    read = is.chosen.read;
    counts = is.chosen.counts;
    here = has-kept (Fixed (head_page head)) d place (1 - other) page is.chosen.here;
    there = has-kept (Trying is.was (head_page head)) d place other page is.chosen.there;
  };
  settled = λ q apart. alone-kept d place q page (is.settled q apart);
}

pub reason-kept : (made : Bool) (why : RecoverError) (d : DiskState) (place : ℕ) (page : List ℕ) → HasReason made why d → HasReason made why (damaged d place page)
reason-kept made (NotAStore at) d place page is = (hurt-stays d place 0 page is.0, hurt-stays d place 1 page is.1)
reason-kept made (Damaged at kept found) d place page is = hurt-stays d place at page is
reason-kept made (Unfit at why) d place page is = is
reason-kept made Rebuilding d place page is = is
reason-kept made DiskFault d place page is = is
reason-kept made Memory d place page is = is

pub rests-kept : (views : List TreeView) (head : Head) (d : DiskState) (place : ℕ) (page : List ℕ) → RestsBeside views head d → RestsBeside views head (damaged d place page)
rests-kept views head d place page is = record {
  is = is.is;
  closed = is.closed;
  homes = is.homes;
  journal = is.journal;
  rests = IsAtRest-same head is.homes is.journal d (damaged d place page) (HasSameCandidates-damaged (2 + 2 * head.nodes) d place page) is.rests;
  settled = λ q. alone-kept d place q page (is.settled q);
  its = its-kept views d head is.homes place page is.its;
}

known-kept : (views : List TreeView) (made : Bool) (view : RecoverView) (d : DiskState) (place : ℕ) (page : List ℕ) → IsKnownBeside views made view d → IsKnownBeside views made view (damaged d place page)
unfolding mended-kept
known-kept views made AtAsk d place page is = tt
known-kept views made (AtSettle places) d place page is = is
known-kept views made (AtFirst places) d place page is = (is.0, λ q. alone-kept d place q page (is.1 q))
known-kept views made (AtSecond places read) d place page is = record {
  size = is.size;
  settled = λ q. alone-kept d place q page (is.settled q);
  page = is.page;
  read_is = is.read_is;
  spelled = is.spelled;
  was = was-kept d place 0 page is.page is.was;
}
known-kept views made (AtMend head other) d place page is = mended-kept head other d place page is
known-kept views made (AtSettleMend head other) d place page is = record {
  mended = mended-kept head other d place page is.mended;
  tried = has-kept (Tried is.mended.was (head_page head)) d place other page is.tried;
}
known-kept views made (AtImage head count images) d place page is = record {
  heads = one-kept head d place page is.heads;
  opened = is.opened;
  left = is.left;
  images_are = is.images_are;
  read = is.read ∙ ap (λ (reads : ℕ → List ℕ). pages_from reads (journal_place head) (length images)) (sym (firsts-kept d place page));
  accepted = is.accepted;
}
known-kept views made (AtReplay head epoch images stage) d place page is = record {
  can = is.can;
  late = is.late;
  homes = is.homes;
  journal = is.journal;
  known = IsCommitting-same head epoch images is.homes is.journal stage d (damaged d place page) is.can (HasSameCandidates-damaged (2 + 2 * head.nodes) d place page) is.known;
  behind = λ q past. alone-kept d place q page (is.behind q past);
  its = its-kept views d (closed_head head epoch) (new_images images is.homes) place page is.its;
}
known-kept views made (AtReady head) d place page is = rests-kept views head d place page is
known-kept views made (AtRefused why) d place page is = reason-kept made why d place page is

pub IsBeside-damaged : (views : List TreeView) (made : Bool) (view : RecoverView) (d : DiskState) (place : ℕ) (page : List ℕ) → IsBeside views made view d → IsBeside views made view (damaged d place page)
IsBeside-damaged views made view d place page is = record {
  known = known-kept views made view d place page is.known;
  recovers = RecoversOneOf-fewer views made (damaged d place page) d (choices-damaged d place page) is.recovers;
}

-- ---- the mend

mended-written : (head : Head) (other : ℕ) (d : DiskState) → IsMendedBeside head other d → WasMendedBeside head other (written d other (head_page head))
mended-written head other d is =
    let tried = Has-here is.was (head_page head) d other is.chosen.there in
    let low = is.chosen.low in
    record {
      mended = record {
        was = is.was;
        chosen = record {
          is = is.chosen.is;
          low = is.chosen.low;
          whole = is.chosen.whole;
          page = is.chosen.page;
          read = is.chosen.read;
          counts = is.chosen.counts;
          here = Has-elsewhere (Fixed (head_page head)) d other (1 - other) (head_page head) (λ same. absurd (omega (arith, low, same))) is.chosen.here;
          there = Trying-from_Tried is.was (head_page head) ((written d other (head_page head)).cells other) tried;
        };
        settled = λ q apart. ap (λ (c : Cell). c.later) (written-elsewhere d other q (head_page head) apart) ∙ is.settled q apart;
      };
      tried = tried;
    }

mended-synced : (head : Head) (other : ℕ) (d : DiskState) → WasMendedBeside head other d → HasOneHead head (synced d)
mended-synced head other d is =
    let chosen = is.mended.chosen in
    let fixed = both_heads other (λ q. Has (Fixed (head_page head)) ((synced d).cells q)) chosen.low
    (Fixed-synced is.mended.was (head_page head) (d.cells other) is.tried)
    (Fixed-stays (head_page head) (d.cells (1 - other)) chosen.here) in
    let reads : ℕ → List ℕ = head_reads other chosen.page (head_page head) in
    let was = IsChosen-from d.size (head_read (reads 0)) (head_read (reads 1)) head chosen.counts in
    record {
      is = chosen.is;
      size = sym (eqb-true head.blocks d.size was.fits);
      whole = was.made;
      first = fixed.0;
      second = fixed.1;
      settled = λ q. refl;
    }

-- ---- the call that is due

pub IsBeside-next : (views : List TreeView) (made : Bool) (view : RecoverView) (d : DiskState) → IsDiskState d → IsDiskState (after d (call_in view)) → Reads view (answer_of d (call_in view)) → IsBeside views made view d → IsBeside views made (next view (answer_of d (call_in view))) (after d (call_in view))
IsBeside-next views made AtAsk d disk later reads is = record { known = size-known views made d (ltb d.size 38) (large-enough views made d disk is.recovers) refl; recovers = is.recovers }
IsBeside-next views made (AtSettle places) d disk later reads is = record {
  known = (is.known, λ q. refl);
  recovers = RecoversOneOf-fewer views made (synced d) d (choices-synced d) is.recovers;
}
IsBeside-next views made (AtFirst places) d disk later reads is = record {
  known = record {
    size = is.known.0;
    settled = is.known.1;
    page = read_at d 0;
    read_is = refl;
    spelled = reads;
    was = read-now d 0 disk (is.known.1 0);
  };
  recovers = is.recovers;
}
IsBeside-next views made (AtSecond places read) d disk later reads is = record { known = heads-known views made d places read disk is.known reads is.recovers; recovers = is.recovers }
IsBeside-next views made (AtMend head other) d disk later reads is = record {
  known = mended-written head other d is.known;
  recovers = RecoversOneOf-mended views made head other is.known.was d is.known.chosen is.recovers;
}
IsBeside-next views made (AtSettleMend head other) d disk later reads is =
    let recovers : RecoversOneOf views made (synced d) = RecoversOneOf-fewer views made (synced d) d (choices-synced d) is.recovers in
    record { known = both-known views made head (synced d) later (mended-synced head other d is.known) recovers; recovers = recovers }
IsBeside-next views made (AtImage head count images) d disk later reads is =
    let place : ℕ = journal_place head + length images in
    record {
      known = image-known views made head count images d (read_at d place) (image_refusal head.nodes place images (read_at d place)) disk is.known is.recovers (read-now d place disk (is.known.heads.settled place)) refl;
      recovers = is.recovers;
    }
IsBeside-next views made (AtReplay head epoch images stage) d disk later reads is = replay-next views made head epoch images stage d is.known
IsBeside-next views made (AtReady head) d disk later reads is = is
IsBeside-next views made (AtRefused why) d disk later reads is = is

-- ---- a call that failed

moved : (views : List TreeView) (made : Bool) (view : RecoverView) (d left : DiskState) → left ≡ d → IsBeside views made view d → IsBeside views made view left
moved views made view d left same is = subst (IsBeside views made view) (sym same) is

mend-tried : (views : List TreeView) (made : Bool) (head : Head) (other : ℕ) (d left : DiskState) → left ≡ written d other (head_page head) → IsBeside views made (AtMend head other) d → IsBeside views made (AtMend head other) left
mend-tried views made head other d left same is =
    let then : IsBeside views made (AtMend head other) (written d other (head_page head)) = record {
      known = (mended-written head other d is.known).mended;
      recovers = RecoversOneOf-mended views made head other is.known.was d is.known.chosen is.recovers;
    } in
    moved views made (AtMend head other) (written d other (head_page head)) left same then

pub IsBeside-failed : (views : List TreeView) (made : Bool) (view : RecoverView) (d left : DiskState) → MayFailTo (call_in view) d left → IsBeside views made view d → IsBeside views made view left
IsBeside-failed views made AtAsk d left may is = moved views made AtAsk d left may is
IsBeside-failed views made (AtSettle places) d left may is = moved views made (AtSettle places) d left may is
IsBeside-failed views made (AtFirst places) d left may is = moved views made (AtFirst places) d left may is
IsBeside-failed views made (AtSecond places read) d left may is = moved views made (AtSecond places read) d left may is
IsBeside-failed views made (AtMend head other) d left (inl same) is = moved views made (AtMend head other) d left same is
IsBeside-failed views made (AtMend head other) d left (inr same) is = mend-tried views made head other d left same is
IsBeside-failed views made (AtSettleMend head other) d left may is = moved views made (AtSettleMend head other) d left may is
IsBeside-failed views made (AtImage head count images) d left may is = moved views made (AtImage head count images) d left may is
IsBeside-failed views made (AtReplay head epoch images stage) d left may is =
    let known = replay-left views head epoch images stage d left may is.known in
    record { known = known; recovers = RecoversOneOf-replayed views made head epoch images stage left known }
IsBeside-failed views made (AtReady head) d left may is = moved views made (AtReady head) d left may is
IsBeside-failed views made (AtRefused why) d left may is = moved views made (AtRefused why) d left may is
