-- What is read of a settled disk, a place at a time, leads to the view that it is settled for.
use Rattle.std.proofs.Common.{◌≡◌, ◌≢◌, ℕ, zero, suc, ◌+◌, ◌-◌, ◌*◌, ◌<◌, Bool, false, cond, eqb, List, [], ◌∷◌, ◌++◌, length, drop, Option, Some, Result, Ok, Err, IsOk, refl, sym, ap, subst, ◌∙◌, inl, inr, arith}
use Rattle.std.specs.List.{All, Contains}
use Rattle.std.proofs.lemmas.Bool.{cond-true, eq-eqb}
use Rattle.std.proofs.lemmas.List.Elements.{All-head}
use Rattle.sha2.specs.Sha256.{sha256}
use Rattle.vb_block.specs.Pages.{IsSealed, seal_of, sealed_part}
use Rattle.vb_block.specs.declared.digest.Ref.{Ref}
use Rattle.vb_disk.specs.Crashes.{damaged}
use Rattle.vb_disk.specs.States.{DiskState, IsDiskState, read_at}
use Rattle.vb_head.specs.declared.head.Head.{Head}
use Rattle.vb_head.specs.declared.head.State.{State}
use Rattle.vb_head.specs.declared.head.State.TheVariants.{Closed}
use Rattle.vb_head.specs.Heads.{IsHead, count_of}
use Rattle.vb_index.specs.Indexes.{IndexState}
use Rattle.vb_inode.specs.declared.node.Node.{Node}
use Rattle.vb_journal.specs.declared.recover_error.RecoverError.{RecoverError}
use Rattle.vb_journal.specs.declared.recover_error.RecoverError.TheVariants.{Damaged}
use Rattle.vb_journal.specs.Notes.{head_place}
use Rattle.vb_journal.specs.Outcomes.{IsHurt}
use Rattle.vb_journal.specs.Progress.{IsAtRest}
use Rattle.vb_journal.proofs.Keeping.{HasSameCandidates-damaged, IsAtRest-same}
use Rattle.vb_journal.specs.Recoveries.{choice_of, is_rebuilding, journal_of, journal_place, settled_from, settled_head}
use Rattle.vb_journal.specs.Shown.{image_over, pages_from}
use Rattle.vb_nodes.specs.Holdings.{index_from}
use Rattle.vb_store.specs.declared.map_page.MapPage.{MapPage}
use Rattle.vb_store.specs.declared.mount_parts.Claimed.{Claimed}
use Rattle.vb_store.specs.declared.mount_parts.Homes.{Homes}
use Rattle.vb_store.specs.declared.mount_parts.Whole.{Whole}
use Rattle.vb_store.specs.declared.mount_stage.MountStage.{MountStage}
use Rattle.vb_store.specs.declared.mount_stage.MountStage.TheVariants.{ReadHome, ReadMap, Finish, Refused}
use Rattle.vb_store.specs.Beside.{HasOneHead, HasReason, RestsBeside, WasRead}
use Rattle.vb_store.specs.Clear.{first_candidates}
use Rattle.vb_store.specs.Metadata.{Mapped, Metadata, Standing, after_page, all_claimed_by, and_then, block_of, block_place, index_or_refusal, known_below, map_checked, mapped_from, maps_in, metadata_from, metadata_of, node_checked, nodes_left, with_refs_at}
use Rattle.vb_store.specs.MountStages.{HasEnded, due_place, home_of, metadata_at, rest_of, rest_of_homes, rest_of_index, rest_of_maps, rest_of_table}
use Rattle.vb_store.specs.OneOf.{IsHurtRead, RecoversOneOf, TreeView}
use Rattle.vb_store.specs.Recovered.{Recovers, entries_read, placed_in, recovered, recovered_at, recovered_from}
use Rattle.vb_store.specs.Settled.{IsReadBeside, IsSettled, IsSettledFor, LeadsTo, TakesPage}
use Rattle.vb_store.specs.Views.{limits_of}
use Rattle.vb_store.proofs.Chains.{and_then-ok}
use Rattle.vb_store.proofs.CrashesOfMounts.{has_metadata, one_head}
use Rattle.vb_store.proofs.HurtReads.{node_refused, page_refused}
use Rattle.vb_store.proofs.JournalBeside.{RecoversOneOf-rests}
use Rattle.vb_store.proofs.KnownViews.{RecoversOneOf-rest, all_each}
use Rattle.vb_store.proofs.MountRests.{ended_rest}
use Rattle.vb_store.proofs.ReadsBeside.{read-now}
use Rattle.vb_store.proofs.RestsBeside.{candidates-count, candidates-show, homes_in, journal_in, rests_at}
use Rattle.vb_store.proofs.SameStores.{known_below-same}
use Rattle.vb_store.proofs.StepsBeside.{alone-kept, firsts-kept, reason-kept, rests-kept}

-- ---- a store at rest is settled for a view

heads-of : (views : List TreeView) (head : Head) (d : DiskState) → RestsBeside views head d → HasOneHead head d
heads-of views head d rests = record {
  is = rests.is;
  size = rests.rests.size;
  whole = ap is_rebuilding rests.closed;
  first = rests.rests.first;
  second = rests.rests.second;
  settled = rests.settled;
}

only_view : (view other : TreeView) → Contains (view ∷ []) other → other ≡ view
only_view view other has = alone view other has
  where
    alone : (x y : TreeView) → Contains (x ∷ []) y → y ≡ x
    alone x y (zero, within, is) = sym is
    alone x y (suc i, within, is) = absurd (omega (arith, within))

pub settled-rests : (views : List TreeView) (head : Head) (d : DiskState) → IsDiskState d → RestsBeside views head d → IsSettledFor views d
unfolding recovered
settled-rests views head d disk rests =
    let its = rests.its in
    let own : RecoversOneOf (its.view ∷ []) false d =
    RecoversOneOf-rest (its.view ∷ []) false head rests.homes rests.journal d its.view rests.is.range rests.closed rests.rests its.is (0, omega arith, refl) in
    let shows = candidates-show (its.view ∷ []) false head d disk (heads-of views head d rests) own in
    let same : shows.view ≡ its.view = only_view its.view shows.view shows.listed in
    let metadata : metadata_of d.size (first_candidates d) ≡ Ok its.view.metadata = subst (λ (v : TreeView). metadata_of d.size (first_candidates d) ≡ Ok v.metadata) same shows.metadata in
    let pages : entries_read (first_candidates d) (placed_in its.view.metadata.held) ≡ Ok its.view.tree =
    subst (λ (v : TreeView). entries_read (first_candidates d) (placed_in v.metadata.held) ≡ Ok v.tree) same shows.pages in
    record {
      view = its.view;
      listed = its.listed;
      is = record {
        is = subst IsHead (sym its.head_is) rests.is;
        closed = ap (λ (h : Head). h.state) its.head_is ∙ rests.closed;
        settled = rests.settled;
        rests = subst (λ (h : Head). IsAtRest h (homes_in d) (journal_in d h) d) (sym its.head_is) (rests_at head d (heads-of views head d rests));
        metadata = metadata;
        recovers = ap (recovered_from (first_candidates d)) metadata ∙ ap (recovered_at its.view.metadata.head.epoch) pages;
      };
    }

pub settled-kept : (view : TreeView) (d : DiskState) (place : ℕ) (page : List ℕ) → IsSettled view d → IsSettled view (damaged d place page)
settled-kept view d place page is =
    let head : Head = view.metadata.head in
    let same = sym (firsts-kept d place page) in
    record {
      is = is.is;
      closed = is.closed;
      settled = λ q. alone-kept d place q page (is.settled q);
      rests = subst (λ (reads : ℕ → List ℕ). IsAtRest head (λ slot. reads (2 + slot)) (λ i. reads (2 + head.nodes + i)) (damaged d place page)) same
          (IsAtRest-same head (homes_in d) (journal_in d head) d (damaged d place page) (HasSameCandidates-damaged (2 + 2 * head.nodes) d place page) is.rests);
      metadata = subst (λ (reads : ℕ → List ℕ). metadata_of d.size reads ≡ Ok view.metadata) same is.metadata;
      recovers = subst (λ (reads : ℕ → List ℕ). recovered d.size reads ≡ Recovers view.metadata.head.epoch view.tree) same is.recovers;
    }

-- ---- the beginning

-- at rest the homes lead to the metadata, whatever slots the journal had
rest-begins : (size : ℕ) (reads : ℕ → List ℕ) (head : Head) (m : Metadata) (place : ℕ) (slots : List ℕ) → choice_of size reads ≡ Ok head → head.state ≡ Closed → metadata_of size reads ≡ Ok m → rest_of_homes reads head place slots head.nodes [] ≡ Ok m
rest-begins size reads head m place slots counts closed is =
    let has = has_metadata size reads m is in
    let same : has.head ≡ head = one_head has.head head (choice_of size reads) has.counts counts in
    let below : known_below reads head (head_place reads) (block_of reads head) ≡ Ok has.known = subst (λ (h : Head). known_below reads h (head_place reads) (block_of reads h) ≡ Ok has.known) same has.below in
    let made : metadata_from head has.known ≡ m = subst (λ (h : Head). metadata_from h has.known ≡ m) same has.made in
    let homes : ℕ → Standing = home_of reads slots head.nodes in
    let places : ℕ → ℕ = block_place slots head.nodes in
    let none : journal_of reads head ≡ [] = ap (λ (s : State). pages_from reads (journal_place head) (count_of s)) closed in
    let moved : known_below reads head place homes ≡ Ok has.known =
    known_below-same reads reads head head (head_place reads) place (block_of reads head) homes has.known (record { blocks = refl; nodes = refl })
    (λ slot within. sym (ap (λ (l : List (List ℕ)). image_over l slot (reads (2 + slot))) none))
    (all_refl reads (maps_in has.known.slots)) below in
    let index : List Node → Result IndexState RecoverError = λ nodes. index_or_refusal place places (index_from (limits_of head) nodes) in
    let one = and_then-ok (nodes_left head.nodes homes head.nodes []) (λ nodes. and_then (index nodes) (mapped_from reads head places)) has.known moved in
    let two = and_then-ok (index one.value) (mapped_from reads head places) has.known one.then in
    let settles : settled_head head ≡ head = ap (settled_from head) closed in
    ap (λ (r : Result (List Node) RecoverError). and_then r (rest_of_table reads head place slots)) one.is
    ∙ ap (λ (r : Result IndexState RecoverError). and_then r (rest_of_index reads head slots)) two.is
    ∙ ap (λ (r : Result Mapped RecoverError). and_then r (λ end. Ok (metadata_at head end))) two.then
    ∙ ap (λ (h : Head). let r : Result Metadata RecoverError = Ok (record { head = h; held = has.known.slots }) in r) (sym settles)
    ∙ ap (λ (x : Metadata). let r : Result Metadata RecoverError = Ok x in r) made
  where
    all_refl : (reads : ℕ → List ℕ) (maps : List MapPage) → All (λ map. reads map.reference.place ≡ reads map.reference.place) maps
    all_refl reads maps = all_each (λ map. reads map.reference.place ≡ reads map.reference.place) (λ map. refl) maps

pub reads-begin : (views : List TreeView) (made : Bool) (d : DiskState) (homes : Homes) → IsDiskState d → RestsBeside views homes.head d → homes.nodes ≡ [] → IsReadBeside views made (ReadHome homes) d
reads-begin views made d homes disk rests none =
    let its = settled-rests views homes.head d disk rests in
    let head : Head = homes.head in
    let reads : ℕ → List ℕ = first_candidates d in
    let all : head.nodes - length {A = Node} [] ≡ head.nodes = omega arith in
    let begin : rest_of_homes reads head homes.place homes.slots.items head.nodes [] ≡ Ok its.view.metadata =
    rest-begins d.size reads head its.view.metadata homes.place homes.slots.items (candidates-count head d (heads-of views head d rests)) rests.closed its.is.metadata in
    record {
      head = head;
      rests = rests;
      its = its;
      leads = inl (ap (λ (l : List Node). rest_of_homes reads head homes.place homes.slots.items (head.nodes - length l) l) none ∙ ap (λ (n : ℕ). rest_of_homes reads head homes.place homes.slots.items n []) all ∙ begin);
    }

-- ---- damage

pub reads-kept : (views : List TreeView) (made : Bool) (stage : MountStage) (d : DiskState) (place : ℕ) (page : List ℕ) → IsReadBeside views made stage d → IsReadBeside views made stage (damaged d place page)
reads-kept views made stage d place page is = record {
  head = is.head;
  rests = rests-kept views is.head d place page is.rests;
  its = record { view = is.its.view; listed = is.its.listed; is = settled-kept is.its.view d place page is.its.is };
  leads = elim is.leads [
    | inl leads ↦ inl (subst (λ (reads : ℕ → List ℕ). rest_of reads stage ≡ Ok is.its.view.metadata) (sym (firsts-kept d place page)) leads)
    | inr ended ↦ inr (ended.0, ended.1, reason-kept made ended.0 d place page ended.2)
  ];
}

-- ---- a read

-- reads that give this page at a place, and else the candidates
with_page : (ℕ → List ℕ) → ℕ → List ℕ → ℕ → List ℕ
with_page reads place page q = cond (eqb q place) page (reads q)

with_page-here : (reads : ℕ → List ℕ) (place : ℕ) (page : List ℕ) → with_page reads place page place ≡ page
unfolding with_page
with_page-here reads place page = cond-true (eqb place place) page (reads place) (eq-eqb place place refl)

some_metadata : Metadata → Result Metadata RecoverError
some_metadata m = Ok m

abbrev refused_with : RecoverError → Result Metadata RecoverError
refused_with e = Err e

-- the reason of a mount that ended at a hurt place
hurt-reason : (made : Bool) (d : DiskState) (place : ℕ) (kept found : List ℕ) (reads : ℕ → List ℕ) (before after : MountStage) (error : RecoverError) → IsHurt d place → HasEnded after error → rest_of reads after ≡ rest_of reads before → rest_of reads before ≡ Err (Damaged place kept found) → HasReason made error d
hurt-reason made d place kept found reads before after error hurt ended same damage =
    let both : refused_with (Damaged place kept found) ≡ refused_with error = sym damage ∙ sym same ∙ ended_rest reads after error ended in
    let is : Damaged place kept found ≡ error = cc both in
    subst (λ (e : RecoverError). HasReason made e d) is hurt

not_ok : {A B : Type 0} (r : Result A RecoverError) (e : RecoverError) → r ≡ Err e → IsOk r → B
not_ok (Ok a) e is ok = absurd (cc is)
not_ok (Err f) e is ok = absurd (cc ok)

-- a home that is hurt
home-left : (reads : ℕ → List ℕ) (head : Head) (place : ℕ) (slots : List ℕ) (left : ℕ) (nodes : List Node) (e : RecoverError) → 0 < left → node_checked head.nodes (length nodes) (home_of reads slots head.nodes (length nodes)) ≡ Err e → rest_of_homes reads head place slots left nodes ≡ Err e
home-left reads head place slots zero nodes e some is = absurd (omega (arith, some))
home-left reads head place slots (suc left) nodes e some is =
    ap (λ (r : Result Node RecoverError). and_then (and_then r (λ node. nodes_left head.nodes (home_of reads slots head.nodes) left (nodes ++ node ∷ []))) (rest_of_table reads head place slots)) is

home-hurt : (made : Bool) (view : TreeView) (d : DiskState) (h : Homes) (after : MountStage) (page : List ℕ) → IsHurt d (2 + length h.nodes) → ¬ IsSealed page → TakesPage page (ReadHome h) after → LeadsTo made view after d
home-hurt made view d h after page hurt unsealed takes =
    let slot : ℕ = length h.nodes in
    let place : ℕ = 2 + slot in
    let reads : ℕ → List ℕ = with_page (first_candidates d) place page in
    let here : reads place ≡ page = with_page-here (first_candidates d) place page in
    let kept : List ℕ = seal_of page in
    let found : List ℕ = sha256 (sealed_part page) in
    let at : ℕ = block_place h.slots.items h.head.nodes slot in
    let refused : (let block : Standing = record { place = at; page = page } in node_checked h.head.nodes slot block ≡ Err (Damaged place kept found)) = node_refused h.head.nodes slot (record { place = at; page = page }) unsealed in
    let read : node_checked h.head.nodes slot (home_of reads h.slots.items h.head.nodes slot) ≡ Err (Damaged place kept found) =
    ap (λ (p : List ℕ). node_checked h.head.nodes slot (record { place = at; page = p })) here ∙ refused in
    elim takes.ends [
      | inl passes ↦ not_ok (node_checked h.head.nodes slot (record { place = at; page = page })) (Damaged place kept found) refused passes
      | inr ended ↦ inr (
        ended.0,
        ended.1,
        hurt-reason made d place kept found reads (ReadHome h) after ended.0 hurt ended.1 (takes.same reads here)
            (home-left reads h.head h.place h.slots.items (h.head.nodes - slot) h.nodes (Damaged place kept found) (let left = h.left in omega (arith, left)) read),
      )
    ]

-- a map page that is hurt
map-hurt : (made : Bool) (view : TreeView) (d : DiskState) (c : Claimed) (after : MountStage) (page : List ℕ) → IsHurt d c.map.reference.place → ¬ IsSealed page → sha256 (first_candidates d c.map.reference.place) ≢ sha256 page → rest_of (first_candidates d) (ReadMap c) ≡ Ok view.metadata → TakesPage page (ReadMap c) after → LeadsTo made view after d
map-hurt made view d c after page hurt unsealed unlike leads takes =
    let m : MapPage = c.map in
    let place : ℕ = m.reference.place in
    let firsts : ℕ → List ℕ = first_candidates d in
    let reads : ℕ → List ℕ = with_page firsts place page in
    let here : reads place ≡ page = with_page-here firsts place page in
    let known : Mapped = record { slots = c.tree.index.nodes; claims = c.tree.claims } in
    let rest : (ℕ → List ℕ) → Mapped → Result Metadata RecoverError = λ r. rest_of_maps r c.tree.head c.tree.slots.items (drop c.tree.next c.tree.maps.items) in
    let last : List Ref → Result Mapped RecoverError = λ refs. and_then (all_claimed_by place known.claims refs) (λ all. Ok (record { slots = with_refs_at known.slots m.slot m.first refs; claims = all })) in
    let one = and_then-ok (after_page m (firsts place) known) (rest firsts) view.metadata leads in
    let two = and_then-ok (map_checked m (firsts place)) last one.value one.is in
    let read_hurt : IsHurtRead firsts reads place = record {
      unsealed = subst (λ (p : List ℕ). ¬ IsSealed p) (sym here) unsealed;
      unlike = subst (λ (p : List ℕ). sha256 (firsts place) ≢ sha256 p) (sym here) unlike;
    } in
    let read : map_checked m (reads place) ≡ Err (Damaged place m.reference.digest (sha256 (reads place))) = page_refused firsts reads m two.value two.is read_hurt in
    let left : rest_of reads (ReadMap c) ≡ Err (Damaged place m.reference.digest (sha256 (reads place))) =
    ap (λ (r : Result (List Ref) RecoverError). and_then (and_then r last) (rest reads)) read in
    elim takes.ends [
      | inl passes ↦ not_ok (map_checked m page) (Damaged place m.reference.digest (sha256 (reads place))) (ap (map_checked m) (sym here) ∙ read) passes
      | inr ended ↦ inr (ended.0, ended.1, hurt-reason made d place m.reference.digest (sha256 (reads place)) reads (ReadMap c) after ended.0 hurt ended.1 (takes.same reads here) left)
    ]

same_place : (a b : ℕ) → (let o : Option ℕ = Some a in o ≡ Some b) → a ≡ b
same_place a b is = cc is

home-read : (made : Bool) (view : TreeView) (d : DiskState) (h : Homes) (after : MountStage) → WasRead d (2 + length h.nodes) (read_at d (2 + length h.nodes)) → TakesPage (read_at d (2 + length h.nodes)) (ReadHome h) after → rest_of (first_candidates d) (ReadHome h) ≡ Ok view.metadata → LeadsTo made view after d
home-read made view d h after (inl same) takes leads = inl (takes.same (first_candidates d) (sym same) ∙ leads)
home-read made view d h after (inr was) takes leads = home-hurt made view d h after (read_at d (2 + length h.nodes)) was.0 was.2.unsealed takes

map-read : (made : Bool) (view : TreeView) (d : DiskState) (c : Claimed) (after : MountStage) → WasRead d c.map.reference.place (read_at d c.map.reference.place) → TakesPage (read_at d c.map.reference.place) (ReadMap c) after → rest_of (first_candidates d) (ReadMap c) ≡ Ok view.metadata → LeadsTo made view after d
map-read made view d c after (inl same) takes leads = inl (takes.same (first_candidates d) (sym same) ∙ leads)
map-read made view d c after (inr was) takes leads =
    let place : ℕ = c.map.reference.place in
    let page : List ℕ = read_at d place in
    map-hurt made view d c after page was.0 was.2.unsealed
    (All-head (λ (candidate : List ℕ). sha256 candidate ≢ sha256 page) (first_candidates d place) [] was.2.unlike) leads takes

leads-on : (made : Bool) (view : TreeView) (before after : MountStage) (d : DiskState) (place : ℕ) → IsDiskState d → ((q : ℕ) → (d.cells q).later ≡ []) → due_place before ≡ Some place → TakesPage (read_at d place) before after → rest_of (first_candidates d) before ≡ Ok view.metadata → LeadsTo made view after d
leads-on made view (ReadHome h) after d place disk settled due takes leads =
    let at : 2 + length h.nodes ≡ place = same_place (2 + length h.nodes) place due in
    home-read made view d h after (read-now d (2 + length h.nodes) disk (settled (2 + length h.nodes))) (subst (λ (q : ℕ). TakesPage (read_at d q) (ReadHome h) after) (sym at) takes) leads
leads-on made view (ReadMap c) after d place disk settled due takes leads =
    let at : c.map.reference.place ≡ place = same_place c.map.reference.place place due in
    map-read made view d c after (read-now d c.map.reference.place disk (settled c.map.reference.place)) (subst (λ (q : ℕ). TakesPage (read_at d q) (ReadMap c) after) (sym at) takes) leads
leads-on made view (Finish w) after d place disk settled due takes leads = inl (ap (rest_of (first_candidates d)) takes ∙ leads)
leads-on made view (Refused r) after d place disk settled due takes leads = inl (ap (rest_of (first_candidates d)) takes ∙ leads)

-- what has ended has no place to read
ended-due : {A : Type 0} (stage : MountStage) (error : RecoverError) (place : ℕ) → HasEnded stage error → due_place stage ≡ Some place → A
ended-due (ReadHome h) error place ended due = absurd ended
ended-due (ReadMap c) error place ended due = absurd ended
ended-due (Finish w) error place ended due = absurd ended
ended-due (Refused r) error place ended due = absurd (cc due)

pub reads-on : (views : List TreeView) (made : Bool) (before after : MountStage) (d : DiskState) (place : ℕ) → IsDiskState d → due_place before ≡ Some place → TakesPage (read_at d place) before after → IsReadBeside views made before d → IsReadBeside views made after d
reads-on views made before after d place disk due takes is = record {
  head = is.head;
  rests = is.rests;
  its = is.its;
  leads = elim is.leads [
    | inl leads ↦ leads-on made is.its.view before after d place disk is.rests.settled due takes leads
    | inr ended ↦ ended-due before ended.0 place ended.1 due
  ];
}

-- ---- the end

pub reads-recover : (views : List TreeView) (made : Bool) (stage : MountStage) (d : DiskState) → IsReadBeside views made stage d → RecoversOneOf views made d
reads-recover views made stage d is = RecoversOneOf-rests views made is.head d is.rests

pub reads-end : (views : List TreeView) (made : Bool) (whole : Whole) (d : DiskState) (is : IsReadBeside views made (Finish whole) d) → is.its.view.metadata ≡ record { head = whole.head; held = whole.index.nodes }
reads-end views made whole d is = elim is.leads [
  | inl leads ↦ cc leads
  | inr ended ↦ absurd ended.1
]

pub reads-refused : (views : List TreeView) (made : Bool) (stage : MountStage) (d : DiskState) (error : RecoverError) → IsReadBeside views made stage d → HasEnded stage error → HasReason made error d
reads-refused views made stage d error is ended = elim is.leads [
  | inl leads ↦ absurd (let err = ended_rest (first_candidates d) stage error ended in cc (leads, err))
  | inr reason ↦
      let both : refused_with reason.0 ≡ refused_with error = sym (ended_rest (first_candidates d) stage reason.0 reason.1) ∙ ended_rest (first_candidates d) stage error ended in
      let same : reason.0 ≡ error = cc both in
      subst (λ (e : RecoverError). HasReason made e d) same reason.2
]
