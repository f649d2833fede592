-- What may be recovered from a store at rest, and from one in the midst of a commit.
use Rattle.std.proofs.Common.{◌≡◌, ℕ, ◌+◌, ◌≤◌, Bool, true, List, [], ◌∷◌, length, Ok, refl, sym, ap, subst, ◌∙◌, ◌⊎◌, inl, inr, arith}
use Rattle.std.specs.List.{All, Contains}
use Rattle.std.proofs.lemmas.List.Elements.{All-cons, All-nil}
use Rattle.vb_disk.specs.declared.cell.Cell.{Cell}
use Rattle.vb_disk.specs.Cells.{candidates}
use Rattle.vb_disk.specs.States.{DiskState, read_at}
use Rattle.vb_head.specs.declared.head.Head.{Head}
use Rattle.vb_head.specs.declared.head.State.TheVariants.{Closed}
use Rattle.vb_head.specs.Heads.{IsHead, IsInRange, head_page, head_read}
use Rattle.vb_journal.specs.declared.commit_stage.Stage.{Stage}
use Rattle.vb_journal.specs.declared.commit_stage.Stage.TheVariants.{Journal, Opening, Homes, Closing, Rested}
use Rattle.vb_journal.specs.Choices.{IsChoiceOf}
use Rattle.vb_journal.specs.Chosen.{EachChoiceStays, IsRefusedAsHurt, RecoversButHurt}
use Rattle.vb_journal.specs.Interruptions.{AreSettled}
use Rattle.vb_journal.specs.Outcomes.{reads_of, recovery_on}
use Rattle.vb_journal.specs.Plans.{CanGoOn, closed_head}
use Rattle.vb_journal.specs.Progress.{Fixed, Has, IsAtRest, IsCommitting, new_images}
use Rattle.vb_journal.specs.Recoveries.{recovery_of}
use Rattle.vb_journal.specs.Shown.{good_of, pages_from}
use Rattle.vb_journal.proofs.AfterCrashes.{closed_counts}
use Rattle.vb_journal.proofs.ChosenDisks.{EachChoiceRecovers-stage, EachChoiceStays-journal, EachChoiceStays-rest}
use Rattle.vb_journal.proofs.Heads.{good_of-head_page, greater-same}
use Rattle.vb_journal.proofs.TriedCells.{alone_of}
use Rattle.vb_journal.proofs.Unharmed.{whole_found}
use Rattle.vb_store.specs.declared.map_page.MapPage.{MapPage}
use Rattle.vb_store.specs.Clear.{first_candidates, taken_as}
use Rattle.vb_store.specs.Metadata.{maps_in, metadata_of}
use Rattle.vb_store.specs.OneOf.{HasAView, HasViewsAt, RecoversOneOf, ShowsOrRefuses, TreeView, ViewOf}
use Rattle.vb_store.specs.Recovered.{entries_read, placed_in}
use Rattle.vb_store.proofs.OneOfThem.{IsChoiceOf-taken}
use Rattle.vb_store.proofs.ShownByChoices.{below_heads, read_whole, shows-refused, shows-view, whole_below}

-- ---- what the laws of the journal give

-- a choice that recovers to the head and the images of a view, or is refused at a hurt place
shows_or_refuses : (views : List TreeView) (made : Bool) (d new : DiskState) (view : TreeView) (head : Head) (images : ℕ → List ℕ) (nodes count : ℕ) → Contains views view → ViewOf d view head images → IsChoiceOf new d → RecoversButHurt (whole_below new) head images ⊎ IsRefusedAsHurt nodes count (whole_below new) → ShowsOrRefuses views made new
shows_or_refuses views made d new view head images nodes count listed v is (inl recovers) = shows-view views made d new view head images listed v is recovers
shows_or_refuses views made d new view head images nodes count listed v is (inr refused) = shows-refused views made new nodes count refused

-- each of them stays
each_stays : (views : List TreeView) (made : Bool) (head : Head) (homes : ℕ → List ℕ) (d : DiskState) (view : TreeView) → EachChoiceStays head homes d → ViewOf d view head homes → Contains views view → RecoversOneOf views made d
each_stays views made head homes d view stays v listed new is =
    shows_or_refuses views made d new view head homes head.nodes 0 listed v is (stays (whole_below new) (IsChoiceOf-taken below_heads new d is))

pub RecoversOneOf-rest : (views : List TreeView) (made : Bool) (head : Head) (homes journal : ℕ → List ℕ) (d : DiskState) (view : TreeView) → IsInRange head → head.state ≡ Closed → IsAtRest head homes journal d → ViewOf d view head homes → Contains views view → RecoversOneOf views made d
RecoversOneOf-rest views made head homes journal d view range closed rests v listed =
    each_stays views made head homes d view (EachChoiceStays-rest head homes journal d range closed rests) v listed

-- from the homes on
behind_heads : (views : List TreeView) (made : Bool) (head : Head) (epoch : ℕ) (images : List (List ℕ)) (homes : ℕ → List ℕ) (d new : DiskState) → HasAView views d (closed_head head epoch) (new_images images homes) → IsChoiceOf new d → RecoversButHurt (whole_below new) (closed_head head epoch) (new_images images homes) ⊎ IsRefusedAsHurt head.nodes (length images) (whole_below new) → ShowsOrRefuses views made new
behind_heads views made head epoch images homes d new has is recovers =
    shows_or_refuses views made d new has.view (closed_head head epoch) (new_images images homes) head.nodes (length images) has.listed has.is is recovers

pub RecoversOneOf-stage : (views : List TreeView) (made : Bool) (head : Head) (epoch : ℕ) (images : List (List ℕ)) (homes journal : ℕ → List ℕ) (stage : Stage) (d : DiskState) → CanGoOn head epoch images stage → IsCommitting head epoch images homes journal stage d → HasViewsAt head epoch images homes stage views d → RecoversOneOf views made d
RecoversOneOf-stage views made head epoch images homes journal (Journal next) d can known has new is =
    each_stays views made head homes d has.view (EachChoiceStays-journal head epoch images homes journal next d can known) has.is has.listed new is
RecoversOneOf-stage views made head epoch images homes journal (Opening turn) d can known has new is =
    elim (EachChoiceRecovers-stage head epoch images homes journal (Opening turn) d can known (whole_below new) (IsChoiceOf-taken below_heads new d is)) [
      | inl recovers ↦ elim recovers [
        | inl before ↦ shows-view views made d new has.0.view head homes has.0.listed has.0.is is before
        | inr after ↦ shows-view views made d new has.1.view (closed_head head epoch) (new_images images homes) has.1.listed has.1.is is after
      ]
      | inr refused ↦ shows-refused views made new head.nodes (length images) refused
    ]
RecoversOneOf-stage views made head epoch images homes journal (Homes next) d can known has new is =
    behind_heads views made head epoch images homes d new has is
    (EachChoiceRecovers-stage head epoch images homes journal (Homes next) d can known (whole_below new) (IsChoiceOf-taken below_heads new d is))
RecoversOneOf-stage views made head epoch images homes journal (Closing turn) d can known has new is =
    behind_heads views made head epoch images homes d new has is
    (EachChoiceRecovers-stage head epoch images homes journal (Closing turn) d can known (whole_below new) (IsChoiceOf-taken below_heads new d is))
RecoversOneOf-stage views made head epoch images homes journal Rested d can known has new is =
    behind_heads views made head epoch images homes d new has is
    (EachChoiceRecovers-stage head epoch images homes journal Rested d can known (whole_below new) (IsChoiceOf-taken below_heads new d is))

-- ---- the view of a disk each place of which has one candidate

pub all_each : {X : Type 0} (P : X → Type 0) → ((x : X) → P x) → (xs : List X) → All P xs
all_each P holds [] = All-nil P
all_each P holds (x ∷ xs) = All-cons P x xs (holds x) (all_each P holds xs)

-- the one candidate of a place
pub only_one : (cell : Cell) (page : List ℕ) → cell.later ≡ [] → Contains (candidates cell) page → page ≡ cell.first
only_one cell page alone has = alone_of cell.first page (subst (λ (l : List (List ℕ)). Contains (cell.first ∷ l) page) alone has)

-- the disk with each place taken as whole
all_whole : DiskState → DiskState
all_whole d = taken_as (λ place. true) d

first_page : (page : List ℕ) (cell : Cell) → Has (Fixed page) cell → cell.first ≡ page
first_page page cell has = cc has

-- it recovers to the head and the homes of the store at rest
rests_as : (head : Head) (homes journal : ℕ → List ℕ) (d : DiskState) → IsInRange head → head.state ≡ Closed → IsAtRest head homes journal d → AreSettled d → recovery_on (all_whole d) ≡ Ok (record { head = head; images = pages_from homes 0 head.nodes })
unfolding all_whole
rests_as head homes journal d range closed is settled =
    let w : DiskState = all_whole d in
    let is_head : IsHead head = record { range = range; id_length = is.id } in
    let read : (place : ℕ) → read_at w place ≡ (d.cells place).first = λ place. read_whole true (d.cells place) refl (settled place) in
    let first : read_at w 0 ≡ head_page head = read 0 ∙ first_page (head_page head) (d.cells 0) is.first in
    let second : read_at w 1 ≡ head_page head = read 1 ∙ first_page (head_page head) (d.cells 1) is.second in
    let counts = greater-same head (good_of (head_read (read_at w 0))) (good_of (head_read (read_at w 1)))
    (good_of-head_page head (read_at w 0) is_head first) (good_of-head_page head (read_at w 1) is_head second) in
    let large : 38 ≤ w.size = (let space = range.space in let low = range.nodes_low in let same = is.size in omega arith) in
    whole_found w w head homes (λ slot within. refl)
    (closed_counts head w w homes large counts closed (sym is.size) (λ slot within. inl (read (2 + slot) ∙ first_page (homes slot) (d.cells (2 + slot)) (is.each_home slot within))))

-- what is picked of it are its candidates
firsts_picked : (picked : ℕ → List ℕ) (d : DiskState) → AreSettled d → ((place : ℕ) → Contains (candidates (d.cells place)) (picked place)) → picked ≡ first_candidates d
firsts_picked picked d settled each =
    let same : (place : ℕ) → picked place ≡ (d.cells place).first = λ place. only_one (d.cells place) (picked place) (settled place) (each place) in
    λ i place. same place i

-- what its candidates give is its view
pub ViewOf-recovered : (head : Head) (images : ℕ → List ℕ) (d : DiskState) (view : TreeView) → AreSettled d → recovery_of d.size (first_candidates d) ≡ Ok (record { head = head; images = pages_from images 0 head.nodes }) → metadata_of d.size (first_candidates d) ≡ Ok view.metadata → entries_read (first_candidates d) (placed_in view.metadata.held) ≡ Ok view.tree → ViewOf d view head images
ViewOf-recovered head images d view settled recovery metadata pages = record {
  reads = first_candidates d;
  metadata = metadata;
  recovery = recovery;
  maps = all_each (λ (map : MapPage). (page : List ℕ) → Contains (candidates (d.cells map.reference.place)) page → page ≡ first_candidates d map.reference.place)
      (λ map page has. only_one (d.cells map.reference.place) page (settled map.reference.place) has) (maps_in view.metadata.held);
  pages = λ picked each. ap (λ (firsts : ℕ → List ℕ). entries_read firsts (placed_in view.metadata.held)) (firsts_picked picked d settled each) ∙ pages;
}

pub ViewOf-settled : (head : Head) (homes journal : ℕ → List ℕ) (d : DiskState) (view : TreeView) → IsInRange head → head.state ≡ Closed → IsAtRest head homes journal d → AreSettled d → metadata_of d.size (first_candidates d) ≡ Ok view.metadata → entries_read (first_candidates d) (placed_in view.metadata.held) ≡ Ok view.tree → ViewOf d view head homes
unfolding all_whole
ViewOf-settled head homes journal d view range closed rests settled metadata pages =
    let read : (place : ℕ) → read_at (all_whole d) place ≡ first_candidates d place = λ place. read_whole true (d.cells place) refl (settled place) in
    let reads : reads_of (all_whole d) ≡ first_candidates d = λ i place. read place i in
    ViewOf-recovered head homes d view settled (ap (recovery_of d.size) (sym reads) ∙ rests_as head homes journal d range closed rests settled) metadata pages
