-- An empty store: what crashes leave of it, what it shows, and that the next commit may start over it.
use Rattle.std.proofs.Common.{◌≡◌, ℕ, zero, suc, ◌+◌, ◌<◌, Bool, true, false, not, ◌==◌, nat_lt, cond, List, [], ◌∷◌, length, get_or, Some, Ok, Err, inl, inr, refl, sym, ap, subst, ◌∙◌, arith}
use Rattle.std.proofs.lemmas.Bool.{cases_lt, eq-eqb, le-ltb}
use Rattle.vb_disk.specs.declared.cell.Cell.{Cell}
use Rattle.vb_disk.specs.Cells.{candidates, read_of}
use Rattle.vb_disk.specs.Crashes.{CellMayCrashTo, MayCrashTo}
use Rattle.vb_disk.specs.States.{DiskState, read_at}
use Rattle.vb_disk.proofs.StatesOf.{same_state}
use Rattle.vb_block.specs.declared.why.Why.TheVariants.{Blocks}
use Rattle.vb_head.specs.declared.head.Head.{Head}
use Rattle.vb_head.specs.declared.head.HeadRead.{HeadRead}
use Rattle.vb_head.specs.Heads.{IsHead, IsInRange, head_page, head_read}
use Rattle.vb_journal.specs.Progress.{IsAtRest}
use Rattle.vb_journal.specs.declared.recover_error.RecoverError.TheVariants.{NotAStore, Unfit}
use Rattle.vb_journal.specs.Outcomes.{RecoversWholly, reads_of}
use Rattle.vb_journal.specs.Recoveries.{Recovered, choice_of, greater_place, head_among, least_size, node_image, recovered_by, recovery_of}
use Rattle.vb_journal.specs.Shown.{good_of, greater, pages_from}
use Rattle.vb_journal.proofs.Heads.{good_of-head_page, greater-same}
use Rattle.vb_store.specs.Clear.{last_candidates}
use Rattle.vb_store.specs.EmptyStores.{HoldsEmptyStore, IsMadeEmpty, empty_home, whole_cell}
use Rattle.vb_store.specs.Formats.{CanFormat, made_head}

-- ---- crashes

same_cell : (a b : Cell) → a.first ≡ b.first → a.later ≡ b.later → a.hurt ≡ b.hurt → a ≡ b
same_cell a b first later hurt = λ i. record { first = first i; later = later i; hurt = hurt i }

alone_at : (first d : List ℕ) (i : ℕ) → i < length (first ∷ []) → get_or (first ∷ []) i d ≡ first
alone_at first d zero within = refl
alone_at first d (suc i) within = absurd (omega arith)

-- a place with one candidate is left as it is by each crash
pub cell_stands : (old new : Cell) → old.later ≡ [] → CellMayCrashTo old new → new ≡ old
cell_stands old new alone crash =
    let picked : get_or (old.first ∷ old.later) crash.picked.0 new.first ≡ new.first = crash.picked.2 in
    let P : List (List ℕ) → Type 0 = λ l. crash.picked.0 < length (old.first ∷ l) in
    let within : crash.picked.0 < length (old.first ∷ []) = subst P alone crash.picked.1 in
    let first : new.first ≡ old.first = sym picked ∙ ap (λ (l : List (List ℕ)). get_or (old.first ∷ l) crash.picked.0 new.first) alone ∙ alone_at old.first new.first crash.picked.0 within in
    same_cell new old first (crash.alone ∙ sym alone) (elim crash.hurt [
      | inl as_before ↦ as_before
      | inr torn ↦ absurd (omega (arith, torn.several, ap length alone))
    ])

later_of : (cell : Cell) (page : List ℕ) → cell ≡ whole_cell page → cell.later ≡ []
later_of cell page is = ap (λ (c : Cell). c.later) is

whole_stands : (page : List ℕ) (old new : Cell) → old ≡ whole_cell page → CellMayCrashTo old new → new ≡ whole_cell page
whole_stands page old new is crash = cell_stands old new (later_of old page is) crash ∙ is

pub HoldsEmptyStore-crashed : (folder : List ℕ) (blocks nodes : ℕ) (old new : DiskState) → HoldsEmptyStore folder blocks nodes old → MayCrashTo old new → HoldsEmptyStore folder blocks nodes new
HoldsEmptyStore-crashed folder blocks nodes old new holds crash = record {
  size = crash.size ∙ holds.size;
  first_head = whole_stands (head_page (made_head folder blocks nodes)) (old.cells 0) (new.cells 0) holds.first_head (crash.each 0);
  second_head = whole_stands (head_page (made_head folder blocks nodes)) (old.cells 1) (new.cells 1) holds.second_head (crash.each 1);
  homes = λ slot within. whole_stands (empty_home slot) (old.cells (2 + slot)) (new.cells (2 + slot)) (holds.homes slot within) (crash.each (2 + slot));
}

-- each place of a disk that was made an empty store has one candidate
pub IsMadeEmpty-alone : (folder : List ℕ) (blocks nodes : ℕ) (old new : DiskState) → IsMadeEmpty folder blocks nodes old new → (place : ℕ) → (new.cells place).later ≡ []
IsMadeEmpty-alone folder blocks nodes old new made zero = later_of (new.cells 0) (head_page (made_head folder blocks nodes)) made.store.first_head
IsMadeEmpty-alone folder blocks nodes old new made (suc zero) = later_of (new.cells 1) (head_page (made_head folder blocks nodes)) made.store.second_head
IsMadeEmpty-alone folder blocks nodes old new made (suc (suc n)) =
    let P : ℕ → Type 0 = λ place. (new.cells place).later ≡ [] in
    let at : 2 + n ≡ suc (suc n) = omega arith in
    elim (cases_lt n nodes) [
      | inl home ↦ subst P at (later_of (new.cells (2 + n)) (empty_home n) (made.store.homes n home))
      | inr after ↦ elim (cases_lt (suc (suc n)) blocks) [
        | inl within ↦ ap (λ (c : Cell). c.later) (made.kept (suc (suc n)) (omega arith) within)
        | inr past ↦ ap (λ (c : Cell). c.later) (made.past (suc (suc n)) past)
      ]
    ]

pub IsMadeEmpty-stands : (folder : List ℕ) (blocks nodes : ℕ) (old new after : DiskState) → IsMadeEmpty folder blocks nodes old new → MayCrashTo new after → after ≡ new
IsMadeEmpty-stands folder blocks nodes old new after made crash =
    same_state after new crash.size (λ place. cell_stands (new.cells place) (after.cells place) (IsMadeEmpty-alone folder blocks nodes old new made place) (crash.each place)) crash.writes crash.resizes crash.synced_at

-- ---- what is shown

pub IsInRange-made_head : (folder : List ℕ) (blocks nodes : ℕ) → CanFormat folder blocks nodes → IsInRange (made_head folder blocks nodes)
IsInRange-made_head folder blocks nodes can = record {
  blocks = can.at_most;
  nodes_low = can.nodes_low;
  nodes_high = can.nodes_high;
  space = can.space;
  id = can.named;
  sequence_low = omega arith;
  sequence_high = omega arith;
  epoch = omega arith;
  count = omega arith;
}

pub IsHead-made_head : (folder : List ℕ) (blocks nodes : ℕ) → CanFormat folder blocks nodes → length folder ≡ 16 → IsHead (made_head folder blocks nodes)
IsHead-made_head folder blocks nodes can long = record { range = IsInRange-made_head folder blocks nodes can; id_length = long }

pages_from-same : (f g : ℕ → List ℕ) (place n : ℕ) → ((k : ℕ) → k < n → f (place + k) ≡ g (place + k)) → pages_from f place n ≡ pages_from g place n
pages_from-same f g place zero same = refl
pages_from-same f g place (suc n) same =
    let here : place ≡ place + 0 = omega arith in
    let first : f place ≡ g place = ap f here ∙ same 0 (omega arith) ∙ ap g (sym here) in
    ap (λ (p : List ℕ). p ∷ pages_from f (place + 1) n) first
    ∙ ap (λ (l : List (List ℕ)). g place ∷ l) (pages_from-same f g (place + 1) n (λ k below. let there : place + 1 + k ≡ place + suc k = omega arith in ap f there ∙ same (suc k) (omega arith) ∙ ap g (sym there)))

-- its head counts
choice-empty : (folder : List ℕ) (blocks nodes : ℕ) (d : DiskState) → CanFormat folder blocks nodes → length folder ≡ 16 → HoldsEmptyStore folder blocks nodes d → choice_of d.size (reads_of d) ≡ Ok (made_head folder blocks nodes)
choice-empty folder blocks nodes d can long holds =
    let h : Head = made_head folder blocks nodes in
    let is = IsHead-made_head folder blocks nodes can long in
    let a : HeadRead = head_read (read_at d 0) in
    let b : HeadRead = head_read (read_at d 1) in
    let enough : nat_lt d.size least_size ≡ false = le-ltb d.size least_size (omega (arith, can.space, can.nodes_low, holds.size)) in
    let both : greater (good_of a) (good_of b) ≡ Some h = greater-same h _ _
    (good_of-head_page h (read_at d 0) is (ap read_of holds.first_head))
    (good_of-head_page h (read_at d 1) is (ap read_of holds.second_head)) in
    let fits : (h.blocks == d.size) ≡ true = eq-eqb h.blocks d.size (sym holds.size) in
    ap (λ (small : Bool). cond small (Err (NotAStore 0)) (head_among d.size a b (greater (good_of a) (good_of b)))) enough
    ∙ ap (head_among d.size a b) both
    ∙ ap (λ (same : Bool). cond (not same) (Err (Unfit (greater_place (good_of a) (good_of b)) Blocks)) (Ok h)) fits

pub RecoversWholly-empty : (folder : List ℕ) (blocks nodes : ℕ) (d : DiskState) → CanFormat folder blocks nodes → length folder ≡ 16 → HoldsEmptyStore folder blocks nodes d → RecoversWholly d (made_head folder blocks nodes) empty_home
unfolding recovery_of
RecoversWholly-empty folder blocks nodes d can long holds =
    let h : Head = made_head folder blocks nodes in
    ap (recovered_by (reads_of d)) (choice-empty folder blocks nodes d can long holds)
    ∙ ap (λ (l : List (List ℕ)). let found : Recovered = record { head = h; images = l } in Ok found)
    (pages_from-same (node_image (reads_of d) h) empty_home 0 nodes (λ k below. let from : 0 + k ≡ k = omega arith in
    ap (node_image (reads_of d) h) from ∙ ap read_of (holds.homes k below) ∙ ap empty_home (sym from)))

-- ---- the next commit

pub IsAtRest-empty : (folder : List ℕ) (blocks nodes : ℕ) (old new : DiskState) → CanFormat folder blocks nodes → length folder ≡ 16 → IsMadeEmpty folder blocks nodes old new → IsAtRest (made_head folder blocks nodes) empty_home (λ i. last_candidates old (2 + nodes + i)) new
IsAtRest-empty folder blocks nodes old new can long made = record {
  id = long;
  size = made.store.size;
  first = ap candidates made.store.first_head;
  second = ap candidates made.store.second_head;
  each_home = λ slot within. ap candidates (made.store.homes slot within);
  each_image = λ i within. ap candidates (made.kept (2 + nodes + i) (omega arith) (let space = can.space in omega arith));
}
