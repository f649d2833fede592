-- What stands at each place after a format.
use Rattle.std.proofs.Common.{◌≡◌, ◌≢◌, ℕ, zero, suc, ◌+◌, ◌<◌, ◌≤◌, ltb, List, [], ◌∷◌, ◌++◌, length, get_or, ◌⊎◌, inl, inr, refl, sym, ap, subst, ◌∙◌, arith}
use Rattle.std.proofs.lemmas.Bool.{cases_lt, cond-false, cond-true, le-ltb, lt-ltb}
use Rattle.vb_disk.specs.declared.cell.Cell.{Cell}
use Rattle.vb_disk.specs.Cells.{blank_cell, synced_cell, written_cell}
use Rattle.vb_disk.specs.States.{DiskState, Sync, after_calls, resized, synced, written}
use Rattle.vb_head.specs.Heads.{head_page}
use Rattle.vb_inode.specs.Layout.{node_page}
use Rattle.vb_journal.specs.declared.commit_stage.Turn.TheVariants.{First}
use Rattle.vb_journal.specs.Calls.{turn_calls}
use Rattle.vb_journal.proofs.TriedCells.{written-elsewhere, written-here}
use Rattle.vb_store.specs.EmptyStores.{IsMadeEmpty, whole_cell}
use Rattle.vb_store.specs.Formats.{empty_node, format_calls, home_calls, made_head, making_head}
use Rattle.vb_store.proofs.CallsMade.{after_calls-append}
use Rattle.vb_store.proofs.Homes.{home_call, home_calls-suc}

-- ---- one place

newest : (l : List (List ℕ)) (page d first : List ℕ) → get_or (first ∷ (l ++ page ∷ [])) (length (l ++ page ∷ [])) d ≡ page
newest [] page d first = refl
newest (x ∷ l) page d first = newest l page d x

-- a write and a sync leave the page alone
pub synced-written : (cell : Cell) (page : List ℕ) → synced_cell (written_cell cell page) ≡ whole_cell page
synced-written cell page = ap whole_cell (newest cell.later page cell.first cell.first)

-- ---- the two heads

-- after both heads were written
abbrev with_heads : DiskState → List ℕ → DiskState
with_heads d page = after_calls d (turn_calls page First)

first_head : (d : DiskState) (page : List ℕ) → (with_heads d page).cells 0 ≡ whole_cell page
first_head d page = ap (λ (c : Cell). synced_cell c) (synced-written (d.cells 0) page)

second_head : (d : DiskState) (page : List ℕ) → (with_heads d page).cells 1 ≡ whole_cell page
second_head d page = synced-written ((synced (written d 0 page)).cells 1) page

-- each other place is synced
other_heads : (d : DiskState) (page : List ℕ) (place : ℕ) → 2 ≤ place → (with_heads d page).cells place ≡ synced_cell (d.cells place)
other_heads d page place after =
    ap synced_cell (written-elsewhere (synced (written d 0 page)) 1 place page (λ is. omega arith) ∙ ap synced_cell (written-elsewhere d 0 place page (λ is. omega arith)))

-- ---- the homes

-- after one home more
more_homes : (d : DiskState) (n : ℕ) → after_calls d (home_calls (suc n)) ≡ written (after_calls d (home_calls n)) (2 + n) (node_page (empty_node n))
more_homes d n = ap (after_calls d) (home_calls-suc n) ∙ after_calls-append d (home_calls n) (home_call n)

no_homes : (d : DiskState) → after_calls d (home_calls 0) ≡ d
unfolding home_calls
no_homes d = refl

-- places that are no homes stand
pub other_homes : (d : DiskState) (n place : ℕ) → ((slot : ℕ) → slot < n → place ≢ 2 + slot) → (after_calls d (home_calls n)).cells place ≡ d.cells place
other_homes d zero place apart = ap (λ (s : DiskState). s.cells place) (no_homes d)
other_homes d (suc n) place apart =
    ap (λ (s : DiskState). s.cells place) (more_homes d n)
    ∙ written-elsewhere (after_calls d (home_calls n)) (2 + n) place (node_page (empty_node n)) (apart n (omega arith))
    ∙ other_homes d n place (λ slot before. apart slot (omega arith))

here_or_before : (slot n : ℕ) → slot < suc n → (slot ≡ n) ⊎ (slot < n)
here_or_before slot n within = elim (cases_lt slot n) [ inl before ↦ inr before | inr past ↦ inl (omega arith) ]

-- each home was written
pub each_home : (d : DiskState) (n slot : ℕ) → slot < n → (after_calls d (home_calls n)).cells (2 + slot) ≡ written_cell (d.cells (2 + slot)) (node_page (empty_node slot))
each_home d zero slot within = absurd (omega arith)
each_home d (suc n) slot within =
    ap (λ (s : DiskState). s.cells (2 + slot)) (more_homes d n)
    ∙ elim (here_or_before slot n within) [
      | inl is ↦
          let P : ℕ → Type 0 = λ m. (written (after_calls d (home_calls m)) (2 + m) (node_page (empty_node m))).cells (2 + slot) ≡ written_cell (d.cells (2 + slot)) (node_page (empty_node slot)) in
          subst P is
          (written-here (after_calls d (home_calls slot)) (2 + slot) (node_page (empty_node slot))
          ∙ ap (λ (c : Cell). written_cell c (node_page (empty_node slot))) (other_homes d slot (2 + slot) (λ other before same. omega arith)))
      | inr before ↦
          written-elsewhere (after_calls d (home_calls n)) (2 + n) (2 + slot) (node_page (empty_node n)) (λ same. omega arith)
          ∙ each_home d n slot before
    ]

homes-size : (d : DiskState) (n : ℕ) → (after_calls d (home_calls n)).size ≡ d.size
homes-size d zero = ap (λ (s : DiskState). s.size) (no_homes d)
homes-size d (suc n) = ap (λ (s : DiskState). s.size) (more_homes d n) ∙ homes-size d n

-- ---- the whole

-- up to the homes
abbrev begun : List ℕ → ℕ → ℕ → DiskState → DiskState
begun folder blocks nodes d = with_heads (resized d blocks) (head_page (making_head folder blocks nodes))

-- with the homes
abbrev housed : List ℕ → ℕ → ℕ → DiskState → DiskState
housed folder blocks nodes d = synced (after_calls (begun folder blocks nodes d) (home_calls nodes))

in_order : (folder : List ℕ) (blocks nodes : ℕ) (d : DiskState) → after_calls d (format_calls folder blocks nodes) ≡ with_heads (housed folder blocks nodes d) (head_page (made_head folder blocks nodes))
in_order folder blocks nodes d = after_calls-append (begun folder blocks nodes d) (home_calls nodes) (Sync ∷ turn_calls (head_page (made_head folder blocks nodes)) First)

-- a place that is neither a head nor a home
rest : (folder : List ℕ) (blocks nodes place : ℕ) (d : DiskState) → 2 + nodes ≤ place → (with_heads (housed folder blocks nodes d) (head_page (made_head folder blocks nodes))).cells place ≡ synced_cell ((resized d blocks).cells place)
rest folder blocks nodes place d after =
    other_heads (housed folder blocks nodes d) (head_page (made_head folder blocks nodes)) place (omega arith)
    ∙ ap (λ (c : Cell). synced_cell (synced_cell c)) (other_homes (begun folder blocks nodes d) nodes place (λ slot within same. omega arith)
    ∙ other_heads (resized d blocks) (head_page (making_head folder blocks nodes)) place (omega arith))

made : (folder : List ℕ) (blocks nodes : ℕ) (d : DiskState) → 2 + nodes ≤ blocks → IsMadeEmpty folder blocks nodes d (with_heads (housed folder blocks nodes d) (head_page (made_head folder blocks nodes)))
made folder blocks nodes d room = record {
  store = record {
    size = homes-size (begun folder blocks nodes d) nodes;
    first_head = first_head (housed folder blocks nodes d) (head_page (made_head folder blocks nodes));
    second_head = second_head (housed folder blocks nodes d) (head_page (made_head folder blocks nodes));
    homes = λ slot within.
        other_heads (housed folder blocks nodes d) (head_page (made_head folder blocks nodes)) (2 + slot) (omega arith)
        ∙ ap (λ (c : Cell). synced_cell (synced_cell c)) (each_home (begun folder blocks nodes d) nodes slot within)
        ∙ ap (λ (c : Cell). synced_cell c) (synced-written ((begun folder blocks nodes d).cells (2 + slot)) (node_page (empty_node slot)));
  };
  kept = λ place after within.
      rest folder blocks nodes place d after
      ∙ ap (λ (c : Cell). synced_cell c) (cond-true (ltb place blocks) (d.cells place) blank_cell (lt-ltb place blocks within));
  past = λ place past.
      rest folder blocks nodes place d (omega arith)
      ∙ ap (λ (c : Cell). synced_cell c) (cond-false (ltb place blocks) (d.cells place) blank_cell (le-ltb place blocks past));
}

pub IsMadeEmpty-format : (folder : List ℕ) (blocks nodes : ℕ) (d : DiskState) → 2 + nodes ≤ blocks → IsMadeEmpty folder blocks nodes d (after_calls d (format_calls folder blocks nodes))
IsMadeEmpty-format folder blocks nodes d room =
    let P : DiskState → Type 0 = λ new. IsMadeEmpty folder blocks nodes d new in
    subst P (sym (in_order folder blocks nodes d)) (made folder blocks nodes d room)
