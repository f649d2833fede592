-- What a truncate gives.
use Rattle.std.proofs.Common.{◌≡◌, ◌⊎◌, ℕ, ◌<◌, ◌≤◌, ◌+◌, ◌-◌, ◌*◌, ◌/◌, ◌%◌, List, [], ◌∷◌, ◌++◌, length, take, drop, replicate, get_or, Option, Some, None, Ok, refl, sym, ap, ◌∙◌, inl, inr, arith, length-take}
use Rattle.std.specs.Prelude.{slice_get}
use Rattle.std.proofs.lemmas.List.{drop-replicate, get_or-replicate, length-replicate, take_all}
use Rattle.std.proofs.lemmas.Option.{slice_get-get_or}
use Rattle.vb_block.specs.Pages.{overwritten, zero_page}
use Rattle.vb_disk.specs.States.{DiskState}
use Rattle.vb_tree.specs.declared.operation.Op.TheVariants.{Truncate}
use Rattle.vb_tree.specs.declared.reply.Refusal.{Refusal}
use Rattle.vb_tree.specs.declared.reply.Reply.TheVariants.{Done}
use Rattle.vb_tree.specs.declared.tree.TreeEntry.{TreeEntry}
use Rattle.vb_tree.specs.Contents.{page_of, truncated_to}
use Rattle.vb_tree.specs.Refusals.{refuse_resize, refuse_unless_file}
use Rattle.vb_tree.specs.Trees.{data_pages_of, longest_file}
use Rattle.vb_tree.proofs.Pages.{length-page, page-cut, page-extended, page-past, page-truncated}
use Rattle.vb_tree.proofs.Sizes.{length-truncated_to}
use Rattle.vb_index.specs.Contents.{HasPages}
use Rattle.vb_index.specs.Indexes.{HasShapeOf}
use Rattle.vb_pages.specs.declared.page_error.PageError.{PageError}
use Rattle.vb_pages.specs.declared.page_error.PageError.TheVariants.{Damaged, DiskFault, Memory}
use Rattle.vb_active.specs.Files.{IsFileOf}
use Rattle.vb_active.specs.Needs.{IsErrorAt, IsErrorBelow, IsErrorOn}
use Rattle.vb_active.specs.Performs.{Performs}
use Rattle.vb_active.specs.Replacing.{ArePagesFrom, IsRow, Replaces}
use Rattle.vb_active.specs.Views.{ActiveState, Backs, due_page}
use Rattle.vb_active.proofs.Rewritten.{rewritten-performs}
use Rattle.vb_active.proofs.Written.{zero-is}

-- ---- rows

pub row-grown : (long len first count : ℕ) (run : List (List ℕ)) → data_pages_of long < data_pages_of len → first ≡ data_pages_of long → count ≡ data_pages_of len - data_pages_of long → run ≡ replicate count zero_page → IsRow long len first run
row-grown long len first count run more from size e =
    let n : length run ≡ count = ap length e ∙ length-replicate {A = List ℕ} count zero_page in
    record {
      within = omega (arith, n, from, size, more);
      grown = λ h. (from, omega (arith, n, from, size, more));
      dirtied = λ k low high. inl (omega (arith, low, from), omega (arith, high, n, from, size, more));
      dirties = λ k d. elim d [ inl w ↦ (omega (arith, w.0, from), omega (arith, w.1, n, from, size, more)) | inr w ↦ absurd (let shorter = w.0 in omega (arith, shorter, more)) ];
      whole = λ k low out. inl (omega (arith, more));
    }

pub row-kept : (long len first : ℕ) (run : List (List ℕ)) → data_pages_of len ≤ data_pages_of long → first ≡ data_pages_of len → run ≡ [] → (long ≤ len) ⊎ (len % 4096 ≡ 0) → IsRow long len first run
row-kept long len first run fewer from e why =
    let n : length run ≡ 0 = ap length e in
    record {
      within = omega (arith, n, from);
      grown = λ h. absurd (omega (arith, h, fewer));
      dirtied = λ k low high. absurd (omega (arith, low, high, n));
      dirties = λ k d. absurd (elim d [ inl w ↦ omega (arith, w.0, w.1, fewer) | inr w ↦ elim why [ inl h ↦ omega (arith, h, w.0) | inr h ↦ omega (arith, h, w.1) ] ]);
      whole = λ k low out. elim why [ inl h ↦ inl h | inr h ↦ inr (omega (arith, h, low)) ];
    }

pub row-cut : (long len first : ℕ) (run : List (List ℕ)) (page : List ℕ) → data_pages_of len ≤ data_pages_of long → len < long → first ≡ len / 4096 → 0 < len % 4096 → run ≡ page ∷ [] → IsRow long len first run
row-cut long len first run page fewer shorter from cut e =
    let n : length run ≡ 1 = ap length e in
    record {
      within = omega (arith, n, from, cut);
      grown = λ h. absurd (omega (arith, h, fewer));
      dirtied = λ k low high. inr (shorter, cut, omega (arith, low, high, n, from));
      dirties = λ k d. elim d [ inl w ↦ absurd (omega (arith, w.0, w.1, fewer)) | inr w ↦ (omega (arith, w.2, from), omega (arith, w.2, n, from)) ];
      whole = λ k low out. inr (elim out [ inl before ↦ omega (arith, before, from) | inr after ↦ absurd (omega (arith, after, n, from, low, cut)) ]);
    }

-- ---- their pages

pub pages-grown : (long len first count : ℕ) (run : List (List ℕ)) (old : List ℕ) → data_pages_of long < data_pages_of len → first ≡ data_pages_of long → run ≡ replicate count zero_page → length old ≡ long → ArePagesFrom first (truncated_to len old) run
pages-grown long len first count run old more from e size i below =
    let n : length run ≡ count = ap length e ∙ length-replicate {A = List ℕ} count zero_page in
    slice_get-get_or run i [] below
    ∙ ap (λ r. Some (get_or r i [])) e
    ∙ ap (λ p. Some p) (get_or-replicate count i zero_page [] (omega (arith, below, n))
    ∙ zero-is
    ∙ sym (page-extended len (first + i) old (omega (arith, size, more)) ∙ page-past old (first + i) (omega (arith, size, from))))

pub pages-none : (first : ℕ) (bytes : List ℕ) (run : List (List ℕ)) → run ≡ [] → ArePagesFrom first bytes run
pages-none first bytes run e i below = absurd (omega (arith, below, ap length e))

-- a front with zeros behind it
front-is : (front : List ℕ) → length front ≤ 4096 → overwritten zero_page 0 front ≡ truncated_to 4096 front
front-is front short =
    ap (λ t. front ++ t) (ap (drop (0 + length front)) zero-is ∙ drop-replicate (0 + length front) 4096 0)
    ∙ ap (λ m. front ++ replicate m 0) rest
    ∙ ap (λ t. t ++ replicate (4096 - length front) 0) (sym (take_all 4096 front short)) where
      rest : 4096 - (0 + length front) ≡ 4096 - length front
      rest = omega arith

pub pages-cut : (d : DiskState) (view : ActiveState) (slot long len first kept : ℕ) (run : List (List ℕ)) (page old : List ℕ) → HasPages (due_page view d) slot old → length old ≡ long → len < long → first ≡ len / 4096 → kept ≡ len % 4096 → run ≡ page ∷ [] → page ≡ overwritten zero_page 0 (take kept (due_page view d slot first)) → ArePagesFrom first (truncated_to len old) run
pages-cut d view slot long len first kept run page old has size shorter from kept_is e is i below =
    let zero_i : i ≡ 0 = omega (arith, below, ap length e) in
    let there : first < data_pages_of (length old) = omega (arith, size, shorter, from) in
    let part : len - 4096 * first ≡ kept = omega (arith, from, kept_is) in
    let front = take kept (page_of old first) in
    let few : length front ≤ 4096 = omega (arith, length-take kept (page_of old first), length-page old first) in
    let same : page ≡ page_of (truncated_to len old) first =
    is ∙ ap (λ p. overwritten zero_page 0 (take kept p)) (has first there)
    ∙ front-is front few
    ∙ ap (λ m. truncated_to 4096 (take m (page_of old first))) (sym part)
    ∙ sym (page-cut len first old (omega (arith, from)) (omega (arith, from)) (omega (arith, size, shorter))) in
    let place : first + i ≡ first = omega (arith, zero_i) in
    ap (λ r. slice_get r i) e ∙ ap (slice_get (page ∷ [])) zero_i ∙ ap (λ p. Some p) (same ∙ ap (page_of (truncated_to len old)) (sym place))

-- ---- the operation

pub below-error : (told : Option DiskState) (view : ActiveState) (slot page kept len : ℕ) (r : PageError) → page ≡ kept / 4096 → 0 < kept % 4096 → kept < len → IsErrorAt told view slot page r → IsErrorBelow told view slot kept len r
below-error told view slot page kept len (Damaged place due found) is cut low error =
    record {
      page = page;
      needed = record { byte = 4096 * page; here = omega (arith, is); stays = omega (arith, is, cut); cut = kept; also_here = sym is; from = omega arith; in_file = low };
      damage = error;
    }
below-error told view slot page kept len DiskFault is cut low error = tt
below-error told view slot page kept len Memory is cut low error = tt

pub truncate-fails : (told : Option DiskState) (view : ActiveState) (path : List (List ℕ)) (slot long len : ℕ) (error : PageError) → IsFileOf view.index.nodes path slot long → IsErrorBelow told view slot len long error → IsErrorOn told view (Truncate path len) error
truncate-fails told view path slot long len (Damaged place kept found) file damage = record { slot = slot; len = long; page = damage.page; file = file; needed = damage.needed; damage = damage.damage }
truncate-fails told view path slot long len DiskFault file damage = tt
truncate-fails told view path slot long len Memory file damage = tt

pub truncate-performs : (told : Option DiskState) (old new : ActiveState) (path : List (List ℕ)) (slot long len first : ℕ) (run : List (List ℕ)) → IsFileOf old.index.nodes path slot long → len ≤ longest_file
    → ((tree : List TreeEntry) (next : Option Refusal) → HasShapeOf old.index.nodes tree → refuse_unless_file tree path next ≡ next)
    → ((tree : List TreeEntry) → HasShapeOf old.index.nodes tree → refuse_unless_file tree path (refuse_resize old.index.limits tree path len) ≡ None)
    → IsRow long len first run
    → ((d : DiskState) (b : List ℕ) → told ≡ Some d → Backs d old → HasPages (due_page old d) slot b → length b ≡ long → ArePagesFrom first (truncated_to len b) run)
    → Replaces old new slot len first run → Performs told old new (Truncate path len) (Ok Done)
truncate-performs told old new path slot long len first run file short there allowed row rows r =
    rewritten-performs told old new (Truncate path len) path slot long len first run (truncated_to len) (record {
      file = file;
      short = short;
      within = row.within;
      covers = λ k low past. let both = row.grown (omega (arith, low, past)) in (omega (arith, both.0, past), omega (arith, both.1, low));
      there = there;
      allowed = allowed;
      done = λ tree. refl;
      effect = λ tree. refl;
      size = λ b e. length-truncated_to len b;
      rows = rows;
      at_path = refl;
      dirtied = row.dirtied;
      dirties = row.dirties;
      same = λ b k e low out. elim (row.whole k low out) [
        | inl longer ↦ page-extended len k b (omega (arith, e, longer))
        | inr whole ↦ page-truncated len k b whole
      ];
    }) r
