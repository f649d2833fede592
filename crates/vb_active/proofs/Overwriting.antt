-- What a write gives.
use Rattle.std.proofs.Common.{◌≡◌, ◌⊎◌, ℕ, ◌<◌, ◌≤◌, ◌+◌, ◌-◌, ◌/◌, max, min, cond, List, ◌++◌, length, take, drop, replicate, Option, Some, None, Ok, refl, sym, ap, subst, ◌∙◌, inl, inr, arith}
use Rattle.std.proofs.lemmas.Bool.{cases_lt, ne_eqb}
use Rattle.std.proofs.lemmas.Bool.Decides.{eqb_tells}
use Rattle.vb_disk.specs.States.{DiskState}
use Rattle.vb_tree.specs.declared.operation.Op.TheVariants.{Write}
use Rattle.vb_tree.specs.declared.reply.Refusal.{Refusal}
use Rattle.vb_tree.specs.declared.reply.Reply.TheVariants.{Done}
use Rattle.vb_tree.specs.declared.tree.TreeEntry.{TreeEntry}
use Rattle.vb_tree.specs.Contents.{new_length, page_of, written_over}
use Rattle.vb_tree.specs.Refusals.{refusal_of, refuse_resize, refuse_unless_file}
use Rattle.vb_tree.specs.Trees.{data_pages_of, length_at, longest_file}
use Rattle.vb_tree.proofs.Pages.{page-apart}
use Rattle.vb_tree.proofs.Sizes.{length-written_over}
use Rattle.vb_index.specs.Contents.{HasPages}
use Rattle.vb_index.specs.Indexes.{HasShapeOf}
use Rattle.vb_pages.specs.declared.page_error.PageError.{PageError}
use Rattle.vb_pages.specs.declared.page_error.PageError.TheVariants.{Damaged, DiskFault, Memory}
use Rattle.vb_active.specs.Files.{IsFileOf}
use Rattle.vb_active.specs.Needs.{IsErrorOn, IsErrorUnder}
use Rattle.vb_active.specs.Performs.{Performs}
use Rattle.vb_active.specs.Replacing.{ArePagesFrom, IsSpan, Replaces}
use Rattle.vb_active.specs.Views.{ActiveState, Backs, due_page}
use Rattle.vb_active.proofs.Carries.{file-length}
use Rattle.vb_active.proofs.Rewritten.{rewritten-performs}

-- the lengths that a write leads to
grown-length : (offset count long : ℕ) → 0 < count → new_length offset count long ≡ max long (offset + count)
grown-length offset count long some = ap (λ b. cond b long (max long (offset + count))) (ne_eqb count 0 (λ e. absurd (omega (arith, e, some))))

kept-length : (offset count long : ℕ) → count ≡ 0 → new_length offset count long ≡ long
kept-length offset count long none = elim (eqb_tells count 0) [
  | inl w ↦ ap (λ b. cond b long (max long (offset + count))) w.0
  | inr w ↦ absurd (w.1 none)
]

none-written : (offset : ℕ) (bytes old : List ℕ) → length bytes ≡ 0 → written_over offset bytes old ≡ old
none-written offset bytes old none = elim (eqb_tells (length bytes) 0) [
  | inl w ↦ ap (λ b. cond b old (take offset old ++ replicate (offset - length old) 0 ++ bytes ++ drop (offset + length bytes) old)) w.0
  | inr w ↦ absurd (w.1 none)
]

covers : (offset count long len first last : ℕ) → IsSpan offset count (data_pages_of long) first last → len ≡ new_length offset count long → (k : ℕ) → k < data_pages_of len → data_pages_of long ≤ k → (first ≤ k) × (k < last)
covers offset count long len first last span is k low past = elim (cases_lt 0 count) [
  | inl some ↦ (
      let size = is ∙ grown-length offset count long some in
      (omega (arith, span.from some, past), omega (arith, span.to some, size, low, past)))
  | inr none ↦ absurd (omega (arith, low, past, is ∙ kept-length offset count long (omega (arith, none))))
]

same : (offset long len first last : ℕ) (bytes old : List ℕ) (k : ℕ) → IsSpan offset (length bytes) (data_pages_of long) first last → (k < first) ⊎ (last ≤ k) → page_of (written_over offset bytes old) k ≡ page_of old k
same offset long len first last bytes old k span out = elim (cases_lt 0 (length bytes)) [
  | inr none ↦ ap (λ b. page_of b k) (none-written offset bytes old (omega (arith, none)))
  | inl some ↦ page-apart offset k bytes old some (elim out [
    | inl before ↦ inl (omega (arith, span.from some, before))
    | inr after ↦ inr (omega (arith, span.to some, after))
  ])
]

last-in : (offset count long len first last : ℕ) → IsSpan offset count (data_pages_of long) first last → len ≡ new_length offset count long → 0 < count → last ≤ data_pages_of len
last-in offset count long len first last span is some = let size = is ∙ grown-length offset count long some in omega (arith, span.to some, size)

dirtied : (offset count pages first last k : ℕ) → IsSpan offset count pages first last → first ≤ k → k < last → (0 < count) × (min pages (offset / 4096) ≤ k) × (k < data_pages_of (offset + count))
dirtied offset count pages first last k span from to = elim (cases_lt 0 count) [
  | inl some ↦ (some, omega (arith, span.from some, from), omega (arith, span.to some, to))
  | inr none ↦ absurd (let zero_last = span.none (omega (arith, none)) in omega (arith, zero_last, to))
]

pub write-performs : (told : Option DiskState) (old new : ActiveState) (path : List (List ℕ)) (slot long len offset first last : ℕ) (bytes : List ℕ) (run : List (List ℕ)) → IsFileOf old.index.nodes path slot long → len ≡ new_length offset (length bytes) long → len ≤ longest_file
    → ((tree : List TreeEntry) (next : Option Refusal) → HasShapeOf old.index.nodes tree → refuse_unless_file tree path next ≡ next)
    → ((tree : List TreeEntry) → HasShapeOf old.index.nodes tree → refuse_unless_file tree path (refuse_resize old.index.limits tree path len) ≡ None)
    → IsSpan offset (length bytes) (data_pages_of long) first last → first + length run ≡ last → first + length run ≤ data_pages_of len
    → ((d : DiskState) (b : List ℕ) → told ≡ Some d → Backs d old → HasPages (due_page old d) slot b → length b ≡ long → ArePagesFrom first (written_over offset bytes b) run)
    → Replaces old new slot len first run → Performs told old new (Write path offset bytes) (Ok Done)
write-performs told old new path slot long len offset first last bytes run file is short there allowed span ends within rows r =
    rewritten-performs told old new (Write path offset bytes) path slot long len first run (written_over offset bytes) (record {
      file = file;
      short = short;
      within = within;
      covers = λ k low past. let both = covers offset (length bytes) long len first last span is k low past in (both.0, subst (λ n. k < n) (sym ends) both.1);
      there = there;
      allowed = λ tree shape.
          let size : length_at path tree ≡ long = file-length old.index.nodes tree path slot long file shape in
          ap (λ n. refuse_unless_file tree path (refuse_resize old.index.limits tree path (new_length offset (length bytes) n))) size
          ∙ ap (λ n. refuse_unless_file tree path (refuse_resize old.index.limits tree path n)) (sym is) ∙ allowed tree shape;
      done = λ tree. refl;
      effect = λ tree. refl;
      size = λ b e. length-written_over offset bytes b ∙ ap (new_length offset (length bytes)) e ∙ sym is;
      rows = rows;
      at_path = refl;
      dirtied = λ k from to. dirtied offset (length bytes) (data_pages_of long) first last k span from (subst (λ n. k < n) ends to);
      dirties = λ k d. (omega (arith, span.from d.0, d.1), subst (λ n. k < n) (sym ends) (omega (arith, span.to d.0, d.2)));
      same = λ b k e low out. same offset long len first last bytes b k span (subst (λ n. (k < first) ⊎ (n ≤ k)) ends out);
    }) r

-- a write that is refused
pub write-refusal : (old : ActiveState) (path : List (List ℕ)) (slot long len offset : ℕ) (bytes : List ℕ) (reason : Refusal) → IsFileOf old.index.nodes path slot long → len ≡ new_length offset (length bytes) long → ((tree : List TreeEntry) → HasShapeOf old.index.nodes tree → refuse_unless_file tree path (refuse_resize old.index.limits tree path len) ≡ Some reason)
    → (tree : List TreeEntry) → HasShapeOf old.index.nodes tree → refusal_of old.index.limits tree (Write path offset bytes) ≡ Some reason
write-refusal old path slot long len offset bytes reason file is refuses tree shape =
    let size : length_at path tree ≡ long = file-length old.index.nodes tree path slot long file shape in
    ap (λ n. refuse_unless_file tree path (refuse_resize old.index.limits tree path (new_length offset (length bytes) n))) size
    ∙ ap (λ n. refuse_unless_file tree path (refuse_resize old.index.limits tree path n)) (sym is) ∙ refuses tree shape

-- an error of a page that a write needs
pub write-fails : (told : Option DiskState) (view : ActiveState) (path : List (List ℕ)) (slot len offset : ℕ) (bytes : List ℕ) (error : PageError) → IsFileOf view.index.nodes path slot len → IsErrorUnder told view slot offset (length bytes) len error → IsErrorOn told view (Write path offset bytes) error
write-fails told view path slot len offset bytes (Damaged place kept found) file damage = record { slot = slot; len = len; page = damage.page; file = file; needed = damage.needed; damage = damage.damage }
write-fails told view path slot len offset bytes DiskFault file damage = tt
write-fails told view path slot len offset bytes Memory file damage = tt

pub span-within : (offset count long len first last : ℕ) → IsSpan offset count (data_pages_of long) first last → len ≡ new_length offset count long → last ≤ data_pages_of len
span-within offset count long len first last span is = elim (cases_lt 0 count) [
  | inl some ↦ last-in offset count long len first last span is some
  | inr none ↦ (let zero_last = span.none (omega (arith, none)) in omega (arith, zero_last))
]
