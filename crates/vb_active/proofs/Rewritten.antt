-- Operations that rewrite a file.
use Rattle.std.proofs.Common.{◌≡◌, ◌⊎◌, ℕ, ◌<◌, ◌≤◌, ◌+◌, ◌-◌, Bool, true, false, List, [], length, set, get_or, Option, Some, None, IsSome, is_some, Ok, refl, sym, ap, subst, ◌∙◌, inl, inr, arith}
use Rattle.std.specs.Prelude.{◌==◌, ◌&&◌, nat_le, if◌then◌else◌, slice_get}
use Rattle.std.specs.Option.{option_or}
use Rattle.std.proofs.lemmas.Bool.{cases_Bool, cases_lt, false≢true}
use Rattle.std.proofs.lemmas.Bool.Decides.{Decides-eqb, nat_tests}
use Rattle.std.proofs.lemmas.Option.{slice_get-get_or}
use Rattle.vb_block.specs.declared.digest.Ref.{Ref}
use Rattle.vb_disk.specs.States.{DiskState}
use Rattle.vb_tree.specs.declared.operation.Op.{Op}
use Rattle.vb_tree.specs.declared.reply.Refusal.{Refusal}
use Rattle.vb_tree.specs.declared.reply.Reply.TheVariants.{Done}
use Rattle.vb_tree.specs.declared.tree.TreeEntry.{TreeEntry}
use Rattle.vb_tree.specs.Contents.{page_of}
use Rattle.vb_tree.specs.Refusals.{refusal_of, refuse_unless_file}
use Rattle.vb_tree.specs.Operations.{answer_of, effect_of, reply_of, reply_unless, tree_after_reply}
use Rattle.vb_tree.specs.Trees.{bytes_in, data_pages_of, entry_at, longest_file, with_bytes_at}
use Rattle.vb_index.specs.declared.held.Held.{Held}
use Rattle.vb_index.specs.Changes.{refs_for, resized}
use Rattle.vb_index.specs.Contents.{HasPages, KeepsOthers}
use Rattle.vb_index.specs.Indexes.{IndexState, HasShapeOf}
use Rattle.vb_index.specs.Nodes.{held_at}
use Rattle.vb_index.proofs.Contents.{resized-contents}
use Rattle.vb_index.proofs.Resizing.{file-refs}
use Rattle.vb_pages.specs.Tables.{kept_page, key_of, run_at}
use Rattle.vb_active.specs.Files.{IsFileOf}
use Rattle.vb_active.specs.Needs.{Dirties, DirtiesPage, path_of_pages}
use Rattle.vb_active.specs.Performs.{HasTreeOn, Performs}
use Rattle.vb_active.specs.Replacing.{ArePagesFrom, Replaces}
use Rattle.vb_active.specs.Views.{ActiveState, Backs, IsOut, due_page, ref_at}
use Rattle.vb_active.proofs.Carries.{file-length, file-refs_at}
use Rattle.vb_active.proofs.Dues.{due-kept, due-same, ref_at-below}
use Rattle.vb_active.proofs.OneSlot.{ref_at-other}
use Rattle.vb_active.proofs.Replaced.{file-pages, length-refs_for, refs_for-kept, resized-ref, run-here, run-other, run-outside}

-- a file was rewritten by a change of its bytes
pub record Rewrites (told : Option DiskState) (old : ActiveState) (op : Op) (path : List (List ℕ)) (slot long len first : ℕ) (run : List (List ℕ)) (change : List ℕ → List ℕ) : Type 0 where
  pub file : IsFileOf old.index.nodes path slot long
  pub short : len ≤ longest_file
  pub within : first + length run ≤ data_pages_of len
  pub covers : (k : ℕ) → k < data_pages_of len → data_pages_of long ≤ k → (first ≤ k) × (k < first + length run)
  pub there : (tree : List TreeEntry) (next : Option Refusal) → HasShapeOf old.index.nodes tree → refuse_unless_file tree path next ≡ next
  pub allowed : (tree : List TreeEntry) → HasShapeOf old.index.nodes tree → refusal_of old.index.limits tree op ≡ None
  pub done : (tree : List TreeEntry) → answer_of tree op ≡ Done
  pub effect : (tree : List TreeEntry) → effect_of tree op ≡ with_bytes_at path (change (bytes_in (entry_at path tree))) tree
  pub size : (bytes : List ℕ) → length bytes ≡ long → length (change bytes) ≡ len
  pub rows : (d : DiskState) (bytes : List ℕ) → told ≡ Some d → Backs d old → HasPages (due_page old d) slot bytes → length bytes ≡ long → ArePagesFrom first (change bytes) run
  pub at_path : path_of_pages op ≡ path
  pub dirtied : (k : ℕ) → first ≤ k → k < first + length run → DirtiesPage op long k
  pub dirties : (k : ℕ) → DirtiesPage op long k → (first ≤ k) × (k < first + length run)
  pub same : (bytes : List ℕ) (k : ℕ) → length bytes ≡ long → k < data_pages_of len → (k < first) ⊎ (first + length run ≤ k) → page_of (change bytes) k ≡ page_of bytes k

past_test : (slot n k : ℕ) → nat_le n k ≡ true → (slot == slot && nat_le n k) ≡ true
past_test slot n k e = grind (arith, nat_tests)

low_test : (n k : ℕ) → nat_le n k ≡ false → k < n
low_test n k e = grind (arith, nat_tests)

no_kept : {X : Type 0} (o : Option X) → o ≡ None → IsSome o → ⊥
no_kept {X} o e some = let no : is_some {T = X} None ≡ true = sym (ap is_some e) ∙ some in false≢true no

not_past : (slot n k : ℕ) → k < n → (slot == slot && nat_le n k) ≡ false
not_past slot n k low = grind (arith, nat_tests)

-- the pages that the table keeps of the file
here-kept : (old new : ActiveState) (slot len first k : ℕ) (run : List (List ℕ)) → Replaces old new slot len first run → k < data_pages_of len → kept_page new.pages slot k ≡ option_or (run_at slot first run (key_of slot k)) (kept_page old.pages slot k)
here-kept old new slot len first k run r low =
    r.pages slot k ∙ ap (λ b. if b then None else option_or (run_at slot first run (key_of slot k)) (kept_page old.pages slot k)) (not_past slot (data_pages_of len) k low)

in-run : (old new : ActiveState) (slot len first k : ℕ) (run : List (List ℕ)) (page : List ℕ) → Replaces old new slot len first run → k < data_pages_of len → first ≤ k → slice_get run (k - first) ≡ Some page → kept_page new.pages slot k ≡ Some page
in-run old new slot len first k run page r low from is =
    here-kept old new slot len first k run r low ∙ ap (λ o. option_or o (kept_page old.pages slot k)) (run-here slot first k run from ∙ is)

-- outside of the run the table and the references are as before
off-run : (old new : ActiveState) (path : List (List ℕ)) (slot long len first k : ℕ) (run : List (List ℕ)) → IsFileOf old.index.nodes path slot long → Replaces old new slot len first run → k < data_pages_of len → k < data_pages_of long → (k < first) ⊎ (first + length run ≤ k) → (kept_page new.pages slot k ≡ kept_page old.pages slot k) × (ref_at new.index.nodes slot k ≡ ref_at old.index.nodes slot k)
off-run old new path slot long len first k run file r low had out = (
  here-kept old new slot len first k run r low ∙ ap (λ o. option_or o (kept_page old.pages slot k)) (run-outside slot first slot k run out),
  ap (λ (i : IndexState). ref_at i.nodes slot k) (r.index file.held file.there)
      ∙ resized-ref old.index.nodes slot len slot k file.held file.there file.file refl
      ∙ refs_for-kept len k file.held.refs low (omega (arith, had, file-pages old.index.nodes path slot long file))
      ∙ sym (ap (λ refs. slice_get refs k) (file-refs_at old.index.nodes slot file.held file.there file.file)),
)

-- so are other slots
off-slot : (old new : ActiveState) (path : List (List ℕ)) (slot long len first s k : ℕ) (run : List (List ℕ)) → IsFileOf old.index.nodes path slot long → Replaces old new slot len first run → (s == slot) ≡ false → (kept_page new.pages s k ≡ kept_page old.pages s k) × (ref_at new.index.nodes s k ≡ ref_at old.index.nodes s k)
off-slot old new path slot long len first s k run file r apart = (
  r.pages s k ∙ ap (λ b. if b && nat_le (data_pages_of len) k then None else option_or (run_at slot first run (key_of s k)) (kept_page old.pages s k)) apart
      ∙ ap (λ o. option_or o (kept_page old.pages s k)) (run-other slot first s k run apart),
  ap (λ (i : IndexState). ref_at i.nodes s k) (r.index file.held file.there)
      ∙ ref_at-other old.index.nodes slot s k (Some (resized len file.held)) apart,
)

-- what was put in its place, or wasn't touched
split : (first count k : ℕ) → ((first ≤ k) × (k < first + count)) ⊎ ((k < first) ⊎ (first + count ≤ k))
split first count k = elim (cases_lt k first) [
  | inl before ↦ inr (inl before)
  | inr from ↦ elim (cases_lt k (first + count)) [ inl to ↦ inl (from, to) | inr past ↦ inr (inr past) ]
]

below-old : (n first count k old : ℕ) → ((k : ℕ) → k < n → old ≤ k → (first ≤ k) × (k < first + count)) → k < n → (k < first) ⊎ (first + count ≤ k) → k < old
below-old n first count k old covers low out = elim (cases_lt k old) [
  | inl h ↦ h
  | inr past ↦ absurd (let both = covers k low past in elim out [ inl before ↦ omega (arith, both.0, before) | inr after ↦ omega (arith, both.1, after) ])
]

apart_test : (s slot : ℕ) → (s ≡ slot → ⊥) → (s == slot) ≡ false
apart_test s slot apart = elim (cases_Bool (s == slot)) [ inl h ↦ absurd (apart ((Decides-eqb s slot).0 h)) | inr h ↦ h ]

no_both : {X : Type 0} (o : Option X) (x : X) → o ≡ Some x → o ≡ None → ⊥
no_both {X} o x some none = let no : Some x ≡ None = sym some ∙ none in absurd cc

pub rewritten-performs : (told : Option DiskState) (old new : ActiveState) (op : Op) (path : List (List ℕ)) (slot long len first : ℕ) (run : List (List ℕ)) (change : List ℕ → List ℕ) → Rewrites told old op path slot long len first run change → Replaces old new slot len first run → Performs told old new op (Ok Done)
rewritten-performs told old new op path slot long len first run change w r =
    record {
      played = λ d tree is backs has.
          let reply : reply_of old.index.limits tree op ≡ Done = ap (λ o. reply_unless o (answer_of tree op)) (w.allowed tree has.shape) ∙ w.done tree in
          record {
            said = sym reply;
            leaves = subst (λ a. HasTreeOn d new (tree_after_reply tree op a)) (sym reply) (subst (HasTreeOn d new) (sym (w.effect tree)) (left d tree is backs has));
          };
      kept = tt;
      damage = tt;
      limits = ap (λ (i : IndexState). i.limits) made;
      out = outs;
      least = leasts;
      dirty = λ e. dirty;
    } where
      made : new.index ≡ record old.index { nodes = set old.index.nodes slot (Some (resized len w.file.held)) }
      made = r.index w.file.held w.file.there

      here : (d : DiskState) (bytes : List ℕ) → told ≡ Some d → Backs d old → HasPages (due_page old d) slot bytes → length bytes ≡ long → HasPages (due_page new d) slot (change bytes)
      here d bytes is backs has size k below =
          let low : k < data_pages_of len = subst (λ n. k < data_pages_of n) (w.size bytes size) below in
          elim (split first (length run) k) [
            | inl inside ↦ (
                let place : first + (k - first) ≡ k = omega (arith, inside.0) in
                let got : slice_get run (k - first) ≡ Some (page_of (change bytes) k) = w.rows d bytes is backs has size (k - first) (omega (arith, inside.0, inside.1)) ∙ ap (λ n. Some (page_of (change bytes) n)) place in
                due-kept new d slot k (page_of (change bytes) k) (in-run old new slot len first k run (page_of (change bytes) k) r low inside.0 got))
            | inr out ↦ (
                let had : k < data_pages_of long = below-old (data_pages_of len) first (length run) k (data_pages_of long) w.covers low out in
                let both = off-run old new path slot long len first k run w.file r low had out in
                due-same old new d slot k both.0 both.1 ∙ has k (subst (λ n. k < data_pages_of n) (sym size) had) ∙ sym (w.same bytes k size low out))
          ]

      leasts : (s k : ℕ) → IsSome (kept_page new.pages s k) → IsSome (kept_page old.pages s k) ⊎ Dirties old op s k
      leasts s k some = elim (cases_Bool (s == slot)) [
        | inr apart ↦ (let both = off-slot old new path slot long len first s k run w.file r apart in inl (ap is_some (sym both.0) ∙ some))
        | inl h ↦ (
            let same : s ≡ slot = (Decides-eqb s slot).0 h in
            subst (λ n. IsSome (kept_page old.pages n k) ⊎ Dirties old op n k) (sym same) (mine (nat_le (data_pages_of len) k) refl (subst (λ n. IsSome (kept_page new.pages n k)) same some)))
      ] where
        mine : (b : Bool) → nat_le (data_pages_of len) k ≡ b → IsSome (kept_page new.pages slot k) → IsSome (kept_page old.pages slot k) ⊎ Dirties old op slot k
        mine true e some = absurd (no_kept (kept_page new.pages slot k) (r.pages slot k ∙ ap (λ b. if b then None else option_or (run_at slot first run (key_of slot k)) (kept_page old.pages slot k)) (past_test slot (data_pages_of len) k e)) some)
        mine false e some = elim (split first (length run) k) [
          | inl inside ↦ inr (record { len = long; file = subst (λ p. IsFileOf old.index.nodes p slot long) (sym w.at_path) w.file; dirty = w.dirtied k inside.0 inside.1 })
          | inr out ↦ inl (ap is_some (sym (here-kept old new slot len first k run r (low_test (data_pages_of len) k e) ∙ ap (λ o. option_or o (kept_page old.pages slot k)) (run-outside slot first slot k run out))) ∙ some)
        ]

      dirty : (s k : ℕ) → Dirties old op s k → IsSome (kept_page new.pages s k)
      dirty s k d =
          let file : IsFileOf old.index.nodes path s d.len = subst (λ p. IsFileOf old.index.nodes p s d.len) w.at_path d.file in
          let both : Some s ≡ Some slot = sym file.at ∙ w.file.at in
          let same : s ≡ slot = cc in
          let holds : Some file.held ≡ Some w.file.held = sym file.there ∙ ap (held_at old.index.nodes) same ∙ w.file.there in
          let one : file.held ≡ w.file.held = cc in
          let size : d.len ≡ long = sym file.long ∙ ap (λ (h : Held). h.node.length) one ∙ w.file.long in
          let inside = w.dirties k (subst (λ n. DirtiesPage op n k) size d.dirty) in
          let low : k < data_pages_of len = let within = w.within in omega (arith, inside.1, within) in
          subst (λ n. IsSome (kept_page new.pages n k)) (sym same)
          (ap is_some (in-run old new slot len first k run (get_or run (k - first) []) r low inside.0 (slice_get-get_or run (k - first) [] (omega (arith, inside.0, inside.1)))))

      others : (d : DiskState) → KeepsOthers slot (due_page old d) (due_page new d)
      others d s k apart = let both = off-slot old new path slot long len first s k run w.file r (apart_test s slot apart) in due-same old new d s k both.0 both.1

      left : (d : DiskState) (tree : List TreeEntry) → told ≡ Some d → Backs d old → HasTreeOn d old tree → HasTreeOn d new (with_bytes_at path (change (bytes_in (entry_at path tree))) tree)
      left d tree is backs has =
          let bytes = bytes_in (entry_at path tree) in
          let size : length bytes ≡ long = file-length old.index.nodes tree path slot long w.file has.shape in
          resized-contents old.index.nodes new.index.nodes tree path slot len (change bytes) None (due_page old d) (due_page new d)
          (record { table = w.file.table; at = w.file.at; file = file-refs old.index.nodes slot w.file.held w.file.there w.file.file })
          w.short has (w.size bytes size) (w.there tree None has.shape) (here d bytes is backs (has.contents path slot w.file.at) size) (others d)
          (λ held there. ap (λ (i : IndexState). i.nodes) (r.index held there))

      outs : (s k : ℕ) (reference : Ref) → IsOut new s k reference → IsOut old s k reference
      outs s k reference out = elim (cases_Bool (s == slot)) [
        | inr apart ↦ (let both = off-slot old new path slot long len first s k run w.file r apart in record { at = sym both.1 ∙ out.at; apart = sym both.0 ∙ out.apart })
        | inl h ↦ (
            let same : s ≡ slot = (Decides-eqb s slot).0 h in
            subst (λ n. IsOut old n k reference) (sym same) (mine k reference (subst (λ n. IsOut new n k reference) same out)))
      ] where
        mine : (k : ℕ) (reference : Ref) → IsOut new slot k reference → IsOut old slot k reference
        mine k reference out =
            let some : IsSome (slice_get (refs_for len w.file.held.refs) k) = ap is_some (sym (ap (λ (i : IndexState). ref_at i.nodes slot k) made ∙ resized-ref old.index.nodes slot len slot k w.file.held w.file.there w.file.file refl) ∙ out.at) in
            let low : k < data_pages_of len = omega (arith, ref_at-below (refs_for len w.file.held.refs) k some, length-refs_for len w.file.held.refs) in
            elim (split first (length run) k) [
              | inl inside ↦ absurd (no_both (kept_page new.pages slot k) (get_or run (k - first) []) (in-run old new slot len first k run (get_or run (k - first) []) r low inside.0 (slice_get-get_or run (k - first) [] (omega (arith, inside.0, inside.1)))) out.apart)
              | inr off ↦ (
                  let had : k < data_pages_of long = below-old (data_pages_of len) first (length run) k (data_pages_of long) w.covers low off in
                  let both = off-run old new path slot long len first k run w.file r low had off in
                  record { at = sym both.1 ∙ out.at; apart = sym both.0 ∙ out.apart })
            ]
