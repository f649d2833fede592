-- Operations that change entries and touch no page.
use Rattle.std.proofs.Common.{◌≡◌, ℕ, ◌<◌, Bool, true, false, List, [], length, set, Option, Some, None, IsSome, is_some, Result, Ok, Err, refl, sym, ap, subst, ◌∙◌, inl, inr, arith}
use Rattle.std.specs.Prelude.{◌⊎◌, ◌==◌, ◌&&◌, nat_le, if◌then◌else◌, unwrap_or, slice_get}
use Rattle.std.specs.Option.{option_and_then, option_map}
use Rattle.std.proofs.lemmas.Bool.{cases_Bool, cases_lt, false≢true}
use Rattle.std.proofs.lemmas.Bool.Decides.{Decides-eqb, nat_tests}
use Rattle.std.proofs.lemmas.List.{get_or_past}
use Rattle.std.proofs.Math.ListN.{length-set}
use Rattle.vb_path.specs.Paths.{same_path}
use Rattle.vb_disk.specs.States.{DiskState}
use Rattle.vb_tree.specs.declared.operation.Op.{Op}
use Rattle.vb_tree.specs.declared.reply.Reply.{Reply}
use Rattle.vb_tree.specs.declared.reply.Reply.TheVariants.{Done}
use Rattle.vb_tree.specs.declared.tree.TreeEntry.{TreeEntry}
use Rattle.vb_tree.specs.Refusals.{refusal_of, refuse_new}
use Rattle.vb_tree.specs.Operations.{answer_of, effect_of, reply_of, reply_unless, tree_after_reply}
use Rattle.vb_index.specs.declared.held.Held.{Held}
use Rattle.vb_index.proofs.Tables.{at_same, at_other}
use Rattle.vb_index.specs.Contents.{HasTree}
use Rattle.vb_index.specs.Moves.{placed_in, renamed_nodes, replaced_slot, with_place, with_place_in, without_slot}
use Rattle.vb_index.specs.Nodes.{held_at, refs_of, slot_at, IsTable}
use Rattle.vb_tree.specs.Trees.{parent_of, name_of, insert_entry, without}
use Rattle.vb_pages.specs.declared.kept.KeptPage.{KeptPage}
use Rattle.vb_pages.specs.declared.kept.PageKey.{PageKey}
use Rattle.vb_pages.specs.declared.page_error.PageError.{PageError}
use Rattle.vb_pages.specs.Tables.{kept_page, Cuts}
use Rattle.vb_pages.specs.declared.page_error.PageError.TheVariants.{Memory}
use Rattle.vb_index.specs.declared.errors.IndexError.{IndexError}
use Rattle.vb_index.specs.declared.errors.IndexError.TheVariants as index_errors
use Rattle.vb_index.specs.Changes.{removal_of}
use Rattle.vb_index.specs.Indexes.{IndexState, HasShapeOf, IsAnswer, new_held}
use Rattle.vb_tree.specs.declared.operation.Op.TheVariants.{Rename}
use Rattle.vb_tree.specs.declared.tree.Kind.{Kind}
use Rattle.vb_tree.specs.declared.tree.Kind.TheVariants.{Folder, File}
use Rattle.vb_tree.specs.declared.tree.Limits.{Limits}
use Rattle.vb_tree.specs.Renames.{renamed}
use Rattle.vb_active.proofs.Reading.{failed-performs, refused-performs}
use Rattle.vb_active.specs.Performs.{CutsFile, HasTreeOn, Performs, answer_of_error, making_of}
use Rattle.vb_active.specs.Needs.{DirtiesPage}
use Rattle.vb_active.specs.Views.{ActiveState, KeepsFiles, due_page, ref_at}
use Rattle.vb_active.proofs.Carries.{carried}
use Rattle.vb_active.proofs.Dues.{due-same}
use Rattle.vb_active.proofs.OneSlot.{ref_at-other}

-- each page that the index has afterwards is as it was
abbrev pub StaysAs : ActiveState → ActiveState → Type 0
StaysAs old new = (slot page : ℕ) → IsSome (ref_at new.index.nodes slot page) → (ref_at new.index.nodes slot page ≡ ref_at old.index.nodes slot page) × (kept_page new.pages slot page ≡ kept_page old.pages slot page)

-- a change of the nodes alone
pub changed-performs : (told : Option DiskState) (old new : ActiveState) (op : Op) → ((tree : List TreeEntry) → answer_of tree op ≡ Done) → new.index.limits ≡ old.index.limits → IsTable new.index.nodes
    → ((pages : ℕ → ℕ → List ℕ) (tree : List TreeEntry) → HasTree old.index.nodes pages tree → (refusal_of old.index.limits tree op ≡ None) × HasTree new.index.nodes pages (effect_of tree op))
    → StaysAs old new → ((slot page : ℕ) → IsSome (kept_page new.pages slot page) → IsSome (kept_page old.pages slot page)) → ((len page : ℕ) → DirtiesPage op len page → ⊥) → Performs told old new op (Ok Done)
changed-performs told old new op done limits table changed stays fewer clean =
    record {
      played = λ d tree is backs has.
          let both = changed (due_page old d) tree has in
          let reply : reply_of old.index.limits tree op ≡ Done = ap (λ r. reply_unless r (answer_of tree op)) both.0 ∙ done tree in
          record {
            said = sym reply;
            leaves = subst (λ r. HasTreeOn d new (tree_after_reply tree op r)) (sym reply)
                (carried new.index.nodes (due_page old d) (due_page new d) (effect_of tree op) table both.1 (λ s p some. due-same old new d s p (stays s p some).1 (stays s p some).0));
          };
      kept = tt;
      damage = tt;
      limits = limits;
      out = λ s p reference out.
          let same = stays s p (ap is_some out.at) in
          record { at = sym same.0 ∙ out.at; apart = sym same.1 ∙ out.apart };
      least = λ s p some. inl (fewer s p some);
      dirty = λ e s p dirties. absurd (clean dirties.len p dirties.dirty);
    }

-- what a slot holds once it was set
pub set-cases : (nodes : List (Option Held)) (slot s : ℕ) (new : Option Held) → (held_at (set nodes slot new) s ≡ held_at nodes s) ⊎ ((s ≡ slot) × (held_at (set nodes slot new) s ≡ new))
set-cases nodes slot s new = elim (cases_Bool (s == slot)) [
  | inr h ↦ inl (other h)
  | inl h ↦ (
      let same : s ≡ slot = (Decides-eqb s slot).0 h in
      elim (cases_lt s (length nodes)) [
        | inl there ↦ inr (same, at_same nodes slot s new (subst (λ n. n < length nodes) same there) same)
        | inr past ↦ inl (get_or_past (set nodes slot new) s None (omega (arith, past, length-set nodes slot new)) ∙ sym (get_or_past nodes s None past))
      ])
] where
  other : (s == slot) ≡ false → held_at (set nodes slot new) s ≡ held_at nodes s
  other h = at_other nodes slot s new h

-- a slot that was set to nothing has no pages
pub cleared : (nodes : List (Option Held)) (slot s p : ℕ) → s ≡ slot → ref_at (set nodes slot None) s p ≡ None
cleared nodes slot s p same = ap (λ o. slice_get (unwrap_or (option_and_then refs_of o) []) p) none where
  none : held_at (set nodes slot None) s ≡ None
  none = elim (cases_lt s (length nodes)) [
    | inl there ↦ at_same nodes slot s None (subst (λ n. n < length nodes) same there) same
    | inr past ↦ get_or_past (set nodes slot None) s None (omega (arith, past, length-set {A = Option Held} nodes slot None))
  ]

no_some : {X : Type 0} (o : Option X) → o ≡ None → IsSome o → ⊥
no_some {X} o e some = let no : is_some {T = X} None ≡ true = sym (ap is_some e) ∙ some in false≢true no

-- a new node has no pages, and the others stay
pub filled-stays : (nodes new : List (Option Held)) (slot : ℕ) (held : Held) → unwrap_or (refs_of held) [] ≡ [] → new ≡ set nodes slot (Some held) → (s p : ℕ) → IsSome (ref_at new s p) → ref_at new s p ≡ ref_at nodes s p
filled-stays nodes new slot held bare e s p some =
    ap (λ ns. ref_at ns s p) e ∙ (elim (set-cases nodes slot s (Some held)) [
      | inl same ↦ ap (λ o. slice_get (unwrap_or (option_and_then refs_of o) []) p) same
      | inr at ↦ absurd (no_some (ref_at new s p) (ap (λ ns. ref_at ns s p) e ∙ ap (λ o. slice_get (unwrap_or (option_and_then refs_of o) []) p) at.1 ∙ ap (λ refs. slice_get refs p) bare) some)
    ])

-- where the file that a slot held is gone with its pages, the others stay
pub cut-stays : (nodes : List (Option Held)) (pages new : List (PageKey × KeptPage)) (o : Option ℕ) → CutsFile o pages new → (s p : ℕ) → IsSome (ref_at (without_slot nodes o) s p) → (ref_at (without_slot nodes o) s p ≡ ref_at nodes s p) × (kept_page new s p ≡ kept_page pages s p)
cut-stays nodes pages new None cuts s p some = (refl, ap (λ t. kept_page t s p) cuts)
cut-stays nodes pages new (Some slot) cuts s p some = elim (cases_Bool (s == slot)) [
  | inl h ↦ absurd (no_some (ref_at (set nodes slot None) s p) (cleared nodes slot s p ((Decides-eqb s slot).0 h)) some)
  | inr h ↦ (ref_at-other nodes slot s p None h, cuts s p ∙ ap (λ b. if b && nat_le 0 p then None else kept_page pages s p) h)
]

from_zero : (p : ℕ) → (true && nat_le 0 p) ≡ true
from_zero p = grind (arith, nat_tests)

pub cut-files : (nodes : List (Option Held)) (pages new : List (PageKey × KeptPage)) (o : Option ℕ) → CutsFile o pages new → KeepsFiles nodes pages → KeepsFiles (without_slot nodes o) new
cut-files nodes pages new None cuts files s p some = files s p (ap is_some (ap (λ t. kept_page t s p) (sym cuts)) ∙ some)
cut-files nodes pages new (Some slot) cuts files s p some = elim (cases_Bool (s == slot)) [
  | inl h ↦ absurd (no_some (kept_page new s p) (cuts s p ∙ ap (λ b. if b && nat_le 0 p then None else kept_page pages s p) h ∙ ap (λ b. if b then None else kept_page pages s p) (from_zero p)) some)
  | inr h ↦ ap is_some (ref_at-other nodes slot s p None h) ∙ files s p (ap is_some (sym (cuts s p ∙ ap (λ b. if b && nat_le 0 p then None else kept_page pages s p) h)) ∙ some)
]

-- nor is there a new one
cut-fewer : (pages new : List (PageKey × KeptPage)) (o : Option ℕ) → CutsFile o pages new → (s p : ℕ) → IsSome (kept_page new s p) → IsSome (kept_page pages s p)
cut-fewer pages new None cuts s p some = subst (λ t. IsSome (kept_page t s p)) cuts some
cut-fewer pages new (Some slot) cuts s p some = by (s == slot && nat_le 0 p) refl where
  by : (b : Bool) → (s == slot && nat_le 0 p) ≡ b → IsSome (kept_page pages s p)
  by true e = absurd (no_some (kept_page new s p) (cuts s p ∙ ap (λ b. if b then None else kept_page pages s p) e) some)
  by false e = ap is_some (sym (cuts s p ∙ ap (λ b. if b then None else kept_page pages s p) e)) ∙ some

removal-clean : (kind : Kind) (path : List (List ℕ)) (len page : ℕ) → DirtiesPage (removal_of kind path) len page → ⊥
removal-clean Folder path len page d = d
removal-clean File path len page d = d

making-clean : (kind : Kind) (path : List (List ℕ)) (len page : ℕ) → DirtiesPage (making_of kind path) len page → ⊥
making-clean Folder path len page d = d
making-clean File path len page d = d

-- ---- a rename

placed-refs : (o : Option Held) (folder : ℕ) (name : List ℕ) → option_and_then refs_of (option_map (placed_in folder name) o) ≡ option_and_then refs_of o
placed-refs None folder name = refl
placed-refs (Some held) folder name = refl

with_place-refs : (nodes : List (Option Held)) (slot folder : ℕ) (name : List ℕ) (s p : ℕ) → ref_at (with_place nodes slot folder name) s p ≡ ref_at nodes s p
with_place-refs nodes slot folder name s p = elim (set-cases nodes slot s (option_map (placed_in folder name) (held_at nodes slot))) [
  | inl same ↦ ap (λ o. slice_get (unwrap_or (option_and_then refs_of o) []) p) same
  | inr at ↦
      ap (λ o. slice_get (unwrap_or (option_and_then refs_of o) []) p) at.1
      ∙ ap (λ o. slice_get (unwrap_or o []) p) (placed-refs (held_at nodes slot) folder name)
      ∙ ap (λ n. ref_at nodes n p) (sym at.0)
]

with_place_in-refs : (nodes : List (Option Held)) (slot folder : Option ℕ) (name : List ℕ) (s p : ℕ) → ref_at (with_place_in nodes slot folder name) s p ≡ ref_at nodes s p
with_place_in-refs nodes None folder name s p = refl
with_place_in-refs nodes (Some slot) None name s p = refl
with_place_in-refs nodes (Some slot) (Some folder) name s p = with_place-refs nodes slot folder name s p

pub renamed-refs : (nodes : List (Option Held)) (source target : List (List ℕ)) (s p : ℕ) → ref_at (renamed_nodes source target nodes) s p ≡ ref_at (without_slot nodes (replaced_slot source target nodes)) s p
renamed-refs nodes source target s p = by (same_path source target) refl where
  moved : List (Option Held)
  moved = with_place_in (without_slot nodes (slot_at nodes target)) (slot_at nodes source) (slot_at nodes (parent_of target)) (name_of target)

  by : (b : Bool) → same_path source target ≡ b → ref_at (renamed_nodes source target nodes) s p ≡ ref_at (without_slot nodes (replaced_slot source target nodes)) s p
  by true e = ap (λ b. ref_at (if b then nodes else moved) s p) e ∙ sym (ap (λ b. ref_at (without_slot nodes (if b then None else slot_at nodes target)) s p) e)
  by false e = ap (λ b. ref_at (if b then nodes else moved) s p) e
      ∙ with_place_in-refs (without_slot nodes (slot_at nodes target)) (slot_at nodes source) (slot_at nodes (parent_of target)) (name_of target) s p
      ∙ sym (ap (λ b. ref_at (without_slot nodes (if b then None else slot_at nodes target)) s p) e)

-- ---- the operations

-- the view before and after, by their parts
removal-answer : (kind : Kind) (path : List (List ℕ)) (tree : List TreeEntry) → answer_of tree (removal_of kind path) ≡ Done
removal-answer Folder path tree = refl
removal-answer File path tree = refl

removal-effect : (kind : Kind) (path : List (List ℕ)) (tree : List TreeEntry) → effect_of tree (removal_of kind path) ≡ without path tree
removal-effect Folder path tree = refl
removal-effect File path tree = refl

pub removed-performs : (told : Option DiskState) (view : ActiveState) (index new : IndexState) (pages new_pages : List (PageKey × KeptPage)) (kind : Kind) (path : List (List ℕ)) (slot : ℕ)
    → record { index = index; pages = pages } ≡ view → new ≡ record index { nodes = set index.nodes slot None } → IsTable new.nodes
    → ((ps : ℕ → ℕ → List ℕ) (tree : List TreeEntry) → HasTree index.nodes ps tree → refusal_of index.limits tree (removal_of kind path) ≡ None)
    → ((ps : ℕ → ℕ → List ℕ) (tree : List TreeEntry) → HasTree index.nodes ps tree → HasTree new.nodes ps (without path tree))
    → Cuts pages new_pages slot 0 → Performs told view (record { index = new; pages = new_pages }) (removal_of kind path) (Ok Done)
removed-performs told view index new pages new_pages kind path slot is made table allowed trees cuts =
    let after : ActiveState = record { index = new; pages = new_pages } in
    let P : ActiveState → Type 0 = λ v. Performs told v after (removal_of kind path) (Ok Done) in
    subst P is (changed-performs told (record { index = index; pages = pages }) after (removal_of kind path) (removal-answer kind path) (ap (λ (i : IndexState). i.limits) made) table
    (λ ps tree has. (allowed ps tree has, subst (HasTree new.nodes ps) (sym (removal-effect kind path tree)) (trees ps tree has)))
    (λ s p some.
    let nodes = ap (λ (i : IndexState). ref_at i.nodes s p) made in
    let both = cut-stays index.nodes pages new_pages (Some slot) cuts s p (ap is_some (sym nodes) ∙ some) in
    (nodes ∙ both.0, both.1))
    (cut-fewer pages new_pages (Some slot) cuts) (removal-clean kind path))

pub renamed-files : (index new : IndexState) (pages new_pages : List (PageKey × KeptPage)) (source target : List (List ℕ)) (replaced : Option ℕ) → KeepsFiles index.nodes pages → new ≡ record index { nodes = renamed_nodes source target index.nodes } → replaced ≡ replaced_slot source target index.nodes → CutsFile replaced pages new_pages → KeepsFiles new.nodes new_pages
renamed-files index new pages new_pages source target replaced files made is cuts s p some =
    let there = cut-files index.nodes pages new_pages replaced cuts files s p some in
    ap is_some (ap (λ (i : IndexState). ref_at i.nodes s p) made ∙ renamed-refs index.nodes source target s p ∙ ap (λ o. ref_at (without_slot index.nodes o) s p) (sym is)) ∙ there

pub renamed-performs : (told : Option DiskState) (view : ActiveState) (index new : IndexState) (pages new_pages : List (PageKey × KeptPage)) (source target : List (List ℕ)) (replaced : Option ℕ)
    → record { index = index; pages = pages } ≡ view → new ≡ record index { nodes = renamed_nodes source target index.nodes } → replaced ≡ replaced_slot source target index.nodes → IsTable new.nodes
    → ((ps : ℕ → ℕ → List ℕ) (tree : List TreeEntry) → HasTree index.nodes ps tree → refusal_of index.limits tree (Rename source target) ≡ None)
    → ((ps : ℕ → ℕ → List ℕ) (tree : List TreeEntry) → HasTree index.nodes ps tree → HasTree new.nodes ps (renamed source target tree))
    → CutsFile replaced pages new_pages → Performs told view (record { index = new; pages = new_pages }) (Rename source target) (Ok Done)
renamed-performs told view index new pages new_pages source target replaced is made replaced_is table allowed trees cuts =
    let after : ActiveState = record { index = new; pages = new_pages } in
    let P : ActiveState → Type 0 = λ v. Performs told v after (Rename source target) (Ok Done) in
    subst P is (changed-performs told (record { index = index; pages = pages }) after (Rename source target) (λ tree. refl) (ap (λ (i : IndexState). i.limits) made) table
    (λ ps tree has. (allowed ps tree has, trees ps tree has))
    (λ s p some.
    let nodes : ref_at new.nodes s p ≡ ref_at (without_slot index.nodes replaced) s p = ap (λ (i : IndexState). ref_at i.nodes s p) made ∙ renamed-refs index.nodes source target s p ∙ ap (λ o. ref_at (without_slot index.nodes o) s p) (sym replaced_is) in
    let both = cut-stays index.nodes pages new_pages replaced cuts s p (ap is_some (sym nodes) ∙ some) in
    (nodes ∙ both.0, both.1))
    (cut-fewer pages new_pages replaced cuts) (λ len page dirties. dirties))

making-answer : (kind : Kind) (path : List (List ℕ)) (tree : List TreeEntry) → answer_of tree (making_of kind path) ≡ Done
making-answer Folder path tree = refl
making-answer File path tree = refl

making-effect : (kind : Kind) (path : List (List ℕ)) (tree : List TreeEntry) → effect_of tree (making_of kind path) ≡ insert_entry (record { path = path; kind = kind; bytes = [] }) tree
making-effect Folder path tree = refl
making-effect File path tree = refl

making-refusal : (kind : Kind) (path : List (List ℕ)) (limits : Limits) (tree : List TreeEntry) → refusal_of limits tree (making_of kind path) ≡ refuse_new limits tree path
making-refusal Folder path limits tree = refl
making-refusal File path limits tree = refl

bare : (slot : ℕ) (kind : Kind) (folder : ℕ) (name : List ℕ) → unwrap_or (refs_of (new_held slot kind folder name)) [] ≡ []
bare slot Folder folder name = refl
bare slot File folder name = refl

pub made-performs : (told : Option DiskState) (view : ActiveState) (index new : IndexState) (pages : List (PageKey × KeptPage)) (kind : Kind) (path : List (List ℕ)) (slot folder : ℕ)
    → record { index = index; pages = pages } ≡ view → new ≡ record index { nodes = set index.nodes slot (Some (new_held slot kind folder (name_of path))) } → IsTable new.nodes
    → ((tree : List TreeEntry) → HasShapeOf index.nodes tree → refuse_new index.limits tree path ≡ None)
    → ((ps : ℕ → ℕ → List ℕ) (tree : List TreeEntry) → HasTree index.nodes ps tree → HasTree new.nodes ps (insert_entry (record { path = path; kind = kind; bytes = [] }) tree))
    → Performs told view (record { index = new; pages = pages }) (making_of kind path) (Ok Done)
made-performs told view index new pages kind path slot folder is made table allowed trees =
    let after : ActiveState = record { index = new; pages = pages } in
    let P : ActiveState → Type 0 = λ v. Performs told v after (making_of kind path) (Ok Done) in
    subst P is (changed-performs told (record { index = index; pages = pages }) after (making_of kind path) (making-answer kind path) (ap (λ (i : IndexState). i.limits) made) table
    (λ ps tree has. (making-refusal kind path index.limits tree ∙ allowed tree has.shape, subst (HasTree new.nodes ps) (sym (making-effect kind path tree)) (trees ps tree has)))
    (λ s p some. (filled-stays index.nodes new.nodes slot (new_held slot kind folder (name_of path)) (bare slot kind folder (name_of path)) (ap (λ (i : IndexState). i.nodes) made) s p some, refl))
    (λ s p some. some) (making-clean kind path))

-- where the index changed nothing
pub unmade-performs : (told : Option DiskState) (view : ActiveState) (index new : IndexState) (pages : List (PageKey × KeptPage)) (kind : Kind) (path : List (List ℕ)) (error : IndexError) (result : Result Reply PageError)
    → record { index = index; pages = pages } ≡ view → new ≡ index → result ≡ answer_of_error error
    → ((tree : List TreeEntry) → HasShapeOf index.nodes tree → IsAnswer {T = ℕ} (refuse_new index.limits tree path) (Err error))
    → Performs told view (record { index = new; pages = pages }) (making_of kind path) result
unmade-performs told view index new pages kind path error result is same answer refuses =
    let v : ActiveState = record { index = index; pages = pages } in
    let now : v ≡ record { index = new; pages = pages } = ap (λ i. record { index = i; pages = pages }) (sym same) in
    let P : ActiveState → Type 0 = λ a. Performs told a (record { index = new; pages = pages }) (making_of kind path) result in
    let Q : ActiveState → Type 0 = λ a. Performs told v a (making_of kind path) result in
    let R : Result Reply PageError → Type 0 = λ r. Performs told v v (making_of kind path) r in
    subst P is (subst Q now (subst R (sym answer) (by error refuses))) where
      by : (e : IndexError) → ((tree : List TreeEntry) → HasShapeOf index.nodes tree → IsAnswer {T = ℕ} (refuse_new index.limits tree path) (Err e)) → Performs told (record { index = index; pages = pages }) (record { index = index; pages = pages }) (making_of kind path) (answer_of_error e)
      by (index_errors.Refused reason) refuses = refused-performs told (record { index = index; pages = pages }) (making_of kind path) reason (λ tree shape. making-refusal kind path index.limits tree ∙ refuses tree shape)
      by index_errors.Memory refuses = failed-performs told (record { index = index; pages = pages }) (making_of kind path) Memory tt
