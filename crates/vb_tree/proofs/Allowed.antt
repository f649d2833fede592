-- What holds where an operation isn't refused, and of the tree that it then leaves.
use Rattle.std.proofs.Common.{◌≡◌, ℕ, suc, ◌+◌, ◌-◌, ◌≤◌, Bool, true, false, cond, not, ◌&&◌, ◌||◌, nat_lt, List, [], ◌∷◌, ◌++◌, length, take, drop, position, Option, Some, None, is_some, is_none, inl, inr, refl, sym, ap, ◌∙◌, subst, arith, append_assoc, append-nil, length-append}
use Rattle.std.specs.Option.{option_map}
use Rattle.std.proofs.lemmas.Bool.{cases_Bool, false≢true, ltb-false}
use Rattle.std.proofs.lemmas.Bool.Decides.{nat_tests}
use Rattle.vb_tree.specs.declared.tree.Kind.{Kind}
use Rattle.vb_tree.specs.declared.tree.Kind.TheVariants.{Folder, File}
use Rattle.vb_tree.specs.declared.tree.Limits.{Limits}
use Rattle.vb_tree.specs.declared.tree.TreeEntry.{TreeEntry}
use Rattle.vb_tree.specs.declared.operation.Op.{Op}
use Rattle.vb_tree.specs.declared.operation.Op.TheVariants.{Create, MakeDir, Write, Truncate, Rename, Remove, RemoveDir, Read, List as Listing, Stat}
use Rattle.vb_tree.specs.declared.reply.Refusal.{Refusal}
use Rattle.vb_tree.specs.declared.reply.Refusal.TheVariants.{NoEntry, NotADir, DeepTree}
use Rattle.vb_path.specs.Paths.{same_path, IsPath}
use Rattle.vb_tree.specs.Trees.{longest_file, is_root, entry_at, kind_at, bytes_in, is_folder, is_file, has_entries, without, insert_entry, with_bytes_at, pages_of_length, page_count, pages_with, node_count, parent_of, IsTree, IsWithin}
use Rattle.vb_tree.specs.Contents.{written_over, truncated_to}
use Rattle.vb_tree.specs.Renames.{is_within, makes_deep}
use Rattle.vb_tree.specs.Refusals.{refuse, allow, refuse_step, refuse_rest, refuse_way, refuse_unless_file, refuse_unless_folder, refuse_new, refuse_length, refuse_resize, refuse_move, refusal_of}
use Rattle.vb_tree.specs.Operations.{HasPaths, answer_of, effect_of, is_done, reply_unless, tree_after, tree_after_reply}
use Rattle.vb_tree.proofs.Lookups.{find-position, length-insert_entry, page_count-insert_entry}
use Rattle.vb_tree.proofs.Sizes.{length-written_over, length-truncated_to, page_count-changed}
use Rattle.vb_tree.proofs.TreeLaws.{HasFile, IsTree-insert, IsTree-with_bytes_at}
use Rattle.vb_tree.proofs.Within.{within-parts, within-parent, some_parts, folder-parent, folder-above}
use Rattle.vb_tree.proofs.Removals.{either_false, no_entries, IsTree-without, sizes-without}
use Rattle.vb_tree.proofs.RenameLaws.{IsMovable, after_rename, IsTree-after_rename, sizes-after_rename}

-- no refusal means that the test failed, and that nothing after it refused
pub refuse-none : (bad : Bool) (reason : Refusal) (next : Option Refusal) → refuse bad reason next ≡ None → (bad ≡ false) × (next ≡ None)
refuse-none true reason next h = absurd cc
refuse-none false reason next h = (refl, h)

refuse_step-none : (kind : Option Kind) (next : Option Refusal) → refuse_step kind next ≡ None → (kind ≡ Some Folder) × (next ≡ None)
refuse_step-none None next h = absurd cc
refuse_step-none (Some Folder) next h = (refl, h)
refuse_step-none (Some File) next h = absurd cc

refuse_rest-none : (tree : List TreeEntry) (folder rest : List (List ℕ)) (next : Option Refusal) → kind_at folder tree ≡ Some Folder → refuse_rest tree folder rest next ≡ None → (next ≡ None) × (kind_at (folder ++ take (length rest - 1) rest) tree ≡ Some Folder)
refuse_rest-none tree folder [] next here h = (h, subst (λ p. kind_at p tree ≡ Some Folder) (sym (append-nil folder)) here)
refuse_rest-none tree folder (x ∷ []) next here h = (h, subst (λ p. kind_at p tree ≡ Some Folder) (sym (append-nil folder)) here)
refuse_rest-none tree folder (x ∷ y ∷ zs) next here h =
    let step = refuse_step-none (kind_at (folder ++ x ∷ []) tree) (refuse_rest tree (folder ++ x ∷ []) (y ∷ zs) next) h in
    let more = refuse_rest-none tree (folder ++ x ∷ []) (y ∷ zs) next step.0 step.1 in
    let top : length (y ∷ zs) - 1 ≡ length zs = omega arith in
    let all : suc (length zs) ≡ length (x ∷ y ∷ zs) - 1 = omega arith in
    let same = append_assoc folder (x ∷ []) (take (length (y ∷ zs) - 1) (y ∷ zs)) ∙ ap (λ n. folder ++ (x ∷ take n (y ∷ zs))) top ∙ ap (λ n. folder ++ take n (x ∷ y ∷ zs)) all in
    (more.0, subst (λ p. kind_at p tree ≡ Some Folder) same more.1)

-- what stands before the end of an open way is a folder
pub refuse_way-none : (tree : List TreeEntry) (path : List (List ℕ)) (next : Option Refusal) → refuse_way tree path next ≡ None → (next ≡ None) × (kind_at (parent_of path) tree ≡ Some Folder)
refuse_way-none tree path next h = refuse_rest-none tree [] path next refl h

-- what holds where something new may stand at a path
pub record IsFree (limits : Limits) (tree : List TreeEntry) (path : List (List ℕ)) : Type 0 where
  pub below_root : is_root path ≡ false
  pub parent_there : kind_at (parent_of path) tree ≡ Some Folder
  pub nothing_there : entry_at path tree ≡ None
  pub room : node_count tree + 1 ≤ limits.nodes

kind_free : (below : Bool) (found : Option TreeEntry) → below ≡ false → is_some (cond below (Some Folder) (option_map (λ e. e.kind) found)) ≡ false → found ≡ None
kind_free true found b h = absurd (false≢true (sym b))
kind_free false None b h = refl
kind_free false (Some e) b h = absurd (false≢true (sym h))

pub refuse_new-none : (limits : Limits) (tree : List TreeEntry) (path : List (List ℕ)) → refuse_new limits tree path ≡ None → IsFree limits tree path
refuse_new-none limits tree path h =
    let root = refuse-none _ _ _ h in
    let way = refuse_way-none tree path _ root.1 in
    let free = refuse-none _ _ _ way.0 in
    let few : nat_lt limits.nodes (node_count tree + 1) ≡ false = (refuse-none _ _ _ free.1).0 in
    record {
      below_root = root.0;
      parent_there = way.1;
      nothing_there = kind_free (is_root path) (entry_at path tree) root.0 free.0;
      room = grind (arith, nat_tests);
    }

file_there : (below : Bool) (found : Option TreeEntry) → is_none (cond below (Some Folder) (option_map (λ e. e.kind) found)) ≡ false → is_folder (cond below (Some Folder) (option_map (λ e. e.kind) found)) ≡ false → HasFile found
file_there true found n f = absurd (false≢true (sym f))
file_there false None n f = absurd (false≢true (sym n))
file_there false (Some e) n f = kind_file e.kind f where
  kind_file : (k : Kind) → is_folder (Some k) ≡ false → k ≡ File
  kind_file Folder g = absurd (false≢true (sym g))
  kind_file File g = refl

-- a file stands where none is refused
pub refuse_unless_file-none : (tree : List TreeEntry) (path : List (List ℕ)) (next : Option Refusal) → refuse_unless_file tree path next ≡ None → HasFile (entry_at path tree) × (next ≡ None)
refuse_unless_file-none tree path next h =
    let way = refuse_way-none tree path _ h in
    let there = refuse-none _ _ _ way.0 in
    let file = refuse-none _ _ _ there.1 in
    (file_there (is_root path) (entry_at path tree) there.0 file.0, file.1)

-- the pages have room where no length is refused
pub refuse_length-none : (limits : Limits) (before after len : ℕ) → refuse_length limits before after len ≡ None → before ≤ limits.pages → after ≤ limits.pages
refuse_length-none limits before after len h within =
    let room : (nat_lt limits.pages after && nat_lt before after) ≡ false = (refuse-none _ _ _ (refuse-none (nat_lt longest_file len) _ _ h).1).0 in
    grind (arith, nat_tests)

length-with_bytes_at : (path : List (List ℕ)) (bytes : List ℕ) (tree : List TreeEntry) → length (with_bytes_at path bytes tree) ≡ length tree
length-with_bytes_at path bytes [] = refl
length-with_bytes_at path bytes (e ∷ es) =
    elim (same_path path e.path) as (λ v. length (cond v (record e { bytes = bytes } ∷ es) (e ∷ with_bytes_at path bytes es)) ≡ length (e ∷ es)) [
      | true ↦ refl
      | false ↦ ap suc (length-with_bytes_at path bytes es)
    ]

-- a new entry without bytes takes a node and no page
IsWithin-insert : (limits : Limits) (new : TreeEntry) (tree : List TreeEntry) → new.bytes ≡ [] → node_count tree + 1 ≤ limits.nodes → IsWithin limits tree → IsWithin limits (insert_entry new tree)
IsWithin-insert limits new tree empty room is =
    let none : pages_of_length (length new.bytes) ≡ 0 = ap (λ b. pages_of_length (length b)) empty in
    record {
      limits_allowed = is.limits_allowed;
      nodes_within = omega (arith, is.nodes_within, length-insert_entry new tree);
      pages_within = omega (arith, is.pages_within, page_count-insert_entry new tree);
    }

-- fewer entries and fewer pages keep to the limits
IsWithin-fewer : (limits : Limits) (before after : List TreeEntry) → (length after ≤ length before) × (page_count after ≤ page_count before) → IsWithin limits before → IsWithin limits after
IsWithin-fewer limits before after few is =
    record {
      limits_allowed = is.limits_allowed;
      nodes_within = omega (arith, is.nodes_within, few.0);
      pages_within = omega (arith, is.pages_within, few.1);
    }

-- where a file stands
place_found : (path : List (List ℕ)) (tree : List TreeEntry) → HasFile (entry_at path tree) → (i : ℕ) × (position (λ (e : TreeEntry). same_path path e.path) tree ≡ Some i)
place_found path tree h =
    found (position (λ (e : TreeEntry). same_path path e.path) tree) refl where
      found : (o : Option ℕ) → position (λ (e : TreeEntry). same_path path e.path) tree ≡ o → (i : ℕ) × (position (λ (e : TreeEntry). same_path path e.path) tree ≡ Some i)
      found None e = absurd (subst HasFile (find-position (λ (x : TreeEntry). same_path path x.path) tree e) h)
      found (Some i) e = (i, e)

-- other bytes of a file keep to the limits, where their length isn't refused
IsWithin-with_bytes_at : (limits : Limits) (path : List (List ℕ)) (tree : List TreeEntry) (bytes : List ℕ) (len : ℕ) → length bytes ≡ len → HasFile (entry_at path tree) → refuse_resize limits tree path len ≡ None → IsWithin limits tree → IsWithin limits (with_bytes_at path bytes tree)
IsWithin-with_bytes_at limits path tree bytes len e file h is =
    let place = place_found path tree file in
    let count : page_count (with_bytes_at path bytes tree) ≡ pages_with path len tree =
    page_count-changed path tree bytes place.0 (record { path = []; kind = File; bytes = [] }) place.1 ∙ ap (λ n. pages_with path n tree) e in
    let room : pages_with path len tree ≤ limits.pages = refuse_length-none limits (page_count tree) (pages_with path len tree) len h is.pages_within in
    record {
      limits_allowed = is.limits_allowed;
      nodes_within = omega (arith, is.nodes_within, length-with_bytes_at path bytes tree);
      pages_within = subst (λ n. n ≤ limits.pages) (sym count) room;
    }

-- a file that may be removed is no folder
refuse_unless_file-folder : (tree : List TreeEntry) (path : List (List ℕ)) (next : Option Refusal) → refuse_unless_file tree path next ≡ None → is_folder (kind_at path tree) ≡ false
refuse_unless_file-folder tree path next h =
    let way = refuse_way-none tree path _ h in
    let there = refuse-none _ _ _ way.0 in
    (refuse-none _ _ _ there.1).0

-- a folder that may be removed has no entries
refuse_unless_folder-none : (tree : List TreeEntry) (path : List (List ℕ)) (next : Option Refusal) → refuse_unless_folder tree path next ≡ None → next ≡ None
refuse_unless_folder-none tree path next h =
    let way = refuse_way-none tree path _ h in
    let there = refuse-none (is_none (kind_at path tree)) NoEntry (refuse (is_file (kind_at path tree)) NotADir next) way.0 in
    (refuse-none (is_file (kind_at path tree)) NotADir next there.1).1

allow-none : (test : Bool) (next : Option Refusal) → allow test next ≡ None → test ≡ false → next ≡ None
allow-none true next h f = absurd (false≢true (sym f))
allow-none false next h f = h

-- a target that is a folder is refused
folder_refused : (file : Bool) (kind : Option Kind) → (is_some kind && not (file && is_file kind)) ≡ false → kind ≡ Some Folder → ⊥
folder_refused true kind h e = false≢true (sym (subst (λ k. (is_some k && not (true && is_file k)) ≡ false) e h))
folder_refused false kind h e = false≢true (sym (subst (λ k. (is_some k && not (false && is_file k)) ≡ false) e h))

-- what has a folder below it is a folder
folder-within : (tree : List TreeEntry) (top path : List (List ℕ)) → IsTree tree → is_within top path ≡ true → kind_at path tree ≡ Some Folder → kind_at top tree ≡ Some Folder
folder-within tree top path is h k = by_rest (drop (length top) path) (within-parts top path h) where
  by_rest : (rest : List (List ℕ)) → path ≡ top ++ rest → kind_at top tree ≡ Some Folder
  by_rest [] e = subst (λ p. kind_at p tree ≡ Some Folder) (e ∙ append-nil top) k
  by_rest (x ∷ xs) e =
      let here : kind_at (top ++ x ∷ xs) tree ≡ Some Folder = subst (λ p. kind_at p tree ≡ Some Folder) e k in
      let below : is_root (top ++ x ∷ xs) ≡ false = some_parts (top ++ x ∷ xs) (omega (arith, length-append top (x ∷ xs))) in
      folder-above tree top (x ∷ xs) is (omega arith) (folder-parent tree (top ++ x ∷ xs) Folder is below here)

-- what isn't refused may move
IsMovable-allowed : (limits : Limits) (tree : List TreeEntry) (source target : List (List ℕ)) → refusal_of limits tree (Rename source target) ≡ None → same_path source target ≡ false → IsPath target → IsTree tree → IsMovable source target tree
IsMovable-allowed limits tree source target h differ valid is =
    let root = refuse-none (is_root source || is_root target) _ _ h in
    let roots = either_false (is_root source) (is_root target) root.0 in
    let way = refuse_way-none tree source _ root.1 in
    let there = refuse-none (is_none (kind_at source tree)) _ _ way.0 in
    let move : refuse_move tree source target ≡ None = allow-none (same_path source target) (refuse_move tree source target) there.1 differ in
    let into = refuse-none (is_folder (kind_at source tree) && is_within source target) _ _ move in
    let up = refuse_way-none tree target _ into.1 in
    let free = refuse-none (is_some (kind_at target tree) && not (is_file (kind_at source tree) && is_file (kind_at target tree))) _ _ up.0 in
    record {
      is_tree = is;
      source_below = roots.0;
      target_below = roots.1;
      target_free = folder_refused (is_file (kind_at source tree)) (kind_at target tree) free.0;
      parent_there = up.1;
      target_valid = valid;
      shallow = (refuse-none (makes_deep source target tree) DeepTree None free.1).0;
      parent_stays = elim (cases_Bool (is_within source (parent_of target))) [
        | inr s ↦ s
        | inl s ↦ absurd (
            let folder = folder-within tree source (parent_of target) is s up.1 in
            false≢true (sym into.0 ∙ ap (λ k. is_folder k && is_within source target) folder ∙ within-parent source target s))
      ];
    }

-- a length that isn't refused is that of a file
refuse_resize-short : (limits : Limits) (tree : List TreeEntry) (path : List (List ℕ)) (len : ℕ) (bytes : List ℕ) → refuse_resize limits tree path len ≡ None → length bytes ≡ len → length bytes ≤ longest_file
refuse_resize-short limits tree path len bytes h e =
    let short : len ≤ longest_file = ltb-false longest_file len (refuse-none (nat_lt longest_file len) _ _ h).0 in
    subst (λ n. n ≤ longest_file) (sym e) short

-- an operation that isn't refused leaves a tree
IsTree-effect : (limits : Limits) (tree : List TreeEntry) (op : Op) → refusal_of limits tree op ≡ None → HasPaths op → IsTree tree → IsTree (effect_of tree op)
IsTree-effect limits tree (Create path) h valid is =
    let free = refuse_new-none limits tree path h in
    IsTree-insert (record { path = path; kind = File; bytes = [] }) tree free.nothing_there
    (record { path_valid = valid; below_root = free.below_root; parent_there = free.parent_there; folder_empty = λ e. refl; bytes_few = omega arith }) is
IsTree-effect limits tree (MakeDir path) h valid is =
    let free = refuse_new-none limits tree path h in
    IsTree-insert (record { path = path; kind = Folder; bytes = [] }) tree free.nothing_there
    (record { path_valid = valid; below_root = free.below_root; parent_there = free.parent_there; folder_empty = λ e. refl; bytes_few = omega arith }) is
IsTree-effect limits tree (Write path offset bytes) h valid is =
    let file = refuse_unless_file-none tree path _ h in
    let after = written_over offset bytes (bytes_in (entry_at path tree)) in
    IsTree-with_bytes_at path after tree (refuse_resize-short limits tree path _ after file.1 (length-written_over offset bytes (bytes_in (entry_at path tree)))) file.0 is
IsTree-effect limits tree (Truncate path len) h valid is =
    let file = refuse_unless_file-none tree path _ h in
    let after = truncated_to len (bytes_in (entry_at path tree)) in
    IsTree-with_bytes_at path after tree (refuse_resize-short limits tree path _ after file.1 (length-truncated_to len (bytes_in (entry_at path tree)))) file.0 is
IsTree-effect limits tree (Rename source target) h valid is =
    elim (cases_Bool (same_path source target)) [
      | inl s ↦ subst (λ v. IsTree (cond v tree (after_rename source target tree))) (sym s) is
      | inr s ↦ subst (λ v. IsTree (cond v tree (after_rename source target tree))) (sym s) (IsTree-after_rename source target tree (IsMovable-allowed limits tree source target h s valid.1 is))
    ]
IsTree-effect limits tree (Remove path) h valid is =
    let folder = refuse_unless_file-folder tree path None (refuse-none (is_root path) _ _ h).1 in
    IsTree-without path tree (no_entries tree path tree folder is.all_belong) is
IsTree-effect limits tree (RemoveDir path) h valid is =
    let used = refuse_unless_folder-none tree path _ (refuse-none (is_root path) _ _ h).1 in
    IsTree-without path tree (refuse-none (has_entries path tree) _ _ used).0 is
IsTree-effect limits tree (Read path offset len) h valid is = is
IsTree-effect limits tree (Listing path) h valid is = is
IsTree-effect limits tree (Stat path) h valid is = is

-- an operation that isn't refused keeps to the limits
IsWithin-effect : (limits : Limits) (tree : List TreeEntry) (op : Op) → refusal_of limits tree op ≡ None → IsWithin limits tree → IsWithin limits (effect_of tree op)
IsWithin-effect limits tree (Create path) h is =
    IsWithin-insert limits (record { path = path; kind = File; bytes = [] }) tree refl (refuse_new-none limits tree path h).room is
IsWithin-effect limits tree (MakeDir path) h is =
    IsWithin-insert limits (record { path = path; kind = Folder; bytes = [] }) tree refl (refuse_new-none limits tree path h).room is
IsWithin-effect limits tree (Write path offset bytes) h is =
    let file = refuse_unless_file-none tree path _ h in
    IsWithin-with_bytes_at limits path tree (written_over offset bytes (bytes_in (entry_at path tree))) _ (length-written_over offset bytes (bytes_in (entry_at path tree))) file.0 file.1 is
IsWithin-effect limits tree (Truncate path len) h is =
    let file = refuse_unless_file-none tree path _ h in
    IsWithin-with_bytes_at limits path tree (truncated_to len (bytes_in (entry_at path tree))) len (length-truncated_to len (bytes_in (entry_at path tree))) file.0 file.1 is
IsWithin-effect limits tree (Rename source target) h is =
    elim (same_path source target) as (λ v. IsWithin limits (cond v tree (after_rename source target tree))) [
      | true ↦ is
      | false ↦ IsWithin-fewer limits tree (after_rename source target tree) (sizes-after_rename source target tree) is
    ]
IsWithin-effect limits tree (Remove path) h is = IsWithin-fewer limits tree (without path tree) (sizes-without path tree) is
IsWithin-effect limits tree (RemoveDir path) h is = IsWithin-fewer limits tree (without path tree) (sizes-without path tree) is
IsWithin-effect limits tree (Read path offset len) h is = is
IsWithin-effect limits tree (Listing path) h is = is
IsWithin-effect limits tree (Stat path) h is = is

after_answer : (P : List TreeEntry → Type 0) (tree : List TreeEntry) (op : Op) (done : Bool) → P tree → P (effect_of tree op) → P (cond done (effect_of tree op) tree)
after_answer P tree op true before after = after
after_answer P tree op false before after = before

after_refusal : (P : List TreeEntry → Type 0) (tree : List TreeEntry) (op : Op) (refusal : Option Refusal) → P tree → (refusal ≡ None → P (effect_of tree op)) → P (tree_after_reply tree op (reply_unless refusal (answer_of tree op)))
after_refusal P tree op None before after = after_answer P tree op (is_done (answer_of tree op)) before (after refl)
after_refusal P tree op (Some reason) before after = before

-- an operation leaves a tree
pub IsTree-tree_after : (limits : Limits) (tree : List TreeEntry) (op : Op) → HasPaths op → IsTree tree → IsTree (tree_after limits tree op)
IsTree-tree_after limits tree op valid is =
    after_refusal IsTree tree op (refusal_of limits tree op) is (λ h. IsTree-effect limits tree op h valid is)

-- an operation keeps to the limits
pub IsWithin-tree_after : (limits : Limits) (tree : List TreeEntry) (op : Op) → IsWithin limits tree → IsWithin limits (tree_after limits tree op)
IsWithin-tree_after limits tree op is =
    after_refusal (IsWithin limits) tree op (refusal_of limits tree op) is (λ h. IsWithin-effect limits tree op h is)

pub ruleset keeps = (IsTree-tree_after, IsWithin-tree_after)
