-- The entries of a draft, each under the parts of its path, are those of a tree.
use Rattle.std.proofs.Common.{◌≡◌, ℕ, Bool, true, false, cond, List, [], ◌∷◌, Option, Some, None, is_some, Result, Ok, Err, not, ◌==◌, length, refl, sym, ap, ◌∙◌, subst}
use Rattle.std.specs.Global.{Vec}
use Rattle.std.specs.Option.{option_map}
use Rattle.std.specs.Map.{lookup}
use Rattle.std.specs.Ordering.{is_lt, is_eq, match_ordering}
use Rattle.std.specs.declared.cmp.Ordering.{Ordering}
use Rattle.std.specs.declared.cmp.Ordering.TheVariants.{Less, Equal, Greater}
use Rattle.std.specs.BTreeMap as btree
use Rattle.std.proofs.lemmas.List.{length-map}
use Rattle.vb_path.specs.Paths.{same_path, path_cmp}
use Rattle.vb_path.proofs.PathLaws.{same_path-ties, same_path-Decides}
use Rattle.vb_tree.specs.declared.tree.TreeEntry.{TreeEntry}
use Rattle.vb_tree.specs.Trees.{entry_at, kind_at, is_folder, parent_of, insert_entry}
use Rattle.vb_cloud.specs.declared.refusal.CloudRefusal.{CloudRefusal}
use Rattle.vb_cloud.specs.declared.refusal.CloudRefusal.TheVariants.{BadParent, Twice, TooMany}
use Rattle.vb_cloud.specs.Machine.{DraftState, Absent, refuse_if, refuse_place, add_entry}
use Rattle.vb_cloud.specs.declared.entry.CloudEntry.{CloudEntry}
use Rattle.vb_cloud.specs.Stored.{entry_of, draft_tree, AreUnderTheirPaths}

-- the key and the entry of one place of a draft
abbrev pub Drafted : Type 0
Drafted = Vec (List ℕ) × CloudEntry

-- one entry as a tree has it
abbrev pub drafted : Drafted → TreeEntry
drafted e = entry_of e.0.items e.1.stored

-- how a path compares with a key
abbrev pub to_key : List (List ℕ) → Vec (List ℕ) → Ordering
to_key path key = path_cmp path key.items

-- how two keys compare
abbrev pub key_cmp : Vec (List ℕ) → Vec (List ℕ) → Ordering
key_cmp a b = path_cmp a.items b.items

some_is_none : (x : CloudEntry) → Some x ≡ None → ⊥
some_is_none x h = cc

-- what is found under a path's parts is the entry at the path
pub looked_up : (path : List (List ℕ)) (es : List Drafted) → entry_at path (draft_tree es) ≡ option_map (λ (e : CloudEntry). entry_of path e.stored) (lookup (btree.is_at (to_key path)) es)
looked_up path [] = refl
looked_up path (e ∷ es) = by_test (looked_up path es) (is_eq (path_cmp path e.0.items)) refl where
  Found : Bool → Bool → Type 0
  Found u v = cond u (Some (drafted e)) (entry_at path (draft_tree es)) ≡ option_map (λ (x : CloudEntry). entry_of path x.stored) (cond v (Some e.1) (lookup (btree.is_at (to_key path)) es))

  by_test : Found false false → (t : Bool) → is_eq (path_cmp path e.0.items) ≡ t → Found (same_path path e.0.items) (is_eq (path_cmp path e.0.items))
  by_test rest true h =
      let same : same_path path e.0.items ≡ true = same_path-ties path e.0.items ∙ h in
      let is : path ≡ e.0.items = (same_path-Decides path e.0.items).0 same in
      subst (λ u. Found u (is_eq (path_cmp path e.0.items))) (sym same)
      (subst (λ v. Found true v) (sym h) (ap (λ p. Some (entry_of p e.1.stored)) (sym is)))
  by_test rest false h =
      subst (λ u. Found u (is_eq (path_cmp path e.0.items))) (sym (same_path-ties path e.0.items ∙ h))
      (subst (λ v. Found false v) (sym h) rest)

-- nothing stands at a path exactly where nothing is found under its parts
pub nothing_at : (path : List (List ℕ)) (es : List Drafted) → is_some (entry_at path (draft_tree es)) ≡ is_some (lookup (btree.is_at (to_key path)) es)
nothing_at path es = ap is_some (looked_up path es) ∙ by_case (lookup (btree.is_at (to_key path)) es) where
  by_case : (o : Option CloudEntry) → is_some (option_map (λ (e : CloudEntry). entry_of path e.stored) o) ≡ is_some o
  by_case None = refl
  by_case (Some e) = refl

-- a new entry of a draft is a new entry of its tree, where nothing stood at its path
pub inserted : (key : Vec (List ℕ)) (new : CloudEntry) (es : List Drafted) → lookup (btree.is_at (key_cmp key)) es ≡ None → draft_tree (btree.insert_entry key_cmp es key new) ≡ insert_entry (entry_of key.items new.stored) (draft_tree es)
inserted key new [] none = refl
inserted key new (e ∷ es) none = by_order (λ h. inserted key new es h) (path_cmp key.items e.0.items) refl where
  Inserted : Ordering → Type 0
  Inserted o = draft_tree (match_ordering o ((key, new) ∷ e ∷ es) ((e.0, new) ∷ es) (e ∷ btree.insert_entry key_cmp es key new)) ≡ cond (is_lt o) (entry_of key.items new.stored ∷ drafted e ∷ draft_tree es) (drafted e ∷ insert_entry (entry_of key.items new.stored) (draft_tree es))

  Nothing : Ordering → Type 0
  Nothing o = cond (is_eq o) (Some e.1) (lookup (btree.is_at (key_cmp key)) es) ≡ None

  by_order : (Nothing Greater → draft_tree (btree.insert_entry key_cmp es key new) ≡ insert_entry (entry_of key.items new.stored) (draft_tree es)) → (o : Ordering) → path_cmp key.items e.0.items ≡ o → Inserted (path_cmp key.items e.0.items)
  by_order rest Less h = subst Inserted (sym h) refl
  by_order rest Equal h = absurd (some_is_none e.1 (subst Nothing h none))
  by_order rest Greater h = subst Inserted (sym h) (ap (λ t. drafted e ∷ t) (rest (subst Nothing h none)))

-- and it stands under its path's parts
pub placed : (key : Vec (List ℕ)) (new : CloudEntry) (es : List Drafted) → new.path ≡ key.items → lookup (btree.is_at (key_cmp key)) es ≡ None → AreUnderTheirPaths es → AreUnderTheirPaths (btree.insert_entry key_cmp es key new)
placed key new [] under none all = (under, tt)
placed key new (e ∷ es) under none all = by_order (λ h. placed key new es under h all.1) (path_cmp key.items e.0.items) refl where
  Placed : Ordering → Type 0
  Placed o = AreUnderTheirPaths (match_ordering o ((key, new) ∷ e ∷ es) ((e.0, new) ∷ es) (e ∷ btree.insert_entry key_cmp es key new))

  Nothing : Ordering → Type 0
  Nothing o = cond (is_eq o) (Some e.1) (lookup (btree.is_at (key_cmp key)) es) ≡ None

  by_order : (Nothing Greater → AreUnderTheirPaths (btree.insert_entry key_cmp es key new)) → (o : Ordering) → path_cmp key.items e.0.items ≡ o → Placed (path_cmp key.items e.0.items)
  by_order rest Less h = subst Placed (sym h) (under, all)
  by_order rest Equal h = absurd (some_is_none e.1 (subst Nothing h none))
  by_order rest Greater h = subst Placed (sym h) (all.0, rest (subst Nothing h none))

-- nothing is found under a path's parts where nothing stands at it
pub nothing_under : (path : List (List ℕ)) (es : List Drafted) → entry_at path (draft_tree es) ≡ None → lookup (btree.is_at (to_key path)) es ≡ None
nothing_under path es h = by_case (lookup (btree.is_at (to_key path)) es) (sym (looked_up path es) ∙ h) where
  by_case : (o : Option CloudEntry) → option_map (λ (e : CloudEntry). entry_of path e.stored) o ≡ None → o ≡ None
  by_case None e = refl
  by_case (Some x) e = absurd cc

-- nothing stands at a path under which no key is
pub none_there : (path : List (List ℕ)) (es : List Drafted) → is_some (lookup (btree.is_at (to_key path)) es) ≡ false → entry_at path (draft_tree es) ≡ None
none_there path es h = is_none_of (entry_at path (draft_tree es)) (nothing_at path es ∙ h) where
  is_none_of : (o : Option TreeEntry) → is_some o ≡ false → o ≡ None
  is_none_of None e = refl
  is_none_of (Some x) e = absurd cc

pub length-draft_tree : (es : List Drafted) → length (draft_tree es) ≡ length es
length-draft_tree es = length-map es drafted

-- ---- whether a new entry may stand at a path

pub too_many : (path : List (List ℕ)) (tree : List TreeEntry) (next : Result DraftState CloudRefusal) → is_folder (kind_at (parent_of path) tree) ≡ true → is_some (entry_at path tree) ≡ false → (length tree == 65535) ≡ true → refuse_place path tree next ≡ Err TooMany
too_many path tree next parent new many =
    ap (λ v. refuse_if (not v) BadParent (refuse_if (is_some (entry_at path tree)) Twice (refuse_if (length tree == 65535) TooMany next))) parent
    ∙ ap (λ v. refuse_if v Twice (refuse_if (length tree == 65535) TooMany next)) new
    ∙ ap (λ v. refuse_if v TooMany next) many

pub may_stand : (path : List (List ℕ)) (tree : List TreeEntry) (next : Result DraftState CloudRefusal) → is_folder (kind_at (parent_of path) tree) ≡ true → is_some (entry_at path tree) ≡ false → (length tree == 65535) ≡ false → refuse_place path tree next ≡ next
may_stand path tree next parent new few =
    ap (λ v. refuse_if (not v) BadParent (refuse_if (is_some (entry_at path tree)) Twice (refuse_if (length tree == 65535) TooMany next))) parent
    ∙ ap (λ v. refuse_if v Twice (refuse_if (length tree == 65535) TooMany next)) new
    ∙ ap (λ v. refuse_if v TooMany next) few

-- the entry that entered
pub entered : (d : DraftState) (epoch : ℕ) (key : Vec (List ℕ)) (new : CloudEntry) (es : List Drafted) → d.epoch ≡ epoch → d.tree ≡ draft_tree es → lookup (btree.is_at (key_cmp key)) es ≡ None → ((next : Result DraftState CloudRefusal) → refuse_place key.items d.tree next ≡ next) → add_entry (entry_of key.items new.stored) d ≡ Ok (record { epoch = epoch; tree = draft_tree (btree.insert_entry key_cmp es key new); object = Absent })
entered d epoch key new es at is none may =
    may (Ok (record d { tree = insert_entry (entry_of key.items new.stored) d.tree; object = Absent }))
    ∙ ap (λ t. Ok (record { epoch = d.epoch; tree = insert_entry (entry_of key.items new.stored) t; object = Absent })) is
    ∙ ap (λ t. Ok (record { epoch = d.epoch; tree = t; object = Absent })) (sym (inserted key new es none))
    ∙ ap (λ n. Ok (record { epoch = n; tree = draft_tree (btree.insert_entry key_cmp es key new); object = Absent })) at

pub ruleset looking = (looked_up, nothing_at)

pub ruleset placing = (none_there, nothing_at)
