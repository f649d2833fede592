-- A file that got another length and a run of pages.
use Rattle.std.proofs.Common.{◌≡◌, ◌⊎◌, ℕ, ◌<◌, ◌≤◌, ◌+◌, ◌-◌, Bool, true, false, cond, List, [], ◌++◌, length, take, replicate, set, Option, Some, None, IsSome, is_some, Result, Ok, Err, refl, sym, ap, subst, ◌∙◌, inl, inr, arith, length-take, length-append, append-nil}
use Rattle.std.specs.Prelude.{IsOk, OnOk, ◌==◌, ◌&&◌, nat_le, if◌then◌else◌, unwrap_or, slice_get}
use Rattle.std.specs.Option.{option_and_then, option_or}
use Rattle.std.proofs.lemmas.Bool.{false≢true}
use Rattle.std.proofs.lemmas.Bool.Decides.{Decides-eqb, nat_tests}
use Rattle.std.proofs.lemmas.List.{get_or-take, get_or_append_left, length-replicate, take_all, take-append-le, set-get_or, set-set}
use Rattle.std.proofs.lemmas.Option.{slice_get_past, slice_get-get_or}
use Rattle.vb_block.specs.declared.digest.Ref.{Ref}
use Rattle.vb_tree.specs.Trees.{data_pages_of}
use Rattle.vb_index.specs.declared.held.Held.{Held}
use Rattle.vb_index.specs.Changes.{blank_ref, refs_for, resized}
use Rattle.vb_index.specs.Indexes.{IndexState}
use Rattle.vb_index.specs.Nodes.{held_at, is_file_node, refs_of}
use Rattle.vb_index.proofs.Tables.{at_same, held_in_table}
use Rattle.vb_pages.specs.declared.kept.KeptPage.{KeptPage}
use Rattle.vb_pages.specs.declared.kept.PageKey.{PageKey}
use Rattle.vb_pages.specs.Tables.{kept_page, key_of, run_at, Cuts, PutsRun}
use Rattle.vb_active.specs.Files.{IsFileOf}
use Rattle.vb_active.specs.Replacing.{Replaces}
use Rattle.vb_active.specs.Views.{ActiveState, KeepsFiles, ref_at}
use Rattle.vb_active.proofs.Carries.{file-refs_at}
use Rattle.vb_active.proofs.Dues.{ref_at-below, ref_at-some}
use Rattle.vb_active.proofs.OneSlot.{ref_at-other}

-- ---- runs

pub run-other : {X : Type 0} (slot first s k : ℕ) (run : List X) → (s == slot) ≡ false → run_at slot first run (key_of s k) ≡ None
run-other {X} slot first s k run h = ap (λ b. if b && nat_le first k then slice_get run (k - first) else None) h

pub run-outside : {X : Type 0} (slot first s k : ℕ) (run : List X) → (k < first) ⊎ (first + length run ≤ k) → run_at slot first run (key_of s k) ≡ None
run-outside {X} slot first s k run out = by (s == slot && nat_le first k) refl where
  by : (b : Bool) → (s == slot && nat_le first k) ≡ b → (if b then slice_get run (k - first) else None) ≡ None
  by false e = refl
  by true e = slice_get_past run (k - first) (elim out [ inl before ↦ absurd (let low = in_test e in omega (arith, low, before)) | inr past ↦ omega (arith, past) ]) where
    in_test : (s == slot && nat_le first k) ≡ true → first ≤ k
    in_test h = grind (arith, nat_tests)

pub run-here : {X : Type 0} (slot first k : ℕ) (run : List X) → first ≤ k → run_at slot first run (key_of slot k) ≡ slice_get run (k - first)
run-here {X} slot first k run low = ap (λ b. if b then slice_get run (k - first) else None) (test slot first k low) where
  test : (slot first k : ℕ) → first ≤ k → (slot == slot && nat_le first k) ≡ true
  test slot first k low = grind (arith, nat_tests)

-- ---- references at another length

pub length-refs_for : (len : ℕ) (refs : List Ref) → length (refs_for len refs) ≡ data_pages_of len
length-refs_for len refs =
    let n = data_pages_of len in
    omega (arith, length-append (take n refs) (replicate (n - length refs) blank_ref), length-take n refs, length-replicate {A = Ref} (n - length refs) blank_ref)

pub refs_for-kept : (len k : ℕ) (refs : List Ref) → k < data_pages_of len → k < length refs → slice_get (refs_for len refs) k ≡ slice_get refs k
refs_for-kept len k refs low there =
    let n = data_pages_of len in
    slice_get-get_or (refs_for len refs) k blank_ref (omega (arith, low, length-refs_for len refs))
    ∙ ap (λ r. Some r) (get_or_append_left (take n refs) (replicate (n - length refs) blank_ref) blank_ref k (omega (arith, low, there, length-take n refs)) ∙ get_or-take n refs k blank_ref low)
    ∙ sym (slice_get-get_or refs k blank_ref there)

-- the references of the file afterwards
pub resized-ref : (nodes : List (Option Held)) (slot len s k : ℕ) (held : Held) → held_at nodes slot ≡ Some held → is_file_node held.node.kind ≡ true → s ≡ slot → ref_at (set nodes slot (Some (resized len held))) s k ≡ slice_get (refs_for len held.refs) k
resized-ref nodes slot len s k held there file same =
    ap (λ o. slice_get (unwrap_or (option_and_then refs_of o) []) k) (at_same nodes slot s (Some (resized len held)) (held_in_table nodes slot held there) same)
    ∙ ap (λ b. slice_get (unwrap_or (cond b (Some (refs_for len held.refs)) None) []) k) file

no_some : {X : Type 0} (o : Option X) → o ≡ None → IsSome o → ⊥
no_some {X} o e some = let no : is_some {T = X} None ≡ true = sym (ap is_some e) ∙ some in false≢true no

none_unless : {X : Type 0} (o : Option X) → (IsSome o → ⊥) → o ≡ None
none_unless None unless = refl
none_unless (Some x) unless = absurd (unless refl)

past-end : (n k : ℕ) → nat_le n k ≡ true → n ≤ k
past-end n k h = grind (arith, nat_tests)

before-end : (n k : ℕ) → nat_le n k ≡ false → k < n
before-end n k h = grind (arith, nat_tests)

-- the pages of a view after a change of a file
abbrev pub IsReplaced : List (PageKey × KeptPage) → List (PageKey × KeptPage) → ℕ → ℕ → ℕ → List (List ℕ) → Type 0
IsReplaced old new slot len first run = (s k : ℕ) → kept_page new s k ≡ (if s == slot && nat_le (data_pages_of len) k then None else option_or (run_at slot first run (key_of s k)) (kept_page old s k))

-- no page is kept past the end of a file
pub replaced-files : (nodes : List (Option Held)) (old new : List (PageKey × KeptPage)) (slot len first : ℕ) (run : List (List ℕ)) (held : Held) → held_at nodes slot ≡ Some held → is_file_node held.node.kind ≡ true → KeepsFiles nodes old → IsReplaced old new slot len first run → KeepsFiles (set nodes slot (Some (resized len held))) new
replaced-files nodes old new slot len first run held there file files pages s k some = by (s == slot) (nat_le (data_pages_of len) k) refl refl where
  form : Bool → Bool → Option (List ℕ)
  form a b = if a && b then None else option_or (run_at slot first run (key_of s k)) (kept_page old s k)

  by : (a b : Bool) → (s == slot) ≡ a → nat_le (data_pages_of len) k ≡ b → IsSome (ref_at (set nodes slot (Some (resized len held))) s k)
  by true true ea eb = absurd (no_some (kept_page new s k) (pages s k ∙ ap (λ a. form a (nat_le (data_pages_of len) k)) ea ∙ ap (form true) eb) some)
  by true false ea eb = ap is_some (resized-ref nodes slot len s k held there file ((Decides-eqb s slot).0 ea)) ∙ ref_at-some (refs_for len held.refs) k (let low = before-end (data_pages_of len) k eb in omega (arith, low, length-refs_for len held.refs))
  by false b ea eb =
      let kept : kept_page new s k ≡ kept_page old s k = pages s k ∙ ap (λ a. form a (nat_le (data_pages_of len) k)) ea ∙ ap (λ o. option_or o (kept_page old s k)) (run-other slot first s k run ea) in
      ap is_some (ref_at-other nodes slot s k (Some (resized len held)) ea) ∙ files s k (ap is_some (sym kept) ∙ some)

-- a run at the end of a file that grows
pub grown-pages : (nodes : List (Option Held)) (old new : List (PageKey × KeptPage)) (slot len first : ℕ) (run : List (List ℕ)) (held : Held) → held_at nodes slot ≡ Some held → is_file_node held.node.kind ≡ true → length held.refs ≤ data_pages_of len → first + length run ≡ data_pages_of len → KeepsFiles nodes old → PutsRun old new slot first run → IsReplaced old new slot len first run
grown-pages nodes old new slot len first run held there file more ends files puts s k = by (s == slot) (nat_le (data_pages_of len) k) refl refl where
  kept : Option (List ℕ)
  kept = option_or (run_at slot first run (key_of s k)) (kept_page old s k)

  form : Bool → Bool → Option (List ℕ)
  form a b = if a && b then None else kept

  past : s ≡ slot → data_pages_of len ≤ k → kept_page old s k ≡ None
  past same far = none_unless (kept_page old s k) (λ some.
      let below = ref_at-below held.refs k (ap is_some (sym (ap (λ n. ref_at nodes n k) same ∙ ap (λ refs. slice_get refs k) (file-refs_at nodes slot held there file))) ∙ files s k some) in
      absurd (omega (arith, below, far, more)))

  by : (a b : Bool) → (s == slot) ≡ a → nat_le (data_pages_of len) k ≡ b → kept_page new s k ≡ form (s == slot) (nat_le (data_pages_of len) k)
  by true true ea eb =
      let far = past-end (data_pages_of len) k eb in
      puts s k ∙ ap (λ o. option_or o (kept_page old s k)) (run-outside slot first s k run (inr (omega (arith, far, ends))))
      ∙ past ((Decides-eqb s slot).0 ea) far
      ∙ sym (ap (λ a. form a (nat_le (data_pages_of len) k)) ea ∙ ap (form true) eb)
  by true false ea eb = puts s k ∙ sym (ap (λ a. form a (nat_le (data_pages_of len) k)) ea ∙ ap (form true) eb)
  by false b ea eb = puts s k ∙ sym (ap (λ a. form a (nat_le (data_pages_of len) k)) ea)

-- a run, and a cut past the end
pub shrunk-pages : (old middle new : List (PageKey × KeptPage)) (slot len first last : ℕ) (run : List (List ℕ)) → last ≡ data_pages_of len → PutsRun old middle slot first run → Cuts middle new slot last → IsReplaced old new slot len first run
shrunk-pages old middle new slot len first last run is puts cuts s k =
    cuts s k ∙ ap (λ n. if s == slot && nat_le n k then None else kept_page middle s k) is
    ∙ ap (λ o. if s == slot && nat_le (data_pages_of len) k then None else o) (puts s k)

-- ---- a file that gets its old length back

same_held : (held : Held) (long len : ℕ) → held.node.length ≡ long → length held.refs ≡ data_pages_of long → data_pages_of long ≤ data_pages_of len → resized long (resized len held) ≡ held
same_held held long len is each more = ap (λ n. record { node = record held.node { length = n }; refs = refs_for long (refs_for len held.refs) }) (sym is) ∙ ap (λ refs. record { node = held.node; refs = refs }) back where
  n : ℕ
  n = data_pages_of len

  grown : List Ref
  grown = refs_for len held.refs

  none : data_pages_of long - length grown ≡ 0
  none = omega (arith, more, length-refs_for len held.refs)

  front : take (data_pages_of long) grown ≡ held.refs
  front =
      take-append-le (data_pages_of long) (take n held.refs) (replicate (n - length held.refs) blank_ref) (omega (arith, each, more, length-take n held.refs))
      ∙ ap (take (data_pages_of long)) (take_all n held.refs (omega (arith, each, more)))
      ∙ take_all (data_pages_of long) held.refs (omega (arith, each))

  back : refs_for long grown ≡ held.refs
  back = ap (λ m. take (data_pages_of long) grown ++ replicate m blank_ref) none ∙ append-nil (take (data_pages_of long) grown) ∙ front

pub undone : (nodes : List (Option Held)) (slot len long : ℕ) (held : Held) → held_at nodes slot ≡ Some held → held.node.length ≡ long → length held.refs ≡ data_pages_of long → data_pages_of long ≤ data_pages_of len
    → set (set nodes slot (Some (resized len held))) slot (Some (resized long (resized len held))) ≡ nodes
undone nodes slot len long held there is each more =
    set-set nodes slot (Some (resized len held)) (Some (resized long (resized len held)))
    ∙ ap (λ h. set nodes slot (Some h)) (same_held held long len is each more)
    ∙ ap (set nodes slot) (sym there)
    ∙ set-get_or nodes slot None

-- the view before and after, by their parts
pub replaced-view : (view : ActiveState) (index new : IndexState) (pages new_pages : List (PageKey × KeptPage)) (slot len first : ℕ) (run : List (List ℕ)) (held : Held) → record { index = index; pages = pages } ≡ view → held_at index.nodes slot ≡ Some held → new ≡ record index { nodes = set index.nodes slot (Some (resized len held)) } → IsReplaced pages new_pages slot len first run → Replaces view (record { index = new; pages = new_pages }) slot len first run
replaced-view view index new pages new_pages slot len first run held is there made puts =
    let P : ActiveState → Type 0 = λ v. Replaces v (record { index = new; pages = new_pages }) slot len first run in
    subst P is (record {
      index = λ other holds.
          let both : Some held ≡ Some other = sym there ∙ holds in
          let same : held ≡ other = cc in
          made ∙ ap (λ h. record index { nodes = set index.nodes slot (Some (resized len h)) }) same;
      pages = puts;
    })

-- a file's length and pages at their slot
pub file-pages : (nodes : List (Option Held)) (path : List (List ℕ)) (slot long : ℕ) (file : IsFileOf nodes path slot long) → length file.held.refs ≡ data_pages_of long
file-pages nodes path slot long file = (file.table.fits slot file.held file.there).each_page ∙ ap data_pages_of file.long

-- an answer that is Ok has what Ok has
pub at_ok : {T E P : Type 0} (r : Result T E) → IsOk r → OnOk r P → P
at_ok (Ok x) ok p = p
at_ok (Err e) ok p = absurd (false≢true ok)

-- what a file holds after a change of its length
pub resized-there : (index new : IndexState) (slot len : ℕ) (held : Held) → held_at index.nodes slot ≡ Some held → new ≡ record index { nodes = set index.nodes slot (Some (resized len held)) } → held_at new.nodes slot ≡ Some (resized len held)
resized-there index new slot len held there made = ap (λ (i : IndexState). held_at i.nodes slot) made ∙ at_same index.nodes slot slot (Some (resized len held)) (held_in_table index.nodes slot held there) refl

pub undone-index : (index new back : IndexState) (slot len long : ℕ) (held : Held) → held_at index.nodes slot ≡ Some held → held.node.length ≡ long → length held.refs ≡ data_pages_of long → data_pages_of long ≤ data_pages_of len
    → new ≡ record index { nodes = set index.nodes slot (Some (resized len held)) } → back ≡ record new { nodes = set new.nodes slot (Some (resized long (resized len held))) } → back ≡ index
undone-index index new back slot len long held there is each more made again =
    again
    ∙ ap (λ (i : IndexState). record { limits = i.limits; nodes = set i.nodes slot (Some (resized long (resized len held))) }) made
    ∙ ap (λ ns. record { limits = index.limits; nodes = ns }) (undone index.nodes slot len long held there is each more)
