-- One entry more of the view that is shown, and the whole view at the end.
use Rattle.std.proofs.Common.{◌≡◌, ℕ, zero, suc, ◌+◌, ◌<◌, ◌≤◌, List, [], ◌∷◌, ◌++◌, length, take, get_or, slice_get, map, replicate, Option, Some, None, refl, sym, ap, ◌∙◌, subst, arith, rules}
use Rattle.std.specs.Prelude.{Err, IsErrOf}
use Rattle.std.specs.Option.{option_map, option_and_then}
use Rattle.std.proofs.lemmas.List.{take_more, take_all, length-take-le, length-replicate}
use Rattle.std.proofs.lemmas.Option.{slice_get-get_or}
use Rattle.vb_tree.specs.declared.tree.TreeEntry.{TreeEntry}
use Rattle.vb_tree.specs.Trees.{AllBelongIn, data_pages_of}
use Rattle.vb_cloud.specs.declared.refusal.CloudRefusal.{CloudRefusal}
use Rattle.vb_link.specs.declared.view.ViewEntry.{ViewEntry}
use Rattle.vb_link.specs.declared.view.ViewInfo.{ViewInfo}
use Rattle.vb_link.specs.declared.link_error.LinkError.{LinkError}
use Rattle.vb_link.specs.declared.link_error.LinkError.TheVariants.{Failed, Refused}
use Rattle.vb_link.specs.Views.{LinkView, info_of, entry_in, outline, AllHaveDigests, IsLinkView}
use Rattle.vb_link.specs.Links.{ShowsOn, TellsShown}
use Rattle.vb_sync.proofs.Finding.{no_some, of_some}

-- ---- an entry has few digests

digests_at : (es : List ViewEntry) (i : ℕ) (e : ViewEntry) → AllHaveDigests es → slice_get es i ≡ Some e → length e.digests ≡ data_pages_of e.length
digests_at [] i e all at = absurd (no_some e at)
digests_at (x ∷ es) zero e all at = subst (λ (y : ViewEntry). length y.digests ≡ data_pages_of y.length) (of_some x e at) all.0
digests_at (x ∷ es) (suc i) e all at = digests_at es i e all.1 at

length_at : (tree : List TreeEntry) (es : List ViewEntry) (i : ℕ) (e : ViewEntry) → AllBelongIn tree (map outline es) → slice_get es i ≡ Some e → e.length ≤ 44433408
length_at tree [] i e all at = absurd (no_some e at)
length_at tree (x ∷ es) zero e all at =
    let few = all.0.bytes_few in
    let count : length (replicate {A = ℕ} x.length 0) ≡ x.length = length-replicate {A = ℕ} x.length 0 in
    subst (λ (y : ViewEntry). y.length ≤ 44433408) (of_some x e at) (omega (arith, few, count))
length_at tree (x ∷ es) (suc i) e all at = length_at tree es i e all.1 at

few_digests : (v : LinkView) (i : ℕ) (e : ViewEntry) → IsLinkView v → slice_get v.entries i ≡ Some e → length e.digests < 4294967296
few_digests v i e is at =
    let count = digests_at v.entries i e is.digests at in
    let short = length_at (map outline v.entries) v.entries i e is.listed.all_belong at in
    omega (arith, count, short)

-- ---- one entry more

-- what an entry that was told says: of the view that is shown, the entries up to this one are listed
pub record IsNext (after : Option LinkView) (info : ViewInfo) (i : ℕ) (listed : List ViewEntry) (entry : ViewEntry) : Type 0 where
  pub described : option_map info_of after ≡ Some info
  pub entries : (v : LinkView) → after ≡ Some v → listed ++ entry ∷ [] ≡ take (i + 1) v.entries
  pub few : length listed < 4294967296
  pub pages : length entry.digests < 4294967296

next_of_view : (v : LinkView) (after : Option LinkView) (info : ViewInfo) (i : ℕ) (listed : List ViewEntry) (entry : ViewEntry)
    → info_of v ≡ info → listed ≡ take i v.entries → i < info.entries → after ≡ Some v → option_and_then (entry_in i) after ≡ Some entry → IsLinkView v
    → IsNext after info i listed entry
next_of_view v after info i listed entry is so_far within shown told valid =
    let count : length v.entries ≡ info.entries = ap (λ (n : ViewInfo). n.entries) is in
    let inside : i < length v.entries = omega (arith, count, within) in
    let at : slice_get v.entries i ≡ Some entry = sym (ap (option_and_then (entry_in i)) shown) ∙ told in
    let same : get_or v.entries i entry ≡ entry = of_some (get_or v.entries i entry) entry (sym (slice_get-get_or v.entries i entry inside) ∙ at) in
    let whole : listed ++ entry ∷ [] ≡ take (i + 1) v.entries =
    ap (λ (es : List ViewEntry). es ++ entry ∷ []) so_far ∙ ap (λ (e : ViewEntry). take i v.entries ++ e ∷ []) (sym same) ∙ sym (take_more v.entries i entry inside) in
    let size : length (take i v.entries) ≡ i = length-take-le i v.entries (omega (arith, inside)) in
    let listed_size : length listed ≡ length (take i v.entries) = ap length so_far in
    let few = valid.few in
    record {
      described = ap (option_map info_of) shown ∙ ap Some is;
      entries = λ other there. whole ∙ ap (λ (w : LinkView). take (i + 1) w.entries) (of_some v other (sym shown ∙ there));
      few = omega (arith, size, listed_size, inside, few);
      pages = few_digests v i entry valid at;
    }

pub next_told : (before after : Option LinkView) (info : ViewInfo) (i : ℕ) (listed : List ViewEntry) (entry : ViewEntry)
    → option_map info_of before ≡ Some info
    → ((v : LinkView) → before ≡ Some v → listed ≡ take i v.entries)
    → i < info.entries
    → ((v : LinkView) → before ≡ Some v → after ≡ Some v)
    → option_and_then (entry_in i) after ≡ Some entry
    → ((v : LinkView) → before ≡ Some v → IsLinkView v)
    → IsNext after info i listed entry
next_told None after info i listed entry described so_far within stays told valid = absurd (no_some info described)
next_told (Some v) after info i listed entry described so_far within stays told valid =
    next_of_view v after info i listed entry (of_some (info_of v) info described) (so_far v refl) within (stays v refl) told (valid v refl)

-- ---- no refusal

slice_within : {X : Type 0} (xs : List X) (i : ℕ) → i < length xs → slice_get xs i ≡ None → ⊥
slice_within [] i inside none = absurd (omega (arith, inside))
slice_within (x ∷ xs) zero inside none = no_some x (sym none)
slice_within (x ∷ xs) (suc i) inside none = slice_within xs i (omega (arith, inside)) none

refused_where : (v : LinkView) (after : Option LinkView) (i : ℕ) (refusal : CloudRefusal) → i < length v.entries → after ≡ Some v → TellsShown (entry_in i) after (Err (Refused refusal)) → ⊥
refused_where v after i refusal inside shown told =
    let found = subst (λ (o : Option LinkView). TellsShown (entry_in i) o (Err (Refused refusal))) shown told in
    slice_within v.entries i inside found.1

not_failed : (refusal : CloudRefusal) → IsErrOf {T = ViewEntry} (Err (Refused refusal)) Failed → ⊥
not_failed refusal is = search rules

pub never_refused : (before after : Option LinkView) (info : ViewInfo) (i : ℕ) (error : LinkError) → option_map info_of before ≡ Some info → i < info.entries
    → ShowsOn {T = ViewEntry} before after (Err error) → TellsShown (entry_in i) after (Err error) → (refusal : CloudRefusal) → error ≡ Refused refusal → ⊥
never_refused None after info i error described within stays told refusal is = no_some info described
never_refused (Some v) after info i error described within stays told refusal is =
    let count : length v.entries ≡ info.entries = ap (λ (n : ViewInfo). n.entries) (of_some (info_of v) info described) in
    let on = subst (λ (e : LinkError). ShowsOn {T = ViewEntry} (Some v) after (Err e)) is stays in
    let tells = subst (λ (e : LinkError). TellsShown {A = ViewEntry} (entry_in i) after (Err e)) is told in
    refused_where v after i refusal (omega (arith, count, within)) (on v refl (not_failed refusal)) tells

-- ---- the whole view

pub whole_view : (shown : Option LinkView) (info : ViewInfo) (n : ℕ) (listed : List ViewEntry) → option_map info_of shown ≡ Some info → n ≡ info.entries
    → ((v : LinkView) → shown ≡ Some v → listed ≡ take n v.entries) → shown ≡ Some (record { id = info.id; epoch = info.epoch; entries = listed })
whole_view None info n listed described all so_far = absurd (no_some info described)
whole_view (Some v) info n listed described all so_far =
    let is : info_of v ≡ info = of_some (info_of v) info described in
    let count : length v.entries ≡ n = ap (λ (i : ViewInfo). i.entries) is ∙ sym all in
    let entries : v.entries ≡ listed = sym (take_all n v.entries (omega (arith, count))) ∙ sym (so_far v refl) in
    λ j. Some (record { id = (is j).id; epoch = (is j).epoch; entries = entries j })

pub told_of : (shown : Option LinkView) (v : LinkView) (info : ViewInfo) → option_map info_of shown ≡ Some info → shown ≡ Some v → info_of v ≡ info
told_of shown v info described is = of_some (info_of v) info (sym (ap (option_map info_of) is) ∙ described)
