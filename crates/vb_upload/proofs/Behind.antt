-- A cursor behind another: one message more was sent.
use Rattle.std.proofs.Common.{◌≡◌, ℕ, zero, suc, ◌+◌, ◌<◌, ◌≤◌, List, [], ◌∷◌, length, take, Some, refl, sym, ap, subst, ◌∙◌, arith, slice_get}
use Rattle.std.specs.Option.{option_map}
use Rattle.std.proofs.lemmas.Option.{get_or_from_slice_get, slice_get-map, slice_get_within}
use Rattle.std.proofs.lemmas.List.{length-map, take_all}
use Rattle.vb_tree.specs.declared.tree.Kind.{Kind}
use Rattle.vb_tree.specs.declared.tree.Kind.TheVariants.{Folder, File}
use Rattle.vb_tree.specs.Trees.{data_pages_of}
use Rattle.vb_frozen.specs.declared.entry.FrozenEntry.{FrozenEntry}
use Rattle.vb_upload.specs.declared.cursor.Cursor.TheVariants.{Begin, Entry, Page, Sealed}
use Rattle.vb_upload.specs.Cursors.{counts_of, AllCanBeSent, CanBeSent, IsBehind, IsFileWith, IsLast}
use Rattle.vb_publish.specs.Plans.{messages_for, total_of}

pub total-more : (counts : List ℕ) (i n : ℕ) → slice_get counts i ≡ Some n → total_of (take (i + 1) counts) ≡ total_of (take i counts) + n
total-more [] i n h = absurd (cc h)
total-more (c ∷ cs) zero n h = (let same : c ≡ n = cc h in omega arith)
total-more (c ∷ cs) (suc i) n h =
    let rest = total-more cs i n h in
    let shift : suc i + 1 ≡ suc (i + 1) = omega arith in
    ap (λ (k : ℕ). total_of (take k (c ∷ cs))) shift ∙ omega (arith, rest)

pub total-within : (counts : List ℕ) (i n : ℕ) → slice_get counts i ≡ Some n → total_of (take i counts) + n ≤ total_of counts
total-within [] i n h = absurd (cc h)
total-within (c ∷ cs) zero n h = (let same : c ≡ n = cc h in omega arith)
total-within (c ∷ cs) (suc i) n h = (let rest = total-within cs i n h in omega arith)

pub count-at : (order : List FrozenEntry) (i : ℕ) (e : FrozenEntry) → slice_get order i ≡ Some e → slice_get (counts_of order) i ≡ Some (messages_for e.kind e.len)
count-at order i e h = slice_get-map (λ (x : FrozenEntry). messages_for x.kind x.len) order i ∙ ap (option_map (λ (x : FrozenEntry). messages_for x.kind x.len)) h

pub count-by : (order : List FrozenEntry) (i : ℕ) (e : FrozenEntry) (kind : Kind) → slice_get order i ≡ Some e → e.kind ≡ kind → slice_get (counts_of order) i ≡ Some (messages_for kind e.len)
count-by order i e kind h is = count-at order i e h ∙ ap (λ (k : Kind). Some (messages_for k e.len)) is

pub some-entry : (order : List FrozenEntry) (i : ℕ) → i < length order → (e : FrozenEntry) × (slice_get order i ≡ Some e)
some-entry [] i less = absurd (omega arith)
some-entry (e ∷ es) zero less = (e, refl)
some-entry (e ∷ es) (suc i) less = some-entry es i (omega arith)

-- an entry of an order that can be sent can be sent
pub sendable-at : (order : List FrozenEntry) (i : ℕ) (e : FrozenEntry) → AllCanBeSent order → slice_get order i ≡ Some e → CanBeSent e
sendable-at order i e all h = subst CanBeSent (get_or_from_slice_get order i e e h) (all i e (slice_get_within order i e h))

pub behind-begin : (order : List FrozenEntry) → IsBehind order Begin (Entry 0)
behind-begin order = record { stands = omega arith; one_more = refl; not_last = omega arith }

pub behind-folder : (order : List FrozenEntry) (i : ℕ) (e : FrozenEntry) → slice_get order i ≡ Some e → e.kind ≡ Folder → IsBehind order (Entry i) (Entry (i + 1))
behind-folder order i e h is =
    let count = count-by order i e Folder h is in
    let less = slice_get_within order i e h in
    let more = total-more (counts_of order) i 1 count in
    let within = total-within (counts_of order) i 1 count in
    record { stands = omega arith; one_more = omega arith; not_last = omega arith }

pub behind-file : (order : List FrozenEntry) (i : ℕ) (e : FrozenEntry) → slice_get order i ≡ Some e → e.kind ≡ File → IsBehind order (Entry i) (Page i 0)
behind-file order i e h is =
    let count = count-by order i e File h is in
    let within = total-within (counts_of order) i (messages_for File e.len) count in
    record {
      stands = record {
        there = slice_get_within order i e h;
        file = λ f here. (let same : e ≡ f = cc (sym h ∙ here) in ap (λ (x : FrozenEntry). x.kind) (sym same) ∙ is);
        enough = λ f here. omega arith;
      };
      one_more = omega arith;
      not_last = omega arith;
    }

pub behind-page : (order : List FrozenEntry) (i page : ℕ) (e : FrozenEntry) → IsFileWith order i page → slice_get order i ≡ Some e → page < data_pages_of e.len → IsBehind order (Page i page) (Page i (page + 1))
behind-page order i page e stands h less =
    let count = count-by order i e File h (stands.file e h) in
    let within = total-within (counts_of order) i (messages_for File e.len) count in
    record {
      stands = record {
        there = stands.there;
        file = stands.file;
        enough = λ f here. (let same : e ≡ f = cc (sym h ∙ here) in subst (λ (x : FrozenEntry). page + 1 ≤ data_pages_of x.len) same (omega arith));
      };
      one_more = omega arith;
      not_last = omega arith;
    }

pub behind-seal : (order : List FrozenEntry) (i page : ℕ) (e : FrozenEntry) → IsFileWith order i page → slice_get order i ≡ Some e → data_pages_of e.len ≤ page → IsBehind order (Page i page) (Sealed i)
behind-seal order i page e stands h past =
    let count = count-by order i e File h (stands.file e h) in
    let enough = stands.enough e h in
    let more = total-more (counts_of order) i (messages_for File e.len) count in
    let within = total-within (counts_of order) i (messages_for File e.len) count in
    record {
      stands = record { there = stands.there; file = stands.file; enough = λ f here. omega arith };
      one_more = omega arith;
      not_last = omega arith;
    }

pub behind-sealed : (order : List FrozenEntry) (i : ℕ) → IsFileWith order i 0 → IsBehind order (Sealed i) (Entry (i + 1))
behind-sealed order i stands =
    let e = some-entry order i stands.there in
    let there = stands.there in
    let count = count-by order i e.0 File e.1 (stands.file e.0 e.1) in
    let more = total-more (counts_of order) i (messages_for File e.0.len) count in
    let within = total-within (counts_of order) i (messages_for File e.0.len) count in
    record { stands = omega arith; one_more = omega arith; not_last = omega arith }

pub last-entry : (order : List FrozenEntry) (i : ℕ) → length order ≤ i → i ≤ length order → IsLast order (Entry i)
last-entry order i past within =
    let all : take i (counts_of order) ≡ counts_of order = take_all i (counts_of order) (let count = length-map order (λ (x : FrozenEntry). messages_for x.kind x.len) in omega arith) in
    let total = ap total_of all in
    omega arith

pub ruleset behind = (behind-begin, behind-folder, behind-file, behind-page, behind-seal, behind-sealed, last-entry)
