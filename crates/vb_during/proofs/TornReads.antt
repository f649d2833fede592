-- Files of which some pages read as misses: they are read as before, or nothing can be read at the place of such a page.
use Rattle.std.proofs.Common.{◌≡◌, ◌⊎◌, ℕ, ◌-◌, Bool, true, not, ◌||◌, List, [], ◌∷◌, ◌++◌, take, drop, Result, Ok, Err, refl, sym, ap, ◌∙◌, inl, inr}
use Rattle.std.proofs.lemmas.Bool.{false_from_ne_true}
use Rattle.std.proofs.lemmas.List.Elements.{All-head, All-tail}
use Rattle.std.proofs.lemmas.Slice.Eq.{bytes_eq-Decides}
use Rattle.std.specs.List.{All}
use Rattle.std.specs.Str.{bytes_eq}
use Rattle.sha2.specs.Sha256.{sha256}
use Rattle.vb_block.specs.declared.digest.Ref.{Ref}
use Rattle.vb_head.specs.Layout.{are_zeros}
use Rattle.vb_index.specs.Nodes.{kind_of}
use Rattle.vb_index.proofs.Ascending.{In}
use Rattle.vb_store.specs.Metadata.{and_then, refuse}
use Rattle.vb_store.specs.Recovered.{Placed, bytes_read, entries_read, is_page_of}
use Rattle.vb_store.proofs.Chains.{and_then-ok, refuse-ok}
use Rattle.vb_tree.specs.declared.tree.TreeEntry.{TreeEntry}

-- the page of a reference reads as before, or it is torn, and another page than the one that is named
abbrev pub ReadsOrTorn : (ℕ → List ℕ) → (ℕ → List ℕ) → (Ref → Type 0) → Ref → Type 0
ReadsOrTorn old new Torn r = (new r.place ≡ old r.place) ⊎ (Torn r × (sha256 (new r.place) ≡ r.digest → ⊥))

-- nothing can be read at the place of a torn page
pub record FindsTorn {T : Type 0} (Torn : Ref → Type 0) (answer : Result T ℕ) : Type 0 where
  pub reference : Ref
  pub torn : Torn reference
  pub is : answer ≡ Err reference.place

refused : (left : ℕ) (r : Ref) (page : List ℕ) → (sha256 page ≡ r.digest → ⊥) → not (is_page_of left r page) ≡ true
refused left r page other =
    ap (λ (b : Bool). not (not (not b || not (are_zeros (drop left page)))))
    (false_from_ne_true (bytes_eq r.digest (sha256 page)) (λ same. other (sym ((bytes_eq-Decides r.digest (sha256 page)).0 same))))

-- ---- a file

-- its first page, of which so many bytes are the file's, and what follows
page_then : ℕ → Ref → List ℕ → Result (List ℕ) ℕ → Result (List ℕ) ℕ
page_then left r page more = refuse (not (is_page_of left r page)) r.place (and_then more (λ m. Ok (take left page ++ m)))

found_then : {A B : Type 0} (Torn : Ref → Type 0) (r : Result A ℕ) (next : A → Result B ℕ) → FindsTorn Torn r → FindsTorn Torn (and_then r next)
found_then Torn r next finds = record { reference = finds.reference; torn = finds.torn; is = ap (λ x. and_then x next) finds.is }

pub bytes-torn : (old new : ℕ → List ℕ) (Torn : Ref → Type 0) (left : ℕ) (refs : List Ref) (bytes : List ℕ) → All (ReadsOrTorn old new Torn) refs → bytes_read old left refs ≡ Ok bytes → (bytes_read new left refs ≡ Ok bytes) ⊎ FindsTorn Torn (bytes_read new left refs)
unfolding page_then
bytes-torn old new Torn left [] bytes all is = inl is
bytes-torn old new Torn left (r ∷ rs) bytes all is =
    let first = refuse-ok (not (is_page_of left r (old r.place))) r.place (and_then (bytes_read old (left - 4096) rs) (λ more. Ok (take left (old r.place) ++ more))) bytes is in
    let rest = and_then-ok (bytes_read old (left - 4096) rs) (λ more. Ok (take left (old r.place) ++ more)) bytes first.then in
    let more : Result (List ℕ) ℕ = bytes_read new (left - 4096) rs in
    elim (All-head (ReadsOrTorn old new Torn) r rs all) [
      | inl same ↦ elim (bytes-torn old new Torn (left - 4096) rs rest.value (All-tail (ReadsOrTorn old new Torn) r rs all) rest.is) [
        | inl stands ↦ inl (ap (λ (page : List ℕ). page_then left r page more) same ∙ ap (page_then left r (old r.place)) (stands ∙ sym rest.is) ∙ is)
        | inr finds ↦ inr (record {
          reference = finds.reference;
          torn = finds.torn;
          is = ap (λ (page : List ℕ). page_then left r page more) same
              ∙ ap (λ (b : Bool). refuse b r.place (and_then more (λ m. Ok (take left (old r.place) ++ m)))) first.test_is
              ∙ ap (λ (x : Result (List ℕ) ℕ). and_then x (λ m. Ok (take left (old r.place) ++ m))) finds.is;
        })
      ]
      | inr torn ↦ inr (record {
        reference = r;
        torn = torn.0;
        is = ap (λ (b : Bool). refuse b r.place (and_then more (λ m. Ok (take left (new r.place) ++ m)))) (refused left r (new r.place) torn.1);
      })
    ]

-- ---- all files

pub entries-torn : (old new : ℕ → List ℕ) (Torn : Ref → Type 0) (ps : List Placed) (tree : List TreeEntry) → ((x : Placed) → In x ps → All (ReadsOrTorn old new Torn) x.held.refs) → entries_read old ps ≡ Ok tree → (entries_read new ps ≡ Ok tree) ⊎ FindsTorn Torn (entries_read new ps)
entries-torn old new Torn [] tree each is = inl is
entries-torn old new Torn (p ∷ ps) tree each is =
    let entry : List ℕ → TreeEntry = λ bytes. record { path = p.path; kind = kind_of p.held.node; bytes = bytes } in
    let then : (List (TreeEntry) → Result (List TreeEntry) ℕ) → Result (List TreeEntry) ℕ → Result (List TreeEntry) ℕ = λ next es. and_then es next in
    let after : (ℕ → List ℕ) → List ℕ → Result (List TreeEntry) ℕ = λ reads bytes. and_then (entries_read reads ps) (λ more. Ok (entry bytes ∷ more)) in
    let first = and_then-ok (bytes_read old p.held.node.length p.held.refs) (after old) tree is in
    let rest = and_then-ok (entries_read old ps) (λ more. Ok (entry first.value ∷ more)) tree first.then in
    elim (bytes-torn old new Torn p.held.node.length p.held.refs first.value (each p (inl refl)) first.is) [
      | inl stands ↦ elim (entries-torn old new Torn ps rest.value (λ x among. each x (inr among)) rest.is) [
        | inl all ↦ inl (ap (λ (b : Result (List ℕ) ℕ). and_then b (after new)) stands ∙ ap (then (λ more. Ok (entry first.value ∷ more))) all ∙ rest.then)
        | inr finds ↦ inr (record {
          reference = finds.reference;
          torn = finds.torn;
          is = ap (λ (b : Result (List ℕ) ℕ). and_then b (after new)) stands ∙ ap (then (λ more. Ok (entry first.value ∷ more))) finds.is;
        })
      ]
      | inr finds ↦ inr (record { reference = finds.reference; torn = finds.torn; is = ap (λ (b : Result (List ℕ) ℕ). and_then b (after new)) finds.is })
    ]
