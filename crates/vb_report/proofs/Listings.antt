-- A listing grows by one entry.
use Rattle.std.proofs.Common.{◌≡◌, ℕ, ◌+◌, ◌∷◌, [], ◌++◌, List, Some, length, map, take, get_or, sym, ap, ◌∙◌, append_assoc}
use Rattle.std.proofs.lemmas.List.{take_more, flat_map_more, map-append}
use Rattle.std.specs.List.{slice_get, flat_map}
use Rattle.std.proofs.lemmas.Option.{get_or_from_slice_get, slice_get_within}
use Rattle.vb_tree.specs.declared.tree.Kind.{Kind}
use Rattle.vb_tree.specs.declared.tree.TreeEntry.{TreeEntry}
use Rattle.vb_report.specs.Text.{epoch_line, listing_text, listed_of, listed_text}
use Rattle.vb_report.specs.Reports.{ReportView, with_text}

-- the first entries, and one more
take-get : {X : Type 0} (xs : List X) (i : ℕ) (x : X) → slice_get xs i ≡ Some x → take (i + 1) xs ≡ take i xs ++ x ∷ []
take-get xs i x h =
    take_more xs i x (slice_get_within xs i x h) ∙ ap (λ y. take i xs ++ y ∷ []) (get_or_from_slice_get xs i x x h)

-- the listing of the first entries, and the line of one more
listing-more : (heading : List ℕ) (epoch : ℕ) (tree : List TreeEntry) (i : ℕ) (e : TreeEntry) → slice_get tree i ≡ Some e → listing_text heading epoch (map listed_of (take i tree)) ++ listed_text (listed_of e) ≡ listing_text heading epoch (map listed_of (take (i + 1) tree))
listing-more heading epoch tree i e h =
    flat_map_more listed_text (epoch_line heading epoch) (map listed_of (take i tree)) (listed_of e)
    ∙ ap (λ l. epoch_line heading epoch ++ flat_map listed_text l) (sym (map-append listed_of (take i tree) (e ∷ [])) ∙ ap (map listed_of) (sym (take-get tree i e h)))

-- the report has one more line of a listing
pub adds-listed : (self now next : ReportView) (heading : List ℕ) (epoch : ℕ) (tree : List TreeEntry) (i : ℕ) (path : List (List ℕ)) (kind : Kind) (bytes : List ℕ) → slice_get tree i ≡ Some (record { path = path; kind = kind; bytes = bytes }) → now ≡ with_text self (listing_text heading epoch (map listed_of (take i tree))) → next ≡ with_text now (listed_text (record { path = path; kind = kind; len = length bytes })) → next ≡ with_text self (listing_text heading epoch (map listed_of (take (i + 1) tree)))
adds-listed self now next heading epoch tree i path kind bytes at so_far one =
    let e : TreeEntry = record { path = path; kind = kind; bytes = bytes } in
    let lines = listing_text heading epoch (map listed_of (take i tree)) in
    one ∙ ap (λ r. with_text r (listed_text (listed_of e))) so_far
    ∙ ap (λ t. record self { text = t }) (append_assoc self.text lines (listed_text (listed_of e)) ∙ ap (λ t. self.text ++ t) (listing-more heading epoch tree i e at))
