use Rattle.std.proofs.Common.{◌≡◌, List, ℕ, Some, None, cond, is_some, ap, sym, ◌∙◌}
use Rattle.std.specs.Option.{option_or}
use Rattle.std.specs.Map.{lookup}
use Rattle.std.specs.Global.{Vec}
use Rattle.vb_block.specs.declared.digest.Digest.{Digest}
use Rattle.indexmap.proofs.CallerLemmas.{insert_entry-new}
use Rattle.vb_sync.specs.Published.{same_digests}
use Rattle.vb_sync.proofs.Finding.{lookup-snoc, or_there}
use Rattle.vb_sync.proofs.Indexing.{same_digests-is}
use Rattle.vb_sync.proofs.noting.first_of.Goals as goal

pub returns-in-Some-clause-noted : goal.returns-in-Some-clause-noted
returns-in-Some-clause-noted c = λ other.
    let entries = c.args.contents.now.entries in
    or_there (lookup (λ (key : Vec Digest). same_digests other key.items) entries) (same_digests other c.args.digests.now) c.args.i (λ same.
    ap (λ (ds : List (List ℕ)). is_some (lookup (λ (key : Vec Digest). same_digests ds key.items) entries)) (same_digests-is other c.args.digests.now same) ∙ ap is_some (sym c.in-Some.ensures.value))

pub returns-in_ok-insert-in-None-clause-noted : goal.returns-in_ok-insert-in-None-clause-noted
returns-in_ok-insert-in-None-clause-noted c = λ other.
    let contents = c.args.contents.now in
    let digests = c.args.digests.now in
    let key = c.in_ok-from_slice-in-None.field-0 in
    let items : key.items ≡ digests = c.in_ok-from_slice-in-None.ensures.items in
    let absent : lookup (λ (k : Vec Digest). same_digests key.items k.items) contents.entries ≡ None =
    ap (λ (ds : List (List ℕ)). lookup (λ (k : Vec Digest). same_digests ds k.items) contents.entries) items ∙ sym c.in-None.ensures.value in
    ap (lookup (λ (k : Vec Digest). same_digests other k.items)) (c.in_ok-insert-in-None.ensures.entries ∙ insert_entry-new (λ (a b : Vec Digest). same_digests a.items b.items) contents key c.args.i absent)
    ∙ lookup-snoc (λ (k : Vec Digest). same_digests other k.items) contents.entries key c.args.i
    ∙ ap (λ (ds : List (List ℕ)). option_or (lookup (λ (k : Vec Digest). same_digests other k.items) contents.entries) (cond (same_digests other ds) (Some c.args.i) None)) items
