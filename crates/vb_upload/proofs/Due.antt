-- What the read of a page that is due tells.
use Rattle.std.proofs.Common.{◌≡◌, ℕ, List, Option, Some, None, is_some, is_none, slice_get, ◌<◌, ◌≤◌, [], arith, Result, Ok, Err, inl, refl, sym, ap, ◌∙◌}
use Rattle.std.specs.Prelude.{IsErrOf, IsSome}
use Rattle.std.specs.Option.{option_and_then}
use Rattle.std.proofs.lemmas.Bool.{false≢true}
use Rattle.std.proofs.lemmas.Option.{slice_get-get_or, slice_get_past}
use Rattle.vb_tree.specs.Trees.{data_pages_of}
use Rattle.sha2.specs.Sha256.{sha256}
use Rattle.vb_block.specs.declared.digest.Ref.{Ref}
use Rattle.vb_disk.specs.States.{DiskState, read_at}
use Rattle.vb_pages.specs.declared.kept.KeptPage.{KeptPage}
use Rattle.vb_pages.specs.declared.kept.PageKey.{PageKey}
use Rattle.vb_pages.specs.declared.page_error.PageError.{PageError}
use Rattle.vb_pages.specs.declared.page_error.PageError.TheVariants as page
use Rattle.vb_steps.specs.Steps.{CallsOnce}
use Rattle.vb_frozen.specs.declared.entry.FrozenEntry.{FrozenEntry}
use Rattle.vb_frozen.specs.Views.{page_kept, page_ref, GivesPage, IsOnDisk}
use Rattle.vb_upload.specs.declared.answer.UploadError.{UploadError}
use Rattle.vb_upload.specs.declared.answer.UploadError.TheVariants.{DiskFault, LinkFault, Memory}
use Rattle.vb_upload.specs.declared.cursor.Cursor.TheVariants.{Page}
use Rattle.vb_upload.specs.Cursors.{AllCanBeSent}
use Rattle.vb_upload.proofs.Behind.{sendable-at}
use Rattle.vb_upload.specs.Steps.{due_ref, unless_kept, upload_error_of, IsDamageAt, ReadsWhole, TellsDue}

abbrev none_of : Option Ref
none_of = None

abbrev ok_of : {T : Type 0} → T → Result T UploadError
ok_of x = Ok x

-- a page that isn't kept in memory has a reference
not_kept : (kept : Option (List ℕ)) (o : Option Ref) (reference : Ref) → unless_kept kept o ≡ Some reference → (kept ≡ None) × (o ≡ Some reference)
not_kept None o reference h = (refl, h)
not_kept (Some bytes) o reference h = absurd (cc h)

on-disk : (order : List FrozenEntry) (pages : List (PageKey × KeptPage)) (i k : ℕ) (reference : Ref) → due_ref order pages (Page i k) ≡ Some reference → IsOnDisk order pages i k reference
on-disk order pages i k reference h =
    let both = not_kept (page_kept order pages i k) (page_ref order i k) reference h in
    record { at = both.1; apart = both.0 }

-- a page that was given was read whole
pub given-whole : (order : List FrozenEntry) (pages : List (PageKey × KeptPage)) (told : Option DiskState) (i k : ℕ) (given : List ℕ) → GivesPage order pages told i k (Ok given) → ReadsWhole order pages told (Page i k)
given-whole order pages told i k given gives d reference is due =
    let there = on-disk order pages i k reference due in
    sym (ap sha256 (gives.read d reference is there)) ∙ gives.answer reference there

some-of : (o : Option Ref) → IsSome o → (reference : Ref) × (o ≡ Some reference)
some-of None there = absurd (cc there)
some-of (Some reference) there = (reference, refl)

kept-or : (o : Option (List ℕ)) → ((bytes : List ℕ) → o ≡ Some bytes → ⊥) → o ≡ None
kept-or None not = refl
kept-or (Some bytes) not = absurd (not bytes refl)

-- a page that is damaged is the one that is due
pub given-damaged : (order : List FrozenEntry) (pages : List (PageKey × KeptPage)) (told : Option DiskState) (i k place : ℕ) (kept found : List ℕ) → IsSome (page_ref order i k) → GivesPage order pages told i k (Err (page.Damaged place kept found)) → IsDamageAt order pages told (Page i k) i k place kept found
given-damaged order pages told i k place kept found there gives =
    let none = kept-or (page_kept order pages i k) gives.kept in
    let reference = some-of (page_ref order i k) there in
    let due : due_ref order pages (Page i k) ≡ Some reference.0 = ap (λ o. unless_kept o (page_ref order i k)) none ∙ reference.1 in
    let out = on-disk order pages i k reference.0 due in
    record {
      due = refl;
      on_disk = ap is_some due;
      damage = λ r h. gives.answer r (on-disk order pages i k r h);
      read = λ d is. gives.read d reference.0 is out ∙ ap (λ (p : ℕ). sha256 (read_at d p)) (sym (gives.answer reference.0 out).here);
    }

due-on-disk : (kept : Option (List ℕ)) (o : Option Ref) → IsSome o → is_none kept ≡ is_some (unless_kept kept o)
due-on-disk None o there = sym there
due-on-disk (Some bytes) o there = refl

-- the calls of a read, for the answer made of it
pub calls-as : {T S : Type 0} (order : List FrozenEntry) (pages : List (PageKey × KeptPage)) (i k before after : ℕ) (error : PageError) (other : UploadError) (r : Result T PageError) (s : Result S UploadError) → IsSome (page_ref order i k) → (IsErrOf r error → IsErrOf s other) → (IsErrOf s other → IsErrOf r error) → CallsOnce error (is_none (page_kept order pages i k)) before after r → CallsOnce other (is_some (due_ref order pages (Page i k))) before after s
calls-as order pages i k before after error other r s there to from calls =
    let same = due-on-disk (page_kept order pages i k) (page_ref order i k) there in
    record {
      none = λ not. calls.none (same ∙ not);
      once = λ is never. calls.once (same ∙ is) (λ err. never (to err));
      at_most = λ err. calls.at_most (from err);
    }

-- a page of a file that can be sent has a reference
pub page-there : (order : List FrozenEntry) (i k : ℕ) (e : FrozenEntry) → AllCanBeSent order → slice_get order i ≡ Some e → k < data_pages_of e.len → IsSome (page_ref order i k)
page-there order i k e all here less =
    let each = (sendable-at order i e all here).each_page in
    ap is_some (ap (option_and_then (λ (x : FrozenEntry). slice_get x.refs k)) here ∙ slice_get-get_or e.refs k blank (omega arith)) where
      blank : Ref
      blank = record { place = 0; digest = [] }

unless-none : (kept : Option (List ℕ)) → unless_kept kept None ≡ None
unless-none None = refl
unless-none (Some bytes) = refl

-- past the last page none is due
pub none-due : (order : List FrozenEntry) (pages : List (PageKey × KeptPage)) (i k : ℕ) (e : FrozenEntry) → AllCanBeSent order → slice_get order i ≡ Some e → data_pages_of e.len ≤ k → due_ref order pages (Page i k) ≡ None
none-due order pages i k e all here past =
    let each = (sendable-at order i e all here).each_page in
    let none : page_ref order i k ≡ None = ap (option_and_then (λ (x : FrozenEntry). slice_get x.refs k)) here ∙ slice_get_past e.refs k (omega arith) in
    ap (unless_kept (page_kept order pages i k)) none ∙ unless-none (page_kept order pages i k)

-- where none is due, the answer tells nothing of one, and no call is made
pub told-none : (order : List FrozenEntry) (pages : List (PageKey × KeptPage)) (told : Option DiskState) (i k : ℕ) → due_ref order pages (Page i k) ≡ None → ReadsWhole order pages told (Page i k)
told-none order pages told i k none d reference is due = absurd (differ (sym none ∙ due)) where
  differ : none_of ≡ Some reference → ⊥
  differ h = cc

pub calls-none : {T : Type 0} (o : Option Ref) (calls : ℕ) (x : T) → o ≡ None → CallsOnce Memory (is_some o) calls calls (ok_of x)
calls-none None calls x h = record { none = λ not. refl; once = λ is. absurd (false≢true is); at_most = λ err. inl refl }
calls-none (Some reference) calls x h = absurd (cc h)

-- what an error of the read tells of the page that is due
pub given-error : (order : List FrozenEntry) (pages : List (PageKey × KeptPage)) (told : Option DiskState) (i k : ℕ) (error : PageError) → IsSome (page_ref order i k) → GivesPage order pages told i k (Err error) → (T : Type 0) → TellsDue {T = T} order pages told (Page i k) (Err (upload_error_of i k error))
given-error order pages told i k (page.Damaged place kept found) there gives T = given-damaged order pages told i k place kept found there gives
given-error order pages told i k page.DiskFault there gives T = tt
given-error order pages told i k page.Memory there gives T = tt

pub error-fault : (i k : ℕ) (error : PageError) → upload_error_of i k error ≡ DiskFault → error ≡ page.DiskFault
error-fault i k (page.Damaged place kept found) h = absurd cc
error-fault i k page.DiskFault h = refl
error-fault i k page.Memory h = absurd cc

pub error-memory : (i k : ℕ) (error : PageError) → upload_error_of i k error ≡ Memory → error ≡ page.Memory
error-memory i k (page.Damaged place kept found) h = absurd cc
error-memory i k page.DiskFault h = absurd cc
error-memory i k page.Memory h = refl

pub error-link : (i k : ℕ) (error : PageError) → upload_error_of i k error ≡ LinkFault → ⊥
error-link i k (page.Damaged place kept found) h = absurd cc
error-link i k page.DiskFault h = absurd cc
error-link i k page.Memory h = absurd cc

pub ruleset read_pages = (error-fault, error-memory, error-link)
