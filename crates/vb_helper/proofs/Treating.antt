-- What a step of a scrub says where it found no memory before any call.
use Rattle.std.proofs.Common.{◌≡◌, ℕ, List, Option, Some, refl, sym, ap, ◌∙◌, subst}
use Rattle.std.specs.Prelude.{Result, Err}
use Rattle.vb_helper.specs.declared.refetch_error.RefetchError.TheVariants as errors
use Rattle.vb_helper.specs.declared.scrub_answers.ScrubStep.{ScrubStep}
use Rattle.vb_helper.specs.declared.scrub_answers.ScrubError.{ScrubError}
use Rattle.vb_helper.specs.declared.scrub_answers.ScrubError.TheVariants as scrub_errors
use Rattle.std.proofs.Common.{slice_get}
use Rattle.std.specs.Option.{option_and_then, option_map}
use Rattle.vb_block.specs.declared.digest.Ref.{Ref}
use Rattle.vb_cloud.specs.Machine.{CloudState}
use Rattle.vb_disk.specs.States.{DiskState}
use Rattle.vb_frozen.specs.declared.entry.FrozenEntry.{FrozenEntry}
use Rattle.vb_link.specs.declared.view.ViewEntry.{ViewEntry}
use Rattle.vb_helper.specs.declared.following_page.Treated.{Treated}
use Rattle.vb_helper.specs.declared.following_page.DuePage.{DuePage}
use Rattle.vb_helper.specs.Repairs.{AtStart}
use Rattle.vb_helper.specs.Scrubs.{Around, Treats}
use Rattle.vb_helper.proofs.Mending.{spares_of, moments_of}

-- memory ran out before any call
pub treats_memory : (order : List FrozenEntry) (at : DuePage) (entries : List ViewEntry) (told : Option DiskState) (cloud : Option CloudState) (disk_calls link_calls : ℕ) (old : Option Treated) (e : FrozenEntry) (reference : Ref)
    → slice_get order at.entry ≡ Some e → slice_get e.refs at.page ≡ Some reference
    → Treats order at entries (record { disk_old = told; disk_new = told; cloud = cloud; counts = record { disk_old = disk_calls; disk_new = disk_calls; link_old = link_calls; link_new = link_calls } }) old old (Err scrub_errors.Memory)
treats_memory order at entries told cloud disk_calls link_calls old e reference stands refers = record {
  reference = reference;
  path = e.path;
  refers = ap (option_and_then (λ (x : FrozenEntry). slice_get x.refs at.page)) stands ∙ refers;
  stands = ap (option_map (λ (x : FrozenEntry). x.path)) stands;
  names = tt;
  treated = refl;
  answer = tt;
  disk = λ d was. was;
  spares = λ d f was is. spares_of reference entries cloud d f told (Err errors.Memory) was is;
  moments = λ d f was is. moments_of reference entries cloud d f told (Err errors.Memory) was is;
  repaired = λ d f was is. tt;
  calls = (AtStart, record { disk = refl; link = refl });
}

-- an answer that is that error
pub at_error : (order : List FrozenEntry) (at : DuePage) (entries : List ViewEntry) (around : Around) (old new : Option Treated) (result : Result ScrubStep ScrubError) (error : ScrubError)
    → result ≡ Err error → error ≡ scrub_errors.Memory → Treats order at entries around old new (Err scrub_errors.Memory) → Treats order at entries around old new result
at_error order at entries around old new result error is memory told =
    subst (λ (r : Result ScrubStep ScrubError). Treats order at entries around old new r) (sym (is ∙ ap (λ (e : ScrubError). Err e) memory)) told
