use Rattle.std.proofs.Common.{ℕ, ◌-◌, false, List, Option, replicate, sym, ap, subst, ◌∙◌, arith}
use Rattle.std.specs.List.{All}
use Rattle.vb_index.specs.declared.held.Held.{Held}
use Rattle.vb_store.specs.declared.map_page.MapPage.{MapPage}
use Rattle.vb_store.specs.Maps.{IsOfFile, maps_of_nodes}
use Rattle.vb_store.specs.Metadata.{block_place, maps_in}
use Rattle.vb_store.specs.Namings.{AreBlanksNamed, AreNamedOnce}
use Rattle.vb_store.specs.Views.{limits_of}
use Rattle.vb_nodes.specs.Claiming.{ClaimsState}
use Rattle.vb_store.proofs.NamingsBegun.{AreBlanksNamed-made, AreNamedOnce-made, IsIndexOf-made}
use Rattle.vb_store.proofs.Surveyed.{files_of_nodes, index-nodes, maps_in-held_of, maps_of_read}
use Rattle.vb_store.proofs.surveys.survey_of.Goals as goal

pub maps_of_nodes-requires : goal.maps_of_nodes-requires
maps_of_nodes-requires c = maps_of_read c.args.head.now.nodes c.args.nodes.now c.requires.is.range.nodes_high (omega (arith, c.requires.all)) c.requires.read

pub returns : goal.returns
returns c =
    let head = c.args.head.now in
    let nodes = c.args.nodes.now in
    let held = index-nodes c.args.place (block_place c.args.slots.now head.nodes) (limits_of head) nodes c.in_ok-index.index c.in_ok-index.ensures in
    let maps = c.in-Ok.ensures.maps ∙ sym (maps_in-held_of head.nodes nodes c.requires.read.of_store) ∙ ap maps_in held in
    let claims = c.in-Ok-new.ensures.range ∙ ap (λ (n : ℕ). let k : ClaimsState = record { first = n; taken = replicate (head.blocks - n) false } in k) c.data_start_of-start.ensures in
    record {
      index = c.in_ok-index.ensures;
      claims = claims;
      maps = maps;
      each = c.in-Ok.ensures.each;
      files = subst (λ (l : List MapPage). All (IsOfFile c.in_ok-index.index.nodes) l) (sym c.in-Ok.ensures.maps)
          (subst (λ (slots : List (Option Held)). All (IsOfFile slots) (maps_of_nodes nodes)) held (files_of_nodes head.nodes nodes c.requires.read));
      of_head = IsIndexOf-made head c.args.place (block_place c.args.slots.now head.nodes) nodes c.in_ok-index.index c.requires.all c.requires.read c.in_ok-index.ensures;
      once = subst (λ (l : List MapPage). AreNamedOnce c.in_ok-index.index.nodes c.in-Ok-new.claims l) (sym maps)
          (subst (λ (k : ClaimsState). AreNamedOnce c.in_ok-index.index.nodes k (maps_in c.in_ok-index.index.nodes)) (sym claims)
          (AreNamedOnce-made head c.args.place (block_place c.args.slots.now head.nodes) nodes c.in_ok-index.index c.in_ok-index.ensures));
      blanks = subst (λ (l : List MapPage). AreBlanksNamed c.in_ok-index.index.nodes l) (sym maps)
          (AreBlanksNamed-made head c.args.place (block_place c.args.slots.now head.nodes) nodes c.in_ok-index.index c.requires.read c.in_ok-index.ensures);
    }
