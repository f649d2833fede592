use Rattle.std.proofs.Common.{slice_get, ap, ◌∙◌}
use Rattle.std.specs.Option.{option_and_then}
use Rattle.vb_frozen.proofs.Places.{place-entry}
use Rattle.vb_frozen.proofs.order.entry_of.Goals as goal

pub returns-in-Some : goal.returns-in-Some
returns-in-Some c =
    let entries = c.args.entries.now in
    c.entry_here.ensures ∙ ap (option_and_then (λ i. slice_get entries i)) (c.in-Some.ensures.value ∙ c.requires.found c.args.slot) ∙ place-entry c.args.slot entries

pub returns-in-None : goal.returns-in-None
returns-in-None c =
    let entries = c.args.entries.now in
    ap (option_and_then (λ i. slice_get entries i)) (c.in-None.ensures.value ∙ c.requires.found c.args.slot) ∙ place-entry c.args.slot entries
