use Rattle.std.proofs.Common.{List, length, refl, sym, ap, ◌∙◌, ℕ}
use Rattle.vb_store.specs.Formats.{format_calls}
use Rattle.vb_store.proofs.CallsMade.{none_made}
use Rattle.vb_store.proofs.EmptyViewLeft.{RecoversOneOf-format}
use Rattle.vb_store.proofs.formatting.format.Goals as goal

pub returns-in-Some-clause-makes : goal.returns-in-Some-clause-makes
returns-in-Some-clause-makes g c = none_made (format_calls c.args.id c.args.blocks c.args.nodes) refl c.store_place.ensures.told

pub returns-clause-recovers : goal.returns-clause-recovers
returns-clause-recovers g c =
    RecoversOneOf-format c.args.id c.args.blocks c.args.nodes (g.D.Disk.told c.store_place.new.disk) (g.D.Disk.told c.make_store.new.disk) _ c.requires
    (ap (λ (l : List ℕ). length l) (sym c.bytes-name.ensures.bytes) ∙ c.bytes-name.ensures.length) c.in_ok-make_store.ensures.makes
