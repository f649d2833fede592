use Rattle.std.proofs.Common.{rules, ◌≡◌, Some, length, map, ap, sym, ◌∙◌, option_map}
use Rattle.std.proofs.lemmas.List.{length-map}
use Rattle.vb_link.specs.Views.{info_of, told_entry, view_of}
use Rattle.vb_cloudlog.specs.Loads.{told_by, shown_by}
use Rattle.vb_cloudlog.proofs.SentFrames.{shown-loaded}
use Rattle.vb_cloudlog.proofs.link_calls.LogCloudLink.describe.Goals as goal

pub returns-clause-info : goal.returns-clause-info
returns-clause-info g c =
    let l = c.ready.new.self in
    let shown : shown_by l.is_loaded (told_by (g.F.LogFile.told l.file)) l.cloud ≡ Some (view_of l.cloud)
    = shown-loaded (g.F.LogFile.told l.file) l.is_loaded l.cloud l.held c.in-Ok.ensures.loaded in
    let entries : length (map told_entry l.cloud.tree) ≡ c.len.result = length-map l.cloud.tree told_entry ∙ sym c.len.ensures.len in
    let info : info_of (view_of l.cloud) ≡ record { id = c.id.result; epoch = c.epoch.result; entries = c.len.result } = search (rules, entries) in
    ap (option_map info_of) shown ∙ ap (λ i. Some i) info
