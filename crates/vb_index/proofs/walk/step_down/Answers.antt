use Rattle.std.proofs.Common.{sym, ap, ◌∙◌}
use Rattle.vb_index.specs.Nodes.{is_folder_node, holds_folder}
use Rattle.vb_index.proofs.Steps.{entry-slot}
use Rattle.vb_index.proofs.walk.step_down.Goals as goal

pub returns-in-Folder-clause-found : goal.returns-in-Folder-clause-found
returns-in-Folder-clause-found c =
    let at = entry-slot c.args.table.now c.args.folder c.args.name.now c.in-Some.held.now c.entry.ensures.table (sym c.in-Some.ensures.held) in
    (at.0, ap holds_folder at.1 ∙ ap is_folder_node c.in-Folder.is)
