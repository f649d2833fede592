use Rattle.std.proofs.Common.{rules, ◌≡◌, Some, get_or, position, ap, ◌∙◌}
use Rattle.vb_tree.specs.Trees.{is_file}
use Rattle.vb_cloud.specs.declared.stored.Stored.TheVariants as stored
use Rattle.vb_cloud.specs.Stored.{stored_kind, stored_bytes, shown_tree}
use Rattle.vb_cloud.proofs.Found.{is_there, file_there}
use Rattle.vb_cloud.proofs.machine.file_at.Goals as goal

pub returns-in-Folder-clause-none : goal.returns-in-Folder-clause-none
returns-in-Folder-clause-none c = λ nothing.
    let d = c.index-shown-place.result in
    let at : Some c.in_ok-place.place ≡ position (is_there c.args.path.now) (shown_tree c.args.shown.now) = search rules in
    let here : (get_or c.args.shown.now c.in_ok-place.place d).stored ≡ stored.Folder = search rules in
    (file_there c.args.path.now c.args.shown.now c.in_ok-place.place d c.requires.below_root at).0 ∙ ap (λ s. is_file (Some (stored_kind s))) here

pub returns-in-File-clause-file : goal.returns-in-File-clause-file
returns-in-File-clause-file c =
    let d = c.index-shown-place.result in
    let at : Some c.in_ok-place.place ≡ position (is_there c.args.path.now) (shown_tree c.args.shown.now) = search rules in
    let here : (get_or c.args.shown.now c.in_ok-place.place d).stored ≡ stored.File c.in-File.content = search rules in
    (file_there c.args.path.now c.args.shown.now c.in_ok-place.place d c.requires.below_root at).0 ∙ ap (λ s. is_file (Some (stored_kind s))) here

pub returns-in-File-clause-bytes : goal.returns-in-File-clause-bytes
returns-in-File-clause-bytes c =
    let d = c.index-shown-place.result in
    let at : Some c.in_ok-place.place ≡ position (is_there c.args.path.now) (shown_tree c.args.shown.now) = search rules in
    let here : (get_or c.args.shown.now c.in_ok-place.place d).stored ≡ stored.File c.in-File.content = search rules in
    (file_there c.args.path.now c.args.shown.now c.in_ok-place.place d c.requires.below_root at).1 ∙ ap stored_bytes here
