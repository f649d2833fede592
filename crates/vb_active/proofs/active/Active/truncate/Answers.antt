use Rattle.std.proofs.Common.{◌≡◌, List, Option, None, subst}
use Rattle.vb_tree.specs.Refusals.{refuse_resize, refuse_unless_file}
use Rattle.vb_tree.specs.declared.reply.Refusal.{Refusal}
use Rattle.vb_tree.specs.declared.tree.TreeEntry.{TreeEntry}
use Rattle.vb_index.specs.Indexes.{HasShapeOf}
use Rattle.vb_active.specs.Files.{IsFileOf}
use Rattle.vb_active.specs.Views.{ActiveState}
use Rattle.vb_active.proofs.Cutting.{truncate-performs}
use Rattle.vb_active.proofs.Limited.{leaves-room, replaced-within, LeavesRoom}
use Rattle.vb_active.proofs.active.Active.truncate.Goals as goal

pub truncated_row-requires-clause-file : goal.truncated_row-requires-clause-file
truncated_row-requires-clause-file g c =
    let P : ActiveState → Type 0 = λ v. IsFileOf v.index.nodes c.args.path.now c.in-Ok.file.slot c.in-Ok.file.length in
    (c.args.path.now, subst P c.self.view_is c.in-Ok.ensures.found)

pub replace-requires-clause-file : goal.replace-requires-clause-file
replace-requires-clause-file g c =
    let P : ActiveState → Type 0 = λ v. IsFileOf v.index.nodes c.args.path.now c.in-Ok.file.slot c.in-Ok.file.length in
    (c.args.path.now, subst P c.self.view_is c.in-Ok.ensures.found)

pub returns-in-Ok-replace-clause-performs : goal.returns-in-Ok-replace-clause-performs
returns-in-Ok-replace-clause-performs g c =
    let P : ActiveState → Type 0 = λ v. IsFileOf v.index.nodes c.args.path.now c.in-Ok.file.slot c.in-Ok.file.length in
    let T : ActiveState → Type 0 = λ v. (tree : List TreeEntry) (next : Option Refusal) → HasShapeOf v.index.nodes tree → refuse_unless_file tree c.args.path.now next ≡ next in
    let Q : ActiveState → Type 0 = λ v. (tree : List TreeEntry) → HasShapeOf v.index.nodes tree → refuse_unless_file tree c.args.path.now (refuse_resize v.index.limits tree c.args.path.now c.args.len) ≡ None in
    truncate-performs (g.D.Disk.told c.args.disk.now) c.args.self.now c.replace.new.self c.args.path.now c.in-Ok.file.slot c.in-Ok.file.length c.args.len c.in-Ok-truncated_row.row.first c.in-Ok-truncated_row.row.pages.items
    (subst P c.self.view_is c.in-Ok.ensures.found) c.in-Ok-judge_resize.ensures.short (subst T c.self.view_is c.in-Ok.ensures.refused) (subst Q c.self.view_is c.in-Ok-judge_resize.ensures.refused) c.in-Ok-truncated_row.ensures.row c.in-Ok-truncated_row.ensures.pages c.in-Ok-replace.ensures.ok

pub returns-in-Ok-replace-clause-within : goal.returns-in-Ok-replace-clause-within
returns-in-Ok-replace-clause-within g c =
    let P : ActiveState → Type 0 = λ v. IsFileOf v.index.nodes c.args.path.now c.in-Ok.file.slot c.in-Ok.file.length in
    let Q : ActiveState → Type 0 = λ v. LeavesRoom v.index c.args.path.now c.in-Ok-judge_resize.slot c.args.len in
    replaced-within c.args.self.now c.replace.new.self c.args.path.now c.in-Ok.file.slot c.in-Ok-judge_resize.slot c.in-Ok.file.length c.args.len c.in-Ok-truncated_row.row.first c.in-Ok-truncated_row.row.pages.items
    (subst P c.self.view_is c.in-Ok.ensures.found) (subst Q c.self.view_is (leaves-room c.self.inside.index c.args.path.now c.in-Ok-judge_resize.slot c.args.len c.in-Ok-judge_resize.ensures.found c.in-Ok-judge_resize.ensures.room)) c.in-Ok-replace.ensures.ok
