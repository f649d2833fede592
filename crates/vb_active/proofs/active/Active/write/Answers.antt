use Rattle.std.proofs.Common.{◌≡◌, ◌≤◌, ◌+◌, ℕ, List, Option, Some, None, length, subst, arith}
use Rattle.vb_tree.specs.Refusals.{refuse_resize, refuse_unless_file}
use Rattle.vb_tree.specs.Trees.{data_pages_of}
use Rattle.vb_tree.specs.declared.operation.Op.TheVariants.{Write}
use Rattle.vb_tree.specs.declared.reply.Refusal.{Refusal}
use Rattle.vb_tree.specs.declared.tree.TreeEntry.{TreeEntry}
use Rattle.vb_index.specs.Indexes.{HasShapeOf}
use Rattle.vb_active.specs.Files.{IsFileOf}
use Rattle.vb_active.specs.Replacing.{IsSpan}
use Rattle.vb_active.specs.Views.{ActiveState}
use Rattle.vb_active.proofs.Limited.{leaves-room, replaced-within, LeavesRoom}
use Rattle.vb_active.proofs.Overwriting.{span-within, write-performs, write-refusal}
use Rattle.vb_active.proofs.Reading.{refused-performs}
use Rattle.vb_active.proofs.active.Active.write.Goals as goal

pub returns-in-Err-judge_resize-clause-performs : goal.returns-in-Err-judge_resize-clause-performs
returns-in-Err-judge_resize-clause-performs g c =
    let P : ActiveState → Type 0 = λ v. IsFileOf v.index.nodes c.args.path.now c.in-Ok.file.slot c.in-Ok.file.length in
    let file = subst P c.self.view_is c.in-Ok.ensures.found in
    let Q : ActiveState → Type 0 = λ v. (tree : List TreeEntry) → HasShapeOf v.index.nodes tree → refuse_unless_file tree c.args.path.now (refuse_resize v.index.limits tree c.args.path.now c.length_after-len.result) ≡ Some c.in-Err-judge_resize.reason in
    let refuses = subst Q c.self.view_is c.in-Err-judge_resize.ensures.refused in
    refused-performs (g.D.Disk.told c.args.disk.now) c.args.self.now (Write c.args.path.now c.args.offset c.args.bytes.now) c.in-Err-judge_resize.reason
    (write-refusal c.args.self.now c.args.path.now c.in-Ok.file.slot c.in-Ok.file.length c.length_after-len.result c.args.offset c.args.bytes.now c.in-Err-judge_resize.reason file c.length_after-len.ensures refuses)

pub written_run-requires-clause-file : goal.written_run-requires-clause-file
written_run-requires-clause-file g c =
    let P : ActiveState → Type 0 = λ v. IsFileOf v.index.nodes c.args.path.now c.in-Ok.file.slot c.in-Ok.file.length in
    (c.args.path.now, subst P c.self.view_is c.in-Ok.ensures.found)

pub replace-requires-clause-file : goal.replace-requires-clause-file
replace-requires-clause-file g c =
    let P : ActiveState → Type 0 = λ v. IsFileOf v.index.nodes c.args.path.now c.in-Ok.file.slot c.in-Ok.file.length in
    (c.args.path.now, subst P c.self.view_is c.in-Ok.ensures.found)

pub replace-requires-clause-within : goal.replace-requires-clause-within
replace-requires-clause-within g c =
    let S : ℕ → Type 0 = λ n. IsSpan c.args.offset (length c.args.bytes.now) n c.span_of-span.result.first c.span_of-span.result.last in
    let span = subst S c.pages_of.ensures c.span_of-span.ensures in
    omega (arith, c.in-Ok-written_run.ensures.count, span-within c.args.offset (length c.args.bytes.now) c.in-Ok.file.length c.length_after-len.result c.span_of-span.result.first c.span_of-span.result.last span c.length_after-len.ensures)

pub returns-in-Ok-replace-clause-performs : goal.returns-in-Ok-replace-clause-performs
returns-in-Ok-replace-clause-performs g c =
    let S : ℕ → Type 0 = λ n. IsSpan c.args.offset (length c.args.bytes.now) n c.span_of-span.result.first c.span_of-span.result.last in
    let span = subst S c.pages_of.ensures c.span_of-span.ensures in
    let within : c.span_of-span.result.first + length c.in-Ok-written_run.run'.items ≤ data_pages_of c.length_after-len.result = omega (arith, c.in-Ok-written_run.ensures.count, span-within c.args.offset (length c.args.bytes.now) c.in-Ok.file.length c.length_after-len.result c.span_of-span.result.first c.span_of-span.result.last span c.length_after-len.ensures) in
    let P : ActiveState → Type 0 = λ v. IsFileOf v.index.nodes c.args.path.now c.in-Ok.file.slot c.in-Ok.file.length in
    let T : ActiveState → Type 0 = λ v. (tree : List TreeEntry) (next : Option Refusal) → HasShapeOf v.index.nodes tree → refuse_unless_file tree c.args.path.now next ≡ next in
    let Q : ActiveState → Type 0 = λ v. (tree : List TreeEntry) → HasShapeOf v.index.nodes tree → refuse_unless_file tree c.args.path.now (refuse_resize v.index.limits tree c.args.path.now c.length_after-len.result) ≡ None in
    write-performs (g.D.Disk.told c.args.disk.now) c.args.self.now c.replace.new.self c.args.path.now c.in-Ok.file.slot c.in-Ok.file.length c.length_after-len.result c.args.offset c.span_of-span.result.first c.span_of-span.result.last c.args.bytes.now c.in-Ok-written_run.run'.items
    (subst P c.self.view_is c.in-Ok.ensures.found) c.length_after-len.ensures c.in-Ok-judge_resize.ensures.short (subst T c.self.view_is c.in-Ok.ensures.refused) (subst Q c.self.view_is c.in-Ok-judge_resize.ensures.refused) span c.in-Ok-written_run.ensures.count within c.in-Ok-written_run.ensures.pages c.in-Ok-replace.ensures.ok

pub returns-in-Ok-replace-clause-within : goal.returns-in-Ok-replace-clause-within
returns-in-Ok-replace-clause-within g c =
    let P : ActiveState → Type 0 = λ v. IsFileOf v.index.nodes c.args.path.now c.in-Ok.file.slot c.in-Ok.file.length in
    let Q : ActiveState → Type 0 = λ v. LeavesRoom v.index c.args.path.now c.in-Ok-judge_resize.slot c.length_after-len.result in
    replaced-within c.args.self.now c.replace.new.self c.args.path.now c.in-Ok.file.slot c.in-Ok-judge_resize.slot c.in-Ok.file.length c.length_after-len.result c.span_of-span.result.first c.in-Ok-written_run.run'.items
    (subst P c.self.view_is c.in-Ok.ensures.found) (subst Q c.self.view_is (leaves-room c.self.inside.index c.args.path.now c.in-Ok-judge_resize.slot c.length_after-len.result c.in-Ok-judge_resize.ensures.found c.in-Ok-judge_resize.ensures.room)) c.in-Ok-replace.ensures.ok
