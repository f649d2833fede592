use Rattle.std.proofs.Common.{◌≡◌, Option, Some, sym, ap, ◌∙◌, is_none}
use Rattle.vb_tree.specs.declared.tree.Kind.{Kind}
use Rattle.vb_tree.specs.declared.tree.Kind.TheVariants.{Folder, File}
use Rattle.vb_tree.specs.declared.reply.Refusal.{Refusal}
use Rattle.vb_tree.specs.declared.reply.Refusal.TheVariants.{NoEntry, NotAFile}
use Rattle.vb_tree.specs.Trees.{kind_at}
use Rattle.vb_tree.specs.Trees.{is_folder}
use Rattle.vb_tree.specs.Refusals.{refuse}
use Rattle.vb_tree.proofs.Lookups.{kind_at-place, kind_at-none}
use Rattle.vb_tree.proofs.checks.find_file.Goals as goal

abbrev refused_at : Option Refusal → Option Kind → Option Refusal
refused_at next kind = refuse (is_none kind) NoEntry (refuse (is_folder kind) NotAFile next)

pub returns-in_default-clause-refused : goal.returns-in_default-clause-refused
returns-in_default-clause-refused c = λ next.
    let root = sym c.is_empty.ensures ∙ c.if-is_empty.false in
    let kind = kind_at-none c.args.path.now c.args.entries.now root (sym c.in_default.ensures) in
    c.in_ok-check_way.ensures _ ∙ ap (refused_at next) kind

pub returns-in-Folder-clause-refused : goal.returns-in-Folder-clause-refused
returns-in-Folder-clause-refused c = λ next.
    let root = sym c.is_empty.ensures ∙ c.if-is_empty.false in
    let kind : kind_at c.args.path.now c.args.entries.now ≡ Some Folder =
    kind_at-place c.args.path.now c.args.entries.now _ _ root (sym c.in-Some.ensures) ∙ ap Some c.in-Folder.is in
    c.in_ok-check_way.ensures _ ∙ ap (refused_at next) kind

pub returns-in-File-clause-refused : goal.returns-in-File-clause-refused
returns-in-File-clause-refused c = λ next.
    let root = sym c.is_empty.ensures ∙ c.if-is_empty.false in
    let kind : kind_at c.args.path.now c.args.entries.now ≡ Some File =
    kind_at-place c.args.path.now c.args.entries.now _ _ root (sym c.in-Some.ensures) ∙ ap Some c.in-File.is in
    c.in_ok-check_way.ensures _ ∙ ap (refused_at next) kind
