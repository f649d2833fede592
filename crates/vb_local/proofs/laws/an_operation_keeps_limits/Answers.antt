use Rattle.std.proofs.Common.{◌≡◌, List, Some, Result, Ok, Err, refl, sym, ap, subst, arith}
use Rattle.vb_disk.specs.States.{DiskState}
use Rattle.vb_pages.specs.declared.page_error.PageError.{PageError}
use Rattle.vb_tree.specs.declared.operation.Op.{Op}
use Rattle.vb_tree.specs.declared.reply.Reply.{Reply}
use Rattle.vb_tree.specs.declared.tree.Limits.{Limits}
use Rattle.vb_tree.specs.declared.tree.TreeEntry.{TreeEntry}
use Rattle.vb_tree.specs.Operations.{tree_after}
use Rattle.vb_tree.specs.Trees.{IsWithin}
use Rattle.vb_tree.proofs.Allowed.{IsWithin-tree_after}
use Rattle.vb_active.specs.Performs.{HasTreeOn, Performs}
use Rattle.vb_active.specs.Views.{ActiveState, Backs}
use Rattle.vb_local.specs.Ties.{KeepsLimits}
use Rattle.vb_local.proofs.laws.an_operation_keeps_limits.Goals as goal

-- a tree within limits has nodes that keep them
within : (d : DiskState) (view : ActiveState) (tree : List TreeEntry) (limits : Limits) → view.index.limits ≡ limits → HasTreeOn d view tree → IsWithin limits tree → KeepsLimits view
within d view tree limits same has is = omega (arith, has.shape.as_large, is.pages_within, ap (λ (l : Limits). l.pages) same)

by : (d : DiskState) (old new : ActiveState) (op : Op) (result : Result Reply PageError) (tree : List TreeEntry) → Performs (Some d) old new op result → Backs d old → HasTreeOn d old tree → IsWithin old.index.limits tree → KeepsLimits new
by d old new op (Ok answer) tree performs backs has is = within d new (tree_after old.index.limits tree op) old.index.limits performs.limits (performs.played d tree refl backs has).leaves (IsWithin-tree_after old.index.limits tree op is)
by d old new op (Err error) tree performs backs has is = subst KeepsLimits (sym performs.kept) (within d old tree old.index.limits refl has is)

pub returns : goal.returns
returns c d old new op result tree performs backs has is = by d old new op result tree performs backs has is
