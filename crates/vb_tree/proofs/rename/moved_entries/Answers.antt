use Rattle.std.proofs.Common.{◌≡◌, suc, ◌-◌, ◌<◌, length, true, false, sym, ap, ◌∙◌, arith}
use Rattle.vb_path.specs.Paths.{same_path}
use Rattle.vb_tree.specs.Trees.{insert_entry}
use Rattle.vb_tree.specs.Renames.{path_after}
use Rattle.vb_tree.proofs.MovedEntries.{moved-step, moved-skip, not_true, not_false}
use Rattle.vb_tree.proofs.rename.moved_entries.Goals as goal

pub loop-left-preserved-in_ok-insert : goal.loop-left-preserved-in_ok-insert
loop-left-preserved-in_ok-insert c =
    let source = c.args.source.now in
    let target = c.args.target.now in
    let tree = c.args.entries.now in
    let left = c.loop-left.left in
    let e = c.index-entries-left.result in
    let within : left - 1 < length tree = omega arith in
    let next : left ≡ suc (left - 1) = omega arith in
    let other : same_path e.path target ≡ false = not_true (same_path e.path target) (sym c.ne.ensures ∙ c.if-ne.true) in
    record {
      within = omega arith;
      made =
          c.in_ok-insert.ensures.ok
          ∙ ap (λ x. insert_entry x c.loop-left.after.items) c.in_ok-moved_entry.ensures
          ∙ ap (insert_entry (record e { path = path_after source target e.path })) c.loop-left.invariant.made
          ∙ sym (moved-step source target tree (left - 1) left e within next c.index-entries-left.is other);
    }

pub loop-left-preserved : goal.loop-left-preserved
loop-left-preserved c =
    let source = c.args.source.now in
    let target = c.args.target.now in
    let tree = c.args.entries.now in
    let left = c.loop-left.left in
    let e = c.index-entries-left.result in
    let within : left - 1 < length tree = omega arith in
    let next : left ≡ suc (left - 1) = omega arith in
    let same : same_path e.path target ≡ true = not_false (same_path e.path target) (sym c.ne.ensures ∙ c.if-ne.false) in
    record {
      within = omega arith;
      made = c.loop-left.invariant.made ∙ sym (moved-skip source target tree (left - 1) left e within next c.index-entries-left.is same);
    }
