-- At each place where an upload may stand a message is due.
use Rattle.std.proofs.Common.{◌≡◌, ℕ, zero, suc, ◌+◌, ◌<◌, ◌≤◌, List, [], ◌∷◌, take, arith}
use Rattle.vb_disk.specs.States.{DiskState}
use Rattle.vb_tree.specs.declared.tree.TreeEntry.{TreeEntry}
use Rattle.vb_tree.specs.declared.tree.Kind.TheVariants.{File}
use Rattle.vb_pages.specs.declared.kept.KeptPage.{KeptPage}
use Rattle.vb_pages.specs.declared.kept.PageKey.{PageKey}
use Rattle.vb_frozen.specs.declared.entry.FrozenEntry.{FrozenEntry}
use Rattle.vb_frozen.specs.Views.{HasFrozenTree}
use Rattle.vb_publish.specs.Plans.{messages_for, counts_of_tree, total_of, plan_length}
use Rattle.vb_upload.specs.declared.cursor.Cursor.{Cursor}
use Rattle.vb_upload.specs.declared.cursor.Cursor.TheVariants as at
use Rattle.vb_upload.specs.Cursors.{counts_of, sent_at, StandsIn}
use Rattle.vb_upload.proofs.Behind.{count-by, some-entry, total-within}
use Rattle.vb_upload.proofs.Positions.{counts-same}

pub total-front : (counts : List ℕ) (i : ℕ) → total_of (take i counts) ≤ total_of counts
total-front counts zero = omega arith
total-front [] (suc i) = omega arith
total-front (c ∷ cs) (suc i) = (let rest = total-front cs i in omega arith)

pub sent-within : (order : List FrozenEntry) (cursor : Cursor) → StandsIn order cursor → sent_at (counts_of order) cursor < plan_length (counts_of order)
sent-within order at.Begin stands = omega arith
sent-within order (at.Entry i) stands = (let front = total-front (counts_of order) i in omega arith)
sent-within order (at.Page i page) stands =
    let e = some-entry order i stands.there in
    let enough = stands.enough e.0 e.1 in
    let within = total-within (counts_of order) i (messages_for File e.0.len) (count-by order i e.0 File e.1 (stands.file e.0 e.1)) in
    omega arith
sent-within order (at.Sealed i) stands = (let front = total-front (counts_of order) (i + 1) in omega arith)

pub counts-frozen : (order : List FrozenEntry) (pages : List (PageKey × KeptPage)) (d : DiskState) (tree : List TreeEntry) → HasFrozenTree order pages d tree → counts_of order ≡ counts_of_tree tree
counts-frozen order pages d tree has = counts-same pages d order tree has.entries

pub ruleset within = (sent-within, counts-frozen)
