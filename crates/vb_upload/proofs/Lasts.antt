-- At which cursor the last message comes.
use Rattle.std.proofs.Common.{◌≡◌, ℕ, ◌+◌, ◌<◌, ◌≤◌, Bool, true, false, List, length, take, ◌⊎◌, inl, inr, sym, ◌∙◌, arith}
use Rattle.std.specs.Prelude.{nat_le}
use Rattle.std.proofs.lemmas.Bool.Decides.{leb_tells}
use Rattle.vb_tree.specs.declared.tree.Kind.{Kind}
use Rattle.vb_tree.specs.declared.tree.Kind.TheVariants.{Folder, File}
use Rattle.vb_frozen.specs.declared.entry.FrozenEntry.{FrozenEntry}
use Rattle.vb_publish.specs.Plans.{messages_for, plan_length, total_of}
use Rattle.vb_upload.specs.declared.cursor.Cursor.{Cursor}
use Rattle.vb_upload.specs.declared.cursor.Cursor.TheVariants as at
use Rattle.vb_upload.specs.Cursors.{counts_of, sent_at, IsFileWith}
use Rattle.vb_upload.specs.Steps.{is_last_at}
use Rattle.vb_upload.proofs.Behind.{count-at, count-by, last-entry, some-entry, total-within}
use Rattle.vb_upload.proofs.Within.{total-front}

-- whether a number is at most another
at-most : (n k : ℕ) → n ≤ k → nat_le n k ≡ true
at-most n k h = elim (leb_tells n k) [
  | inl holds ↦ holds.0
  | inr fails ↦ absurd (let less = fails.1 in omega arith)
]

above : (n k : ℕ) → k < n → nat_le n k ≡ false
above n k h = elim (leb_tells n k) [
  | inl holds ↦ absurd (let most = holds.1 in omega arith)
  | inr fails ↦ fails.0
]

-- a message more follows
early : (order : List FrozenEntry) (cursor : Cursor) → sent_at (counts_of order) cursor + 1 < plan_length (counts_of order) → is_last_at order cursor ≡ false
early order cursor h = above (plan_length (counts_of order)) (sent_at (counts_of order) cursor + 1) h

some-messages : (kind : Kind) (len : ℕ) → 1 ≤ messages_for kind len
some-messages Folder len = omega arith
some-messages File len = omega arith

pub last-begin : (order : List FrozenEntry) → is_last_at order at.Begin ≡ false
last-begin order = early order at.Begin (omega arith)

pub last-entry-at : (order : List FrozenEntry) (i : ℕ) → i ≤ length order → nat_le (length order) i ≡ is_last_at order (at.Entry i)
last-entry-at order i within = elim (leb_tells (length order) i) [
  | inl past ↦ past.0 ∙ sym (at-most (plan_length (counts_of order)) (sent_at (counts_of order) (at.Entry i) + 1) (let last = last-entry order i past.1 within in omega arith))
  | inr before ↦ before.0 ∙ sym (early order (at.Entry i) (
      let e = some-entry order i before.1 in
      let some = some-messages e.0.kind e.0.len in
      let least = total-within (counts_of order) i (messages_for e.0.kind e.0.len) (count-at order i e.0 e.1) in
      omega arith))
]

pub last-page : (order : List FrozenEntry) (i page : ℕ) → IsFileWith order i page → is_last_at order (at.Page i page) ≡ false
last-page order i page stands = early order (at.Page i page) (
    let e = some-entry order i stands.there in
    let enough = stands.enough e.0 e.1 in
    let within = total-within (counts_of order) i (messages_for File e.0.len) (count-by order i e.0 File e.1 (stands.file e.0 e.1)) in
    omega arith)

pub last-sealed : (order : List FrozenEntry) (i : ℕ) → is_last_at order (at.Sealed i) ≡ false
last-sealed order i = early order (at.Sealed i) (let front = total-front (counts_of order) (i + 1) in omega arith)

pub ruleset lasts = (last-begin, last-entry-at, last-page, last-sealed)
