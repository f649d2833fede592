-- What an operation answers on a live view, and what it leaves.
use Rattle.std.specs.Prelude.{◌≡◌, ◌⊎◌, ℕ, IsSome, List, Option, Some, IfOk, IfErr, OnErr, Result, Ok, Err, None}
use Rattle.vb_disk.specs.States.{DiskState}
use Rattle.vb_index.specs.Contents.{HasTree}
use Rattle.vb_pages.specs.declared.page_error.PageError.{PageError}
use Rattle.vb_index.specs.declared.errors.IndexError.{IndexError}
use Rattle.vb_index.specs.declared.errors.IndexError.TheVariants as index_errors
use Rattle.vb_index.specs.declared.held.Held.{Held}
use Rattle.vb_index.specs.Nodes.{kind_of}
use Rattle.vb_pages.specs.declared.kept.KeptPage.{KeptPage}
use Rattle.vb_pages.specs.declared.kept.PageKey.{PageKey}
use Rattle.vb_pages.specs.declared.page_error.PageError.TheVariants.{Memory}
use Rattle.vb_pages.specs.Tables.{kept_page, Cuts}
use Rattle.vb_tree.specs.declared.operation.Op.{Op}
use Rattle.vb_tree.specs.declared.operation.Op.TheVariants.{Create, MakeDir}
use Rattle.vb_tree.specs.declared.reply.Reply.TheVariants.{Done, Info, Refused}
use Rattle.vb_tree.specs.declared.tree.Kind.{Kind}
use Rattle.vb_tree.specs.declared.tree.Kind.TheVariants.{Folder, File}
use Rattle.vb_tree.specs.declared.reply.Reply.{Reply}
use Rattle.vb_tree.specs.declared.tree.TreeEntry.{TreeEntry}
use Rattle.vb_tree.specs.Operations.{info_of, reply_of, tree_after}
use Rattle.vb_active.specs.Needs.{Dirties, IsErrorOn}
use Rattle.vb_active.specs.Views.{ActiveState, Backs, StaysOut, due_page}

-- a view has a tree, with the pages of a disk
abbrev pub HasTreeOn : DiskState → ActiveState → List TreeEntry → Type 0
HasTreeOn d view tree = HasTree view.index.nodes (due_page view d) tree

-- the reply is the plain tree's, and the view has the tree that the plain tree would have
pub record Plays (d : DiskState) (old new : ActiveState) (op : Op) (tree : List TreeEntry) (answer : Reply) : Type 0 where
  pub said : answer ≡ reply_of old.index.limits tree op
  pub leaves : HasTreeOn d new (tree_after old.index.limits tree op)

-- what an operation on a view gives, where the disk tells this. For each tree that the view has, it answers and leaves what
-- the plain tree would; an error leaves an equal view, and damage is that of a page which the operation needs; the limits
-- stay, and so does each page that isn't in the table afterwards. What is done leaves exactly those pages in the table that
-- the operation leaves in memory, beside those that were there.
pub record Performs (told : Option DiskState) (old new : ActiveState) (op : Op) (result : Result Reply PageError) : Type 0 where
  pub played : (d : DiskState) (tree : List TreeEntry) → told ≡ Some d → Backs d old → HasTreeOn d old tree → IfOk result (Plays d old new op tree)
  pub kept : OnErr result (new ≡ old)
  pub damage : IfErr result (IsErrorOn told old op)
  pub limits : new.index.limits ≡ old.index.limits
  pub out : StaysOut old new
  pub least : (slot page : ℕ) → IsSome (kept_page new.pages slot page) → IsSome (kept_page old.pages slot page) ⊎ Dirties old op slot page
  pub dirty : result ≡ Ok Done → (slot page : ℕ) → Dirties old op slot page → IsSome (kept_page new.pages slot page)

-- the operation that makes a folder or an empty file
abbrev pub making_of : Kind → List (List ℕ) → Op
making_of Folder path = MakeDir path
making_of File path = Create path

-- what the index answers where it changes nothing, as the answer of an operation
abbrev pub answer_of_error : IndexError → Result Reply PageError
answer_of_error (index_errors.Refused reason) = Ok (Refused reason)
answer_of_error index_errors.Memory = Err Memory

-- the pages of the file that a slot held are cut, where there was one
abbrev pub CutsFile : Option ℕ → List (PageKey × KeptPage) → List (PageKey × KeptPage) → Type 0
CutsFile None old new = new ≡ old
CutsFile (Some slot) old new = Cuts old new slot 0

-- what is said of what a slot holds: its kind, and its length, which is 0 for a folder
abbrev pub info_at : Option Held → Reply
info_at None = Info Folder 0
info_at (Some held) = info_of (kind_of held.node) held.node.length
