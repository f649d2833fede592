-- What a read gives.
use Rattle.std.proofs.Common.{◌≡◌, ℕ, ◌≤◌, ◌+◌, ◌-◌, ◌/◌, List, length, min, take, drop, Option, Some, None, Ok, Err, refl, sym, ap, subst, ◌∙◌, inl, arith}
use Rattle.vb_disk.specs.States.{DiskState}
use Rattle.vb_index.specs.Contents.{HasPages}
use Rattle.vb_index.specs.Indexes.{HasShapeOf}
use Rattle.vb_pages.specs.declared.page_error.PageError.{PageError}
use Rattle.vb_pages.specs.declared.page_error.PageError.TheVariants.{Damaged, DiskFault, Memory}
use Rattle.vb_tree.specs.declared.operation.Op.{Op}
use Rattle.vb_tree.specs.declared.operation.Op.TheVariants.{Read}
use Rattle.vb_tree.specs.declared.reply.Reply.TheVariants.{Bytes, Refused}
use Rattle.vb_tree.specs.declared.reply.Refusal.{Refusal}
use Rattle.vb_tree.specs.declared.tree.TreeEntry.{TreeEntry}
use Rattle.vb_tree.specs.Trees.{entry_at, bytes_in}
use Rattle.vb_tree.specs.Contents.{part_of}
use Rattle.vb_tree.specs.Refusals.{refuse_unless_file, refusal_of}
use Rattle.vb_tree.specs.Operations.{answer_of, reply_unless, tree_after_reply}
use Rattle.vb_active.specs.Files.{IsFileOf}
use Rattle.vb_active.specs.Needs.{IsErrorIn, IsErrorOn}
use Rattle.vb_active.specs.Performs.{HasTreeOn, Performs}
use Rattle.vb_active.specs.Views.{ActiveState, Backs, due_page}
use Rattle.vb_active.proofs.Carries.{file-length, part-read}

-- an operation that is refused for a reason, over every tree, and changes nothing
pub refused-performs : (told : Option DiskState) (view : ActiveState) (op : Op) (reason : Refusal) → ((tree : List TreeEntry) → HasShapeOf view.index.nodes tree → refusal_of view.index.limits tree op ≡ Some reason) → Performs told view view op (Ok (Refused reason))
refused-performs told view op reason refuses =
    record {
      played = λ d tree is backs has.
          let why = refuses tree has.shape in
          record {
            said = sym (ap (λ r. reply_unless r (answer_of tree op)) why);
            leaves = subst (λ r. HasTreeOn d view (tree_after_reply tree op (reply_unless r (answer_of tree op)))) (sym why) has;
          };
      kept = tt;
      damage = tt;
      limits = refl;
      out = λ slot page reference out. out;
      least = λ slot page some. inl some;
      dirty = λ e slot page dirties. absurd cc;
    }

-- an error that leaves the view
pub failed-performs : (told : Option DiskState) (view : ActiveState) (op : Op) (error : PageError) → IsErrorOn told view op error → Performs told view view op (Err error)
failed-performs told view op error is =
    record {
      played = λ d tree is backs has. tt;
      kept = refl;
      damage = is;
      limits = refl;
      out = λ slot page reference out. out;
      least = λ slot page some. inl some;
      dirty = λ e slot page dirties. absurd cc;
    }

-- the bytes that were read
pub read-performs : (told : Option DiskState) (view : ActiveState) (path : List (List ℕ)) (slot len offset count end start : ℕ) (bytes : List ℕ) → IsFileOf view.index.nodes path slot len → ((tree : List TreeEntry) (next : Option Refusal) → HasShapeOf view.index.nodes tree → refuse_unless_file tree path next ≡ next)
    → end ≡ min len (offset + count) → start ≡ min offset end
    → ((d : DiskState) (file : List ℕ) → told ≡ Some d → Backs d view → HasPages (due_page view d) slot file → end ≤ length file → bytes ≡ take (end - start) (drop start file))
    → Performs told view view (Read path offset count) (Ok (Bytes bytes))
read-performs told view path slot len offset count end start bytes file allowed end_is start_is read =
    record {
      played = λ d tree is backs has.
          let content = bytes_in (entry_at path tree) in
          let size : length content ≡ len = file-length view.index.nodes tree path slot len file has.shape in
          let none = allowed tree None has.shape in
          let due : end ≡ min (length content) (offset + count) = omega arith in
          let got : bytes ≡ part_of offset count content = read d content is backs (has.contents path slot file.at) (omega arith) ∙ part-read content offset count end start due start_is in
          record {
            said = ap (λ b. Bytes b) got ∙ sym (ap (λ r. reply_unless r (answer_of tree (Read path offset count))) none);
            leaves = subst (λ r. HasTreeOn d view (tree_after_reply tree (Read path offset count) (reply_unless r (answer_of tree (Read path offset count))))) (sym none) has;
          };
      kept = tt;
      damage = tt;
      limits = refl;
      out = λ slot page reference out. out;
      least = λ slot page some. inl some;
      dirty = λ e slot page dirties. absurd cc;
    }

-- an error of the pages that were asked for
pub read-fails : (told : Option DiskState) (view : ActiveState) (path : List (List ℕ)) (slot len offset count end start : ℕ) (error : PageError) → IsFileOf view.index.nodes path slot len → end ≡ min len (offset + count) → start ≡ min offset end → IsErrorIn told view slot start end error → IsErrorOn told view (Read path offset count) error
read-fails told view path slot len offset count end start (Damaged place kept found) file end_is start_is damage =
    record {
      slot = slot;
      len = len;
      page = damage.byte / 4096;
      file = file;
      needed = record { byte = damage.byte; here = refl; in_file = omega arith; from = omega arith; to = omega arith };
      damage = damage.damage;
    }
read-fails told view path slot len offset count end start DiskFault file end_is start_is damage = tt
read-fails told view path slot len offset count end start Memory file end_is start_is damage = tt
