-- Which bodies are of no message.
use Rattle.std.proofs.Common.{◌≡◌, ℕ, List, [], ◌∷◌, ◌++◌, length, Result, Ok, Err, refl, sym, ap, ◌∙◌, arith, append-nil}
use Rattle.vb_tree.specs.declared.tree.Kind.{Kind}
use Rattle.vb_msg.specs.declared.frame_error.FrameError.{FrameError}
use Rattle.vb_msg.specs.declared.frame_error.FrameError.TheVariants.{BadFrame, Short, Memory}
use Rattle.vb_msg.specs.declared.message.Msg.{Msg}
use Rattle.vb_msg.specs.declared.message.Msg.TheVariants.{Claim, Begin, Object, Part, Seal, Enter, Keep, Publish}
use Rattle.vb_msg.specs.declared.ranges.EntryPath.{EntryPath}
use Rattle.vb_msg.specs.Bodies.{TakesPath, Understands}
use Rattle.vb_msg.specs.Frames.{body_of, number_of, number_of_kind, path_bytes}
use Rattle.vb_msg.proofs.MessagesSame.{entry_bytes_same}

-- an Enter's body is a kind's number and a path, and no more
pub no_enter : (kind : ℕ) (bytes : List ℕ) → ((entry : EntryPath) → bytes ≡ path_bytes entry.path ++ [] → ⊥) → (m : Msg) → number_of m ≡ 5 → body_of m ≡ kind ∷ bytes → ⊥
no_enter kind bytes none (Enter path k) n e = none path (sym (append-nil (path_bytes path.path) ∙ tails (number_of_kind k) kind (path_bytes path.path) bytes e))
  where
    tails : (a b : ℕ) (xs ys : List ℕ) → a ∷ xs ≡ b ∷ ys → xs ≡ ys
    tails a b xs ys e = cc
no_enter kind bytes none (Claim id) n e = absurd cc
no_enter kind bytes none (Begin epoch) n e = absurd cc
no_enter kind bytes none Object n e = absurd cc
no_enter kind bytes none (Part part) n e = absurd cc
no_enter kind bytes none Seal n e = absurd cc
no_enter kind bytes none (Keep path origin) n e = absurd cc
no_enter kind bytes none (Publish epoch) n e = absurd cc

-- a Keep's body is two paths, and no more
pub no_keep : (first : EntryPath) (bytes : List ℕ) → ((entry : EntryPath) → bytes ≡ path_bytes entry.path ++ [] → ⊥) → (m : Msg) → number_of m ≡ 6 → body_of m ≡ path_bytes first.path ++ bytes → ⊥
no_keep first bytes none (Keep path origin) n e =
    none origin (sym (append-nil (path_bytes origin.path) ∙ (entry_bytes_same path first (path_bytes origin.path) bytes e).1))
no_keep first bytes none (Claim id) n e = absurd cc
no_keep first bytes none (Begin epoch) n e = absurd cc
no_keep first bytes none Object n e = absurd cc
no_keep first bytes none (Part part) n e = absurd cc
no_keep first bytes none Seal n e = absurd cc
no_keep first bytes none (Enter path k) n e = absurd cc
no_keep first bytes none (Publish epoch) n e = absurd cc

-- more than a path is no path alone
pub more_than : (entry : EntryPath) (bytes rest : List ℕ) → bytes ≡ path_bytes entry.path ++ rest → (rest ≡ [] → ⊥) → (other : EntryPath) → bytes ≡ path_bytes other.path ++ [] → ⊥
more_than entry bytes rest is some other e = some (entry_bytes_same entry other rest [] (sym is ∙ e)).1

pub enter-err : {R : Type 0} (of : R → List ℕ) (kind : ℕ) (bytes : List ℕ) (error : FrameError) → TakesPath of bytes (Err error) → Understands 5 (kind ∷ bytes) (Err error)
enter-err of kind bytes BadFrame none = no_enter kind bytes (λ entry e. none entry [] e)
enter-err of kind bytes Short none = absurd none
enter-err of kind bytes Memory free = tt

pub keep-err : {R : Type 0} (of : R → List ℕ) (first : EntryPath) (bytes : List ℕ) (error : FrameError) → TakesPath of bytes (Err error) → Understands 6 (path_bytes first.path ++ bytes) (Err error)
keep-err of first bytes BadFrame none = no_keep first bytes (λ entry e. none entry [] e)
keep-err of first bytes Short none = absurd none
keep-err of first bytes Memory free = tt
