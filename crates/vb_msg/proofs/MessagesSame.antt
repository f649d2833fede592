-- Messages are told apart by their numbers and bodies.
use Rattle.std.proofs.Common.{◌≡◌, ℕ, ◌<◌, ◌≤◌, ◌^◌, ◌+◌, false, List, [], ◌∷◌, ◌++◌, length, refl, sym, ap, ◌∙◌, arith, append-nil}
use Rattle.std.proofs.Props.{props}
use mathlib.Core.HLevel.{is_prop→PathP}
use Rattle.vb_tree.specs.declared.tree.Kind.{Kind}
use Rattle.vb_tree.specs.declared.tree.Kind.TheVariants.{Folder, File}
use Rattle.vb_tree.specs.Trees.{is_root}
use Rattle.vb_path.specs.Paths.{IsPath}
use Rattle.vb_msg.specs.Ranges.{are_zeros}
use Rattle.vb_block.specs.Numbers.{eight_bytes}
use Rattle.vb_msg.specs.Frames.{body_of, number_of, number_of_kind, path_bytes}
use Rattle.vb_msg.specs.declared.message.Msg.{Msg}
use Rattle.vb_msg.specs.declared.message.Msg.TheVariants.{Claim, Begin, Object, Part, Seal, Enter, Keep, Publish}
use Rattle.vb_msg.specs.declared.ranges.CloudId.{CloudId}
use Rattle.vb_msg.specs.declared.ranges.Epoch.{Epoch}
use Rattle.vb_msg.specs.declared.ranges.EntryPath.{EntryPath}
use Rattle.vb_msg.specs.declared.ranges.PartBytes.{PartBytes}
use Rattle.vb_block.proofs.Numbers.{eight_bytes_tell}
use Rattle.vb_msg.proofs.PathTexts.{path_bytes_same}

epochs_same : (a b : Epoch) → a.number ≡ b.number → a ≡ b
epochs_same a b e i = record {
  number = e i;
  small = is_prop→PathP (λ j. e j < 2 ^ 63) (λ j. hlevel props) a.small b.small i;
}

ids_same : (a b : CloudId) → a.id ≡ b.id → a ≡ b
ids_same a b e i = record {
  id = e i;
  whole = is_prop→PathP (λ j. length (e j) ≡ 16) (λ j. hlevel props) a.whole b.whole i;
  named = is_prop→PathP (λ j. are_zeros (e j) ≡ false) (λ j. hlevel props) a.named b.named i;
}

parts_same : (a b : PartBytes) → a.bytes ≡ b.bytes → a ≡ b
parts_same a b e i = record {
  bytes = e i;
  some = is_prop→PathP (λ j. 1 ≤ length (e j)) (λ j. hlevel props) a.some b.some i;
  few = is_prop→PathP (λ j. length (e j) ≤ 4096) (λ j. hlevel props) a.few b.few i;
}

pub entries_same : (a b : EntryPath) → a.path ≡ b.path → a ≡ b
entries_same a b e i = record {
  path = e i;
  valid = is_prop→PathP (λ j. IsPath (e j)) (λ j. hlevel props) a.valid b.valid i;
  below = is_prop→PathP (λ j. is_root (e j) ≡ false) (λ j. hlevel props) a.below b.below i;
}

-- the numbers of epochs that are spelled alike
epochs_spelled : (a b : Epoch) → eight_bytes a.number ≡ eight_bytes b.number → a ≡ b
epochs_spelled a b e =
    let small_a = a.small in
    let small_b = b.small in
    epochs_same a b (eight_bytes_tell a.number b.number (omega arith) (omega arith) e)

-- the same bytes begin with one entry's path
pub entry_bytes_same : (a b : EntryPath) (xs ys : List ℕ) → path_bytes a.path ++ xs ≡ path_bytes b.path ++ ys → (a ≡ b) × (xs ≡ ys)
entry_bytes_same a b xs ys e =
    let both = path_bytes_same a.path b.path xs ys a.valid b.valid e in
    (entries_same a b both.0, both.1)

kinds_same : (a b : Kind) → number_of_kind a ≡ number_of_kind b → a ≡ b
kinds_same Folder Folder e = refl
kinds_same File File e = refl
kinds_same Folder File e = absurd cc
kinds_same File Folder e = absurd cc

heads_same : (a b : ℕ) (xs ys : List ℕ) → a ∷ xs ≡ b ∷ ys → (a ≡ b) × (xs ≡ ys)
heads_same a b xs ys e = (cc, cc)

enters_same : (a b : EntryPath) (k l : Kind) → number_of_kind k ∷ path_bytes a.path ≡ number_of_kind l ∷ path_bytes b.path → Enter a k ≡ Enter b l
enters_same a b k l e =
    let both = heads_same (number_of_kind k) (number_of_kind l) (path_bytes a.path) (path_bytes b.path) e in
    let entries = entry_bytes_same a b [] [] (append-nil (path_bytes a.path) ∙ both.1 ∙ sym (append-nil (path_bytes b.path))) in
    ap (λ (x : EntryPath). Enter x k) entries.0 ∙ ap (λ (x : Kind). Enter b x) (kinds_same k l both.0)

keeps_same : (a b c d : EntryPath) → path_bytes a.path ++ path_bytes b.path ≡ path_bytes c.path ++ path_bytes d.path → Keep a b ≡ Keep c d
keeps_same a b c d e =
    let first = entry_bytes_same a c (path_bytes b.path) (path_bytes d.path) e in
    let second = entry_bytes_same b d [] [] (append-nil (path_bytes b.path) ∙ first.1 ∙ sym (append-nil (path_bytes d.path))) in
    ap (λ (x : EntryPath). Keep x b) first.0 ∙ ap (λ (x : EntryPath). Keep c x) second.0

-- a number and a body are of one message
pub messages_same : (a b : Msg) → number_of a ≡ number_of b → body_of a ≡ body_of b → a ≡ b
messages_same (Claim a) (Claim b) n e = ap (λ (x : CloudId). Claim x) (ids_same a b e)
messages_same (Begin a) (Begin b) n e = ap (λ (x : Epoch). Begin x) (epochs_spelled a b e)
messages_same Object Object n e = refl
messages_same (Part a) (Part b) n e = ap (λ (x : PartBytes). Part x) (parts_same a b e)
messages_same Seal Seal n e = refl
messages_same (Enter a k) (Enter b l) n e = enters_same a b k l e
messages_same (Keep a b) (Keep c d) n e = keeps_same a b c d e
messages_same (Publish a) (Publish b) n e = ap (λ (x : Epoch). Publish x) (epochs_spelled a b e)
messages_same (Claim a) other n e = absurd cc
messages_same (Begin a) other n e = absurd cc
messages_same Object other n e = absurd cc
messages_same (Part a) other n e = absurd cc
messages_same Seal other n e = absurd cc
messages_same (Enter a k) other n e = absurd cc
messages_same (Keep a b) other n e = absurd cc
messages_same (Publish a) other n e = absurd cc
