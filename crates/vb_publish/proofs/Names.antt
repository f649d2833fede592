-- What may be named is named.
use Rattle.std.proofs.Common.{◌≡◌, ℕ, ◌<◌, ◌≤◌, ◌^◌, Bool, true, false, List, length, Option, Some, refl, sym, ap, subst, ◌∙◌, arith}
use Rattle.std.specs.Prelude.{nat_lt, nat_le}
use Rattle.std.proofs.lemmas.Bool.{lt-ltb, le-leb, false≢true}
use Rattle.vb_path.specs.Paths.{path_of, text_of_path, IsPath}
use Rattle.vb_path.proofs.PathLaws.{same_path-Decides}
use Rattle.vb_tree.specs.Trees.{is_root}
use Rattle.vb_tree.specs.declared.tree.Kind.{Kind}
use Rattle.vb_block.specs.Numbers.{eight_bytes}
use Rattle.vb_msg.specs.declared.message.Msg.TheVariants.{Begin, Part, Enter, Publish}
use Rattle.vb_msg.specs.declared.ranges.Epoch.{Epoch}
use Rattle.vb_msg.specs.declared.ranges.EntryPath.{EntryPath}
use Rattle.vb_msg.specs.declared.ranges.PartBytes.{PartBytes}
use Rattle.vb_msg.proofs.MessagesSame.{entries_same, messages_same}
use Rattle.vb_publish.specs.Messages.{enter_named, epoch_if, epoch_named, part_if, part_named, path_if, path_named, reads_as, reads_as-true}

epoch-if : (n : ℕ) (t : Bool) (h : nat_lt n (2 ^ 63) ≡ t) → t ≡ true → (epoch_if n t h).number ≡ n
epoch-if n true h is = refl
epoch-if n false h is = absurd (false≢true is)

pub epoch-here : (n : ℕ) → n < 2 ^ 63 → (epoch_named n).number ≡ n
unfolding epoch_named
epoch-here n small = epoch-if n (nat_lt n (2 ^ 63)) refl (lt-ltb n (2 ^ 63) small)

part-if : (bytes : List ℕ) (s f : Bool) (h : nat_le 1 (length bytes) ≡ s) (g : nat_le (length bytes) 4096 ≡ f) → s ≡ true → f ≡ true → (part_if bytes s f h g).bytes ≡ bytes
part-if bytes true true h g is also = refl
part-if bytes false f h g is also = absurd (false≢true is)
part-if bytes true false h g is also = absurd (false≢true also)

pub part-here : (bytes : List ℕ) → 1 ≤ length bytes → length bytes ≤ 4096 → (part_named bytes).bytes ≡ bytes
unfolding part_named
part-here bytes some few = part-if bytes (nat_le 1 (length bytes)) (nat_le (length bytes) 4096) refl refl (le-leb 1 (length bytes) some) (le-leb (length bytes) 4096 few)

path-if : (path : List (List ℕ)) (is root : Bool) (h : reads_as path (path_of (text_of_path path)) ≡ is) (g : is_root path ≡ root) → is ≡ true → root ≡ false → (p : EntryPath) × (path_if path is root h g ≡ Some p) × (p.path ≡ path)
path-if path true false h g is below = (record { path = path; valid = reads_as-true path (path_of (text_of_path path)) h; below = g }, refl, refl)
path-if path false root h g is below = absurd (false≢true is)
path-if path true true h g is below = absurd (false≢true (sym below))

pub path-here : (path : List (List ℕ)) → IsPath path → is_root path ≡ false → (p : EntryPath) × (path_named path ≡ Some p) × (p.path ≡ path)
unfolding path_named
path-here path valid below = path-if path (reads_as path (path_of (text_of_path path))) (is_root path) refl refl (ap (reads_as path) valid ∙ (same_path-Decides path path).1 refl) below

-- ---- a message is that of its plain values

pub begin-same : (e : Epoch) (n : ℕ) → n ≡ e.number → Begin e ≡ Begin (epoch_named n)
begin-same e n is = (let small = e.small in messages_same (Begin e) (Begin (epoch_named n)) refl (ap eight_bytes (sym (epoch-here n (omega arith) ∙ is))))

pub publish-same : (e : Epoch) (n : ℕ) → n ≡ e.number → Publish e ≡ Publish (epoch_named n)
publish-same e n is = (let small = e.small in messages_same (Publish e) (Publish (epoch_named n)) refl (ap eight_bytes (sym (epoch-here n (omega arith) ∙ is))))

pub part-same : (p : PartBytes) (bytes : List ℕ) → p.bytes ≡ bytes → Part p ≡ Part (part_named bytes)
part-same p bytes is =
    let some = subst (λ (bs : List ℕ). 1 ≤ length bs) is p.some in
    let few = subst (λ (bs : List ℕ). length bs ≤ 4096) is p.few in
    messages_same (Part p) (Part (part_named bytes)) refl (is ∙ sym (part-here bytes some few))

pub enter-same : (p : EntryPath) (path : List (List ℕ)) (kind : Kind) → p.path ≡ path → Enter p kind ≡ enter_named (path_named path) kind
enter-same p path kind is =
    let valid = subst IsPath is p.valid in
    let below = subst (λ (q : List (List ℕ)). is_root q ≡ false) is p.below in
    let named = path-here path valid below in
    ap (λ (q : EntryPath). Enter q kind) (entries_same p named.0 (is ∙ sym named.2)) ∙ ap (λ (o : Option EntryPath). enter_named o kind) (sym named.1)

pub ruleset named = (begin-same, publish-same, part-same, enter-same)
