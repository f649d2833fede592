-- Steps up from slots: where they lead, and what they add to a path.
use Rattle.std.specs.Prelude.{◌≡◌, ℕ, ◌+◌, ◌<◌, ◌∷◌, ◌==◌, if◌then◌else◌, List, length, get_or, map}
use Rattle.std.specs.List.{flat_map}
use Rattle.vb_inode.specs.declared.node.Node.{Node}
use Rattle.vb_nodes.specs.declared.ascents.Ascent.{Ascent}
use Rattle.vb_nodes.specs.Paths.{ancestor, path_up}

-- how many bytes parts have in the text of a path: a slash before each
abbrev pub text_bytes : List (List ℕ) → ℕ
text_bytes parts = length (flat_map (λ part. 47 ∷ part) parts)

-- so many steps up from a slot: the slot that they lead to, and the parts and bytes that they add
abbrev pub ascent_of : List Node → ℕ → ℕ → Ascent
ascent_of nodes steps slot = record {
  to = ancestor nodes steps slot;
  parts = length (path_up nodes steps slot);
  bytes = text_bytes (path_up nodes steps slot);
}

-- one ascent for each slot, of so many steps
pub record AreAscents (nodes : List Node) (steps : ℕ) (ascents : List Ascent) : Type 0 where
  pub as_many : length ascents ≡ length nodes
  pub each : (slot : ℕ) (d : Ascent) → slot < length nodes → get_or ascents slot d ≡ ascent_of nodes steps slot

-- the step from a node to its parent
abbrev pub step_of : Node → Ascent
step_of node = record {
  to = node.parent;
  parts = if node.slot == 0 then 0 else 1;
  bytes = if node.slot == 0 then 0 else 1 + length node.name;
}

-- an ascent, and then that of the slot which it leads to
abbrev pub followed_by : Ascent → Ascent → Ascent
followed_by first second = record { to = second.to; parts = first.parts + second.parts; bytes = first.bytes + second.bytes }

-- an ascent that adds nothing
abbrev pub no_ascent : Ascent
no_ascent = record { to = 0; parts = 0; bytes = 0 }

-- each ascent, followed by that of the slot which it leads to
abbrev pub doubled : List Ascent → List Ascent
doubled ascents = map (λ ascent. followed_by ascent (get_or ascents ascent.to no_ascent)) ascents

-- the ascents can be followed: each leads to a slot that there is, and twice what they add fits a number
pub record AreFollowable (ascents : List Ascent) : Type 0 where
  pub leads : (slot : ℕ) → slot < length ascents → (get_or ascents slot no_ascent).to < length ascents
  pub few_parts : (slot : ℕ) → slot < length ascents → (get_or ascents slot no_ascent).parts < 2147483648
  pub few_bytes : (slot : ℕ) → slot < length ascents → (get_or ascents slot no_ascent).bytes < 2147483648
