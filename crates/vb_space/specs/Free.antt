-- The free places among those that follow each other on a disk.
use Rattle.std.specs.Prelude.{ℕ, Bool, true, false, ◌+◌, if◌then◌else◌, List, [], ◌∷◌}
use Rattle.vb_space.specs.declared.users.Users.{Users}
use Rattle.vb_space.specs.declared.users.Users.TheVariants.{Neither, Committed, Next, Both}

-- whether the committed view uses a place
abbrev pub has_committed : Users → Bool
has_committed Neither = false
has_committed Committed = true
has_committed Next = false
has_committed Both = true

-- whether the next view uses it
abbrev pub has_next : Users → Bool
has_next Neither = false
has_next Committed = false
has_next Next = true
has_next Both = true

-- whether neither uses it
abbrev pub is_neither : Users → Bool
is_neither Neither = true
is_neither Committed = false
is_neither Next = false
is_neither Both = false

-- with the next view among the users
abbrev pub joined : Users → Users
joined Neither = Next
joined Committed = Both
joined Next = Next
joined Both = Both

-- once the next view is the committed one
abbrev pub settled : Users → Users
settled Neither = Neither
settled Committed = Neither
settled Next = Committed
settled Both = Committed

-- the free ones of the places from `first` on, upwards
abbrev pub free_from : ℕ → List Users → List ℕ
free_from first [] = []
free_from first (u ∷ us) =
    if is_neither u then first ∷ free_from (first + 1) us else free_from (first + 1) us
