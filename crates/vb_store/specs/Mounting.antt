-- How far a mount has come, and what it answers.
use Rattle.std.specs.Prelude.{◌≡◌, ℕ, ◌+◌, Bool, if◌then◌else◌, Result, Ok, Err}
use Rattle.vb_block.specs.declared.why.Why.{Why}
use Rattle.vb_block.specs.declared.why.Why.TheVariants.{Pages, Slot}
use Rattle.vb_inode.specs.declared.errors.MapError.{MapError}
use Rattle.vb_inode.specs.declared.errors.MapError.TheVariants.{Wrong as WrongMap, Memory as NoMemoryForMap}
use Rattle.vb_nodes.specs.declared.errors.TableError.{TableError}
use Rattle.vb_nodes.specs.declared.errors.TableError.TheVariants.{Wrong as WrongNode, TooManyPages, Memory as NoMemoryForIndex}
use Rattle.vb_nodes.specs.Claiming.{ClaimsState}
use Rattle.vb_inode.specs.declared.errors.NodeError.{NodeError}
use Rattle.vb_inode.specs.declared.errors.NodeError.TheVariants.{Unsealed, Wrong, Memory as NoMemoryForNode}
use Rattle.vb_journal.specs.declared.recover_error.RecoverError.{RecoverError}
use Rattle.vb_journal.specs.declared.recover_error.RecoverError.TheVariants.{NotAStore, Damaged, Unfit, Rebuilding, DiskFault, Memory}

-- an answer is the one that is due, or memory ran out
abbrev pub IsDue : {T : Type 0} → Result T RecoverError → Result T RecoverError → Type 0
IsDue due (Ok value) = due ≡ Ok value
IsDue due (Err (NotAStore place)) = due ≡ Err (NotAStore place)
IsDue due (Err (Damaged place kept found)) = due ≡ Err (Damaged place kept found)
IsDue due (Err (Unfit place why)) = due ≡ Err (Unfit place why)
IsDue due (Err Rebuilding) = due ≡ Err Rebuilding
IsDue due (Err DiskFault) = ⊥
IsDue due (Err Memory) = Unit {0}

-- why the block of a slot is refused, which stood at this place and names that slot or doesn't
abbrev pub refusal_of : ℕ → ℕ → Bool → NodeError → RecoverError
refusal_of slot place is_own (Unsealed kept found) = Damaged (2 + slot) kept found
refusal_of slot place is_own (Wrong why) = if is_own then Unfit place why else Unfit place Slot
refusal_of slot place is_own NoMemoryForNode = Memory

-- why a map page at this place is refused
abbrev pub refusal_of_map : ℕ → MapError → RecoverError
refusal_of_map place (WrongMap why) = Unfit place why
refusal_of_map place NoMemoryForMap = Memory

-- the claims are those that are due, or they are refused since the block at this place names a place wrongly
abbrev pub IsClaimed : ℕ → Result ClaimsState RecoverError → ClaimsState → Result (Unit {0}) Why → Type 0
IsClaimed block due claims (Ok done) = due ≡ Ok claims
IsClaimed block due claims (Err why) = due ≡ Err (Unfit block why)

-- why nodes make no tree, where the head stands at this place and the blocks of the nodes at these
abbrev pub refusal_of_table : ℕ → (ℕ → ℕ) → TableError → RecoverError
refusal_of_table place places (WrongNode slot why) = Unfit (places slot) why
refusal_of_table place places TooManyPages = Unfit place Pages
refusal_of_table place places NoMemoryForIndex = Memory
