-- The next view, once it is the committed one.
use Rattle.std.proofs.Common.{◌≡◌, ℕ, ◌+◌, ◌-◌, ◌<◌, ◌≤◌, true, false, List, length, Option, Some, None, refl, sym, ap, subst, ◌∙◌, arith}
use Rattle.std.specs.Prelude.{Contains, ◌↔◌}
use Rattle.std.proofs.lemmas.List.{get_or-map, length-map}
use Rattle.vb_geometry.specs.Layout as geometry
use Rattle.vb_head.specs.declared.head.Head.{Head}
use Rattle.vb_head.specs.Heads.{IsInRange}
use Rattle.vb_index.specs.Indexes.{IndexState}
use Rattle.vb_journal.specs.declared.commit_stage.Stage.TheVariants.{Rested}
use Rattle.vb_journal.specs.Plans.{CanCommit, closed_head}
use Rattle.vb_journal.proofs.Heads.{CanGoOn-start}
use Rattle.vb_space.specs.declared.users.Users.{Users}
use Rattle.vb_space.specs.declared.users.Users.TheVariants.{Neither, Committed, Next, Both}
use Rattle.vb_space.specs.Free.{has_committed, has_next, settled}
use Rattle.vb_space.specs.Spaces.{DataPlaces, IsCommitted, IsNext, committed, next_count, users_of}
use Rattle.vb_space.proofs.Counts.{committed-settled}
use Rattle.vb_store.specs.NextViews.{IsHeadAfter}
use Rattle.vb_store.specs.Views.{CanView, CanViewNext, IsView, ViewState, places_in, places_of_next}
use Rattle.vb_store.proofs.NextPlaces.{next_few}
use Rattle.vb_store.proofs.PlacesUsed.{places-few}

-- an index can be viewed with the head that counts a commit out, as with the one before it
pub can_after : (old : Head) (epoch : ℕ) (index : IndexState) → IsInRange (closed_head old epoch) → CanView old index → CanView (closed_head old epoch) index
can_after old epoch index range can = record {
  range = range;
  closed = refl;
  limits = can.limits;
  pages = can.pages;
  refs = can.refs;
  maps = can.maps;
  map_refs = can.map_refs;
  above = can.above;
  below = can.below;
  once = can.once;
}

pub viewed_after : (old head : Head) (index : IndexState) → IsHeadAfter old head → CanView old index → CanView head index
viewed_after old head index after can =
    let Can : Head → Type 0 = λ h. CanView h index in
    let Range : Head → Type 0 = λ h. IsInRange h in
    subst Can (sym after.closed) (can_after old head.epoch index (subst Range after.closed after.range) can)

-- ---- its places

committed_then : (u : Users) → has_committed (settled u) ≡ has_next u
committed_then Neither = refl
committed_then Committed = refl
committed_then Next = refl
committed_then Both = refl

none_then : (u : Users) → has_next (settled u) ≡ false
none_then Neither = refl
none_then Committed = refl
none_then Next = refl
none_then Both = refl

users_then : (s : DataPlaces) (place : ℕ) → (s.first ≤ place) × (place < s.first + length s.users) → users_of (committed s) place ≡ settled (users_of s place)
users_then s place within = get_or-map settled s.users (place - s.first) Neither Neither (omega (arith, within.0, within.1))

-- the committed view uses exactly the places that the next one used
was_next : (s : DataPlaces) (place : ℕ) → IsCommitted (committed s) place → IsNext s place
was_next s place is =
    let within : (s.first ≤ place) × (place < s.first + length s.users) = (is.within.0, omega (arith, is.within.1, length-map s.users settled)) in
    record { within = within; used = sym (committed_then (users_of s place)) ∙ sym (ap has_committed (users_then s place within)) ∙ is.used }

is_committed : (s : DataPlaces) (place : ℕ) → IsNext s place → IsCommitted (committed s) place
is_committed s place is = record {
  within = (is.within.0, omega (arith, is.within.1, length-map s.users settled));
  used = ap has_committed (users_then s place is.within) ∙ committed_then (users_of s place) ∙ is.used;
}

-- and the next one none
none_next_then : (s : DataPlaces) (place : ℕ) → IsNext (committed s) place → ⊥
none_next_then s place is =
    let within : (s.first ≤ place) × (place < s.first + length s.users) = (is.within.0, omega (arith, is.within.1, length-map s.users settled)) in
    let not : has_next (users_of (committed s) place) ≡ false = ap has_next (users_then s place within) ∙ none_then (users_of s place) in
    let both : true ≡ false = sym is.used ∙ not in
    cc both

-- ---- the view

next_of : (head : Head) (o : Option IndexState) (index : IndexState) → o ≡ Some index → CanViewNext head o → CanView head index × (length index.nodes ≡ head.nodes)
next_of head o index is can = subst (CanViewNext head) is can

pub view_after : (v : ViewState) (index : IndexState) (head : Head) → IsView v → v.next ≡ Some index → IsHeadAfter v.head head → IsView (record { head = head; index = index; next = None; space = committed v.space })
view_after v index head is next after =
    let can = next_of v.head v.next index next is.can_next in
    let begun : (place : ℕ) → IsNext v.space place ↔ Contains (places_in index.nodes) place = subst (λ (o : Option IndexState). (place : ℕ) → IsNext v.space place ↔ Contains (places_of_next o) place) next is.begun in
    let few : next_count v.space ≤ length (places_in index.nodes) = next_few v.space (places_in index.nodes) (λ place used. (begun place).0 used) in
    let nodes : head.nodes ≡ v.head.nodes = ap (λ (h : Head). h.nodes) after.closed in
    let blocks : head.blocks ≡ v.head.blocks = ap (λ (h : Head). h.blocks) after.closed in
    record {
      can = viewed_after v.head head index after can.0;
      slots = can.1 ∙ sym nodes;
      first = is.first ∙ ap geometry.data_start (sym nodes);
      end = ap (λ (n : ℕ). v.space.first + n) (length-map v.space.users settled) ∙ is.end ∙ sym blocks;
      few = omega (arith, committed-settled v.space.users, few, places-few index.nodes (λ slot held there. (can.0.maps slot held there, can.0.refs slot held there)), can.0.pages);
      committed = λ place. (λ used. (begun place).0 (was_next v.space place used), λ within. is_committed v.space place ((begun place).1 within));
      can_next = tt;
      begun = λ place. (λ used. absurd (none_next_then v.space place used), λ within. absurd (omega (arith, within.1)));
    }

pub view_then : (v : ViewState) (index : IndexState) (head : Head) (next : Option IndexState) (space : DataPlaces) → IsView v → v.next ≡ Some index → IsHeadAfter v.head head → next ≡ None → space ≡ committed v.space → IsView (record { head = head; index = index; next = next; space = space })
view_then v index head next space is was after none done =
    subst (λ (s : DataPlaces). IsView (record { head = head; index = index; next = next; space = s })) (sym done)
    (subst (λ (o : Option IndexState). IsView (record { head = head; index = index; next = o; space = committed v.space })) (sym none) (view_after v index head is was after))

-- a commit that may be made has a head that counts it out
pub head_after : (head : Head) (epoch : ℕ) (images : List (List ℕ)) → CanCommit head epoch images → IsHeadAfter head (closed_head head epoch)
head_after head epoch images can = record { range = (CanGoOn-start head epoch images Rested can).finish.closed; closed = refl }
