-- A commit that rests leaves a store at rest, over which the next one may start.
use Rattle.std.proofs.Common.{ℕ, ◌+◌, Bool, cond, List, length, sym, subst, inl, inr}
use Rattle.std.proofs.lemmas.Bool.{cases_lt, lt-ltb, le-ltb}
use Rattle.vb_disk.specs.States.{DiskState}
use Rattle.vb_head.specs.declared.head.Head.{Head}
use Rattle.vb_journal.specs.declared.commit_stage.Stage.TheVariants.{Rested}
use Rattle.vb_journal.specs.Images.{AreImages, image_at}
use Rattle.vb_journal.specs.Plans.{closed_head}
use Rattle.vb_journal.specs.Progress.{Fixed, Has, IsAtRest, IsCommitting, new_images, new_journal}
use Rattle.vb_journal.proofs.Overlays.{image_over-named, image_over-unnamed, named_or_not}

pub IsAtRest-rested : (head : Head) (epoch : ℕ) (images : List (List ℕ)) (homes journal : ℕ → List ℕ) (d : DiskState) → AreImages head.nodes images → IsCommitting head epoch images homes journal Rested d → IsAtRest (closed_head head epoch) (new_images images homes) (new_journal images journal) d
IsAtRest-rested head epoch images homes journal d are is = record {
  id = is.id;
  size = is.size;
  first = is.first;
  second = is.second;
  each_home = λ slot within.
      let P : List ℕ → Type 0 = λ p. Has (Fixed p) (d.cells (2 + slot)) in
      elim (named_or_not images slot) [
        | inl named ↦
            let Q : ℕ → Type 0 = λ s. Has (Fixed (image_at images named.at)) (d.cells (2 + s)) in
            subst P (sym (image_over-named images slot named.at (homes slot) are.distinct named.within named.is)) (subst Q named.is (is.at_home named.at named.within))
        | inr unnamed ↦ subst P (sym (image_over-unnamed images slot (homes slot) unnamed)) (is.others slot within unnamed)
      ];
  each_image = λ i within.
      let R : Bool → Type 0 = λ b. Has (Fixed (cond b (image_at images i) (journal i))) (d.cells (2 + head.nodes + i)) in
      elim (cases_lt i (length images)) [
        | inl below ↦ subst R (sym (lt-ltb i (length images) below)) (is.in_journal i below)
        | inr past ↦ subst R (sym (le-ltb i (length images) past)) (is.beyond i past within)
      ];
}
