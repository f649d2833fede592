-- The marks of a legal history: what stands, what is in doubt and what is published.
use Rattle.std.proofs.Common.{◌≡◌, ◌≢◌, ℕ, ◌<◌, ◌≤◌, ◌⊎◌, inl, inr, Bool, true, false, ◌==◌, if◌then◌else◌, IfSome, List, Option, Some, None, refl, subst, arith}
use Rattle.std.specs.Prelude.{nat_lt}
use Rattle.std.proofs.lemmas.Bool.{cases_lt}
use Rattle.std.proofs.lemmas.Bool.Decides.{nat_tests, eqb_tells}
use Rattle.vb_tree.specs.declared.tree.TreeEntry.{TreeEntry}
use Rattle.vb_hist.specs.declared.entry.Entry.{Entry}
use Rattle.vb_hist.specs.declared.entry.Entry.TheVariants.{Call, Freeze, FreezeBusy, Commit, Rest, Publish, Doubt, Dropped, End, Cut}
use Rattle.vb_hist.specs.declared.entry.Stage.{Stage}
use Rattle.vb_hist.specs.declared.entry.Stage.TheVariants.{Rested, Written, Committed}
use Rattle.vb_hist.specs.Histories.{is_cut}
use Rattle.vb_hist.specs.declared.marks.Marks.{Marks}
use Rattle.vb_hist.specs.Legal.{MayFollow, marks_after, standing_without, waiting_view}
use Rattle.vb_hist.proofs.Order.{IsSameOrNot}
use Rattle.vb_hist.proofs.Newer.{IsNewer}

-- an epoch of a history that begins at this one, which is below the last one while that is being written
abbrev pub IsPast : ℕ → Marks → ℕ → Type 0
IsPast start m epoch = (start ≤ epoch) × (epoch ≤ m.last) × (m.stage ≡ Written → epoch < m.last)

-- what holds of the marks of a history from an opening at this start and published epoch
pub record AreSound (start opening : ℕ) (m : Marks) : Type 0 where
  -- the view that stands is the last one, and not published
  pub standing : IfSome m.standing (λ epoch. (epoch ≡ m.last) × IsNewer start opening m.published epoch)
  pub doubt : IfSome m.doubt (λ epoch. IsPast start m epoch × IsNewer start opening m.published epoch)
  pub published : (m.published ≡ opening) ⊎ IsPast start m m.published
  pub from : start ≤ m.last

-- where the view of an epoch waits, it is above the published one
pub waiting-above : (epoch published : ℕ) (P : ℕ → Type 0) → (published < epoch → P epoch) → IfSome (waiting_view epoch published) P
waiting-above epoch published P h = at (nat_lt published epoch) (grind (arith, nat_tests))
  where
    at : (b : Bool) → ((b ≡ true) × (published < epoch)) ⊎ ((b ≡ false) × (epoch ≤ published)) → IfSome (if b then Some epoch else None) P
    at b (inl is) = rw (is.0) (h is.1)
    at b (inr is) = rw (is.0) tt

-- nothing is written any more
past-rested : (start : ℕ) (m : Marks) (epoch : ℕ) (stage : Stage) → stage ≢ Written → IsPast start m epoch → IsPast start (record m { stage = stage }) epoch
past-rested start m epoch stage not is = (is.0, is.1, λ w. absurd (not w))

-- the epoch that is published next
pub publishes-past : (start opening : ℕ) (m : Marks) (folder : List TreeEntry) (epoch : ℕ) → AreSound start opening m → MayFollow m folder (Publish epoch) → IsPast start m epoch
publishes-past start opening m folder epoch s may = at may.1
  where
    at : (((m.standing ≡ Some epoch) × (m.stage ≢ Written)) ⊎ (m.doubt ≡ Some epoch)) → IsPast start m epoch
    at (inl is) =
        let v = subst (λ x. IfSome x (λ e. (e ≡ m.last) × IsNewer start opening m.published e)) is.0 s.standing in
        let low : start ≤ m.last = s.from in
        (omega (arith, v.0), omega (arith, v.0), λ w. absurd (is.1 w))
    at (inr is) = (subst (λ x. IfSome x (λ e. IsPast start m e × IsNewer start opening m.published e)) is s.doubt).0

-- what stands once an epoch is published is a later view
still-standing : (start : ℕ) (standing : Option ℕ) (last published : ℕ) (opening : ℕ) → IfSome standing (λ e. (e ≡ last) × IsNewer start opening published e) → (epoch : ℕ) → epoch ≤ last
    → IfSome (standing_without standing epoch) (λ e. (e ≡ last) × IsNewer start opening epoch e)
still-standing start None last published opening h epoch below = tt
still-standing start (Some view) last published opening h epoch below = at (eqb_tells view epoch)
  where
    at : IsSameOrNot view epoch → IfSome (if view == epoch then None else Some view) (λ e. (e ≡ last) × IsNewer start opening epoch e)
    at (inl is) = rw (is.0) tt
    at (inr not) = rw (not.0) (h.0, inr (omega (arith, h.0, not.1)))

-- a stage at which nothing is written
sound-staged : (start opening : ℕ) (m : Marks) (stage : Stage) → stage ≢ Written → AreSound start opening m → AreSound start opening (record m { stage = stage })
sound-staged start opening m stage not s = record { standing = s.standing; doubt = kept m.doubt s.doubt; published = past s.published; from = s.from }
  where
    kept : (x : Option ℕ) → IfSome x (λ e. IsPast start m e × IsNewer start opening m.published e) → IfSome x (λ e. IsPast start (record m { stage = stage }) e × IsNewer start opening m.published e)
    kept None h = tt
    kept (Some d) h = (past-rested start m d stage not h.0, h.1)

    past : (m.published ≡ opening) ⊎ IsPast start m m.published → (m.published ≡ opening) ⊎ IsPast start (record m { stage = stage }) m.published
    past (inl is) = inl is
    past (inr is) = inr (past-rested start m m.published stage not is)

pub sound-after : (start opening : ℕ) (m : Marks) (folder : List TreeEntry) (entry : Entry) → AreSound start opening m → MayFollow m folder entry → is_cut entry ≡ false → AreSound start opening (marks_after m entry)
sound-after start opening m folder (Call writer op reply) s may no_cut = s
sound-after start opening m folder (FreezeBusy writer epoch) s may no_cut = s
sound-after start opening m folder (End writer) s may no_cut = s
sound-after start opening m folder (Cut epoch limits) s may no_cut = cc
sound-after start opening m folder (Freeze by epoch) s may no_cut = record {
  standing = (refl, above s.published (cases_lt start opening));
  doubt = older m.doubt s.doubt;
  published = past s.published;
  from = omega (arith, may.2, s.from);
}
  where
    above : (m.published ≡ opening) ⊎ IsPast start m m.published → ((start < opening) ⊎ (opening ≤ start)) → IsNewer start opening m.published epoch
    above (inl is) (inr behind) = let low : start ≤ m.last = s.from in inr (omega (arith, is, behind, may.2))
    above (inl is) (inl ahead) = inl (is, ahead)
    above (inr is) which = inr (omega (arith, is.1, may.2))

    older : (x : Option ℕ) → IfSome x (λ e. IsPast start m e × IsNewer start opening m.published e)
        → IfSome x (λ e. IsPast start (marks_after m (Freeze by epoch)) e × IsNewer start opening m.published e)
    older None h = tt
    older (Some d) h = ((h.0.0, omega (arith, h.0.1, may.2), λ w. omega (arith, h.0.1, may.2)), h.1)

    past : (m.published ≡ opening) ⊎ IsPast start m m.published → (m.published ≡ opening) ⊎ IsPast start (marks_after m (Freeze by epoch)) m.published
    past (inl is) = inl is
    past (inr is) = inr (is.0, omega (arith, is.1, may.2), λ w. omega (arith, is.1, may.2))
sound-after start opening m folder (Commit epoch) s may no_cut = sound-staged start opening m Committed (λ w. cc) s
sound-after start opening m folder (Rest epoch) s may no_cut = sound-staged start opening m Rested (λ w. cc) s
sound-after start opening m folder (Doubt epoch) s may no_cut =
    let v = subst (λ x. IfSome x (λ e. (e ≡ m.last) × IsNewer start opening m.published e)) may.0 s.standing in
    let low : start ≤ m.last = s.from in
    record { standing = s.standing; doubt = ((omega (arith, v.0), omega (arith, v.0), λ w. absurd (may.1 w)), v.1); published = s.published; from = s.from }
sound-after start opening m folder (Publish epoch) s may no_cut =
    let past = publishes-past start opening m folder epoch s may in
    record { standing = still-standing start m.standing m.last m.published opening s.standing epoch past.1; doubt = tt; published = inr past; from = s.from }
sound-after start opening m folder (Dropped epoch) s may no_cut = record { standing = tt; doubt = s.doubt; published = s.published; from = s.from }
