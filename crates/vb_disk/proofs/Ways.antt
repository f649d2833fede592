-- What the counts of writes, resizes and syncs say about the moments between two states, and how clients show that each moment has P.
use Rattle.std.proofs.Common.{◌≡◌, ℕ, zero, suc, ◌+◌, ◌≤◌, Bool, true, false, cond, eqb, ltb, List, [], ◌∷◌, ◌++◌, refl, sym, ap, subst, ◌∙◌, ◌⊎◌, inl, inr, arith, append_assoc}
use Rattle.vb_disk.specs.declared.cell.Cell.{Cell}
use Rattle.vb_disk.specs.Cells.{blank_cell, synced_cell, written_cell}
use Rattle.vb_disk.specs.States.{DiskState, DiskCall, IsCounted, IsDiskState, Write, Sync, Resize, after_call, after_calls, written, synced, resized}
use Rattle.vb_disk.specs.Moments.{EachMoment, Reaches, IsMoment, HasMore, OnlyWrites}

-- ---- the counts

-- how many writes and resizes were made
abbrev pub work : DiskState → ℕ
work d = d.writes + d.resizes

-- how many of the calls are writes and resizes
abbrev pub made : List DiskCall → ℕ
made [] = 0
made (Write place page ∷ calls) = made calls + 1
made (Sync ∷ calls) = made calls
made (Resize blocks ∷ calls) = made calls + 1

pub after_calls-work : (d : DiskState) (calls : List DiskCall) → work (after_calls d calls) ≡ work d + made calls
after_calls-work d [] = omega arith
after_calls-work d (Write place page ∷ calls) = let rest = after_calls-work (written d place page) calls in omega (arith, rest)
after_calls-work d (Sync ∷ calls) = after_calls-work (synced d) calls
after_calls-work d (Resize blocks ∷ calls) = let rest = after_calls-work (resized d blocks) calls in omega (arith, rest)

-- a place that was cut off has one candidate, and each other one has what it had
later_cut : (within : Bool) (cell : Cell) → cell.later ≡ [] → (cond within cell blank_cell).later ≡ []
later_cut true cell none = none
later_cut false cell none = refl

pub IsCounted-call : (d : DiskState) (call : DiskCall) → IsCounted d → IsCounted (after_call d call)
IsCounted-call d (Write place page) was = record {
  covers = omega (arith, was.covers);
  settled = λ all q. absurd (omega (arith, was.covers, all));
}
IsCounted-call d Sync was = record { covers = omega arith; settled = λ all q. refl }
IsCounted-call d (Resize blocks) was = record {
  covers = was.covers;
  settled = λ all q. later_cut (ltb q blocks) (d.cells q) (was.settled all q);
}

-- a call never takes back a sync
synced_at-grows : (d : DiskState) (call : DiskCall) → IsCounted d → d.synced_at ≤ (after_call d call).synced_at
synced_at-grows d (Write place page) was = omega arith
synced_at-grows d Sync was = was.covers
synced_at-grows d (Resize blocks) was = omega arith

-- what some calls keep: the counts agree with the places, and none falls
pub record Grows (old new : DiskState) : Type 0 where
  pub counted : IsCounted new
  pub writes : old.writes ≤ new.writes
  pub resizes : old.resizes ≤ new.resizes
  pub synced_at : old.synced_at ≤ new.synced_at

Grows-call : (d : DiskState) (call : DiskCall) → IsCounted d → Grows d (after_call d call)
Grows-call d (Write place page) was = record { counted = IsCounted-call d (Write place page) was; writes = omega arith; resizes = omega arith; synced_at = omega arith }
Grows-call d Sync was = record { counted = IsCounted-call d Sync was; writes = omega arith; resizes = omega arith; synced_at = was.covers }
Grows-call d (Resize blocks) was = record { counted = IsCounted-call d (Resize blocks) was; writes = omega arith; resizes = omega arith; synced_at = omega arith }

pub Grows-calls : (d : DiskState) (calls : List DiskCall) → IsCounted d → Grows d (after_calls d calls)
Grows-calls d [] was = record { counted = was; writes = omega arith; resizes = omega arith; synced_at = omega arith }
Grows-calls d (call ∷ calls) was =
    let one = Grows-call d call was in
    let rest = Grows-calls (after_call d call) calls one.counted in
    record {
      counted = rest.counted;
      writes = omega (arith, one.writes, rest.writes);
      resizes = omega (arith, one.resizes, rest.resizes);
      synced_at = omega (arith, one.synced_at, rest.synced_at);
    }

pub Grows-Reaches : (old new : DiskState) → IsCounted old → Reaches old new → Grows old new
Grows-Reaches old new was way = subst (λ (d : DiskState). Grows old d) way.1 (Grows-calls old way.0 was)

-- ---- syncs that change nothing

cell_stands : (cell : Cell) → cell.later ≡ [] → synced_cell cell ≡ cell
cell_stands cell alone = subst (λ (later : List (List ℕ)). synced_cell (record { first = cell.first; later = later; hurt = cell.hurt }) ≡ record { first = cell.first; later = later; hurt = cell.hurt }) (sym alone) refl

same_but_synced : (a b : DiskState) → a.size ≡ b.size → ((place : ℕ) → a.cells place ≡ b.cells place) → a.writes ≡ b.writes → a.resizes ≡ b.resizes → a.synced_at ≡ b.synced_at → a ≡ b
same_but_synced a b size cells writes resizes synced_at = λ i. record { size = size i; cells = λ place. cells place i; writes = writes i; resizes = resizes i; synced_at = synced_at i }

-- a sync that covers no new write changes nothing
pub synced-again : (d : DiskState) → IsCounted d → d.synced_at ≡ d.writes → synced d ≡ d
synced-again d was all = same_but_synced (synced d) d refl (λ place. cell_stands (d.cells place) (was.settled all place)) refl refl (sym all)

-- where neither a write nor a resize is made, there is a sync or nothing
pub only_syncs : (d : DiskState) (calls : List DiskCall) → made calls ≡ 0 → (after_calls d calls ≡ d) ⊎ (after_calls d calls ≡ synced d)
only_syncs d [] none = inl refl
only_syncs d (Write place page ∷ calls) none = absurd (omega (arith, none))
only_syncs d (Sync ∷ calls) none = elim (only_syncs (synced d) calls none) [ inl same ↦ inr same | inr same ↦ inr same ]
only_syncs d (Resize blocks ∷ calls) none = absurd (omega (arith, none))

Reaches-none : (old new : DiskState) (way : Reaches old new) → made way.0 ≡ 0 → (new ≡ old) ⊎ (new ≡ synced old)
Reaches-none old new way none = elim (only_syncs old way.0 none) [ inl same ↦ inl (sym way.1 ∙ same) | inr same ↦ inr (sym way.1 ∙ same) ]

-- and where no sync covered a new write either, nothing
idle : (old new : DiskState) → IsCounted old → new.synced_at ≡ old.synced_at → (new ≡ old) ⊎ (new ≡ synced old) → new ≡ old
idle old new was same (inl is) = is
idle old new was same (inr is) =
    let noted : new.synced_at ≡ old.writes = ap (λ (d : DiskState). d.synced_at) is in
    is ∙ synced-again old was (sym same ∙ noted)

Reaches-work : (old new : DiskState) (way : Reaches old new) → work new ≡ work old + made way.0
Reaches-work old new way = ap work (sym way.1) ∙ after_calls-work old way.0

-- ---- no call, and one

none_or_synced : (old d : DiskState) → (d ≡ old) ⊎ (d ≡ synced old) → (old ≡ d) ⊎ (old ≡ synced d) → d ≡ old
none_or_synced old d (inl is) back = is
none_or_synced old d (inr is) (inl back) = sym back
none_or_synced old d (inr is) (inr back) = is ∙ sym (back ∙ ap synced is)

pub moment_of_none : (old d : DiskState) → IsDiskState old → IsMoment old old d → d ≡ old
moment_of_none old d disk moment =
    let forth = Reaches-work old d moment.before in
    let back = Reaches-work d old moment.after in
    none_or_synced old d (Reaches-none old d moment.before (omega (arith, forth, back))) (Reaches-none d old moment.after (omega (arith, forth, back)))

first_or_last : (old d new : DiskState) (n m : ℕ) → n + m ≡ 1 → (n ≡ 0 → d ≡ old) → (m ≡ 0 → new ≡ d) → (d ≡ old) ⊎ (d ≡ new)
first_or_last old d new zero m one before after = inl (before refl)
first_or_last old d new (suc n) m one before after = inr (sym (after (omega (arith, one))))

-- one piece of work that is no sync stands before the moment, or after it
moment_of_work : (old new d : DiskState) → IsCounted old → work new ≡ work old + 1 → new.synced_at ≡ old.synced_at → IsMoment old new d → (d ≡ old) ⊎ (d ≡ new)
moment_of_work old new d was one same moment =
    let forth = Reaches-work old d moment.before in
    let back = Reaches-work d new moment.after in
    let grows = Grows-Reaches old d was moment.before in
    let grows_on = Grows-Reaches d new grows.counted moment.after in
    first_or_last old d new (made moment.before.0) (made moment.after.0) (omega (arith, forth, back, one))
    (λ none. idle old d was (omega (arith, grows.synced_at, grows_on.synced_at, same)) (Reaches-none old d moment.before none))
    (λ none. idle d new grows.counted (omega (arith, grows.synced_at, grows_on.synced_at, same)) (Reaches-none d new moment.after none))

moment_of_sync : (old d : DiskState) → IsMoment old (synced old) d → (d ≡ old) ⊎ (d ≡ synced old)
moment_of_sync old d moment =
    let forth = Reaches-work old d moment.before in
    let back = Reaches-work d (synced old) moment.after in
    Reaches-none old d moment.before (omega (arith, forth, back))

pub moment_of_one : (old d : DiskState) (call : DiskCall) → IsDiskState old → IsMoment old (after_call old call) d → (d ≡ old) ⊎ (d ≡ after_call old call)
moment_of_one old d (Write place page) disk moment = moment_of_work old (written old place page) d disk.counted (omega arith) refl moment
moment_of_one old d Sync disk moment = moment_of_sync old d moment
moment_of_one old d (Resize blocks) disk moment = moment_of_work old (resized old blocks) d disk.counted (omega arith) refl moment

-- ---- writes alone

-- more, and then more again
pub HasMore-trans : (a b c : Cell) → HasMore a b → HasMore b c → HasMore a c
HasMore-trans a b c x y = record {
  first = y.first ∙ x.first;
  page = x.page;
  more = x.more ++ y.page ∷ y.more;
  later = y.later ∙ ap (λ (pages : List (List ℕ)). pages ++ y.page ∷ y.more) x.later ∙ append_assoc a.later (x.page ∷ x.more) (y.page ∷ y.more);
  whole = y.whole;
}

-- a place that stands or has more, and then again
stands_or_more-trans : (a b c : Cell) → (b ≡ a) ⊎ HasMore a b → (c ≡ b) ⊎ HasMore b c → (c ≡ a) ⊎ HasMore a c
stands_or_more-trans a b c (inl same) (inl again) = inl (again ∙ same)
stands_or_more-trans a b c (inl same) (inr more) = let Q : Cell → Type 0 = λ from. HasMore from c in inr (subst Q same more)
stands_or_more-trans a b c (inr more) (inl again) = let Q : Cell → Type 0 = λ to. HasMore a to in inr (subst Q (sym again) more)
stands_or_more-trans a b c (inr more) (inr again) = inr (HasMore-trans a b c more again)

pub OnlyWrites-refl : (d : DiskState) → OnlyWrites d d
OnlyWrites-refl d = record { size = refl; resizes = refl; synced_at = refl; writes = omega arith; each = λ place. inl refl }

pub OnlyWrites-trans : (a b c : DiskState) → OnlyWrites a b → OnlyWrites b c → OnlyWrites a c
OnlyWrites-trans a b c x y = record {
  size = y.size ∙ x.size;
  resizes = y.resizes ∙ x.resizes;
  synced_at = y.synced_at ∙ x.synced_at;
  writes = omega (arith, x.writes, y.writes);
  each = λ place. stands_or_more-trans (a.cells place) (b.cells place) (c.cells place) (x.each place) (y.each place);
}

-- the place of a write has more, each other one stands
written_or_not : (here : Bool) (cell : Cell) (page : List ℕ) → (cond here (written_cell cell page) cell ≡ cell) ⊎ HasMore cell (cond here (written_cell cell page) cell)
written_or_not true cell page = inr (record { first = refl; page = page; more = []; later = refl; whole = refl })
written_or_not false cell page = inl refl

-- one write
pub OnlyWrites-written : (d : DiskState) (place : ℕ) (page : List ℕ) → OnlyWrites d (written d place page)
OnlyWrites-written d place page = record {
  size = refl;
  resizes = refl;
  synced_at = refl;
  writes = omega arith;
  each = λ q. written_or_not (eqb q place) (d.cells q) page;
}

-- where no resize was made and no sync covered a new write, writes alone were
pub OnlyWrites-calls : (d : DiskState) (calls : List DiskCall) → IsCounted d → (after_calls d calls).synced_at ≡ d.synced_at → (after_calls d calls).resizes ≡ d.resizes → OnlyWrites d (after_calls d calls)
OnlyWrites-calls d [] was same none = OnlyWrites-refl d
OnlyWrites-calls d (Write place page ∷ calls) was same none =
    OnlyWrites-trans d (written d place page) (after_calls (written d place page) calls) (OnlyWrites-written d place page) (OnlyWrites-calls (written d place page) calls (IsCounted-call d (Write place page) was) same none)
OnlyWrites-calls d (Sync ∷ calls) was same none =
    let counts = IsCounted-call d Sync was in
    let rest = Grows-calls (synced d) calls counts in
    let covered : d.synced_at ≡ d.writes = omega (arith, was.covers, rest.synced_at, same) in
    let Q : DiskState → Type 0 = λ from. OnlyWrites from (after_calls (synced d) calls) in
    subst Q (synced-again d was covered) (OnlyWrites-calls (synced d) calls counts (same ∙ covered) none)
OnlyWrites-calls d (Resize blocks ∷ calls) was same none =
    let rest = Grows-calls (resized d blocks) calls (IsCounted-call d (Resize blocks) was) in
    absurd (omega (arith, rest.resizes, none))

-- the same for a state that some calls lead to
pub OnlyWrites-Reaches : (old new : DiskState) → IsCounted old → Reaches old new → new.synced_at ≡ old.synced_at → new.resizes ≡ old.resizes → OnlyWrites old new
OnlyWrites-Reaches old new was way same none =
    let Q : DiskState → Type 0 = λ d. OnlyWrites old d in
    subst Q way.1 (OnlyWrites-calls old way.0 was (ap (λ (d : DiskState). d.synced_at) way.1 ∙ same) (ap (λ (d : DiskState). d.resizes) way.1 ∙ none))

pub moment_by_writes : (old new d : DiskState) → IsDiskState old → IsMoment old new d → new.synced_at ≡ old.synced_at → new.resizes ≡ old.resizes → OnlyWrites old d × OnlyWrites d new
moment_by_writes old new d disk moment same none =
    let forth = Grows-Reaches old d disk.counted moment.before in
    let back = Grows-Reaches d new forth.counted moment.after in (
      OnlyWrites-Reaches old d disk.counted moment.before (omega (arith, forth.synced_at, back.synced_at, same)) (omega (arith, forth.resizes, back.resizes, none)),
      OnlyWrites-Reaches d new forth.counted moment.after (omega (arith, forth.synced_at, back.synced_at, same)) (omega (arith, forth.resizes, back.resizes, none)),
    )

-- ---- for clients: how to show that each moment has P

pub Reaches-refl : (d : DiskState) → Reaches d d
Reaches-refl d = ([], refl)

pub Reaches-call : (d : DiskState) (call : DiskCall) → Reaches d (after_call d call)
Reaches-call d call = (call ∷ [], refl)

after_calls-append : (d : DiskState) (before after : List DiskCall) → after_calls d (before ++ after) ≡ after_calls (after_calls d before) after
after_calls-append d [] after = refl
after_calls-append d (call ∷ before) after = after_calls-append (after_call d call) before after

pub Reaches-trans : (a b c : DiskState) → Reaches a b → Reaches b c → Reaches a c
Reaches-trans a b c x y =
    (x.0 ++ y.0, after_calls-append a x.0 y.0 ∙ ap (λ (d : DiskState). after_calls d y.0) x.1 ∙ y.1)

-- no call, or a call that was not made
pub EachMoment-none : (P : DiskState → Type 0) (old : DiskState) → P old → EachMoment P old old
EachMoment-none P old here = record {
  reached = Reaches-refl old;
  each = λ d disk moment. subst P (sym (moment_of_none old d disk moment)) here;
}

-- one call
pub EachMoment-call : (P : DiskState → Type 0) (old : DiskState) (call : DiskCall) → P old → P (after_call old call) → EachMoment P old (after_call old call)
EachMoment-call P old call before after = record {
  reached = Reaches-call old call;
  each = λ d disk moment. elim (moment_of_one old d call disk moment) [
    | inl same ↦ subst P (sym same) before
    | inr same ↦ subst P (sym same) after
  ];
}

-- a call that was made or wasn't
pub EachMoment-tried : (P : DiskState → Type 0) (old new : DiskState) (call : DiskCall) → (new ≡ old) ⊎ (new ≡ after_call old call) → P old → P new → EachMoment P old new
EachMoment-tried P old new call (inl same) before after = subst (EachMoment P old) (sym same) (EachMoment-none P old before)
EachMoment-tried P old new call (inr same) before after = subst (EachMoment P old) (sym same) (EachMoment-call P old call before (subst P same after))

-- calls without a sync, whatever lies between the two states by writes alone
pub EachMoment-writes : (P : DiskState → Type 0) (old new : DiskState) → Reaches old new → new.synced_at ≡ old.synced_at → new.resizes ≡ old.resizes → ((d : DiskState) → OnlyWrites old d → OnlyWrites d new → P d) → EachMoment P old new
EachMoment-writes P old new reached same none between = record {
  reached = reached;
  each = λ d disk moment.
      let parts = moment_by_writes old new d disk moment same none in
      between d parts.0 parts.1;
}

-- what each moment has, each moment has that follows from it
pub EachMoment-weaker : (P Q : DiskState → Type 0) (old new : DiskState) → ((d : DiskState) → P d → Q d) → EachMoment P old new → EachMoment Q old new
EachMoment-weaker P Q old new goes each = record {
  reached = each.reached;
  each = λ d disk moment. goes d (each.each d disk moment);
}
