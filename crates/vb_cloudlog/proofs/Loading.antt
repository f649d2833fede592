-- What is read of a log, piece by piece.
use Rattle.std.proofs.Common.{◌≡◌, ℕ, ◌+◌, ◌-◌, ◌≤◌, true, List, [], length, drop, take, Option, Some, None, Result, Ok, Err, refl, sym, ap, ◌∙◌, arith, subst, inl, inr}
use Rattle.std.proofs.lemmas.List.{length-take, length-drop, take_all, take-append-drop}
use Rattle.vb_cause.specs.Faults.{greatest_count}
use Rattle.vb_cloud.specs.Machine.{CloudState, new_cloud}
use Rattle.vb_cloudlog.specs.declared.log_refusal.LogRefusal.{LogRefusal}
use Rattle.vb_cloudlog.specs.declared.log_refusal.LogRefusal.TheVariants.{BadFrame, OutOfOrder, LogFault, Memory}
use Rattle.vb_cloudlog.specs.declared.stop.Stop.{Stop}
use Rattle.vb_cloudlog.specs.declared.stop.Stop.TheVariants as stop
use Rattle.vb_cloudlog.specs.Replays.{ReplayState, new_replay, frames_taken, fed, replay_of}
use Rattle.vb_cloudlog.specs.Loads.{refusal_of, cloud_unless, cloud_in, frames_part, ReadsTo, ReadsPiece, CutsRest, LoadsFrom, LoadsLog, IsHeld, told_by}
use Rattle.vb_cloudlog.proofs.Openings.{opening-nothing}
use Rattle.vb_cloudlog.proofs.Feeding.{fed-nothing, fed-in_two, fed-piece, stopped-stays, up_to, IsTakenUpTo, all_of}

-- a reader that stopped in a front of some bytes stops in them
pub front-stops : (r new : ReplayState) (m : ℕ) (bytes : List ℕ) (at : Stop) → new ≡ fed r (take m bytes) → new.stop ≡ Some at → fed r bytes ≡ new
front-stops r new m bytes at is stops =
    ap (fed r) (sym (take-append-drop m bytes)) ∙ fed-in_two r (take m bytes) (drop m bytes)
    ∙ ap (λ (s : ReplayState). fed s (drop m bytes)) (sym is) ∙ stopped-stays new at (drop m bytes) stops

pub piece-stops : (r new : ReplayState) (m n : ℕ) (piece bytes : List ℕ) (at : Stop) → new ≡ fed r (take m piece) → piece ≡ take n bytes → new.stop ≡ Some at → (fed r bytes).stop ≡ Some at
piece-stops r new m n piece bytes at is front stops =
    let first : fed r piece ≡ new = front-stops r new m piece at is stops in
    let whole : fed r bytes ≡ new = front-stops r new n bytes at (sym first ∙ ap (fed r) front) stops in
    ap (λ (s : ReplayState). s.stop) whole ∙ stops

-- the refusal of a stop
pub stop-read : (all : List ℕ) (place : ℕ) (before after : ReplayState) (at : Stop) (refusal : LogRefusal) → (fed before (drop place all)).stop ≡ Some at → refusal ≡ refusal_of at → ReadsPiece all place before after (Err refusal)
stop-read all place before after at refusal stops is = subst (λ (r : LogRefusal). ReadsPiece all place before after (Err r)) (sym is) (by at stops)
  where
    by : (at : Stop) → (fed before (drop place all)).stop ≡ Some at → ReadsPiece all place before after (Err (refusal_of at))
    by (stop.BadFrame p) stops = stops
    by (stop.OutOfOrder p refusal) stops = stops

-- where the rest of a log stops the reader, the log does
pub rest-stops : (all : List ℕ) (place : ℕ) (r after : ReplayState) (refusal : LogRefusal) → r ≡ replay_of (take place all) → ReadsPiece all place r after (Err refusal) → ReadsTo all (Err refusal)
rest-stops all place r after refusal is = by refusal
  where
    whole : fed r (drop place all) ≡ replay_of all
    whole =
        ap (λ (s : ReplayState). fed s (drop place all)) is ∙ sym (fed-in_two new_replay (take place all) (drop place all))
        ∙ ap (fed new_replay) (take-append-drop place all)

    by : (refusal : LogRefusal) → ReadsPiece all place r after (Err refusal) → ReadsTo all (Err refusal)
    by (BadFrame p) stops = sym (ap (λ (s : ReplayState). s.stop) whole) ∙ stops
    by (OutOfOrder p refusal) stops = sym (ap (λ (s : ReplayState). s.stop) whole) ∙ stops
    by LogFault stops = tt
    by Memory stops = tt

-- a reader that was fed one piece more
pub piece-fed : (all : List ℕ) (place n : ℕ) (r after : ReplayState) → r ≡ replay_of (take place all) → after ≡ fed r (take n (drop place all)) → after ≡ replay_of (take (place + n) all)
piece-fed all place n r after is fed_is =
    fed_is ∙ ap (λ (s : ReplayState). fed s (take n (drop place all))) is ∙ fed-piece new_replay place n all

-- nothing was fed
pub nothing-fed : (all : List ℕ) (r : ReplayState) → r ≡ new_replay → r ≡ replay_of (take 0 all)
nothing-fed all r is = is ∙ sym (fed-nothing new_replay opening-nothing)

-- the whole log was fed
pub all-fed : (all : List ℕ) (place len : ℕ) (r : ReplayState) → r ≡ replay_of (take place all) → len ≡ length all → len ≤ place → r ≡ replay_of all
all-fed all place len r is long past = is ∙ ap replay_of (take_all place all (omega (arith, long, past)))

-- ---- what is cut away

-- a log that is cut behind its frames
record IsCut (all : List ℕ) (r : ReplayState) : Type 0 where
  at_place : take r.place all ≡ frames_part all
  loaded : replay_of (frames_part all) ≡ record { cloud = r.cloud; place = r.place; rest = []; stop = None }

-- the bytes of a log, taken from the start
taken_all : (all : List ℕ) → replay_of all ≡ frames_taken (length all) new_cloud 0 all
taken_all all = sym (all_of (length all) new_cloud 0 all (omega arith))

is-cut : (all : List ℕ) (r : ReplayState) → r ≡ replay_of all → length all ≤ greatest_count → r.stop ≡ None → IsCut all r
is-cut all r is few goes = by (up_to (length all) new_cloud 0 all (omega (arith, few)) (ap (λ (s : ReplayState). s.stop) (sym (taken_all all) ∙ sym is) ∙ goes))
  where
    by : ((j : ℕ) × IsTakenUpTo (length all) new_cloud 0 all (frames_taken (length all) new_cloud 0 all) j) → IsCut all r
    by (j, taken) =
        let same : r ≡ frames_taken (length all) new_cloud 0 all = is ∙ taken_all all in
        let place : r.place ≡ j = ap (λ (s : ReplayState). s.place) same ∙ taken.place ∙ omega arith in
        let rest : length (replay_of all).rest ≡ length all - j =
        ap (λ (s : ReplayState). length s.rest) (taken_all all) ∙ ap (λ (xs : List ℕ). length xs) taken.rest ∙ length-drop j all in
        let count : length all - length (replay_of all).rest ≡ j = omega (arith, rest, taken.within) in
        let part : frames_part all ≡ take j all = ap (λ (n : ℕ). take n all) count in
        let long : length (take j all) ≤ length all = omega (arith, length-take j all) in
        record {
          at_place = ap (λ (n : ℕ). take n all) place ∙ sym part;
          loaded =
              ap replay_of part ∙ sym (all_of (length all) new_cloud 0 (take j all) long) ∙ taken.front
              ∙ ap (λ (s : ReplayState). record { cloud = s.cloud; place = s.place; rest = []; stop = None }) (sym same);
        }

clouds-in : (bytes : List ℕ) (r : ReplayState) → r ≡ replay_of bytes → r.stop ≡ None → cloud_in bytes ≡ Some r.cloud
clouds-in bytes r is goes =
    ap (λ (s : ReplayState). cloud_unless s.stop s.cloud) (sym is) ∙ ap (λ (stop : Option Stop). cloud_unless stop r.cloud) goes

pub loads-cut : (all : List ℕ) (told : Option (List ℕ)) (replay : ReplayState) → ReadsTo all (Ok replay) → replay.stop ≡ None → told ≡ Some (take replay.place all) → LoadsFrom all told (Ok replay.cloud)
loads-cut all told replay reads goes is =
    let cut = is-cut all replay reads.0 reads.1 goes in (
      clouds-in all replay reads.0 goes,
      is ∙ ap (λ (xs : List ℕ). Some xs) cut.at_place,
      clouds-in (frames_part all) _ (sym cut.loaded) refl,
      ap (λ (s : ReplayState). s.rest) cut.loaded,
    )

pub loads-whole : (all : List ℕ) (told : Option (List ℕ)) (replay : ReplayState) → ReadsTo all (Ok replay) → replay.stop ≡ None → replay.rest ≡ [] → told ≡ Some all → LoadsFrom all told (Ok replay.cloud)
loads-whole all told replay reads goes none is =
    let nothing : length (replay_of all).rest ≡ 0 = ap (λ (s : ReplayState). length s.rest) (sym reads.0) ∙ ap (λ (xs : List ℕ). length xs) none in
    let count : length all - length (replay_of all).rest ≡ length all = omega (arith, nothing) in
    let part : frames_part all ≡ all = ap (λ (n : ℕ). take n all) count ∙ take_all (length all) all (omega arith) in (
      clouds-in all replay reads.0 goes,
      is ∙ ap (λ (xs : List ℕ). Some xs) (sym part),
      ap cloud_in part ∙ clouds-in all replay reads.0 goes,
      ap (λ (xs : List ℕ). (replay_of xs).rest) part ∙ ap (λ (s : ReplayState). s.rest) (sym reads.0) ∙ none,
    )

pub loads-refused : (all : List ℕ) (told : Option (List ℕ)) (refusal : LogRefusal) → ReadsTo all (Err refusal) → told ≡ Some all → LoadsFrom all told (Err refusal)
loads-refused all told (BadFrame p) stops is = (stops, is)
loads-refused all told (OutOfOrder p refusal) stops is = (stops, is)
loads-refused all told LogFault free is = is
loads-refused all told Memory free is = is

-- a log was read, and cut or not
pub loads-read : (all : List ℕ) (told : Option (List ℕ)) (replay : ReplayState) (k : CloudState) → ReadsTo all (Ok replay) → replay.stop ≡ None → CutsRest replay all told (Ok tt) → k ≡ replay.cloud → LoadsFrom all told (Ok k)
loads-read all told replay k reads goes cuts same = subst (λ (k : CloudState). LoadsFrom all told (Ok k)) (sym same) (by cuts)
  where
    by : CutsRest replay all told (Ok tt) → LoadsFrom all told (Ok replay.cloud)
    by (inl is) = loads-cut all told replay reads goes is
    by (inr (none, is)) = loads-whole all told replay reads goes none is

-- a log was read, and not cut
pub loads-uncut : (all : List ℕ) (told : Option (List ℕ)) (replay : ReplayState) (refusal : LogRefusal) → CutsRest replay all told (Err refusal) → LoadsFrom all told (Err refusal)
loads-uncut all told replay LogFault is = is
loads-uncut all told replay Memory is = is
loads-uncut all told replay (BadFrame p) none = absurd none
loads-uncut all told replay (OutOfOrder p refusal) none = absurd none

-- the loaded cloud is held
pub held-now : (told told' : Option (List ℕ)) (k : CloudState) → ((all : List ℕ) → told ≡ Some all → LoadsFrom all told' (Ok k)) → (told ≡ None → told' ≡ None) → IsHeld told' true k
held-now None told' k loads none all is on = absurd (cc (sym (none refl) ∙ is))
held-now (Some bytes) told' k loads none all is on =
    let all_loaded = loads bytes refl in
    let same : frames_part bytes ≡ all = somes (frames_part bytes) all (sym all_loaded.1 ∙ is) in
    (ap cloud_in (sym same) ∙ all_loaded.2, ap (λ (xs : List ℕ). (replay_of xs).rest) (sym same) ∙ all_loaded.3)
  where
    somes : (a b : List ℕ) → ◌≡◌ {A = Option (List ℕ)} (Some a) (Some b) → a ≡ b
    somes a b e = cc

-- a load leaves what the log tells
pub told-stays : (told told' : Option (List ℕ)) (k : CloudState) (result : Result (Unit {0}) LogRefusal) → ((all : List ℕ) → told ≡ Some all → LoadsLog all told' k result) → (told ≡ None → told' ≡ None) → told_by told' ≡ told_by told
told-stays None told' k result loads none = ap told_by (none refl)
told-stays (Some all) told' k (Ok done) loads none =
    let all_loaded = loads all refl in
    ap told_by all_loaded.1 ∙ all_loaded.2 ∙ sym all_loaded.0
told-stays (Some all) told' k (Err LogFault) loads none = ap told_by (loads all refl)
told-stays (Some all) told' k (Err Memory) loads none = ap told_by (loads all refl)
told-stays (Some all) told' k (Err (BadFrame p)) loads none = let loaded = loads all refl in ap told_by loaded.1
told-stays (Some all) told' k (Err (OutOfOrder p refusal)) loads none = let loaded = loads all refl in ap told_by loaded.1

pub ruleset pieces = (nothing-fed, piece-fed, all-fed, rest-stops)

pub ruleset loading = (loads-read, loads-uncut, loads-refused)
