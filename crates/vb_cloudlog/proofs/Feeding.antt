-- It doesn't matter how a log is cut into pieces.
use Rattle.std.proofs.Common.{◌≡◌, ℕ, zero, suc, ◌≤◌, ◌+◌, List, [], ◌∷◌, ◌++◌, length, drop, take, Option, Some, None, Result, Ok, Err, refl, sym, ap, ◌∙◌, arith, append_assoc, append-nil, subst}
use Rattle.std.proofs.lemmas.List.{length-append, drop_at, drop-drop, take_at}
use Rattle.vb_cause.specs.Faults.{greatest_count}
use Rattle.vb_msg.specs.declared.message.Msg.{Msg}
use Rattle.vb_msg.specs.Frames.{frame}
use Rattle.vb_msg.proofs.WholeFrames.{length-frame}
use Rattle.vb_cloud.specs.declared.refusal.CloudRefusal.{CloudRefusal}
use Rattle.vb_cloud.specs.Machine.{CloudState, cloud_step}
use Rattle.vb_cloudlog.specs.declared.stop.Stop.{Stop}
use Rattle.vb_cloudlog.specs.declared.stop.Stop.TheVariants.{BadFrame, OutOfOrder}
use Rattle.vb_cloudlog.specs.Messages.{Opening, Whole, Partial, Wrong, opening_of}
use Rattle.vb_cloudlog.specs.Replays.{ReplayState, moved, stopped_at, frames_taken, opening_taken, step_taken, all_taken, fed_to, fed}
use Rattle.vb_cloudlog.proofs.Openings.{opening-frame, opening-nothing, whole-front_is, wrong-stays}

-- what comes next
abbrev pub next_of : ℕ → ℕ → List ℕ → ℕ → CloudState → ReplayState
next_of n p bytes len after = frames_taken n after (moved p len) (drop len bytes)

-- by what begins the bytes
pub opened : (n : ℕ) (k : CloudState) (p : ℕ) (bytes : List ℕ) (opening : Opening) → opening_of bytes ≡ opening → frames_taken (suc n) k p bytes ≡ opening_taken (next_of n p bytes) k p bytes opening
opened n k p bytes opening is = ap (opening_taken (next_of n p bytes) k p bytes) is

-- where no byte is left, nothing more is taken
none_left : (n : ℕ) (k : CloudState) (p : ℕ) (bytes : List ℕ) → length bytes ≤ 0 → frames_taken n k p bytes ≡ record { cloud = k; place = p; rest = bytes; stop = None }
none_left zero k p bytes few = refl
none_left (suc n) k p [] few = opened n k p [] Partial opening-nothing
none_left (suc n) k p (b ∷ bs) few = absurd (omega (arith, few))

-- where less than a frame is left, nothing more is taken
pub partial-kept : (n : ℕ) (k : CloudState) (p : ℕ) (bytes : List ℕ) → opening_of bytes ≡ Partial → frames_taken n k p bytes ≡ record { cloud = k; place = p; rest = bytes; stop = None }
partial-kept zero k p bytes is = refl
partial-kept (suc n) k p bytes is = opened n k p bytes Partial is

-- the bytes behind a first frame
record IsBehind (bytes more : List ℕ) (m : Msg) : Type 0 where
  begins : opening_of (bytes ++ more) ≡ Whole m
  dropped : drop (length (frame m)) (bytes ++ more) ≡ drop (length (frame m)) bytes ++ more
  fewer : length (drop (length (frame m)) bytes) + 37 ≤ length bytes

behind : (bytes more : List ℕ) (m : Msg) → opening_of bytes ≡ Whole m → IsBehind bytes more m
behind bytes more m is =
    let tail = drop (length (frame m)) bytes in
    let parts : bytes ≡ frame m ++ tail = whole-front_is bytes m is in
    let both : bytes ++ more ≡ frame m ++ (tail ++ more) = ap (λ (bs : List ℕ). bs ++ more) parts ∙ append_assoc (frame m) tail more in
    record {
      begins = ap opening_of both ∙ opening-frame m (tail ++ more);
      dropped = ap (drop (length (frame m))) both ∙ drop_at (frame m) (tail ++ more) (length (frame m)) refl;
      fewer = omega (arith, ap (λ (bs : List ℕ). length bs) parts, length-append (frame m) tail, length-frame m);
    }

longer : (bytes more : List ℕ) → length (bytes ++ more) ≡ length bytes + length more
longer bytes more = length-append bytes more

abbrev EnoughFor : ℕ → ℕ → Type 0
EnoughFor n l = (k : CloudState) (p : ℕ) (bs : List ℕ) → length bs ≤ n → length bs ≤ l → frames_taken n k p bs ≡ frames_taken l k p bs

-- any number of frames that is large enough takes them all
pub enough : (n l : ℕ) (k : CloudState) (p : ℕ) (bytes : List ℕ) → length bytes ≤ n → length bytes ≤ l → frames_taken n k p bytes ≡ frames_taken l k p bytes
enough zero l k p bytes fn fl = sym (none_left l k p bytes fn)
enough (suc n) zero k p bytes fn fl = none_left (suc n) k p bytes fl
enough (suc n) (suc l) k p bytes fn fl = by (λ k p bs a b. enough n l k p bs a b) (opening_of bytes) refl
  where
    by_step : EnoughFor n l → (m : Msg) → opening_of bytes ≡ Whole m → (step : Result CloudState CloudRefusal) → step_taken (next_of n p bytes (length (frame m))) k p step ≡ step_taken (next_of l p bytes (length (frame m))) k p step
    by_step again m is (Err refusal) = refl
    by_step again m is (Ok after) =
        let there = behind bytes [] m is in
        let fewer = there.fewer in
        again after (moved p (length (frame m))) (drop (length (frame m)) bytes) (omega arith) (omega arith)

    by : EnoughFor n l → (opening : Opening) → opening_of bytes ≡ opening → frames_taken (suc n) k p bytes ≡ frames_taken (suc l) k p bytes
    by again Partial is = opened n k p bytes Partial is ∙ sym (opened l k p bytes Partial is)
    by again Wrong is = opened n k p bytes Wrong is ∙ sym (opened l k p bytes Wrong is)
    by again (Whole m) is = opened n k p bytes (Whole m) is ∙ by_step again m is (cloud_step k m) ∙ sym (opened l k p bytes (Whole m) is)

pub all_of : (l : ℕ) (k : CloudState) (p : ℕ) (bytes : List ℕ) → length bytes ≤ l → frames_taken l k p bytes ≡ all_taken k p bytes
unfolding all_taken
all_of l k p bytes few = enough l (length bytes) k p bytes few (omega arith)

abbrev InTwoFor : ℕ → ℕ → List ℕ → Type 0
InTwoFor n l more = (k : CloudState) (p : ℕ) (bs : List ℕ) → length bs ≤ n → length (bs ++ more) ≤ l → frames_taken l k p (bs ++ more) ≡ fed (frames_taken n k p bs) more

-- what is taken of bytes and more is what is taken of more, after the bytes
in_two : (n l : ℕ) (k : CloudState) (p : ℕ) (bytes more : List ℕ) → length bytes ≤ n → length (bytes ++ more) ≤ l → frames_taken l k p (bytes ++ more) ≡ fed (frames_taken n k p bytes) more
in_two zero l k p bytes more fn fl = all_of l k p (bytes ++ more) fl
in_two (suc n) zero k p bytes more fn fl =
    let sum = longer bytes more in
    all_of zero k p (bytes ++ more) fl ∙ ap (λ (r : ReplayState). fed r more) (sym (none_left (suc n) k p bytes (omega arith)))
in_two (suc n) (suc l) k p bytes more fn fl = by (λ k p bs a b. in_two n l k p bs more a b) (opening_of bytes) refl
  where
    by_step : InTwoFor n l more → (m : Msg) → opening_of bytes ≡ Whole m → (step : Result CloudState CloudRefusal) → step_taken (next_of l p (bytes ++ more) (length (frame m))) k p step ≡ fed (step_taken (next_of n p bytes (length (frame m))) k p step) more
    by_step again m is (Err refusal) = refl
    by_step again m is (Ok after) =
        let there = behind bytes more m is in
        let fewer = there.fewer in
        let sum = longer bytes more in
        let rest = longer (drop (length (frame m)) bytes) more in
        ap (frames_taken l after (moved p (length (frame m)))) there.dropped
        ∙ again after (moved p (length (frame m))) (drop (length (frame m)) bytes) (omega arith) (omega arith)

    by : InTwoFor n l more → (opening : Opening) → opening_of bytes ≡ opening → frames_taken (suc l) k p (bytes ++ more) ≡ fed (frames_taken (suc n) k p bytes) more
    by again Partial is = all_of (suc l) k p (bytes ++ more) fl ∙ ap (λ (r : ReplayState). fed r more) (sym (opened n k p bytes Partial is))
    by again Wrong is = opened l k p (bytes ++ more) Wrong (wrong-stays bytes more is) ∙ ap (λ (r : ReplayState). fed r more) (sym (opened n k p bytes Wrong is))
    by again (Whole m) is =
        opened l k p (bytes ++ more) (Whole m) ((behind bytes more m is).begins) ∙ by_step again m is (cloud_step k m)
        ∙ ap (λ (r : ReplayState). fed r more) (sym (opened n k p bytes (Whole m) is))

pub taken-in_two : (k : CloudState) (p : ℕ) (bytes more : List ℕ) → all_taken k p (bytes ++ more) ≡ fed (all_taken k p bytes) more
unfolding all_taken
taken-in_two k p bytes more = in_two (length bytes) (length (bytes ++ more)) k p bytes more (omega arith) (omega arith)

-- a reader that is fed two pieces is fed both
pub fed-in_two : (r : ReplayState) (first second : List ℕ) → fed r (first ++ second) ≡ fed (fed r first) second
fed-in_two r first second = by r.stop refl
  where
    by : (stop : Option Stop) → r.stop ≡ stop → fed_to r stop (first ++ second) ≡ fed (fed_to r stop first) second
    by None is = ap (all_taken r.cloud r.place) (sym (append_assoc r.rest first second)) ∙ taken-in_two r.cloud r.place (r.rest ++ first) second
    by (Some stop) is = ap (λ (s : Option Stop). fed_to r s second) (sym is)

-- ---- one frame, or less

-- bytes that are one frame
pub one-frame : (k : CloudState) (p : ℕ) (m : Msg) → all_taken k p (frame m) ≡ step_taken (λ after. record { cloud = after; place = moved p (length (frame m)); rest = []; stop = None }) k p (cloud_step k m)
unfolding all_taken
one-frame k p m =
    let opening : opening_of (frame m) ≡ Whole m = ap opening_of (sym (append-nil (frame m))) ∙ opening-frame m [] in
    let long = length-frame m in
    enough (length (frame m)) (suc (length (frame m))) k p (frame m) (omega arith) (omega arith)
    ∙ opened (length (frame m)) k p (frame m) (Whole m) opening ∙ by_step (cloud_step k m)
  where
    gone : drop (length (frame m)) (frame m) ≡ []
    gone = ap (drop (length (frame m))) (sym (append-nil (frame m))) ∙ drop_at (frame m) [] (length (frame m)) refl

    by_step : (step : Result CloudState CloudRefusal) → step_taken (next_of (length (frame m)) p (frame m) (length (frame m))) k p step ≡ step_taken (λ after. record { cloud = after; place = moved p (length (frame m)); rest = []; stop = None }) k p step
    by_step (Err refusal) = refl
    by_step (Ok after) =
        ap (frames_taken (length (frame m)) after (moved p (length (frame m)))) gone
        ∙ none_left (length (frame m)) after (moved p (length (frame m))) [] (omega arith)

-- a message that the machine refuses stops the reader, whatever follows
pub refused-there : (k : CloudState) (p : ℕ) (bytes : List ℕ) (m : Msg) (n : ℕ) (refusal : CloudRefusal) → bytes ≡ frame m ++ drop n bytes → cloud_step k m ≡ Err refusal → all_taken k p bytes ≡ stopped_at k p (OutOfOrder p refusal)
refused-there k p bytes m n refusal is step =
    ap (all_taken k p) is ∙ taken-in_two k p (frame m) (drop n bytes)
    ∙ ap (λ (r : ReplayState). fed r (drop n bytes)) (one-frame k p m ∙ ap (step_taken (λ after. record { cloud = after; place = moved p (length (frame m)); rest = []; stop = None }) k p) step)

pub taken-there : (k : CloudState) (p : ℕ) (bytes : List ℕ) (m : Msg) (after : CloudState) → bytes ≡ frame m → cloud_step k m ≡ Ok after → all_taken k p bytes ≡ record { cloud = after; place = moved p (length (frame m)); rest = []; stop = None }
taken-there k p bytes m after is step =
    ap (all_taken k p) is ∙ one-frame k p m ∙ ap (step_taken (λ after. record { cloud = after; place = moved p (length (frame m)); rest = []; stop = None }) k p) step

pub kept-there : (k : CloudState) (p : ℕ) (bytes : List ℕ) → opening_of bytes ≡ Partial → all_taken k p bytes ≡ record { cloud = k; place = p; rest = bytes; stop = None }
unfolding all_taken
kept-there k p bytes is = partial-kept (length bytes) k p bytes is

pub wrong-there : (k : CloudState) (p : ℕ) (bytes : List ℕ) → opening_of bytes ≡ Wrong → all_taken k p bytes ≡ stopped_at k p (BadFrame p)
unfolding all_taken
wrong-there k p bytes is =
    enough (length bytes) (suc (length bytes)) k p bytes (omega arith) (omega arith) ∙ opened (length bytes) k p bytes Wrong is

-- ---- pieces

pub take-in_two : (n m : ℕ) (xs : List ℕ) → take (n + m) xs ≡ take n xs ++ take m (drop n xs)
take-in_two zero m xs = let sum : 0 + m ≡ m = omega arith in ap (λ (n : ℕ). take n xs) sum
take-in_two (suc n) m [] =
    let sum : suc n + m ≡ suc (n + m) = omega arith in
    ap (λ (n : ℕ). take {A = ℕ} n []) sum ∙ sym (nothing m)
  where
    nothing : (m : ℕ) → take {A = ℕ} m [] ≡ []
    nothing zero = refl
    nothing (suc m) = refl
take-in_two (suc n) m (x ∷ xs) =
    let sum : suc n + m ≡ suc (n + m) = omega arith in
    ap (λ (n : ℕ). take n (x ∷ xs)) sum ∙ ap (λ (ys : List ℕ). x ∷ ys) (take-in_two n m xs)

-- feeding nothing changes nothing, where less than a frame is kept
pub fed-nothing : (r : ReplayState) → opening_of r.rest ≡ Partial → fed r [] ≡ r
fed-nothing r partial = by r.stop refl
  where
    by : (stop : Option Stop) → r.stop ≡ stop → fed_to r stop [] ≡ r
    by None is =
        ap (all_taken r.cloud r.place) (append-nil r.rest) ∙ kept-there r.cloud r.place r.rest partial
        ∙ ap (λ (s : Option Stop). record { cloud = r.cloud; place = r.place; rest = r.rest; stop = s }) (sym is)
    by (Some stop) is = refl

pub fed-piece : (r : ReplayState) (n m : ℕ) (piece : List ℕ) → fed (fed r (take n piece)) (take m (drop n piece)) ≡ fed r (take (n + m) piece)
fed-piece r n m piece = sym (fed-in_two r (take n piece) (take m (drop n piece))) ∙ ap (fed r) (sym (take-in_two n m piece))

-- a reader that stopped stays, whatever more it is fed
pub stopped-stays : (r : ReplayState) (stop : Stop) (more : List ℕ) → r.stop ≡ Some stop → fed r more ≡ r
stopped-stays r stop more is = ap (λ (s : Option Stop). fed_to r s more) is

-- ---- the frames of a log

-- a reader that goes on took so many bytes, and only those
pub record IsTakenUpTo (n : ℕ) (k : CloudState) (p : ℕ) (bytes : List ℕ) (r : ReplayState) (j : ℕ) : Type 0 where
  pub within : j ≤ length bytes
  pub place : r.place ≡ p + j
  pub rest : r.rest ≡ drop j bytes
  pub front : frames_taken n k p (take j bytes) ≡ record { cloud = r.cloud; place = r.place; rest = []; stop = None }

nothing-taken : (n : ℕ) (k : CloudState) (p : ℕ) (bytes : List ℕ) → IsTakenUpTo n k p bytes (record { cloud = k; place = p; rest = bytes; stop = None }) 0
nothing-taken n k p bytes = record { within = omega arith; place = omega arith; rest = refl; front = none_left n k p [] (omega arith) }

drops : (n m : ℕ) (xs : List ℕ) → drop (n + m) xs ≡ drop m (drop n xs)
drops n m xs = sym (drop-drop m n xs)

abbrev UpToFor : ℕ → Type 0
UpToFor n = (k : CloudState) (p : ℕ) (bs : List ℕ) → p + length bs ≤ greatest_count → (frames_taken n k p bs).stop ≡ None → (j : ℕ) × IsTakenUpTo n k p bs (frames_taken n k p bs) j

pub up_to : (n : ℕ) (k : CloudState) (p : ℕ) (bytes : List ℕ) → p + length bytes ≤ greatest_count → (frames_taken n k p bytes).stop ≡ None → (j : ℕ) × IsTakenUpTo n k p bytes (frames_taken n k p bytes) j
up_to zero k p bytes few goes = (0, nothing-taken zero k p bytes)
up_to (suc n) k p bytes few goes = by (λ k p bs a b. up_to n k p bs a b) (opening_of bytes) refl
  where
    abbrev-free : (r : ReplayState) → frames_taken (suc n) k p bytes ≡ r → (j : ℕ) × IsTakenUpTo (suc n) k p bytes r j → (j : ℕ) × IsTakenUpTo (suc n) k p bytes (frames_taken (suc n) k p bytes) j
    abbrev-free r is there = subst (λ (r : ReplayState). (j : ℕ) × IsTakenUpTo (suc n) k p bytes r j) (sym is) there

    by_step : UpToFor n → (m : Msg) → opening_of bytes ≡ Whole m → (step : Result CloudState CloudRefusal) → cloud_step k m ≡ step
        → (step_taken (next_of n p bytes (length (frame m))) k p step).stop ≡ None → (j : ℕ) × IsTakenUpTo (suc n) k p bytes (step_taken (next_of n p bytes (length (frame m))) k p step) j
    by_step again m is (Err refusal) step goes = absurd (cc goes)
    by_step again m is (Ok after) step goes =
        let len = length (frame m) in
        let tail = drop len bytes in
        let parts : bytes ≡ frame m ++ tail = whole-front_is bytes m is in
        let long : length bytes ≡ len + length tail = ap (λ (bs : List ℕ). length bs) parts ∙ length-append (frame m) tail in
        let place : moved p len ≡ p + len = omega (arith, few, long) in
        let later = again after (moved p len) tail (omega (arith, place, few, long)) goes in
        let j = later.0 in
        let taken = later.1 in
        let front : take (len + j) bytes ≡ frame m ++ take j tail =
        take-in_two len j bytes ∙ ap (λ (xs : List ℕ). xs ++ take j tail) (ap (take len) parts ∙ take_at (frame m) tail len refl) in (
          len + j,
          record {
            within = omega (arith, long, taken.within);
            place = omega (arith, taken.place, place);
            rest = taken.rest ∙ sym (drops len j bytes);
            front =
                ap (frames_taken (suc n) k p) front
                ∙ opened n k p (frame m ++ take j tail) (Whole m) (opening-frame m (take j tail))
                ∙ ap (step_taken (next_of n p (frame m ++ take j tail) len) k p) step
                ∙ ap (frames_taken n after (moved p len)) (drop_at (frame m) (take j tail) len refl)
                ∙ taken.front;
          },
        )

    by : UpToFor n → (opening : Opening) → opening_of bytes ≡ opening → (j : ℕ) × IsTakenUpTo (suc n) k p bytes (frames_taken (suc n) k p bytes) j
    by again Partial is = abbrev-free _ (opened n k p bytes Partial is) (0, nothing-taken (suc n) k p bytes)
    by again Wrong is = absurd (cc (sym goes ∙ ap (λ (r : ReplayState). r.stop) (opened n k p bytes Wrong is)))
    by again (Whole m) is =
        abbrev-free _ (opened n k p bytes (Whole m) is) (by_step again m is (cloud_step k m) refl (sym (ap (λ (r : ReplayState). r.stop) (opened n k p bytes (Whole m) is)) ∙ goes))
