-- What a cloud in memory tells of itself, and which of its calls fail.
use Rattle.std.specs.Prelude.{◌≡◌, ◌⊎◌, ℕ, Bool, true, if◌then◌else◌, List, length, Option, Some, None, IsSome, Result, Ok, Err}
use Rattle.sha2.specs.Sha256.{sha256}
use Rattle.vb_cause.specs.declared.failures.Failure.{Failure}
use Rattle.vb_cause.specs.Failing.{passed}
use Rattle.vb_cause.specs.Faults.{counted}
use Rattle.vb_msg.specs.declared.message.Msg.{Msg}
use Rattle.vb_cloud.specs.declared.refusal.CloudRefusal.TheVariants.{NoSuchEntry}
use Rattle.vb_cloud.specs.Machine.{CloudState, cloud_step, taken_or}
use Rattle.vb_link.specs.declared.link_error.LinkError.{LinkError}
use Rattle.vb_link.specs.declared.link_error.LinkError.TheVariants.{Failed, Refused, Memory}
use Rattle.vb_link.specs.declared.memory_cloud.MemoryCloud.{MemoryCloud}
use Rattle.vb_link.specs.Links.{IsAnother}

-- the told state
abbrev pub cloud_of : MemoryCloud → CloudState
cloud_of m = m.cloud

-- the calls that are to fail. A failure says whether a message is applied all the same.
abbrev pub link_failures_of : MemoryCloud → List (Failure Bool)
link_failures_of m = m.fails

-- how often a call failed or was refused
abbrev pub link_faults_of : MemoryCloud → ℕ
link_faults_of m = m.faults

-- how many of its calls were made
abbrev pub link_calls_of : MemoryCloud → ℕ
link_calls_of m = m.calls

-- how many messages were sent to it
abbrev pub link_sends_of : MemoryCloud → ℕ
link_sends_of m = m.sends

-- how many failures may still come
abbrev pub link_failures_left_of : MemoryCloud → Option ℕ
link_failures_left_of m = Some (length (link_failures_of m))

-- ---- calls

-- whether a message is applied: where the call isn't listed to fail, or is listed to fail after it
abbrev pub is_applied : Option Bool → Bool
is_applied None = true
is_applied (Some after) = after

-- what a message leaves of a cloud, where the call isn't listed to fail or is listed so
abbrev pub sent_to : Option Bool → CloudState → Msg → CloudState
sent_to listed k m = if is_applied listed then taken_or k (cloud_step k m) else k

-- a sent message is answered Failed exactly where the call is listed, and else as the machine takes or refuses it; it
-- leaves what is applied; for want of memory it leaves all
abbrev pub SendsAsListed : Option Bool → CloudState → Msg → CloudState → Result (Unit {0}) LinkError → Type 0
SendsAsListed listed k m after (Ok done) = (listed ≡ None) × (cloud_step k m ≡ Ok after)
SendsAsListed listed k m after (Err (Refused refusal)) = (listed ≡ None) × (cloud_step k m ≡ Err refusal) × (after ≡ k)
SendsAsListed listed k m after (Err Failed) = IsSome listed × (after ≡ sent_to listed k m)
SendsAsListed listed k m after (Err Memory) = after ≡ k

-- a reading call is answered Failed exactly where it is listed, and else by what is there, or NoSuchEntry where nothing is
abbrev pub ReadsAsListed : {A : Type 0} → Option Bool → Option A → Result A LinkError → Type 0
ReadsAsListed listed there (Ok x) = (listed ≡ None) × (there ≡ Some x)
ReadsAsListed listed there (Err (Refused refusal)) = (listed ≡ None) × (there ≡ None) × (refusal ≡ NoSuchEntry)
ReadsAsListed listed there (Err Failed) = IsSome listed
ReadsAsListed listed there (Err Memory) = Unit {0}

-- a fetch is answered Failed exactly where it is listed or the page that is there has another digest, and else by that
-- page, or NoSuchEntry where none is there
abbrev pub FetchesAsListed : Option Bool → Option (List ℕ) → List ℕ → Result (List ℕ) LinkError → Type 0
FetchesAsListed listed there digest (Ok page) = (listed ≡ None) × (there ≡ Some page) × (sha256 page ≡ digest)
FetchesAsListed listed there digest (Err (Refused refusal)) = (listed ≡ None) × (there ≡ None) × (refusal ≡ NoSuchEntry)
FetchesAsListed listed there digest (Err Failed) = IsSome listed ⊎ IsAnother digest there
FetchesAsListed listed there digest (Err Memory) = Unit {0}

-- what is left of the failures after a call: one that found no memory leaves them all
abbrev pub failures_after : {T : Type 0} → Result T LinkError → List (Failure Bool) → List (Failure Bool)
failures_after (Ok x) fs = passed fs
failures_after (Err Failed) fs = passed fs
failures_after (Err (Refused refusal)) fs = passed fs
failures_after (Err Memory) fs = fs

-- the count of faults after a call: one more where it failed or was refused
abbrev pub faults_after : {T : Type 0} → Result T LinkError → ℕ → ℕ
faults_after (Ok x) n = n
faults_after (Err Failed) n = counted n
faults_after (Err (Refused refusal)) n = counted n
faults_after (Err Memory) n = n

-- a call passed: its failures are used up, and its fault is counted
pub record HasPassed {T : Type 0} (old new : MemoryCloud) (result : Result T LinkError) : Type 0 where
  pub failures : link_failures_of new ≡ failures_after result (link_failures_of old)
  pub faults : link_faults_of new ≡ faults_after result (link_faults_of old)
