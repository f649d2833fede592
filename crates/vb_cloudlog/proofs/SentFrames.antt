-- What a log tells once a frame was appended, or a front of it.
use Rattle.std.proofs.Common.{◌≡◌, ℕ, ◌<◌, ◌≤◌, Bool, true, List, [], ◌++◌, length, take, Option, Some, None, unwrap_or, Result, Ok, Err, refl, sym, ap, ◌∙◌, arith, subst, inl, inr, ◌⊎◌}
use Rattle.std.proofs.lemmas.Bool.{cases_lt}
use Rattle.std.proofs.lemmas.List.{take_all}
use Rattle.vb_cause.specs.Faults.{counted, HasRisen}
use Rattle.vb_msg.specs.declared.message.Msg.{Msg}
use Rattle.vb_msg.specs.Frames.{frame}
use Rattle.vb_msg.proofs.FrameLaws.{fronts-short}
use Rattle.vb_msg.specs.declared.frame_error.FrameError.TheVariants.{Short}
use Rattle.vb_cloud.specs.declared.refusal.CloudRefusal.{CloudRefusal}
use Rattle.vb_cloud.specs.Machine.{CloudState, cloud_step}
use Rattle.sha2.specs.Sha256.{sha256}
use Rattle.std.specs.Option.{option_and_then}
use Rattle.vb_link.specs.Views.{LinkView, view_of, entry_in, digest_in, page_in}
use Rattle.vb_link.proofs.Places.{none_told, no_page_told, page_told}
use Rattle.vb_link.specs.Links.{IsTold, FindsNone, HasLinkCause}
use Rattle.vb_link.specs.declared.link_error.LinkError.{LinkError}
use Rattle.vb_link.specs.declared.link_error.LinkError.TheVariants as link
use Rattle.vb_disk.specs.declared.log_file.LogError.{LogError}
use Rattle.vb_disk.specs.declared.log_file.LogError.TheVariants.{Failed}
use Rattle.vb_cloudlog.specs.declared.stop.Stop.{Stop}
use Rattle.vb_cloudlog.specs.Messages.{Partial, opening_of}
use Rattle.vb_cloudlog.specs.Replays.{ReplayState, new_replay, all_taken, fed_to, replay_of}
use Rattle.vb_cloudlog.specs.Loads.{cloud_unless, cloud_in, told_by, shown_by, IsHeld, added_faults, CountsOwn}
use Rattle.vb_cloudlog.specs.Sends.{AppendsTo}
use Rattle.vb_cloudlog.proofs.Openings.{opening-by_front}
use Rattle.vb_cloudlog.proofs.Feeding.{fed-in_two, kept-there, taken-there}

-- ---- a log that is held

somes : (a b : CloudState) → ◌≡◌ {A = Option CloudState} (Some a) (Some b) → a ≡ b
somes a b e = cc

-- a reader whose cloud is told goes on with it
record GoesOn (r : ReplayState) (k : CloudState) : Type 0 where
  stop : r.stop ≡ None
  cloud : r.cloud ≡ k

goes-on : (r : ReplayState) (k : CloudState) → cloud_unless r.stop r.cloud ≡ Some k → GoesOn r k
goes-on r k is = by r.stop refl is
  where
    by : (stop : Option Stop) → r.stop ≡ stop → cloud_unless stop r.cloud ≡ Some k → GoesOn r k
    by None stop is = record { stop = stop; cloud = somes r.cloud k is }
    by (Some at) stop is = absurd (cc is)

-- what a held log is once some bytes were appended
more-taken : (all more : List ℕ) (k : CloudState) → cloud_in all ≡ Some k → (replay_of all).rest ≡ [] → replay_of (all ++ more) ≡ all_taken k (replay_of all).place more
more-taken all more k is over =
    let r = replay_of all in
    let goes = goes-on r k is in
    fed-in_two new_replay all more
    ∙ ap (λ (stop : Option Stop). fed_to r stop more) goes.stop
    ∙ ap (λ (rest : List ℕ). all_taken r.cloud r.place (rest ++ more)) over
    ∙ ap (λ (k : CloudState). all_taken k r.place more) goes.cloud

tells : (bytes : List ℕ) (r : ReplayState) → replay_of bytes ≡ r → cloud_in bytes ≡ cloud_unless r.stop r.cloud
tells bytes r is = ap (λ (s : ReplayState). cloud_unless s.stop s.cloud) is

-- the whole frame of a message that is taken
pub frame-told : (all : List ℕ) (m : Msg) (k after : CloudState) → cloud_in all ≡ Some k → (replay_of all).rest ≡ [] → cloud_step k m ≡ Ok after → (cloud_in (all ++ frame m) ≡ Some after) × ((replay_of (all ++ frame m)).rest ≡ [])
frame-told all m k after is over step =
    let same = more-taken all (frame m) k is over ∙ taken-there k (replay_of all).place (frame m) m after refl step in
    (tells (all ++ frame m) _ same, ap (λ (s : ReplayState). s.rest) same)

-- less than a whole frame
front-told : (all : List ℕ) (m : Msg) (n : ℕ) (k : CloudState) → cloud_in all ≡ Some k → (replay_of all).rest ≡ [] → n < length (frame m) → cloud_in (all ++ take n (frame m)) ≡ Some k
front-told all m n k is over less =
    let partial : opening_of (take n (frame m)) ≡ Partial = opening-by_front (take n (frame m)) (Err Short) (fronts-short m n less) in
    tells (all ++ take n (frame m)) _ (more-taken all (take n (frame m)) k is over ∙ kept-there k (replay_of all).place (take n (frame m)) partial)

-- any front of the frame: the message is taken, or it isn't
pub kept-told : (all : List ℕ) (m : Msg) (n : ℕ) (k after : CloudState) → cloud_in all ≡ Some k → (replay_of all).rest ≡ [] → cloud_step k m ≡ Ok after
    → (cloud_in (all ++ take n (frame m)) ≡ Some k) ⊎ (cloud_in (all ++ take n (frame m)) ≡ Some after)
kept-told all m n k after is over step = elim (cases_lt n (length (frame m))) [
  | inl less ↦ inl (front-told all m n k is over less)
  | inr whole ↦ inr (ap (λ (xs : List ℕ). cloud_in (all ++ xs)) (take_all n (frame m) whole) ∙ (frame-told all m k after is over step).0)
]

-- ---- what is shown

-- a loaded cloud is shown
pub shown-loaded : (told : Option (List ℕ)) (loaded : Bool) (k : CloudState) → IsHeld told loaded k → loaded ≡ true → shown_by loaded (told_by told) k ≡ Some (view_of k)
shown-loaded None loaded k held on = ap (λ (b : Bool). shown_by b None k) on
shown-loaded (Some all) loaded k held on =
    ap (λ (b : Bool). shown_by b (cloud_in all) k) on ∙ ap (λ (o : Option CloudState). Some (view_of (unwrap_or o k))) (held all refl on).0

-- a loaded cloud is the told one
pub told-loaded : (told : Option (List ℕ)) (loaded : Bool) (k j : CloudState) → IsHeld told loaded k → loaded ≡ true → told_by told ≡ Some j → j ≡ k
told-loaded None loaded k j held on is = absurd (cc is)
told-loaded (Some all) loaded k j held on is = somes j k (sym is ∙ (held all refl on).0)

-- ---- faults

pub log-risen : (log log' own : ℕ) → HasRisen log log' → HasRisen (added_faults log own) (added_faults log' own)
log-risen log log' own risen = omega (arith, risen)

pub own-risen : (log log' own own' : ℕ) → log ≤ log' → own' ≡ counted own → HasRisen (added_faults log own) (added_faults log' own')
own-risen log log' own own' more is = omega (arith, more, is)

-- ---- what is sent

-- a message was taken, and its frame appended
pub sent-ok : (told told' : Option (List ℕ)) (k after j : CloudState) (m : Msg) → IsHeld told true k → ((all : List ℕ) → told ≡ Some all → told' ≡ Some (all ++ frame m))
    → cloud_step k m ≡ Ok after → told_by told ≡ Some j → IsTold (cloud_step j m) (told_by told')
sent-ok None told' k after j m held appends step is = absurd (cc is)
sent-ok (Some all) told' k after j m held appends step is =
    let same : j ≡ k = told-loaded (Some all) true k j held refl is in
    let now : told_by told' ≡ Some after = ap told_by (appends all refl) ∙ (frame-told all m k after (held all refl refl).0 (held all refl refl).1 step).0 in
    subst (λ (r : Result CloudState CloudRefusal). IsTold r (told_by told')) (sym (ap (λ (x : CloudState). cloud_step x m) same ∙ step)) now

pub sent-held : (told told' : Option (List ℕ)) (k after : CloudState) (m : Msg) → IsHeld told true k → ((all : List ℕ) → told ≡ Some all → told' ≡ Some (all ++ frame m))
    → (told ≡ None → told' ≡ None) → cloud_step k m ≡ Ok after → IsHeld told' true after
sent-held None told' k after m held appends none step = λ all is on. absurd (cc (sym (none refl) ∙ is))
sent-held (Some bytes) told' k after m held appends none step = λ all is on.
    let same : bytes ++ frame m ≡ all = lists (bytes ++ frame m) all (sym (appends bytes refl) ∙ is) in
    subst (λ (xs : List ℕ). (cloud_in xs ≡ Some after) × ((replay_of xs).rest ≡ [])) same
    (frame-told bytes m k after (held bytes refl refl).0 (held bytes refl refl).1 step)
  where
    lists : (a b : List ℕ) → ◌≡◌ {A = Option (List ℕ)} (Some a) (Some b) → a ≡ b
    lists a b e = cc

-- a message was taken, and its append failed
pub sent-failed : (told told' : Option (List ℕ)) (k after j : CloudState) (m : Msg) → IsHeld told true k → ((all : List ℕ) → told ≡ Some all → (kept : ℕ) × (told' ≡ Some (all ++ take kept (frame m))))
    → cloud_step k m ≡ Ok after → told_by told ≡ Some j → (told_by told' ≡ Some j) ⊎ IsTold (cloud_step j m) (told_by told')
sent-failed None told' k after j m held appends step is = absurd (cc is)
sent-failed (Some all) told' k after j m held appends step is =
    let same : j ≡ k = told-loaded (Some all) true k j held refl is in
    let left = appends all refl in
    let now : told_by told' ≡ cloud_in (all ++ take left.0 (frame m)) = ap told_by left.1 in
    elim (kept-told all m left.0 k after (held all refl refl).0 (held all refl refl).1 step) [
      | inl stays ↦ inl (now ∙ stays ∙ ap (λ (x : CloudState). Some x) (sym same))
      | inr taken ↦ inr (subst (λ (r : Result CloudState CloudRefusal). IsTold r (told_by told')) (sym (ap (λ (x : CloudState). cloud_step x m) same ∙ step)) (now ∙ taken))
    ]

-- a message was refused
pub sent-refused : (told : Option (List ℕ)) (k j : CloudState) (m : Msg) (refusal : CloudRefusal) → IsHeld told true k → cloud_step k m ≡ Err refusal → told_by told ≡ Some j → cloud_step j m ≡ Err refusal
sent-refused told k j m refusal held step is = ap (λ (x : CloudState). cloud_step x m) (told-loaded told true k j held refl is) ∙ step

-- a log without bytes that tell goes on so
pub sent-untold : (told told' : Option (List ℕ)) (k : CloudState) → IsHeld told true k → (told ≡ None → told' ≡ None) → told_by told ≡ None → told_by told' ≡ None
sent-untold None told' k held none is = ap told_by (none refl)
sent-untold (Some all) told' k held none is = absurd (cc (sym is ∙ (held all refl refl).0))

-- a refused message raises the own faults
pub refused-cause : (log own own' : ℕ) (refusal : CloudRefusal) → own' ≡ counted own → HasLinkCause {T = Unit {0}} (added_faults log own) (added_faults log own') (Err (link.Refused refusal))
refused-cause log own own' refusal is = record {
  kept = omega (arith, is);
  failed = λ e. own-risen log log own own' (omega arith) is;
  refused = λ r e. own-risen log log own own' (omega arith) is;
}

-- the bytes that were appended are the frame
pub appends-frame : (told told' : Option (List ℕ)) (bytes frame : List ℕ) → bytes ≡ frame → ((all : List ℕ) → told ≡ Some all → told' ≡ Some (all ++ bytes)) → (all : List ℕ) → told ≡ Some all → told' ≡ Some (all ++ frame)
appends-frame told told' bytes frame same appends all is = appends all is ∙ ap (λ (xs : List ℕ). Some (all ++ xs)) same

pub appends-front : (told told' : Option (List ℕ)) (bytes frame : List ℕ) (error : LogError) → bytes ≡ frame → error ≡ Failed → ((all : List ℕ) → told ≡ Some all → AppendsTo all bytes told' (Err error)) → (all : List ℕ) → told ≡ Some all → (kept : ℕ) × (told' ≡ Some (all ++ take kept frame))
appends-front told told' bytes frame error same failed appends all is =
    let left = subst (λ (e : LogError). AppendsTo all bytes told' (Err e)) failed (appends all is) in
    (left.0, left.1 ∙ ap (λ (xs : List ℕ). Some (all ++ take left.0 xs)) same)

-- ---- what is told of a view

-- past the end of what is shown
pub past-entries : (told : Option (List ℕ)) (loaded : Bool) (k : CloudState) (i : ℕ) → IsHeld told loaded k → loaded ≡ true → length k.tree ≤ i → FindsNone (entry_in i) (shown_by loaded (told_by told) k)
past-entries told loaded k i held on past = subst (λ (s : Option LinkView). FindsNone (entry_in i) s) (sym (shown-loaded told loaded k held on)) (none_told k i past)

pub past-pages : (told : Option (List ℕ)) (loaded : Bool) (k : CloudState) (i p : ℕ) → IsHeld told loaded k → loaded ≡ true → page_in i p k ≡ None → FindsNone (digest_in i p) (shown_by loaded (told_by told) k)
past-pages told loaded k i p held on none = subst (λ (s : Option LinkView). FindsNone (digest_in i p) s) (sym (shown-loaded told loaded k held on)) (no_page_told k i p none)

-- a page of the digest that is asked for
pub page-shown : (told : Option (List ℕ)) (loaded : Bool) (k : CloudState) (i p : ℕ) (page digest : List ℕ) → IsHeld told loaded k → loaded ≡ true → page_in i p k ≡ Some page → sha256 page ≡ digest
    → (sha256 page ≡ digest) × (option_and_then (digest_in i p) (shown_by loaded (told_by told) k) ≡ Some digest)
page-shown told loaded k i p page digest held on there is = (is, ap (option_and_then (digest_in i p)) (shown-loaded told loaded k held on) ∙ page_told k i p page digest there is)

-- the own faults of a call that found the log loaded, or loaded it
pub own-later : {T : Type 0} (result : Result T LinkError) (log log' log'' own own' own'' : ℕ) → log ≤ log' → own' ≡ own → CountsOwn result log' log'' own' own'' → CountsOwn result log log'' own own''
own-later (Ok x) log log' log'' own own' own'' more same is = is ∙ same
own-later (Err (link.Refused refusal)) log log' log'' own own' own'' more same is = is ∙ ap counted same
own-later (Err link.Failed) log log' log'' own own' own'' more same (inl is) = inl (is ∙ ap counted same)
own-later (Err link.Failed) log log' log'' own own' own'' more same (inr (risen, is)) = inr (omega (arith, more, risen), is ∙ same)
own-later (Err link.Memory) log log' log'' own own' own'' more same is = is ∙ same

pub ruleset sending = (shown-loaded, log-risen, own-risen)
