-- What is left of a mount's answer, from step to step.
use Rattle.std.proofs.Common.{◌≡◌, ℕ, suc, ◌+◌, ◌-◌, ◌<◌, ◌++◌, Bool, true, false, List, [], ◌∷◌, drop, get_or, length, Option, Some, None, Result, Ok, Err, OnOk, IfErr, IfSome, IfNone, is_err, take, refl, sym, ap, subst, ◌∙◌, arith}
use Rattle.std.proofs.lemmas.List.{at_drop_more, length_push, take-append-le, take_all}
use Rattle.vb_block.specs.declared.digest.Ref.{Ref}
use Rattle.vb_block.specs.declared.why.Why.{Why}
use Rattle.vb_head.specs.declared.head.Head.{Head}
use Rattle.vb_index.specs.declared.held.Held.{Held}
use Rattle.vb_index.specs.Indexes.{IndexState}
use Rattle.vb_inode.specs.declared.node.Node.{Node}
use Rattle.vb_nodes.specs.Holdings.{index_from}
use Rattle.vb_store.specs.declared.mount_parts.Homes.{Homes}
use Rattle.vb_store.specs.Surveys.{IsHomeRead}
use Rattle.vb_store.specs.Views.{limits_of}
use Rattle.vb_journal.specs.declared.recover_error.RecoverError.{RecoverError}
use Rattle.vb_journal.specs.declared.recover_error.RecoverError.TheVariants.{NotAStore, Damaged, Unfit, Rebuilding, DiskFault, Memory}
use Rattle.vb_nodes.specs.Claiming.{ClaimsState, claim_answer, with_claim}
use Rattle.vb_store.specs.declared.map_page.MapPage.{MapPage}
use Rattle.vb_store.specs.Metadata.{Mapped, Metadata, Standing, index_or_refusal, maps_in, no_claims, node_checked, nodes_left, after_claim, after_page, all_claimed_by, and_then, block_place, claims_or_refusal, map_checked, maps_left, with_refs_at}
use Rattle.vb_store.specs.declared.mount_parts.Claimed.{Claimed}
use Rattle.vb_store.specs.declared.mount_stage.MountStage.{MountStage}
use Rattle.vb_store.specs.declared.mount_stage.MountStage.TheVariants.{ReadHome, ReadMap, Finish, Refused}
use Rattle.vb_store.specs.Mounting.{IsDue}
use Rattle.vb_store.specs.declared.mount_parts.Refusal.{Refusal}
use Rattle.vb_store.proofs.Damages.{Differs}
use Rattle.vb_store.specs.MountStages.{HasEnded, IsNoFault, IsStopped, StandsAfter, Stops, due_place, home_of, metadata_at, rest_of, rest_of_homes, rest_of_index, rest_of_table, rest_of_map, rest_of_maps}
use Rattle.vb_store.specs.NodesRead.{is_retried}

pub and_then-assoc : {A B C E : Type 0} (r : Result A E) (f : A → Result B E) (g : B → Result C E) → and_then (and_then r f) g ≡ and_then r (λ a. and_then (f a) g)
and_then-assoc (Ok a) f g = refl
and_then-assoc (Err e) f g = refl

-- a claim that was answered
claim_then : {A : Type 0} (block : ℕ) (claims : ClaimsState) (r : Result (Unit {0}) Why) (next : ClaimsState → Result A RecoverError) → r ≡ Ok tt → and_then (claims_or_refusal block claims r) next ≡ next claims
claim_then block claims (Ok done) next is = refl
claim_then block claims (Err why) next is = absurd (cc is)

claim_refused : {A : Type 0} (block : ℕ) (claims : ClaimsState) (r : Result (Unit {0}) Why) (why : Why) (next : ClaimsState → Result A RecoverError) → r ≡ Err why → and_then (claims_or_refusal block claims r) next ≡ Err (Unfit block why)
claim_refused block claims (Ok done) why next is = absurd (cc is)
claim_refused block claims (Err w) why next is = let same : w ≡ why = cc is in ap (λ (x : Why). Err (Unfit block x)) same

-- a map page whose place was claimed is left to be read
pub rest-claimed : (reads : ℕ → List ℕ) (head : Head) (slots : List ℕ) (m : MapPage) (ms : List MapPage) (nodes : List (Option Held)) (claims : ClaimsState) → claim_answer claims m.reference.place ≡ Ok tt
    → rest_of_map reads head slots m ms (record { slots = nodes; claims = with_claim claims m.reference.place }) ≡ rest_of_maps reads head slots (m ∷ ms) (record { slots = nodes; claims = claims })
rest-claimed reads head slots m ms nodes claims is =
    let places : ℕ → ℕ = block_place slots head.nodes in
    let fin : Mapped → Result Metadata RecoverError = λ end. Ok (metadata_at head end) in
    let known : Mapped = record { slots = nodes; claims = claims } in
    let claimed : Mapped = record { slots = nodes; claims = with_claim claims m.reference.place } in
    let more : Mapped → Result Mapped RecoverError = λ k. and_then (after_page m (reads m.reference.place) k) (maps_left reads places ms) in
    let first : after_claim (places m.slot) m known ≡ Ok claimed =
    claim_then (places m.slot) (with_claim claims m.reference.place) (claim_answer claims m.reference.place) (λ c. Ok (record known { claims = c })) is in
    sym (ap (λ (r : Result Mapped RecoverError). and_then (and_then r more) fin) first ∙ and_then-assoc (after_page m (reads m.reference.place) claimed) (maps_left reads places ms) fin)

-- one whose place was refused ends the mount
pub rest-refused : (reads : ℕ → List ℕ) (head : Head) (slots : List ℕ) (m : MapPage) (ms : List MapPage) (nodes : List (Option Held)) (claims : ClaimsState) (why : Why) → claim_answer claims m.reference.place ≡ Err why
    → rest_of_maps reads head slots (m ∷ ms) (record { slots = nodes; claims = claims }) ≡ Err (Unfit (block_place slots head.nodes m.slot) why)
rest-refused reads head slots m ms nodes claims why is =
    let places : ℕ → ℕ = block_place slots head.nodes in
    let known : Mapped = record { slots = nodes; claims = claims } in
    let more : Mapped → Result Mapped RecoverError = λ k. and_then (after_page m (reads m.reference.place) k) (maps_left reads places ms) in
    let first : after_claim (places m.slot) m known ≡ Err (Unfit (places m.slot) why) =
    claim_refused (places m.slot) (with_claim claims m.reference.place) (claim_answer claims m.reference.place) why (λ c. Ok (record known { claims = c })) is in
    ap (λ (r : Result Mapped RecoverError). and_then (and_then r more) (λ end. Ok (metadata_at head end))) first

-- the next one of some map pages
pub drop-next : (maps : List MapPage) (n : ℕ) (m : MapPage) → n < length maps → m ≡ get_or maps n m → drop n maps ≡ m ∷ drop (n + 1) maps
drop-next maps n m within is = at_drop_more (λ (l : List MapPage). l) maps n m within ∙ ap (λ (x : MapPage). x ∷ drop (n + 1) maps) (sym is)

-- its place was claimed
pub rest-named : (reads : ℕ → List ℕ) (head : Head) (slots : List ℕ) (maps : List MapPage) (n : ℕ) (m : MapPage) (nodes : List (Option Held)) (claims new : ClaimsState) → n < length maps → m ≡ get_or maps n m
    → Ok tt ≡ claim_answer claims m.reference.place → new ≡ with_claim claims m.reference.place
    → rest_of_map reads head slots m (drop (n + 1) maps) (record { slots = nodes; claims = new }) ≡ rest_of_maps reads head slots (drop n maps) (record { slots = nodes; claims = claims })
rest-named reads head slots maps n m nodes claims new within is answer ok =
    ap (λ (c : ClaimsState). rest_of_map reads head slots m (drop (n + 1) maps) (record { slots = nodes; claims = c })) ok
    ∙ rest-claimed reads head slots m (drop (n + 1) maps) nodes claims (sym answer)
    ∙ ap (λ (l : List MapPage). rest_of_maps reads head slots l (record { slots = nodes; claims = claims })) (sym (drop-next maps n m within is))

-- or refused
pub rest-unnamed : (reads : ℕ → List ℕ) (head : Head) (slots : List ℕ) (maps : List MapPage) (n : ℕ) (m : MapPage) (nodes : List (Option Held)) (claims : ClaimsState) (why : Why) (place : ℕ) → n < length maps → m ≡ get_or maps n m
    → Err why ≡ claim_answer claims m.reference.place → place ≡ block_place slots head.nodes m.slot
    → rest_of_maps reads head slots (drop n maps) (record { slots = nodes; claims = claims }) ≡ Err (Unfit place why)
rest-unnamed reads head slots maps n m nodes claims why place within is answer at =
    ap (λ (l : List MapPage). rest_of_maps reads head slots l (record { slots = nodes; claims = claims })) (drop-next maps n m within is)
    ∙ rest-refused reads head slots m (drop (n + 1) maps) nodes claims why (sym answer)
    ∙ ap (λ (p : ℕ). Err (Unfit p why)) (sym at)

-- ---- a map page that was read

-- its references were taken in
pub rest-taken : (reads : ℕ → List ℕ) (head : Head) (slots : List ℕ) (m : MapPage) (ms : List MapPage) (nodes : List (Option Held)) (claims all : ClaimsState) (refs : List Ref) → map_checked m (reads m.reference.place) ≡ Ok refs → all_claimed_by m.reference.place claims refs ≡ Ok all
    → rest_of_map reads head slots m ms (record { slots = nodes; claims = claims }) ≡ rest_of_maps reads head slots ms (record { slots = with_refs_at nodes m.slot m.first refs; claims = all })
rest-taken reads head slots m ms nodes claims all refs checked claimed =
    let last : List Ref → ClaimsState → Result Mapped RecoverError = λ rs c. Ok (record { slots = with_refs_at nodes m.slot m.first rs; claims = c }) in
    let more : Mapped → Result Metadata RecoverError = rest_of_maps reads head slots ms in
    ap (λ (r : Result (List Ref) RecoverError). and_then (and_then r (λ rs. and_then (all_claimed_by m.reference.place claims rs) (last rs))) more) checked
    ∙ ap (λ (r : Result ClaimsState RecoverError). and_then (and_then r (last refs)) more) claimed

-- one of them was refused
pub rest-off : (reads : ℕ → List ℕ) (head : Head) (slots : List ℕ) (m : MapPage) (ms : List MapPage) (nodes : List (Option Held)) (claims : ClaimsState) (refs : List Ref) (error : RecoverError) → map_checked m (reads m.reference.place) ≡ Ok refs → all_claimed_by m.reference.place claims refs ≡ Err error
    → rest_of_map reads head slots m ms (record { slots = nodes; claims = claims }) ≡ Err error
rest-off reads head slots m ms nodes claims refs error checked off =
    let last : List Ref → ClaimsState → Result Mapped RecoverError = λ rs c. Ok (record { slots = with_refs_at nodes m.slot m.first rs; claims = c }) in
    let more : Mapped → Result Metadata RecoverError = rest_of_maps reads head slots ms in
    ap (λ (r : Result (List Ref) RecoverError). and_then (and_then r (λ rs. and_then (all_claimed_by m.reference.place claims rs) (last rs))) more) checked
    ∙ ap (λ (r : Result ClaimsState RecoverError). and_then (and_then r (last refs)) more) off

-- ---- a step that stopped

pub ended_rest : (reads : ℕ → List ℕ) (after : MountStage) (error : RecoverError) → HasEnded after error → rest_of reads after ≡ Err error
ended_rest reads (ReadHome h) error ended = absurd ended
ended_rest reads (ReadMap m) error ended = absurd ended
ended_rest reads (Finish w) error ended = absurd ended
ended_rest reads (Refused r) error ended = ap (λ (e : RecoverError). let x : Result Metadata RecoverError = Err e in x) ended

due_refusal : {T : Type 0} (due : Result T RecoverError) (error : RecoverError) → is_retried error ≡ false → IsDue due (Err error) → due ≡ Err error
due_refusal due (NotAStore place) ends is = is
due_refusal due (Damaged place kept found) ends is = is
due_refusal due (Unfit place why) ends is = is
due_refusal due Rebuilding ends is = is
due_refusal due DiskFault ends is = absurd is
due_refusal due Memory ends is = absurd (cc ends)

stopped_by : {T : Type 0} (retried : Bool) (reads : ℕ → List ℕ) (before after : MountStage) (due : Result T RecoverError) (error : RecoverError) (next : T → Result Metadata RecoverError) → is_retried error ≡ retried → Stops retried before error after → IsDue due (Err error) → rest_of reads before ≡ and_then due next → rest_of reads after ≡ rest_of reads before
stopped_by {T = T} true reads before after due error next is stops due_is rest = ap (rest_of reads) stops
stopped_by {T = T} false reads before after due error next is stops due_is rest =
    ended_rest reads after error stops ∙ sym (rest ∙ ap (λ (r : Result T RecoverError). and_then r next) (due_refusal due error is due_is))

-- what is left of the answer stands after a step that stopped with the error that is due
pub rest-stopped : {T : Type 0} (reads : ℕ → List ℕ) (before after : MountStage) (due : Result T RecoverError) (error : RecoverError) (next : T → Result Metadata RecoverError) → IsStopped before error after → IsDue due (Err error) → rest_of reads before ≡ and_then due next → rest_of reads after ≡ rest_of reads before
rest-stopped reads before after due error next stops due_is rest = stopped_by (is_retried error) reads before after due error next refl stops due_is rest

-- where such a step leaves the mount
pub stands_after : (before after : MountStage) (error : RecoverError) → IsStopped before error after → StandsAfter before after error
stands_after before after (NotAStore place) stops = stops
stands_after before after (Damaged place kept found) stops = stops
stands_after before after (Unfit place why) stops = stops
stands_after before after Rebuilding stops = stops
stands_after before after DiskFault stops = ap due_place stops
stands_after before after Memory stops = ap due_place stops

-- an end is such a place too
pub stands_at_end : (before after : MountStage) (error : RecoverError) → HasEnded after error → is_retried error ≡ false → StandsAfter before after error
stands_at_end before after (NotAStore place) ended ends = ended
stands_at_end before after (Damaged place kept found) ended ends = ended
stands_at_end before after (Unfit place why) ended ends = ended
stands_at_end before after Rebuilding ended ends = ended
stands_at_end before after DiskFault ended ends = absurd (cc ends)
stands_at_end before after Memory ended ends = absurd (cc ends)

-- the same, by what the code did
pub rest-taken-by : (reads : ℕ → List ℕ) (head : Head) (slots : List ℕ) (m : MapPage) (ms : List MapPage) (nodes new : List (Option Held)) (claims all : ClaimsState) (refs claimed set : List Ref) → claimed ≡ refs → set ≡ refs → map_checked m (reads m.reference.place) ≡ Ok refs → all_claimed_by m.reference.place claims claimed ≡ Ok all → new ≡ with_refs_at nodes m.slot m.first set
    → rest_of_maps reads head slots ms (record { slots = new; claims = all }) ≡ rest_of_map reads head slots m ms (record { slots = nodes; claims = claims })
rest-taken-by reads head slots m ms nodes new claims all refs claimed set one two checked claims_is made =
    ap (λ (s : List (Option Held)). rest_of_maps reads head slots ms (record { slots = s; claims = all })) (made ∙ ap (with_refs_at nodes m.slot m.first) two)
    ∙ sym (rest-taken reads head slots m ms nodes claims all refs checked (ap (all_claimed_by m.reference.place claims) (sym one) ∙ claims_is))

pub rest-off-by : (reads : ℕ → List ℕ) (head : Head) (slots : List ℕ) (m : MapPage) (ms : List MapPage) (nodes : List (Option Held)) (claims : ClaimsState) (refs claimed : List Ref) (error : RecoverError) → claimed ≡ refs → map_checked m (reads m.reference.place) ≡ Ok refs → all_claimed_by m.reference.place claims claimed ≡ Err error
    → rest_of_map reads head slots m ms (record { slots = nodes; claims = claims }) ≡ Err error
rest-off-by reads head slots m ms nodes claims refs claimed error one checked off =
    rest-off reads head slots m ms nodes claims refs error checked (ap (all_claimed_by m.reference.place claims) (sym one) ∙ off)

-- a map page that was refused, or for which there was no memory
pub map-stopped : (reads : ℕ → List ℕ) (c : Claimed) (page : List ℕ) (error : RecoverError) (after : MountStage) → reads c.map.reference.place ≡ page → IsStopped (ReadMap c) error after → IsDue (map_checked c.map page) (Err error) → rest_of reads after ≡ rest_of reads (ReadMap c)
map-stopped reads c page error after read stops due =
    let head : Head = c.tree.head in
    let slots : List ℕ = c.tree.slots.items in
    let ms : List MapPage = drop c.tree.next c.tree.maps.items in
    let place : ℕ = c.map.reference.place in
    let more : Mapped → Result Metadata RecoverError = rest_of_maps reads head slots ms in
    let take : List Ref → Result Mapped RecoverError = λ rs. and_then (all_claimed_by place c.tree.claims rs) (λ all. Ok (record { slots = with_refs_at c.tree.index.nodes c.map.slot c.map.first rs; claims = all })) in
    rest-stopped reads (ReadMap c) after (map_checked c.map page) error (λ rs. and_then (take rs) more) stops due
    (ap (λ (p : List ℕ). and_then (and_then (map_checked c.map p) take) more) read ∙ and_then-assoc (map_checked c.map page) take more)

-- ---- homes

-- one node more was read
pub rest-home : (reads : ℕ → List ℕ) (head : Head) (place : ℕ) (slots : List ℕ) (left less : ℕ) (nodes : List Node) (node : Node) → node_checked head.nodes (length nodes) (home_of reads slots head.nodes (length nodes)) ≡ Ok node → left ≡ suc less
    → rest_of_homes reads head place slots less (nodes ++ node ∷ []) ≡ rest_of_homes reads head place slots left nodes
rest-home reads head place slots left less nodes node is one =
    sym (ap (λ (n : ℕ). rest_of_homes reads head place slots n nodes) one
    ∙ ap (λ (r : Result Node RecoverError). and_then (and_then r (λ n. nodes_left head.nodes (home_of reads slots head.nodes) less (nodes ++ n ∷ []))) (rest_of_table reads head place slots)) is)

-- the same, by what the code did
pub rest-added : (reads : ℕ → List ℕ) (before : Homes) (nodes : List Node) (node : Node) → IsHomeRead reads before node → nodes ≡ before.nodes ++ node ∷ []
    → rest_of_homes reads before.head before.place before.slots.items (before.head.nodes - length nodes) nodes ≡ rest_of reads (ReadHome before)
rest-added reads before nodes node read is =
    ap (λ (l : List Node). rest_of_homes reads before.head before.place before.slots.items (before.head.nodes - length l) l) is
    ∙ rest-home reads before.head before.place before.slots.items (before.head.nodes - length before.nodes) (before.head.nodes - length (before.nodes ++ node ∷ [])) before.nodes node read (omega (arith, before.left, length_push before.nodes node))

-- a home that was refused, or for which there was no memory
pub home-stopped : (reads : ℕ → List ℕ) (h : Homes) (page : List ℕ) (error : RecoverError) (after : MountStage) → reads (2 + length h.nodes) ≡ page → length h.nodes < h.head.nodes → IsStopped (ReadHome h) error after
    → IsDue (node_checked h.head.nodes (length h.nodes) (record { place = block_place h.slots.items h.head.nodes (length h.nodes); page = page })) (Err error) → rest_of reads after ≡ rest_of reads (ReadHome h)
home-stopped reads h page error after read left stops due =
    let slots : List ℕ = h.slots.items in
    let less : ℕ = h.head.nodes - suc (length h.nodes) in
    let one : h.head.nodes - length h.nodes ≡ suc less = omega (arith, left) in
    let more : Node → Result (List Node) RecoverError = λ n. nodes_left h.head.nodes (home_of reads slots h.head.nodes) less (h.nodes ++ n ∷ []) in
    let block : List ℕ → Standing = λ p. record { place = block_place slots h.head.nodes (length h.nodes); page = p } in
    rest-stopped reads (ReadHome h) after (node_checked h.head.nodes (length h.nodes) (block page)) error (λ n. and_then (more n) (rest_of_table reads h.head h.place slots)) stops due
    (ap (λ (n : ℕ). rest_of_homes reads h.head h.place slots n h.nodes) one
    ∙ ap (λ (p : List ℕ). and_then (and_then (node_checked h.head.nodes (length h.nodes) (block p)) more) (rest_of_table reads h.head h.place slots)) read
    ∙ and_then-assoc (node_checked h.head.nodes (length h.nodes) (block page)) more (rest_of_table reads h.head h.place slots))

-- the same, by what the code did
pub home-stopped-by : (reads : ℕ → List ℕ) (h : Homes) (page : List ℕ) (error : RecoverError) (after : MountStage) (named : List ℕ) (slot : ℕ) → reads (2 + length h.nodes) ≡ page → IsStopped (ReadHome h) error after → named ≡ h.slots.items → slot ≡ length h.nodes
    → IsDue (node_checked h.head.nodes slot (record { place = block_place named h.head.nodes slot; page = page })) (Err error) → rest_of reads after ≡ rest_of reads (ReadHome h)
home-stopped-by reads h page error after named slot read stops names at due =
    let P : List ℕ → ℕ → Type 0 = λ l n. IsDue (node_checked h.head.nodes n (record { place = block_place l h.head.nodes n; page = page })) (Err error) in
    home-stopped reads h page error after read h.left stops (subst (P h.slots.items) at (subst (λ (l : List ℕ). P l slot) names due))

-- all nodes were read
pub rest-last : (reads : ℕ → List ℕ) (h : Homes) (node : Node) → IsHomeRead reads h node → length h.nodes + 1 ≡ h.head.nodes → rest_of reads (ReadHome h) ≡ rest_of_table reads h.head h.place h.slots.items (h.nodes ++ node ∷ [])
rest-last reads h node read last =
    sym (rest-home reads h.head h.place h.slots.items (h.head.nodes - length h.nodes) 0 h.nodes node read (omega (arith, last)))

-- they are a tree
pub rest-survey : (reads : ℕ → List ℕ) (h : Homes) (node : Node) (named : List ℕ) (listed : List Node) (index : IndexState) (claims : ClaimsState) (maps : List MapPage) → IsHomeRead reads h node → length h.nodes + 1 ≡ h.head.nodes → named ≡ h.slots.items → listed ≡ h.nodes ++ node ∷ []
    → index_or_refusal h.place (block_place named h.head.nodes) (index_from (limits_of h.head) listed) ≡ Ok index → claims ≡ no_claims h.head → maps ≡ maps_in index.nodes
    → rest_of_maps reads h.head h.slots.items maps (record { slots = index.nodes; claims = claims }) ≡ rest_of reads (ReadHome h)
rest-survey reads h node named listed index claims maps read last names same is none all =
    let made : index_or_refusal h.place (block_place h.slots.items h.head.nodes) (index_from (limits_of h.head) (h.nodes ++ node ∷ [])) ≡ Ok index =
    sym (ap (λ (s : List ℕ). index_or_refusal h.place (block_place s h.head.nodes) (index_from (limits_of h.head) listed)) names ∙ ap (λ (l : List Node). index_or_refusal h.place (block_place h.slots.items h.head.nodes) (index_from (limits_of h.head) l)) same) ∙ is in
    ap (λ (c : ClaimsState). rest_of_maps reads h.head h.slots.items maps (record { slots = index.nodes; claims = c })) none
    ∙ ap (λ (l : List MapPage). rest_of_maps reads h.head h.slots.items l (record { slots = index.nodes; claims = no_claims h.head })) all
    ∙ sym (rest-last reads h node read last ∙ ap (λ (r : Result IndexState RecoverError). and_then r (rest_of_index reads h.head h.slots.items)) made)

-- they aren't, or there was no memory
pub survey-stopped : (reads : ℕ → List ℕ) (h back : Homes) (node : Node) (named : List ℕ) (listed : List Node) (error : RecoverError) (after : MountStage) → IsHomeRead reads h node → length h.nodes + 1 ≡ h.head.nodes → named ≡ h.slots.items → listed ≡ h.nodes ++ node ∷ []
    → back.head ≡ h.head → back.place ≡ h.place → back.slots.items ≡ h.slots.items → back.nodes ≡ h.nodes → IsStopped (ReadHome back) error after
    → IsDue (index_or_refusal h.place (block_place named h.head.nodes) (index_from (limits_of h.head) listed)) (Err error) → rest_of reads after ≡ rest_of reads (ReadHome h)
survey-stopped reads h back node named listed error after read last names same head place slots nodes stops due =
    let made : index_or_refusal h.place (block_place named h.head.nodes) (index_from (limits_of h.head) listed) ≡ index_or_refusal h.place (block_place h.slots.items h.head.nodes) (index_from (limits_of h.head) (h.nodes ++ node ∷ [])) =
    ap (λ (s : List ℕ). index_or_refusal h.place (block_place s h.head.nodes) (index_from (limits_of h.head) listed)) names ∙ ap (λ (l : List Node). index_or_refusal h.place (block_place h.slots.items h.head.nodes) (index_from (limits_of h.head) l)) same in
    let rest : rest_of reads (ReadHome back) ≡ rest_of reads (ReadHome h) =
    ap (λ (x : Head). rest_of_homes reads x back.place back.slots.items (x.nodes - length back.nodes) back.nodes) head
    ∙ ap (λ (p : ℕ). rest_of_homes reads h.head p back.slots.items (h.head.nodes - length back.nodes) back.nodes) place
    ∙ ap (λ (s : List ℕ). rest_of_homes reads h.head h.place s (h.head.nodes - length back.nodes) back.nodes) slots
    ∙ ap (λ (l : List Node). rest_of_homes reads h.head h.place h.slots.items (h.head.nodes - length l) l) nodes in
    rest-stopped reads (ReadHome back) after (index_or_refusal h.place (block_place h.slots.items h.head.nodes) (index_from (limits_of h.head) (h.nodes ++ node ∷ []))) error (rest_of_index reads h.head h.slots.items) stops
    (subst (λ (r : Result IndexState RecoverError). IsDue r (Err error)) made due) (rest ∙ rest-last reads h node read last)
    ∙ rest

-- where a step leaves the mount that stopped at a like stage
pub stands_after_like : (before back after : MountStage) (error : RecoverError) → due_place back ≡ due_place before → IsStopped back error after → StandsAfter before after error
stands_after_like before back after (NotAStore place) like stops = stops
stands_after_like before back after (Damaged place kept found) like stops = stops
stands_after_like before back after (Unfit place why) like stops = stops
stands_after_like before back after Rebuilding like stops = stops
stands_after_like before back after DiskFault like stops = ap due_place stops ∙ like
stands_after_like before back after Memory like stops = ap due_place stops ∙ like

-- what a call left that didn't fail
pub on_ok : {T E : Type 0} (P : Type 0) (r : Result T E) → false ≡ is_err r → OnOk r P → P
on_ok P (Ok x) is h = h
on_ok P (Err e) is h = absurd (cc is)

-- what is left of a list without its last item
pub popped : (r : Option Node) (old new front : List Node) (node : Node) → IfSome r (λ item. old ≡ new ++ item ∷ []) → IfNone r ((old ≡ []) × (new ≡ [])) → old ≡ front ++ node ∷ [] → new ≡ front
popped None old new front node some none is = absurd (omega (arith, ap length none.0, ap length is, length_push front node))
popped (Some item) old new front node some none is =
    let same : new ++ item ∷ [] ≡ front ++ node ∷ [] = sym some ∙ is in
    let many : length new ≡ length front = omega (arith, length_push new item, length_push front node, ap length same) in
    sym (take_all (length new) new (omega arith)) ∙ sym (take-append-le (length new) new (item ∷ []) (omega arith))
    ∙ ap (take (length new)) same ∙ ap (λ (n : ℕ). take n (front ++ node ∷ [])) many
    ∙ take-append-le (length front) front (node ∷ []) (omega arith) ∙ take_all (length front) front (omega arith)

-- an answer that is due is no fault of the disk
pub due-no_fault : {T : Type 0} (due : Result T RecoverError) (error : RecoverError) → Differs due → IsDue due (Err error) → IsNoFault error
due-no_fault due (NotAStore place) differs is = tt
due-no_fault due (Damaged place kept found) differs is = differs place kept found is
due-no_fault due (Unfit place why) differs is = tt
due-no_fault due Rebuilding differs is = tt
due-no_fault due DiskFault differs is = is
due-no_fault due Memory differs is = tt

refusal-no_fault : (r : Refusal) (error : RecoverError) → r.error ≡ error → IsNoFault error
refusal-no_fault r (NotAStore place) is = tt
refusal-no_fault r (Damaged place kept found) is = r.differ place kept found is
refusal-no_fault r (Unfit place why) is = tt
refusal-no_fault r Rebuilding is = tt
refusal-no_fault r DiskFault is = absurd (let e : true ≡ false = sym (ap is_retried is) ∙ r.ends in cc e)
refusal-no_fault r Memory is = tt

-- nor is one that ends the mount
pub ends-no_fault : (after : MountStage) (error : RecoverError) → HasEnded after error → IsNoFault error
ends-no_fault (ReadHome h) error ended = absurd ended
ends-no_fault (ReadMap m) error ended = absurd ended
ends-no_fault (Finish w) error ended = absurd ended
ends-no_fault (Refused r) error ended = refusal-no_fault r error ended

-- what an answer's error is
pub err-at : {T : Type 0} (P : RecoverError → Type 0) (r : Result T RecoverError) (error : RecoverError) → r ≡ Err error → P error → IfErr r P
err-at P r error is holds = subst (λ x. IfErr x P) (sym is) holds
