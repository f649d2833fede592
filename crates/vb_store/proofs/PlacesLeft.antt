-- The places that a mount has still to read, from step to step.
use Rattle.std.proofs.Common.{◌≡◌, ℕ, suc, ◌+◌, ◌-◌, ◌<◌, ◌++◌, true, false, List, [], ◌∷◌, drop, get_or, length, Result, Ok, Err, OnOk, IfErr, refl, sym, ap, subst, ◌∙◌, arith}
use Rattle.std.proofs.lemmas.List.{at_drop_more, length_push}
use Rattle.vb_head.specs.declared.head.Head.{Head}
use Rattle.vb_index.specs.Indexes.{IndexState}
use Rattle.vb_inode.specs.declared.node.Node.{Node}
use Rattle.vb_journal.specs.declared.recover_error.RecoverError.{RecoverError}
use Rattle.vb_journal.specs.declared.recover_error.RecoverError.TheVariants.{NotAStore, Damaged, Unfit, Rebuilding, DiskFault, Memory}
use Rattle.vb_nodes.specs.declared.errors.TableError.{TableError}
use Rattle.vb_nodes.specs.declared.errors.TableError.TheVariants.{Wrong as WrongNode, TooManyPages, Memory as NoMemoryForIndex}
use Rattle.vb_nodes.specs.Holdings.{index_from}
use Rattle.vb_store.specs.declared.map_page.MapPage.{MapPage}
use Rattle.vb_store.specs.declared.mount_parts.Homes.{Homes}
use Rattle.vb_store.specs.declared.mount_stage.MountStage.{MountStage}
use Rattle.vb_store.specs.declared.mount_stage.MountStage.TheVariants.{ReadHome}
use Rattle.vb_store.specs.Metadata.{and_then, index_or_refusal, maps_in, nodes_left}
use Rattle.vb_store.specs.MountLists.{ReadsFirst, home_places, map_places, places_due, places_left, places_of_homes, places_of_table, places_of_tree}
use Rattle.vb_store.specs.MountStages.{IsStopped, home_of}
use Rattle.vb_store.specs.NodesRead.{is_retried}
use Rattle.vb_store.specs.Surveys.{IsHomeRead}
use Rattle.vb_store.specs.Views.{limits_of}

-- one node more was read
places-home : (reads : ℕ → List ℕ) (h : Homes) (node : Node) (left less : ℕ) → IsHomeRead reads h node → left ≡ suc less
    → places_of_homes reads h.head h.slots.items left h.nodes ≡ (2 + length h.nodes) ∷ places_of_homes reads h.head h.slots.items less (h.nodes ++ node ∷ [])
places-home reads h node left less read one =
    let slots : List ℕ = h.slots.items in
    let n : ℕ = length h.nodes in
    let more : Node → Result (List Node) RecoverError = λ x. nodes_left h.head.nodes (home_of reads slots h.head.nodes) less (h.nodes ++ x ∷ []) in
    ap (λ (k : ℕ). places_of_homes reads h.head slots k h.nodes) one
    ∙ ap (λ (r : Result Node RecoverError). (2 + n) ∷ (home_places (n + 1) less ++ places_of_table h.head (and_then r more))) read
    ∙ ap (λ (k : ℕ). (2 + n) ∷ (home_places k less ++ places_of_table h.head (more node))) (sym (length_push h.nodes node))

-- the same, by what the code did
pub places-added : (reads : ℕ → List ℕ) (h : Homes) (nodes : List Node) (node : Node) → IsHomeRead reads h node → nodes ≡ h.nodes ++ node ∷ []
    → places_left reads (ReadHome h) ≡ (2 + length h.nodes) ∷ places_of_homes reads h.head h.slots.items (h.head.nodes - length nodes) nodes
places-added reads h nodes node read is =
    places-home reads h node (h.head.nodes - length h.nodes) (h.head.nodes - length (h.nodes ++ node ∷ [])) read (omega (arith, h.left, length_push h.nodes node))
    ∙ ap (λ (l : List Node). (2 + length h.nodes) ∷ places_of_homes reads h.head h.slots.items (h.head.nodes - length l) l) (sym is)

-- an index that isn't refused was made
made-index : (place : ℕ) (places : ℕ → ℕ) (made : Result IndexState TableError) (index : IndexState) → index_or_refusal place places made ≡ Ok index → made ≡ Ok index
made-index place places (Ok i) index is = ap (λ (x : IndexState). let r : Result IndexState TableError = Ok x in r) (cc is)
made-index place places (Err (WrongNode slot why)) index is = absurd (cc is)
made-index place places (Err TooManyPages) index is = absurd (cc is)
made-index place places (Err NoMemoryForIndex) index is = absurd (cc is)

-- all nodes were read, and make a tree
pub places-survey : (reads : ℕ → List ℕ) (h : Homes) (node : Node) (listed : List Node) (place : ℕ) (places : ℕ → ℕ) (index : IndexState) (maps : List MapPage) → IsHomeRead reads h node → length h.nodes + 1 ≡ h.head.nodes → listed ≡ h.nodes ++ node ∷ []
    → index_or_refusal place places (index_from (limits_of h.head) listed) ≡ Ok index → maps ≡ maps_in index.nodes
    → places_left reads (ReadHome h) ≡ (2 + length h.nodes) ∷ map_places maps
places-survey reads h node listed place places index maps read last same is all =
    places-home reads h node (h.head.nodes - length h.nodes) 0 read (omega (arith, last))
    ∙ ap (λ (l : List Node). (2 + length h.nodes) ∷ places_of_tree (index_from (limits_of h.head) l)) (sym same)
    ∙ ap (λ (r : Result IndexState TableError). (2 + length h.nodes) ∷ places_of_tree r) (made-index place places (index_from (limits_of h.head) listed) index is)
    ∙ ap (λ (l : List MapPage). (2 + length h.nodes) ∷ map_places l) (sym all)

-- the next map page is the first of those that are left
pub places-next : (maps : List MapPage) (n : ℕ) (m : MapPage) → n < length maps → m ≡ get_or maps n m → m.reference.place ∷ map_places (drop (n + 1) maps) ≡ map_places (drop n maps)
places-next maps n m within is =
    sym (at_drop_more map_places maps n m within ∙ ap (λ (x : MapPage). x.reference.place ∷ map_places (drop (n + 1) maps)) (sym is))

-- a step that went on
pub reads-on : {T : Type 0} (reads : ℕ → List ℕ) (place : ℕ) (before after : MountStage) (r : Result T RecoverError) → ((e : RecoverError) → r ≡ Err e → is_retried e ≡ false) → OnOk r (places_due reads before ≡ place ∷ places_left reads after) → ReadsFirst reads place before after r
reads-on reads place before after (Ok done) ends ok = ok
reads-on reads place before after (Err (NotAStore at)) ends ok = tt
reads-on reads place before after (Err (Damaged at kept found)) ends ok = tt
reads-on reads place before after (Err (Unfit at why)) ends ok = tt
reads-on reads place before after (Err Rebuilding) ends ok = tt
reads-on reads place before after (Err DiskFault) ends ok = absurd (let e : true ≡ false = ends DiskFault refl in cc e)
reads-on reads place before after (Err Memory) ends ok = absurd (let e : true ≡ false = ends Memory refl in cc e)

-- a step that stopped at a like stage
pub reads-stopped : (reads : ℕ → List ℕ) (place : ℕ) (before back after : MountStage) (error : RecoverError) → IsStopped back error after → places_due reads back ≡ places_due reads before
    → ReadsFirst {T = Unit {0}} reads place before after (Err error)
reads-stopped reads place before back after (NotAStore at) stops like = tt
reads-stopped reads place before back after (Damaged at kept found) stops like = tt
reads-stopped reads place before back after (Unfit at why) stops like = tt
reads-stopped reads place before back after Rebuilding stops like = tt
reads-stopped reads place before back after DiskFault stops like = ap (places_due reads) stops ∙ like
reads-stopped reads place before back after Memory stops like = ap (places_due reads) stops ∙ like

-- the same, by what the code answered
pub reads-stopped-by : (reads : ℕ → List ℕ) (place : ℕ) (before back after : MountStage) (error : RecoverError) (r : Result (Unit {0}) RecoverError) → r ≡ Err error → IsStopped back error after → places_due reads back ≡ places_due reads before
    → ReadsFirst reads place before after r
reads-stopped-by reads place before back after error r is stops like =
    subst (ReadsFirst reads place before after) (sym is) (reads-stopped reads place before back after error stops like)

-- a step whose errors all end the mount
pub ends_at : {T : Type 0} (P : RecoverError → Type 0) (r : Result T RecoverError) → IfErr r (λ error. P error × (is_retried error ≡ false)) → (e : RecoverError) → r ≡ Err e → is_retried e ≡ false
ends_at P (Ok done) all e is = absurd (cc is)
ends_at P (Err error) all e is = sym (ap is_retried (cc is)) ∙ all.1

-- homes that were taken apart and put together again
pub places-like : (reads : ℕ → List ℕ) (h back : Homes) → back.head ≡ h.head → back.slots.items ≡ h.slots.items → back.nodes ≡ h.nodes → places_left reads (ReadHome back) ≡ places_left reads (ReadHome h)
places-like reads h back head slots nodes =
    ap (λ (x : Head). places_of_homes reads x back.slots.items (x.nodes - length back.nodes) back.nodes) head
    ∙ ap (λ (s : List ℕ). places_of_homes reads h.head s (h.head.nodes - length back.nodes) back.nodes) slots
    ∙ ap (λ (l : List Node). places_of_homes reads h.head h.slots.items (h.head.nodes - length l) l) nodes

-- what was left is the place that was read and these map pages, which are left
pub list-ok : {T E : Type 0} (reads : ℕ → List ℕ) (place : ℕ) (before after : MountStage) (maps : List MapPage) (r : Result T E) → places_due reads before ≡ place ∷ map_places maps → OnOk r ((reads : ℕ → List ℕ) → places_left reads after ≡ map_places maps)
    → OnOk r (places_due reads before ≡ place ∷ places_left reads after)
list-ok reads place before after maps (Ok done) was left = was ∙ ap (λ (l : List ℕ). place ∷ l) (sym (left reads))
list-ok reads place before after maps (Err e) was left = tt
