-- An image of the journal that a recovery took is sound, or it is the first fault of the metadata.
use Rattle.std.proofs.Common.{◌≡◌, ℕ, ◌+◌, List, [], ◌∷◌, ◌++◌, length, Option, Some, None, Result, Ok, Err, refl, sym, ap, subst, ◌∙◌, arith}
use Rattle.std.proofs.lemmas.List.{length-append, length-map}
use Rattle.std.specs.Result.{result_err}
use Rattle.vb_disk.specs.Cells.{read_of}
use Rattle.vb_disk.specs.States.{DiskState, read_at}
use Rattle.vb_head.specs.declared.head.Head.{Head}
use Rattle.vb_head.specs.declared.head.State.{State}
use Rattle.vb_head.specs.Heads.{count_of}
use Rattle.vb_inode.specs.Reading.{node_read}
use Rattle.vb_journal.specs.declared.journal.Journal.{Journal}
use Rattle.vb_journal.specs.declared.recover_error.RecoverError.{RecoverError}
use Rattle.vb_journal.specs.declared.recover_stage.RecoverStage.{RecoverStage}
use Rattle.vb_journal.specs.declared.recover_stage.RecoverStage.TheVariants.{Ask, Settle, ReadFirst, ReadSecond, Mend, SettleMend, ReadImage, Replay, Ready, Refused}
use Rattle.vb_journal.specs.Commits.{epoch_of, head_of, images_of}
use Rattle.vb_journal.specs.Images.{slot_of}
use Rattle.vb_journal.specs.Outcomes.{reads_of}
use Rattle.vb_journal.specs.Plans.{opened_head}
use Rattle.vb_journal.specs.Recoveries.{choice_of, image_refusal, images_refusal, journal_of, journal_place}
use Rattle.vb_journal.specs.Recovering.{HasRead, IsRecovering, TakesImage, images_by, nodes_of}
use Rattle.vb_journal.specs.Recovers.{Lends}
use Rattle.vb_journal.specs.Notes.{HasNotedAt, slots_with}
use Rattle.vb_journal.specs.Shown.{pages_from}
use Rattle.vb_journal.proofs.JournalReads.{next-decides}
use Rattle.vb_store.specs.LentImages.{fault_of_image}
use Rattle.vb_store.specs.Metadata.{image_fault, images_fault, journal_fault, node_or_refusal}
use Rattle.vb_store.specs.Mounts.{AreSoundTo}
use Rattle.vb_store.specs.RecoveredStores.{metadata_on}
use Rattle.vb_store.proofs.SameJournals.{or_refusal-none}
use Rattle.vb_store.proofs.SoundImages.{fault-by_node, faulty-next, metadata-faulty, sound-more}

same_head : (a b : Head) (r : Result Head RecoverError) → r ≡ Ok a → r ≡ Ok b → a ≡ b
same_head a b r first second = let same : Ok a ≡ Ok b = sym first ∙ second in cc same

-- a list with one item more isn't empty
not_nil : {A : Type 0} (images : List (List ℕ)) (page : List ℕ) → [] ≡ images ++ page ∷ [] → A
not_nil [] page is = absurd (cc is)
not_nil (x ∷ xs) page is = absurd (cc is)

-- an image that was taken after those of a journal
record IsTaken (begun : DiskState) (journal : Journal) (page : List ℕ) (new : RecoverStage) : Type 0 where
  pub read : page ≡ reads_of begun (journal_place journal.head + length journal.images)
  pub accepted : images_refusal journal.head.nodes (journal_place journal.head) [] (journal.images ++ page ∷ []) ≡ None
  pub nodes : nodes_of new ≡ Some journal.head.nodes

-- what stands behind the heads reads as when the recovery began
read_stood : (begun d : DiskState) (journal : Journal) (page : List ℕ) → HasRead begun journal d → page ≡ read_at d (journal_place journal.head + length journal.images) → page ≡ reads_of begun (journal_place journal.head + length journal.images)
read_stood begun d journal page has read = read ∙ ap read_of (has.heads.stands.each (journal_place journal.head + length journal.images) (omega arith))

accepted_by : (begun : DiskState) (a b : Head) (images all : List (List ℕ)) → a ≡ b → all ≡ images → images_refusal a.nodes (journal_place a) [] all ≡ None → images_refusal b.nodes (journal_place b) [] images ≡ None
accepted_by begun a b images all same are is =
    ap (λ (h : Head). images_refusal h.nodes (journal_place h) [] images) (sym same) ∙ ap (images_refusal a.nodes (journal_place a) []) (sym are) ∙ is

some_nodes : (a b : Head) → a ≡ b → Some a.nodes ≡ Some b.nodes
some_nodes a b same = ap (λ (h : Head). Some h.nodes) same

is_taken : (begun d next : DiskState) (journal : Journal) (page : List ℕ) (new : RecoverStage) → HasRead begun journal d → page ≡ read_at d (journal_place journal.head + length journal.images) → images_by new ≡ journal.images ++ page ∷ [] → IsRecovering new begun next → IsTaken begun journal page new
is_taken begun d next journal page Ask has read more known = not_nil journal.images page more
is_taken begun d next journal page (Settle size) has read more known = not_nil journal.images page more
is_taken begun d next journal page (ReadFirst size) has read more known = not_nil journal.images page more
is_taken begun d next journal page (ReadSecond first) has read more known = not_nil journal.images page more
is_taken begun d next journal page (Mend mending) has read more known = not_nil journal.images page more
is_taken begun d next journal page (SettleMend mending) has read more known = not_nil journal.images page more
is_taken begun d next journal page (ReadImage after) has read more known =
    let same = same_head after.head journal.head (choice_of begun.size (reads_of begun)) known.heads.counts has.heads.counts in
    record {
      read = read_stood begun d journal page has read;
      accepted = accepted_by begun after.head journal.head (journal.images ++ page ∷ []) after.images same more known.accepted;
      nodes = some_nodes after.head journal.head same;
    }
is_taken begun d next journal page (Replay replay) has read more known =
    let head : Head = opened_head (head_of replay.commit) (epoch_of replay.commit) (images_of replay.commit) in
    let same = same_head head journal.head (choice_of begun.size (reads_of begun)) known.counts has.heads.counts in
    record {
      read = read_stood begun d journal page has read;
      accepted = accepted_by begun head journal.head (journal.images ++ page ∷ []) (journal_of (reads_of begun) head) same (known.images_are ∙ more) known.accepted;
      nodes = some_nodes head journal.head same;
    }
is_taken begun d next journal page (Ready ready) has read more known = not_nil journal.images page more
is_taken begun d next journal page (Refused refusal) has read more known = not_nil journal.images page more

-- the fault that the mount finds is that of the image
taken_fault : (begun d : DiskState) (journal : Journal) (page : List ℕ) (new : RecoverStage) → HasRead begun journal d → IsTaken begun journal page new → images_by new ≡ journal.images ++ page ∷ []
    → image_fault journal.head.nodes (journal_place journal.head + length journal.images) (pages_from (reads_of begun) (journal_place journal.head) (length journal.images)) (reads_of begun (journal_place journal.head + length journal.images))
    ≡ fault_of_image (Some page) (nodes_of new) (length (images_by new))
taken_fault begun d journal page new has taken more =
    let nodes : ℕ = journal.head.nodes in
    let n : ℕ = length journal.images in
    let place : ℕ = journal_place journal.head + n in
    let next = next-decides nodes (journal_place journal.head) journal.images [] page (image_refusal nodes place journal.images page) has.accepted refl in
    let none : image_refusal nodes place journal.images page ≡ None = (or_refusal-none (image_refusal nodes place journal.images page) None (sym next ∙ taken.accepted)).0 in
    let count : length (images_by new) ≡ n + 1 = ap length more ∙ length-append journal.images (page ∷ []) in
    let at : place ≡ 1 + nodes + (n + 1) = omega arith in
    ap (image_fault nodes place (pages_from (reads_of begun) (journal_place journal.head) n)) (sym taken.read)
    ∙ ap (λ (l : List (List ℕ)). image_fault nodes place l page) (sym has.images)
    ∙ fault-by_node nodes place journal.images page none
    ∙ ap (λ (p : ℕ). result_err (node_or_refusal p (node_read nodes page))) at
    ∙ ap (λ (k : ℕ). fault_of_image (Some page) (Some nodes) k) (sym count)
    ∙ ap (λ (o : Option ℕ). fault_of_image (Some page) o (length (images_by new))) (sym taken.nodes)

-- one sound image more
taken_sound : (begun d : DiskState) (journal : Journal) (page : List ℕ) (new : RecoverStage) → HasRead begun journal d → IsTaken begun journal page new → images_by new ≡ journal.images ++ page ∷ [] → AreSoundTo begun (length journal.images) → fault_of_image (Some page) (nodes_of new) (length (images_by new)) ≡ None → AreSoundTo begun (length journal.images + 1)
taken_sound begun d journal page new has taken more sound none = λ chosen counts.
    let same = same_head journal.head chosen (choice_of begun.size (reads_of begun)) has.heads.counts counts in
    let n : ℕ = length journal.images in
    let fine = sound-more (reads_of begun) journal.head.nodes (journal_place journal.head) n (sound journal.head has.heads.counts) (taken_fault begun d journal page new has taken more ∙ none) in
    subst (λ (h : Head). images_fault h.nodes (journal_place h) [] (pages_from (reads_of begun) (journal_place h) (n + 1)) ≡ None) same fine

-- or the first fault
taken_refused : (begun d : DiskState) (journal : Journal) (page : List ℕ) (new : RecoverStage) (e : RecoverError) → HasRead begun journal d → IsTaken begun journal page new → images_by new ≡ journal.images ++ page ∷ [] → AreSoundTo begun (length journal.images) → fault_of_image (Some page) (nodes_of new) (length (images_by new)) ≡ Some e → metadata_on begun ≡ Err e
taken_refused begun d journal page new e has taken more sound fault =
    let reads : ℕ → List ℕ = reads_of begun in
    let head : Head = journal.head in
    let n : ℕ = length journal.images in
    let count : journal_fault reads head ≡ images_fault head.nodes (journal_place head) [] (pages_from reads (journal_place head) journal.count) = ap (λ (s : State). images_fault head.nodes (journal_place head) [] (pages_from reads (journal_place head) (count_of s))) journal.opened in
    metadata-faulty begun.size reads head e has.heads.counts
    (count ∙ faulty-next reads head.nodes (journal_place head) n journal.count e journal.left (sound head has.heads.counts) (taken_fault begun d journal page new has taken more ∙ fault))

-- ---- at each stage

-- as many images are sound as before, where none was lent
pub none-lent : (begun : DiskState) (before after : List ℕ) (lent : Option (List ℕ)) → lent ≡ None → after ≡ slots_with before lent → AreSoundTo begun (length before) → AreSoundTo begun (length after)
none-lent begun before after lent none notes sound =
    let same : after ≡ before = notes ∙ ap (slots_with before) none in
    subst (λ (l : List ℕ). AreSoundTo begun (length l)) (sym same) sound

pub no_fault_lent : {A : Type 0} (lent : Option (List ℕ)) (nodes : Option ℕ) (count : ℕ) (e : RecoverError) → lent ≡ None → fault_of_image lent nodes count ≡ Some e → A
no_fault_lent lent nodes count e none is =
    let clash : None ≡ Some e = sym (ap (λ (o : Option (List ℕ)). fault_of_image o nodes count) none) ∙ is in
    absurd (cc clash)

-- what a step took that read an image, from a disk that tells
record IsLent (begun d : DiskState) (journal : Journal) (lent : Option (List ℕ)) (new : RecoverStage) : Type 0 where
  pub page : List ℕ
  pub lent_is : lent ≡ Some page
  pub taken : IsTaken begun journal page new
  pub more : images_by new ≡ journal.images ++ page ∷ []

is_lent : (begun d next : DiskState) (journal : Journal) (lent : Option (List ℕ)) (new : RecoverStage) (told : Option DiskState) → HasRead begun journal d → told ≡ Some d → Lends (ReadImage journal) lent told → TakesImage (ReadImage journal) new told → IsRecovering new begun next → IsLent begun d journal lent new
is_lent begun d next journal lent new told has is lends takes known =
    let same : lends.0 ≡ takes.0 = lends.2 d is ∙ sym (takes.2 d is) in
    record {
      page = takes.0;
      lent_is = lends.1 ∙ ap (λ (p : List ℕ). Some p) same;
      taken = is_taken begun d next journal takes.0 new has (takes.2 d is) takes.1 known;
      more = takes.1;
    }

-- as many images are sound as slots were noted
pub sound-after : (old new : RecoverStage) (begun d next : DiskState) (place : ℕ) (before after : List ℕ) (lent : Option (List ℕ)) (told : Option DiskState) → IsRecovering old begun d → HasNotedAt old place before begun → AreSoundTo begun (length before) → told ≡ Some d → Lends old lent told → TakesImage old new told → IsRecovering new begun next → after ≡ slots_with before lent
    → fault_of_image lent (nodes_of new) (length (images_by new)) ≡ None → AreSoundTo begun (length after)
sound-after Ask new begun d next place before after lent told known noted sound is lends takes then notes none = none-lent begun before after lent lends notes sound
sound-after (Settle size) new begun d next place before after lent told known noted sound is lends takes then notes none = none-lent begun before after lent lends notes sound
sound-after (ReadFirst size) new begun d next place before after lent told known noted sound is lends takes then notes none = none-lent begun before after lent lends notes sound
sound-after (ReadSecond first) new begun d next place before after lent told known noted sound is lends takes then notes none = none-lent begun before after lent lends notes sound
sound-after (Mend mending) new begun d next place before after lent told known noted sound is lends takes then notes none = none-lent begun before after lent lends notes sound
sound-after (SettleMend mending) new begun d next place before after lent told known noted sound is lends takes then notes none = none-lent begun before after lent lends notes sound
sound-after (ReadImage journal) new begun d next place before after lent told known noted sound is lends takes then notes none =
    let l = is_lent begun d next journal lent new told known is lends takes then in
    let slots : after ≡ before ++ slot_of l.page ∷ [] = notes ∙ ap (slots_with before) l.lent_is in
    let count : length before ≡ length journal.images = ap length noted.slots_are ∙ length-map journal.images slot_of in
    let many : length journal.images + 1 ≡ length after = omega (arith, count, ap length slots, length-append before (slot_of l.page ∷ [])) in
    let fine : AreSoundTo begun (length journal.images) = subst (AreSoundTo begun) count sound in
    let fault : fault_of_image (Some l.page) (nodes_of new) (length (images_by new)) ≡ None = ap (λ (o : Option (List ℕ)). fault_of_image o (nodes_of new) (length (images_by new))) (sym l.lent_is) ∙ none in
    subst (AreSoundTo begun) many (taken_sound begun d journal l.page new known l.taken l.more fine fault)
sound-after (Replay replay) new begun d next place before after lent told known noted sound is lends takes then notes none = none-lent begun before after lent lends notes sound
sound-after (Ready ready) new begun d next place before after lent told known noted sound is lends takes then notes none = none-lent begun before after lent lends notes sound
sound-after (Refused refusal) new begun d next place before after lent told known noted sound is lends takes then notes none = none-lent begun before after lent lends notes sound

-- and a lent image whose node fails a check is the first fault
pub refused-after : (old new : RecoverStage) (begun d next : DiskState) (place : ℕ) (before : List ℕ) (lent : Option (List ℕ)) (told : Option DiskState) (e : RecoverError) → IsRecovering old begun d → HasNotedAt old place before begun → AreSoundTo begun (length before) → told ≡ Some d → Lends old lent told → TakesImage old new told → IsRecovering new begun next
    → fault_of_image lent (nodes_of new) (length (images_by new)) ≡ Some e → metadata_on begun ≡ Err e
refused-after Ask new begun d next place before lent told e known noted sound is lends takes then fault = no_fault_lent lent (nodes_of new) (length (images_by new)) e lends fault
refused-after (Settle size) new begun d next place before lent told e known noted sound is lends takes then fault = no_fault_lent lent (nodes_of new) (length (images_by new)) e lends fault
refused-after (ReadFirst size) new begun d next place before lent told e known noted sound is lends takes then fault = no_fault_lent lent (nodes_of new) (length (images_by new)) e lends fault
refused-after (ReadSecond first) new begun d next place before lent told e known noted sound is lends takes then fault = no_fault_lent lent (nodes_of new) (length (images_by new)) e lends fault
refused-after (Mend mending) new begun d next place before lent told e known noted sound is lends takes then fault = no_fault_lent lent (nodes_of new) (length (images_by new)) e lends fault
refused-after (SettleMend mending) new begun d next place before lent told e known noted sound is lends takes then fault = no_fault_lent lent (nodes_of new) (length (images_by new)) e lends fault
refused-after (ReadImage journal) new begun d next place before lent told e known noted sound is lends takes then fault =
    let l = is_lent begun d next journal lent new told known is lends takes then in
    let count : length before ≡ length journal.images = ap length noted.slots_are ∙ length-map journal.images slot_of in
    let fine : AreSoundTo begun (length journal.images) = subst (AreSoundTo begun) count sound in
    taken_refused begun d journal l.page new e known l.taken l.more fine (ap (λ (o : Option (List ℕ)). fault_of_image o (nodes_of new) (length (images_by new))) (sym l.lent_is) ∙ fault)
refused-after (Replay replay) new begun d next place before lent told e known noted sound is lends takes then fault = no_fault_lent lent (nodes_of new) (length (images_by new)) e lends fault
refused-after (Ready ready) new begun d next place before lent told e known noted sound is lends takes then fault = no_fault_lent lent (nodes_of new) (length (images_by new)) e lends fault
refused-after (Refused refusal) new begun d next place before lent told e known noted sound is lends takes then fault = no_fault_lent lent (nodes_of new) (length (images_by new)) e lends fault
