-- What a start answers once its folder was begun, or wasn't for want of memory.
use Rattle.std.proofs.Common.{◌≡◌, ℕ, Option, Result, Ok, Err, IfErr, IfOk, sym, subst}
use Rattle.vb_disk.specs.States.{DiskState}
use Rattle.vb_head.specs.declared.head.Head.{Head}
use Rattle.vb_store.specs.Views.{ViewState}
use Rattle.vb_core.specs.Folders.{ledger_in}
use Rattle.vb_core.specs.Greetings.{greeting_of, link_left, Greets, LinkSeen}
use Rattle.vb_core.specs.Opened.{Begins, IsOpened}
use Rattle.vb_core.specs.declared.folder.Folder.{Folder}
use Rattle.vb_core.specs.declared.start_error.StartError.{StartError}
use Rattle.vb_core.specs.declared.start_error.StartError.TheVariants.{Memory}
use Rattle.vb_core.specs.declared.start_error.StartRefused.{StartRefused}
use Rattle.vb_core.proofs.Greeted.{greets-memory}
use Rattle.vb_core.proofs.OpenedSound.{opened}

-- the link is as the greeting left it
pub begun-greets : {D K : Type 0} (head : Head) (before : LinkSeen) (seen : K → LinkSeen) (link : K) (published : ℕ) (result : Result (Folder D K) (StartRefused D K)) → Greets head before (seen link) (Ok published) → link_left result ≡ link → IfOk result (λ folder. (ledger_in folder).published ≡ published) → IfErr result (λ refused. refused.why ≡ Memory) → Greets head before (seen (link_left result)) (greeting_of result)
begun-greets head before seen link published (Ok folder) greets same is refused =
    subst (λ k. Greets head before (seen k) (Ok (ledger_in folder).published)) (sym same)
    (subst (λ (n : ℕ). Greets head before (seen link) (Ok n)) (sym is) greets)
begun-greets head before seen link published (Err back) greets same is refused =
    subst (λ k. Greets head before (seen k) (Err back.why)) (sym same)
    (subst (λ (why : StartError). Greets head before (seen link) (Err why)) (sym refused) (greets-memory head before (seen link) published greets))

-- and a folder that begins is sound for its opening
pub begun-opened : {D K : Type 0} (v : ViewState) (disk : Option DiskState) (before : LinkSeen) (seen : K → LinkSeen) (result : Result (Folder D K) (StartRefused D K)) → Greets v.head before (seen (link_left result)) (greeting_of result) → IfOk result (λ folder. Begins v (ledger_in folder)) → IfOk result (λ folder. IsOpened v (ledger_in folder) disk before.cloud (seen (link_left result)).cloud)
begun-opened v disk before seen (Ok folder) greets begins = opened v (ledger_in folder) disk before (seen folder.link) begins greets
begun-opened v disk before seen (Err back) greets begins = tt
