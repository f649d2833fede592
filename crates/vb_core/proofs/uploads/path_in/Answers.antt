use Rattle.std.proofs.Common.{◌≡◌, Some, sym, subst}
use Rattle.vb_frozen.specs.declared.entry.FrozenEntry.{FrozenEntry}
use Rattle.vb_local.specs.States.{frozen_in, frozen_state, LocalState}
use Rattle.vb_upload.proofs.Behind.{sendable-at}
use Rattle.vb_core.proofs.Named.{sending-stands}
use Rattle.vb_core.proofs.uploads.path_in.Goals as goal

pub path_of_entry-requires : goal.path_of_entry-requires
path_of_entry-requires c =
    let s = c.args.ledger.now in
    let frozen = frozen_state c.in-Some.frozen.now in
    let at : frozen_in s.local.phase ≡ Some frozen = subst (λ (l : LocalState). frozen_in l.phase ≡ Some frozen) c.local.ensures.local (sym c.in-Some.ensures) in
    let sends = c.local.ensures.kept.sends frozen at (sending-stands s.unsure s.local.standing s.stage c.requires.sends) in
    (sendable-at frozen.order c.args.i c.entry.result.now sends.can c.entry.ensures).is_path
