-- What a mount ends as, once the disk that it lent is given back.
use Rattle.std.specs.Borrow.{Lends, Fml, RattleType, MutBor}
use Rattle.vb_store.specs.contracts.mount.Mount.{the_row}
use Rattle.vb_store.specs.declared.mount.Mount.{Mount}

-- a mount that has come as far, over this disk
abbrev pub with_disk : {D : Type 0} → Mount D → D → Mount D
with_disk m disk = record m { disk = disk }

-- once the borrow r ends, the mount has the disk that was left behind it, and has come as far
abbrev pub lends_disk : (D : RattleType) → MutBor (Mount D.Denot) → MutBor D.Denot → Fml
lends_disk D m r = Lends (the_row D) D m r (with_disk m.now)
