-- What a folder ends as, once a device that it lent is given back.
use Rattle.std.specs.Borrow.{Lends, Fml, RattleType, MutBor}
use Rattle.vb_core.specs.contracts.folder.Folder.{the_row}
use Rattle.vb_core.specs.declared.folder.Folder.{Folder}

-- a folder over this disk, all else as it was
abbrev pub with_disk : {D K : Type 0} → Folder D K → D → Folder D K
with_disk folder disk = record folder { disk = disk }

-- a folder with this link, all else as it was
abbrev pub with_link : {D K : Type 0} → Folder D K → K → Folder D K
with_link folder link = record folder { link = link }

-- once the borrow r ends, the folder has the disk that was left behind it, and all else as it was
abbrev pub lends_disk : (D K : RattleType) → MutBor (Folder D.Denot K.Denot) → MutBor D.Denot → Fml
lends_disk D K folder r = Lends (the_row D K) D folder r (with_disk folder.now)

-- once the borrow r ends, the folder has the link that was left behind it, and all else as it was
abbrev pub lends_link : (D K : RattleType) → MutBor (Folder D.Denot K.Denot) → MutBor K.Denot → Fml
lends_link D K folder r = Lends (the_row D K) K folder r (with_link folder.now)
