use Rattle.std.proofs.Common.{sym, ap, ◌∙◌, is_some}
use Rattle.std.proofs.lemmas.Bool.{false≢true}
use Rattle.vb_index.specs.Changes.{refuse_leaving}
use Rattle.vb_index.proofs.Growth.{slot_holds, no_children}
use Rattle.vb_index.proofs.Leaving.{leaving-no_folder, leaving-used, leaving-bare}
use Rattle.vb_index.proofs.shrink.check_kind.Goals as goal

pub returns-in-Folder-clause-refused : goal.returns-in-Folder-clause-refused
returns-in-Folder-clause-refused c = λ path tree shape at.
    let there = slot_holds c.args.table.now c.is_folder-folder.ensures.table path c.args.slot at in
    ap (λ k. refuse_leaving k tree path) c.in-Folder.is
    ∙ leaving-no_folder c.args.table.now tree path c.args.slot shape at (ap is_some there.1) (sym c.is_folder-folder.ensures.folder ∙ c.if-not-folder.true)

pub returns-in-Folder-2-clause-refused : goal.returns-in-Folder-2-clause-refused
returns-in-Folder-2-clause-refused c = λ path tree shape at.
    let there = slot_holds c.args.table.now c.is_folder-folder.ensures.table path c.args.slot at in
    ap (λ k. refuse_leaving k tree path) c.in-Folder-2.is
    ∙ leaving-used c.args.table.now tree path c.args.slot shape at (ap is_some there.1) (sym c.is_folder-folder.ensures.folder ∙ c.if-not-folder.false) (λ bare. false≢true (sym c.if-not-is_bare.true ∙ c.is_bare.ensures.1 bare))

pub returns-in_default-clause-bare : goal.returns-in_default-clause-bare
returns-in_default-clause-bare c = no_children c.args.table.now c.is_folder-folder.ensures.table c.args.slot (sym c.is_folder-folder.ensures.folder ∙ c.if-folder.false)

pub returns-in_default-2-clause-refused : goal.returns-in_default-2-clause-refused
returns-in_default-2-clause-refused c = λ path tree shape at.
    let there = slot_holds c.args.table.now c.is_folder-folder.ensures.table path c.args.slot at in
    ap (λ k. refuse_leaving k tree path) c.in-Folder-2.is
    ∙ leaving-bare c.args.table.now tree path c.args.slot shape at (ap is_some there.1) (sym c.is_folder-folder.ensures.folder ∙ c.if-not-folder.false) (c.is_bare.ensures.0 c.if-not-is_bare.false)
