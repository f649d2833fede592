use Rattle.std.proofs.Common.{◌≡◌, ◌≤◌, set, Some, sym, subst, refl, ap, ◌∙◌, arith}
use Rattle.std.proofs.lemmas.Result.{err_from_is_err_and}
use Rattle.vb_tree.specs.Refusals.{refuse_resize}
use Rattle.vb_tree.specs.Trees.{pages_of_length}
use Rattle.vb_index.specs.declared.held.Held.{Held}
use Rattle.vb_index.specs.Changes.{resized}
use Rattle.vb_index.specs.Nodes.{pages_in}
use Rattle.vb_index.proofs.PageSums.{resized_within}
use Rattle.vb_index.proofs.Resizing.{file-none, file-some, file-refs, resize-checks, few-pages}
use Rattle.vb_index.proofs.Tables.{among_totals}
use Rattle.vb_index.proofs.sizes.resizable.Goals as goal

pub returns-in_err-old-clause-refused : goal.returns-in_err-old-clause-refused
returns-in_err-old-clause-refused c = λ tree shape.
    file-none c.args.table.now tree c.args.parts.now c.in_ok-slot.slot (refuse_resize c.args.limits tree c.args.parts.now c.args.len) c.pages-pages.ensures.table shape c.in_ok-slot.ensures.found c.in_err-old.ensures.other.1 (λ more. c.in_ok-slot.ensures.refused tree more shape)
    ∙ (let out = err_from_is_err_and c.from_residual-in_err-old.result c.from_residual-in_err-old.ensures.1 in rw (out.1, out.2, c.in_err-old.ensures.other.0) refl)

pub check_room-requires-clause-old_in : goal.check_room-requires-clause-old_in
check_room-requires-clause-old_in c =
    let file = c.in_ok-old.ensures.file in
    let short = (c.pages-pages.ensures.table.fits c.in_ok-slot.slot file.0 file.1).short in
    omega (arith, short, file.3)

pub check_room-requires-clause-among : goal.check_room-requires-clause-among
check_room-requires-clause-among c =
    let file = c.in_ok-old.ensures.file in
    let among = among_totals c.args.table.now c.in_ok-slot.slot file.0 file.1 in
    omega (arith, among.1, ap pages_of_length file.3, c.pages-pages.ensures.pages)

pub check_room-requires-clause-few : goal.check_room-requires-clause-few
check_room-requires-clause-few c = omega (arith, few-pages c.args.table.now c.pages-pages.ensures.table, c.pages-pages.ensures.pages)

pub returns-in_err-check_room-clause-refused : goal.returns-in_err-check_room-clause-refused
returns-in_err-check_room-clause-refused c = λ tree shape.
    let file = c.in_ok-old.ensures.file in
    file-some c.args.table.now tree c.args.parts.now c.in_ok-slot.slot file.0 (refuse_resize c.args.limits tree c.args.parts.now c.args.len) c.pages-pages.ensures.table shape c.in_ok-slot.ensures.found file.1 file.2 (λ more. c.in_ok-slot.ensures.refused tree more shape)
    ∙ resize-checks c.args.limits c.args.table.now tree c.args.parts.now c.in_ok-slot.slot file.0 c.args.len c.in_ok-old.old c.pages-pages.result c.pages-pages.ensures.table shape c.in_ok-slot.ensures.found file.1 file.2 file.3 c.pages-pages.ensures.pages
    ∙ c.in_err-check_room.ensures
    ∙ (let out = err_from_is_err_and c.from_residual-in_err-check_room.result c.from_residual-in_err-check_room.ensures.1 in rw (out.1, out.2) refl)

pub returns-clause-refused : goal.returns-clause-refused
returns-clause-refused c = λ tree shape.
    let file = c.in_ok-old.ensures.file in
    file-some c.args.table.now tree c.args.parts.now c.in_ok-slot.slot file.0 (refuse_resize c.args.limits tree c.args.parts.now c.args.len) c.pages-pages.ensures.table shape c.in_ok-slot.ensures.found file.1 file.2 (λ more. c.in_ok-slot.ensures.refused tree more shape)
    ∙ resize-checks c.args.limits c.args.table.now tree c.args.parts.now c.in_ok-slot.slot file.0 c.args.len c.in_ok-old.old c.pages-pages.result c.pages-pages.ensures.table shape c.in_ok-slot.ensures.found file.1 file.2 file.3 c.pages-pages.ensures.pages
    ∙ c.in_ok-check_room.ensures

pub returns-clause-found : goal.returns-clause-found
returns-clause-found c =
    let file = c.in_ok-old.ensures.file in
    record { table = c.pages-pages.ensures.table; at = c.in_ok-slot.ensures.found; file = file-refs c.args.table.now c.in_ok-slot.slot file.0 file.1 file.2 }

pub returns-clause-room : goal.returns-clause-room
returns-clause-room c = λ held e within.
    let file = c.in_ok-old.ensures.file in
    let P : Held → Type 0 = λ h. pages_in (set c.args.table.now c.in_ok-slot.slot (Some (resized c.args.len h))) ≤ c.args.limits.pages in
    let same : file.0 ≡ held = (let both : Some file.0 ≡ Some held = sym file.1 ∙ e in cc) in
    subst P same (resized_within c.args.limits c.args.table.now c.in_ok-slot.slot file.0 c.pages-pages.result c.in_ok-old.old c.args.len file.1 file.3 c.pages-pages.ensures.pages c.in_ok-check_room.ensures within)
