use Rattle.std.proofs.Common.{◌≡◌, ◌<◌, ℕ, length, refl, sym, subst, arith}
use Rattle.vb_tree.specs.Trees.{data_pages_of}
use Rattle.vb_upload.proofs.Behind.{some-entry}
use Rattle.vb_upload.proofs.Due.{calls-none, none-due, page-there, told-none}
use Rattle.vb_upload.proofs.Positions.{length-of, page-part, page-seal}
use Rattle.vb_upload.specs.Steps.{due_ref}
use Rattle.vb_upload.specs.declared.cursor.Cursor.TheVariants.{Page}
use Rattle.vb_msg.specs.declared.message.Msg.TheVariants.{Seal}
use Rattle.vb_upload.proofs.message.page_message.Goals as goal

pub returns-then-page-pages_of-clause-part : goal.returns-then-page-pages_of-clause-part
returns-then-page-pages_of-clause-part g c = λ d tree e told view there.
    let f = c.args.frozen.now in
    let entry = some-entry f.order c.args.i c.requires.stands.there in
    let pages : c.pages_of.result ≡ data_pages_of entry.0.len = c.pages_of.ensures.pages entry.0 entry.1 in
    page-seal f.pages d f.order tree c.args.i c.args.page entry.0 e Seal view.has.entries entry.1 there (omega arith) refl

pub returns-then-page-pages_of-clause-due : goal.returns-then-page-pages_of-clause-due
returns-then-page-pages_of-clause-due g c =
    let f = c.args.frozen.now in
    let entry = some-entry f.order c.args.i c.requires.stands.there in
    let pages : c.pages_of.result ≡ data_pages_of entry.0.len = c.pages_of.ensures.pages entry.0 entry.1 in
    told-none f.order f.pages (g.D.Disk.told c.args.disk.now) c.args.i c.args.page (none-due f.order f.pages c.args.i c.args.page entry.0 c.requires.sendable entry.1 (omega arith))

pub returns-then-page-pages_of-clause-called : goal.returns-then-page-pages_of-clause-called
returns-then-page-pages_of-clause-called g c =
    let f = c.args.frozen.now in
    let entry = some-entry f.order c.args.i c.requires.stands.there in
    let pages : c.pages_of.result ≡ data_pages_of entry.0.len = c.pages_of.ensures.pages entry.0 entry.1 in
    calls-none (due_ref f.order f.pages (Page c.args.i c.args.page)) (g.D.Disk.calls c.args.disk.now) Seal (none-due f.order f.pages c.args.i c.args.page entry.0 c.requires.sendable entry.1 (omega arith))

pub given_page-requires-clause-there : goal.given_page-requires-clause-there
given_page-requires-clause-there g c =
    let order = c.args.frozen.now.order in
    let f = some-entry order c.args.i c.requires.stands.there in
    let pages : c.pages_of.result ≡ data_pages_of f.0.len = c.pages_of.ensures.pages f.0 f.1 in
    page-there order c.args.i c.args.page f.0 c.requires.sendable f.1 (omega arith)

pub returns-in_ok-part_message-in-Ok-clause-part : goal.returns-in_ok-part_message-in-Ok-clause-part
returns-in_ok-part_message-in-Ok-clause-part g c = λ d tree e told view there.
    let f = c.args.frozen.now in
    let entry = c.entry.result.now in
    let pages : c.pages_of.result ≡ data_pages_of entry.len = c.pages_of.ensures.pages entry c.entry.ensures in
    let len : entry.len ≡ length e.bytes = length-of f.pages d f.order tree c.args.i entry e view.has.entries c.entry.ensures there in
    let less : c.args.page < data_pages_of entry.len = omega arith in
    let within : c.args.page < data_pages_of (length e.bytes) = subst (λ (n : ℕ). c.args.page < data_pages_of n) len less in
    page-part f.pages d f.order tree c.args.i c.args.page entry e c.in_ok-part_message-in-Ok.field-0 view.has.entries c.entry.ensures there less
    (c.in_ok-part_message-in-Ok.ensures e.bytes (sym len) (c.in-Ok.ensures.contents d tree e told view there within))
