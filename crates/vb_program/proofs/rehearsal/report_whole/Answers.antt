use Rattle.std.proofs.Common.{ap, ◌∙◌}
use Rattle.std.specs.Prelude.{codes, map}
use Rattle.vb_cloud.specs.Machine.{CloudState}
use Rattle.vb_link.specs.Memory.{cloud_of}
use Rattle.vb_report.specs.Reports.{with_text}
use Rattle.vb_report.specs.Text.{listed_of, listing_text}
use Rattle.vb_program.specs.Playing.{history_in}
use Rattle.vb_program.specs.Run.{view_after}
use Rattle.vb_program.proofs.Tellings.{shown-text, tells-lines, tells-unlisted, tells-whole}
use Rattle.vb_program.proofs.rehearsal.report_whole.Goals as goal

pub returns-in-Err : goal.returns-in-Err
returns-in-Err c =
    let told = rw (c.entries.ensures, c.history.ensures) at c.history-told.ensures in
    tells-lines (history_in c.args.folder) (view_after (history_in c.args.folder)) c.args.report.now c.history-told.new.self c.history-told.result told

pub returns-in-Ok-listing : goal.returns-in-Ok-listing
returns-in-Ok-listing c =
    let h = history_in c.args.folder in
    let mid = c.history-told.new.self in
    let lines = rw (c.entries.ensures, c.history.ensures) at c.in-Ok.ensures in
    tells-whole h (view_after h) c.args.report.now mid c.listing.new.self lines
    (c.in-Ok-listing.ensures
    ∙ ap (λ (k : CloudState). with_text mid (listing_text (codes "view ") k.epoch (map listed_of k.tree))) (c.cloud.ensures ∙ ap cloud_of c.into_parts-link.ensures.link)
    ∙ ap (with_text mid) (shown-text c.args.folder c.requires.quiet c.requires.frozen))

pub returns : goal.returns
returns c =
    let h = history_in c.args.folder in
    let lines = rw (c.entries.ensures, c.history.ensures) at c.in-Ok.ensures in
    tells-unlisted h (view_after h) c.args.report.now c.history-told.new.self c.listing.new.self lines c.in-Err-listing.ensures
