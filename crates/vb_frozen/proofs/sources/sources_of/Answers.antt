use Rattle.std.proofs.Common.{◌+◌, ◌++◌, ◌∷◌, [], take, ap, sym, ◌∙◌, arith}
use Rattle.std.proofs.lemmas.List.{length-take-le, take_more}
use Rattle.vb_pages.specs.Tables.{kept_page}
use Rattle.vb_frozen.specs.Sources.{source_of}
use Rattle.vb_frozen.proofs.Sourced.{sources-more}
use Rattle.vb_frozen.proofs.sources.sources_of.Goals as goal

pub loop-page-preserved : goal.loop-page-preserved
loop-page-preserved c =
    let l = c.loop-page in
    let refs = c.args.refs.now in
    c.in_ok-add.ensures.ok
    ∙ ap (λ s. l.sources ++ s ∷ []) c.source_of.ensures
    ∙ ap (λ ss. ss ++ source_of (kept_page c.args.pages.now c.args.slot l.page) c.index-refs-page.result ∷ []) l.invariant
    ∙ sym (sources-more c.args.pages.now c.args.slot l.page (take l.page refs) (take (l.page + 1) refs) c.index-refs-page.result (take_more refs l.page c.index-refs-page.result (omega arith) ∙ ap (λ r. take l.page refs ++ r ∷ []) (sym c.index-refs-page.is)) (length-take-le l.page refs (omega arith)))
