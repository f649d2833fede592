use Rattle.vb_plan.proofs.References.{digests_kept, page_is_written, ref_kept}
use Rattle.vb_plan.proofs.laws.references_are_kept_or_planned.Goals as goal

pub returns-clause-digests : goal.returns-clause-digests
returns-clause-digests c = digests_kept

pub returns-clause-kept : goal.returns-clause-kept
returns-clause-kept c = ref_kept

pub returns-clause-written : goal.returns-clause-written
returns-clause-written c page free taken number sources k digest is =
    let w = page_is_written page free taken number sources k digest is in
    (w.r, w.there, w.is_digest, w.written)
