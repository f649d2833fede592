use Rattle.std.proofs.Common.{ℕ, List, ◌++◌, length, Some, ap, sym, ◌∙◌, arith}
use Rattle.std.proofs.lemmas.List.{take_all}
use Rattle.vb_cloudlog.proofs.append.append_frame.Goals as goal

pub returns-in-Err-sync-clause-appends : goal.returns-in-Err-sync-clause-appends
returns-in-Err-sync-clause-appends g c = λ all told.
    let frame = c.args.frame.now in
    (length frame, c.in-Err-sync.ensures.told ∙ c.in-Ok.ensures.ok all told ∙ ap (λ (xs : List ℕ). Some (all ++ xs)) (sym (take_all (length frame) frame (omega arith))))
