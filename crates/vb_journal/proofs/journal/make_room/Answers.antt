use Rattle.std.proofs.Common.{ℕ, ◌-◌, ◌≤◌, ◌++◌, false, cond, take, replicate, ◌∙◌, ap, subst}
use Rattle.std.specs.Result.{is_ok}
use Rattle.vb_journal.proofs.Marked.{get_or-room}
use Rattle.vb_journal.proofs.journal.make_room.Goals as goal

pub returns-clause-marks : goal.returns-clause-marks
returns-clause-marks c slot =
    let few = subst (λ (n : ℕ). n ≤ c.args.nodes) c.args.named.now.ok.0 c.requires in
    get_or-room c.args.named.now.items c.resize.new.self.items c.args.nodes slot (is_ok c.resize.result) few (c.resize.ensures.items ∙ ap (λ (n : ℕ). cond (is_ok c.resize.result) (take c.args.nodes c.args.named.now.items ++ replicate (c.args.nodes - n) false) c.args.named.now.items) c.args.named.now.ok.0)
