use Rattle.std.proofs.Common.{◌∙◌}
use Rattle.std.proofs.lemmas.Result.{err_from_is_err_and}
use Rattle.vb_program.specs.Playing.{history_in}
use Rattle.vb_program.proofs.Loops.{on-ok}
use Rattle.vb_program.proofs.QuietSteps.{freeze-begins}
use Rattle.vb_program.proofs.quiet.freeze_and_publish.Goals as goal

pub commit-requires-clause-way : goal.commit-requires-clause-way
commit-requires-clause-way c =
    let old = c.args.folder.now in
    let q = c.requires.quiet in
    let made = c.in_ok-freeze.ensures.ok q.trees q.rehearsed in
    let begins = freeze-begins old c.freeze.new.folder c.args.by made.0 q c.requires.epochs made.1 in
    (history_in old, c.args.by, begins.way)

pub commit-requires-clause-on : goal.commit-requires-clause-on
commit-requires-clause-on c =
    let old = c.args.folder.now in
    let q = c.requires.quiet in
    let made = c.in_ok-freeze.ensures.ok q.trees q.rehearsed in
    let begins = freeze-begins old c.freeze.new.folder c.args.by made.0 q c.requires.epochs made.1 in
    begins.at

pub returns-in_err-commit-clause-err : goal.returns-in_err-commit-clause-err
returns-in_err-commit-clause-err c =
    let old = c.args.folder.now in
    let q = c.requires.quiet in
    let made = c.in_ok-freeze.ensures.ok q.trees q.rehearsed in
    let begins = freeze-begins old c.freeze.new.folder c.args.by made.0 q c.requires.epochs made.1 in
    let p = err_from_is_err_and c.from_residual-in_err-commit.result c.from_residual-in_err-commit.ensures.1 in
    rw p.1 (c.in_err-commit.ensures.err (history_in old) c.args.by begins.way)

pub publish-requires-clause-way : goal.publish-requires-clause-way
publish-requires-clause-way c =
    let old = c.args.folder.now in
    let q = c.requires.quiet in
    let made = c.in_ok-freeze.ensures.ok q.trees q.rehearsed in
    let begins = freeze-begins old c.freeze.new.folder c.args.by made.0 q c.requires.epochs made.1 in
    let way = c.in_ok-commit.ensures.way (history_in old) c.args.by begins.way in
    (history_in old, c.args.by, way)

pub returns-clause-played : goal.returns-clause-played
returns-clause-played c =
    let old = c.args.folder.now in
    let q = c.requires.quiet in
    let made = c.in_ok-freeze.ensures.ok q.trees q.rehearsed in
    let begins = freeze-begins old c.freeze.new.folder c.args.by made.0 q c.requires.epochs made.1 in
    let way = c.in_ok-commit.ensures.way (history_in old) c.args.by begins.way in
    c.publish.ensures.played (history_in old) c.args.by way

pub returns-clause-epochs : goal.returns-clause-epochs
returns-clause-epochs c =
    let old = c.args.folder.now in
    let q = c.requires.quiet in
    let made = c.in_ok-freeze.ensures.ok q.trees q.rehearsed in
    let begins = freeze-begins old c.freeze.new.folder c.args.by made.0 q c.requires.epochs made.1 in
    on-ok c.publish.result (λ same. same.0 ∙ c.in_ok-commit.ensures.same.0 ∙ begins.epoch) c.publish.ensures.same

pub returns-clause-limits : goal.returns-clause-limits
returns-clause-limits c =
    let old = c.args.folder.now in
    let q = c.requires.quiet in
    let made = c.in_ok-freeze.ensures.ok q.trees q.rehearsed in
    let begins = freeze-begins old c.freeze.new.folder c.args.by made.0 q c.requires.epochs made.1 in
    on-ok c.publish.result (λ same. same.1 ∙ c.in_ok-commit.ensures.same.1 ∙ begins.limits) c.publish.ensures.same

pub returns-clause-err : goal.returns-clause-err
returns-clause-err c =
    let old = c.args.folder.now in
    let q = c.requires.quiet in
    let made = c.in_ok-freeze.ensures.ok q.trees q.rehearsed in
    let begins = freeze-begins old c.freeze.new.folder c.args.by made.0 q c.requires.epochs made.1 in
    let way = c.in_ok-commit.ensures.way (history_in old) c.args.by begins.way in
    c.publish.ensures.err (history_in old) c.args.by way
