use Rattle.std.proofs.Common.{rules}
use Rattle.std.proofs.lemmas.Fn.{always_returns_same}
use Rattle.vb_path.specs.Paths.{path_cmp}
use Rattle.vb_cloud.specs.declared.entry.CloudEntry.{CloudEntry}
use Rattle.vb_cloud.proofs.Found.{found, found_none}
use Rattle.vb_cloud.proofs.machine.place_of.Goals as goal

pub returns-in-Ok : goal.returns-in-Ok
returns-in-Ok c =
    found c.args.path.now c.args.shown.now c.in-Ok.place c.requires.in_order c.in-Ok.ensures.bound
    (c.in-Ok.ensures.position (λ (e : CloudEntry). path_cmp e.path c.args.path.now) (always_returns_same _ _ _ (λ a r g called. (search rules, search rules))))

pub returns-in-Err : goal.returns-in-Err
returns-in-Err c =
    found_none c.args.path.now c.args.shown.now c.in-Err.field-0 c.requires.in_order
    (c.in-Err.ensures.position (λ (e : CloudEntry). path_cmp e.path c.args.path.now) (always_returns_same _ _ _ (λ a r g called. (search rules, search rules))))
