use Rattle.std.proofs.Common.{◌<◌, ◌+◌, List, length, arith, ap, subst, sym, ◌∙◌}
use Rattle.std.specs.Prelude.{count_by, All}
use Rattle.vb_space.specs.declared.users.Users.{Users}
use Rattle.vb_space.specs.Free.{has_next}
use Rattle.vb_space.specs.Spaces.{IsCommitted}
use Rattle.vb_space.proofs.Counts.{next-settled}
use Rattle.vb_space.proofs.Marks.{used_by_committed, committed_uses}
use Rattle.vb_space.proofs.Seen.{places_of}
use Rattle.vb_space.proofs.settle.settle_used.Goals as goal

pub returns-clause-committed : goal.returns-clause-committed
returns-clause-committed c =
    let marked = c.mark_next.new.users in
    let below : All (λ place. place < c.args.first + length marked) c.args.used.now = λ k d within. omega (arith, c.requires.below k d within) in
    λ place. (
      λ uses. used_by_committed c.args.first marked c.args.used.now c.mark_next.ensures.marked place (subst (λ (us : List Users). IsCommitted (places_of c.args.first us) place) c.settle.ensures.settled uses),
      λ here. subst (λ (us : List Users). IsCommitted (places_of c.args.first us) place) (sym c.settle.ensures.settled) (committed_uses c.args.first marked c.args.used.now c.mark_next.ensures.marked c.requires.within below place here),
    )

pub returns-clause-next : goal.returns-clause-next
returns-clause-next c = ap (count_by has_next) c.settle.ensures.settled ∙ next-settled c.mark_next.new.users
