use Rattle.std.proofs.Common.{◌≡◌, Some, sym, subst}
use Rattle.vb_store.specs.NextViews.{IsHeadAfter}
use Rattle.vb_store.specs.Views.{ViewState}
use Rattle.vb_store.proofs.NextSettled.{view_then}
use Rattle.vb_store.proofs.view.View.commit_done.Goals as goal

pub invariant_of-self : goal.invariant_of-self
invariant_of-self c =
    let v : ViewState = record { head = c.self.inside.head; index = c.self.inside.index; next = c.self.inside.next; space = c.self.inside.space } in
    let was : c.self.inside.next ≡ Some c.unwrap.result = cc (c.take.ensures.value, c.unwrap.ensures) in
    let after : IsHeadAfter c.self.inside.head c.args.head = subst (λ (s : ViewState). IsHeadAfter s.head c.args.head) (sym c.self.view_is) c.requires.head in
    view_then v c.unwrap.result c.args.head c.take.new.self c.commit_done.new.self c.self.invariant was after c.take.ensures.after c.commit_done.ensures.done

pub returns-clause-view : goal.returns-clause-view
returns-clause-view c =
    let v : ViewState = record { head = c.self.inside.head; index = c.self.inside.index; next = c.self.inside.next; space = c.self.inside.space } in
    let was : c.self.inside.next ≡ Some c.unwrap.result = cc (c.take.ensures.value, c.unwrap.ensures) in
    let after : IsHeadAfter c.self.inside.head c.args.head = subst (λ (s : ViewState). IsHeadAfter s.head c.args.head) (sym c.self.view_is) c.requires.head in
    view_then v c.unwrap.result c.args.head c.take.new.self c.commit_done.new.self c.self.invariant was after c.take.ensures.after c.commit_done.ensures.done
