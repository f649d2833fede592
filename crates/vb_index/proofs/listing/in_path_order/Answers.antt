use Rattle.std.proofs.Common.{◌≡◌, ℕ, ◌∷◌, [], ◌++◌, List, length, sym, ap, ◌∙◌, subst, arith, length-append}
use Rattle.vb_index.proofs.PathOrder.{IsWalked, walked-start, walked-step, walked-none, walked-all}
use Rattle.vb_index.proofs.listing.in_path_order.Goals as goal

pub loop-node-init : goal.loop-node-init
loop-node-init c = (
  ap length c.new-listed.ensures,
  λ tree is shape.
      let P : List ℕ → Type 0 = λ listed. IsWalked c.args.table.now tree listed c.in_ok-due.due in
      let Q : List ℕ → Type 0 = λ due. IsWalked c.args.table.now tree [] due in
      let first : c.in_ok-due.due ≡ 0 ∷ [] = c.in_ok-due.ensures ∙ ap (λ slot. slot ∷ []) c.root.ensures.slot in
      subst P (sym c.new-listed.ensures) (subst Q (sym first) (walked-start c.args.table.now tree)),
)

pub loop-node-preserved : goal.loop-node-preserved
loop-node-preserved c = (
  ap length c.in_ok-add.ensures.ok ∙ omega (arith, length-append c.loop-node.listed (c.in-Some.slot ∷ []), c.loop-node.invariant.0),
  λ tree is shape.
      let P : List ℕ → Type 0 = λ listed. IsWalked c.args.table.now tree listed c.put_reversed.new.due in
      let Q : List ℕ → Type 0 = λ due. IsWalked c.args.table.now tree (c.loop-node.listed ++ c.in-Some.slot ∷ []) due in
      subst P (sym c.in_ok-add.ensures.ok) (subst Q (sym c.in_ok-put_reversed.ensures) (walked-step c.args.table.now tree c.loop-node.listed c.loop-node.due c.pop.new.self c.in_ok-children.field-0 c.in-Some.slot is shape c.in-Some.ensures.last c.in_ok-children.ensures.slots (c.loop-node.invariant.1 tree is shape))),
)

pub returns-in_default : goal.returns-in_default
returns-in_default c = λ tree is shape.
    let P : List ℕ → Type 0 = λ due. IsWalked c.args.table.now tree c.loop-node.listed due in
    walked-none c.args.table.now tree c.loop-node.listed (subst P c.in_default.ensures.none.0 (c.loop-node.invariant.1 tree is shape))

pub returns : goal.returns
returns c = λ tree is shape.
    walked-all c.args.table.now tree c.loop-node.listed c.loop-node.due shape (c.loop-node.invariant.0 ∙ omega (arith, c.count-node-end.ensures.count)) (c.loop-node.invariant.1 tree is shape)
