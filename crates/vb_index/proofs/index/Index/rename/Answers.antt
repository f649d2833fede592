use Rattle.std.proofs.Common.{◌≡◌, ℕ, List, Option, sym, ap, ◌∙◌, subst, arith}
use Rattle.vb_index.specs.declared.held.Held.{Held}
use Rattle.vb_tree.specs.Trees.{name_of}
use Rattle.vb_index.specs.Indexes.{IndexState, HasShapeOf, KeepsLimits}
use Rattle.vb_index.specs.Nodes.{pages_in}
use Rattle.vb_index.proofs.PageSums.{no_more-moved}
use Rattle.vb_index.specs.Heights.{MayStand}
use Rattle.vb_index.specs.Moves.{with_place, without_slot, renamed_nodes, replaced_slot, MayPlace, MayReplace}
use Rattle.vb_index.proofs.Heights.{may-stand}
use Rattle.vb_index.proofs.MovedShapes.{renamed-shape}
use Rattle.vb_index.proofs.Renamed.{may-place, may-replace, renamed-is, replaced-is}
use Rattle.vb_index.specs.Contents.{HasTree}
use Rattle.vb_index.proofs.RenamedContents.{rename-allowed, renamed-tree}
use Rattle.vb_index.proofs.index.Index.rename.Goals as goal

pub put_in_place-requires-clause-free : goal.put_in_place-requires-clause-free
put_in_place-requires-clause-free c = λ none.
    let P : List ℕ → Type 0 = λ name. MayPlace c.self.inside.table c.in_ok-slot.slot c.in_ok-place.place.folder name in
    subst P (sym (c.last_of-name.ensures ∙ ap name_of c.parts.ensures.same))
    (may-place c.self.inside.table c.args.source.now c.args.target.now c.in_ok-slot.slot c.in_ok-place.place.folder c.in_ok-place.place.replaced c.in_ok-slot.ensures.source c.in_ok-slot.ensures.found c.in_ok-place.ensures.found none)

pub put_in_place-requires-clause-taken : goal.put_in_place-requires-clause-taken
put_in_place-requires-clause-taken c = λ other is.
    let P : List ℕ → Type 0 = λ name. MayReplace c.self.inside.table c.in_ok-slot.slot other c.in_ok-place.place.folder name in
    subst P (sym (c.last_of-name.ensures ∙ ap name_of c.parts.ensures.same))
    (may-replace c.self.inside.table c.args.source.now c.args.target.now c.in_ok-slot.slot c.in_ok-place.place.folder c.in_ok-place.place.replaced other c.in_ok-slot.ensures.source c.in_ok-slot.ensures.target (sym c.eq.ensures ∙ c.if-eq.false) c.in_ok-slot.ensures.found c.in_ok-place.ensures.found is)

pub put_in_place-requires-clause-stands : goal.put_in_place-requires-clause-stands
put_in_place-requires-clause-stands c =
    let P : List ℕ → Type 0 = λ name. MayStand c.self.inside.table c.in_ok-slot.slot c.in_ok-place.place.folder name in
    subst P (sym (c.last_of-name.ensures ∙ ap name_of c.parts.ensures.same))
    (may-stand c.self.inside.table c.args.source.now c.args.target.now c.in_ok-slot.slot c.in_ok-place.place.folder c.in_ok-place.place.replaced c.parts.ensures.valid c.in_ok-slot.ensures.target c.in_ok-slot.ensures.found c.in_ok-place.ensures.found c.in_ok-place.ensures.shallow)

pub returns-clause-nodes : goal.returns-clause-nodes
returns-clause-nodes c =
    let nodes : c.args.self.now.nodes ≡ c.self.inside.table = ap (λ (s : IndexState). s.nodes) (sym c.self.view_is) in
    let limits : c.args.self.now.limits ≡ c.self.inside.limits = ap (λ (s : IndexState). s.limits) (sym c.self.view_is) in
    let name : c.last_of-name.result.now ≡ name_of c.args.target.now = c.last_of-name.ensures ∙ ap name_of c.parts.ensures.same in
    let is : c.put_in_place.new.table ≡ renamed_nodes c.args.source.now c.args.target.now c.args.self.now.nodes =
    c.in_ok-put_in_place.ensures.ok
    ∙ ap (λ n. with_place (without_slot c.self.inside.table c.in_ok-place.place.replaced) c.in_ok-slot.slot c.in_ok-place.place.folder n) name
    ∙ sym (renamed-is c.self.inside.table c.args.source.now c.args.target.now c.in_ok-slot.slot c.in_ok-place.place.folder c.in_ok-place.place.replaced c.in_ok-slot.ensures.target (sym c.eq.ensures ∙ c.if-eq.false) c.in_ok-slot.ensures.found c.in_ok-place.ensures.found)
    ∙ ap (renamed_nodes c.args.source.now c.args.target.now) (sym nodes) in
    ap (λ ns. record { limits = c.self.inside.limits; nodes = ns }) is ∙ ap (λ l. record { limits = l; nodes = renamed_nodes c.args.source.now c.args.target.now c.args.self.now.nodes }) (sym limits)

pub returns-clause-replaced : goal.returns-clause-replaced
returns-clause-replaced c =
    let nodes : c.args.self.now.nodes ≡ c.self.inside.table = ap (λ (s : IndexState). s.nodes) (sym c.self.view_is) in
    replaced-is c.self.inside.table c.args.source.now c.args.target.now c.in_ok-slot.slot c.in_ok-place.place.folder c.in_ok-place.place.replaced c.in_ok-slot.ensures.target (sym c.eq.ensures ∙ c.if-eq.false) c.in_ok-place.ensures.found
    ∙ ap (replaced_slot c.args.source.now c.args.target.now) (sym nodes)

pub returns-clause-tree : goal.returns-clause-tree
returns-clause-tree c = λ tree is_tree shape.
    let nodes : c.args.self.now.nodes ≡ c.self.inside.table = ap (λ (s : IndexState). s.nodes) (sym c.self.view_is) in
    let P : List (Option Held) → Type 0 = λ ns. HasShapeOf ns tree in
    renamed-shape c.self.inside.table c.put_in_place.new.table tree c.args.source.now c.args.target.now c.in_ok-slot.slot c.in_ok-place.place.folder c.in_ok-place.place.replaced (subst P nodes shape) is_tree c.in_ok-slot.ensures.source c.in_ok-slot.ensures.target (sym c.eq.ensures ∙ c.if-eq.false) c.in_ok-slot.ensures.found c.in_ok-place.ensures.found
    (c.in_ok-put_in_place.ensures.ok ∙ ap (λ n. with_place (without_slot c.self.inside.table c.in_ok-place.place.replaced) c.in_ok-slot.slot c.in_ok-place.place.folder n) (c.last_of-name.ensures ∙ ap name_of c.parts.ensures.same))

pub returns-clause-contents : goal.returns-clause-contents
returns-clause-contents c = λ pages tree has.
    let nodes : c.args.self.now.nodes ≡ c.self.inside.table = ap (λ (s : IndexState). s.nodes) (sym c.self.view_is) in
    let P : List (Option Held) → Type 0 = λ ns. HasTree ns pages tree in
    let here : HasTree c.self.inside.table pages tree = subst P nodes has in
    let source = c.args.source.now in
    let target = c.args.target.now in
    renamed-tree c.self.inside.table c.put_in_place.new.table tree c.self.inside.limits source target c.in_ok-slot.slot c.in_ok-place.place.folder c.in_ok-place.place.replaced pages here c.in_ok-slot.ensures.valid c.parts.ensures.valid
    (rename-allowed c.self.inside.limits tree source target (λ next. c.in_ok-slot.ensures.refused tree next here.shape) (sym c.eq.ensures ∙ c.if-eq.false) (c.in_ok-place.ensures.refused tree here.shape))
    c.in_ok-slot.ensures.source c.in_ok-slot.ensures.target (sym c.eq.ensures ∙ c.if-eq.false) c.in_ok-slot.ensures.found c.in_ok-place.ensures.found
    (c.in_ok-put_in_place.ensures.ok ∙ ap (λ n. with_place (without_slot c.self.inside.table c.in_ok-place.place.replaced) c.in_ok-slot.slot c.in_ok-place.place.folder n) (c.last_of-name.ensures ∙ ap name_of c.parts.ensures.same))

pub returns-clause-within : goal.returns-clause-within
returns-clause-within c = λ within.
    let old : KeepsLimits (record { limits = c.self.inside.limits; nodes = c.self.inside.table }) = subst KeepsLimits (sym c.self.view_is) within in
    let fewer = no_more-moved c.self.inside.table c.in_ok-slot.slot c.in_ok-place.place.folder c.last_of-name.result.now c.in_ok-place.place.replaced in
    let same = ap pages_in c.in_ok-put_in_place.ensures.ok in
    omega (arith, same, fewer, old)
