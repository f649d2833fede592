use Rattle.std.proofs.Common.{◌≡◌, ◌<◌, ℕ, List, [], Some, None, length, get_or, set, ap, sym, subst, ◌∙◌, arith}
use Rattle.vb_tree.specs.declared.tree.Kind.TheVariants.{Folder}
use Rattle.vb_block.specs.declared.digest.Ref.{Ref}
use Rattle.vb_frozen.specs.declared.entry.FrozenEntry.{FrozenEntry}
use Rattle.vb_frozen.specs.Orders.{place_in, refs_in, with_ref, with_reference, IsOrder}
use Rattle.vb_frozen.proofs.Places.{order-with, refs-here, with-reference-at, with-reference-none}
use Rattle.vb_frozen.proofs.order.Order.set_ref.Goals as goal

-- some entry
abbrev some_entry : FrozenEntry
some_entry = record { path = []; kind = Folder; len = 0; slot = 0; parent = 0; refs = [] }

replaced : (slot page place : ℕ) (reference : Ref) (es : List FrozenEntry) (old new : FrozenEntry) → place_in slot es ≡ Some place → old ≡ get_or es place old → new ≡ with_ref page reference old → set es place new ≡ with_reference slot page reference es
replaced slot page place reference es old new at here is =
    ap (set es place) (is ∙ ap (with_ref page reference) here) ∙ sym (with-reference-at slot page reference es place old at).1

pub index_mut-requires : goal.index_mut-requires
index_mut-requires c =
    let a = c.self.inside in
    omega (arith, (with-reference-at c.args.slot c.args.page c.args.reference a.entries.items c.in-Some.place.now some_entry (sym (c.in-Some.ensures.value ∙ c.self.invariant.found c.args.slot))).0, a.entries.ok.0)

pub replace_ref-requires : goal.replace_ref-requires
replace_ref-requires c =
    let a = c.self.inside in
    let at = sym (c.in-Some.ensures.value ∙ c.self.invariant.found c.args.slot) in
    let refs : refs_in c.args.self.now c.args.slot ≡ c.index_mut.result.now.refs =
    ap (λ es. refs_in es c.args.slot) (sym c.self.view_is)
    ∙ refs-here c.args.slot a.entries.items c.in-Some.place.now c.index_mut.result.now at
    ∙ ap (λ (e : FrozenEntry). e.refs) (sym c.index_mut.ensures.value) in
    subst (λ (rs : List Ref). c.args.page < length rs) refs c.requires

pub invariant_of-self : goal.invariant_of-self
invariant_of-self c =
    let a = c.self.inside in
    let at = sym (c.in-Some.ensures.value ∙ c.self.invariant.found c.args.slot) in
    let same = replaced c.args.slot c.args.page c.in-Some.place.now c.args.reference a.entries.items c.index_mut.result.now c.replace_ref.new.entry at c.index_mut.ensures.value c.replace_ref.ensures in
    subst (λ (es : List FrozenEntry). IsOrder es a.places) (sym same) (order-with c.args.slot c.args.page c.args.reference a.entries.items a.places c.self.invariant)

pub returns-in-Some : goal.returns-in-Some
returns-in-Some c =
    let a = c.self.inside in
    let at = sym (c.in-Some.ensures.value ∙ c.self.invariant.found c.args.slot) in
    replaced c.args.slot c.args.page c.in-Some.place.now c.args.reference a.entries.items c.index_mut.result.now c.replace_ref.new.entry at c.index_mut.ensures.value c.replace_ref.ensures
    ∙ ap (with_reference c.args.slot c.args.page c.args.reference) c.self.view_is

pub returns-in-None : goal.returns-in-None
returns-in-None c =
    let none : place_in c.args.slot c.args.self.now ≡ None = ap (place_in c.args.slot) (sym c.self.view_is) ∙ sym (c.in-None.ensures.value ∙ c.self.invariant.found c.args.slot) in
    sym (with-reference-none c.args.slot c.args.page c.args.reference c.args.self.now none)
