use Rattle.std.proofs.Common.{◌≡◌, ℕ, ◌+◌, List, [], ◌∷◌, ◌++◌, length, map, Some, rules, sym, ap, ◌∙◌, subst, arith, length-append}
use Rattle.std.specs.List.{All}
use Rattle.std.specs.Map.Iter.{deref_pair}
use Rattle.std.proofs.lemmas.Cmp.{nat_list_cmp_total}
use Rattle.std.proofs.lemmas.Map.Iter.{btree_map_turn, iter_end}
use Rattle.std.proofs.lemmas.List.Elements.{All-push, All-map}
use Rattle.vb_index.specs.Heights.{FitsBelow}
use Rattle.vb_index.specs.Nodes.{child_of}
use Rattle.vb_index.proofs.Depths.{IsShallow, fits-below, deep-below, deep-here, deep-nowhere, text-more, child-at, child-in, entries-all, few-parts, few-bytes}
use Rattle.vb_index.proofs.Growth.{below_root}
use Rattle.vb_index.proofs.moving.+leads_too_deep.Goals as goal

pub returns-then-is_deep-clause-deep : goal.returns-then-is_deep-clause-deep
returns-then-is_deep-clause-deep t c = λ tree source target shape at below to b p.
    deep-here c.args.table.now tree source target c.args.slot c.args.bytes c.args.parts c.entries-below.ensures.table shape at below b p (sym c.is_deep.ensures ∙ c.if-is_deep.true)

pub overflow_add-bytes-in-loop-name : goal.overflow_add-bytes-in-loop-name
overflow_add-bytes-in-loop-name t c = let few = few-bytes c.args.bytes c.args.parts (sym c.is_deep.ensures ∙ c.if-is_deep.false) in omega (arith, few, c.slice.type_inv.1)

pub leads_too_deep-requires : goal.leads_too_deep-requires
leads_too_deep-requires t c =
    let turn = btree_map_turn deref_pair c.loop-name.yielded c.into_iter-name-iterator.result c.loop-name.name-iterator c.next.new.self c.next.result (c.in-Some.name, c.in-Some.child) c.loop-name.yielded_by c.in-Some.is c.next.ensures.steps nat_list_cmp_total c.entries-below.result.now (search rules) (search rules) in
    let child : child_of c.args.table.now c.args.slot c.in-Some.name.now ≡ Some c.in-Some.child.now = sym (c.entries-below.ensures.entries c.in-Some.name.now) ∙ turn.1 in
    let few = few-parts c.args.bytes c.args.parts (sym c.is_deep.ensures ∙ c.if-is_deep.false) in
    (omega (arith, few, c.decreases), (child-in c.args.table.now c.args.slot c.in-Some.name.now c.in-Some.child.now child, omega (arith, few)))

pub returns-then-leads_too_deep-clause-deep : goal.returns-then-leads_too_deep-clause-deep
returns-then-leads_too_deep-clause-deep t c = λ tree source target shape at below to b p.
    let turn = btree_map_turn deref_pair c.loop-name.yielded c.into_iter-name-iterator.result c.loop-name.name-iterator c.next.new.self c.next.result (c.in-Some.name, c.in-Some.child) c.loop-name.yielded_by c.in-Some.is c.next.ensures.steps nat_list_cmp_total c.entries-below.result.now (search rules) (search rules) in
    let child : child_of c.args.table.now c.args.slot c.in-Some.name.now ≡ Some c.in-Some.child.now = sym (c.entries-below.ensures.entries c.in-Some.name.now) ∙ turn.1 in
    let name = c.in-Some.name.now in
    deep-below source target c.in-Some.name.now tree (
    c.leads_too_deep.ensures.deep tree (source ++ c.in-Some.name.now ∷ []) (target ++ c.in-Some.name.now ∷ []) shape
    (child-at c.args.table.now source c.in-Some.name.now c.args.slot c.in-Some.child.now at child)
    (below_root source c.in-Some.name.now) (below_root target c.in-Some.name.now)
    (text-more target c.in-Some.name.now to ∙ omega (arith, b, ap length c.slice.ensures))
    (omega (arith, length-append target (c.in-Some.name.now ∷ []), p))
    ∙ c.if-leads_too_deep.true)

pub loop-name-preserved : goal.loop-name-preserved
loop-name-preserved t c =
    let turn = btree_map_turn deref_pair c.loop-name.yielded c.into_iter-name-iterator.result c.loop-name.name-iterator c.next.new.self c.next.result (c.in-Some.name, c.in-Some.child) c.loop-name.yielded_by c.in-Some.is c.next.ensures.steps nat_list_cmp_total c.entries-below.result.now (search rules) (search rules) in
    let child : child_of c.args.table.now c.args.slot c.in-Some.name.now ≡ Some c.in-Some.child.now = sym (c.entries-below.ensures.entries c.in-Some.name.now) ∙ turn.1 in
    All-push (λ e. IsShallow c.args.table.now c.args.slot c.args.bytes c.args.parts e.0.now) c.loop-name.yielded (c.in-Some.name, c.in-Some.child) c.loop-name.invariant (record {
      shallow = λ tree source target shape at below to b p.
          c.leads_too_deep.ensures.deep tree (source ++ c.in-Some.name.now ∷ []) (target ++ c.in-Some.name.now ∷ []) shape
          (child-at c.args.table.now source c.in-Some.name.now c.args.slot c.in-Some.child.now at child)
          (below_root source c.in-Some.name.now) (below_root target c.in-Some.name.now)
          (text-more target c.in-Some.name.now to ∙ omega (arith, b, ap length c.slice.ensures))
          (omega (arith, length-append target (c.in-Some.name.now ∷ []), p))
          ∙ c.if-leads_too_deep.false;
      fits = λ k is.
          let both : Some k ≡ Some c.in-Some.child.now = sym is ∙ child in
          let same : c.in-Some.child.now ≡ k = cc in
          let P : ℕ → Type 0 = λ j. FitsBelow c.args.table.now j (c.args.bytes + 1 + length c.in-Some.name.now) (c.args.parts + 1) in
          let Q : ℕ → Type 0 = λ n. FitsBelow c.args.table.now c.in-Some.child.now (c.args.bytes + 1 + n) (c.args.parts + 1) in
          subst P same (subst Q (ap length c.slice.ensures) (c.leads_too_deep.ensures.fits c.if-leads_too_deep.false));
    })

pub returns-clause-deep : goal.returns-clause-deep
returns-clause-deep t c = λ tree source target shape at below to b p.
    let all : map deref_pair c.loop-name.yielded ≡ c.entries-below.result.now.entries = search (rules, iter_end) in
    let P : List (List ℕ × ℕ) → Type 0 = λ es. All (λ e. IsShallow c.args.table.now c.args.slot c.args.bytes c.args.parts e.0) es in
    deep-nowhere c.args.table.now tree source target c.args.slot c.args.bytes c.args.parts shape at below to b p (sym c.is_deep.ensures ∙ c.if-is_deep.false)
    (entries-all c.args.table.now c.args.slot c.args.bytes c.args.parts c.entries-below.result.now c.entries-below.ensures.entries
    (subst P all (All-map (λ e. IsShallow c.args.table.now c.args.slot c.args.bytes c.args.parts e.0) deref_pair c.loop-name.yielded c.loop-name.invariant)))

pub returns-clause-fits : goal.returns-clause-fits
returns-clause-fits t c = λ no.
    let all : map deref_pair c.loop-name.yielded ≡ c.entries-below.result.now.entries = search (rules, iter_end) in
    let P : List (List ℕ × ℕ) → Type 0 = λ es. All (λ e. IsShallow c.args.table.now c.args.slot c.args.bytes c.args.parts e.0) es in
    fits-below c.args.table.now c.args.slot c.args.bytes c.args.parts (sym c.is_deep.ensures ∙ c.if-is_deep.false) (λ name k is.
    (entries-all c.args.table.now c.args.slot c.args.bytes c.args.parts c.entries-below.result.now c.entries-below.ensures.entries
    (subst P all (All-map (λ e. IsShallow c.args.table.now c.args.slot c.args.bytes c.args.parts e.0) deref_pair c.loop-name.yielded c.loop-name.invariant)) name k is).fits k is)
