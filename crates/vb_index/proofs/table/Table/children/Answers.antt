use Rattle.std.proofs.Common.{◌≡◌, ℕ, ◌<◌, ◌≤◌, List, [], length, get_or, Option, sym, ap, ◌∙◌, subst, arith}
use Rattle.vb_index.specs.declared.held.Held.{Held}
use Rattle.vb_index.specs.Listings.{AreEntries}
use Rattle.vb_index.proofs.Leaving.{Entries}
use Rattle.vb_index.proofs.Named.{ok-then, values-entries, past-entries}
use Rattle.std.specs.BTreeMap as tree
use Rattle.vb_index.proofs.table.Table.children.Goals as goal

pub returns-in-Some-clause-slots : goal.returns-in-Some-clause-slots
returns-in-Some-clause-slots c =
    let there : c.args.folder < length c.self.inside.nodes.items = omega (arith, c.in-Some.ensures.lookup.3.0, c.deref.ensures.len, c.self.invariant.maps) in
    let is : c.in-Some.entries.now ≡ get_or c.self.inside.children.items c.args.folder c.in-Some.entries.now = c.in-Some.ensures.lookup.1 ∙ ap (λ (ms : List Entries). get_or ms c.args.folder c.in-Some.entries.now) c.deref.ensures.value in
    ok-then c.slots_of.result (λ slots. slots ≡ tree.values c.in-Some.entries.now) (λ slots. AreEntries c.args.self.now c.args.folder slots)
    (λ slots values. let Q : List (Option Held) → Type 0 = λ nodes. AreEntries nodes c.args.folder slots in
    subst Q c.self.view_is (values-entries c.self.inside c.args.folder c.in-Some.entries.now slots c.self.invariant there is values c.slots_of.ensures.ordered))
    c.slots_of.ensures.slots

pub returns-in-None-clause-slots : goal.returns-in-None-clause-slots
returns-in-None-clause-slots c =
    let past : length c.self.inside.nodes.items ≤ c.args.folder = omega (arith, c.in-None.ensures.lookup.3, c.deref.ensures.len, c.self.invariant.maps) in
    let P : List ℕ → Type 0 = λ slots. AreEntries c.args.self.now c.args.folder slots in
    let Q : List (Option Held) → Type 0 = λ nodes. AreEntries nodes c.args.folder [] in
    subst P (sym c.new.ensures) (subst Q c.self.view_is (past-entries c.self.inside.nodes.items c.args.folder c.self.invariant.table past))
