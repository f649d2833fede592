use Rattle.std.proofs.Common.{rules, ◌≡◌, None, Ok, sym, ap, ◌∙◌, subst}
use Rattle.std.specs.Map.{lookup}
use Rattle.std.specs.BTreeMap as btree
use Rattle.vb_tree.specs.Trees.{entry_at}
use Rattle.vb_cloud.specs.declared.entry.CloudEntry.{CloudEntry}
use Rattle.vb_cloud.specs.Machine.{Absent, add_entry}
use Rattle.vb_cloud.specs.Stored.{entry_of, draft_tree, AreUnderTheirPaths}
use Rattle.vb_cloud.proofs.Drafted.{key_cmp, nothing_under, placed, entered}
use Rattle.vb_cloud.proofs.draft.Draft.add.Goals as goal

pub invariant_of-self-2 : goal.invariant_of-self-2
invariant_of-self-2 c =
    let es = c.self.inside.entries.entries in
    let key = c.into_vec-key.result in
    let new : CloudEntry = record { path = c.in_ok-path.path; stored = c.args.stored } in
    let under : key.items ≡ c.args.path.now.path = search rules in
    let copied : c.in_ok-path.path ≡ c.args.path.now.path = search rules in
    let seen : c.args.self.now.tree ≡ draft_tree es = search rules in
    let nothing : entry_at c.args.path.now.path c.args.self.now.tree ≡ None = search rules in
    let none : lookup (btree.is_at (key_cmp key)) es ≡ None = nothing_under key.items es (subst (λ p. entry_at p (draft_tree es) ≡ None) (sym under) (subst (λ t. entry_at c.args.path.now.path t ≡ None) seen nothing)) in
    let is : c.insert.new.self.entries ≡ btree.insert_entry key_cmp es key new = search rules in
    subst AreUnderTheirPaths (sym is) (placed key new es (copied ∙ sym under) none c.self.invariant)

pub returns : goal.returns
returns c =
    let es = c.self.inside.entries.entries in
    let key = c.into_vec-key.result in
    let new : CloudEntry = record { path = c.in_ok-path.path; stored = c.args.stored } in
    let under : key.items ≡ c.args.path.now.path = search rules in
    let seen : c.args.self.now.tree ≡ draft_tree es = search rules in
    let nothing : entry_at c.args.path.now.path c.args.self.now.tree ≡ None = search rules in
    let none : lookup (btree.is_at (key_cmp key)) es ≡ None = nothing_under key.items es (subst (λ p. entry_at p (draft_tree es) ≡ None) (sym under) (subst (λ t. entry_at c.args.path.now.path t ≡ None) seen nothing)) in
    let is : c.insert.new.self.entries ≡ btree.insert_entry key_cmp es key new = search rules in
    subst (λ p. add_entry (entry_of p c.args.stored) c.args.self.now ≡ Ok (record { epoch = c.self.inside.epoch; tree = draft_tree c.insert.new.self.entries; object = Absent })) under
    (entered c.args.self.now c.self.inside.epoch key new es (search rules) seen none (search rules)
    ∙ ap (λ t. Ok (record { epoch = c.self.inside.epoch; tree = draft_tree t; object = Absent })) (sym is))
