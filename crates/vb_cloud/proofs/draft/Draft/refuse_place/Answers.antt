use Rattle.std.proofs.Common.{rules, ◌≡◌, true, false, length, ◌==◌, is_some, ap, ◌∙◌, subst}
use Rattle.vb_tree.specs.Trees.{is_folder, kind_at, entry_at, parent_of}
use Rattle.vb_cloud.specs.Stored.{draft_tree}
use Rattle.vb_cloud.proofs.Drafted.{nothing_at, too_many, may_stand, length-draft_tree}
use Rattle.vb_cloud.proofs.draft.Draft.refuse_place.Goals as goal

pub returns-then-len-eq-MOST_ENTRIES-clause-answer : goal.returns-then-len-eq-MOST_ENTRIES-clause-answer
returns-then-len-eq-MOST_ENTRIES-clause-answer c = λ next.
    let path = c.args.path.now in
    let tree = c.args.self.now.tree in
    let seen : draft_tree c.self.inside.entries.entries ≡ tree = search rules in
    let parent : is_folder (kind_at (parent_of path) tree) ≡ true = search rules in
    let new : is_some (entry_at path tree) ≡ false = subst (λ t. is_some (entry_at path t) ≡ false) seen (nothing_at path c.self.inside.entries.entries ∙ search rules) in
    let many : (length tree == 65535) ≡ true = subst (λ t. (length t == 65535) ≡ true) seen (ap (λ n. n == 65535) (length-draft_tree c.self.inside.entries.entries) ∙ search rules) in
    too_many path tree next parent new many

pub returns-clause-answer : goal.returns-clause-answer
returns-clause-answer c = λ next.
    let path = c.args.path.now in
    let tree = c.args.self.now.tree in
    let seen : draft_tree c.self.inside.entries.entries ≡ tree = search rules in
    let parent : is_folder (kind_at (parent_of path) tree) ≡ true = search rules in
    let new : is_some (entry_at path tree) ≡ false = subst (λ t. is_some (entry_at path t) ≡ false) seen (nothing_at path c.self.inside.entries.entries ∙ search rules) in
    let few : (length tree == 65535) ≡ false = subst (λ t. (length t == 65535) ≡ false) seen (ap (λ n. n == 65535) (length-draft_tree c.self.inside.entries.entries) ∙ search rules) in
    may_stand path tree next parent new few
