use Rattle.std.proofs.Common.{◌≡◌, ℕ, List, Option, Some, OnOk, set, is_some, true, sym, ap, ◌∙◌, subst}
use Rattle.vb_index.specs.declared.held.Held.{Held}
use Rattle.vb_index.specs.Nodes.{held_at, refs_at, slot_at}
use Rattle.vb_index.specs.Changes.{resized}
use Rattle.vb_index.specs.Indexes.{IndexState}
use Rattle.vb_index.specs.Contents.{HasTree}
use Rattle.vb_index.proofs.Additions.{on_ok-both}
use Rattle.vb_index.proofs.Contents.{resized-contents}
use Rattle.vb_index.proofs.Resizing.{file_in}
use Rattle.vb_index.proofs.index.Index.set_length.Goals as goal

made : (nodes new : List (Option Held)) (slot len : ℕ) (one : Held) → held_at nodes slot ≡ Some one → new ≡ set nodes slot (Some (resized len one)) → (held : Held) → held_at nodes slot ≡ Some held → new ≡ set nodes slot (Some (resized len held))
made nodes new slot len one holds e held also =
    let same : one ≡ held = cc in
    e ∙ ap (λ h. set nodes slot (Some (resized len h))) same

pub returns-clause-nodes : goal.returns-clause-nodes
returns-clause-nodes c = λ held holds.
    let nodes : c.args.self.now.nodes ≡ c.self.inside.table = ap (λ (s : IndexState). s.nodes) (sym c.self.view_is) in
    let S : List (Option Held) → IndexState = λ ns. record { limits = c.self.inside.limits; nodes = ns } in
    let P : IndexState → Type 0 = λ s. OnOk c.resize.result (S c.resize.new.self ≡ record { limits = s.limits; nodes = set s.nodes c.args.slot (Some (resized c.args.len held)) }) in
    let there = c.resize.ensures.ok held (ap (λ ns. held_at ns c.args.slot) (sym nodes) ∙ holds) in
    subst P c.self.view_is (on_ok-both c.resize.result there there (λ e again. ap S e))

pub returns-clause-contents : goal.returns-clause-contents
returns-clause-contents c = λ pages changed tree bytes path next has len at none here others.
    let nodes : c.args.self.now.nodes ≡ c.self.inside.table = ap (λ (s : IndexState). s.nodes) (sym c.self.view_is) in
    let P : List (Option Held) → Type 0 = λ ns. HasTree ns pages tree in
    let had : HasTree c.self.inside.table pages tree = subst P nodes has in
    let F : List (Option Held) → Type 0 = λ ns. is_some (refs_at ns c.args.slot) ≡ true in
    let is_file = subst F nodes c.requires.file in
    let file = file_in c.self.inside.table c.args.slot is_file in
    let there = c.resize.ensures.ok file.0 file.1 in
    on_ok-both c.resize.result there there (λ e again.
    resized-contents c.self.inside.table c.resize.new.self tree path c.args.slot c.args.len bytes next pages changed
    (record { table = c.count.ensures.table; at = ap (λ ns. slot_at ns path) (sym nodes) ∙ at; file = is_file })
    c.requires.short had len none here others (made c.self.inside.table c.resize.new.self c.args.slot c.args.len file.0 file.1 e))
