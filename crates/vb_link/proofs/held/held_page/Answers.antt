use Rattle.std.proofs.Common.{rules, ◌≡◌, ◌<◌, ◌≤◌, length, get_or, ◌∙◌}
use Rattle.vb_tree.specs.declared.tree.TreeEntry.{TreeEntry}
use Rattle.vb_link.proofs.Places.{held, not_held, page_there}
use Rattle.vb_link.proofs.held.held_page.Goals as goal

pub returns-then-page-digests-clause-none : goal.returns-then-page-digests-clause-none
returns-then-page-digests-clause-none c = λ nothing.
    let e : TreeEntry = record { path = c.entry.result.0.now; kind = c.entry.result.1; bytes = c.entry.result.2.now } in
    let digests = c.digests-digests.result.now in
    let past : length digests ≤ c.args.page = search rules in
    page_there c.args.cloud.now c.args.i c.args.page e c.entry.ensures
    ∙ not_held c.entry.result.2.now c.args.page digests (c.digests-digests.ensures e c.entry.ensures) past

pub returns-clause-within : goal.returns-clause-within
returns-clause-within c =
    let e : TreeEntry = record { path = c.entry.result.0.now; kind = c.entry.result.1; bytes = c.entry.result.2.now } in
    let digests = c.digests-digests.result.now in
    let inside : c.args.page < length digests = search rules in
    let at : get_or digests c.args.page c.index-digests-page.result ≡ c.index-digests-page.result = search rules in
    (held c.entry.result.2.now c.args.page digests c.index-digests-page.result (c.digests-digests.ensures e c.entry.ensures) inside at).within

pub returns-clause-page : goal.returns-clause-page
returns-clause-page c =
    let e : TreeEntry = record { path = c.entry.result.0.now; kind = c.entry.result.1; bytes = c.entry.result.2.now } in
    let digests = c.digests-digests.result.now in
    let inside : c.args.page < length digests = search rules in
    let at : get_or digests c.args.page c.index-digests-page.result ≡ c.index-digests-page.result = search rules in
    page_there c.args.cloud.now c.args.i c.args.page e c.entry.ensures
    ∙ (held c.entry.result.2.now c.args.page digests c.index-digests-page.result (c.digests-digests.ensures e c.entry.ensures) inside at).page

pub returns-clause-digest : goal.returns-clause-digest
returns-clause-digest c =
    let e : TreeEntry = record { path = c.entry.result.0.now; kind = c.entry.result.1; bytes = c.entry.result.2.now } in
    let digests = c.digests-digests.result.now in
    let inside : c.args.page < length digests = search rules in
    let at : get_or digests c.args.page c.index-digests-page.result ≡ c.index-digests-page.result = search rules in
    (held c.entry.result.2.now c.args.page digests c.index-digests-page.result (c.digests-digests.ensures e c.entry.ensures) inside at).digest
