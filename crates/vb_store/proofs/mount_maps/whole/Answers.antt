use Rattle.std.proofs.Common.{List, subst}
use Rattle.std.proofs.lemmas.List.{drop_all}
use Rattle.vb_store.specs.declared.map_page.MapPage.{MapPage}
use Rattle.vb_store.specs.Namings.{AreBlanksNamed, AreNamedOnce}
use Rattle.vb_store.proofs.NamingsEnded.{CanView-ended}
use Rattle.vb_store.proofs.mount_maps.whole.Goals as goal
use Rattle.std.proofs.Common.{length, refl, ap}

pub invariant_of-result-clause-can : goal.invariant_of-result-clause-can
invariant_of-result-clause-can c =
    let t = c.args.tree in
    let none = drop_all t.next t.maps.items c.requires.end in
    CanView-ended t.head t.index t.claims t.is t.closed t.of_head t.first t.range
    (subst (λ (l : List MapPage). AreNamedOnce t.index.nodes t.claims l) none t.once)
    (subst (λ (l : List MapPage). AreBlanksNamed t.index.nodes l) none c.requires.blanks)

pub returns-clause-maps : goal.returns-clause-maps
returns-clause-maps c = (ap length (drop_all c.args.tree.next c.args.tree.maps.items c.requires.end), refl, refl)
