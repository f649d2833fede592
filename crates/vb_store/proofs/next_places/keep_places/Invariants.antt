use Rattle.std.proofs.Common.{take}
use Rattle.vb_store.specs.NextViews.{UsesToo}
use Rattle.vb_store.proofs.PlacesBegun.{IsKeptIn}
use Rattle.vb_store.proofs.next_places.keep_places.Given as goal

abbrev pub invariant-loop-place : goal.invariant-loop-place
invariant-loop-place l = UsesToo l.initial.space l.space (IsKeptIn l.initial.space (take l.place-index l.used))
