-- Views of a small store, which tests commit to.
use Rattle.std.specs.Prelude.{◌≡◌}
use Rattle.vb_store.specs.Views.{HasNoneBegun, IsView, ViewState}

-- a view of a store of 64 places and 16 nodes, beside which no next one is begun
pub record IsSmallView (v : ViewState) : Type 0 where
  pub view : IsView v
  pub none_begun : HasNoneBegun v
  pub blocks : v.head.blocks ≡ 64
  pub nodes : v.head.nodes ≡ 16
