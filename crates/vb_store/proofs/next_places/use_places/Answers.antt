use Rattle.vb_store.proofs.PlacesBegun.{all_used}
use Rattle.vb_store.proofs.next_places.use_places.Goals as goal

pub returns : goal.returns
returns c =
    all_used c.args.space.now c.take_places.new.space c.keep_places.new.space c.args.taken c.args.used.now c.requires.all c.take_places.ensures c.keep_places.ensures
