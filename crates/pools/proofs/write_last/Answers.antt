-- The message written into a free place and moved to the end waits behind all others.
use Rattle.std.proofs.lemmas.List.{take_rest}
use Rattle.pools.proofs.Places.{put_there}
use Rattle.pools.proofs.write_last.Goals as goal

pub returns : goal.returns
returns g c =
    put_there c.args.places.now c.args.i c.requires c.args.message _ _ (take_rest _ c.args.i) c.rotate_left.ensures.after
