-- The laws are proved once for every kind of message.
use Rattle.pools.proofs.Laws.{pool_laws}
use Rattle.pools.proofs.pool_laws_hold.Goals as goal

pub returns : goal.returns
returns g c = pool_laws g.M.Message.meets
