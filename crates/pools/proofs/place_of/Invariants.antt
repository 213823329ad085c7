-- Those that fit among the places passed, and those still to be passed over, are n.
use Rattle.std.proofs.Common.{◌≡◌, ◌+◌, length, take}
use Rattle.pools.specs.Pools.{held, fitting}
use Rattle.pools.proofs.place_of.Given as goal

abbrev pub invariant-loop-i : goal.invariant-loop-i
invariant-loop-i g l = l.older + length (fitting g.M.Message.meets l.party (held (take l.i l.places))) ≡ l.n
