-- The first place that `position` finds is free, or every place is taken.
use Rattle.std.proofs.Common.{sym, subst, rules}
use borrow.Author.Tests.{tests}
use Rattle.std.proofs.lemmas.Iterator.{YieldsList-from_slice}
use Rattle.std.proofs.lemmas.Iterator.Search.{position_from_yields_List}
use Rattle.std.specs.Option.{is_none}
use Rattle.pools.specs.Places.{Free}
use Rattle.pools.proofs.Places.{free_at}
use Rattle.pools.proofs.free_place.Goals as goal

pub returns : goal.returns
returns g c =
    let found = position_from_yields_List is_none _ _ c.position.result c.position.ensures.ran (YieldsList-from_slice c.args.places.now cc) (λ x b q k. search (rules, tests)) in
    subst (Free c.args.places.now) (sym found) (free_at c.args.places.now)
