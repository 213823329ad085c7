-- The chain counts what waits.
use Rattle.std.proofs.Common.{◌≡◌, length, ◌∙◌, cond, is_some, sym, arith, rules}
use borrow.Author.Tests.{tests}
use Rattle.std.proofs.lemmas.Iterator.{YieldsList-from_slice, YieldsList-from_map}
use Rattle.std.proofs.lemmas.Iterator.Consumers.{sum_by_from_yields_List, fits_by_from_yields_list}
use Rattle.std.proofs.lemmas.List.Sums.{count_by-le-length, length-filter}
use Rattle.pools.specs.Pools.{held}
use Rattle.pools.proofs.Held.{held_le}
use Rattle.pools.proofs.Chains.{waiting}
use Rattle.pools.proofs.count.Goals as goal

pub sum-requires-clause-fits : goal.sum-requires-clause-fits
sum-requires-clause-fits g c =
    let places = c.args.places.now in
    fits_by_from_yields_list (λ p. cond (is_some p) 1 0) places c.map.result _ (YieldsList-from_map _ (λ p. cond (is_some p) 1 0) (YieldsList-from_slice places cc) c.map.ensures.closure (λ x r q k. search (rules, tests))) (omega (arith, count_by-le-length is_some places, c.iter.ensures.bound, c.iter.ensures.len))

pub returns-clause-answer : goal.returns-clause-answer
returns-clause-answer g c =
    let places = c.args.places.now in
    let summed : c.sum.result ≡ length (held places) = sum_by_from_yields_List (λ p. cond (is_some p) 1 0) places c.map.result _ c.sum.ensures.ran (YieldsList-from_map _ (λ p. cond (is_some p) 1 0) (YieldsList-from_slice places cc) c.map.ensures.closure (λ x r q k. search (rules, tests))) ∙ sym (length-filter is_some places) ∙ waiting places in
    search (rules, arith)

pub returns-clause-within : goal.returns-clause-within
returns-clause-within g c = omega (arith, held_le c.args.places.now, returns-clause-answer g c)
