-- The chain counts what waits and fits.
use Rattle.std.proofs.Common.{◌≡◌, length, ◌∙◌, cond, sym, arith, rules}
use borrow.Author.Tests.{tests}
use Rattle.std.proofs.lemmas.Iterator.{YieldsList-from_slice, YieldsList-from_map}
use Rattle.std.proofs.lemmas.Iterator.Consumers.{sum_by_from_yields_List, fits_by_from_yields_list}
use Rattle.std.proofs.lemmas.List.Sums.{count_by-le-length, length-filter}
use Rattle.pools.specs.Pools.{held, fitting}
use Rattle.pools.proofs.Chains.{waiting_for}
use Rattle.pools.proofs.OnePlace.{fits}
use Rattle.pools.proofs.Laws.{fitting_le}
use Rattle.pools.proofs.count_for.Goals as goal

pub sum-requires-clause-fits : goal.sum-requires-clause-fits
sum-requires-clause-fits g c =
    let fit = fits g.M.Message.meets c.args.party.now in
    let places = c.args.places.now in
    fits_by_from_yields_list (λ p. cond (fit p) 1 0) places c.map.result _ (YieldsList-from_map _ (λ p. cond (fit p) 1 0) (YieldsList-from_slice places cc) c.map.ensures.closure (λ x r q k. search (rules, tests))) (omega (arith, count_by-le-length fit places, c.iter.ensures.bound, c.iter.ensures.len))

pub returns-clause-answer : goal.returns-clause-answer
returns-clause-answer g c =
    let meets = g.M.Message.meets in
    let party = c.args.party.now in
    let fit = fits meets party in
    let places = c.args.places.now in
    let summed : c.sum.result ≡ length (fitting meets party (held places)) = sum_by_from_yields_List (λ p. cond (fit p) 1 0) places c.map.result _ c.sum.ensures.ran (YieldsList-from_map _ (λ p. cond (fit p) 1 0) (YieldsList-from_slice places cc) c.map.ensures.closure (λ x r q k. search (rules, tests))) ∙ sym (length-filter fit places) ∙ waiting_for meets party places in
    search (rules, arith)

pub returns-clause-within : goal.returns-clause-within
returns-clause-within g c = omega (arith, fitting_le g.M.Message.meets c.args.party.now (held c.args.places.now), returns-clause-answer g c)
