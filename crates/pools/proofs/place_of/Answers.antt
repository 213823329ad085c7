-- The loop stops at the message that has n before it that fit, or too few fit.
use Rattle.std.proofs.Common.{◌≡◌, ◌∙◌, length, sym, ap, arith, rules}
use borrow.Author.Tests.{tests}
use Rattle.std.proofs.lemmas.List.{take_all}
use Rattle.std.proofs.lemmas.Option.{slice_get_past}
use Rattle.std.proofs.lemmas.Bool.Decides.{nat_tests}
use Rattle.pools.specs.Pools.{held, fitting}
use Rattle.pools.proofs.OnePlace.{fits}
use Rattle.pools.proofs.Laws.{without_none}
use Rattle.pools.proofs.Places.{stands}
use Rattle.pools.proofs.Steps.{fitting_more}
use Rattle.pools.proofs.place_of.Goals as goal
use Rattle.pools.proofs.place_of.Goals.{then-is_some_and+else-older-eq0, else-is_some_and}

pub returns-then-older-eq0 : goal.returns-then-older-eq0
returns-then-older-eq0 g c =
    let waits : c.is_some_and.result ≡ fits g.M.Message.meets c.args.party.now c.index-places-i.result = search (rules, tests) in
    stands _ _ _ _ _ _ c.loop-i-test.true c.index-places-i.is (sym waits ∙ c.if-is_some_and.true) (omega arith)

pub loop-i-preserved : goal.loop-i-preserved
loop-i-preserved g c =
    let waits : c.is_some_and.result ≡ fits g.M.Message.meets c.args.party.now c.index-places-i.result = search (rules, tests) in
    let more = fitting_more c.args.places.now c.loop-i.i c.index-places-i.result c.loop-i-test.true c.index-places-i.is g.M.Message.meets c.args.party.now in
    elim c.if-is_some_and.branch [ then-is_some_and+else-older-eq0 w ↦ grind (arith, nat_tests) | else-is_some_and w ↦ grind (arith, nat_tests) ]

pub returns : goal.returns
returns g c =
    let meets = g.M.Message.meets in
    let party = c.args.party.now in
    let all = ap (λ ps. length (fitting meets party (held ps))) (take_all _ c.args.places.now c.loop-i-test.false) in
    let ms = held c.args.places.now in
    let none = slice_get_past (fitting meets party ms) c.args.n (omega (arith, all, c.loop-i.invariant)) in
    (none, sym (without_none meets party ms c.args.n none))
