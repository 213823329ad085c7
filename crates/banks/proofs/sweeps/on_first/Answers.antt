use Rattle.std.proofs.Common.{◌≡◌, ap, ◌∙◌, arith}
use Rattle.banks.specs.Bank.{at_store}
use Rattle.banks.specs.Sweeps.{first_stores}
use Rattle.banks.proofs.Turns.{turn_more}
use Rattle.banks.proofs.sweeps.on_first.Goals as goal

pub loop-service-preserved : goal.loop-service-preserved
loop-service-preserved g c = λ from step acts.
    let i = c.loop-service.service in
    acts _ i _ _ c.loop-service-test.true c.act.ensures ∙ ap (λ ms. (at_store i step ms).next) (c.loop-service.invariant from step acts) ∙ turn_more step i _

pub returns : goal.returns
returns g c = λ from step acts.
    let ended : c.loop-service.service ≡ c.args.services.end = omega (arith, from, c.loop-service.auto.service, c.loop-service.auto.service-end, c.loop-service-test.false) in
    c.loop-service.invariant from step acts ∙ ap (λ n. first_stores step n (g.B.Bank.stores c.args.bank.now)) ended
