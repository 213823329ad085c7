use Rattle.std.proofs.Common.{refl, ◌∙◌, arith}
use Rattle.stores.specs.Store.{commit_step}
use Rattle.banks.proofs.Turns.{turn_all}
use Rattle.banks.proofs.sweeps.commit_all.Goals as goal

pub returns : goal.returns
returns g c =
    c.on_first.ensures refl commit_step (λ _ _ _ _ _ called. called.1) ∙ turn_all commit_step c.count-count.result (g.B.Bank.stores c.args.bank.now) (omega arith)
