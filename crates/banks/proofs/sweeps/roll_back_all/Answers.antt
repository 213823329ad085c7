use Rattle.std.proofs.Common.{refl, ◌∙◌, arith}
use Rattle.stores.specs.Store.{roll_back_step}
use Rattle.banks.proofs.Turns.{turn_all}
use Rattle.banks.proofs.sweeps.roll_back_all.Goals as goal

pub returns : goal.returns
returns g c =
    c.on_first.ensures refl roll_back_step (λ _ _ _ _ _ called. called.1) ∙ turn_all roll_back_step c.count-count.result (g.B.Bank.stores c.args.bank.now) (omega arith)
