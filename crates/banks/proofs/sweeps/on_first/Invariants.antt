use Rattle.std.proofs.Common.{◌≡◌}
use Rattle.stores.specs.Store.{StoreModel, Step}
use Rattle.banks.specs.Sweeps.{ActsAs, first_stores}
use Rattle.banks.proofs.sweeps.on_first.Given as goal

abbrev pub invariant-loop-service : goal.invariant-loop-service
invariant-loop-service g l =
    l.start ≡ 0 → (step : StoreModel → Step (Unit {0})) → ActsAs g.B.Bank.stores (goal.F-post g l.act) l.end step → g.B.Bank.stores l.bank ≡ first_stores step l.service (g.B.Bank.stores l.initial.bank)
