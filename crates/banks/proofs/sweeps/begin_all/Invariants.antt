use Rattle.banks.proofs.Turns.{Begun}
use Rattle.banks.proofs.sweeps.begin_all.Given as goal

abbrev pub invariant-loop-service : goal.invariant-loop-service
invariant-loop-service g l = Begun l.service (g.B.Bank.stores l.initial.bank) (g.B.Bank.stores l.bank)
