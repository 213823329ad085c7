use Rattle.std.proofs.Common.{refl, arith}
use Rattle.banks.proofs.one.One.at.Goals as goal

pub returns-in_err-act-clause-there : goal.returns-in_err-act-clause-there
returns-in_err-act-clause-there g c =
    λ _. (c.act.result, record { shown = _; shows = refl; left = _; met = c.act.ensures; leaves = refl }, grind arith)

pub returns-clause-there : goal.returns-clause-there
returns-clause-there g c =
    λ _. (c.act.result, record { shown = _; shows = refl; left = _; met = c.act.ensures; leaves = refl }, grind arith)
