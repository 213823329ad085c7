use Rattle.std.proofs.Common.{◌≡◌, drop}
use Rattle.parts.specs.Looks.{looks_of}
use Rattle.parts.specs.Runs.{run_part_at}
use Rattle.parts.proofs.BankRuns.{behind, turns}
use Rattle.parts.proofs.runs.vote_on.Given as goal

abbrev pub invariant-loop-i : goal.invariant-loop-i
invariant-loop-i g l =
    behind (looks_of l.initial.looks) (run_part_at l.service l.operations (g.B.Bank.stores l.initial.bank))
    ≡ behind (looks_of l.looks) (turns l.service l.i (drop l.i l.operations) (g.B.Bank.stores l.bank))
