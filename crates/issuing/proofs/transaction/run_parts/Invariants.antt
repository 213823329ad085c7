use Rattle.std.proofs.Common.{◌≡◌, map, drop}
use Rattle.scripts.specs.Lists.{part_of}
use Rattle.issuing.specs.Transaction.{run_parts}
use Rattle.issuing.proofs.Turning.{behind}
use Rattle.issuing.proofs.transaction.run_parts.Given as goal

abbrev pub invariant-loop-part : goal.invariant-loop-part
invariant-loop-part g l =
    behind l.initial.told (run_parts (map part_of l.parts) (g.B.Bank.stores l.initial.bank))
    ≡ behind l.told (run_parts (map part_of (drop l.part-index l.parts)) (g.B.Bank.stores l.bank))
