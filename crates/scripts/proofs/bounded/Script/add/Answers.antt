-- To write the last part anew is to write anew the last of the parts' meanings.
use Rattle.std.proofs.Common.{arith}
use Rattle.std.proofs.lemmas.Grind.{common_steps}
use Rattle.std.proofs.lemmas.List.{map-set}
use Rattle.scripts.proofs.bounded.Script.add.Goals as goal

pub returns : goal.returns
returns c = grind (arith, common_steps, map-set)
