use Rattle.std.proofs.Common.{rules}
use Rattle.std.proofs.Math.Seq.{take-set-lt}
use Rattle.short_lists.proofs.short_list.ShortList.set.Goals as goal

pub returns-then-i-self : goal.returns-then-i-self
returns-then-i-self g c = take-set-lt _ _ _ _ (search rules)
