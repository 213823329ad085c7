use Rattle.protocol.proofs.EveryRun.{law_of_every_run}
use Rattle.protocol.proofs.laws.law_of_every_run_holds.Goals as goal

pub returns : goal.returns
returns c = law_of_every_run
