use Rattle.protocol.proofs.NeverRuns.{regular_runs}
use Rattle.protocol.proofs.laws.runs_stay_regular.Goals as goal

pub returns : goal.returns
returns c = regular_runs
