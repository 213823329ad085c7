use Rattle.protocol.proofs.Worked.{examples}
use Rattle.protocol.proofs.laws.examples_hold.Goals as goal

pub returns : goal.returns
returns c = examples
