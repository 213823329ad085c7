use Rattle.protocol.proofs.KeptFacts.{kept_laws}
use Rattle.protocol.proofs.laws.kept_facts_hold.Goals as goal

pub returns : goal.returns
returns c = kept_laws
