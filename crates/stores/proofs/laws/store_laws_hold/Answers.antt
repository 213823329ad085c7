use Rattle.stores.proofs.StepLaws.{store_laws}
use Rattle.stores.proofs.laws.store_laws_hold.Goals as goal

pub returns : goal.returns
returns c = store_laws
