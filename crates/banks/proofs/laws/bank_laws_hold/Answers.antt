use Rattle.banks.proofs.OneStore.{bank_laws}
use Rattle.banks.proofs.laws.bank_laws_hold.Goals as goal

pub returns : goal.returns
returns c = bank_laws
