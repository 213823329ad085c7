-- One sound store is a sound bank.
use Rattle.std.specs.Prelude.{[], ◌∷◌}
use Rattle.std.proofs.Common.{lit≤}
use Rattle.stores.specs.Store.{StoreModel, Sound}
use Rattle.banks.specs.Bank.{SoundBank}

pub single_sound : (m : StoreModel) → Sound m → SoundBank (m ∷ [])
single_sound m s = record { not_empty = lit≤ tt; not_many = lit≤ tt; each = (s, tt) }
