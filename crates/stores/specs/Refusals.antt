-- The number of each reason for which a store refuses.
use Rattle.std.specs.Prelude.{ℕ}
use Rattle.stores.specs.declared.types.StoreRefusal.{StoreRefusal}
use Rattle.stores.specs.declared.types.StoreRefusal.TheVariants.{TrialClosed, TrialOpen, TooManyChanges, Full, KeyAbsent}

abbrev pub refusal_number : StoreRefusal → ℕ
refusal_number TrialClosed = 40
refusal_number TrialOpen = 41
refusal_number TooManyChanges = 42
refusal_number Full = 43
refusal_number KeyAbsent = 44
