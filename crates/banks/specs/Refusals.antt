-- The number of each reason for which a bank refuses: its own, or the store's.
use Rattle.std.specs.Prelude.{ℕ}
use Rattle.stores.specs.Refusals.{refusal_number}
use Rattle.banks.specs.declared.types.BankRefusal.{BankRefusal}
use Rattle.banks.specs.declared.types.BankRefusal.TheVariants.{NoSuchStore, ByStore}

abbrev pub bank_refusal_number : BankRefusal → ℕ
bank_refusal_number NoSuchStore = 2
bank_refusal_number (ByStore why) = refusal_number why
