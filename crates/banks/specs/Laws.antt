-- What follows from the definition of a bank's functions: one store alone is concerned.
use Rattle.std.specs.Prelude.{◌≡◌, ℕ, ◌≤◌, true, ◌≢◌, length, is_err, Some, Err}
use Rattle.std.specs.List.{slice_get}
use Rattle.stores.specs.Laws.{Lawful}
use Rattle.stores.specs.Store.{StoreModel, Step}
use Rattle.banks.specs.declared.types.BankRefusal.TheVariants.{NoSuchStore}
use Rattle.banks.specs.Bank.{BankModel, SoundBank, at_store, from_store}

pub record BankLaws : Type 0 where
  pub count_stays : (service : ℕ) (function : StoreModel → Step (Unit {0})) (stores : BankModel) → length (at_store service function stores).next ≡ length stores
  pub others_stay : (service other : ℕ) (function : StoreModel → Step (Unit {0})) (stores : BankModel) → other ≢ service → slice_get (at_store service function stores).next other ≡ slice_get stores other
  pub answer_is_store's : (service : ℕ) (function : StoreModel → Step (Unit {0})) (stores : BankModel) (m : StoreModel) → slice_get stores service ≡ Some m → (at_store service function stores).answer ≡ from_store (function m).answer
  pub next_is_store's : (service : ℕ) (function : StoreModel → Step (Unit {0})) (stores : BankModel) (m : StoreModel) → slice_get stores service ≡ Some m → slice_get (at_store service function stores).next service ≡ Some (function m).next
  pub no_such_store : (service : ℕ) (function : StoreModel → Step (Unit {0})) (stores : BankModel) → length stores ≤ service → at_store service function stores ≡ record { answer = Err NoSuchStore; next = stores }
  pub refused_alters_nothing : (service : ℕ) (function : StoreModel → Step (Unit {0})) (stores : BankModel) → Lawful function → is_err (at_store service function stores).answer ≡ true → (at_store service function stores).next ≡ stores
  pub keeps_sound : (service : ℕ) (function : StoreModel → Step (Unit {0})) (stores : BankModel) → Lawful function → SoundBank stores → SoundBank (at_store service function stores).next
