-- A store function on every store of a bank in turn.
use Rattle.std.specs.Prelude.{◌≡◌, ℕ, ◌<◌, zero, suc, [], ◌∷◌, map, Some, None, Ok, Err, Option, Result}
use Rattle.std.specs.Borrow.{MutBor}
use Rattle.stores.specs.Store.{StoreModel, Step, begin_step}
use Rattle.banks.specs.declared.types.OpenTrial.{OpenTrial}
use Rattle.banks.specs.Bank.{BankModel, at_store}

-- every store after the function
abbrev pub each_store : {Answer : Type 0} → (StoreModel → Step Answer) → BankModel → BankModel
each_store function stores = map (λ m. (function m).next) stores

-- the first n stores after the function, the others as they were
abbrev pub first_stores : {Answer : Type 0} → (StoreModel → Step Answer) → ℕ → BankModel → BankModel
first_stores function zero stores = stores
first_stores function (suc n) [] = []
first_stores function (suc n) (m ∷ ms) = (function m).next ∷ first_stores function n ms

-- whatever a call on one of the first stores answers, it leaves that store as the function does
abbrev pub ActsAs : {Bank Answer Called : Type 0} → (Bank → BankModel) → (MutBor Bank → ℕ → Called → MutBor Bank → Type 0) → ℕ → (StoreModel → Step Answer) → Type 0
ActsAs {Bank} {Answer} {Called} stores called count function =
    (before : MutBor Bank) (service : ℕ) (answer : Called) (after : MutBor Bank) → service < count → called before service answer after → stores after.now ≡ (at_store service function (stores before.now)).next

-- the lowest number, counted on from i, of a store with an open trial
abbrev pub open_from : ℕ → BankModel → Option ℕ
open_from i [] = None
open_from i (m ∷ ms) = elim m.trial [ Some _ ↦ Some i | None ↦ open_from (suc i) ms ]

-- trials begun in all stores, or in none if one is open, whose number is then told
abbrev pub begun_answer : BankModel → Result (Unit {0}) OpenTrial
begun_answer stores = elim (open_from 0 stores) [ Some i ↦ Err (record { service = i }) | None ↦ Ok tt ]

abbrev pub begun_stores : BankModel → BankModel
begun_stores stores = elim (open_from 0 stores) [ Some _ ↦ stores | None ↦ each_store begin_step stores ]
