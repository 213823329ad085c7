-- What a bank means: the list of its stores. Each function of a bank is a function of one store.
use Rattle.std.specs.Prelude.{ℕ, ◌≤◌, List, ◌++◌, length, take, Some, None, Ok, Err, Result, slice_set}
use Rattle.std.specs.List.{slice_get, AllByRecursion}
use Rattle.stores.specs.declared.types.StoreRefusal.{StoreRefusal}
use Rattle.stores.specs.Store.{StoreModel, Step, Sound}
use Rattle.banks.specs.declared.types.BankRefusal.{BankRefusal}
use Rattle.banks.specs.declared.types.BankRefusal.TheVariants.{NoSuchStore, ByStore}

-- the stores, numbered from 0
abbrev pub BankModel : Type 0
BankModel = List StoreModel

-- what an operation comes to: its answer and the bank after it
pub record BankStep (Answer : Type 0) : Type 0 where
  pub answer : Result Answer BankRefusal
  pub next : BankModel

abbrev pub from_store : {Answer : Type 0} → Result Answer StoreRefusal → Result Answer BankRefusal
from_store (Ok answer) = Ok answer
from_store (Err why) = Err (ByStore why)

-- a store function on the store of this number; the other stores stay as they were
abbrev pub at_store : {Answer : Type 0} → ℕ → (StoreModel → Step Answer) → BankModel → BankStep Answer
at_store service function stores =
    elim (slice_get stores service) [
      | None ↦ record { answer = Err NoSuchStore; next = stores }
      | Some m ↦ record { answer = from_store (function m).answer; next = slice_set stores service (function m).next }
    ]

-- what holds of every bank at any time: 1 to 8 stores, each sound
pub record SoundBank (stores : BankModel) : Type 0 where
  pub not_empty : 1 ≤ length stores
  pub not_many : length stores ≤ 8
  pub each : AllByRecursion Sound stores

-- two banks joined: the left one's stores, then the right one's, and none past the eighth
abbrev pub joined_stores : BankModel → BankModel → BankModel
joined_stores left right = take 8 (left ++ right)
