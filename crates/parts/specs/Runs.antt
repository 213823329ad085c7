-- What running a part's operations comes to, on a store's meaning alone.
use Rattle.std.specs.Prelude.{ℕ, suc, ◌+◌, ◌^◌, Bool, false, cond, List, [], ◌∷◌, Some, None, Ok, Err, Option, Result, ◌==◌, nat_lt, slice_set}
use Rattle.std.specs.List.{slice_get}
use Rattle.stores.specs.declared.types.StoreRefusal.{StoreRefusal}
use Rattle.stores.specs.declared.types.StoreRefusal.TheVariants.{KeyAbsent}
use Rattle.stores.specs.Store.{StoreModel, Step, look, put_step, drop_step}
use Rattle.banks.specs.declared.types.BankRefusal.TheVariants.{NoSuchStore, ByStore}
use Rattle.banks.specs.Bank.{BankModel}
use Rattle.scripts.specs.declared.types.Operation.{Operation}
use Rattle.scripts.specs.declared.types.Operation.TheVariants.{Look, Put, Need, Add, Drop}
use Rattle.parts.specs.declared.votes.Cause.{Cause}
use Rattle.parts.specs.declared.votes.Cause.TheVariants.{ByBank, NotAsNeeded, SumTooLarge}
use Rattle.parts.specs.declared.votes.Vote.{Vote}
use Rattle.parts.specs.declared.votes.Vote.TheVariants.{Yes, No}
use Rattle.parts.specs.Votes.{look_number, with_look}

-- an operation: the look number if it gives one, or why it failed; and the store after it
pub record Done : Type 0 where
  pub answer : Result (Option ℕ) Cause
  pub next : StoreModel

abbrev pub failed : Cause → StoreModel → Done
failed cause m = record { answer = Err cause; next = m }

-- a change of the store gives no look number and fails as the store refuses
abbrev pub answered : Result (Unit {0}) StoreRefusal → Result (Option ℕ) Cause
answered (Ok _) = Ok None
answered (Err why) = Err (ByBank (ByStore why))

abbrev pub by_step : Step (Unit {0}) → Done
by_step s = record { answer = answered s.answer; next = s.next }

abbrev pub has_value : ℕ → Option ℕ → Bool
has_value value None = false
has_value value (Some found) = found == value

-- the sum put under a key that has the value found
abbrev pub sum_put : ℕ → ℕ → Option ℕ → StoreModel → Done
sum_put key value None m = failed (ByBank (ByStore KeyAbsent)) m
sum_put key value (Some found) m =
    cond (nat_lt (found + value) (2 ^ 32)) (by_step (put_step key (found + value) m)) (failed SumTooLarge m)

abbrev pub run_operation : Operation → StoreModel → Done
run_operation (Look key) m = record { answer = Ok (Some (look_number (look key m))); next = m }
run_operation (Put key value) m = by_step (put_step key value m)
run_operation (Need key value) m = record { answer = cond (has_value value (look key m)) (Ok None) (Err NotAsNeeded); next = m }
run_operation (Add key value) m = sum_put key value (look key m) m
run_operation (Drop key) m = by_step (drop_step key m)

-- a part's operations in order, up to the first that fails: the vote, the look numbers, the store
pub record PartRun : Type 0 where
  pub vote : Vote
  pub looks : List ℕ
  pub next : StoreModel

-- after operation i: the others' run, or none of them if it failed
abbrev pub then_run : ℕ → Done → PartRun → PartRun
then_run i done others =
    elim done.answer [
      | Ok look ↦ record { vote = others.vote; looks = with_look look others.looks; next = others.next }
      | Err cause ↦ record { vote = No i cause; looks = []; next = done.next }
    ]

-- run from the operation numbered i on
abbrev pub run_from : ℕ → List Operation → StoreModel → PartRun
run_from i [] m = record { vote = Yes; looks = []; next = m }
run_from i (o ∷ os) m = then_run i (run_operation o m) (run_from (suc i) os (run_operation o m).next)

abbrev pub run_part : List Operation → StoreModel → PartRun
run_part os m = run_from 0 os m

-- a part run on the store of a bank; the other stores stay as they were
pub record BankRun : Type 0 where
  pub vote : Vote
  pub looks : List ℕ
  pub next : BankModel

-- where there is no such store the vote is no, at operation 0
abbrev pub run_part_at : ℕ → List Operation → BankModel → BankRun
run_part_at service os stores =
    elim (slice_get stores service) [
      | None ↦ record { vote = No 0 (ByBank NoSuchStore); looks = []; next = stores }
      | Some m ↦ record { vote = (run_part os m).vote; looks = (run_part os m).looks; next = slice_set stores service (run_part os m).next }
    ]
