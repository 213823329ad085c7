-- One operation on the store of a bank.
use Rattle.std.specs.Prelude.{ℕ, Some, None, Err, Option, Result, slice_set}
use Rattle.std.specs.List.{slice_get}
use Rattle.banks.specs.declared.types.BankRefusal.TheVariants.{NoSuchStore}
use Rattle.banks.specs.Bank.{BankModel}
use Rattle.scripts.specs.declared.types.Operation.{Operation}
use Rattle.parts.specs.declared.votes.Cause.{Cause}
use Rattle.parts.specs.declared.votes.Cause.TheVariants.{ByBank}
use Rattle.parts.specs.Runs.{run_operation}

pub record Operated : Type 0 where
  pub answer : Result (Option ℕ) Cause
  pub next : BankModel

-- what `Runs` says of the store; the other stores stay as they were
abbrev pub operated : ℕ → Operation → BankModel → Operated
operated service operation stores =
    elim (slice_get stores service) [
      | None ↦ record { answer = Err (ByBank NoSuchStore); next = stores }
      | Some m ↦ record { answer = (run_operation operation m).answer; next = slice_set stores service (run_operation operation m).next }
    ]
