-- A part's run does not show once its trial is rolled back.
use Rattle.std.proofs.Common.{◌≡◌, ℕ, suc, List, [], ◌∷◌, Ok, refl, ap, ◌∙◌, arith}
use Rattle.stores.specs.Store.{StoreModel, Step, roll_back_step}
use Rattle.stores.proofs.StepLaws.{change_back}
use Rattle.banks.specs.Bank.{BankModel, at_store}
use Rattle.banks.specs.Sweeps.{each_store}
use Rattle.banks.proofs.Turns.{each_after}
use Rattle.scripts.specs.declared.types.Operation.{Operation}
use Rattle.parts.specs.Runs.{run_operation, run_from, run_part, run_part_at}

operation_back : (o : Operation) (m : StoreModel) → (roll_back_step (run_operation o m).next).next ≡ (roll_back_step m).next
operation_back o m = grind (arith, change_back)

run_back : (i : ℕ) (os : List Operation) (m : StoreModel) → (roll_back_step (run_from i os m).next).next ≡ (roll_back_step m).next
run_back i [] m = refl
run_back i (o ∷ os) m = let rest = run_back (suc i) os (run_operation o m).next in let here = operation_back o m in grind arith

pub part_back : (service : ℕ) (os : List Operation) (stores : BankModel) → each_store roll_back_step (run_part_at service os stores).next ≡ each_store roll_back_step stores
part_back service os stores = ap (each_store roll_back_step) alike ∙ each_after service step roll_back_step stores (λ m. run_back 0 os m)
  where
    step : StoreModel → Step (Unit {0})
    step m = record { answer = Ok tt; next = (run_part os m).next }

    alike : (run_part_at service os stores).next ≡ (at_store service step stores).next
    alike = grind arith
