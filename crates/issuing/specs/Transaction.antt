-- A transaction: the parts of a script, run on a bank, stand in all of its stores or in none.
use Rattle.std.specs.Prelude.{ℕ, Bool, true, false, cond, List, [], ◌∷◌, map, Ok, Err, Result}
use Rattle.std.specs.List.{list_all}
use Rattle.stores.specs.Store.{commit_step}
use Rattle.short_lists.specs.ShortList.{listed}
use Rattle.banks.specs.declared.types.OpenTrial.{OpenTrial}
use Rattle.banks.specs.Bank.{BankModel}
use Rattle.banks.specs.Sweeps.{each_store, begun_answer, begun_stores}
use Rattle.parts.specs.declared.runs.Ran.{Ran}
use Rattle.parts.specs.declared.votes.Vote.{Vote}
use Rattle.parts.specs.declared.votes.Vote.TheVariants.{Yes, No}
use Rattle.parts.specs.Looks.{looks_of}
use Rattle.scripts.specs.Reading.{Part}
use Rattle.parts.specs.Runs.{run_part_at}
use Rattle.issuing.specs.declared.outcome.Outcome.{Outcome}

abbrev pub is_yes : Vote → Bool
is_yes Yes = true
is_yes (No _ _) = false

-- what a part told: its vote and its look numbers
pub record Told : Type 0 where
  pub vote : Vote
  pub looks : List ℕ

abbrev pub says_yes : Told → Bool
says_yes t = is_yes t.vote

-- the parts run in their order: what each told, and the bank after the last
pub record Turns : Type 0 where
  pub told : List Told
  pub next : BankModel

abbrev pub run_parts : List Part → BankModel → Turns
run_parts [] stores = record { told = []; next = stores }
run_parts (p ∷ ps) stores =
    let r = run_part_at p.service p.operations stores in
    let others = run_parts ps r.next in
    record { told = record { vote = r.vote; looks = r.looks } ∷ others.told; next = others.next }

-- what the parts told, in their order, and whether all stores committed
pub record Settled : Type 0 where
  pub told : List Told
  pub committed : Bool

pub record Transacted : Type 0 where
  pub answer : Result Settled OpenTrial
  pub next : BankModel

-- committed in every store if every vote is yes; else the bank is as it was before
abbrev pub settled : Turns → BankModel → Transacted
settled turns before =
    let agreed = list_all says_yes turns.told in
    record {
      answer = Ok (record { told = turns.told; committed = agreed });
      next = cond agreed (each_store commit_step turns.next) before;
    }

-- refused, with the lowest store whose trial is open; else trials are begun in all stores and the parts run in them
abbrev pub transaction : List Part → BankModel → Transacted
transaction parts stores =
    elim (begun_answer stores) [
      | Err open_trial ↦ record { answer = Err open_trial; next = stores }
      | Ok _ ↦ settled (run_parts parts (begun_stores stores)) stores
    ]

-- the code's values as what they mean
abbrev pub told_of : Ran → Told
told_of r = record { vote = r.vote; looks = looks_of r.looks }

abbrev pub settled_of : Result Outcome OpenTrial → Result Settled OpenTrial
settled_of (Ok o) = Ok (record { told = map told_of (listed o.parts); committed = o.committed })
settled_of (Err open_trial) = Err open_trial
