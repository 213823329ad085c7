-- The turns of a script's parts, and the way back.
use Rattle.std.proofs.Common.{◌≡◌, ℕ, ◌+◌, ◌<◌, ◌≤◌, List, [], ◌∷◌, ◌++◌, map, length, get_or, take, drop, Ok, refl, ◌∙◌, add-one, arith}
use Rattle.std.proofs.lemmas.List.{append-nil, append_assoc, drop_all, map-append, length-map, take_all, take-map}
use Rattle.std.proofs.Math.Seq.{drop-cons}
use Rattle.stores.specs.Store.{roll_back_step}
use Rattle.short_lists.specs.declared.short_list.ShortList.{ShortList}
use Rattle.short_lists.specs.ShortList.{listed}
use Rattle.banks.specs.Bank.{BankModel}
use Rattle.banks.specs.Sweeps.{each_store, begun_answer, begun_stores}
use Rattle.banks.proofs.Turns.{all_back}
use Rattle.scripts.specs.declared.bounded.Script.{Script}
use Rattle.scripts.specs.declared.bounded.ScriptPart.{ScriptPart}
use Rattle.scripts.specs.Lists.{operations_of, part_of, parts_of}
use Rattle.scripts.specs.Reading.{Part}
use Rattle.parts.specs.declared.runs.Ran.{Ran}
use Rattle.parts.specs.Runs.{BankRun, run_part_at}
use Rattle.parts.proofs.Backs.{part_back}
use Rattle.short_lists.specs.Lengths.{listed_few, listed_whole}
use Rattle.parts.proofs.Kept.{take_capped}
use Rattle.issuing.specs.Transaction.{Turns, run_parts, settled, told_of, transaction}

parts_back : (parts : List Part) (stores : BankModel) → each_store roll_back_step (run_parts parts stores).next ≡ each_store roll_back_step stores
parts_back [] stores = refl
parts_back (p ∷ ps) stores = parts_back ps (run_part_at p.service p.operations stores).next ∙ part_back p.service p.operations stores

pub all_turned_back : (parts : List Part) (stores : BankModel) → begun_answer stores ≡ Ok tt → each_store roll_back_step (run_parts parts (begun_stores stores)).next ≡ stores
all_turned_back parts stores begun = parts_back parts (begun_stores stores) ∙ all_back stores begun

pub told_few : (parts : List Part) (stores : BankModel) → length (run_parts parts stores).told ≡ length parts
told_few [] stores = refl
told_few (p ∷ ps) stores = let rest = told_few ps (run_part_at p.service p.operations stores).next in grind arith

-- the turns, behind what was told before them
abbrev pub behind : ShortList Ran 4 → Turns → Turns
behind told turns = record { told = take 4 (map told_of (listed told) ++ turns.told); next = turns.next }

module _ (parts : List ScriptPart) (i : ℕ) (stores : BankModel) (told : ShortList Ran 4) where
  module _ (d : ScriptPart) (within : i < length parts) where
    abbrev run : BankRun
    run = run_part_at (get_or parts i d).service (operations_of (get_or parts i d).operations) stores

    pub turn_on : (r : Ran) (now : BankModel) (after : ShortList Ran 4) → told_of r ≡ record { vote = run.vote; looks = run.looks } → now ≡ run.next → listed after ≡ take 4 (listed told ++ r ∷ []) → behind told (run_parts (map part_of (drop i parts)) stores) ≡ behind after (run_parts (map part_of (drop (i + 1) parts)) now)
    turn_on r now after answer next note =
        let others = run_parts (map part_of (drop (i + 1) parts)) now in
        let kept : take 4 (map told_of (listed after) ++ others.told) ≡ take 4 (map told_of (listed told) ++ (told_of r ∷ others.told)) =
        rw (note, ← take-map told_of 4 (listed told ++ r ∷ []), take_capped, map-append told_of, append_assoc) refl in
        let next_part = drop-cons parts i d within in
        let one = add-one i in
        grind arith

  pub turns_ended : length parts ≤ i → behind told (run_parts (map part_of (drop i parts)) stores) ≡ record { told = map told_of (listed told); next = stores }
  turns_ended past = rw (drop_all i parts past, append-nil, take-map, listed_whole told) refl

pub told_whole : (parts : List Part) (stores : BankModel) → length parts ≤ 4 → take 4 (run_parts parts stores).told ≡ (run_parts parts stores).told
told_whole parts stores few = take_all 4 _ (let same = told_few parts stores in omega arith)

pub parts_few : (s : Script) → length (parts_of s) ≤ 4
parts_few s = simp length-map (listed_few s.parts)

-- what the transaction comes to once trials are begun in all stores
pub transaction_begun : (parts : List Part) (stores : BankModel) → Ok tt ≡ begun_answer stores → transaction parts stores ≡ settled (run_parts parts (begun_stores stores)) stores
transaction_begun parts stores begun = rw (← begun, transaction) refl

pub ruleset transaction_runs = (transaction_begun, all_turned_back, told_whole, parts_few)
