-- A part run operation by operation through a bank is the part run on the store's meaning.
use Rattle.std.proofs.Common.{◌≡◌, ℕ, suc, ◌+◌, ◌<◌, ◌≤◌, List, [], ◌∷◌, ◌++◌, length, get_or, take, drop, set, Some, None, Ok, Err, Option, refl, add-one, arith, set-set}
use Rattle.std.proofs.lemmas.List.{drop_all, append-nil, append_assoc, take_all}
use Rattle.std.proofs.lemmas.Option.{slice_get_past}
use Rattle.std.proofs.Math.Seq.{drop-cons}
use Rattle.std.specs.List.{slice_get}
use Rattle.stores.specs.Store.{StoreModel, look}
use Rattle.banks.specs.declared.types.BankRefusal.TheVariants.{NoSuchStore}
use Rattle.banks.specs.Bank.{BankModel}
use Rattle.banks.proofs.OneStore.{nth_set_same}
use Rattle.banks.proofs.Turns.{set_nth, within_none}
use Rattle.scripts.specs.declared.types.Operation.{Operation}
use Rattle.parts.specs.declared.votes.Cause.{Cause}
use Rattle.parts.specs.declared.votes.Cause.TheVariants.{ByBank}
use Rattle.parts.specs.declared.looks.Looks.{Looks}
use Rattle.parts.specs.declared.votes.Vote.TheVariants.{Yes, No}
use Rattle.parts.specs.Looks.{looks_of}
use Rattle.parts.specs.OnBank.{Operated, operated}
use Rattle.parts.specs.Runs.{PartRun, BankRun, run_operation, run_from, run_part_at}
use Rattle.parts.specs.Votes.{with_look}
use Rattle.short_lists.specs.Lengths.{listed_few}
use Rattle.parts.proofs.Kept.{take_capped}

-- a store that an operation only reads is written back as it was
pub ruleset read_only = (set_nth)

-- the operations in turn, through the bank
abbrev pub then_turns : ℕ → Operated → BankRun → BankRun
then_turns i done others =
    elim done.answer [
      | Ok look ↦ record { vote = others.vote; looks = with_look look others.looks; next = others.next }
      | Err cause ↦ record { vote = No i cause; looks = []; next = done.next }
    ]

abbrev pub turns : ℕ → ℕ → List Operation → BankModel → BankRun
turns service i [] stores = record { vote = Yes; looks = []; next = stores }
turns service i (o ∷ os) stores = then_turns i (operated service o stores) (turns service (suc i) os (operated service o stores).next)

abbrev seen_part : ℕ → BankModel → PartRun → BankRun
seen_part service stores r = record { vote = r.vote; looks = r.looks; next = set stores service r.next }

turns_alike : (service i : ℕ) (os : List Operation) (stores : BankModel) (m : StoreModel) → slice_get stores service ≡ Some m → turns service i os stores ≡ seen_part service stores (run_from i os m)
turns_alike service i [] stores m there = grind (arith, set_nth)
turns_alike service i (o ∷ os) stores m there =
    let done = run_operation o m in
    let rest = turns_alike service (suc i) os (set stores service done.next) done.next (nth_set_same stores service m done.next there) in
    let once = set-set stores service done.next (run_from (suc i) os done.next).next in
    grind arith

pub part_alike : (service : ℕ) (os : List Operation) (stores : BankModel) → service < length stores → turns service 0 os stores ≡ run_part_at service os stores
part_alike service os stores within = grind (arith, within_none, turns_alike)

pub part_nowhere : (service : ℕ) (os : List Operation) (stores : BankModel) → length stores ≤ service → run_part_at service os stores ≡ record { vote = No 0 (ByBank NoSuchStore); looks = []; next = stores }
part_nowhere service os stores past = grind (arith, slice_get_past)

-- an operation gives at most one look number
pub looks_few : (i : ℕ) (os : List Operation) (m : StoreModel) → length (run_from i os m).looks ≤ length os
looks_few i [] m = omega arith
looks_few i (o ∷ os) m = let rest = looks_few (suc i) os (run_operation o m).next in grind arith

pub looks_capped : (service : ℕ) (os : List Operation) (stores : BankModel) → length os ≤ 8 → take 8 (run_part_at service os stores).looks ≡ (run_part_at service os stores).looks
looks_capped service os stores short = take_all 8 _ (let few : length (run_part_at service os stores).looks ≤ length os = grind (arith, looks_few) in omega arith)

-- a run, behind the look numbers that were noted before it
abbrev pub behind : List ℕ → BankRun → BankRun
behind looks r = record { vote = r.vote; looks = take 8 (looks ++ r.looks); next = r.next }

noted : (looks rest : List ℕ) (look : Option ℕ) → take 8 (take 8 (looks ++ with_look look []) ++ rest) ≡ take 8 (looks ++ with_look look rest)
noted looks rest None = rw append-nil (take_capped 8 looks rest)
noted looks rest (Some number) = rw (take_capped, append_assoc) refl

pub looks_listed : (l : Looks) → length (looks_of l) ≤ 8
looks_listed l = listed_few l.numbers

whole : (looks : List ℕ) → length looks ≤ 8 → take 8 (looks ++ []) ≡ looks
whole looks few = rw append-nil (take_all 8 looks few)

pub looks_whole : (l : Looks) → take 8 (looks_of l ++ []) ≡ looks_of l
looks_whole l = whole (looks_of l) (looks_listed l)

module _ (service : ℕ) (os : List Operation) (i : ℕ) (stores : BankModel) (looks : List ℕ) where
  module _ (d : Operation) (within : i < length os) where
    abbrev done : Operated
    done = operated service (get_or os i d) stores

    here : turns service i (drop i os) stores ≡ then_turns i done (turns service (i + 1) (drop (i + 1) os) done.next)
    here = rw (add-one, drop-cons os i d within) refl

    pub turn_on : (look : Option ℕ) (now : BankModel) (after : List ℕ) → Ok look ≡ done.answer → now ≡ done.next → after ≡ take 8 (looks ++ with_look look []) → behind looks (turns service i (drop i os) stores) ≡ behind after (turns service (i + 1) (drop (i + 1) os) now)
    turn_on look now after answer next note =
        let turned = here in
        let kept = noted looks (turns service (i + 1) (drop (i + 1) os) now).looks look in
        grind arith

    pub turn_failed : (cause : Cause) → Err cause ≡ done.answer → length looks ≤ 8 → behind looks (turns service i (drop i os) stores) ≡ record { vote = No i cause; looks = looks; next = done.next }
    turn_failed cause answer few = let all = whole looks few in let turned = here in grind arith

  pub turn_ended : length os ≤ i → length looks ≤ 8 → behind looks (turns service i (drop i os) stores) ≡ record { vote = Yes; looks = looks; next = stores }
  turn_ended past few = rw (drop_all i os past, whole looks few) refl

pub ruleset part_turns = (part_alike, part_nowhere, looks_listed, looks_whole, turn_on, turn_failed, turn_ended)
