-- The law of every run: what the ledger of its calls and answers has to do with the stores.
use Rattle.std.specs.Prelude.{◌≡◌, ℕ, suc, true, false, List, [], ◌∷◌, length, Some, Option, ◌≢◌}
use Rattle.std.specs.Option.{option_map}
use Rattle.std.specs.List.{slice_get, AllByRecursion}
use Rattle.stores.specs.Pairs.{Pairs}
use Rattle.stores.specs.Store.{StoreModel, visible, commit_step, roll_back_step}
use Rattle.banks.specs.Bank.{BankModel, SoundBank, at_store}
use Rattle.banks.specs.Sweeps.{each_store}
use Rattle.parts.specs.declared.votes.Vote.TheVariants.{Yes}
use Rattle.scripts.specs.Reading.{Part}
use Rattle.protocol.specs.Calls.{run_in_trial}
use Rattle.protocol.specs.Ledger.{Ledger, Fate, Engagement, Act, blank, add}
use Rattle.protocol.specs.Ledger.Engagement.{off, on, engaged}
use Rattle.protocol.specs.Ledger.Fate.{undecided, to_commit, to_abort}
use Rattle.protocol.specs.Runs.{Call, perform}
use Rattle.protocol.specs.Site.{Site, opened_site}

-- the single-file run: each part of a transaction runs in a trial on its service's pairs, and the trial commits
abbrev pub commit_part : Part → BankModel → BankModel
commit_part p stores = (at_store p.service commit_step (run_in_trial p.service p.operations stores).next).next

abbrev pub commit_parts : List Part → BankModel → BankModel
commit_parts [] stores = stores
commit_parts (p ∷ ps) stores = commit_parts ps (commit_part p stores)

-- the committed transactions in the order of their decisions: the line has the last one first
abbrev pub single_file : Ledger → BankModel → List ℕ → BankModel
single_file l start [] = start
single_file l start (entry ∷ earlier) = commit_parts (l.parts entry) (single_file l start earlier)

-- every vote is yes, and GET gave each part, counted on from i, just the look numbers of this run
abbrev pub PartsRight : (ℕ → Option (List ℕ)) → ℕ → List Part → BankModel → Type 0
PartsRight noted i [] stores = Unit {0}
PartsRight noted i (p ∷ ps) stores =
    ((run_in_trial p.service p.operations stores).vote ≡ Yes)
    × (noted i ≡ Some (run_in_trial p.service p.operations stores).looks)
    × PartsRight noted (suc i) ps (commit_part p stores)

abbrev pub LineRight : Ledger → BankModel → List ℕ → Type 0
LineRight l start [] = Unit {0}
LineRight l start (entry ∷ earlier) = PartsRight (l.noted entry) 0 (l.parts entry) (single_file l start earlier) × LineRight l start earlier

-- a service's settled pairs: its working pairs if it is engaged with a committed transaction, else its committed ones
abbrev pub settled_by : Fate → StoreModel → Pairs
settled_by to_commit m = visible m
settled_by undecided m = m.committed
settled_by to_abort m = m.committed

abbrev pub settled_pairs : Ledger → Engagement → StoreModel → Pairs
settled_pairs l off m = m.committed
settled_pairs l on m = m.committed
settled_pairs l (engaged entry) m = settled_by (l.fate entry) m

-- what a service did with an entry is what its client decided
abbrev pub Obeyed : Ledger → Act → Type 0
Obeyed l act = elim act.commits [ true ↦ l.fate act.entry ≡ to_commit | false ↦ (l.fate act.entry ≢ to_commit) ]

pub record Law (start : BankModel) (l : Ledger) (stores : BankModel) : Type 0 where
  -- no service committed what its client aborted or has yet to decide, and none rolled back what its client committed
  pub obeyed : AllByRecursion (Obeyed l) l.acts
  -- every vote of the single-file run is yes, and GET gave just its look numbers
  pub right : LineRight l start l.line
  -- and it leaves each service its settled pairs
  pub settled : (v : ℕ) → option_map (λ m. m.committed) (slice_get (single_file l start l.line) v) ≡ option_map (settled_pairs l (l.service v)) (slice_get stores v)

-- a list of calls played, with the ledger of its calls and answers
pub record Told : Type 0 where
  pub site : Site
  pub ledger : Ledger

abbrev pub tell : ℕ → List Call → Site → Ledger → Told
tell services [] s l = record { site = s; ledger = l }
tell services (call ∷ calls) s l = tell services calls (perform call s).next (add services call (perform call s).answer l)

-- after every list of calls, from every opening
abbrev pub LawOfEveryRun : Type 0
LawOfEveryRun =
    (firsts : List ℕ) (stores : BankModel) (calls : List Call) → length firsts ≡ 8 → SoundBank stores →
    Law (each_store roll_back_step stores) (tell (length stores) calls (opened_site firsts stores) blank).ledger (tell (length stores) calls (opened_site firsts stores) blank).site.stores
