-- Worked examples: what the definitions give on given lists of calls.
use Rattle.std.specs.Prelude.{◌≡◌, ℕ, zero, suc, true, false, List, [], ◌∷◌, replicate, Some, Ok, Err}
use Rattle.stores.specs.declared.types.StoreRefusal.TheVariants.{TooManyChanges, Full}
use Rattle.stores.specs.Pairs.{Pairs, pair}
use Rattle.stores.specs.Store.{StoreModel, empty_store}
use Rattle.banks.specs.declared.types.BankRefusal.TheVariants.{ByStore}
use Rattle.scripts.specs.declared.types.Operation.TheVariants.{Look, Put, Need, Add, Drop}
use Rattle.scripts.specs.declared.types.ScriptReason.TheVariants.{UnknownCode, MissingOperands, EmptyPart}
use Rattle.parts.specs.declared.votes.Cause.TheVariants.{ByBank, NotAsNeeded, SumTooLarge}
use Rattle.parts.specs.declared.votes.Vote.TheVariants.{Yes, No}
use Rattle.scripts.specs.Reading.{read_script}
use Rattle.parts.specs.Runs.{run_part}
use Rattle.protocol.specs.declared.types.Reason.TheVariants.{NoRoom, NumbersSpent}
use Rattle.protocol.specs.Calls.{decide, with_decisions}
use Rattle.protocol.specs.Calls.Answer.{ordered, done, timed_out, decided, voted, heard}
use Rattle.protocol.specs.Calls.Heard.{rolled_back, discarded}
use Rattle.protocol.specs.Runs.{play}
use Rattle.protocol.specs.Runs.Call.{ORDER, SEND, GET, EXPIRE, DECIDE, READY, WORK, REPLY, HEAR}
use Rattle.protocol.specs.Site.{Site, opened_site}

-- a store of 16 pairs in a trial
abbrev pub in_trial_with : Pairs → ℕ → StoreModel
in_trial_with working changes = record { capacity = 16; committed = []; trial = Some (record { working = working; changes = changes }) }

-- two empty stores, and every client's first number
abbrev pub two_stores : ℕ → Site
two_stores first = opened_site (replicate 8 first) (empty_store 16 ∷ empty_store 32 ∷ [])

-- a part for service 0 that puts 7 under 5
abbrev pub put_seven : List ℕ
put_seven = 1 ∷ 0 ∷ 3 ∷ 0 ∷ 0 ∷ 0 ∷ 0 ∷ 0 ∷ 0 ∷ 0 ∷ 5 ∷ 0 ∷ 0 ∷ 0 ∷ 7 ∷ []

-- the keys n down to 1 put one after the other, so ascending
abbrev pub numbered : ℕ → Pairs → Pairs
numbered zero rest = rest
numbered (suc n) rest = numbered n (pair (suc n) 1 ∷ rest)

-- four parts, each of which looks at key 1
abbrev pub four_looks : List ℕ
four_looks =
    1 ∷ 0 ∷ 2 ∷ 0 ∷ 0 ∷ 0 ∷ 0 ∷ 0 ∷ 0 ∷ 0 ∷ 1 ∷
    1 ∷ 1 ∷ 2 ∷ 0 ∷ 0 ∷ 0 ∷ 0 ∷ 0 ∷ 0 ∷ 0 ∷ 1 ∷
    1 ∷ 2 ∷ 2 ∷ 0 ∷ 0 ∷ 0 ∷ 0 ∷ 0 ∷ 0 ∷ 0 ∷ 1 ∷
    1 ∷ 3 ∷ 2 ∷ 0 ∷ 0 ∷ 0 ∷ 0 ∷ 0 ∷ 0 ∷ 0 ∷ 1 ∷ []

-- a site of four stores where client 0 has got four timeouts, and so many decisions wait
abbrev pub four_answered : ℕ → Site
four_answered waiting =
    with_decisions (replicate waiting (record { client = 1; service = 0; number = 1; commits = false }))
    (play (ORDER 0 four_looks ∷ SEND 0 0 ∷ SEND 0 1 ∷ SEND 0 2 ∷ SEND 0 3 ∷ GET 0 0 8 ∷ GET 0 1 8 ∷ GET 0 2 8 ∷ GET 0 3 8 ∷ [])
    (opened_site (replicate 8 1) (replicate 4 (empty_store 16)))).site

pub record Examples : Type 0 where
  -- scripts with two services
  pub empty_script : read_script 2 [] ≡ Err (record { reason = EmptyPart; place = 0 })
  pub part_without_operation : read_script 2 (1 ∷ 0 ∷ []) ≡ Err (record { reason = EmptyPart; place = 2 })
  pub look_without_key : read_script 2 (2 ∷ []) ≡ Err (record { reason = MissingOperands; place = 0 })
  pub unknown_code : read_script 2 (255 ∷ []) ≡ Err (record { reason = UnknownCode; place = 0 })
  pub empty_part_before : read_script 2 (1 ∷ 0 ∷ 1 ∷ 1 ∷ []) ≡ Err (record { reason = EmptyPart; place = 2 })
  -- sums and needs
  pub sum_fits : (run_part (Add 1 5 ∷ Look 1 ∷ []) (in_trial_with (pair 1 4294967290 ∷ []) 0)).looks ≡ 4294967295 ∷ []
  pub sum_too_large : (run_part (Add 1 6 ∷ []) (in_trial_with (pair 1 4294967290 ∷ []) 0)).vote ≡ No 0 SumTooLarge
  pub need_absent : (run_part (Need 1 0 ∷ []) (in_trial_with [] 0)).vote ≡ No 0 NotAsNeeded
  -- a full store of 16 pairs: a present key passes, a new one does not, and passes after a drop
  pub full_present : (run_part (Put 1 9 ∷ []) (in_trial_with (numbered 16 []) 0)).vote ≡ Yes
  pub full_new : (run_part (Put 99 9 ∷ []) (in_trial_with (numbered 16 []) 0)).vote ≡ No 0 (ByBank (ByStore Full))
  pub full_dropped : (run_part (Drop 2 ∷ Put 99 9 ∷ []) (in_trial_with (numbered 16 []) 0)).vote ≡ Yes
  -- a ninth change, also where the store is full
  pub ninth_change : (run_part (Put 1 9 ∷ []) (in_trial_with (numbered 16 []) 8)).vote ≡ No 0 (ByBank (ByStore TooManyChanges))
  pub ninth_change_full : (run_part (Put 99 9 ∷ []) (in_trial_with (numbered 16 []) 8)).vote ≡ No 0 (ByBank (ByStore TooManyChanges))
  -- a service that is Down: the timeout is got, a wish for yes aborts, and the decision is discarded
  pub down_service : (play (ORDER 0 put_seven ∷ SEND 0 0 ∷ GET 0 0 8 ∷ DECIDE 0 true ∷ HEAR 0 0 ∷ []) (two_stores 1)).answers ≡ Ok (ordered 1) ∷ Ok done ∷ Ok timed_out ∷ Ok (decided false) ∷ Ok (heard discarded) ∷ []
  -- expired between WORK and REPLY: nothing is put, it aborts and is rolled back
  pub expired_part : (play (READY 0 ∷ ORDER 0 put_seven ∷ SEND 0 0 ∷ WORK 0 ∷ EXPIRE 0 0 ∷ REPLY 0 true ∷ DECIDE 0 true ∷ HEAR 0 0 ∷ []) (two_stores 1)).answers ≡ Ok done ∷ Ok (ordered 1) ∷ Ok done ∷ Ok (voted Yes) ∷ Ok done ∷ Ok done ∷ Ok (decided false) ∷ Ok (heard rolled_back) ∷ []
  -- four parts want four places among the decisions
  pub no_room : (decide 0 true (four_answered 61)).answer ≡ Err (record { reason = NoRoom; place = 0 })
  pub just_room : (decide 0 true (four_answered 60)).answer ≡ Ok (decided false)
  -- the largest number is never given
  pub number_spent : (play (ORDER 0 put_seven ∷ []) (two_stores 4294967295)).answers ≡ Err (record { reason = NumbersSpent; place = 0 }) ∷ []
  pub last_number : (play (ORDER 0 put_seven ∷ SEND 0 0 ∷ GET 0 0 8 ∷ DECIDE 0 false ∷ ORDER 0 put_seven ∷ []) (two_stores 4294967294)).answers ≡ Ok (ordered 4294967294) ∷ Ok done ∷ Ok timed_out ∷ Ok (decided false) ∷ Err (record { reason = NumbersSpent; place = 0 }) ∷ []
