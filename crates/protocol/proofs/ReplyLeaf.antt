-- REPLY keeps the invariant: a service that holds promises, and may tell its client.
use Rattle.std.proofs.Common.{◌≡◌, ℕ, Bool, true, false, List, Some, refl, arith}
use Rattle.std.specs.List.{slice_get}
use Rattle.banks.specs.Bank.{BankModel}
use Rattle.banks.proofs.OneStore.{nth_set_same}
use Rattle.parts.specs.declared.votes.Vote.{Vote}
use Rattle.parts.specs.declared.votes.Vote.TheVariants.{Yes, No}
use Rattle.protocol.specs.Calls.{with_service, reply_looks, replied_with}
use Rattle.protocol.specs.Ledger.{Ledger}
use Rattle.protocol.specs.Never.{held_slot}
use Rattle.protocol.specs.Runs.Call.{REPLY}
use Rattle.protocol.specs.Site.{Site, Transaction, Hold, Reply}
use Rattle.protocol.specs.Site.Service.{holding, promised}
use Rattle.protocol.specs.Kept.{Kept}
use Rattle.protocol.proofs.Guards.{reply_to, by_replied, by_reply}
use Rattle.protocol.proofs.Invariant.{PromisedYes, Inv, KeptAfter, Keeps}
use Rattle.protocol.proofs.Phases.{phase_keeps}
use Rattle.protocol.proofs.Pieces.{message_keeps}

-- look numbers are told for a yes alone
told_for_yes : (vote : Vote) (passed : Bool) (looks told : List ℕ) → reply_looks vote passed looks ≡ Some told → (vote ≡ Yes) × (looks ≡ told)
told_for_yes Yes true looks told e = (refl, cc)
told_for_yes Yes false looks told e = grind arith
told_for_yes (No place cause) passed looks told e = grind arith

module _ (start : BankModel) (s : Site) (l : Ledger) (N : ℕ → Transaction) (v : ℕ) (hold : Hold) (there : slice_get s.services v ≡ Some (holding hold)) (k : Kept s) (I : Inv start s l N) where
  -- a service that holds promises
  promise_keeps : Inv start (with_service v (promised hold) s) l N
  promise_keeps = phase_keeps start s l N v (holding hold) (promised hold) s.requests l.service k I there (λ h e. grind arith) (λ u _. refl) (λ m f. (f, refl)) I.asks

  -- and may tell its client
  told_keeps : (passed : Bool) → Inv start (with_service v (promised hold) (replied_with (held_slot v hold) (reply_looks hold.vote passed hold.looks) s)) l N
  told_keeps passed =
      by_replied (held_slot v hold) (reply_looks hold.vote passed hold.looks) s (λ x. Inv start (with_service v (promised hold) x) l N) promise_keeps
      (λ _ _. message_keeps start (with_service v (promised hold) s) l N message promise promise_keeps)
    where
      message : Reply
      message = reply_to (held_slot v hold) (reply_looks hold.vote passed hold.looks)

      promise : (looks : List ℕ) → reply_looks hold.vote passed hold.looks ≡ Some looks → PromisedYes (with_service v (promised hold) s).services v hold.transaction looks
      promise looks e =
          let yes = told_for_yes hold.vote passed hold.looks looks e in
          record { hold = hold; there = nth_set_same s.services v (holding hold) (promised hold) there; transaction = refl; vote = yes.0; looks_are = yes.1 }

pub reply_keeps : (v : ℕ) (passed : Bool) → Keeps (REPLY v passed)
reply_keeps v passed start s l N k I =
    by_reply s (KeptAfter start s l (REPLY v passed)) (λ _ _. (N, I)) v passed (λ hold there. (N, told_keeps start s l N v hold there k I passed))
