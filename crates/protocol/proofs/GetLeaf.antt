-- GET and EXPIRE keep the invariant: a part that waited is answered or given up.
use Rattle.std.proofs.Common.{◌≡◌, ℕ, List, Some, Option, ap, ◌∙◌, subst, arith}
use Rattle.std.specs.List.{slice_get}
use Rattle.banks.specs.Bank.{BankModel}
use Rattle.pools.specs.Pools.{nth_fitting}
use Rattle.protocol.specs.declared.types.PartState.TheVariants.{Replied, TimedOut}
use Rattle.protocol.specs.Calls.{with_state, without_reply, slot_of}
use Rattle.protocol.specs.Ledger.{Ledger, add_accepted, put_at, with_noted}
use Rattle.protocol.specs.Runs.Call.{GET, EXPIRE}
use Rattle.protocol.specs.Site.{Site, Client, OpenPart, Transaction, Reply, reply_for}
use Rattle.protocol.proofs.Guards.{by_get, by_expire}
use Rattle.protocol.proofs.Invariant.{Inv, KeptAfter, Keeps, PromisedYes, named}
use Rattle.protocol.proofs.Pieces.{gone_keeps, noted_keeps, state_keeps}
use Rattle.protocol.proofs.Room.{same_slot}
use Rattle.protocol.proofs.Tables.{put_here, put_there}
use Rattle.protocol.proofs.Taking.{taken_found, taken_fits}

-- a part of an open transaction whose message is gone
module _ (start : BankModel) (s : Site) (l : Ledger) (N : ℕ → Transaction) (I : Inv start s l N) (c p : ℕ) (client : Client) (parts : List OpenPart) (part : OpenPart) (there : slice_get s.clients c ≡ Some client) (is_open : client.parts ≡ Some parts) (has : slice_get parts p ≡ Some part) where
  abbrev entry : ℕ
  entry = (I.opens c client parts there is_open).entry

  -- given up, or told that no reply comes: the ledger stays
  part_given_up : Inv start (without_reply (slot_of c client part) (with_state c p TimedOut client parts part s)) l N
  part_given_up = gone_keeps start (with_state c p TimedOut client parts part s) l N (slot_of c client part) (state_keeps start s l N I c p client parts part there is_open has TimedOut (λ e. grind arith))

  -- answered: the look numbers of its message are noted
  part_replied : (r : Reply) (looks : List ℕ) → nth_fitting reply_for (slot_of c client part) 0 s.replies ≡ Some r → r.looks ≡ Some looks → Inv start (without_reply (slot_of c client part) (with_state c p Replied client parts part s)) (with_noted entry p looks l) N
  part_replied r looks taken looks_are =
      gone_keeps start (with_state c p Replied client parts part s) (with_noted entry p looks l) N (slot_of c client part)
      (noted_keeps start s l N I c p client parts part there is_open has Replied (put_at l.noted entry now)
      (λ u apart. put_there l.noted entry u now apart)
      (λ q apart. ap (λ table. table q) (put_here l.noted entry now) ∙ put_there (l.noted entry) p q (Some looks) apart)
      (λ _. (looks, ap (λ table. table p) (put_here l.noted entry now) ∙ put_here (l.noted entry) p (Some looks), promised)))
    where
      now : ℕ → Option (List ℕ)
      now = put_at (l.noted entry) p (Some looks)

      promised : PromisedYes s.services part.service (named c client.number) looks
      promised =
          let was = taken_found reply_for (slot_of c client part) 0 r s.replies taken in
          let fits = same_slot r (slot_of c client part) (taken_fits reply_for (slot_of c client part) 0 r s.replies taken) in
          subst (λ x. PromisedYes s.services x.service (named x.client x.number) looks) fits (I.says was.place r looks was.there looks_are)

pub get_keeps : (c p room : ℕ) → Keeps (GET c p room)
get_keeps c p room start s l N k I =
    by_get s (KeptAfter start s l (GET c p room)) (λ _ _. (N, I)) c p room
    (λ client parts part there is_open has _. (N, part_given_up start s l N I c p client parts part there is_open has))
    (λ client parts part there is_open has _ r looks taken looks_are.
    (N, rw ((I.opens c client parts there is_open).is_newest, add_accepted) (part_replied start s l N I c p client parts part there is_open has r looks taken looks_are)))

pub expire_keeps : (c p : ℕ) → Keeps (EXPIRE c p)
expire_keeps c p start s l N k I =
    by_expire s (KeptAfter start s l (EXPIRE c p)) (λ _ _. (N, I)) c p (λ client parts part there is_open has _. (N, part_given_up start s l N I c p client parts part there is_open has))
