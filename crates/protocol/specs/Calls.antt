-- What each of the ten calls answers, and the site after it. A refused call changes nothing.
use Rattle.std.specs.Prelude.{ℕ, suc, ◌+◌, Bool, true, false, cond, ◌&&◌, List, [], ◌∷◌, ◌++◌, map, length, is_some, Some, None, Ok, Err, Option, Result, ◌==◌, nat_lt, slice_set}
use Rattle.std.specs.List.{slice_get}
use Rattle.stores.specs.Store.{begin_step, commit_step, roll_back_step}
use Rattle.banks.specs.Bank.{BankModel, at_store}
use Rattle.pools.specs.Pools.{put_last, nth_fitting, without_nth}
use Rattle.scripts.specs.declared.types.Operation.{Operation}
use Rattle.parts.specs.declared.votes.Cause.TheVariants.{ByBank}
use Rattle.parts.specs.declared.votes.Vote.{Vote}
use Rattle.parts.specs.declared.votes.Vote.TheVariants.{Yes, No}
use Rattle.scripts.specs.Reading.{Part, read_script}
use Rattle.parts.specs.Runs.{BankRun, run_part_at}
use Rattle.parts.specs.Votes.{cause_number}
use Rattle.protocol.specs.declared.types.PartState.{PartState}
use Rattle.protocol.specs.declared.types.PartState.TheVariants.{Unsent, Waiting, Replied, TimedOut}
use Rattle.protocol.specs.declared.types.Reason.{Reason}
use Rattle.protocol.specs.declared.types.Reason.TheVariants.{NoSuchClient, NoSuchService, TransactionOpen, NumbersSpent, NoTransaction, NoSuchPart, SentBefore, NotSent, Answered, NoMessage, ListTooShort, PartPending, NoRoom, WrongPhase, NoSuchDecision, InScript}
use Rattle.protocol.specs.Site.{Transaction, OpenPart, Client, Hold, Service, Request, Reply, Decision, Site, Slot, request_for, reply_for, decision_for}
use Rattle.protocol.specs.Site.Service.{down, ready, given, holding, promised}

-- what a service did on hearing a decision
pub data Heard : Type 0 where
  committed : Heard
  rolled_back : Heard
  discarded : Heard

-- what an accepted call answers
pub data Answer : Type 0 where
  ordered : ℕ → Answer
  done : Answer
  looked : List ℕ → Answer
  timed_out : Answer
  decided : Bool → Answer
  voted : Vote → Answer
  heard : Heard → Answer

-- the number that stands for an answer
abbrev pub answer_number : Answer → ℕ
answer_number (ordered number) = number
answer_number done = 0
answer_number (looked looks) = length looks
answer_number timed_out = 255
answer_number (decided true) = 1
answer_number (decided false) = 0
answer_number (voted Yes) = 0
answer_number (voted (No _ cause)) = cause_number cause
answer_number (heard committed) = 1
answer_number (heard rolled_back) = 2
answer_number (heard discarded) = 0

pub record Refusal : Type 0 where
  pub reason : Reason
  pub place : ℕ

pub record Outcome : Type 0 where
  pub answer : Result Answer Refusal
  pub next : Site

abbrev pub refuse_at : ℕ → Reason → Site → Outcome
refuse_at place reason s = record { answer = Err (record { reason = reason; place = place }); next = s }

abbrev pub refuse : Reason → Site → Outcome
refuse reason s = refuse_at 0 reason s

abbrev pub accept : Answer → Site → Outcome
accept answer s = record { answer = Ok answer; next = s }

-- a site with one field changed
abbrev pub with_client : ℕ → Client → Site → Site
with_client c client s = record { clients = slice_set s.clients c client; services = s.services; requests = s.requests; replies = s.replies; decisions = s.decisions; stores = s.stores }

abbrev pub with_service : ℕ → Service → Site → Site
with_service v service s = record { clients = s.clients; services = slice_set s.services v service; requests = s.requests; replies = s.replies; decisions = s.decisions; stores = s.stores }

abbrev pub with_requests : List Request → Site → Site
with_requests requests s = record { clients = s.clients; services = s.services; requests = requests; replies = s.replies; decisions = s.decisions; stores = s.stores }

abbrev pub with_replies : List Reply → Site → Site
with_replies replies s = record { clients = s.clients; services = s.services; requests = s.requests; replies = replies; decisions = s.decisions; stores = s.stores }

abbrev pub with_decisions : List Decision → Site → Site
with_decisions decisions s = record { clients = s.clients; services = s.services; requests = s.requests; replies = s.replies; decisions = decisions; stores = s.stores }

abbrev pub with_stores : BankModel → Site → Site
with_stores stores s = record { clients = s.clients; services = s.services; requests = s.requests; replies = s.replies; decisions = s.decisions; stores = stores }

-- the client, refused 1 if there is none
abbrev pub on_client : ℕ → Site → (Client → Outcome) → Outcome
on_client c s go = elim (slice_get s.clients c) [ None ↦ refuse NoSuchClient s | Some client ↦ go client ]

-- the parts of its open transaction, refused 5 if none is open
abbrev pub on_open : ℕ → Site → (Client → List OpenPart → Outcome) → Outcome
on_open c s go = on_client c s (λ client. elim client.parts [ None ↦ refuse NoTransaction s | Some parts ↦ go client parts ])

-- one part of it, refused 6 if there is no such part
abbrev pub on_part : ℕ → ℕ → Site → (Client → List OpenPart → OpenPart → Outcome) → Outcome
on_part c p s go = on_open c s (λ client parts. elim (slice_get parts p) [ None ↦ refuse NoSuchPart s | Some part ↦ go client parts part ])

-- one part of it that waits, refused 8 if it is unsent and 9 if it is answered
abbrev pub on_waiting : ℕ → ℕ → Site → (Client → List OpenPart → OpenPart → Outcome) → Outcome
on_waiting c p s go =
    on_part c p s (λ client parts part. elim part.state [
      | Unsent ↦ refuse NotSent s
      | Waiting ↦ go client parts part
      | Replied ↦ refuse Answered s
      | TimedOut ↦ refuse Answered s
    ])

-- the service, refused 2 if there is none
abbrev pub on_service : ℕ → Site → (Service → Outcome) → Outcome
on_service v s go = elim (slice_get s.services v) [ None ↦ refuse NoSuchService s | Some service ↦ go service ]

-- the site once part p is in another state
abbrev pub with_state : ℕ → ℕ → PartState → Client → List OpenPart → OpenPart → Site → Site
with_state c p state client parts part s =
    with_client c (record {
      number = client.number;
      parts = Some (slice_set parts p (record { service = part.service; operations = part.operations; state = state }));
    }) s

-- the part that a client's message is for
abbrev pub slot_of : ℕ → Client → OpenPart → Slot
slot_of c client part = record { client = c; service = part.service; number = client.number }

-- a part as it stands in a new transaction
abbrev pub unsent : Part → OpenPart
unsent part = record { service = part.service; operations = part.operations; state = Unsent }

abbrev pub order : ℕ → List ℕ → Site → Outcome
order c script s =
    on_client c s (λ client. elim client.parts [
      | Some _ ↦ refuse TransactionOpen s
      | None ↦ cond (client.number == 4294967295) (refuse NumbersSpent s)
          (elim (read_script (length s.services) script) [
            | Err refusal ↦ refuse_at refusal.place (InScript refusal.reason) s
            | Ok parts ↦ accept (ordered client.number) (with_client c (record { number = client.number; parts = Some (map unsent parts) }) s)
          ])
    ])

-- a request for a Ready service, which it then has; a timeout for the part of any other
abbrev pub posted : Slot → List Operation → Site → Site
posted slot operations s =
    let timeout = with_replies (put_last 32 (record { client = slot.client; service = slot.service; number = slot.number; looks = None }) s.replies) s in
    elim (slice_get s.services slot.service) [
      | None ↦ timeout
      | Some service ↦ elim service [
        | ready ↦ with_service slot.service given
            (with_requests (put_last 8 (record { client = slot.client; service = slot.service; number = slot.number; operations = operations }) s.requests) s)
        | down ↦ timeout
        | given ↦ timeout
        | holding _ ↦ timeout
        | promised _ ↦ timeout
      ]
    ]

abbrev pub send : ℕ → ℕ → Site → Outcome
send c p s =
    on_part c p s (λ client parts part. elim part.state [
      | Unsent ↦ accept done (posted (slot_of c client part) part.operations (with_state c p Waiting client parts part s))
      | Waiting ↦ refuse SentBefore s
      | Replied ↦ refuse SentBefore s
      | TimedOut ↦ refuse SentBefore s
    ])

-- the reply pool without the part's message
abbrev pub without_reply : Slot → Site → Site
without_reply slot s = with_replies (without_nth reply_for slot 0 s.replies) s

-- a list with this much room takes the look numbers
abbrev pub get : ℕ → ℕ → ℕ → Site → Outcome
get c p room s =
    on_waiting c p s (λ client parts part.
    let slot = slot_of c client part in
    elim (nth_fitting reply_for slot 0 s.replies) [
      | None ↦ refuse NoMessage s
      | Some reply ↦ elim reply.looks [
        | None ↦ accept timed_out (without_reply slot (with_state c p TimedOut client parts part s))
        | Some looks ↦ cond (nat_lt room (length looks)) (refuse ListTooShort s)
            (accept (looked looks) (without_reply slot (with_state c p Replied client parts part s)))
      ]
    ])

abbrev pub expire : ℕ → ℕ → Site → Outcome
expire c p s =
    on_waiting c p s (λ client parts part. accept done (without_reply (slot_of c client part) (with_state c p TimedOut client parts part s)))

-- the lowest part, from the i-th on, that is unsent or waiting
abbrev pub pending_from : ℕ → List OpenPart → Option ℕ
pending_from i [] = None
pending_from i (part ∷ parts) =
    elim part.state [ Unsent ↦ Some i | Waiting ↦ Some i | Replied ↦ pending_from (suc i) parts | TimedOut ↦ pending_from (suc i) parts ]

abbrev pub all_replied : List OpenPart → Bool
all_replied [] = true
all_replied (part ∷ parts) = elim part.state [ Replied ↦ all_replied parts | Unsent ↦ false | Waiting ↦ false | TimedOut ↦ false ]

-- a decision for each part
abbrev pub decisions_of : ℕ → ℕ → Bool → List OpenPart → List Decision
decisions_of c number commits parts = map (λ part. record { client = c; service = part.service; number = number; commits = commits }) parts

abbrev pub decide : ℕ → Bool → Site → Outcome
decide c wish s =
    on_open c s (λ client parts. elim (pending_from 0 parts) [
      | Some p ↦ refuse_at p PartPending s
      | None ↦ cond (nat_lt 64 (length s.decisions + length parts)) (refuse NoRoom s)
          (let commits = wish && all_replied parts in
          accept (decided commits)
          (with_decisions (s.decisions ++ decisions_of c client.number commits parts)
          (with_client c (record { number = client.number + 1; parts = None }) s)))
    ])

-- READY
abbrev pub make_ready : ℕ → Site → Outcome
make_ready v s =
    on_service v s (λ service. elim service [
      | down ↦ accept done (with_service v ready s)
      | ready ↦ refuse WrongPhase s
      | given ↦ refuse WrongPhase s
      | holding _ ↦ refuse WrongPhase s
      | promised _ ↦ refuse WrongPhase s
    ])

-- DOWN
abbrev pub make_down : ℕ → Site → Outcome
make_down v s =
    on_service v s (λ service. elim service [
      | ready ↦ accept done (with_service v down s)
      | down ↦ refuse WrongPhase s
      | given ↦ refuse WrongPhase s
      | holding _ ↦ refuse WrongPhase s
      | promised _ ↦ refuse WrongPhase s
    ])

-- a part run in a trial begun for it; where none can be begun the vote is no, at operation 0
abbrev pub run_in_trial : ℕ → List Operation → BankModel → BankRun
run_in_trial v operations stores =
    elim (at_store v begin_step stores).answer [
      | Ok _ ↦ run_part_at v operations (at_store v begin_step stores).next
      | Err why ↦ record { vote = No 0 (ByBank why); looks = []; next = stores }
    ]

abbrev pub worked : ℕ → Request → Site → Outcome
worked v request s =
    let r = run_in_trial v request.operations s.stores in
    let hold : Hold = record { transaction = record { client = request.client; number = request.number }; vote = r.vote; looks = r.looks } in
    accept (voted r.vote)
    (with_stores r.next (with_requests (without_nth request_for v 0 s.requests) (with_service v (holding hold) s)))

-- no run comes to a Given service without a request; it would be refused
abbrev pub work : ℕ → Site → Outcome
work v s =
    on_service v s (λ service. elim service [
      | given ↦ elim (nth_fitting request_for v 0 s.requests) [ None ↦ refuse WrongPhase s | Some request ↦ worked v request s ]
      | down ↦ refuse WrongPhase s
      | ready ↦ refuse WrongPhase s
      | holding _ ↦ refuse WrongPhase s
      | promised _ ↦ refuse WrongPhase s
    ])

-- whether a part for the service waits among these
abbrev pub waits_in : ℕ → List OpenPart → Bool
waits_in v [] = false
waits_in v (part ∷ parts) =
    cond (part.service == v) (elim part.state [ Waiting ↦ true | Unsent ↦ false | Replied ↦ false | TimedOut ↦ false ]) (waits_in v parts)

-- whether the client's open transaction has that number and waits for the service
abbrev pub client_waits : ℕ → ℕ → Option Client → Bool
client_waits v number None = false
client_waits v number (Some client) =
    (client.number == number) && elim client.parts [ None ↦ false | Some parts ↦ waits_in v parts ]

abbrev pub still_waits : Slot → Site → Bool
still_waits slot s = client_waits slot.service slot.number (slice_get s.clients slot.client)

abbrev pub reply_looks : Vote → Bool → List ℕ → Option (List ℕ)
reply_looks Yes true looks = Some looks
reply_looks Yes false looks = None
reply_looks (No _ _) passed looks = None

-- the answer of a service to its client: none if the part no longer waits or has a message already
abbrev pub replied_with : Slot → Option (List ℕ) → Site → Site
replied_with slot looks s =
    cond (still_waits slot s)
    (cond (is_some (nth_fitting reply_for slot 0 s.replies)) s
    (with_replies (put_last 32 (record { client = slot.client; service = slot.service; number = slot.number; looks = looks }) s.replies) s))
    s

abbrev pub reply : ℕ → Bool → Site → Outcome
reply v passed s =
    on_service v s (λ service. elim service [
      | holding hold ↦
          let slot : Slot = record { client = hold.transaction.client; service = v; number = hold.transaction.number } in
          accept done (with_service v (promised hold) (replied_with slot (reply_looks hold.vote passed hold.looks) s))
      | down ↦ refuse WrongPhase s
      | ready ↦ refuse WrongPhase s
      | given ↦ refuse WrongPhase s
      | promised _ ↦ refuse WrongPhase s
    ])

abbrev pub is_for : Transaction → Decision → Bool
is_for t d = t.client == d.client && t.number == d.number

-- the store's end of a held transaction
abbrev pub ended : ℕ → Bool → Site → Outcome
ended v true s = accept (heard committed) (with_service v down (with_stores (at_store v commit_step s.stores).next s))
ended v false s = accept (heard rolled_back) (with_service v down (with_stores (at_store v roll_back_step s.stores).next s))

-- the n-th oldest decision for the service taken out, refused 15 if there is none
abbrev pub take_decision : ℕ → ℕ → Site → (Decision → Site → Outcome) → Outcome
take_decision v n s go =
    elim (nth_fitting decision_for v n s.decisions) [
      | None ↦ refuse NoSuchDecision s
      | Some d ↦ go d (with_decisions (without_nth decision_for v n s.decisions) s)
    ]

abbrev pub hear : ℕ → ℕ → Site → Outcome
hear v n s =
    on_service v s (λ service. elim service [
      | down ↦ take_decision v n s (λ _ t. accept (heard discarded) t)
      | ready ↦ take_decision v n s (λ _ t. accept (heard discarded) t)
      | promised hold ↦ take_decision v n s (λ d t. cond (is_for hold.transaction d) (ended v d.commits t) (accept (heard discarded) t))
      | given ↦ refuse WrongPhase s
      | holding _ ↦ refuse WrongPhase s
    ])
