-- What a site means: its clients, its services, the messages that wait between them, and the stores.
use Rattle.std.specs.Prelude.{ℕ, Bool, ◌&&◌, List, [], map, length, replicate, None, Option, ◌==◌}
use Rattle.stores.specs.Store.{roll_back_step}
use Rattle.banks.specs.Bank.{BankModel}
use Rattle.banks.specs.Sweeps.{each_store}
use Rattle.scripts.specs.declared.types.Operation.{Operation}
use Rattle.parts.specs.declared.votes.Vote.{Vote}
use Rattle.protocol.specs.declared.types.PartState.{PartState}

-- a transaction is told by its client and its number
pub record Transaction : Type 0 where
  pub client : ℕ
  pub number : ℕ

-- a part of an open transaction
pub record OpenPart : Type 0 where
  pub service : ℕ
  pub operations : List Operation
  pub state : PartState

-- a client: the number of its open transaction or of its next one, and the parts of the open one
pub record Client : Type 0 where
  pub number : ℕ
  pub parts : Option (List OpenPart)

-- what a service holds that has worked: the transaction, the vote and the look numbers
pub record Hold : Type 0 where
  pub transaction : Transaction
  pub vote : Vote
  pub looks : List ℕ

-- a service by its phase
pub data Service : Type 0 where
  down : Service
  ready : Service
  given : Service
  holding : Hold → Service
  promised : Hold → Service

-- messages: whom they concern and what they say
pub record Request : Type 0 where
  pub client : ℕ
  pub service : ℕ
  pub number : ℕ
  pub operations : List Operation

-- a reply has look numbers, a timeout has none
pub record Reply : Type 0 where
  pub client : ℕ
  pub service : ℕ
  pub number : ℕ
  pub looks : Option (List ℕ)

pub record Decision : Type 0 where
  pub client : ℕ
  pub service : ℕ
  pub number : ℕ
  pub commits : Bool

pub record Site : Type 0 where
  pub clients : List Client
  pub services : List Service
  pub requests : List Request
  pub replies : List Reply
  pub decisions : List Decision
  pub stores : BankModel

-- the part that a reply is for
pub record Slot : Type 0 where
  pub client : ℕ
  pub service : ℕ
  pub number : ℕ

-- whom a message fits
abbrev pub request_for : Request → ℕ → Bool
request_for r service = r.service == service

abbrev pub reply_for : Reply → Slot → Bool
reply_for r slot = r.client == slot.client && (r.service == slot.service && r.number == slot.number)

abbrev pub decision_for : Decision → ℕ → Bool
decision_for d service = d.service == service

-- a site as it is opened: idle clients with their first numbers, Down services, empty pools, no open trial
abbrev pub opened_site : List ℕ → BankModel → Site
opened_site firsts stores = record {
  clients = map (λ first. record { number = first; parts = None }) firsts;
  services = replicate (length stores) down;
  requests = [];
  replies = [];
  decisions = [];
  stores = each_store roll_back_step stores;
}
