-- What every call finds after every run from an opening: the cases in which its definition merely chooses an answer never happen.
use Rattle.std.specs.Prelude.{◌≡◌, ℕ, ◌<◌, true, List, length, is_some, Some, None}
use Rattle.std.specs.List.{slice_get}
use Rattle.stores.specs.Store.{StoreModel}
use Rattle.banks.specs.Bank.{BankModel, SoundBank}
use Rattle.pools.specs.Pools.{nth_fitting}
use Rattle.protocol.specs.declared.types.PartState.TheVariants.{Unsent}
use Rattle.protocol.specs.Site.{OpenPart, Client, Service, Hold, Site, Slot, request_for, reply_for, opened_site}
use Rattle.protocol.specs.Site.Service.{ready, given, holding, promised}
use Rattle.protocol.specs.Calls.{still_waits}
use Rattle.protocol.specs.Runs.{Call, play}

-- the part that a service works for
abbrev pub held_slot : ℕ → Hold → Slot
held_slot v hold = record { client = hold.transaction.client; service = v; number = hold.transaction.number }

pub record Regular (s : Site) : Type 0 where
  -- every service has its store, and every part of an open transaction its service
  pub stored : (v : ℕ) (service : Service) → slice_get s.services v ≡ Some service → is_some (slice_get s.stores v) ≡ true
  pub served : (c p : ℕ) (client : Client) (parts : List OpenPart) (part : OpenPart) → slice_get s.clients c ≡ Some client → client.parts ≡ Some parts → slice_get parts p ≡ Some part → is_some (slice_get s.services part.service) ≡ true
  -- WORK finds a request, and a trial can be begun for it
  pub asked : (v : ℕ) → slice_get s.services v ≡ Some given → is_some (nth_fitting request_for v 0 s.requests) ≡ true
  pub closed : (v : ℕ) (m : StoreModel) → slice_get s.services v ≡ Some given → slice_get s.stores v ≡ Some m → m.trial ≡ None
  -- a service that has worked has its trial open, and HEAR finds it so
  pub held_open : (v : ℕ) (hold : Hold) (m : StoreModel) → slice_get s.services v ≡ Some (holding hold) → slice_get s.stores v ≡ Some m → is_some m.trial ≡ true
  pub promised_open : (v : ℕ) (hold : Hold) (m : StoreModel) → slice_get s.services v ≡ Some (promised hold) → slice_get s.stores v ≡ Some m → is_some m.trial ≡ true
  -- the client that REPLY answers is there, and its part has no message yet, whether it still waits or not
  pub addressed : (v : ℕ) (hold : Hold) → slice_get s.services v ≡ Some (holding hold) → is_some (slice_get s.clients hold.transaction.client) ≡ true
  pub unanswered : (v : ℕ) (hold : Hold) → slice_get s.services v ≡ Some (holding hold) → nth_fitting reply_for (held_slot v hold) 0 s.replies ≡ None
  -- there is a place for SEND's request, for SEND's timeout, and for a message to a part that waits and has none
  pub request_room : (v : ℕ) → slice_get s.services v ≡ Some ready → length s.requests < 8
  pub timeout_room : (c p : ℕ) (client : Client) (parts : List OpenPart) (part : OpenPart) → slice_get s.clients c ≡ Some client → client.parts ≡ Some parts → slice_get parts p ≡ Some part → part.state ≡ Unsent → length s.replies < 32
  pub reply_room : (slot : Slot) → still_waits slot s ≡ true → nth_fitting reply_for slot 0 s.replies ≡ None → length s.replies < 32

-- after every list of calls, from every opening
abbrev pub RegularRuns : Type 0
RegularRuns =
    (firsts : List ℕ) (stores : BankModel) (calls : List Call) → length firsts ≡ 8 → SoundBank stores →
    Regular (play calls (opened_site firsts stores)).site
