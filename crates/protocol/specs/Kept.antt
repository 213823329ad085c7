-- What holds of a site after every run: which requests and which replies wait, and for whom.
use Rattle.std.specs.Prelude.{◌≡◌, ℕ, ◌<◌, ◌≤◌, true, cond, List, length, Some, None, Option}
use Rattle.std.specs.List.{slice_get}
use Rattle.banks.specs.Bank.{BankModel}
use Rattle.pools.specs.Pools.{fitting}
use Rattle.protocol.specs.Site.{OpenPart, Client, Service, Request, Reply, Site, Slot, request_for, reply_for, opened_site}
use Rattle.protocol.specs.Site.Service.{down, ready, given, holding, promised}
use Rattle.protocol.specs.Calls.{still_waits}
use Rattle.protocol.specs.Runs.{Call, perform, play}

-- an open transaction has at most 4 parts, each for a service that there is, no two for one service
pub record OpenParts (services : ℕ) (parts : List OpenPart) : Type 0 where
  pub few : length parts ≤ 4
  pub known : (p : ℕ) (part : OpenPart) → slice_get parts p ≡ Some part → part.service < services
  pub apart : (p q : ℕ) (part other : OpenPart) → slice_get parts p ≡ Some part → slice_get parts q ≡ Some other → part.service ≡ other.service → p ≡ q

-- how many requests wait for a service: one if it is Given
abbrev pub due : Option Service → ℕ
due None = 0
due (Some down) = 0
due (Some ready) = 0
due (Some given) = 1
due (Some (holding _)) = 0
due (Some (promised _)) = 0

-- the part that a reply is for
abbrev pub reply_slot : Reply → Slot
reply_slot r = record { client = r.client; service = r.service; number = r.number }

-- the kept facts of a site: 8 clients, as many services as stores, 1 to 8, and who waits for whom
pub record Kept (s : Site) : Type 0 where
  pub clients : length s.clients ≡ 8
  pub services : length s.services ≡ length s.stores
  pub some : 1 ≤ length s.services
  pub few : length s.services ≤ 8
  pub parts : (c : ℕ) (client : Client) (parts : List OpenPart) → slice_get s.clients c ≡ Some client → client.parts ≡ Some parts → OpenParts (length s.services) parts
  -- just one request waits for a Given service, and none for any other
  pub requests : (v : ℕ) → length (fitting request_for v s.requests) ≡ due (slice_get s.services v)
  -- at most one message waits for a part that waits, and none for any other
  pub replies : (slot : Slot) → length (fitting reply_for slot s.replies) ≤ cond (still_waits slot s) 1 0

-- what follows: whom each waiting message waits for, and that a message always finds a place
pub record Bounds (s : Site) : Type 0 where
  pub asked : (i : ℕ) (r : Request) → slice_get s.requests i ≡ Some r → slice_get s.services r.service ≡ Some given
  pub awaited : (i : ℕ) (r : Reply) → slice_get s.replies i ≡ Some r → still_waits (reply_slot r) s ≡ true
  pub one_each : (slot : Slot) → length (fitting reply_for slot s.replies) ≤ 1
  pub requests_few : length s.requests ≤ length s.services
  pub replies_few : length s.replies ≤ 32
  -- one more request for a Ready service, and one more message for a part that waits and has none
  pub request_room : (v : ℕ) → slice_get s.services v ≡ Some ready → length s.requests < 8
  pub reply_room : (slot : Slot) → still_waits slot s ≡ true → length (fitting reply_for slot s.replies) ≡ 0 → length s.replies < 32

-- the kept facts hold from an opening on, whatever is called
pub record KeptLaws : Type 0 where
  pub opened : (firsts : List ℕ) (stores : BankModel) → length firsts ≡ 8 → 1 ≤ length stores → length stores ≤ 8 → Kept (opened_site firsts stores)
  pub called : (call : Call) (s : Site) → Kept s → Kept (perform call s).next
  pub played : (calls : List Call) (s : Site) → Kept s → Kept (play calls s).site
  pub bounds : (s : Site) → Kept s → Bounds s
