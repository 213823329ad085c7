-- Each effect of a call keeps the kept facts.
use Rattle.std.proofs.Common.{◌≡◌, ℕ, ◌+◌, ◌≤◌, true, false, cond, ◌&&◌, eqb, ◌≢◌, ◌⊎◌, List, length, set, Some, None, Option, sym, refl, ◌∙◌, subst, inl, inr, arith, length-set}
use Rattle.std.proofs.lemmas.Bool.{cases_eq, ne_eqb, eq-eqb}
use Rattle.std.proofs.lemmas.Bool.Decides.{nat_tests}
use Rattle.std.proofs.lemmas.Option.{same_Some}
use Rattle.std.specs.List.{slice_get}
use Rattle.banks.specs.Bank.{BankModel}
use Rattle.banks.proofs.OneStore.{nth_set_same, nth_set_other}
use Rattle.pools.specs.Pools.{put_last, fitting, nth_fitting, without_nth}
use Rattle.pools.proofs.Laws.{taking_splits}
use Rattle.scripts.specs.declared.types.Operation.{Operation}
use Rattle.protocol.specs.declared.types.PartState.{PartState}
use Rattle.protocol.specs.declared.types.PartState.TheVariants.{Unsent, Waiting}
use Rattle.protocol.specs.Site.{OpenPart, Client, Service, Hold, Request, Reply, Decision, Site, Slot, request_for, reply_for}
use Rattle.protocol.specs.Site.Service.{ready, given, holding}
use Rattle.protocol.specs.Calls.{with_client, with_service, with_requests, with_replies, with_decisions, with_stores, with_state, without_reply, slot_of, posted, replied_with, waits_in, client_waits, still_waits}
use Rattle.protocol.specs.Kept.{OpenParts, due, reply_slot, Kept}
use Rattle.protocol.proofs.Counts.{count_put, count_put_le, count_taken, count_without, without_one}
use Rattle.protocol.proofs.Guards.{reply_to, request_of, by_posted, by_replied}
use Rattle.protocol.proofs.Room.{due_set, one_more_reply, bounds}
use Rattle.protocol.proofs.Tables.{first_none, by_place}
use Rattle.protocol.proofs.Waiting.{waits, in_state, open_set, waits_at, waits_after, waits_other}

-- decisions and what the stores hold concern no kept fact
pub kept_decisions : (decisions : List Decision) (s : Site) → Kept s → Kept (with_decisions decisions s)
kept_decisions decisions s k = record { clients = k.clients; services = k.services; some = k.some; few = k.few; parts = k.parts; requests = k.requests; replies = k.replies }

pub kept_stores : (stores : BankModel) (s : Site) → length stores ≡ length s.stores → Kept s → Kept (with_stores stores s)
kept_stores stores s same k = record { clients = k.clients; services = k.services ∙ sym same; some = k.some; few = k.few; parts = k.parts; requests = k.requests; replies = k.replies }

-- a service in another phase, with as many requests as it is due
kept_service : (v : ℕ) (old new : Service) (requests : List Request) (s : Site) → slice_get s.services v ≡ Some old → ((u : ℕ) → length (fitting request_for u requests) + cond (eqb u v) (due (Some old)) 0 ≡ length (fitting request_for u s.requests) + cond (eqb u v) (due (Some new)) 0) → Kept s → Kept (with_requests requests (with_service v new s))
kept_service v old new requests s there counts k = record {
  clients = k.clients;
  services = length-set _ _ _ ∙ k.services;
  some = rw length-set k.some;
  few = rw length-set k.few;
  parts = λ c client parts e f. rw length-set (k.parts c client parts e f);
  requests = λ u. omega (arith, counts u, k.requests u, due_set s.services v u old new there);
  replies = k.replies;
}

-- a service that is Given neither before nor after
pub kept_phase : (v : ℕ) (old new : Service) (s : Site) → slice_get s.services v ≡ Some old → due (Some old) ≡ due (Some new) → Kept s → Kept (with_service v new s)
kept_phase v old new s there same k = kept_service v old new s.requests s there (λ u. rw same refl) k

-- a service works, and its request is gone
pub kept_served : (v : ℕ) (hold : Hold) (request : Request) (s : Site) → slice_get s.services v ≡ Some given → nth_fitting request_for v 0 s.requests ≡ Some request → Kept s → Kept (with_requests (without_nth request_for v 0 s.requests) (with_service v (holding hold) s))
kept_served v hold request s there taken k =
    kept_service v given (holding hold) _ s there (λ u.
    let less = count_taken request_for u v 0 request s.requests taken in
    let fits = (taking_splits request_for v s.requests 0 request taken).fits in
    grind (arith, nat_tests)) k

-- a Ready service is given a request
pub kept_request : (request : Request) (s : Site) → slice_get s.services request.service ≡ Some ready → Kept s → Kept (with_requests (put_last 8 request s.requests) (with_service request.service given s))
kept_request request s there k =
    kept_service request.service ready given _ s there (λ u.
    let more = count_put request_for u 8 request s.requests ((bounds s k).request_room request.service there) in
    grind (arith, nat_tests)) k

-- a message for a part that waits and has none
pub kept_message : (r : Reply) (s : Site) → still_waits (reply_slot r) s ≡ true → length (fitting reply_for (reply_slot r) s.replies) ≡ 0 → Kept s → Kept (with_replies (put_last 32 r s.replies) s)
kept_message r s waiting none k = record {
  clients = k.clients;
  services = k.services;
  some = k.some;
  few = k.few;
  parts = k.parts;
  requests = k.requests;
  replies = λ slot. omega (arith, count_put_le reply_for slot 32 r s.replies, one_more_reply s k r waiting none slot);
}

-- a client changed, and the reply pool with it
kept_client : (c : ℕ) (old new : Client) (replies : List Reply) (s : Site) → slice_get s.clients c ≡ Some old → ((parts : List OpenPart) → new.parts ≡ Some parts → OpenParts (length s.services) parts) → ((v number : ℕ) → length (fitting reply_for (record { client = c; service = v; number = number }) replies) ≤ cond (client_waits v number (Some new)) 1 0) → ((slot : Slot) → slot.client ≢ c → length (fitting reply_for slot replies) ≤ length (fitting reply_for slot s.replies)) → Kept s → Kept (with_replies replies (with_client c new s))
kept_client c old new replies s there lawful own others k = record {
  clients = length-set _ _ _ ∙ k.clients;
  services = k.services;
  some = k.some;
  few = k.few;
  parts = λ d client parts e f.
      by_place (λ _ x. (ps : List OpenPart) → x.parts ≡ Some ps → OpenParts (length s.services) ps) s.clients c old new there lawful (λ b x _ g ps h. k.parts b x ps g h) d client e parts f;
  requests = k.requests;
  replies = λ slot. at slot (cases_eq slot.client c);
}
  where
    at : (slot : Slot) → (slot.client ≡ c) ⊎ (slot.client ≡ c → ⊥) → length (fitting reply_for slot replies) ≤ cond (still_waits slot (with_client c new s)) 1 0
    at slot (inl here) =
        subst (λ x. length (fitting reply_for (record { client = x; service = slot.service; number = slot.number }) replies) ≤ cond (client_waits slot.service slot.number (slice_get (set s.clients c new) x)) 1 0) (sym here)
        (rw (nth_set_same s.clients c old new there) (own slot.service slot.number))
    at slot (inr apart) = rw (nth_set_other s.clients c slot.client new apart) (omega (arith, others slot apart, k.replies slot))

-- a client that waits for nothing has no message
no_message : (c : ℕ) (client : Client) (s : Site) → slice_get s.clients c ≡ Some client → Kept s → (v number : ℕ) → client_waits v number (Some client) ≡ false → length (fitting reply_for (record { client = c; service = v; number = number }) s.replies) ≡ 0
no_message c client s there k v number idle =
    let most = k.replies (record { client = c; service = v; number = number }) in
    let waiting : client_waits v number (slice_get s.clients c) ≡ false = rw there idle in
    omega (arith, rw waiting at most)

-- a client that waited for nothing, changed
pub kept_idle : (c : ℕ) (old new : Client) (s : Site) → slice_get s.clients c ≡ Some old → ((v number : ℕ) → client_waits v number (Some old) ≡ false) → ((parts : List OpenPart) → new.parts ≡ Some parts → OpenParts (length s.services) parts) → Kept s → Kept (with_client c new s)
kept_idle c old new s there idle lawful k =
    kept_client c old new s.replies s there lawful
    (λ v number. omega (arith, no_message c old s there k v number (idle v number)))
    (λ slot apart. omega arith) k

-- what an open transaction waits for
pub open_waits : (client : Client) (parts : List OpenPart) (v number : ℕ) → client.parts ≡ Some parts → client_waits v number (Some client) ≡ (eqb client.number number && waits_in v parts)
open_waits client parts v number f = rw (f, client_waits) refl

-- a part of an open transaction
module _ (c p : ℕ) (client : Client) (parts : List OpenPart) (part : OpenPart) (s : Site) (there : slice_get s.clients c ≡ Some client) (is_open : client.parts ≡ Some parts) (has : slice_get parts p ≡ Some part) (k : Kept s) where
  lawful : OpenParts (length s.services) parts
  lawful = k.parts c client parts there is_open

  -- in another state, with as many messages as it then waits for
  kept_state : (state : PartState) (replies : List Reply) → ((slot : Slot) → length (fitting reply_for slot replies) ≤ length (fitting reply_for slot s.replies)) → length (fitting reply_for (slot_of c client part) replies) ≤ cond (waits state) 1 0 → Kept (with_replies replies (with_state c p state client parts part s))
  kept_state state replies less mine =
      kept_client c client _ replies s there (λ changed e. subst (OpenParts (length s.services)) (same_Some _ changed e) (open_set (length s.services) parts p part state has lawful)) (λ v number. own v number (cases_eq v part.service) (cases_eq client.number number)) (λ slot apart. less slot) k
    where
      was : (v number : ℕ) → length (fitting reply_for (record { client = c; service = v; number = number }) s.replies) ≤ cond (eqb client.number number && waits_in v parts) 1 0
      was v number = rw (there, open_waits client parts v number is_open) at (k.replies (record { client = c; service = v; number = number }))

      own : (v number : ℕ) → (v ≡ part.service) ⊎ (v ≡ part.service → ⊥) → (client.number ≡ number) ⊎ (client.number ≡ number → ⊥) → length (fitting reply_for (record { client = c; service = v; number = number }) replies) ≤ cond (eqb client.number number && waits_in v (set parts p (in_state state part))) 1 0
      own v number (inl here) (inl current) = rw (here, ← current, eq-eqb client.number client.number refl, waits_after (length s.services) parts p part state has lawful) mine
      own v number (inl here) (inr past) =
          let none = rw (ne_eqb client.number number past) at (was v number) in
          rw (ne_eqb client.number number past) (omega (arith, less (record { client = c; service = v; number = number })))
      own v number (inr apart) e = rw (waits_other parts p part state v has apart) (omega (arith, less (record { client = c; service = v; number = number }), was v number))

  -- sent: it waits, and has no message yet
  pub kept_sent : Kept (with_state c p Waiting client parts part s)
  kept_sent = kept_state Waiting s.replies (λ slot. omega arith) ((bounds s k).one_each (slot_of c client part))

  pub sent_waits : still_waits (slot_of c client part) (with_state c p Waiting client parts part s) ≡ true
  sent_waits = rw (nth_set_same s.clients c client _ there, eq-eqb client.number client.number refl, waits_after (length s.services) parts p part Waiting has lawful) refl

  pub unsent_none : part.state ≡ Unsent → length (fitting reply_for (slot_of c client part) s.replies) ≡ 0
  unsent_none unsent =
      no_message c client s there k part.service client.number
      (rw (open_waits client parts part.service client.number is_open, eq-eqb client.number client.number refl, waits_at (length s.services) parts p part lawful has, unsent) refl)

  -- answered or given up: it waits no more, and its message is gone
  pub kept_answered : (state : PartState) → waits state ≡ false → Kept (without_reply (slot_of c client part) (with_state c p state client parts part s))
  kept_answered state ended =
      kept_state state _ (λ slot. count_without reply_for slot (slot_of c client part) s.replies)
      (rw ended (omega (arith, without_one reply_for (slot_of c client part) s.replies ((bounds s k).one_each (slot_of c client part)))))

-- a request for a Ready service, a timeout for the part of any other
pub kept_posted : (slot : Slot) (operations : List Operation) (s : Site) → still_waits slot s ≡ true → length (fitting reply_for slot s.replies) ≡ 0 → Kept s → Kept (posted slot operations s)
kept_posted slot operations s waiting none k =
    by_posted slot operations s Kept
    (kept_message (reply_to slot None) s waiting none k)
    (λ is_ready. kept_request (request_of slot operations) s is_ready k)

-- the answer of a service
pub kept_replied : (slot : Slot) (looks : Option (List ℕ)) (s : Site) → Kept s → Kept (replied_with slot looks s)
kept_replied slot looks s k =
    by_replied slot looks s Kept k
    (λ waiting none. kept_message (reply_to slot looks) s waiting (first_none (fitting reply_for slot s.replies) none) k)

pub replied_services : (slot : Slot) (looks : Option (List ℕ)) (s : Site) → (replied_with slot looks s).services ≡ s.services
replied_services slot looks s = by_replied slot looks s (λ t. t.services ≡ s.services) refl (λ _ _. refl)
