-- Nobody has answered what a service has yet to answer: it holds of an opened site, and every call keeps it.
use Rattle.std.proofs.Common.{◌≡◌, ℕ, ◌+◌, ◌<◌, ◌≤◌, Bool, true, false, ◌≢◌, ◌⊎◌, List, length, set, Some, None, Option, sym, refl, ap, ◌∙◌, subst, inl, inr, ⊎_elim, arith, length-set}
use Rattle.std.proofs.lemmas.Bool.{cases_Bool, eqb-true}
use Rattle.std.proofs.lemmas.Bool.Decides.{nat_tests}
use Rattle.std.proofs.lemmas.Option.{slice_get_within}
use Rattle.std.specs.List.{slice_get}
use Rattle.banks.specs.Bank.{BankModel}
use Rattle.pools.specs.Pools.{put_last, fitting, nth_fitting, without_nth}
use Rattle.protocol.specs.declared.types.PartState.{PartState}
use Rattle.protocol.specs.declared.types.PartState.TheVariants.{Unsent, Waiting, Replied, TimedOut}
use Rattle.protocol.specs.Site.{OpenPart, Client, Service, Hold, Request, Reply, Site, Slot, request_for, reply_for, decision_for, opened_site}
use Rattle.protocol.specs.Site.Service.{down, ready, given, holding, promised}
use Rattle.protocol.specs.Calls.{Outcome, with_service, with_decisions, with_state, slot_of, posted, reply_looks, ended}
use Rattle.protocol.specs.Kept.{reply_slot, Kept}
use Rattle.protocol.specs.Never.{held_slot}
use Rattle.protocol.specs.Runs.{Call, perform, play}
use Rattle.protocol.specs.Runs.Call.{ORDER, SEND, GET, EXPIRE, DECIDE, READY, DOWN, WORK, REPLY, HEAR}
use Rattle.protocol.proofs.Counts.{count_put_le, count_without}
use Rattle.protocol.proofs.Effects.{unsent_none}
use Rattle.protocol.proofs.Guards.{reply_to, request_of, by_posted, by_replied, by_order, by_send, by_get, by_expire, by_decide, by_ready, by_down, by_work, by_reply, by_hear}
use Rattle.protocol.proofs.KeptFacts.{played_too}
use Rattle.protocol.proofs.Room.{same_slot, bounds}
use Rattle.protocol.proofs.Tables.{copied, by_place}
use Rattle.protocol.proofs.Taking.{taken_found, taken_fits, left_found, by_last}
use Rattle.protocol.proofs.Waiting.{in_state}

-- the part for a service has been sent
abbrev SentIn : ℕ → Option (List OpenPart) → Type 0
SentIn v None = ⊥
SentIn v (Some parts) = (p : ℕ) (part : OpenPart) → slice_get parts p ≡ Some part → part.service ≡ v → part.state ≡ Unsent → ⊥

-- the number is of a past transaction, or of the open one and its part for the service has been sent
abbrev Sent : ℕ → ℕ → Client → Type 0
Sent v number client = (number < client.number) ⊎ ((number ≡ client.number) × SentIn v client.parts)

-- a part of a client that there is, sent and without a message
pub record Awaits (clients : List Client) (replies : List Reply) (slot : Slot) : Type 0 where
  pub known : slot.client < length clients
  pub unanswered : length (fitting reply_for slot replies) ≡ 0
  pub sent : (client : Client) → slice_get clients slot.client ≡ Some client → Sent slot.service slot.number client

abbrev request_slot : Request → Slot
request_slot r = record { client = r.client; service = r.service; number = r.number }

-- so is every part of which a request waits, or which a service holds
pub record QuietAmong (clients : List Client) (services : List Service) (requests : List Request) (replies : List Reply) : Type 0 where
  pub asked : (i : ℕ) (r : Request) → slice_get requests i ≡ Some r → Awaits clients replies (request_slot r)
  pub held : (v : ℕ) (x : Service) → slice_get services v ≡ Some x → (hold : Hold) → x ≡ holding hold → Awaits clients replies (held_slot v hold)

abbrev pub Quiet : Site → Type 0
Quiet s = QuietAmong s.clients s.services s.requests s.replies

-- the quiet facts hold of the site that a call leaves
abbrev After : Outcome → Type 0
After o = Quiet o.next

-- a client changed, what it has sent still sent, and no message added to what waits
quiet_client : (c : ℕ) (old new : Client) (then : List Reply) (s : Site) → slice_get s.clients c ≡ Some old → ((v number : ℕ) → Sent v number old → Sent v number new) → ((slot : Slot) → Awaits s.clients s.replies slot → length (fitting reply_for slot then) ≤ length (fitting reply_for slot s.replies)) → Quiet s → QuietAmong (set s.clients c new) s.services s.requests then
quiet_client c old new then s there still less q = record {
  asked = λ i r e. along (request_slot r) (q.asked i r e);
  held = λ v x e hold is. along (held_slot v hold) (q.held v x e hold is);
}
  where
    along : (slot : Slot) → Awaits s.clients s.replies slot → Awaits (set s.clients c new) then slot
    along slot a = record {
      known = rw length-set a.known;
      unanswered = omega (arith, less slot a, a.unanswered);
      sent = λ client e.
          by_place (λ d k. d ≡ slot.client → Sent slot.service slot.number k) s.clients c old new there
          (λ d. still _ _ (a.sent old (ap (slice_get s.clients) (sym d) ∙ there)))
          (λ d k _ f same. a.sent k (ap (slice_get s.clients) (sym same) ∙ f)) slot.client client e refl;
    }

-- a service in another phase, which is not Holding
quiet_phase : (v : ℕ) (old new : Service) (clients : List Client) (services : List Service) (requests : List Request) (replies : List Reply) → slice_get services v ≡ Some old → ((hold : Hold) → new ≡ holding hold → ⊥) → QuietAmong clients services requests replies → QuietAmong clients (set services v new) requests replies
quiet_phase v old new clients services requests replies there not q = record {
  asked = q.asked;
  held = by_place (λ u x. (hold : Hold) → x ≡ holding hold → Awaits clients replies (held_slot u hold)) services v old new there (λ hold e. absurd (not hold e)) (λ u x _ e. q.held u x e);
}

-- a site as it is opened
pub quiet_opened : (firsts : List ℕ) (stores : BankModel) → Quiet (opened_site firsts stores)
quiet_opened firsts stores = record {
  asked = λ i r e. absurd (grind arith);
  held = λ v x e hold is. let is_down = copied (length stores) down v x e in cc;
}

-- what a client has sent stays sent: once it opens a transaction, decides one, or a part of it changes its state
sent_ordered : (old : Client) (parts : List OpenPart) → old.parts ≡ None → (v number : ℕ) → Sent v number old → Sent v number (record { number = old.number; parts = Some parts })
sent_ordered old parts idle v number (inl past) = inl past
sent_ordered old parts idle v number (inr now) = absurd (subst (SentIn v) idle now.1)

sent_decided : (old : Client) (v number : ℕ) → Sent v number old → Sent v number (record { number = old.number + 1; parts = None })
sent_decided old v number (inl past) = inl (omega arith)
sent_decided old v number (inr now) = inl (omega (arith, now.0))

sent_state : (old : Client) (parts : List OpenPart) (p : ℕ) (part : OpenPart) (state : PartState) → old.parts ≡ Some parts → slice_get parts p ≡ Some part → (state ≡ Unsent → ⊥) → (v number : ℕ) → Sent v number old → Sent v number (record { number = old.number; parts = Some (set parts p (in_state state part)) })
sent_state old parts p part state is_open has sent v number (inl past) = inl past
sent_state old parts p part state is_open has sent v number (inr now) =
    inr (now.0, by_place (λ _ x. x.service ≡ v → x.state ≡ Unsent → ⊥) parts p part (in_state state part) has (λ _. sent) (λ q x _ e. subst (SentIn v) is_open now.1 q x e))

-- a part of an open transaction
module _ (c p : ℕ) (client : Client) (parts : List OpenPart) (part : OpenPart) (s : Site) (there : slice_get s.clients c ≡ Some client) (is_open : client.parts ≡ Some parts) (has : slice_get parts p ≡ Some part) where
  abbrev then_client : PartState → Client
  then_client state = record { number = client.number; parts = Some (set parts p (in_state state part)) }

  -- answered or given up: one message less
  quiet_answered : (state : PartState) → (state ≡ Unsent → ⊥) → Quiet s → QuietAmong (set s.clients c (then_client state)) s.services s.requests (without_nth reply_for (slot_of c client part) 0 s.replies)
  quiet_answered state sent q =
      quiet_client c client (then_client state) _ s there (sent_state client parts p part state is_open has sent) (λ slot _. count_without reply_for slot (slot_of c client part) s.replies) q

  module _ (is_unsent : part.state ≡ Unsent) where
    -- an unsent part is none that has been sent
    unsent_other : (r : Reply) (slot : Slot) → reply_slot r ≡ slot_of c client part → Awaits s.clients s.replies slot → reply_for r slot ≡ false
    unsent_other r slot mine a = ⊎_elim (λ fits. absurd (never (sym (same_slot r slot fits) ∙ mine))) (λ e. e) (cases_Bool (reply_for r slot))
      where
        go : Sent part.service client.number client → ⊥
        go (inl past) = omega arith
        go (inr now) = subst (SentIn part.service) is_open now.1 p part has refl is_unsent

        never : slot ≡ slot_of c client part → ⊥
        never same = go ((subst (Awaits s.clients s.replies) same a).sent client there)

    -- sent: a timeout for it
    quiet_timeout : (r : Reply) → reply_slot r ≡ slot_of c client part → Quiet s → QuietAmong (set s.clients c (then_client Waiting)) s.services s.requests (put_last 32 r s.replies)
    quiet_timeout r mine q =
        quiet_client c client (then_client Waiting) _ s there (sent_state client parts p part Waiting is_open has (λ e. cc))
        (λ slot a. omega (arith, rw (unsent_other r slot mine a) at (count_put_le reply_for slot 32 r s.replies))) q

    -- sent: a request for its service
    quiet_request : (r : Request) → request_slot r ≡ slot_of c client part → slice_get s.services part.service ≡ Some ready → Kept s → Quiet s → QuietAmong (set s.clients c (then_client Waiting)) (set s.services part.service given) (put_last 8 r s.requests) s.replies
    quiet_request r mine is_ready k q = record {
      asked = by_last (λ x. Awaits (set s.clients c (then_client Waiting)) s.replies (request_slot x)) 8 r s.requests (subst (Awaits (set s.clients c (then_client Waiting)) s.replies) (sym mine) new) changed.asked;
      held = changed.held;
    }
      where
        changed : QuietAmong (set s.clients c (then_client Waiting)) (set s.services part.service given) s.requests s.replies
        changed =
            quiet_phase part.service ready given _ _ _ _ is_ready (λ hold e. cc)
            (quiet_client c client (then_client Waiting) s.replies s there (sent_state client parts p part Waiting is_open has (λ e. cc)) (λ _ _. omega arith) q)

        -- no two parts are for one service
        now_sent : SentIn part.service (Some (set parts p (in_state Waiting part)))
        now_sent =
            by_place (λ _ x. x.service ≡ part.service → x.state ≡ Unsent → ⊥) parts p part (in_state Waiting part) has (λ _ e. cc)
            (λ d x other e same _. other ((k.parts c client parts there is_open).apart d p x part e has same))

        new : Awaits (set s.clients c (then_client Waiting)) s.replies (slot_of c client part)
        new = record {
          known = rw length-set (slice_get_within s.clients c client there);
          unanswered = unsent_none c p client parts part s there is_open has k is_unsent;
          sent = λ x e. by_place (λ d x. d ≡ c → Sent part.service client.number x) s.clients c client (then_client Waiting) there (λ _. inr (refl, now_sent)) (λ d x other _ same. absurd (other same)) c x e refl;
        }

    quiet_posted : Kept s → Quiet s → Quiet (posted (slot_of c client part) part.operations (with_state c p Waiting client parts part s))
    quiet_posted k q =
        by_posted (slot_of c client part) part.operations (with_state c p Waiting client parts part s) Quiet
        (quiet_timeout (reply_to (slot_of c client part) None) refl q)
        (λ is_ready. quiet_request (request_of (slot_of c client part) part.operations) refl is_ready k q)

-- a service works: what its request asked for, it holds
quiet_worked : (v : ℕ) (hold : Hold) (r : Request) (s : Site) → slice_get s.services v ≡ Some given → nth_fitting request_for v 0 s.requests ≡ Some r → hold.transaction.client ≡ r.client → hold.transaction.number ≡ r.number → Quiet s → QuietAmong s.clients (set s.services v (holding hold)) (without_nth request_for v 0 s.requests) s.replies
quiet_worked v hold r s there taken client number q = record {
  asked = λ i x e. let f = left_found request_for v 0 x s.requests i e in q.asked f.place x f.there;
  held = by_place (λ u x. (h : Hold) → x ≡ holding h → Awaits s.clients s.replies (held_slot u h)) s.services v given (holding hold) there
      (λ h e. let same : hold ≡ h = cc in subst (λ x. Awaits s.clients s.replies (held_slot v x)) same mine)
      (λ u x _ e. q.held u x e);
}
  where
    service : r.service ≡ v
    service = eqb-true r.service v (taken_fits request_for v 0 r s.requests taken)

    mine : Awaits s.clients s.replies (held_slot v hold)
    mine =
        let f = taken_found request_for v 0 r s.requests taken in
        let slot : request_slot r ≡ held_slot v hold = λ i. record { client = sym client i; service = service i; number = sym number i } in
        subst (Awaits s.clients s.replies) slot (q.asked f.place r f.there)

-- a service answers, and then holds no more: the parts of the others have no message by it
quiet_message : (v : ℕ) (hold : Hold) (r : Reply) (s : Site) → slice_get s.services v ≡ Some (holding hold) → r.service ≡ v → Kept s → Quiet s → QuietAmong s.clients (set s.services v (promised hold)) s.requests (put_last 32 r s.replies)
quiet_message v hold r s there mine k q = record {
  asked = λ i x e. other (request_slot x) (λ same. let given_too : slice_get s.services v ≡ Some given = subst (λ u. slice_get s.services u ≡ Some given) same ((bounds s k).asked i x e) in cc) (q.asked i x e);
  held = by_place (λ u x. (h : Hold) → x ≡ holding h → Awaits s.clients (put_last 32 r s.replies) (held_slot u h)) s.services v (holding hold) (promised hold) there
      (λ h e. cc)
      (λ u x apart e h is. other (held_slot u h) apart (q.held u x e h is));
}
  where
    other : (slot : Slot) → slot.service ≢ v → Awaits s.clients s.replies slot → Awaits s.clients (put_last 32 r s.replies) slot
    other slot apart a = record {
      known = a.known;
      unanswered =
          let unfit : reply_for r slot ≡ false = grind (arith, nat_tests) in
          omega (arith, rw unfit at (count_put_le reply_for slot 32 r s.replies), a.unanswered);
      sent = a.sent;
    }

quiet_ended : (v : ℕ) (hold : Hold) (commits : Bool) (s : Site) → slice_get s.services v ≡ Some (promised hold) → Quiet s → After (ended v commits s)
quiet_ended v hold true s there q = quiet_phase v (promised hold) down _ _ _ _ there (λ h e. cc) q
quiet_ended v hold false s there q = quiet_phase v (promised hold) down _ _ _ _ there (λ h e. cc) q

pub quiet_call : (call : Call) (s : Site) → Kept s → Quiet s → Quiet (perform call s).next
quiet_call (ORDER c script) s k q =
    by_order s After (λ _ _. q) c script (λ client parts there idle _. quiet_client c client _ s.replies s there (sent_ordered client _ idle) (λ _ _. omega arith) q)
quiet_call (SEND c p) s k q = by_send s After (λ _ _. q) c p (λ client parts part there is_open has is_unsent. quiet_posted c p client parts part s there is_open has is_unsent k q)
quiet_call (GET c p room) s k q =
    by_get s After (λ _ _. q) c p room (λ client parts part there is_open has _. quiet_answered c p client parts part s there is_open has TimedOut (λ e. cc) q)
    (λ client parts part there is_open has _ _ _ _ _. quiet_answered c p client parts part s there is_open has Replied (λ e. cc) q)
quiet_call (EXPIRE c p) s k q =
    by_expire s After (λ _ _. q) c p (λ client parts part there is_open has _. quiet_answered c p client parts part s there is_open has TimedOut (λ e. cc) q)
quiet_call (DECIDE c wish) s k q =
    by_decide s After (λ _ _. q) c wish (λ client parts there _ _. quiet_client c client _ s.replies s there (sent_decided client) (λ _ _. omega arith) q)
quiet_call (READY v) s k q = by_ready s After (λ _ _. q) v (λ there. quiet_phase v down ready _ _ _ _ there (λ h e. cc) q)
quiet_call (DOWN v) s k q = by_down s After (λ _ _. q) v (λ there. quiet_phase v ready down _ _ _ _ there (λ h e. cc) q)
quiet_call (WORK v) s k q = by_work s After (λ _ _. q) v (λ request there waits. quiet_worked v _ request s there waits refl refl q)
quiet_call (REPLY v passed) s k q =
    by_reply s After (λ _ _. q) v passed (λ hold there.
    by_replied (held_slot v hold) _ s (λ t. Quiet (with_service v (promised hold) t)) (quiet_phase v (holding hold) (promised hold) _ _ _ _ there (λ h e. cc) q)
    (λ _ _. quiet_message v hold (reply_to (held_slot v hold) (reply_looks hold.vote passed hold.looks)) s there refl k q))
quiet_call (HEAR v n) s k q =
    by_hear s After (λ _ _. q) v n (λ _ _. q)
    (λ hold d _ there _. quiet_ended v hold d.commits (with_decisions (without_nth decision_for v n s.decisions) s) there q)

pub quiet_played : (calls : List Call) (s : Site) → Kept s → Quiet s → Quiet (play calls s).site
quiet_played = played_too Quiet quiet_call
